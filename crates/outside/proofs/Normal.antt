-- The normal form of a path is its own normal form, is never empty, and is never longer than the path.
use Rattle.std.proofs.Common.{◌≡◌, ℕ, zero, suc, ◌+◌, ◌-◌, ◌<◌, ◌≤◌, Bool, true, false, cond, not, ◌||◌, List, [], ◌∷◌, ◌++◌, length, take, drop, refl, ap, sym, subst, ◌∙◌, append-nil, arith, length-append, length-take, ⊎_elim, bytes_eq, codes, true≢false, take-append-drop}
use Rattle.std.specs.Prelude.{◌==◌, if◌then◌else◌}
use Rattle.std.proofs.lemmas.List.{take_all, take-take, take-append-le}
use Rattle.std.proofs.lemmas.List.Splits.{slice_split-cons_yes, slice_split-cons_no}
use Rattle.std.proofs.lemmas.Bool.{cases_lt}
use Rattle.std.proofs.lemmas.Slice.Eq.{bytes_eq-Decides}
use Rattle.std.proofs.lemmas.Grind.{flat_map-append}
use Rattle.std.specs.List.{onto_first}
use Rattle.outside.specs.Paths.{with_part, kept_parts, between_slashes, joined, is_absolute, is_kept, path_of_parts, normal, IsName}
use Rattle.outside.proofs.PathParts.{kept_parts-push}

-- no byte is c
abbrev pub Free : ℕ → List ℕ → Type 0
Free c [] = Unit {0}
Free c (b ∷ bs) = ((b == c) ≡ false) × Free c bs

-- no part has a slash
abbrev pub AllFree : List (List ℕ) → Type 0
AllFree [] = Unit {0}
AllFree (p ∷ ps) = Free 47 p × AllFree ps

-- a part of a normal path
abbrev IsPart : List ℕ → Type 0
IsPart [] = ⊥
IsPart (b ∷ bs) = Free 47 (b ∷ bs)

abbrev AreParts : List (List ℕ) → Type 0
AreParts [] = Unit {0}
AreParts (p ∷ ps) = IsPart p × AreParts ps

free-part : (p : List ℕ) → IsPart p → Free 47 p
free-part [] s = tt
free-part (b ∷ bs) s = s

parts-append : (ps qs : List (List ℕ)) → AreParts ps → AreParts qs → AreParts (ps ++ qs)
parts-append [] qs s t = t
parts-append (p ∷ ps) qs s t = (s.0, parts-append ps qs s.1 t)

parts-take : (n : ℕ) (ps : List (List ℕ)) → AreParts ps → AreParts (take n ps)
parts-take zero ps s = tt
parts-take (suc n) [] s = tt
parts-take (suc n) (p ∷ ps) s = (s.0, parts-take n ps s.1)

-- the pieces between slashes have none

free-onto : (b : ℕ) (ps : List (List ℕ)) → (b == 47) ≡ false → AllFree ps → AllFree (onto_first b ps)
free-onto b [] e s = ((e, tt), tt)
free-onto b (p ∷ ps) e s = ((e, s.0), s.1)

free-cond : (b : ℕ) (ps : List (List ℕ)) (r : Bool) → (b == 47) ≡ r → AllFree ps → AllFree (cond r ([] ∷ ps) (onto_first b ps))
free-cond b ps true e s = (tt, s)
free-cond b ps false e s = free-onto b ps e s

pub between_slashes-free : (text : List ℕ) → AllFree (between_slashes text)
between_slashes-free [] = (tt, tt)
between_slashes-free (b ∷ bs) = free-cond b (between_slashes bs) (b == 47) refl (between_slashes-free bs)

-- pieces of texts that are put together

pub between_slashes-one : (p : List ℕ) → Free 47 p → between_slashes p ≡ p ∷ []
between_slashes-one [] s = refl
between_slashes-one (b ∷ bs) s = slice_split-cons_no (λ x. x == 47) b bs s.0 ∙ ap (onto_first b) (between_slashes-one bs s.1)

onto-append : (b : ℕ) (ps qs : List (List ℕ)) → 0 < length ps → onto_first b (ps ++ qs) ≡ onto_first b ps ++ qs
onto-append b [] qs h = absurd (omega arith)
onto-append b (p ∷ ps) qs h = refl

cond-append : (b : ℕ) (ps qs : List (List ℕ)) (r : Bool) → 0 < length ps → cond r ([] ∷ (ps ++ qs)) (onto_first b (ps ++ qs)) ≡ cond r ([] ∷ ps) (onto_first b ps) ++ qs
cond-append b ps qs true h = refl
cond-append b ps qs false h = onto-append b ps qs h

some-cond : (b : ℕ) (ps : List (List ℕ)) (r : Bool) → 0 < length (cond r ([] ∷ ps) (onto_first b ps))
some-cond b ps true = omega arith
some-cond b [] false = omega arith
some-cond b (p ∷ ps) false = omega arith

between_slashes-some : (text : List ℕ) → 0 < length (between_slashes text)
between_slashes-some [] = omega arith
between_slashes-some (b ∷ bs) = some-cond b (between_slashes bs) (b == 47)

pub between_slashes-append : (xs ys : List ℕ) → between_slashes (xs ++ 47 ∷ ys) ≡ between_slashes xs ++ between_slashes ys
between_slashes-append [] ys = refl
between_slashes-append (b ∷ bs) ys =
    ap (λ (ps : List (List ℕ)). cond (b == 47) ([] ∷ ps) (onto_first b ps)) (between_slashes-append bs ys)
    ∙ cond-append b (between_slashes bs) (between_slashes ys) (b == 47) (between_slashes-some bs)

-- what one part does, by the four tests
abbrev pub step : Bool → Bool → Bool → Bool → List (List ℕ) → List ℕ → List (List ℕ)
step dropped plain kept relative before part = if dropped then before
    else if plain then before ++ part ∷ []
    else if kept then take (length before - 1) before
    else if relative then before ++ codes ".." ∷ [] else before

-- each first part of these parts stays as it is
record Stable (absolute : Bool) (parts : List (List ℕ)) : Type 0 where
  pub first : (k : ℕ) → kept_parts absolute [] (take k parts) ≡ take k parts
  pub are : AreParts parts

stable-none : (absolute : Bool) → Stable absolute []
stable-none absolute = record { first = none; are = tt }
  where
    none : (k : ℕ) → kept_parts absolute [] (take k []) ≡ take k []
    none zero = refl
    none (suc k) = refl

stable-whole : (absolute : Bool) (before : List (List ℕ)) → Stable absolute before → kept_parts absolute [] before ≡ before
stable-whole absolute before s =
    let all : take (length before) before ≡ before = take_all (length before) before (omega arith) in
    ap (kept_parts absolute []) (sym all) ∙ s.first (length before) ∙ all

stable-push : (absolute : Bool) (before : List (List ℕ)) (part : List ℕ) → with_part absolute before part ≡ before ++ part ∷ [] → IsPart part → Stable absolute before → Stable absolute (before ++ part ∷ [])
stable-push absolute before part e is s = record { first = first; are = parts-append before (part ∷ []) s.are (is, tt) }
  where
    whole : kept_parts absolute [] (before ++ part ∷ []) ≡ before ++ part ∷ []
    whole = kept_parts-push absolute [] before part ∙ ap (λ ps. with_part absolute ps part) (stable-whole absolute before s) ∙ e

    first : (k : ℕ) → kept_parts absolute [] (take k (before ++ part ∷ [])) ≡ take k (before ++ part ∷ [])
    first k = ⊎_elim
        (λ (h : length before < k).
        let all : take k (before ++ part ∷ []) ≡ before ++ part ∷ [] = take_all k (before ++ part ∷ []) (omega (arith, length-append before (part ∷ []))) in
        ap (kept_parts absolute []) all ∙ whole ∙ sym all)
        (λ (h : k ≤ length before).
        let cut : take k (before ++ part ∷ []) ≡ take k before = take-append-le k before (part ∷ []) h in
        ap (kept_parts absolute []) cut ∙ s.first k ∙ sym cut)
        (cases_lt (length before) k)

stable-take : (absolute : Bool) (before : List (List ℕ)) (n : ℕ) → Stable absolute before → Stable absolute (take n before)
stable-take absolute before n s = record { first = first; are = parts-take n before s.are }
  where
    first : (k : ℕ) → kept_parts absolute [] (take k (take n before)) ≡ take k (take n before)
    first k = ⊎_elim
        (λ (h : n < k).
        let all : take k (take n before) ≡ take n before = take_all k (take n before) (omega (arith, length-take n before)) in
        ap (kept_parts absolute []) all ∙ s.first n ∙ sym all)
        (λ (h : k ≤ n).
        let cut : take k (take n before) ≡ take k before = take-take k n before h in
        ap (kept_parts absolute []) cut ∙ s.first k ∙ sym cut)
        (cases_lt n k)

-- a part that isn't dropped has a byte
some-part : (part : List ℕ) → (bytes_eq part [] || bytes_eq part (codes ".")) ≡ false → Free 47 part → IsPart part
some-part [] e s = absurd (true≢false e)
some-part (b ∷ bs) e s = s

stable-step : (absolute : Bool) (before : List (List ℕ)) (part : List ℕ) (dropped plain kept relative : Bool)
    → with_part absolute before part ≡ step dropped plain kept relative before part
    → with_part absolute before (codes "..") ≡ step false false kept relative before (codes "..")
    → (dropped ≡ false → IsPart part)
    → Stable absolute before → Stable absolute (step dropped plain kept relative before part)
stable-step absolute before part true plain kept relative e f is s = s
stable-step absolute before part false true kept relative e f is s = stable-push absolute before part e (is refl) s
stable-step absolute before part false false true relative e f is s = stable-take absolute before (length before - 1) s
stable-step absolute before part false false false true e f is s = stable-push absolute before (codes "..") f (refl, (refl, tt)) s
stable-step absolute before part false false false false e f is s = s

stable-with : (absolute : Bool) (before : List (List ℕ)) (part : List ℕ) → Free 47 part → Stable absolute before → Stable absolute (with_part absolute before part)
stable-with absolute before part free s =
    stable-step absolute before part (bytes_eq part [] || bytes_eq part (codes ".")) (not (bytes_eq part (codes ".."))) (is_kept before) (not absolute) refl refl (λ e. some-part part e free) s

stable-all : (absolute : Bool) (before parts : List (List ℕ)) → AllFree parts → Stable absolute before → Stable absolute (kept_parts absolute before parts)
stable-all absolute before [] free s = s
stable-all absolute before (p ∷ ps) free s = stable-all absolute (with_part absolute before p) ps free.1 (stable-with absolute before p free.0 s)

-- joined and cut again

between_slashes-joined : (p : List ℕ) (ps : List (List ℕ)) → IsPart p → AreParts ps → between_slashes (p ++ joined ps) ≡ p ∷ ps
between_slashes-joined p [] is are = ap between_slashes (append-nil p) ∙ between_slashes-one p (free-part p is)
between_slashes-joined p (q ∷ qs) is are =
    between_slashes-append p (q ++ joined qs)
    ∙ ap (λ (x : List (List ℕ)). x ++ between_slashes (q ++ joined qs)) (between_slashes-one p (free-part p is))
    ∙ ap (λ x. p ∷ x) (between_slashes-joined q qs are.0 are.1)

normal-absolute : (p : List ℕ) (ps : List (List ℕ)) → Stable true (p ∷ ps) → normal (joined (p ∷ ps)) ≡ joined (p ∷ ps)
unfolding normal
normal-absolute p ps s =
    ap (λ (x : List (List ℕ)). path_of_parts true (kept_parts true [] ([] ∷ x))) (between_slashes-joined p ps s.are.0 s.are.1)
    ∙ ap (path_of_parts true) (stable-whole true (p ∷ ps) s)

normal-relative : (p : List ℕ) (ps : List (List ℕ)) → Stable false (p ∷ ps) → normal (p ++ joined ps) ≡ p ++ joined ps
unfolding normal
normal-relative [] ps s = absurd s.are.0
normal-relative (b ∷ bs) ps s =
    ap (λ r. path_of_parts r (kept_parts r [] (between_slashes ((b ∷ bs) ++ joined ps)))) s.are.0.0
    ∙ ap (λ (x : List (List ℕ)). path_of_parts false (kept_parts false [] x)) (between_slashes-joined (b ∷ bs) ps s.are.0 s.are.1)
    ∙ ap (path_of_parts false) (stable-whole false ((b ∷ bs) ∷ ps) s)

normal-path_of_parts : (absolute : Bool) (parts : List (List ℕ)) → Stable absolute parts → normal (path_of_parts absolute parts) ≡ path_of_parts absolute parts
unfolding normal
normal-path_of_parts true [] s = refl
normal-path_of_parts false [] s = refl
normal-path_of_parts true (p ∷ ps) s = normal-absolute p ps s
normal-path_of_parts false (p ∷ ps) s = normal-relative p ps s

pub normal-normal : (text : List ℕ) → normal (normal text) ≡ normal text
unfolding normal
normal-normal text = normal-path_of_parts (is_absolute text) (kept_parts (is_absolute text) [] (between_slashes text)) (stable-all (is_absolute text) [] (between_slashes text) (between_slashes-free text) (stable-none (is_absolute text)))

-- lengths

joined-append : (ps qs : List (List ℕ)) → length (joined (ps ++ qs)) ≡ length (joined ps) + length (joined qs)
joined-append ps qs = ap length (flat_map-append (λ p. 47 ∷ p) ps qs) ∙ length-append (joined ps) (joined qs)

joined-one : (p : List ℕ) → length (joined (p ∷ [])) ≡ 1 + length p
joined-one p = ap (λ (x : List ℕ). length (47 ∷ x)) (append-nil p) ∙ omega arith

joined-push : (ps : List (List ℕ)) (p : List ℕ) → length (joined (ps ++ p ∷ [])) ≡ length (joined ps) + (1 + length p)
joined-push ps p = joined-append ps (p ∷ []) ∙ ap (λ n. length (joined ps) + n) (joined-one p)

joined-take : (n : ℕ) (ps : List (List ℕ)) → length (joined (take n ps)) ≤ length (joined ps)
joined-take n ps =
    let whole : length (joined (take n ps ++ drop n ps)) ≡ length (joined ps) = ap (λ (x : List (List ℕ)). length (joined x)) (take-append-drop n ps) in
    omega (arith, whole, joined-append (take n ps) (drop n ps))

shorter-step : (before : List (List ℕ)) (part : List ℕ) (dropped plain kept relative : Bool) → (plain ≡ false → length part ≡ 2)
    → length (joined (step dropped plain kept relative before part)) ≤ length (joined before) + (1 + length part)
shorter-step before part true plain kept relative two = omega arith
shorter-step before part false true kept relative two = omega (arith, joined-push before part)
shorter-step before part false false true relative two = omega (arith, joined-take (length before - 1) before)
shorter-step before part false false false true two = omega (arith, joined-push before (codes ".."), two refl)
shorter-step before part false false false false two = omega arith

two-points : (part : List ℕ) (r : Bool) → bytes_eq part (codes "..") ≡ r → not r ≡ false → length part ≡ 2
two-points part true e n = ap length ((bytes_eq-Decides part (codes "..")).0 e)
two-points part false e n = absurd (true≢false n)

shorter-with : (absolute : Bool) (before : List (List ℕ)) (part : List ℕ) → length (joined (with_part absolute before part)) ≤ length (joined before) + (1 + length part)
shorter-with absolute before part =
    shorter-step before part (bytes_eq part [] || bytes_eq part (codes ".")) (not (bytes_eq part (codes ".."))) (is_kept before) (not absolute) (two-points part (bytes_eq part (codes "..")) refl)

joined-first : (p : List ℕ) (ps : List (List ℕ)) → length (joined (p ∷ ps)) ≡ 1 + length p + length (joined ps)
joined-first p ps = ap suc (length-append p (joined ps)) ∙ omega arith

shorter-all : (absolute : Bool) (before parts : List (List ℕ)) → length (joined (kept_parts absolute before parts)) ≤ length (joined before) + length (joined parts)
shorter-all absolute before [] = omega arith
shorter-all absolute before (p ∷ ps) =
    let one = shorter-with absolute before p in
    let rest = shorter-all absolute (with_part absolute before p) ps in
    omega (arith, one, rest, joined-first p ps)

joined-onto : (b : ℕ) (ps : List (List ℕ)) (n : ℕ) → length (joined ps) ≡ n + 1 → length (joined (onto_first b ps)) ≡ suc n + 1
joined-onto b [] n e = absurd (omega arith)
joined-onto b (p ∷ ps) n e = omega (arith, joined-first p ps, joined-first (b ∷ p) ps)

joined-cond : (b : ℕ) (ps : List (List ℕ)) (n : ℕ) (r : Bool) → length (joined ps) ≡ n + 1 → length (joined (cond r ([] ∷ ps) (onto_first b ps))) ≡ suc n + 1
joined-cond b ps n true e = omega (arith, joined-first [] ps)
joined-cond b ps n false e = joined-onto b ps n e

joined-between_slashes : (text : List ℕ) → length (joined (between_slashes text)) ≡ length text + 1
joined-between_slashes [] = refl
joined-between_slashes (b ∷ bs) = joined-cond b (between_slashes bs) (length bs) (b == 47) (joined-between_slashes bs)

-- what a spelled path of these parts needs at most
record Bounds (text : List ℕ) (n : ℕ) : Type 0 where
  pub some : 1 ≤ length text
  pub most : length text ≤ n

bounds-absolute : (parts : List (List ℕ)) (n : ℕ) → 1 ≤ n → length (joined parts) ≤ n → Bounds (path_of_parts true parts) n
bounds-absolute [] n h m = record { some = omega arith; most = omega arith }
bounds-absolute (p ∷ ps) n h m = record { some = omega (arith, joined-first p ps); most = m }

bounds-relative : (parts : List (List ℕ)) (n : ℕ) → AreParts parts → 1 ≤ n → length (joined parts) ≤ n + 1 → Bounds (path_of_parts false parts) n
bounds-relative [] n are h m = record { some = omega arith; most = omega arith }
bounds-relative ([] ∷ ps) n are h m = absurd are.0
bounds-relative ((b ∷ bs) ∷ ps) n are h m = record { some = omega arith; most = omega arith }

bounds-from : (text : List ℕ) (absolute : Bool) → 1 ≤ length text → is_absolute text ≡ absolute → Bounds (path_of_parts absolute (kept_parts absolute [] (between_slashes text))) (length text)
bounds-from [] absolute some e = absurd (omega arith)
bounds-from (b ∷ bs) true some e =
    let cut : between_slashes (b ∷ bs) ≡ [] ∷ between_slashes bs = slice_split-cons_yes (λ x. x == 47) b bs e in
    subst (λ (x : List (List ℕ)). Bounds (path_of_parts true (kept_parts true [] x)) (length (b ∷ bs))) (sym cut)
    (bounds-absolute (kept_parts true [] (between_slashes bs)) (length (b ∷ bs)) some (omega (arith, shorter-all true [] (between_slashes bs), joined-between_slashes bs)))
bounds-from (b ∷ bs) false some e =
    bounds-relative (kept_parts false [] (between_slashes (b ∷ bs))) (length (b ∷ bs))
    (stable-all false [] (between_slashes (b ∷ bs)) (between_slashes-free (b ∷ bs)) (stable-none false)).are
    some
    (omega (arith, shorter-all false [] (between_slashes (b ∷ bs)), joined-between_slashes (b ∷ bs)))

normal-bounds : (text : List ℕ) → 1 ≤ length text → Bounds (normal text) (length text)
unfolding normal
normal-bounds text some = bounds-from text (is_absolute text) some refl

pub normal-some : (text : List ℕ) → 1 ≤ length text → 1 ≤ length (normal text)
normal-some text some = (normal-bounds text some).some

pub normal-shorter : (text : List ℕ) → 1 ≤ length text → length (normal text) ≤ length text
normal-shorter text some = (normal-bounds text some).most

-- the normal form of a text within the bounds is a name
pub name_from : (text name : List ℕ) → name ≡ normal text → 1 ≤ length text → length text ≤ 4096 → IsName name
name_from text name e some fits = subst IsName (sym e) record { is_normal = normal-normal text; some = normal-some text some; fits = omega (arith, normal-shorter text some) }
