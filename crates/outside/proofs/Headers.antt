-- The name of the header beside raw data is a name.
use Rattle.std.proofs.Common.{◌≡◌, ℕ, ◌+◌, ◌-◌, ◌<◌, ◌≤◌, Bool, true, false, cond, not, ◌||◌, List, [], ◌∷◌, ◌++◌, length, take, drop, map, refl, ap, ap₂, sym, ◌∙◌, ⊎_elim, arith, length-append, append-nil, append_assoc, Option, Some, None, option_and_then, bytes_eq, codes, true≢false, eqb-true}
use Rattle.std.specs.Prelude.{◌==◌}
use Rattle.std.specs.List.{list_all}
use Rattle.std.specs.Option.{unwrap_or}
use Rattle.std.specs.Char.{to_ascii_lowercase}
use Rattle.std.proofs.lemmas.List.{take_at, drop-append-le, append_cancel_right, length-map}
use Rattle.std.proofs.lemmas.Bool.{and_parts}
use Rattle.std.proofs.lemmas.Slice.Eq.{bytes_eq-Decides}
use Rattle.std.proofs.lemmas.Grind.{flat_map-append}
use Rattle.lists_and_answers.specs.Texts.{same_letters}
use Rattle.outside.specs.Paths.{with_part, kept_parts, between_slashes, joined, is_absolute, is_kept, path_of_parts, normal, IsName}
use Rattle.outside.specs.Names.{extensions, extension_in, extension_of_ending, extension_of, ending_of, is_raw, has_no_lower, header_ending, with_header_ending, header_of}
use Rattle.outside.specs.declared.name.Ext.{Ext}
use Rattle.outside.proofs.PathParts.{kept_parts-push}
use Rattle.outside.proofs.Normal.{Free, step, between_slashes-one, between_slashes-append}
use Rattle.outside.proofs.Cuts.{IsFront, Ending, ending-is, free-left, free-append}

-- a part that is always taken as it stands
record Plain (part : List ℕ) : Type 0 where
  pub free : Free 47 part
  pub kept : (absolute : Bool) (before : List (List ℕ)) → with_part absolute before part ≡ before ++ part ∷ []

other-length : (a b : List ℕ) (r : Bool) → bytes_eq a b ≡ r → length b < length a → r ≡ false
other-length a b true e h = absurd (omega (arith, ap length ((bytes_eq-Decides a b).0 e)))
other-length a b false e h = refl

plain-long : (part : List ℕ) → Free 47 part → 3 ≤ length part → Plain part
plain-long part free long = record { free = free; kept = kept }
  where
    empty : bytes_eq part [] ≡ false
    empty = other-length part [] (bytes_eq part []) refl (omega arith)

    point : bytes_eq part (codes ".") ≡ false
    point = other-length part (codes ".") (bytes_eq part (codes ".")) refl (omega arith)

    points : bytes_eq part (codes "..") ≡ false
    points = other-length part (codes "..") (bytes_eq part (codes "..")) refl (omega arith)

    kept : (absolute : Bool) (before : List (List ℕ)) → with_part absolute before part ≡ before ++ part ∷ []
    kept absolute before =
        ap₂ (λ d p. step d p (is_kept before) (not absolute) before part) (ap₂ (λ a b. a || b) empty point) (ap not points)

-- what stands before the last part of a path that is spelled
abbrev front_of : Bool → List (List ℕ) → List ℕ
front_of absolute parts = cond absolute (joined parts ++ 47 ∷ []) (drop 1 (joined parts ++ 47 ∷ []))

joined-last : (ps : List (List ℕ)) (p : List ℕ) → joined (ps ++ p ∷ []) ≡ (joined ps ++ 47 ∷ []) ++ p
joined-last ps p =
    flat_map-append (λ x. 47 ∷ x) ps (p ∷ [])
    ∙ ap (λ (t : List ℕ). joined ps ++ 47 ∷ t) (append-nil p)
    ∙ sym (append_assoc (joined ps) (47 ∷ []) p)

path_of_parts-some : (absolute : Bool) (ps : List (List ℕ)) (p : List ℕ) → path_of_parts absolute (ps ++ p ∷ []) ≡ cond absolute (joined (ps ++ p ∷ [])) (drop 1 (joined (ps ++ p ∷ [])))
path_of_parts-some absolute [] p = refl
path_of_parts-some absolute (q ∷ qs) p = refl

path_of_parts-last : (absolute : Bool) (ps : List (List ℕ)) (p : List ℕ) → path_of_parts absolute (ps ++ p ∷ []) ≡ front_of absolute ps ++ p
path_of_parts-last true ps p = path_of_parts-some true ps p ∙ joined-last ps p
path_of_parts-last false ps p =
    path_of_parts-some false ps p
    ∙ ap (drop 1) (joined-last ps p)
    ∙ drop-append-le 1 (joined ps ++ 47 ∷ []) p (omega (arith, length-append (joined ps) (47 ∷ [])))

-- a path with a folder and a plain last part
front : List ℕ → List ℕ
front folder = front_of (is_absolute (folder ++ 47 ∷ [])) (kept_parts (is_absolute (folder ++ 47 ∷ [])) [] (between_slashes folder))

absolute-folder : (folder last : List ℕ) → is_absolute (folder ++ 47 ∷ last) ≡ is_absolute (folder ++ 47 ∷ [])
absolute-folder [] last = refl
absolute-folder (b ∷ bs) last = refl

parts-last : (absolute : Bool) (folder last : List ℕ) → Plain last → kept_parts absolute [] (between_slashes (folder ++ 47 ∷ last)) ≡ kept_parts absolute [] (between_slashes folder) ++ last ∷ []
parts-last absolute folder last plain =
    ap (kept_parts absolute []) (between_slashes-append folder last ∙ ap (λ (t : List (List ℕ)). between_slashes folder ++ t) (between_slashes-one last plain.free))
    ∙ kept_parts-push absolute [] (between_slashes folder) last
    ∙ plain.kept absolute (kept_parts absolute [] (between_slashes folder))

normal-last : (folder last : List ℕ) → Plain last → normal (folder ++ 47 ∷ last) ≡ front folder ++ last
unfolding normal front
normal-last folder last plain =
    let a = is_absolute (folder ++ 47 ∷ []) in
    ap (λ r. path_of_parts r (kept_parts r [] (between_slashes (folder ++ 47 ∷ last)))) (absolute-folder folder last)
    ∙ ap (path_of_parts a) (parts-last a folder last plain)
    ∙ path_of_parts-last a (kept_parts a [] (between_slashes folder)) last

relative-free : (last : List ℕ) → Free 47 last → is_absolute last ≡ false
relative-free [] f = refl
relative-free (b ∷ bs) f = f.0

normal-alone : (last : List ℕ) → Plain last → normal last ≡ last
unfolding normal
normal-alone last plain =
    ap (λ r. path_of_parts r (kept_parts r [] (between_slashes last))) (relative-free last plain.free)
    ∙ ap (λ (t : List (List ℕ)). path_of_parts false (kept_parts false [] t)) (between_slashes-one last plain.free)
    ∙ ap (path_of_parts false) (plain.kept false [])
    ∙ append-nil last

-- another plain last part in a normal path leaves it normal
replaced : (fore last other : List ℕ) → IsFront fore → Plain last → Plain other → normal (fore ++ last) ≡ fore ++ last → normal (fore ++ other) ≡ fore ++ other
replaced fore last other is plain new e = ⊎_elim
    (λ (none : fore ≡ []). ap (λ (t : List ℕ). normal (t ++ other)) none ∙ normal-alone other new ∙ ap (λ (t : List ℕ). t ++ other) (sym none))
    (λ (some : (folder : List ℕ) × (fore ≡ folder ++ 47 ∷ [])).
    let spell = λ (t : List ℕ). ap (λ (f : List ℕ). f ++ t) some.1 ∙ append_assoc some.0 (47 ∷ []) t in
    let same : front some.0 ≡ fore = append_cancel_right (front some.0) fore last (sym (normal-last some.0 last plain) ∙ ap normal (sym (spell last)) ∙ e) in
    ap normal (spell other) ∙ normal-last some.0 other new ∙ ap (λ (f : List ℕ). f ++ other) same)
    is

-- the endings of the extensions have three bytes

abbrev has_threes : List (List ℕ × Ext) → Bool
has_threes ks = list_all (λ k. length k.0 == 3) ks

same-length : (a b : List ℕ) → same_letters a b ≡ true → length a ≡ length b
same-length a b e =
    sym (length-map a to_ascii_lowercase)
    ∙ ap length ((bytes_eq-Decides (map to_ascii_lowercase a) (map to_ascii_lowercase b)).0 e)
    ∙ length-map b to_ascii_lowercase

three-in : (ks : List (List ℕ × Ext)) (ending : List ℕ) → has_threes ks ≡ true → is_raw (extension_in ks ending) ≡ true → length ending ≡ 3
three-in [] ending threes raw = absurd (true≢false (sym raw))
three-in (k ∷ ks) ending threes raw = go (three-in ks ending (and_parts (length k.0 == 3) (has_threes ks) threes).1) (same_letters ending k.0) refl raw
  where
    go : (is_raw (extension_in ks ending) ≡ true → length ending ≡ 3) → (r : Bool) → same_letters ending k.0 ≡ r → is_raw (cond r (Some k.1) (extension_in ks ending)) ≡ true → length ending ≡ 3
    go rest true e h = same-length ending k.0 e ∙ eqb-true (length k.0) 3 (and_parts (length k.0 == 3) (has_threes ks) threes).0
    go rest false e h = rest h

three : (ending : List ℕ) → is_raw (extension_of_ending ending) ≡ true → length ending ≡ 3
unfolding extension_of_ending
three ending raw = three-in extensions ending refl raw

record HeaderEnding (ending : List ℕ) : Type 0 where
  pub long : length ending ≡ 3
  pub free : Free 47 ending

header-ending : (r : Bool) → HeaderEnding (cond r (codes "HDR") (codes "hdr"))
header-ending true = record { long = refl; free = (refl, (refl, (refl, tt))) }
header-ending false = record { long = refl; free = (refl, (refl, (refl, tt))) }

header-name : (name ending new : List ℕ) → Ending name ending → length ending ≡ 3 → HeaderEnding new → IsName name → IsName (take (length name - length ending) name ++ new)
header-name name ending new w long h n =
    let fore = w.front ++ (w.stem ++ 46 ∷ []) in
    let whole : name ≡ fore ++ ending =
    w.is ∙ ap (λ (t : List ℕ). w.front ++ t) (sym (append_assoc w.stem (46 ∷ []) ending)) ∙ sym (append_assoc w.front (w.stem ++ 46 ∷ []) ending) in
    let size : length name ≡ length fore + length ending = ap length whole ∙ length-append fore ending in
    let cut : take (length name - length ending) name ≡ fore =
    ap (take (length name - length ending)) whole ∙ take_at fore ending (length name - length ending) (omega arith) in
    let back : take (length name - length ending) name ++ new ≡ w.front ++ (w.stem ++ 46 ∷ new) =
    ap (λ (t : List ℕ). t ++ new) cut ∙ append_assoc w.front (w.stem ++ 46 ∷ []) new ∙ ap (λ (t : List ℕ). w.front ++ t) (append_assoc w.stem (46 ∷ []) new) in
    let plain : Plain (w.stem ++ 46 ∷ ending) = plain-long (w.stem ++ 46 ∷ ending) w.free (omega (arith, length-append w.stem (46 ∷ ending))) in
    let fresh : Plain (w.stem ++ 46 ∷ new) =
    plain-long (w.stem ++ 46 ∷ new) (free-append 47 w.stem (46 ∷ new) (free-left 47 w.stem (46 ∷ ending) w.free) (refl, h.free)) (omega (arith, length-append w.stem (46 ∷ new), h.long)) in
    let normal_new : normal (w.front ++ (w.stem ++ 46 ∷ new)) ≡ w.front ++ (w.stem ++ 46 ∷ new) =
    replaced w.front (w.stem ++ 46 ∷ ending) (w.stem ++ 46 ∷ new) w.front_is plain fresh (ap normal (sym w.is) ∙ n.is_normal ∙ w.is) in
    let same : length (take (length name - length ending) name ++ new) ≡ length name =
    ap (λ (t : List ℕ). length (t ++ new)) cut ∙ length-append fore new ∙ omega (arith, h.long) in
    record { is_normal = ap normal back ∙ normal_new ∙ sym back; some = omega (arith, same, n.some); fits = omega (arith, same, n.fits) }

header-raw : (name : List ℕ) (r : Option (List ℕ)) → ending_of name ≡ r → is_raw (option_and_then extension_of_ending r) ≡ true → IsName name → IsName (with_header_ending name (unwrap_or r []))
header-raw name None e raw n = absurd (true≢false (sym raw))
header-raw name (Some ending) e raw n = header-name name ending (header_ending ending) (ending-is name ending e) (three ending raw) (header-ending (has_no_lower ending)) n

pub header_is_name : (name : List ℕ) → is_raw (extension_of name) ≡ true → IsName name → IsName (header_of name)
unfolding extension_of header_of
header_is_name name raw n = header-raw name (ending_of name) refl raw n

-- from what the steps of its making say
pub header_from : (name whole stem ending last text new : List ℕ) → whole ≡ name → ending ≡ unwrap_or (ending_of whole) [] → stem ≡ take (length whole - length (unwrap_or (ending_of whole) [])) whole
    → text ≡ stem → last ≡ header_ending ending → new ≡ text ++ last → new ≡ header_of name
unfolding header_of
header_from name whole stem ending last text new e f g h i j =
    j ∙ ap₂ (λ a b. a ++ b) (h ∙ g) (i ∙ ap header_ending f) ∙ ap (λ w. with_header_ending w (unwrap_or (ending_of w) [])) e
