-- A text that is related to a folder resolves to the name that it came from.
use Rattle.std.proofs.Common.{◌≡◌, ◌≢◌, ℕ, ◌+◌, ◌<◌, Bool, true, false, cond, not, ◌&&◌, List, [], ◌∷◌, ◌++◌, length, drop, Option, Some, None, refl, ap, sym, subst, ◌∙◌, arith, length-append, Bor, option_map, MatchOption, eq-eqb, eqb-true}
use Rattle.std.specs.Prelude.{◌==◌}
use Rattle.std.specs.Str.Pattern.{FindsTextPrefix, FindsCharPrefix}
use Rattle.std.proofs.lemmas.Str.Pattern.{strip_prefix_char}
use Rattle.outside.specs.Names.{folder_part}
use Rattle.outside.specs.Paths.{normal, IsName, is_absolute, between_slashes, kept_parts, with_part, path_of_parts}
use Rattle.outside.proofs.Normal.{between_slashes-append, normal-shorter}
use Rattle.lists_and_answers.specs.Options.{◌>>=◌}
use Rattle.vrt_markup.specs.Items.{strip, begins, byte_at}
use Rattle.vrt_profile.specs.Values.{SourceValue}
use Rattle.vrt_profile.specs.Resolve.{in_folder, resolved_text, some_text, behind_folder, related_by, related_in, related}
use Rattle.vrt_markup.proofs.Shorter.{bind_some}

-- a front that is taken off
begins_front : (f r : List ℕ) → begins f (f ++ r) ≡ true
begins_front [] r = refl
begins_front (c ∷ cs) r = ap (λ b. b && begins cs (cs ++ r)) (eq-eqb c c refl) ∙ begins_front cs r

drop_front : (f r : List ℕ) → drop (length f) (f ++ r) ≡ r
drop_front [] r = refl
drop_front (c ∷ cs) r = drop_front cs r

pub strip_front : (f r : List ℕ) → strip f (f ++ r) ≡ Some r
strip_front f r = ap (λ b. cond b (Some (drop (length f) (f ++ r))) None) (begins_front f r) ∙ ap Some (drop_front f r)

front_by : (c d : ℕ) (cs ds : List ℕ) (b : Bool) → (d == c) ≡ b → (b && begins cs ds) ≡ true → (begins cs ds ≡ true → ds ≡ cs ++ drop (length cs) ds) → d ∷ ds ≡ (c ∷ cs) ++ drop (length cs) ds
front_by c d cs ds true e h more = ap (λ (x : ℕ). x ∷ ds) (eqb-true d c e) ∙ ap (λ (x : List ℕ). c ∷ x) (more h)
front_by c d cs ds false e h more = absurd cc

begun : (f t : List ℕ) → begins f t ≡ true → t ≡ f ++ drop (length f) t
begun [] t h = refl
begun (c ∷ cs) [] h = absurd cc
begun (c ∷ cs) (d ∷ ds) h = front_by c d cs ds (d == c) refl h (λ e. begun cs ds e)

none_by : (f t : List ℕ) (b : Bool) → begins f t ≡ b → ((rest : List ℕ) → t ≢ f ++ rest) → cond b (Some (drop (length f) t)) None ≡ None
none_by f t true e lacks = absurd (lacks (drop (length f) t) (begun f t e))
none_by f t false e lacks = refl

pub strip_none : (f t : List ℕ) → ((rest : List ℕ) → t ≢ f ++ rest) → strip f t ≡ None
strip_none f t lacks = none_by f t (begins f t) refl lacks

-- the clause of `strip_prefix` at a text
pub stripped : (f t : List ℕ) (r : Option (Bor (List ℕ))) → MatchOption r (FindsTextPrefix f t None) (λ x. (n : ℕ) × FindsTextPrefix f t (Some n) × (x.now ≡ drop n t) × (length x.now + n ≡ length t)) → option_map (λ p. p.now) r ≡ strip f t
stripped f t None h = sym (strip_none f t h)
stripped f t (Some x) h = ap Some h.2 ∙ sym (ap (strip f) h.1.1 ∙ strip_front f (drop h.0 t))

byte_none : (c d : ℕ) (ds : List ℕ) (b : Bool) → (d == c) ≡ b → ((rest : List ℕ) → d ∷ ds ≢ c ∷ rest) → cond b (Some ds) None ≡ None
byte_none c d ds true e lacks = absurd (lacks ds (ap (λ (x : ℕ). x ∷ ds) (eqb-true d c e)))
byte_none c d ds false e lacks = refl

byte_from : (c : ℕ) (t : List ℕ) (r : Option (Bor (List ℕ))) → MatchOption r ((rest : List ℕ) → t ≢ c ∷ rest) (λ x. t ≡ c ∷ x.now) → option_map (λ p. p.now) r ≡ byte_at c t
byte_from c [] None h = refl
byte_from c (d ∷ ds) None h = sym (byte_none c d ds (d == c) refl h)
byte_from c t (Some x) h = sym (ap (byte_at c) h ∙ ap (λ b. cond b (Some x.now) None) (eq-eqb c c refl))

-- the clause of `strip_prefix` at a character
pub byte_stripped : (c : ℕ) (t : List ℕ) (r : Option (Bor (List ℕ))) → MatchOption r (FindsCharPrefix c t None) (λ x. (n : ℕ) × FindsCharPrefix c t (Some n) × (x.now ≡ drop n t) × (length x.now + n ≡ length t)) → c < 128 → option_map (λ p. p.now) r ≡ byte_at c t
byte_stripped c t r h low = byte_from c t r (strip_prefix_char c t r h low)

-- two slashes beside each other are never in a normal path
past_empty : (absolute : Bool) (before ps qs : List (List ℕ)) → kept_parts absolute before (ps ++ [] ∷ qs) ≡ kept_parts absolute before (ps ++ qs)
past_empty absolute before [] qs = refl
past_empty absolute before (p ∷ ps) qs = past_empty absolute (with_part absolute before p) ps qs

absolute_front : (x y : List ℕ) → is_absolute (x ++ 47 ∷ 47 ∷ y) ≡ is_absolute (x ++ 47 ∷ y)
absolute_front [] y = refl
absolute_front (c ∷ cs) y = refl

pieces_two : (x y : List ℕ) → between_slashes (x ++ 47 ∷ 47 ∷ y) ≡ between_slashes x ++ [] ∷ between_slashes y
pieces_two x y = between_slashes-append x (47 ∷ y) ∙ ap (λ (p : List (List ℕ)). between_slashes x ++ p) (between_slashes-append [] y)

one_slash : (x y : List ℕ) → normal (x ++ 47 ∷ 47 ∷ y) ≡ normal (x ++ 47 ∷ y)
unfolding normal
one_slash x y =
    ap (λ (a : Bool). path_of_parts a (kept_parts a [] (between_slashes (x ++ 47 ∷ 47 ∷ y)))) (absolute_front x y)
    ∙ ap (λ (p : List (List ℕ)). path_of_parts (is_absolute (x ++ 47 ∷ y)) (kept_parts (is_absolute (x ++ 47 ∷ y)) [] p)) (pieces_two x y)
    ∙ ap (path_of_parts (is_absolute (x ++ 47 ∷ y))) (past_empty (is_absolute (x ++ 47 ∷ y)) [] (between_slashes x) (between_slashes y) ∙ sym (ap (kept_parts (is_absolute (x ++ 47 ∷ y)) []) (between_slashes-append x y)))

no_double : (x y : List ℕ) → normal (x ++ 47 ∷ 47 ∷ y) ≡ x ++ 47 ∷ 47 ∷ y → ⊥
no_double x y e =
    let short = normal-shorter (x ++ 47 ∷ y) (omega (arith, length-append x (47 ∷ y))) in
    let same : length (normal (x ++ 47 ∷ y)) ≡ length (x ++ 47 ∷ 47 ∷ y) = ap length (sym (one_slash x y) ∙ e) in
    omega (arith, short, same, length-append x (47 ∷ y), length-append x (47 ∷ 47 ∷ y))

-- what stands behind the folder
pub record IsBehind (folder name rest : List ℕ) : Type 0 where
  pub is : name ≡ folder ++ 47 ∷ rest
  pub some : 0 < length rest

some_is : (t r : List ℕ) → some_text t ≡ Some r → (t ≡ r) × (0 < length r)
some_is [] r h = absurd cc
some_is (c ∷ cs) r h =
    let same : c ∷ cs ≡ r = cc in
    (same, omega (arith, ap length same))

byte_by : (c d : ℕ) (ds r : List ℕ) (b : Bool) → (d == c) ≡ b → cond b (Some ds) None ≡ Some r → d ∷ ds ≡ c ∷ r
byte_by c d ds r true e h =
    let same : ds ≡ r = cc in
    ap (λ (x : ℕ). x ∷ ds) (eqb-true d c e) ∙ ap (λ (x : List ℕ). c ∷ x) same
byte_by c d ds r false e h = absurd cc

byte_is : (c : ℕ) (t r : List ℕ) → byte_at c t ≡ Some r → t ≡ c ∷ r
byte_is c [] r h = absurd cc
byte_is c (d ∷ ds) r h = byte_by c d ds r (d == c) refl h

strip_by : (f t r : List ℕ) (b : Bool) → begins f t ≡ b → cond b (Some (drop (length f) t)) None ≡ Some r → t ≡ f ++ r
strip_by f t r true e h =
    let same : drop (length f) t ≡ r = cc in
    begun f t e ∙ ap (λ (x : List ℕ). f ++ x) same
strip_by f t r false e h = absurd cc

behind_is : (folder name rest : List ℕ) → behind_folder folder name ≡ Some rest → IsBehind folder name rest
behind_is folder name rest h =
    let z = bind_some (strip folder name >>= byte_at 47) some_text rest h in
    let y = bind_some (strip folder name) (byte_at 47) z.0 z.1 in
    let s = some_is z.0 rest z.2 in
    record { is = strip_by folder name y.0 (begins folder name) refl y.1 ∙ ap (λ (x : List ℕ). folder ++ x) (byte_is 47 y.0 z.0 y.2 ∙ ap (λ (x : List ℕ). 47 ∷ x) s.0); some = s.1 }

not_absolute_by : (c : ℕ) (folder cs : List ℕ) (b : Bool) → (c == 47) ≡ b → normal (folder ++ 47 ∷ c ∷ cs) ≡ folder ++ 47 ∷ c ∷ cs → b ≡ false
not_absolute_by c folder cs true e n =
    let same : c ≡ 47 = eqb-true c 47 e in
    absurd (no_double folder cs (subst (λ (d : ℕ). normal (folder ++ 47 ∷ d ∷ cs) ≡ folder ++ 47 ∷ d ∷ cs) same n))
not_absolute_by c folder cs false e n = refl

not_absolute : (folder rest : List ℕ) → 0 < length rest → normal (folder ++ 47 ∷ rest) ≡ folder ++ 47 ∷ rest → is_absolute rest ≡ false
not_absolute folder [] some n = absurd (omega (arith, some))
not_absolute folder (c ∷ cs) some n = not_absolute_by c folder cs (c == 47) refl n

-- the text that a relation resolves to
abbrev pub back : Option (List ℕ) → Bool × List ℕ → List ℕ
back r x = in_folder (cond (x.0 && not (is_absolute x.1)) r None) x.1

alone : (b : Bool) (name : List ℕ) → in_folder (cond b None None) name ≡ name
alone true name = refl
alone false name = refl

back_by : (folder name : List ℕ) (o : Option (List ℕ)) → behind_folder folder name ≡ o → normal name ≡ name → back (Some folder) (related_by name o) ≡ name
back_by folder name None e n = refl
back_by folder name (Some rest) e n =
    let b = behind_is folder name rest e in
    let a : is_absolute rest ≡ false = not_absolute folder rest b.some (subst (λ (x : List ℕ). normal x ≡ x) b.is n) in
    ap (λ (t : Bool). in_folder (cond (not t) (Some folder) None) rest) a ∙ sym b.is

back_in : (r : Option (List ℕ)) (name : List ℕ) → normal name ≡ name → back r (related_in r name) ≡ name
back_in None name n = alone (not (is_absolute name) && not (is_absolute name)) name
back_in (Some folder) name n = back_by folder name (behind_folder folder name) refl n

pub related_text : (base name : List ℕ) → IsName name → (s : SourceValue) → s.relative ≡ (related base name).0 → s.file ≡ (related base name).1 → resolved_text base s ≡ name
related_text base name is s e f =
    ap (λ (b : Bool). in_folder (cond (b && not (is_absolute s.file)) (folder_part base) None) s.file) e
    ∙ ap (λ (t : List ℕ). back (folder_part base) ((related base name).0, t)) f
    ∙ back_in (folder_part base) name is.is_normal

pub related_name : (base name : List ℕ) → IsName name → (s : SourceValue) → s.relative ≡ (related base name).0 → s.file ≡ (related base name).1 → normal (resolved_text base s) ≡ name
related_name base name is s e f = ap normal (related_text base name is s e f) ∙ is.is_normal
