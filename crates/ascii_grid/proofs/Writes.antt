-- What is written one after the other.
use Rattle.std.proofs.Common.{◌≡◌, ℕ, ◌+◌, ◌<◌, ℤ, pos, List, [], ◌∷◌, ◌++◌, length, ap, ◌∙◌, sym, append_assoc, take, get_or, subst, Option, Result, Ok, Err}
use Rattle.std.proofs.lemmas.List.{append-nil, take_more}
use Rattle.std.proofs.lemmas.Grind.{flat_map-append}
use Rattle.std.specs.List.{flat_map}
use Rattle.std.specs.Fmt.{signed_decimal}
use Rattle.lists_and_answers.specs.Growth.{Adds, KeepsFront}
use Rattle.geotransform.proofs.Written as written
use Rattle.ascii_grid.specs.Text.{more_text, row_text, placing_of, size_lines, edge_lines, step_lines, nodata_line, head_lines, head_text}
use Rattle.ascii_grid.specs.declared.placing.Placing.{Placing}
use Rattle.geotransform.specs.Geo.{Transform}
use Rattle.geotransform.specs.declared.types.Size.{Size}
use Rattle.std.specs.Prelude.{OnErr}

pub keeps_same : (a b : List ℕ) → b ≡ a → KeepsFront a b
keeps_same a b e = record { front = ap (take (length a)) e ∙ (written.keeps_itself a).front }

pub keeps_pushed : (a b c e : List ℕ) → b ≡ a ++ e → c ≡ b → KeepsFront a c
keeps_pushed a b c e p q = written.keeps_append a c e (q ∙ p)

pub keeps_then : (a b c e : List ℕ) → b ≡ a ++ e → KeepsFront b c → KeepsFront a c
keeps_then a b c e p h = written.keeps_then a b c e p h

pub keeps_two : (a b c d e f : List ℕ) → b ≡ a ++ e → c ≡ b ++ f → d ≡ c → KeepsFront a d
keeps_two a b c d e f p q r = written.keeps_append a d (e ++ f) (r ∙ q ∙ ap (λ (x : List ℕ). x ++ f) p ∙ append_assoc a e f)

pub keeps_more : (a b c : List ℕ) (xs : List ℤ) → b ≡ a ++ flat_map more_text xs → KeepsFront b c → KeepsFront a c
keeps_more a b c xs e h = written.keeps_then a b c (flat_map more_text xs) e h

-- one value more behind the first i of them
pub more_pushed : (a b c : List ℕ) (xs : List ℤ) (i : ℕ) (x : ℤ) → x ≡ get_or xs i (pos 0) → i < length xs → b ≡ a ++ flat_map more_text (take i xs) → c ≡ b ++ more_text x → c ≡ a ++ flat_map more_text (take (i + 1) xs)
more_pushed a b c xs i x is less p q =
    let more : flat_map more_text (take (i + 1) xs) ≡ flat_map more_text (take i xs) ++ more_text x =
    ap (flat_map more_text) (take_more xs i (pos 0) less) ∙ flat_map-append more_text (take i xs) (get_or xs i (pos 0) ∷ []) ∙ ap (λ (y : List ℕ). flat_map more_text (take i xs) ++ y) (append-nil (more_text (get_or xs i (pos 0))) ∙ ap more_text (sym is)) in
    q ∙ ap (λ (y : List ℕ). y ++ more_text x) p ∙ append_assoc a (flat_map more_text (take i xs)) (more_text x) ∙ ap (λ (y : List ℕ). a ++ y) (sym more)

pub row_added : (a b c d : List ℕ) (x : ℤ) (xs : List ℤ) → b ≡ a ++ signed_decimal x → c ≡ b ++ flat_map more_text xs → d ≡ c ++ 10 ∷ [] → d ≡ a ++ row_text (x ∷ xs)
row_added a b c d x xs p q r = r ∙ ap (λ (y : List ℕ). y ++ 10 ∷ []) (q ∙ ap (λ (y : List ℕ). y ++ flat_map more_text xs) p) ∙ simp append_assoc

pub line_made : (a b c d label value : List ℕ) → b ≡ a ++ label → c ≡ b ++ value → d ≡ c ++ 10 ∷ [] → Adds a d (label ++ (value ++ 10 ∷ []))
line_made a b c d label value p q r = record { all = r ∙ ap (λ (y : List ℕ). y ++ 10 ∷ []) (q ∙ ap (λ (y : List ℕ). y ++ value) p) ∙ simp append_assoc }

pub nothing_added : (a : List ℕ) → Adds a a []
nothing_added a = record { all = sym (append-nil a) }

pub keeps_added : (a b c x : List ℕ) → Adds a b x → KeepsFront b c → KeepsFront a c
keeps_added a b c x p h = written.keeps_then a b c x p.all h

pub four_added : (a b c d e w x y z : List ℕ) → Adds a b w → Adds b c x → Adds c d y → Adds d e z → Adds a e (w ++ (x ++ (y ++ z)))
four_added a b c d e w x y z p q r s = record { all = s.all ∙ ap (λ (t : List ℕ). t ++ z) (r.all ∙ ap (λ (t : List ℕ). t ++ y) (q.all ∙ ap (λ (t : List ℕ). t ++ x) p.all)) ∙ simp append_assoc }

pub keeps_three : (a b c d e x y z : List ℕ) → Adds a b x → Adds b c y → Adds c d z → KeepsFront d e → KeepsFront a e
keeps_three a b c d e x y z p q r h = keeps_added a b e x p (keeps_added b c e y q (keeps_added c d e z r h))

pub two_added : (a b c x y : List ℕ) → Adds a b x → Adds b c y → Adds a c (x ++ y)
two_added a b c x y p q = record { all = q.all ∙ ap (λ (t : List ℕ). t ++ y) p.all ∙ append_assoc a x y }

-- the lines of a head
pub head_added : (a b c d e : List ℕ) (size : Size) (geo : Option Transform) (nodata : Option ℤ) (p : Placing) → p ≡ placing_of size geo → Adds a b (size_lines size) → Adds b c (edge_lines p) → Adds c d (step_lines p) → Adds d e (nodata_line nodata) → Adds a e (head_text size geo nodata)
unfolding head_text
head_added a b c d e size geo nodata p is q r s t = subst (λ (p : Placing). Adds a e (head_lines size p nodata)) is (four_added a b c d e (size_lines size) (edge_lines p) (step_lines p) (nodata_line nodata) q r s t)

pub on_err_any : {T E P : Type 0} (r : Result T E) → P → OnErr r P
on_err_any (Ok x) p = tt
on_err_any (Err e) p = p
