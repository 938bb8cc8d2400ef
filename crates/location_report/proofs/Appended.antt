-- Pieces that are appended one after another.
use Rattle.std.proofs.Common.{◌≡◌, ◌∙◌, ap, sym, ℕ, ℤ, ◌+◌, ◌<◌, List, [], ◌∷◌, ◌++◌, length, take, drop, get_or, append_assoc, Option, Some}
use Rattle.std.specs.Prelude.{flat_map, codes}
use Rattle.std.specs.Fmt.{decimal, signed_decimal}
use Rattle.std.proofs.lemmas.List.{append-nil, take_more, drop_more}
use Rattle.std.proofs.lemmas.Grind.{flat_map-append}
use Rattle.lists_and_answers.specs.Growth.{KeepsFront}
use Rattle.geotransform.proofs.Written as written
use Rattle.outside.specs.Streams.{GetsPart}
use Rattle.location_report.specs.Location.{place_text, band_text, bands_text}
use Rattle.location_report.proofs.Kept.{kept_then}

-- what stays in front where memory is refused
pub keeps_itself : (a : List ℕ) → KeepsFront a a
keeps_itself a = written.keeps_itself a

pub keeps_same : (a b : List ℕ) → b ≡ a → KeepsFront a b
keeps_same a b p = record { front = ap (take (length a)) p ∙ (written.keeps_itself a).front }

pub keeps_pushed : (a b c e : List ℕ) → b ≡ a ++ e → c ≡ b → KeepsFront a c
keeps_pushed a b c e p q = written.keeps_append a c e (q ∙ p)

pub keeps_then : (a b c e : List ℕ) → b ≡ a ++ e → KeepsFront b c → KeepsFront a c
keeps_then a b c e p h = written.keeps_then a b c e p h

pub keeps_both : (a b c : List ℕ) → KeepsFront a b → KeepsFront b c → KeepsFront a c
keeps_both a b c p q = record { front = kept_then a b c p.front q.front }

pub keeps_more : (a b c e : List ℕ) → KeepsFront a b → c ≡ b ++ e → KeepsFront a c
keeps_more a b c e p q = keeps_both a b c p (written.keeps_append b c e q)

-- two pieces
pub two : (o x y a b : List ℕ) → x ≡ o ++ a → y ≡ x ++ b → y ≡ o ++ (a ++ (b ++ []))
two o x y a b p q = q ∙ ap (λ (t : List ℕ). t ++ b) p ∙ simp (append_assoc, append-nil)

-- one item's piece more
pub one_more : {T : Type 0} (f : T → List ℕ) (xs : List T) (i : ℕ) (d : T) (o x y : List ℕ) → i < length xs → x ≡ o ++ flat_map f (take i xs) → y ≡ x ++ f (get_or xs i d) → y ≡ o ++ flat_map f (take (i + 1) xs)
one_more f xs i d o x y less so_far one =
    let more : flat_map f (take (i + 1) xs) ≡ flat_map f (take i xs) ++ f (get_or xs i d) =
    ap (flat_map f) (take_more xs i d less) ∙ flat_map-append f (take i xs) (get_or xs i d ∷ []) ∙ ap (λ (t : List ℕ). flat_map f (take i xs) ++ t) (append-nil (f (get_or xs i d))) in
    one ∙ ap (λ (t : List ℕ). t ++ f (get_or xs i d)) so_far ∙ append_assoc o (flat_map f (take i xs)) (f (get_or xs i d)) ∙ ap (λ (t : List ℕ). o ++ t) (sym more)

-- the pieces of a band's lines
pub band : (o out n v : List ℕ) (number : ℕ) (value : ℤ) → n ≡ decimal number → v ≡ signed_decimal value → out ≡ o ++ (codes "  Band " ++ (n ++ (codes ":\n    Value: " ++ (v ++ (codes "\n" ++ []))))) → out ≡ o ++ band_text number value
unfolding band_text
band o out n v number value p q r =
    r
    ∙ ap (λ (t : List ℕ). o ++ (codes "  Band " ++ (t ++ (codes ":\n    Value: " ++ (v ++ (codes "\n" ++ [])))))) p
    ∙ ap (λ (t : List ℕ). o ++ (codes "  Band " ++ (decimal number ++ (codes ":\n    Value: " ++ (t ++ (codes "\n" ++ [])))))) q

-- the pieces of a report's head
pub place : (o out column line : List ℕ) (x y : ℤ) → column ≡ signed_decimal x → line ≡ signed_decimal y → out ≡ o ++ (codes "Report:\n  Location: (" ++ (column ++ (codes "P," ++ (line ++ (codes "L)\n" ++ []))))) → out ≡ o ++ place_text x y
unfolding place_text
place o out column line x y p q r =
    r
    ∙ ap (λ (t : List ℕ). o ++ (codes "Report:\n  Location: (" ++ (t ++ (codes "P," ++ (line ++ (codes "L)\n" ++ [])))))) p
    ∙ ap (λ (t : List ℕ). o ++ (codes "Report:\n  Location: (" ++ (signed_decimal x ++ (codes "P," ++ (t ++ (codes "L)\n" ++ [])))))) q

-- the lines of one band more, of those that are left
pub one_band_more : (bands : List ℕ) (values : List ℤ) (i : ℕ) (d : ℕ) (e : ℤ) (o x y : List ℕ) → i < length bands → i < length values → x ++ bands_text (drop i bands) (drop i values) ≡ o ++ bands_text bands values → y ≡ x ++ band_text (get_or bands i d) (get_or values i e) → y ++ bands_text (drop (i + 1) bands) (drop (i + 1) values) ≡ o ++ bands_text bands values
one_band_more bands values i d e o x y less less_too so_far one =
    ap (λ (t : List ℕ). t ++ bands_text (drop (i + 1) bands) (drop (i + 1) values)) one
    ∙ append_assoc x (band_text (get_or bands i d) (get_or values i e)) (bands_text (drop (i + 1) bands) (drop (i + 1) values))
    ∙ ap (λ (t : List ℕ). x ++ t) (ap (λ (t : List ℤ). bands_text (get_or bands i d ∷ drop (i + 1) bands) t) (sym (drop_more values i e less_too)) ∙ ap (λ (t : List ℕ). bands_text t (drop i values)) (sym (drop_more bands i d less)))
    ∙ so_far

-- a sink that was given nothing
pub nothing_put : (text : List ℕ) (old : Option (List ℕ)) → GetsPart text old old
nothing_put text old = λ g is. (0, is ∙ ap Some (sym (append-nil g)))
