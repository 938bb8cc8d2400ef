-- Texts that are written piece by piece.
use Rattle.std.proofs.Common.{◌≡◌, ◌<◌, ◌+◌, length, take, get_or, ℕ, ℤ, Bool, true, false, cond, List, [], ◌∷◌, ◌++◌, ap, ◌∙◌, sym, subst, append_assoc, append-nil, arith, Result, Ok, Err, flat_map, unsigned_abs, codes, ◌≢◌, ne_eqb}
use Rattle.std.specs.Prelude.{OnErr, OnOk, ◌-ℤ◌, ◌==◌}
use Rattle.std.proofs.lemmas.Bool.Decides.{nat_tests}
use Rattle.std.proofs.lemmas.Int.{ints}
use Rattle.std.proofs.lemmas.Grind.{flat_map-append}
use Rattle.std.proofs.lemmas.List.{take_more}
use Rattle.lists_and_answers.specs.Growth.{KeepsFront}
use Rattle.geotransform.proofs.Written.{keeps_itself, keeps_append, keeps_then}
use Rattle.vrt_markup.specs.Items.{Pair}
use Rattle.vrt_profile.specs.Values.{Rectangle}
use Rattle.vrt_writing.specs.Spelled.{Markup, nothing, both, words, empty, markup_text, indent, tag_text, pair_text, end_text, pair, flag_text, escaped, file_markup, scale_markup, part_text, micro_text, rectangle_pairs}
use Rattle.vrt_writing.specs.Appended.{Appends, AppendsPairs, FileOpens}

pub two : (a b c e f : List ℕ) → b ≡ a ++ e → c ≡ b ++ f → c ≡ a ++ (e ++ f)
two a b c e f p q = q ∙ ap (λ (x : List ℕ). x ++ f) p ∙ append_assoc a e f

pub three : (a b c d e f g : List ℕ) → b ≡ a ++ e → c ≡ b ++ f → d ≡ c ++ g → d ≡ a ++ (e ++ (f ++ g))
three a b c d e f g p q r = two a b d e (f ++ g) p (two b c d f g q r)

-- what is kept where a push behind others is refused
pub keeps_one : (a b c e : List ℕ) → b ≡ a ++ e → c ≡ b → KeepsFront a c
keeps_one a b c e p q = keeps_append a c e (q ∙ p)

pub keeps_two : (a b c d e f : List ℕ) → b ≡ a ++ e → c ≡ b ++ f → d ≡ c → KeepsFront a d
keeps_two a b c d e f p q r = keeps_append a d (e ++ f) (r ∙ two a b c e f p q)

pub keeps_more : (a b c e : List ℕ) → b ≡ a ++ e → KeepsFront b c → KeepsFront a c
keeps_more a b c e p h = keeps_then a b c e p h

pub keeps_same : (a b : List ℕ) → b ≡ a → KeepsFront a b
keeps_same a b p = subst (λ (x : List ℕ). KeepsFront a x) (sym p) (keeps_itself a)

pub keeps_more_two : (a b c d e f : List ℕ) → b ≡ a ++ e → c ≡ b ++ f → KeepsFront c d → KeepsFront a d
keeps_more_two a b c d e f p q h = keeps_then a c d (e ++ f) (two a b c e f p q) h

-- what the first items of a list are written as, and the next one
pub one_piece_more : {X : Type 0} (f : X → List ℕ) (xs : List X) (old before after : List ℕ) (i : ℕ) (d : X) → i < length xs → before ≡ old ++ flat_map f (take i xs) → after ≡ before ++ f (get_or xs i d) → after ≡ old ++ flat_map f (take (i + 1) xs)
one_piece_more f xs old before after i d less p q =
    two old before after (flat_map f (take i xs)) (f (get_or xs i d)) p q
    ∙ ap (λ (x : List ℕ). old ++ x) (sym (ap (flat_map f) (take_more xs i d less) ∙ flat_map-append f (take i xs) (get_or xs i d ∷ []) ∙ ap (λ (x : List ℕ). flat_map f (take i xs) ++ x) (append-nil (f (get_or xs i d)))))

-- elements
pub opened : (a b c e name : List ℕ) → b ≡ a ++ (e ++ 60 ∷ name) → c ≡ b ++ 62 ∷ [] → c ≡ a ++ (e ++ (60 ∷ name ++ 62 ∷ []))
opened a b c e name p q = two a b c (e ++ 60 ∷ name) (62 ∷ []) p q ∙ ap (λ (x : List ℕ). a ++ x) (append_assoc e (60 ∷ name) (62 ∷ []))

line : (l name text : List ℕ) → (l ++ (60 ∷ name ++ 62 ∷ [])) ++ (text ++ end_text name) ≡ (l ++ (60 ∷ name ++ [])) ++ (62 ∷ text ++ end_text name)
line l name text =
    append_assoc l (60 ∷ name ++ 62 ∷ []) (text ++ end_text name)
    ∙ ap (λ (x : List ℕ). l ++ 60 ∷ x) (append_assoc name (62 ∷ []) (text ++ end_text name) ∙ ap (λ (x : List ℕ). x ++ (62 ∷ text ++ end_text name)) (sym (append-nil name)))
    ∙ sym (append_assoc l (60 ∷ name ++ []) (62 ∷ text ++ end_text name))

pub words_made : (a b c d name text : List ℕ) (level : ℕ) → b ≡ a ++ (indent level ++ (60 ∷ name ++ 62 ∷ [])) → c ≡ b ++ text → d ≡ c ++ end_text name → Appends a d level (words name [] text)
words_made a b c d name text level p q r = record { is = three a b c d (indent level ++ (60 ∷ name ++ 62 ∷ [])) text (end_text name) p q r ∙ ap (λ (x : List ℕ). a ++ x) (line (indent level) name text) }

pub appends_nothing : (a b : List ℕ) (level : ℕ) → b ≡ a → Appends a b level nothing
appends_nothing a b level p = record { is = p ∙ sym (append-nil a) }

pub appends_both : (a b c : List ℕ) (level : ℕ) (m n : Markup) → Appends a b level m → Appends b c level n → Appends a c level (both m n)
appends_both a b c level m n p q = record { is = two a b c (markup_text level m) (markup_text level n) p.is q.is }

pub keeps_appends : (a b c : List ℕ) (level : ℕ) (m : Markup) → Appends a b level m → KeepsFront b c → KeepsFront a c
keeps_appends a b c level m p h = keeps_then a b c (markup_text level m) p.is h

same_zero : (v usual : ℤ) → v ≡ usual → (unsigned_abs (v -ℤ usual) == 0) ≡ true
same_zero v usual e = grind (arith, nat_tests, ints)

other_some : (v usual : ℤ) → v ≢ usual → (unsigned_abs (v -ℤ usual) == 0) ≡ false
other_some v usual n = ne_eqb (unsigned_abs (v -ℤ usual)) 0 (λ e. n (omega (arith, ints)))

pub scale_nothing : (a b name : List ℕ) (usual v : ℤ) → v ≡ usual → b ≡ a → Appends a b 3 (scale_markup name usual v)
scale_nothing a b name usual v e p = subst (λ (t : Bool). Appends a b 3 (cond t nothing (words name [] (part_text v)))) (sym (same_zero v usual e)) (appends_nothing a b 3 p)

pub scale_words : (a b name : List ℕ) (usual v : ℤ) → v ≢ usual → Appends a b 3 (words name [] (part_text v)) → Appends a b 3 (scale_markup name usual v)
scale_words a b name usual v n p = subst (λ (t : Bool). Appends a b 3 (cond t nothing (words name [] (part_text v)))) (sym (other_some v usual n)) p

-- attributes
pub pair_made : (a b c d name value : List ℕ) → b ≡ a ++ ((32 ∷ []) ++ (name ++ codes "=\"")) → c ≡ b ++ value → d ≡ c ++ 34 ∷ [] → AppendsPairs a d (pair name value ∷ [])
pair_made a b c d name value p q r = record { is = three a b c d (32 ∷ name ++ codes "=\"") value (34 ∷ []) p q r ∙ ap (λ (x : List ℕ). a ++ 32 ∷ x) (append_assoc name (codes "=\"") (value ++ 34 ∷ []) ∙ sym (append-nil (name ++ (codes "=\"" ++ (value ++ 34 ∷ []))))) }

pub pairs_then : (a b c : List ℕ) (p q : List Pair) → AppendsPairs a b p → AppendsPairs b c q → AppendsPairs a c (p ++ q)
pairs_then a b c p q x y = record { is = two a b c (flat_map pair_text p) (flat_map pair_text q) x.is y.is ∙ ap (λ (z : List ℕ). a ++ z) (sym (flat_map-append pair_text p q)) }

pub four_pairs : (a b c d e : List ℕ) (p q r s : Pair) → AppendsPairs a b (p ∷ []) → AppendsPairs b c (q ∷ []) → AppendsPairs c d (r ∷ []) → AppendsPairs d e (s ∷ []) → AppendsPairs a e (p ∷ q ∷ r ∷ s ∷ [])
four_pairs a b c d e p q r s w x y z = pairs_then a d e (p ∷ q ∷ r ∷ []) (s ∷ []) (pairs_then a c d (p ∷ q ∷ []) (r ∷ []) (pairs_then a b c (p ∷ []) (q ∷ []) w x) y) z

pub keeps_pairs : (a b c : List ℕ) (p : List Pair) → AppendsPairs a b p → KeepsFront b c → KeepsFront a c
keeps_pairs a b c p x h = keeps_then a b c (flat_map pair_text p) x.is h

pub keeps_pairs_two : (a b c d : List ℕ) (p q : List Pair) → AppendsPairs a b p → AppendsPairs b c q → KeepsFront c d → KeepsFront a d
keeps_pairs_two a b c d p q x y h = keeps_pairs a b d p x (keeps_pairs b c d q y h)

pub keeps_pairs_three : (a b c d e : List ℕ) (p q r : List Pair) → AppendsPairs a b p → AppendsPairs b c q → AppendsPairs c d r → KeepsFront d e → KeepsFront a e
keeps_pairs_three a b c d e p q r x y z h = keeps_pairs a b e p x (keeps_pairs_two b c d e q r y z h)

pub keeps_then_pairs : (a b c d e : List ℕ) (p : List Pair) → b ≡ a ++ e → AppendsPairs b c p → KeepsFront c d → KeepsFront a d
keeps_then_pairs a b c d e p x y h = keeps_then a b d e x (keeps_pairs b c d p y h)

-- a tag with its attributes
tagged : (a b c d l name end : List ℕ) (pairs : List Pair) → b ≡ a ++ (l ++ 60 ∷ name) → AppendsPairs b c pairs → d ≡ c ++ end → d ≡ a ++ ((l ++ (60 ∷ name ++ flat_map pair_text pairs)) ++ end)
tagged a b c d l name end pairs p q r =
    three a b c d (l ++ 60 ∷ name) (flat_map pair_text pairs) end p q.is r
    ∙ ap (λ (x : List ℕ). a ++ x) (sym (append_assoc (l ++ 60 ∷ name) (flat_map pair_text pairs) end) ∙ ap (λ (x : List ℕ). x ++ end) (append_assoc l (60 ∷ name) (flat_map pair_text pairs)))

pub empty_made : (a b c d name : List ℕ) (level : ℕ) (pairs : List Pair) → b ≡ a ++ (indent level ++ 60 ∷ name) → AppendsPairs b c pairs → d ≡ c ++ codes "/>\n" → Appends a d level (empty name pairs)
empty_made a b c d name level pairs p q r = record { is = tagged a b c d (indent level) name (codes "/>\n") pairs p q r }

pub file_open : (a b c d : List ℕ) (relative : Bool) → b ≡ a ++ (indent 3 ++ 60 ∷ codes "SourceFilename") → AppendsPairs b c (pair (codes "relativeToVRT") (flag_text relative) ∷ []) → d ≡ c ++ 62 ∷ [] → FileOpens a d relative
file_open a b c d relative p q r = record { is = tagged a b c d (indent 3) (codes "SourceFilename") (62 ∷ []) (pair (codes "relativeToVRT") (flag_text relative) ∷ []) p q r }

abbrev file_tag : Bool → List ℕ
file_tag relative = tag_text 3 (codes "SourceFilename") (pair (codes "relativeToVRT") (flag_text relative) ∷ [])

pub file_made : (a b c d file : List ℕ) (relative : Bool) → FileOpens a b relative → c ≡ b ++ escaped file → d ≡ c ++ end_text (codes "SourceFilename") → Appends a d 3 (file_markup relative file)
file_made a b c d file relative p q r = record { is = three a b c d (file_tag relative ++ 62 ∷ []) (escaped file) (end_text (codes "SourceFilename")) p.is q r ∙ ap (λ (x : List ℕ). a ++ x) (append_assoc (file_tag relative) (62 ∷ []) (escaped file ++ end_text (codes "SourceFilename"))) }

pub keeps_open : (a b c : List ℕ) (relative : Bool) → FileOpens a b relative → KeepsFront b c → KeepsFront a c
keeps_open a b c relative p h = keeps_then a b c (file_tag relative ++ 62 ∷ []) p.is h

pub keeps_open_more : (a b c d e : List ℕ) (relative : Bool) → FileOpens a b relative → c ≡ b ++ e → KeepsFront c d → KeepsFront a d
keeps_open_more a b c d e relative p q h = keeps_open a b d relative p (keeps_then b c d e q h)

pub file_open_by : (a b c d flag : List ℕ) (relative : Bool) → flag ≡ flag_text relative → b ≡ a ++ (indent 3 ++ 60 ∷ codes "SourceFilename") → AppendsPairs b c (pair (codes "relativeToVRT") flag ∷ []) → d ≡ c ++ 62 ∷ [] → FileOpens a d relative
file_open_by a b c d flag relative e p q r = file_open a b c d relative p (subst (λ (x : List ℕ). AppendsPairs b c (pair (codes "relativeToVRT") x ∷ [])) e q) r

-- facts behind a call that may have been refused
pub on_err : {T E P : Type 0} (r : Result T E) → P → OnErr r P
on_err (Ok x) p = tt
on_err (Err e) p = p

pub on_ok : {T E : Type 0} (r : Result T E) (P Q : Type 0) → (P → Q) → OnOk r P → OnOk r Q
on_ok (Ok x) P Q f p = f p
on_ok (Err e) P Q f p = tt

pub sides_made : (a b : List ℕ) (r : Rectangle) (x y w h : ℤ) → AppendsPairs a b (pair (codes "xOff") (micro_text x) ∷ pair (codes "yOff") (micro_text y) ∷ pair (codes "xSize") (micro_text w) ∷ pair (codes "ySize") (micro_text h) ∷ []) → x ≡ r.x → y ≡ r.y → w ≡ r.w → h ≡ r.h → AppendsPairs a b (rectangle_pairs r)
sides_made a b r x y w h p e f g i = rw (sym e, sym f, sym g, sym i) p
