-- Pieces of a written document are read again: texts with entities, runs of text, names, end tags, elements that hold a
-- text.
use Rattle.std.proofs.Common.{◌≡◌, ◌≢◌, ℕ, suc, ◌+◌, ◌-◌, Bool, true, false, cond, ◌&&◌, ◌==◌, List, [], ◌∷◌, ◌++◌, length, take, drop, Option, Some, None, Ok, Err, refl, sym, ap, ◌∙◌, arith, ⊎_elim, append_assoc, append-nil, codes, length-append, subst}
use Rattle.std.specs.List.{list_all, prefix_len}
use Rattle.std.proofs.lemmas.Bool.{cases_eq, eq-eqb, ne_eqb}
use Rattle.std.proofs.lemmas.List.{take_at, drop_at}
use Rattle.lists_and_answers.specs.Options.{◌>>=◌}
use Rattle.lists_and_answers.specs.Answers.{◌>>=◌ as ◌>>=>◌}
use Rattle.vrt_markup.specs.Items.{plain_len, is_later, has_first, name_at, byte_at, trim_front, close_at, Item, bad, run, close_tag, comment, item_at, tag_item, run_at, option_case, begins, after_comment, is_equal}
use Rattle.vrt_markup.specs.Forest.{stop, ForestRead, nodes, decoded, decoded_from, text_of, child_of, with_text, nodes_step}
use Rattle.vrt_writing.specs.Spelled.{escape, escaped}
use Rattle.vrt_writing.specs.Reread.{IsTagName, words_forest}
use Rattle.vrt_markup.specs.declared.fault.VrtFault.TheVariants.{BadText}
use Rattle.vrt_markup.proofs.Next.{next}

-- the first byte: one of the five, or plain
pub five : (P : ℕ → Type 0) → P 38 → P 60 → P 62 → P 34 → P 39 → ((c : ℕ) → c ≢ 38 → c ≢ 60 → c ≢ 62 → c ≢ 34 → c ≢ 39 → P c) → (c : ℕ) → P c
five P a b d e f other c =
    ⊎_elim (λ (h : c ≡ 38). subst P (sym h) a) (λ (n1 : c ≢ 38).
    ⊎_elim (λ (h : c ≡ 60). subst P (sym h) b) (λ (n2 : c ≢ 60).
    ⊎_elim (λ (h : c ≡ 62). subst P (sym h) d) (λ (n3 : c ≢ 62).
    ⊎_elim (λ (h : c ≡ 34). subst P (sym h) e) (λ (n4 : c ≢ 34).
    ⊎_elim (λ (h : c ≡ 39). subst P (sym h) f) (λ (n5 : c ≢ 39). other c n1 n2 n3 n4 n5)
    (cases_eq c 39)) (cases_eq c 34)) (cases_eq c 62)) (cases_eq c 60)) (cases_eq c 38)

pub escape_plain : (c : ℕ) → c ≢ 38 → c ≢ 60 → c ≢ 62 → c ≢ 34 → c ≢ 39 → escape c ≡ c ∷ []
escape_plain c n1 n2 n3 n4 n5 = simp (ne_eqb c 38 n1, ne_eqb c 60 n2, ne_eqb c 62 n3, ne_eqb c 34 n4, ne_eqb c 39 n5) refl

plain_is : (c : ℕ) (cs : List ℕ) → c ≢ 38 → decoded_from 0 (c ∷ cs) ≡ c ∷ decoded_from 0 cs
plain_is c cs n = simp (ne_eqb c 38 n) refl

decoded_one : (x : List ℕ) (c : ℕ) → decoded_from 0 (escape c ++ x) ≡ c ∷ decoded_from 0 x
decoded_one x = five (λ c. decoded_from 0 (escape c ++ x) ≡ c ∷ decoded_from 0 x) refl refl refl refl refl
    (λ c n1 n2 n3 n4 n5. ap (λ (e : List ℕ). decoded_from 0 (e ++ x)) (escape_plain c n1 n2 n3 n4 n5) ∙ plain_is c x n1)

decoded_front : (t r : List ℕ) → decoded_from 0 (escaped t ++ r) ≡ t ++ decoded_from 0 r
decoded_front [] r = refl
decoded_front (c ∷ cs) r = ap (decoded_from 0) (append_assoc (escape c) (escaped cs) r) ∙ decoded_one (escaped cs ++ r) c ∙ ap (λ (x : List ℕ). c ∷ x) (decoded_front cs r)

-- a text that was written with entities is read as the text
pub decoded_again : (t : List ℕ) → decoded (escaped t) ≡ t
decoded_again t = ap (decoded_from 0) (sym (append-nil (escaped t))) ∙ decoded_front t [] ∙ append-nil t

plain_rest : (c : ℕ) (x : List ℕ) → c ≢ 38 → c ≢ 60 → plain_len 60 (c ∷ x) ≡ 1 + plain_len 60 x
plain_rest c x n1 n2 = simp (ne_eqb c 38 n1, ne_eqb c 60 n2) (omega arith)

plain_one : (x : List ℕ) (c : ℕ) → plain_len 60 (escape c ++ x) ≡ length (escape c) + plain_len 60 x
plain_one x = five (λ c. plain_len 60 (escape c ++ x) ≡ length (escape c) + plain_len 60 x) (omega arith) (omega arith) (omega arith) (omega arith) (omega arith)
    (λ c n1 n2 n3 n4 n5. ap (λ (e : List ℕ). plain_len 60 (e ++ x)) (escape_plain c n1 n2 n3 n4 n5) ∙ plain_rest c x n1 n2 ∙ sym (ap (λ (e : List ℕ). length e + plain_len 60 x) (escape_plain c n1 n2 n3 n4 n5)))

-- it is plain text up to the next tag
pub plain_again : (t r : List ℕ) → plain_len 60 (escaped t ++ 60 ∷ r) ≡ length (escaped t)
plain_again [] r = refl
plain_again (c ∷ cs) r = ap (plain_len 60) (append_assoc (escape c) (escaped cs) (60 ∷ r)) ∙ plain_one (escaped cs ++ 60 ∷ r) c ∙ omega (arith, plain_again cs r, length-append (escape c) (escaped cs))

-- a run of plain text before a tag
run_from : (raw r : List ℕ) → plain_len 60 (raw ++ 60 ∷ r) ≡ length raw → (length raw == 0) ≡ false → run_at (raw ++ 60 ∷ r) ≡ run raw (60 ∷ r)
run_from raw r e some =
    ap (λ k. cond (k == 0) bad (run (take k (raw ++ 60 ∷ r)) (drop k (raw ++ 60 ∷ r)))) e
    ∙ ap (λ b. cond b bad (run (take (length raw) (raw ++ 60 ∷ r)) (drop (length raw) (raw ++ 60 ∷ r)))) some
    ∙ ap (λ (x : List ℕ). run x (drop (length raw) (raw ++ 60 ∷ r))) (take_at raw (60 ∷ r) (length raw) refl)
    ∙ ap (λ (x : List ℕ). run raw x) (drop_at raw (60 ∷ r) (length raw) refl)

-- the item of a text by its first byte
abbrev by_first : Bool → List ℕ → List ℕ → Item
by_first b cs t =
    option_case (cond (b && begins (33 ∷ 45 ∷ 45 ∷ []) cs) (Some (drop 3 cs)) None)
    (option_case (cond (b && begins (47 ∷ []) cs) (Some (drop 1 cs)) None)
    (option_case (cond b (Some cs) None) (run_at t) tag_item)
    (λ rest. option_case {A = List ℕ × List ℕ} (close_at rest) bad (λ x. close_tag x.0 x.1)))
    (λ rest. option_case (after_comment rest) bad comment)

first_is : (c : ℕ) (cs : List ℕ) → item_at (c ∷ cs) ≡ by_first (c == 60) cs (c ∷ cs)
unfolding item_at
first_is c cs = refl

pub run_again : (c : ℕ) (cs r : List ℕ) → (c == 60) ≡ false → plain_len 60 ((c ∷ cs) ++ 60 ∷ r) ≡ length (c ∷ cs) → item_at ((c ∷ cs) ++ 60 ∷ r) ≡ run (c ∷ cs) (60 ∷ r)
run_again c cs r other e =
    let some : (length (c ∷ cs) == 0) ≡ false = ne_eqb (suc (length cs)) 0 (λ h. omega (arith, h)) in
    first_is c (cs ++ 60 ∷ r) ∙ ap (λ b. by_first b (cs ++ 60 ∷ r) (c ∷ (cs ++ 60 ∷ r))) other ∙ run_from (c ∷ cs) r e some

-- a name before a byte that is in no name
later_more : (d : ℕ) (ds rest : List ℕ) (c : ℕ) (b : Bool) → is_later d ≡ b → (b && list_all is_later ds) ≡ true → (list_all is_later ds ≡ true → prefix_len is_later (ds ++ c ∷ rest) ≡ length ds) → cond b (1 + prefix_len is_later (ds ++ c ∷ rest)) 0 ≡ suc (length ds)
later_more d ds rest c true e h more = omega (arith, more h)
later_more d ds rest c false e h more = absurd cc

later_all : (name rest : List ℕ) (c : ℕ) → list_all is_later name ≡ true → is_later c ≡ false → prefix_len is_later (name ++ c ∷ rest) ≡ length name
later_all [] rest c h e = ap (λ b. cond b (1 + prefix_len is_later rest) 0) e
later_all (d ∷ ds) rest c h e = later_more d ds rest c (is_later d) refl h (λ g. later_all ds rest c g e)

first_front : (name rest : List ℕ) → has_first name ≡ true → has_first (name ++ rest) ≡ true
first_front [] rest h = absurd cc
first_front (c ∷ cs) rest h = h

pub name_again : (name rest : List ℕ) (c : ℕ) → IsTagName name → is_later c ≡ false → name_at (name ++ c ∷ rest) ≡ Some (name, c ∷ rest)
name_again name rest c is e =
    ap (λ b. cond b (Some (take (prefix_len is_later (name ++ c ∷ rest)) (name ++ c ∷ rest), drop (prefix_len is_later (name ++ c ∷ rest)) (name ++ c ∷ rest))) None) (first_front name (c ∷ rest) is.first)
    ∙ ap (λ k. Some (take k (name ++ c ∷ rest), drop k (name ++ c ∷ rest))) (later_all name rest c is.later e)
    ∙ ap (λ (x : List ℕ). Some (x, drop (length name) (name ++ c ∷ rest))) (take_at name (c ∷ rest) (length name) refl)
    ∙ ap (λ (x : List ℕ). Some (name, x)) (drop_at name (c ∷ rest) (length name) refl)

-- an end tag
abbrev end_tag_of : Option (List ℕ × List ℕ) → Item
end_tag_of o = option_case {A = List ℕ × List ℕ} (o >>= λ n. byte_at 62 (trim_front n.1) >>= λ e. Some (n.0, e)) bad (λ t. close_tag t.0 t.1)

pub end_again : (name r : List ℕ) → IsTagName name → item_at (60 ∷ 47 ∷ name ++ 62 ∷ r) ≡ close_tag name r
unfolding item_at close_at
end_again name r is = ap end_tag_of (name_again name r 62 is refl)

-- a written text begins with no `<`
pub record BeginsOther (t : List ℕ) : Type 0 where
  pub first : ℕ
  pub more : List ℕ
  pub is : t ≡ first ∷ more
  pub other : (first == 60) ≡ false

begins_other : (x : List ℕ) (c : ℕ) → BeginsOther (escape c ++ x)
begins_other x = five (λ c. BeginsOther (escape c ++ x))
    record { first = 38; more = codes "amp;" ++ x; is = refl; other = refl }
    record { first = 38; more = codes "lt;" ++ x; is = refl; other = refl }
    record { first = 38; more = codes "gt;" ++ x; is = refl; other = refl }
    record { first = 38; more = codes "quot;" ++ x; is = refl; other = refl }
    record { first = 38; more = codes "apos;" ++ x; is = refl; other = refl }
    (λ c n1 n2 n3 n4 n5. record { first = c; more = x; is = ap (λ (e : List ℕ). e ++ x) (escape_plain c n1 n2 n3 n4 n5); other = ne_eqb c 60 n2 })

run_other : (t r : List ℕ) → BeginsOther t → plain_len 60 (t ++ 60 ∷ r) ≡ length t → item_at (t ++ 60 ∷ r) ≡ run t (60 ∷ r)
run_other t r b e =
    subst (λ (x : List ℕ). item_at (x ++ 60 ∷ r) ≡ run x (60 ∷ r)) (sym b.is)
    (run_again b.first b.more r b.other (subst (λ (x : List ℕ). plain_len 60 (x ++ 60 ∷ r) ≡ length x) b.is e))

text_again : (c : ℕ) (cs r : List ℕ) → item_at (escaped (c ∷ cs) ++ 60 ∷ r) ≡ run (escaped (c ∷ cs)) (60 ∷ r)
text_again c cs r = run_other (escaped (c ∷ cs)) r (begins_other (escaped cs) c) (plain_again (c ∷ cs) r)

pub equal_self : (name : List ℕ) → is_equal name name ≡ true
equal_self [] = refl
equal_self (c ∷ cs) = ap (λ b. b && is_equal cs cs) (eq-eqb c c refl) ∙ equal_self cs

closed_again : (total depth : ℕ) (name r : List ℕ) → IsTagName name → nodes total depth name (60 ∷ 47 ∷ name ++ 62 ∷ r) ≡ Ok (stop, r)
closed_again total depth name r is =
    next total depth name (60 ∷ 47 ∷ name ++ 62 ∷ r)
    ∙ ap (nodes_step (nodes total) total depth name (60 ∷ 47 ∷ name ++ 62 ∷ r)) (end_again name r is)
    ∙ ap (λ b. cond b (Ok (stop, r)) (Err (BadText (total - length (60 ∷ 47 ∷ name ++ 62 ∷ r))))) (equal_self name)

abbrev with_run : List ℕ → ForestRead → ForestRead
with_run raw x = x >>=> with_text raw

pub words_again : (total depth : ℕ) (name t r : List ℕ) → IsTagName name → nodes total depth name (escaped t ++ (60 ∷ 47 ∷ name ++ 62 ∷ r)) ≡ Ok (words_forest t, r)
words_again total depth name [] r is = closed_again total depth name r is
words_again total depth name (c ∷ cs) r is =
    next total depth name (escaped (c ∷ cs) ++ (60 ∷ 47 ∷ name ++ 62 ∷ r))
    ∙ ap (nodes_step (nodes total) total depth name (escaped (c ∷ cs) ++ (60 ∷ 47 ∷ name ++ 62 ∷ r))) (text_again c cs (47 ∷ name ++ 62 ∷ r))
    ∙ ap (λ (x : ForestRead). with_run (escaped (c ∷ cs)) x) (closed_again total depth name r is)

pub words_text : (t : List ℕ) → text_of (words_forest t) ≡ t
words_text [] = refl
words_text (c ∷ cs) = append-nil (decoded (escaped (c ∷ cs))) ∙ decoded_again (c ∷ cs)

pub words_child : (t : List ℕ) → child_of (words_forest t) ≡ None
words_child [] = refl
words_child (c ∷ cs) = refl
