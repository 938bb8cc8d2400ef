-- Written start tags and empty tags are read again, with all of their attributes.
use Rattle.std.proofs.Common.{◌≡◌, ℕ, Bool, true, false, cond, ◌&&◌, ◌==◌, List, [], ◌∷◌, ◌++◌, drop, flat_map, Option, Some, None, refl, sym, ap, ◌∙◌, arith, append_assoc, codes}
use Rattle.std.specs.List.{prefix_len}
use Rattle.std.proofs.lemmas.Bool.Decides.{nat_tests}
use Rattle.lists_and_answers.specs.Options.{◌>>=◌}
use Rattle.lists_and_answers.specs.Texts.{is_white}
use Rattle.vrt_markup.specs.Items.{is_first, is_later, has_first, name_at, trim_front, pair_at, Pair, pairs, with_pair, is_distinct, Tag, tag_end, tag_front, tag_at, Item, bad, open_tag, close_tag, comment, close_at, after_comment, item_at, option_case, begins}
use Rattle.vrt_writing.specs.Spelled.{pair_text}
use Rattle.vrt_writing.specs.Reread.{IsTagName, IsValue}
use Rattle.vrt_markup.proofs.Shorter.{pairs_next, pairs_none}
use Rattle.vrt_writing.proofs.Reread.{name_again}
use Rattle.vrt_writing.proofs.Tags.{pair_again}

-- attributes that are read again
abbrev pub AreWritten : List Pair → Type 0
AreWritten [] = Unit {0}
AreWritten (p ∷ ps) = (IsTagName p.name × IsValue p.value) × AreWritten ps

pub record IsOpening (name : List ℕ) (attributes : List Pair) : Type 0 where
  pub named : IsTagName name
  pub pairs : AreWritten attributes
  pub distinct : is_distinct attributes ≡ true

-- what stands behind the attributes: `>` or `/>`
pub record Ends (end : List ℕ) (empty : Bool) (rest : List ℕ) : Type 0 where
  pub none : pair_at end ≡ None
  pub dark : prefix_len is_white end ≡ 0
  pub is : tag_end end ≡ Some (empty, rest)

pub ends_open : (r : List ℕ) → Ends (62 ∷ r) false r
unfolding pair_at
ends_open r = record { none = refl; dark = refl; is = refl }

pub ends_empty : (r : List ℕ) → Ends (47 ∷ 62 ∷ r) true r
unfolding pair_at
ends_empty r = record { none = refl; dark = refl; is = refl }

pair_whole : (p : Pair) (x : List ℕ) → pair_text p ++ x ≡ 32 ∷ p.name ++ (61 ∷ 34 ∷ p.value ++ 34 ∷ x)
pair_whole p x = simp append_assoc

pub pairs_again : (ps : List Pair) (end : List ℕ) → AreWritten ps → pair_at end ≡ None → pairs (flat_map pair_text ps ++ end) ≡ (ps, end)
pairs_again [] end w none = pairs_none end none
pairs_again (p ∷ ps) end w none =
    let whole : flat_map pair_text (p ∷ ps) ++ end ≡ 32 ∷ p.name ++ (61 ∷ 34 ∷ p.value ++ 34 ∷ (flat_map pair_text ps ++ end)) = append_assoc (pair_text p) (flat_map pair_text ps) end ∙ pair_whole p (flat_map pair_text ps ++ end) in
    ap pairs whole
    ∙ pairs_next (32 ∷ p.name ++ (61 ∷ 34 ∷ p.value ++ 34 ∷ (flat_map pair_text ps ++ end))) p (flat_map pair_text ps ++ end) (pair_again p (flat_map pair_text ps ++ end) w.0.0 w.0.1)
    ∙ ap (with_pair p) (pairs_again ps end w.1 none)

-- a name stands before the attributes or the end
pub record Behind (x : List ℕ) : Type 0 where
  pub first : ℕ
  pub more : List ℕ
  pub is : x ≡ first ∷ more
  pub other : is_later first ≡ false

behind_name : (ps : List Pair) (c : ℕ) (cs : List ℕ) → is_later c ≡ false → Behind (flat_map pair_text ps ++ c ∷ cs)
behind_name [] c cs other = record { first = c; more = cs; is = refl; other = other }
behind_name (p ∷ ps) c cs other = record { first = 32; more = ((p.name ++ (codes "=\"" ++ (p.value ++ 34 ∷ []))) ++ flat_map pair_text ps) ++ c ∷ cs; is = refl; other = refl }

name_behind : (name x : List ℕ) → IsTagName name → Behind x → name_at (name ++ x) ≡ Some (name, x)
name_behind name x is b =
    ap (λ (y : List ℕ). name_at (name ++ y)) b.is
    ∙ name_again name b.more b.first is b.other
    ∙ ap (λ (y : List ℕ). Some (name, y)) (sym b.is)

abbrev behind_pairs : List ℕ → List Pair × List ℕ → Option (Tag × List ℕ)
behind_pairs name x = tag_end (trim_front x.1) >>= λ end. Some (record { name = name; pairs = x.0; empty = end.0 }, end.1)

abbrev behind_first : Option (List ℕ × List ℕ) → Option (Tag × List ℕ)
behind_first o = o >>= λ n. behind_pairs n.0 (pairs n.1)

abbrev pub tag_of : List ℕ → List Pair → Bool → Tag
tag_of name ps empty = record { name = name; pairs = ps; empty = empty }

front_again : (name : List ℕ) (ps : List Pair) (c : ℕ) (cs : List ℕ) (empty : Bool) (rest : List ℕ) → IsOpening name ps → is_later c ≡ false → Ends (c ∷ cs) empty rest → tag_front (name ++ (flat_map pair_text ps ++ c ∷ cs)) ≡ Some (tag_of name ps empty, rest)
unfolding tag_front
front_again name ps c cs empty rest is other e =
    ap behind_first (name_behind name (flat_map pair_text ps ++ c ∷ cs) is.named (behind_name ps c cs other))
    ∙ ap (behind_pairs name) (pairs_again ps (c ∷ cs) is.pairs e.none)
    ∙ ap (λ k. tag_end (drop k (c ∷ cs)) >>= λ end. Some (record { name = name; pairs = ps; empty = end.0 }, end.1)) e.dark
    ∙ ap (λ (o : Option (Bool × List ℕ)). o >>= λ end. Some (record { name = name; pairs = ps; empty = end.0 }, end.1)) e.is

abbrev distinct_only : Option (Tag × List ℕ) → Option (Tag × List ℕ)
distinct_only o = o >>= λ x. cond (is_distinct x.0.pairs) (Some x) None

tag_again : (name : List ℕ) (ps : List Pair) (c : ℕ) (cs : List ℕ) (empty : Bool) (rest : List ℕ) → IsOpening name ps → is_later c ≡ false → Ends (c ∷ cs) empty rest → tag_at (name ++ (flat_map pair_text ps ++ c ∷ cs)) ≡ Some (tag_of name ps empty, rest)
unfolding tag_at
tag_again name ps c cs empty rest is other e =
    ap distinct_only (front_again name ps c cs empty rest is other e)
    ∙ ap (λ b. cond b (Some (tag_of name ps empty, rest)) None) is.distinct

-- a name begins with none of `!` and `/`
first_other : (c : ℕ) → is_first c ≡ true → ((c == 33) ≡ false) × ((c == 47) ≡ false)
first_other c h = (grind (arith, nat_tests), grind (arith, nat_tests))

abbrev as_item : Option (Tag × List ℕ) → Item
as_item o = option_case {A = Tag × List ℕ} o bad (λ t. open_tag t.0 t.1)

-- the item of a text that begins with `<`, by its next byte: a `!`, or a `/`
abbrev by_second : Bool → Bool → List ℕ → List ℕ → Item
by_second a b cs t =
    option_case (cond (a && begins (45 ∷ 45 ∷ []) cs) (Some (drop 2 cs)) None)
    (option_case (cond (b && begins [] cs) (Some cs) None)
    (as_item (tag_at t))
    (λ rest. option_case {A = List ℕ × List ℕ} (close_at rest) bad (λ x. close_tag x.0 x.1)))
    (λ rest. option_case (after_comment rest) bad comment)

second_is : (c : ℕ) (cs : List ℕ) → item_at (60 ∷ c ∷ cs) ≡ by_second (c == 33) (c == 47) cs (c ∷ cs)
unfolding item_at
second_is c cs = refl

named_item : (name x : List ℕ) → has_first name ≡ true → item_at (60 ∷ name ++ x) ≡ as_item (tag_at (name ++ x))
named_item [] x h = absurd cc
named_item (c ∷ cs) x h =
    let f = first_other c h in
    second_is c (cs ++ x)
    ∙ ap (λ b. by_second b (c == 47) (cs ++ x) (c ∷ cs ++ x)) f.0
    ∙ ap (λ b. by_second false b (cs ++ x) (c ∷ cs ++ x)) f.1

pub opening_item : (name : List ℕ) (ps : List Pair) (c : ℕ) (cs : List ℕ) (empty : Bool) (rest : List ℕ) → IsOpening name ps → is_later c ≡ false → Ends (c ∷ cs) empty rest → item_at (60 ∷ name ++ (flat_map pair_text ps ++ c ∷ cs)) ≡ open_tag (tag_of name ps empty) rest
opening_item name ps c cs empty rest is other e = named_item name (flat_map pair_text ps ++ c ∷ cs) is.named.first ∙ ap as_item (tag_again name ps c cs empty rest is other e)
