-- Start tags of a name that is known.
use Rattle.std.proofs.Common.{◌≡◌, ℕ, suc, Bool, true, false, cond, not, ◌&&◌, List, [], ◌∷◌, ◌++◌, take, drop, codes, Some, None, refl, sym, ap, ◌∙◌, subst, arith, ◌==◌, true≢false}
use Rattle.std.specs.Prelude.{◌||◌}
use Rattle.std.specs.List.{list_all, prefix_len}
use Rattle.std.proofs.lemmas.Bool.Decides.{nat_tests}
use Rattle.vrt_markup.specs.Items.{Pair, Item, is_some, option_case, strip, byte_at, is_first, is_later, has_first, is_name, entity_at, plain_len, after_comment, pairs, close_at, tag_item, run_at, item_at, bad, comment, run, open_tag, close_tag}
use Rattle.vrt_markup.specs.Fronts.{opens_name}
use Rattle.vrt_markup.specs.Views.{Finds}
use Rattle.vrt_markup.specs.declared.items.Item as found
use Rattle.vrt_markup.proofs.Names.{spaceless}
use Rattle.vrt_markup.proofs.Bare.{bare_tag, no_tag}
use Rattle.vrt_markup.proofs.EndTags.{and_both, name_whole, byte_whole}

-- a byte that begins a name isn't one that begins none
other_first : (c k : ℕ) → is_first c ≡ true → is_first k ≡ false → (c == k) ≡ false
other_first c k h e = by_case (c == k) refl
  where
    by_case : (b : Bool) → (c == k) ≡ b → (c == k) ≡ false
    by_case true s =
        let same : c ≡ k = grind (arith, nat_tests, s) in
        absurd (true≢false (sym h ∙ ap is_first same ∙ e))
    by_case false s = s

neither : (a b m : Bool) (u v : List ℕ) (item : Item) (f g : List ℕ → Item) → a ≡ false → b ≡ false → option_case (cond (a && m) (Some u) None) (option_case (cond (b && true) (Some v) None) item f) g ≡ item
neither true b m u v item f g e h = absurd (true≢false e)
neither false true m u v item f g e h = absurd (true≢false h)
neither false false m u v item f g e h = refl

first_front : (r : List ℕ) → has_first r ≡ true → tag_item r ≡ item_at (60 ∷ r)
unfolding item_at
first_front [] h = absurd cc
first_front (c ∷ cs) h = sym (neither (c == 33) (c == 47) _ _ _ _ _ _ (other_first c 33 h refl) (other_first c 47 h refl))

-- the item that begins with a `<` and a name
pub first_item : (t r : List ℕ) → Some r ≡ byte_at 60 t → has_first r ≡ true → tag_item r ≡ item_at t
first_item t r front first = first_front r first ∙ ap item_at (sym (byte_whole 60 t r front))

tag_front : (n r : List ℕ) → is_name n ≡ true → tag_item (n ++ 62 ∷ r) ≡ item_at (60 ∷ n ++ 62 ∷ r)
tag_front [] r h = absurd cc
tag_front (c ∷ cs) r h = first_front (c ∷ cs ++ 62 ∷ r) (and_both (is_first c) (list_all is_later (c ∷ cs)) h).0

-- the item that a start tag without white space is
pub start_item : (t n r : List ℕ) → t ≡ 60 ∷ n ++ 62 ∷ r → is_name n ≡ true → open_tag (record { name = n; pairs = (pairs []).0; empty = false }) r ≡ item_at t
start_item t n r e h =
    ap (λ (x : List Pair × List ℕ). open_tag (record { name = n; pairs = x.0; empty = false }) r) (sym (spaceless (62 ∷ r) refl))
    ∙ bare_tag (n ++ 62 ∷ r) n (62 ∷ r) r false (sym (name_whole n r h)) refl refl
    ∙ tag_front n r h
    ∙ ap item_at (sym e)

-- a text that doesn't begin with a `<` and a name
pub no_opening : (t : List ℕ) → None ≡ byte_at 60 t → opens_name t ≡ false
no_opening t front = sym (ap (λ o. option_case o false has_first) front)

pub no_name : (t r : List ℕ) → Some r ≡ byte_at 60 t → has_first r ≡ false → opens_name t ≡ false
no_name t r front none = sym (ap (λ o. option_case o false has_first) front) ∙ none

-- no tag begins behind its `<`, and no run there
nameless_tag : (cs : List ℕ) → has_first cs ≡ false → tag_item cs ≡ bad
nameless_tag cs none = sym (no_tag cs (sym (ap (λ b. cond b (Some (take (prefix_len is_later cs) cs, drop (prefix_len is_later cs) cs)) None) none)))

no_run : (c : ℕ) (cs : List ℕ) → (c == 60) ≡ true → run_at (c ∷ cs) ≡ bad
no_run c cs e =
    let none : plain_len 60 (c ∷ cs) ≡ 0 = ap (λ b. cond (b || (b || ((c == 38) && not (is_some (entity_at cs))))) 0 (suc (plain_len 60 cs))) e in
    ap (λ n. cond (n == 0) bad (run (take n (c ∷ cs)) (drop n (c ∷ cs)))) none

nameless_case : (c : ℕ) (cs : List ℕ) (b : Bool) → (c == 60) ≡ b → option_case (cond b (Some cs) None) false has_first ≡ false → option_case (cond b (Some cs) None) (run_at (c ∷ cs)) tag_item ≡ run_at (c ∷ cs)
nameless_case c cs true e none = nameless_tag cs none ∙ sym (no_run c cs e)
nameless_case c cs false e none = refl

pub nameless_front : (t : List ℕ) → opens_name t ≡ false → option_case (byte_at 60 t) (run_at t) tag_item ≡ run_at t
nameless_front [] none = refl
nameless_front (c ∷ cs) none = nameless_case c cs (c == 60) refl none

run_is : (t : List ℕ) → None ≡ strip (codes "<!--") t → None ≡ strip (codes "</") t → opens_name t ≡ false → item_at t ≡ run_at t
unfolding item_at
run_is t front end none =
    ap (λ o. option_case o (option_case (strip (codes "</") t) (option_case (byte_at 60 t) (run_at t) tag_item) (λ rest. option_case (close_at rest) bad (λ x. close_tag x.0 x.1))) (λ rest. option_case (after_comment rest) bad comment)) (sym front)
    ∙ ap (λ o. option_case o (option_case (byte_at 60 t) (run_at t) tag_item) (λ rest. option_case (close_at rest) bad (λ x. close_tag x.0 x.1))) (sym end)
    ∙ nameless_front t none

pub run_item : (t : List ℕ) (item : found.Item) → None ≡ strip (codes "<!--") t → None ≡ strip (codes "</") t → opens_name t ≡ false → Finds item (run_at t) → Finds item (item_at t)
run_item t item front end none found_run = subst (Finds item) (sym (run_is t front end none)) found_run
