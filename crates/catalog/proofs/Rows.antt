-- Rows of numbers of datasets.
use Rattle.std.proofs.Common.{◌≡◌, ◌∙◌, ◌+◌, ◌<◌, ◌≤◌, ap, sym, refl, cond, ℕ, suc, List, [], ◌∷◌, ◌++◌, length, drop, get_or, Bool, true, false, Option, Some, None, arith, add-one, drop-cons}
use Rattle.std.specs.Prelude.{All, max, nat_lt}
use Rattle.std.proofs.lemmas.Bool.Decides.{nat_tests}
use Rattle.std.proofs.lemmas.List.Elements.{All-cons, All-nil}
use Rattle.std.proofs.lemmas.Option.{slice_get_within}
use Rattle.lists_and_answers.specs.Lists.{flattened}
use Rattle.vrt_profile.specs.Values.{SourceValue, BandValue}
use Rattle.catalog.specs.declared.links.Link.{Link}
use Rattle.catalog.specs.Linked.{State, IsMember, Each, AreMemberRows, height_at, most, first_above}

pub most_append : (links : List (Option Link)) (a b : List ℕ) → most links (a ++ b) ≡ max (most links a) (most links b)
most_append links [] b = omega arith
most_append links (id ∷ ids) b = omega (arith, most_append links ids b)

-- one item more is looked at
pub most_step : (links : List (Option Link)) (ids : List ℕ) (i id height : ℕ) → i < length ids → id ≡ get_or ids i id → max height (most links (drop i ids)) ≡ most links ids → max (max height (height_at links id)) (most links (drop (i + 1) ids)) ≡ most links ids
most_step links ids i id height within is before =
    let rest : drop i ids ≡ id ∷ drop (i + 1) ids = drop-cons ids i id within ∙ ap (λ x. x ∷ drop (suc i) ids) (sym is) ∙ ap (λ n. id ∷ drop n ids) (sym (add-one i)) in
    let e : most links (drop i ids) ≡ max (height_at links id) (most links (drop (i + 1) ids)) = ap (most links) rest in
    omega arith

-- one row more is looked at
pub most_rows : (links : List (Option Link)) (rows : List (List ℕ)) (i : ℕ) (row : List ℕ) (height : ℕ) → i < length rows → row ≡ get_or rows i row → max height (most links (flattened (drop i rows))) ≡ most links (flattened rows) → max (max height (most links row)) (most links (flattened (drop (i + 1) rows))) ≡ most links (flattened rows)
most_rows links rows i row height within is before =
    let rest : drop i rows ≡ row ∷ drop (i + 1) rows = drop-cons rows i row within ∙ ap (λ x. x ∷ drop (suc i) rows) (sym is) ∙ ap (λ n. row ∷ drop n rows) (sym (add-one i)) in
    let e : most links (flattened (drop i rows)) ≡ max (most links row) (most links (flattened (drop (i + 1) rows))) = ap (λ rs. most links (flattened rs)) rest ∙ most_append links row (flattened (drop (i + 1) rows)) in
    omega arith

above_cons : (links : List (Option Link)) (room : ℕ) (ids : List ℕ) (i id : ℕ) → i < length ids → id ≡ get_or ids i id → first_above links room (drop i ids) ≡ cond (nat_lt room (height_at links id)) (Some id) (first_above links room (drop (i + 1) ids))
above_cons links room ids i id within is = ap (first_above links room) (drop-cons ids i id within ∙ ap (λ x. x ∷ drop (suc i) ids) (sym is) ∙ ap (λ n. id ∷ drop n ids) (sym (add-one i)))

pub above_passed : (links : List (Option Link)) (room : ℕ) (ids : List ℕ) (i id : ℕ) (all : Option ℕ) → i < length ids → id ≡ get_or ids i id → height_at links id ≤ room → first_above links room (drop i ids) ≡ all → first_above links room (drop (i + 1) ids) ≡ all
above_passed links room ids i id all within is low before =
    let test : nat_lt room (height_at links id) ≡ false = grind (arith, nat_tests) in
    sym (above_cons links room ids i id within is ∙ ap (λ b. cond b (Some id) (first_above links room (drop (i + 1) ids))) test) ∙ before

pub above_met : (links : List (Option Link)) (room : ℕ) (ids : List ℕ) (i id : ℕ) (all : Option ℕ) → i < length ids → id ≡ get_or ids i id → room < height_at links id → first_above links room (drop i ids) ≡ all → Some id ≡ all
above_met links room ids i id all within is high before =
    let test : nat_lt room (height_at links id) ≡ true = grind (arith, nat_tests) in
    sym (above_cons links room ids i id within is ∙ ap (λ b. cond b (Some id) (first_above links room (drop (i + 1) ids))) test) ∙ before

or_else : Option ℕ → Option ℕ → Option ℕ
or_else None b = b
or_else (Some a) b = Some a

above_append : (links : List (Option Link)) (room : ℕ) (a b : List ℕ) → first_above links room (a ++ b) ≡ or_else (first_above links room a) (first_above links room b)
unfolding or_else
above_append links room [] b = refl
above_append links room (id ∷ ids) b = by_test (nat_lt room (height_at links id)) (above_append links room ids b)
  where
    by_test : (t : Bool) → first_above links room (ids ++ b) ≡ or_else (first_above links room ids) (first_above links room b) → cond t (Some id) (first_above links room (ids ++ b)) ≡ or_else (cond t (Some id) (first_above links room ids)) (first_above links room b)
    by_test true rest = refl
    by_test false rest = rest

rows_cons : (links : List (Option Link)) (room : ℕ) (rows : List (List ℕ)) (i : ℕ) (row : List ℕ) → i < length rows → row ≡ get_or rows i row → first_above links room (flattened (drop i rows)) ≡ or_else (first_above links room row) (first_above links room (flattened (drop (i + 1) rows)))
rows_cons links room rows i row within is =
    ap (λ rs. first_above links room (flattened rs)) (drop-cons rows i row within ∙ ap (λ x. x ∷ drop (suc i) rows) (sym is) ∙ ap (λ n. row ∷ drop n rows) (sym (add-one i)))
    ∙ above_append links room row (flattened (drop (i + 1) rows))

pub row_passed : (links : List (Option Link)) (room : ℕ) (rows : List (List ℕ)) (i : ℕ) (row : List ℕ) (all : Option ℕ) → i < length rows → row ≡ get_or rows i row → None ≡ first_above links room row → first_above links room (flattened (drop i rows)) ≡ all → first_above links room (flattened (drop (i + 1) rows)) ≡ all
unfolding or_else
row_passed links room rows i row all within is none before = sym (rows_cons links room rows i row within is ∙ ap (λ o. or_else o (first_above links room (flattened (drop (i + 1) rows)))) (sym none)) ∙ before

pub row_met : (links : List (Option Link)) (room : ℕ) (rows : List (List ℕ)) (i : ℕ) (row : List ℕ) (id : ℕ) (all : Option ℕ) → i < length rows → row ≡ get_or rows i row → Some id ≡ first_above links room row → first_above links room (flattened (drop i rows)) ≡ all → Some id ≡ all
unfolding or_else
row_met links room rows i row id all within is some before = sym (rows_cons links room rows i row within is ∙ ap (λ o. or_else o (first_above links room (flattened (drop (i + 1) rows)))) (sym some)) ∙ before

-- the numbers that sources name are those of datasets

members_known : (st : State) (base : List ℕ) (ss : List SourceValue) (ids : List ℕ) → Each (IsMember st base) ss ids → All (λ id. id < length st.links) ids
members_known st base [] [] all = All-nil (λ id. id < length st.links)
members_known st base [] (id ∷ ids) all = absurd all
members_known st base (s ∷ ss) [] all = absurd all
members_known st base (s ∷ ss) (id ∷ ids) all = All-cons (λ id. id < length st.links) id ids (slice_get_within st.links id (Some all.0.link) all.0.whole) (members_known st base ss ids all.1)

pub rows_known : (st : State) (base : List ℕ) (bands : List BandValue) (rows : List (List ℕ)) → AreMemberRows st base bands rows → All (λ row. All (λ id. id < length st.links) row) rows
rows_known st base [] [] all = All-nil (λ row. All (λ id. id < length st.links) row)
rows_known st base [] (row ∷ rows) all = absurd all
rows_known st base (b ∷ bands) [] all = absurd all
rows_known st base (b ∷ bands) (row ∷ rows) all = All-cons (λ row. All (λ id. id < length st.links) row) row rows (members_known st base b.sources row all.0) (rows_known st base bands rows all.1)
