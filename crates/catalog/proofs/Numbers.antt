-- The numbers of datasets.
use Rattle.std.proofs.Common.{◌≡◌, ◌∙◌, ◌⊎◌, inl, inr, ◌+◌, ap, sym, subst, refl, cond, ℕ, zero, suc, List, [], ◌∷◌, ◌++◌, length, Bool, true, false, Option, Some, None, is_some, arith, true≢false, bytes_eq}
use Rattle.std.specs.Prelude.{slice_get}
use Rattle.std.proofs.lemmas.Slice.Eq.{bytes_eq-Decides}
use Rattle.catalog.specs.Drivers.{Dataset}
use Rattle.catalog.specs.Walk.{number_from, dataset_number_in, IsApart}

none≢some : {T : Type 0} {x : T} → None ≡ Some x → ⊥
none≢some e = true≢false (sym (ap is_some e))

some_injective : {T : Type 0} {x y : T} → Some x ≡ Some y → x ≡ y
some_injective e = cc

-- the numbers from one dataset on, by the test of its name
by_name : ℕ → List Dataset → List ℕ → Bool → Option ℕ
by_name at cs name b = cond b (Some at) (number_from (suc at) cs name)

behind_step : (at : ℕ) (c : Dataset) (cs : List Dataset) (d : Dataset) (name : List ℕ) (b : Bool) → bytes_eq c.head.name name ≡ b → by_name at cs name b ≡ None
    → (number_from (suc at) cs name ≡ None → number_from (suc at) (cs ++ d ∷ []) name ≡ Some (suc at + length cs)) → by_name at (cs ++ d ∷ []) name b ≡ Some (at + length (c ∷ cs))
unfolding by_name
behind_step at c cs d name true e none rest = absurd (none≢some (sym none))
behind_step at c cs d name false e none rest = rest none ∙ ap Some (omega arith)

-- a name that none of them has
number_behind : (at : ℕ) (cat : List Dataset) (d : Dataset) (name : List ℕ) → number_from at cat name ≡ None → d.head.name ≡ name → number_from at (cat ++ d ∷ []) name ≡ Some (at + length cat)
unfolding by_name
number_behind at [] d name none is = ap (λ b. cond b (Some at) None) ((bytes_eq-Decides d.head.name name).1 is) ∙ ap Some (omega arith)
number_behind at (c ∷ cs) d name none is = behind_step at c cs d name (bytes_eq c.head.name name) refl none (λ h. number_behind (suc at) cs d name h is)

kept_step : (at : ℕ) (cs : List Dataset) (d : Dataset) (name : List ℕ) (id : ℕ) (b : Bool) → by_name at cs name b ≡ Some id
    → (number_from (suc at) cs name ≡ Some id → number_from (suc at) (cs ++ d ∷ []) name ≡ Some id) → by_name at (cs ++ d ∷ []) name b ≡ Some id
unfolding by_name
kept_step at cs d name id true is rest = is
kept_step at cs d name id false is rest = rest is

-- a name that one of them has
pub number_kept : (at : ℕ) (cat : List Dataset) (d : Dataset) (name : List ℕ) (id : ℕ) → number_from at cat name ≡ Some id → number_from at (cat ++ d ∷ []) name ≡ Some id
unfolding by_name
number_kept at [] d name id is = absurd (none≢some is)
number_kept at (c ∷ cs) d name id is = kept_step at cs d name id (bytes_eq c.head.name name) is (λ h. number_kept (suc at) cs d name id h)

-- a dataset among those before, or the last
found_in_front : (cat : List Dataset) (d e : Dataset) (id : ℕ) → slice_get (cat ++ d ∷ []) id ≡ Some e → (slice_get cat id ≡ Some e) ⊎ ((e ≡ d) × (id ≡ length cat))
found_in_front [] d e zero is = inr (some_injective (sym is), refl)
found_in_front [] d e (suc id) is = absurd (none≢some is)
found_in_front (c ∷ cs) d e zero is = inl is
found_in_front (c ∷ cs) d e (suc id) is = map_⊎ (found_in_front cs d e id is)
  where
    map_⊎ : (slice_get cs id ≡ Some e) ⊎ ((e ≡ d) × (id ≡ length cs)) → (slice_get (c ∷ cs) (suc id) ≡ Some e) ⊎ ((e ≡ d) × (suc id ≡ length (c ∷ cs)))
    map_⊎ (inl h) = inl h
    map_⊎ (inr h) = inr (h.0, ap suc h.1)

-- the number of a dataset that is added
pub number_of_added : (cat : List Dataset) (d : Dataset) (name : List ℕ) → dataset_number_in cat name ≡ None → d.head.name ≡ name → dataset_number_in (cat ++ d ∷ []) name ≡ Some (length cat)
number_of_added cat d name none is = number_behind 0 cat d name none is ∙ ap Some (omega arith)

-- each is found under its name, and the one more too
pub apart_more : (cat : List Dataset) (d : Dataset) → IsApart cat → dataset_number_in cat d.head.name ≡ None → IsApart (cat ++ d ∷ [])
apart_more cat d apart fresh = λ id e at. by_place id e (found_in_front cat d e id at)
  where
    by_place : (id : ℕ) (e : Dataset) → (slice_get cat id ≡ Some e) ⊎ ((e ≡ d) × (id ≡ length cat)) → dataset_number_in (cat ++ d ∷ []) e.head.name ≡ Some id
    by_place id e (inl before) = number_kept 0 cat d e.head.name id (apart id e before)
    by_place id e (inr last) =
        let named : d.head.name ≡ e.head.name = ap (λ (x : Dataset). x.head.name) (sym last.0) in
        number_of_added cat d e.head.name (subst (λ n. dataset_number_in cat n ≡ None) named fresh) named ∙ ap Some (sym last.1)

other_step : (at : ℕ) (cs : List Dataset) (d : Dataset) (name : List ℕ) (b : Bool) → by_name at cs name b ≡ None → (number_from (suc at) cs name ≡ None → number_from (suc at) (cs ++ d ∷ []) name ≡ None) → by_name at (cs ++ d ∷ []) name b ≡ None
unfolding by_name
other_step at cs d name true none rest = absurd (none≢some (sym none))
other_step at cs d name false none rest = rest none

-- a name that none of them has, nor what is added
pub number_of_other : (at : ℕ) (cat : List Dataset) (d : Dataset) (name : List ℕ) → number_from at cat name ≡ None → bytes_eq d.head.name name ≡ false → number_from at (cat ++ d ∷ []) name ≡ None
unfolding by_name
number_of_other at [] d name none other = ap (λ b. cond b (Some at) None) other
number_of_other at (c ∷ cs) d name none other = other_step at cs d name (bytes_eq c.head.name name) none (λ h. number_of_other (suc at) cs d name h other)
