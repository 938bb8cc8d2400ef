-- Catalogs: nothing is open in them.
use Rattle.std.proofs.Common.{◌≡◌, ◌∙◌, ap, sym, subst, refl, ℕ, List, [], length, take, true, false, Option, Some, None, arith, true≢false}
use Rattle.std.specs.Prelude.{All, slice_get}
use Rattle.std.proofs.lemmas.Option.{slice_get_within, get_or_from_slice_get}
use Rattle.catalog.specs.declared.links.Link.{Link}
use Rattle.catalog.specs.Drivers.{Dataset}
use Rattle.catalog.specs.Walk.{dataset_number_in, sources_among, IsNested}
use Rattle.catalog.specs.Linked.{State, is_open, Grows, Goes, IsWholeWalk, IsPath, cut_to}
use Rattle.catalog.proofs.Found.{found}
use Rattle.catalog.proofs.Heights.{nested_is}
use Rattle.catalog.proofs.States.{open_known, open_unknown, item_there, front_stays}

-- no name is open
pub none_open : (st : State) → IsWholeWalk st → (name : List ℕ) → is_open st name ≡ false
none_open st whole name = by_number (dataset_number_in st.datasets name) refl
  where
    by_number : (o : Option ℕ) → dataset_number_in st.datasets name ≡ o → is_open st name ≡ false
    by_number None none = open_unknown st name none
    by_number (Some id) is =
        let f = found st.datasets name id is in
        let there = item_there st.links id (omega (arith, slice_get_within st.datasets id f.dataset f.at, whole.linked.long)) in
        let shut = whole.closed id there.0 there.1 in
        open_known st name id (Some (Some shut.0)) is (there.1 ∙ ap Some shut.1)

-- so the path is empty
pub whole_path : (st : State) → IsWholeWalk st → IsPath st []
whole_path st whole name = sym (none_open st whole name)

-- a walk that ends leaves nothing open
pub whole_goes : (old new : State) → IsWholeWalk old → Goes 0 old new → IsWholeWalk new
whole_goes old new whole goes = record {
  linked = goes.linked;
  catalog = record {
    each = goes.linked.each;
    few = goes.linked.few;
    sources = omega (arith, goes.linked.sources, counted);
    apart = goes.linked.apart;
    nested = nested;
  };
  closed = shut;
  counted = counted;
}
  where
    counted : new.sources ≡ sources_among new.datasets
    counted = let a = goes.counted in let b = whole.counted in omega arith

    by_link : (id : ℕ) (x : Option Link) → slice_get new.links id ≡ Some x → (l : Link) × (x ≡ Some l)
    by_link id (Some l) is = (l, refl)
    by_link id None is =
        let there = item_there new.datasets id (omega (arith, slice_get_within new.links id None is, goes.linked.long)) in
        let waits : is_open new there.0.head.name ≡ true = open_known new there.0.head.name id (Some None) (goes.linked.apart id there.0 there.1) is in
        absurd (true≢false (sym waits ∙ sym (goes.same_open there.0.head.name) ∙ none_open old whole there.0.head.name))

    shut : (id : ℕ) (x : Option Link) → slice_get new.links id ≡ Some x → (l : Link) × (x ≡ Some l)
    shut id x is = by_link id x is

    nested : All (λ d. IsNested 16 new.datasets d) new.datasets
    nested k d within =
        let there = item_there new.datasets k within in
        let link = item_there new.links k (omega (arith, goes.linked.long)) in
        let l = shut k link.0 link.1 in
        let at : slice_get new.links k ≡ Some (Some l.0) = link.1 ∙ ap Some l.1 in
        subst (λ (x : Dataset). IsNested 16 new.datasets x) (sym (get_or_from_slice_get new.datasets k there.0 d there.1))
        (nested_is 16 new goes.linked k there.0 l.0 (record { at = there.1; whole = at }) (goes.linked.whole k there.0 l.0 there.1 at).shallow)

-- what a walk met before it was refused is as it was
pub cut_back : (old new : State) → IsWholeWalk old → Grows old new → cut_to new (length old.datasets) old.sources ≡ old
cut_back old new whole grows =
    let datasets : take (length old.datasets) new.datasets ≡ old.datasets = front_stays old.datasets new.datasets grows.datasets in
    let links : take (length old.datasets) new.links ≡ old.links = ap (λ n. take n new.links) (sym whole.linked.long) ∙ front_stays old.links new.links (λ id x is. stays id x is (whole.closed id x is)) in
    λ i. record { datasets = datasets i; links = links i; sources = old.sources }
  where
    stays : (id : ℕ) (x : Option Link) → slice_get old.links id ≡ Some x → (l : Link) × (x ≡ Some l) → slice_get new.links id ≡ Some x
    stays id x is shut = grows.links id shut.0 (is ∙ ap Some shut.1) ∙ ap Some (sym shut.1)
