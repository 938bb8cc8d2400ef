-- A mosaic is met whole.
use Rattle.std.proofs.Common.{◌≡◌, ◌∙◌, ◌⊎◌, ◌-◌, ◌<◌, ◌≤◌, ap, sym, subst, refl, ℕ, suc, List, [], ◌∷◌, length, Bool, Some, None, Result, Ok, Err, arith}
use Rattle.std.specs.Prelude.{All, slice_get}
use Rattle.std.proofs.lemmas.Option.{slice_get_within}
use Rattle.std.proofs.lemmas.List.Elements.{All-cons, All-nil}
use Rattle.lists_and_answers.specs.Lists.{flattened}
use Rattle.vrt_profile.specs.Values.{BandValue, SourceValue}
use Rattle.catalog.specs.declared.kind.Kind.TheVariants as kinds
use Rattle.catalog.specs.declared.faults.WalkFault.{WalkFault}
use Rattle.catalog.specs.declared.faults.WalkFault.TheVariants.{NotRecognized, Malformed, FolderFault}
use Rattle.catalog.specs.declared.links.Link.{Link}
use Rattle.catalog.specs.Mosaics.{sources_of}
use Rattle.catalog.specs.Outcomes.{IsOutside}
use Rattle.catalog.specs.Heads.{kind_in}
use Rattle.catalog.specs.Walk.{Met, dataset_number_in, sources_in, visit, visit_sources}
use Rattle.catalog.specs.Linked.{State, met_of, IsLinked, IsLink, IsLinkOf, IsMosaicAt, IsPath, IsMember, Each, AreMemberRows, Grows, Goes, most, pushed, met_whole}
use Rattle.catalog.specs.Walking.{Seen, Visits, IsOpened, Passes, ReachesRows}
use Rattle.catalog.proofs.States.{grows_trans, grows_pushed, grows_closed, goes_mosaic, stays_open, path_pushed, pushed_at, set_same}
use Rattle.catalog.proofs.Walking.{failed, fault_is, ok≢err}
use Rattle.catalog.proofs.Readings.{read_then}
use Rattle.catalog.proofs.Meetings.{not_met}

-- numbers of what sources name are those of datasets
members_known : (st : State) (base : List ℕ) (ss : List SourceValue) (row : List ℕ) → Each (IsMember st base) ss row → All (λ id. id < length st.links) row
members_known st base [] [] all = All-nil (λ id. id < length st.links)
members_known st base [] (id ∷ ids) all = absurd all
members_known st base (s ∷ ss) [] all = absurd all
members_known st base (s ∷ ss) (id ∷ ids) all =
    let t = all.0 in
    All-cons (λ id. id < length st.links) id ids (slice_get_within st.links id (Some t.link) t.whole) (members_known st base ss ids all.1)

rows_in : (st : State) (base : List ℕ) (bands : List BandValue) (rows : List (List ℕ)) → AreMemberRows st base bands rows → All (λ row. All (λ id. id < length st.links) row) rows
rows_in st base [] [] all = All-nil (λ row. All (λ id. id < length st.links) row)
rows_in st base [] (r ∷ rows) all = absurd all
rows_in st base (b ∷ bands) [] all = absurd all
rows_in st base (b ∷ bands) (r ∷ rows) all = All-cons (λ row. All (λ id. id < length st.links) row) r rows (members_known st base b.sources r all.0) (rows_in st base bands rows all.1)

module _ (verify : Bool) (room : ℕ) (name : List ℕ) (a b c : Seen) (old mid : State) (id : ℕ) (o : IsOpened verify room name a b old mid id) where
  abbrev pub opened_here : IsMosaicAt mid id
  opened_here = record {
    dataset = o.dataset;
    document = o.document;
    at = subst (λ (s : State). slice_get s.datasets id ≡ Some o.dataset) (sym o.is_pushed) (subst (λ (k : ℕ). slice_get (pushed old o.dataset None).datasets k ≡ Some o.dataset) (sym o.number) (pushed_at old o.dataset None));
    content = o.content;
  }

  unmet : dataset_number_in old.datasets o.dataset.head.name ≡ None
  unmet = ap (dataset_number_in old.datasets) o.named ∙ o.fresh

  grows_first : Grows old mid
  grows_first = subst (λ (s : State). Grows old s) (sym o.is_pushed) (grows_pushed old o.dataset None)

  linked_first : IsLinked (pushed old o.dataset None)
  linked_first = subst IsLinked o.is_pushed o.linked

  path_first : (path : List (List ℕ)) → IsPath old path → IsPath mid (name ∷ path)
  path_first path on = subst (λ (s : State). IsPath s (name ∷ path)) (sym o.is_pushed) (subst (λ (n : List ℕ). IsPath (pushed old o.dataset None) (n ∷ path)) o.named (path_pushed old o.dataset path o.first unmet on))

  module _ (new : State) where
    -- what the mosaic's sources name is refused
    pub visits_below : (f : WalkFault) → ((w : IsMosaicAt mid id) → Passes verify (room - 1) w.dataset.head.name (sources_of w.document) b c mid new (λ rows. ReachesRows new (room - 1) w.dataset.head.name w.document.bands rows) (Err f)) → Visits verify room name a c old new (Err f)
    visits_below f passes = record {
      walks = record {
        grows = grows_trans old mid new grows_first p.walks.grows;
        goes = tt;
        read = λ m told walked. tt;
        known = only;
        own = λ n y r. p.walks.own n y (ap (failed (List (List ℕ))) (fault_is ℕ f (Malformed n y) r));
        names = p.walks.names ∙ o.names;
        writes = p.walks.writes ∙ o.writes;
        cause = record {
          later = (let x = o.later in let y = p.walks.cause.later in omega arith);
          failed = λ r. (let x = o.later in let y = p.walks.cause.failed (ap (failed (List (List ℕ))) (fault_is ℕ f FolderFault r)) in omega arith);
        };
      };
      told = λ m told path on.
          subst (λ (r : Result Met WalkFault). IsOutside f ⊎ (r ≡ Err f)) (sym (o.told m told path on))
          (subst (λ (n : List ℕ). IsOutside f ⊎ (visit_sources (λ e k. visit m verify (room - 1) (name ∷ path) e k) n (met_of mid) (sources_of o.document) ≡ Err f)) o.named (p.told m (o.names ∙ told) (name ∷ path) (path_first path on)));
      reads = tt;
      number = tt;
      low = tt;
      again = λ met. absurd (not_met (dataset_number_in old.datasets name) o.fresh met);
      unknown = record { always = λ fault e. absurd (ok≢err (sym o.kind ∙ e)); only = only; file = λ k n e other r. other (let both : Ok k ≡ Ok kinds.Vrt = sym e ∙ o.kind in cc) };
    }
      where
        p : Passes verify (room - 1) o.dataset.head.name (sources_of o.document) b c mid new (λ rows. ReachesRows new (room - 1) o.dataset.head.name o.document.bands rows) (Err f)
        p = passes opened_here

        only : (n : List ℕ) → failed ℕ f ≡ Err (NotRecognized n) → kind_in n ≡ Err (NotRecognized n)
        only n r = p.walks.known n (ap (failed (List (List ℕ))) (fault_is ℕ f (NotRecognized n) r))

    module _ (rows : List (List ℕ)) (deep : room ≤ 16) (passes : (w : IsMosaicAt mid id) → Passes verify (room - 1) w.dataset.head.name (sources_of w.document) b c mid new (λ rows. ReachesRows new (room - 1) w.dataset.head.name w.document.bands rows) (Ok rows)) where
      p : Passes verify (room - 1) o.dataset.head.name (sources_of o.document) b c mid new (λ rows. ReachesRows new (room - 1) o.dataset.head.name o.document.bands rows) (Ok rows)
      p = passes opened_here

      pub rows_known : All (λ row. All (λ id. id < length new.links) row) rows
      rows_known = rows_in new o.dataset.head.name o.document.bands rows p.reached.members

      pub rows_low : most new.links (flattened rows) < 16
      rows_low = (let x = p.reached.low in let y = o.some in omega arith)

      at : slice_get new.datasets id ≡ Some o.dataset
      at = p.walks.grows.datasets id o.dataset opened_here.at

      waits : slice_get new.links id ≡ Some None
      waits = subst (λ (k : ℕ). slice_get new.links k ≡ Some None) (sym o.number)
          (stays_open old new o.dataset (length (sources_of o.document)) o.first unmet linked_first (subst (λ (s : State). Grows s new) o.is_pushed p.walks.grows) (subst (λ (s : State). Goes (length (sources_of o.document)) s new) o.is_pushed p.walks.goes))

      pub open_known : id < length new.links
      open_known = slice_get_within new.links id None waits

      abbrev last : Link
      last = record { height = suc (most new.links (flattened rows)); members = rows }

      link : IsLink new o.dataset last
      link = record {
        content = subst (λ c. IsLinkOf new o.dataset.head.name c last) (sym o.content) (record { rows = p.reached.members; height = refl });
        shallow = (let x = rows_low in omega arith);
      }

      goes : Goes 0 old (met_whole new id last)
      goes = goes_mosaic old new o.dataset id last o.first linked_first unmet
          (subst (λ (n : ℕ). Goes n (pushed old o.dataset None) new) (sym (ap (λ c. length (sources_in c)) o.content)) (subst (λ (s : State). Goes (length (sources_of o.document)) s new) o.is_pushed p.walks.goes))
          at waits link

      closes : Visits verify room name a c old (met_whole new id last) (Ok id)
      closes = record {
        walks = record {
          grows = grows_trans old mid (met_whole new id last) grows_first (grows_trans mid new (met_whole new id last) p.walks.grows (grows_closed new id last waits));
          goes = goes;
          read = λ m told walked. p.walks.read m (o.names ∙ told) (o.read m told walked);
          known = λ n r. absurd (ok≢err r);
          own = λ n y r. absurd (ok≢err r);
          names = p.walks.names ∙ o.names;
          writes = p.walks.writes ∙ o.writes;
          cause = record { later = (let x = o.later in let y = p.walks.cause.later in omega arith); failed = λ r. absurd (ok≢err r) };
        };
        told = λ m told path on.
            o.told m told path on
            ∙ subst (λ (n : List ℕ). visit_sources (λ e k. visit m verify (room - 1) (name ∷ path) e k) n (met_of mid) (sources_of o.document) ≡ Ok (met_of new)) o.named (p.told m (o.names ∙ told) (name ∷ path) (path_first path on));
        reads = read_then verify a.reads b.reads c.reads old.datasets mid.datasets new.datasets o.reads p.reads;
        number = ap (dataset_number_in new.datasets) (sym o.named) ∙ goes.linked.apart id o.dataset at;
        low = record { dataset = o.dataset; link = last; met = record { at = at; whole = set_same new.links id (Some last) open_known }; low = (let x = p.reached.low in let y = o.some in omega arith) };
        again = λ met. absurd (not_met (dataset_number_in old.datasets name) o.fresh met);
        unknown = record { always = λ fault e. absurd (ok≢err (sym o.kind ∙ e)); only = λ n r. absurd (ok≢err r); file = λ k n e other r. ok≢err r };
      }

      -- its sources were gone through
      pub visits_closed : (last_state : State) → last_state ≡ met_whole new id (record { height = suc (most new.links (flattened rows)); members = rows }) → Visits verify room name a c old last_state (Ok id)
      visits_closed last_state is = subst (λ (s : State). Visits verify room name a c old s (Ok id)) (sym is) closes
