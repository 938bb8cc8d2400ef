-- How the visit of a name begins.
use Rattle.std.proofs.Common.{◌≡◌, ◌∙◌, ◌⊎◌, inl, inr, ◌+◌, ◌-◌, ◌<◌, ◌≤◌, ap, sym, subst, refl, ℕ, zero, suc, List, [], ◌∷◌, ◌++◌, length, Bool, Option, Some, None, is_some, IsTrue, Result, Ok, Err, arith, true≢false}
use Rattle.std.specs.Prelude.{slice_get, ok_or, option_and_then}
use Rattle.outside.specs.Outside.{Files}
use Rattle.outside.specs.Causes.{HasCause}
use Rattle.outside.specs.Names.{extension_of}
use Rattle.vrt_profile.specs.Values.{DocumentValue}
use Rattle.catalog.specs.declared.kind.Kind.{Kind}
use Rattle.catalog.specs.declared.kind.Kind.TheVariants as kinds
use Rattle.catalog.specs.declared.driver.DriverHead.{DriverHead}
use Rattle.catalog.specs.declared.driver.Content.TheVariants.{File, Mosaic}
use Rattle.catalog.specs.declared.faults.LimitKind.TheVariants as limits
use Rattle.catalog.specs.declared.faults.Bad.{Bad}
use Rattle.catalog.specs.declared.faults.WalkFault.{WalkFault}
use Rattle.catalog.specs.declared.faults.WalkFault.TheVariants.{NotRecognized, Malformed, TooDeep, Limit, FolderFault, Memory}
use Rattle.catalog.specs.declared.links.Link.{Link}
use Rattle.catalog.specs.Dataset.{DatasetHead}
use Rattle.catalog.specs.Drivers.{Dataset, content_head}
use Rattle.catalog.specs.Mosaics.{sources_of}
use Rattle.catalog.specs.Outcomes.{IsOutside, IsMemory}
use Rattle.catalog.specs.Heads.{kind_in, kind_of, dataset_by}
use Rattle.catalog.specs.OwnFiles.{IsOfFile}
use Rattle.catalog.proofs.Headers.{never_unknown, owns_fault}
use Rattle.catalog.specs.Walk.{dataset_number_in, room_for, sources_in, visit, visit_sources, IsDataset, IsWalked}
use Rattle.catalog.specs.Readings.{calls_to_open}
use Rattle.catalog.specs.Linked.{State, met_of, IsLinked, IsLink, IsLinkOf, IsPath, IsLow, Grows, pushed}
use Rattle.catalog.specs.Walking.{Seen, IsOrdinaryFault, WalksOn, ReadsOnce, Visits, IsOpened}
use Rattle.catalog.proofs.States.{grows_refl, grows_pushed, goes_file, linked_pushed, open_unknown, pushed_at, last_item}
use Rattle.catalog.proofs.Walking.{failed, fault_is, ok≢err, plain_known, walks_none, walks_plain}
use Rattle.catalog.proofs.Visits.{IsFirst, visit_unknown, visit_deep, visit_limit, visit_unread, visit_file, visit_mosaic}
use Rattle.catalog.proofs.Readings.{one_more_read}
use Rattle.catalog.proofs.Walked.{one_more_walked, read_so}

none≢some : {T : Type 0} {x : T} → None ≡ Some x → ⊥
none≢some e = cc

pub no_some : {T : Type 0} (o : Option T) → ((x : T) → o ≡ Some x → ⊥) → o ≡ None
no_some None h = refl
no_some (Some x) h = absurd (h x refl)

-- want of memory comes from outside
pub from_memory : {T : Type 0} (f : WalkFault) {r : Result T WalkFault} → IsMemory f ⊎ (r ≡ Err f) → IsOutside f ⊎ (r ≡ Err f)
from_memory f (inl free) = inl (subst IsOutside (sym free) tt)
from_memory f (inr is) = inr is

pub not_met : (o : Option ℕ) → o ≡ None → IsTrue (is_some o) → ⊥
not_met o none is = true≢false (sym is ∙ ap is_some none)

module _ (verify : Bool) (room : ℕ) (name : List ℕ) where
  -- a plain refusal of a name that tells its kind
  pub visits_plain : (a : Seen) (st : State) (kind : Kind) (f : WalkFault) → kind_in name ≡ Ok kind → IsOrdinaryFault f → ((m : Files) (path : List (List ℕ)) → IsPath st path → IsOutside f ⊎ (visit m verify room path (met_of st) name ≡ Err f)) → Visits verify room name a a st st (Err f)
  visits_plain a st kind f is plain told =
      let walks : WalksOn 0 a a st st (failed ℕ f) = walks_plain ℕ 0 a st st f (grows_refl st) plain in
      record {
        walks = walks;
        told = λ m names path on. told m path on;
        reads = tt;
        number = tt;
        low = tt;
        again = λ met. record { reads = refl; faults = refl };
        unknown = record {
          always = λ fault e. absurd (ok≢err (sym is ∙ e));
          only = walks.known;
          file = λ k n e other r. plain_known f n plain (fault_is ℕ f (NotRecognized n) r);
        };
      }

  -- a name that tells no kind
  pub visits_unknown : (a : Seen) (st : State) (f : WalkFault) → IsMemory f ⊎ (kind_in name ≡ Err f) → Visits verify room name a a st st (Err f)
  visits_unknown a st f (inl free) = record {
    walks = walks;
    told = λ m names path on. inl (subst IsOutside (sym free) tt);
    reads = tt;
    number = tt;
    low = tt;
    again = λ met. record { reads = refl; faults = refl };
    unknown = record { always = λ fault e. inr (ap Err free); only = walks.known; file = λ k n e other r. plain_known f n plain (fault_is ℕ f (NotRecognized n) r) };
  }
    where
      plain : IsOrdinaryFault f
      plain = subst IsOrdinaryFault (sym free) tt

      walks : WalksOn 0 a a st st (failed ℕ f)
      walks = walks_plain ℕ 0 a st st f (grows_refl st) plain
  visits_unknown a st f (inr is) = record {
    walks = record {
      grows = grows_refl st;
      goes = tt;
      read = λ m told walked. tt;
      known = only;
      own = λ k b r. absurd (malformed k b (sym named ∙ fault_is ℕ f (Malformed k b) r));
      names = refl;
      writes = refl;
      cause = record { later = omega arith; failed = λ r. absurd (folder (sym named ∙ fault_is ℕ f FolderFault r)) };
    };
    told = λ m names path on. inr (visit_unknown m verify room path (met_of st) name f is);
    reads = tt;
    number = tt;
    low = tt;
    again = λ met. record { reads = refl; faults = refl };
    unknown = record {
      always = λ fault e. inl (ap (failed ℕ) (fault_is Kind f fault (sym is ∙ e)));
      only = only;
      file = λ k n e other r. ok≢err (sym e ∙ is);
    };
  }
    where
      by_kind : (o : Option Kind) → ok_or o (NotRecognized name) ≡ Err f → f ≡ NotRecognized name
      by_kind (Some k) e = absurd (ok≢err e)
      by_kind None e = sym (fault_is Kind (NotRecognized name) f e)

      named : f ≡ NotRecognized name
      named = by_kind (option_and_then kind_of (extension_of name)) is

      malformed : (k : List ℕ) (b : Bad) → NotRecognized name ≡ Malformed k b → ⊥
      malformed k b e = cc

      folder : NotRecognized name ≡ FolderFault → ⊥
      folder e = cc

      only : (n : List ℕ) → failed ℕ f ≡ Err (NotRecognized n) → kind_in n ≡ Err (NotRecognized n)
      only n r =
          let both : NotRecognized name ≡ NotRecognized n = sym named ∙ fault_is ℕ f (NotRecognized n) r in
          let same : name ≡ n = cc in
          subst (λ k. kind_in k ≡ Err (NotRecognized k)) same (is ∙ ap Err named)

  -- a name that was met
  pub visits_known : (a : Seen) (st : State) (kind : Kind) (id : ℕ) → IsLinked st → kind_in name ≡ Ok kind → dataset_number_in st.datasets name ≡ Some id → IsLow st id room → ((m : Files) (path : List (List ℕ)) → IsPath st path → visit m verify room path (met_of st) name ≡ Ok (met_of st)) → Visits verify room name a a st st (Ok id)
  visits_known a st kind id linked is number low told = record {
    walks = walks_none a st id linked;
    told = λ m names path on. told m path on;
    reads = omega arith;
    number = number;
    low = low;
    again = λ met. record { reads = refl; faults = refl };
    unknown = record { always = λ fault e. absurd (ok≢err (sym is ∙ e)); only = λ n r. absurd (ok≢err r); file = λ k n e other r. ok≢err r };
  }

  -- a mosaic for which there is no room
  pub visits_deep : (a : Seen) (st : State) → dataset_number_in st.datasets name ≡ None → kind_in name ≡ Ok kinds.Vrt → room ≡ 0 → Visits verify room name a a st st (Err (TooDeep name))
  visits_deep a st fresh is none = visits_plain a st kinds.Vrt (TooDeep name) is tt (λ m path on. inr (ap (λ r. visit m verify r path (met_of st) name) none ∙ visit_deep m verify path (met_of st) name is (on name ∙ open_unknown st name fresh)))

  module _ (kind : Kind) (st : State) (is : kind_in name ≡ Ok kind) (shallow : room_for room kind name ≡ Ok tt) (fresh : dataset_number_in st.datasets name ≡ None) where
    first : (path : List (List ℕ)) → IsPath st path → IsFirst room path (met_of st) name kind
    first path on = record { kind_is = is; off = on name ∙ open_unknown st name fresh; shallow = shallow; fresh = fresh }

    -- one dataset too many
    pub visits_full : (a : Seen) → 65536 ≤ length st.datasets → Visits verify room name a a st st (Err (Limit limits.Files 65537))
    visits_full a full = visits_plain a st kind (Limit limits.Files 65537) is tt (λ m path on. inr (visit_limit m verify room path (met_of st) name kind (first path on) full))

    module _ (a b : Seen) (few : length st.datasets < 65536) (names : b.names ≡ a.names) (writes : b.writes ≡ a.writes) where
      -- its own files are refused
      pub visits_unread : (f : WalkFault) → ((m : Files) → a.names ≡ Some m → IsOutside f ⊎ (dataset_by kind m verify name ≡ Err f)) → HasCause FolderFault a.faults b.faults (failed Dataset f) → IsOfFile f → Visits verify room name a b st st (Err f)
      visits_unread f told cause of_file = record {
        walks = record {
          grows = grows_refl st;
          goes = tt;
          read = λ m t walked. tt;
          known = λ n r. absurd (never_unknown f n of_file (fault_is ℕ f (NotRecognized n) r));
          own = λ n y r. owns_fault f n y of_file (fault_is ℕ f (Malformed n y) r);
          names = names;
          writes = writes;
          cause = record { later = cause.later; failed = λ r. cause.failed (ap (failed Dataset) (fault_is ℕ f FolderFault r)) };
        };
        told = λ m t path on. by_told m path on (told m t);
        reads = tt;
        number = tt;
        low = tt;
        again = λ met. absurd (not_met (dataset_number_in st.datasets name) fresh met);
        unknown = record {
          always = λ fault e. absurd (ok≢err (sym is ∙ e));
          only = λ n r. absurd (never_unknown f n of_file (fault_is ℕ f (NotRecognized n) r));
          file = λ k n e other r. never_unknown f n of_file (fault_is ℕ f (NotRecognized n) r);
        };
      }
        where
          by_told : (m : Files) (path : List (List ℕ)) → IsPath st path → IsOutside f ⊎ (dataset_by kind m verify name ≡ Err f) → IsOutside f ⊎ (visit m verify room path (met_of st) name ≡ Err f)
          by_told m path on (inl free) = inl free
          by_told m path on (inr r) = inr (visit_unread m verify room path (met_of st) name kind f (first path on) few r)

      -- memory is refused for it
      pub visits_memory : (new : State) (f : WalkFault) → f ≡ Memory → Grows st new → a.faults ≤ b.faults → Visits verify room name a b st new (Err f)
      visits_memory new f free grows later = record {
        walks = record {
          grows = grows;
          goes = tt;
          read = λ m t walked. tt;
          known = λ n r. absurd (plain_known f n plain (fault_is ℕ f (NotRecognized n) r));
          own = λ n y r. absurd (malformed n y (sym free ∙ fault_is ℕ f (Malformed n y) r));
          names = names;
          writes = writes;
          cause = record { later = later; failed = λ r. absurd (folder (sym free ∙ fault_is ℕ f FolderFault r)) };
        };
        told = λ m t path on. inl (subst IsOutside (sym free) tt);
        reads = tt;
        number = tt;
        low = tt;
        again = λ met. absurd (not_met (dataset_number_in st.datasets name) fresh met);
        unknown = record {
          always = λ fault e. absurd (ok≢err (sym is ∙ e));
          only = λ n r. absurd (plain_known f n plain (fault_is ℕ f (NotRecognized n) r));
          file = λ k n e other r. plain_known f n plain (fault_is ℕ f (NotRecognized n) r);
        };
      }
        where
          plain : IsOrdinaryFault f
          plain = subst IsOrdinaryFault (sym free) tt

          malformed : (k : List ℕ) (y : Bad) → Memory ≡ Malformed k y → ⊥
          malformed k y e = cc

          folder : Memory ≡ FolderFault → ⊥
          folder e = cc

      module _ (linked : IsLinked st) (d : Dataset) (valid : IsDataset d) (named : d.head.name ≡ name) (told : (m : Files) → a.names ≡ Some m → dataset_by kind m verify name ≡ Ok d) (later : a.faults ≤ b.faults) (read : b.reads ≤ a.reads + calls_to_open verify d) where
        unmet : dataset_number_in st.datasets d.head.name ≡ None
        unmet = ap (dataset_number_in st.datasets) named ∙ fresh

        walked_more : (m : Files) → a.names ≡ Some m → IsWalked m st.datasets → IsWalked m (st.datasets ++ d ∷ [])
        walked_more m t walked = one_more_walked m st.datasets d walked (read_so m verify name kind d is (told m t) named)

        -- a file is met whole at once
        pub visits_file : (new : State) (id : ℕ) (h : DriverHead) (l : Link) → d.content ≡ File h → l ≡ record { height = 0; members = [] } → new ≡ pushed st d (Some l) → id ≡ length st.datasets → Visits verify room name a b st new (Ok id)
        visits_file new id h l content flat is_pushed number =
            subst (λ (n : State). Visits verify room name a b st n (Ok id)) (sym is_pushed) (subst (λ (k : ℕ). Visits verify room name a b st (pushed st d (Some l)) (Ok k)) (sym number) whole)
          where
            none : sources_in d.content ≡ []
            none = ap sources_in content

            low : l.height ≡ 0
            low = ap (λ (x : Link). x.height) flat

            link : IsLink (pushed st d (Some l)) d l
            link = record { content = subst (λ c. IsLinkOf (pushed st d (Some l)) d.head.name c l) (sym content) low; shallow = omega (arith, low) }

            linked' : IsLinked (pushed st d (Some l))
            linked' = linked_pushed st d (Some l) linked few unmet valid (λ k e. (let same : l ≡ k = cc in subst (λ x. IsLink (pushed st d (Some l)) d x) same link))

            whole : Visits verify room name a b st (pushed st d (Some l)) (Ok (length st.datasets))
            whole = record {
              walks = record {
                grows = grows_pushed st d (Some l);
                goes = goes_file st d l linked linked' unmet none;
                read = walked_more;
                known = λ n r. absurd (ok≢err r);
                own = λ n y r. absurd (ok≢err r);
                names = names;
                writes = writes;
                cause = record { later = later; failed = λ r. absurd (ok≢err r) };
              };
              told = λ m t path on. visit_file m verify room path (met_of st) name kind d (first path on) few (told m t) none;
              reads = one_more_read verify a.reads b.reads st.datasets d read;
              number = ap (dataset_number_in (st.datasets ++ d ∷ [])) (sym named) ∙ linked'.apart (length st.datasets) d (pushed_at st d (Some l));
              low = record { dataset = d; link = l; met = record { at = pushed_at st d (Some l); whole = ap (slice_get (st.links ++ Some l ∷ [])) (sym linked.long) ∙ last_item st.links (Some l) }; low = omega (arith, low) };
              again = λ met. absurd (not_met (dataset_number_in st.datasets name) fresh met);
              unknown = record { always = λ fault e. absurd (ok≢err (sym is ∙ e)); only = λ n r. absurd (ok≢err r); file = λ k n e other r. ok≢err r };
            }

        -- a mosaic is open
        pub opened : (new : State) (id : ℕ) (doc : DocumentValue) → d.content ≡ Mosaic doc → new ≡ pushed st d None → id ≡ length st.datasets → IsOpened verify room name a b st new id
        opened new id doc content is_pushed number = record {
          dataset = d;
          document = doc;
          content = content;
          named = named;
          kind = vrt;
          some = some room (subst (λ k. room_for room k name ≡ Ok tt) kind_vrt shallow);
          first = linked;
          linked = subst IsLinked (sym is_pushed) (linked_pushed st d None linked few unmet valid (λ l e. absurd (none≢some e)));
          fresh = fresh;
          is_pushed = is_pushed;
          number = number;
          read = λ m t walked. subst (λ (s : State). IsWalked m s.datasets) (sym is_pushed) (walked_more m t walked);
          told = λ m t path on. below m path room (some room (subst (λ k. room_for room k name ≡ Ok tt) kind_vrt shallow)) (first path on) (told m t) ∙ ap (λ (s : State). visit_sources (λ e n. visit m verify (room - 1) (name ∷ path) e n) name (met_of s) (sources_of doc)) (sym is_pushed);
          names = names;
          writes = writes;
          later = later;
          reads = subst (λ (s : State). ReadsOnce verify a b st s) (sym is_pushed) (one_more_read verify a.reads b.reads st.datasets d read);
        }
          where
            vrt : kind_in name ≡ Ok kinds.Vrt
            vrt = ap kind_in (sym named) ∙ valid.kind ∙ ap (λ (h : DatasetHead). Ok h.kind) valid.head ∙ ap (λ c. Ok (content_head d.head.name c).kind) content

            kind_vrt : kind ≡ kinds.Vrt
            kind_vrt = (let both : Ok kind ≡ Ok kinds.Vrt = sym is ∙ vrt in cc)

            some : (r : ℕ) → room_for r kinds.Vrt name ≡ Ok tt → 0 < r
            some zero e = absurd (ok≢err (sym e))
            some (suc r) e = omega arith

            below : (m : Files) (path : List (List ℕ)) (r : ℕ) → 0 < r → IsFirst r path (met_of st) name kind → dataset_by kind m verify name ≡ Ok d → visit m verify r path (met_of st) name ≡ visit_sources (λ e n. visit m verify (r - 1) (name ∷ path) e n) name (met_of (pushed st d None)) (sources_of doc)
            below m path zero more f t = absurd (omega arith)
            below m path (suc r) more f t =
                let less : r ≡ suc r - 1 = omega arith in
                visit_mosaic m verify r path (met_of st) name kind d f few t
                ∙ ap (λ c. visit_sources (λ e n. visit m verify r (name ∷ path) e n) name (met_of (pushed st d None)) (sources_in c)) content
                ∙ ap (λ k. visit_sources (λ e n. visit m verify k (name ∷ path) e n) name (met_of (pushed st d None)) (sources_of doc)) less

-- there is room for a name unless it is a mosaic at the end of the path
pub shallow_unless : (room : ℕ) (kind : Kind) (name : List ℕ) → (room ≡ 0 → kind ≡ kinds.Vrt → ⊥) → room_for room kind name ≡ Ok tt
shallow_unless zero kinds.Raw name h = refl
shallow_unless zero kinds.Dted name h = refl
shallow_unless zero kinds.Hgt name h = refl
shallow_unless zero kinds.Ascii name h = refl
shallow_unless zero kinds.Vrt name h = absurd (h refl refl)
shallow_unless (suc room) kind name h = refl
