-- Sources that take the same band as the one before them.
use Rattle.std.proofs.Common.{◌≡◌, ◌∙◌, ◌<◌, ◌≤◌, ap, sym, subst, refl, ℕ, zero, suc, List, [], ◌∷◌, length, take, Bool, true, false, cond, Option, Some, Result, Ok, Err, arith}
use Rattle.std.specs.Prelude.{◌-◌, ◌||◌, slice_get, nat_lt, ok_or}
use Rattle.std.proofs.lemmas.Bool.Decides.{nat_tests}
use Rattle.lists_and_answers.specs.Answers.{◌>>=◌}
use Rattle.vrt_profile.specs.Values.{SourceValue, BandValue, DocumentValue}
use Rattle.vrt_profile.specs.Value.{is_plain}
use Rattle.vrt_profile.specs.Resolve.{resolved_text}
use Rattle.vrt_markup.specs.declared.fault.VrtFault.TheVariants as vrt
use Rattle.catalog.specs.declared.driver.Content.{Content}
use Rattle.catalog.specs.declared.driver.Content.TheVariants.{File, Mosaic}
use Rattle.catalog.specs.declared.links.Link.{Link}
use Rattle.catalog.specs.declared.faults.LimitKind.TheVariants as limits
use Rattle.catalog.specs.declared.faults.Bad.TheVariants as bad
use Rattle.catalog.specs.declared.faults.WalkFault.{WalkFault}
use Rattle.catalog.specs.declared.faults.WalkFault.TheVariants.{Limit, Malformed, SourceBand}
use Rattle.catalog.specs.declared.walk.Wanted.{Wanted}
use Rattle.catalog.specs.Dataset.{band_at}
use Rattle.catalog.specs.Drivers.{Dataset}
use Rattle.catalog.specs.Heads.{resolved}
use Rattle.catalog.specs.Walk.{dataset_named, bands_of, band_named, is_narrow_band, one_more_source, unless_no_band, unless_no_samples, unless_wide}
use Rattle.catalog.specs.Linked.{State, IsLinked, IsLow, IsMember, Each, one_counted, most, height_at, height_in, IsMosaicAt, HasBand, HasSource}
use Rattle.catalog.specs.Walking.{Seen, Visits, Passes, Names, Reaches, IsWalkedUpTo, IsMetLow}
use Rattle.catalog.proofs.Found.{some_is, named_at}
use Rattle.catalog.proofs.Meetings.{visits_known}
use Rattle.catalog.proofs.Meets.{kind_met, met_fine}
use Rattle.catalog.proofs.Passes.{source_passed}
use Rattle.catalog.proofs.Repeated.{same_name}
use Rattle.catalog.proofs.States.{goes_one}

-- items of a number
each_at : {A B : Type 0} (R : A → B → Type 0) (xs : List A) (ys : List B) (i : ℕ) (x : A) (y : B) → Each R xs ys → slice_get xs i ≡ Some x → slice_get ys i ≡ Some y → R x y
each_at R [] ys i x y all at here = absurd cc
each_at R (a ∷ xs) [] i x y all at here = absurd all
each_at R (a ∷ xs) (b ∷ bs) zero x y all at here = subst (λ k. R x k) (some_is here) (subst (λ k. R k b) (some_is at) all.0)
each_at R (a ∷ xs) (b ∷ bs) (suc i) x y all at here = each_at R xs bs i x y all.1 at here

most_at : (links : List (Option Link)) (ids : List ℕ) (i id room : ℕ) → slice_get ids i ≡ Some id → most links ids ≤ room → height_at links id ≤ room
most_at links [] i id room at low = absurd cc
most_at links (n ∷ ids) zero id room at low = subst (λ k. height_at links k ≤ room) (some_is at) (omega (arith, low))
most_at links (n ∷ ids) (suc i) id room at low = most_at links ids i id room at (omega (arith, low))

take_at : (ss : List SourceValue) (n i : ℕ) (s : SourceValue) → i < n → slice_get ss i ≡ Some s → slice_get (take n ss) i ≡ Some s
take_at [] n i s within at = absurd cc
take_at (x ∷ ss) zero i s within at = absurd (omega (arith, within))
take_at (x ∷ ss) (suc n) zero s within at = at
take_at (x ∷ ss) (suc n) (suc i) s within at = take_at ss n i s (omega (arith, within)) at

member_again : (st : State) (base : List ℕ) (last s : SourceValue) (id : ℕ) → s.relative ≡ last.relative → s.file ≡ last.file → s.band ≡ last.band → is_plain s ≡ is_plain last → IsMember st base last id → IsMember st base s id
member_again st base last s id relative file band plain t = record {
  name = t.name;
  dataset = t.dataset;
  link = t.link;
  resolves = same_name base s last relative file ∙ t.resolves;
  number = t.number;
  at = t.at;
  whole = t.whole;
  band = subst (λ k. k ≤ length t.dataset.head.bands) (sym band) t.band;
  takes = ap (λ p. p || is_narrow_band (band_at t.dataset.head (s.band - 1))) plain ∙ ap (λ k. is_plain last || is_narrow_band (band_at t.dataset.head (k - 1))) band ∙ t.takes;
}

pub again_at : (st : State) (room id band source : ℕ) (row : List ℕ) (g : IsWalkedUpTo st room id band source row) (sources : List SourceValue) (last s : SourceValue) (i member : ℕ) → sources ≡ g.there.of.value.sources → i < source → slice_get sources i ≡ Some last → s ≡ g.there.value
    → s.relative ≡ last.relative → s.file ≡ last.file → s.band ≡ last.band → is_plain s ≡ is_plain last → slice_get row i ≡ Some member → IsMetLow st room g.there.of.mosaic.dataset.head.name g.there.value member
again_at st room id band source row g sources last s i member same within at is relative file bands plain here =
    let base = g.there.of.mosaic.dataset.head.name in
    let before : slice_get (take source g.there.of.value.sources) i ≡ Some last = take_at g.there.of.value.sources source i last within (ap (λ ss. slice_get ss i) (sym same) ∙ at) in
    let member_last : IsMember st base last member = each_at (IsMember st base) (take source g.there.of.value.sources) row i last member g.reached.members before here in
    record {
      member = subst (λ x. IsMember st base x member) is (member_again st base last s member relative file bands plain member_last);
      low = most_at st.links row i member room here g.reached.low;
    }

-- there is one source of a number
abbrev document_in : DocumentValue → Content → DocumentValue
document_in d (File h) = d
document_in d (Mosaic e) = e

same_document : (d e : DocumentValue) → Mosaic d ≡ Mosaic e → d ≡ e
same_document d e is = ap (document_in d) is

same_mosaic : (st : State) (id : ℕ) (v w : IsMosaicAt st id) → (v.dataset ≡ w.dataset) × (v.document ≡ w.document)
same_mosaic st id v w =
    let found : v.dataset ≡ w.dataset = some_is (sym v.at ∙ w.at) in
    (found, same_document v.document w.document (sym v.content ∙ ap (λ (d : Dataset). d.content) found ∙ w.content))

same_band : (st : State) (id band : ℕ) (v w : HasBand st id band) → v.value ≡ w.value
same_band st id band v w = some_is (sym v.band_at ∙ ap (λ (d : DocumentValue). slice_get d.bands band) (same_mosaic st id v.mosaic w.mosaic).1 ∙ w.band_at)

pub again_there : (st : State) (room id band source : ℕ) (v w : HasSource st id band source) (member : ℕ) → IsMetLow st room v.of.mosaic.dataset.head.name v.value member → IsMetLow st room w.of.mosaic.dataset.head.name w.value member
again_there st room id band source v w member a =
    let value : v.value ≡ w.value = some_is (sym v.source_at ∙ ap (λ (b : BandValue). slice_get b.sources source) (same_band st id band v.of w.of) ∙ w.source_at) in
    subst (λ (s : SourceValue). IsMetLow st room w.of.mosaic.dataset.head.name s member) value
    (subst (λ (d : Dataset). IsMetLow st room d.head.name v.value member) (same_mosaic st id v.of.mosaic w.of.mosaic).0 a)

-- it is counted, and what it names is as it was for the one before it
abbrev passed : Result (Unit {0}) WalkFault
passed = Ok tt

has_fine : (cat : List Dataset) (base name : List ℕ) (band : ℕ) (plain : Bool) (d : Dataset) → dataset_named cat name ≡ Some d → band ≤ length d.head.bands → (plain || is_narrow_band (band_at d.head (band - 1))) ≡ true → unless_no_samples cat base name band plain ≡ Ok tt
has_fine cat base name band plain d is within takes =
    let test : nat_lt (length d.head.bands) band ≡ false = grind (arith, nat_tests) in
    let has : unless_no_band cat name band ≡ passed = ap (λ o. cond (nat_lt (bands_of o) band) (Err (SourceBand name band)) passed) is ∙ ap (λ b. cond b (Err (SourceBand name band)) passed) test in
    let narrow : unless_wide cat base name band plain ≡ passed = ap (λ o. cond (plain || is_narrow_band (band_named o band)) passed (Err (Malformed base (bad.Vrt vrt.Unsupported)))) is ∙ ap (λ b. cond b passed (Err (Malformed base (bad.Vrt vrt.Unsupported)))) takes in
    ap (λ r. r >>= λ there. unless_wide cat base name band plain) has ∙ narrow

room_left : (n : ℕ) → one_more_source n ≡ passed → n < 262144
room_left n is = by_test (nat_lt n 262144) refl is
  where
    by_test : (b : Bool) → nat_lt n 262144 ≡ b → cond b passed (Err (Limit limits.Sources 262145)) ≡ passed → n < 262144
    by_test true e ok = grind (arith, nat_tests)
    by_test false e ok = absurd cc

pub source_again : (verify : Bool) (room : ℕ) (base : List ℕ) (s : SourceValue) (a : Seen) (st : State) (id : ℕ) → IsLinked st → one_more_source st.sources ≡ Ok tt → IsMetLow st room base s id
    → Passes verify room base (s ∷ []) a a st (one_counted st) (λ t. Reaches (one_counted st) room base (s ∷ []) (t ∷ [])) (Ok id)
source_again verify room base s a st id linked counts again =
    let t = again.member in
    let new : State = one_counted st in
    let after : IsLinked new = (goes_one st linked (room_left st.sources counts)).linked in
    let w : Wanted = record { name = t.name; band = s.band; plain = is_plain s } in
    let resolves : resolved base s ≡ Ok t.name = ap (λ o. ok_or o (Limit limits.Name (length (resolved_text base s)))) t.resolves in
    let names : Names base s st new (Ok w) = record { told = ap (λ r. r >>= λ counted. resolved base s) counts ∙ resolves; band = refl; kept = refl; grows = record { datasets = λ i d is. is; links = λ i l is. is }; counted = refl; plain = tt } in
    let high : height_at st.links id ≡ t.link.height = ap height_in t.whole in
    let low : t.link.height ≤ room = subst (λ h. h ≤ room) high again.low in
    let met : IsLow new id room = record { dataset = t.dataset; link = t.link; met = record { at = t.at; whole = t.whole }; low = low } in
    let (kind, is) = kind_met new after t.name id t.number in
    let v : Visits verify room t.name a a new new (Ok id) = visits_known verify room t.name a new kind id after is t.number met (λ m path on. met_fine new after m verify room path t.name id t.link on t.number t.whole low) in
    source_passed verify room base s a a st new new w linked names id v (has_fine st.datasets base t.name s.band (is_plain s) t.dataset (named_at st.datasets t.name id t.dataset t.number t.at) t.band t.takes)
