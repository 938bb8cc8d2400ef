-- The bands that a plan shows are bands of its source.
use Rattle.std.proofs.Common.{◌≡◌, ℕ, ◌<◌, ◌≤◌, Bool, true, false, List, [], ◌∷◌, length, map, refl, ap, sym, subst, arith, Result, Ok, Err, zero-add}
use Rattle.std.specs.Prelude.{◌-◌, slice_index}
use Rattle.std.specs.List.{range_with_len, All}
use Rattle.std.proofs.lemmas.Bool.Decides.{nat_tests}
use Rattle.std.proofs.lemmas.List.FromFn.{length-map-range_with_len, get_or-map-range_with_len}
use Rattle.lists_and_answers.specs.Answers.{◌>>=◌}
use Rattle.geotransform.specs.declared.faults.PlanFault.{PlanFault}
use Rattle.catalog.specs.Dataset.{DatasetHead}
use Rattle.translate_plan.specs.declared.band.OutBand.{OutBand}
use Rattle.translate_plan.specs.Options.{Options, IsOptions}
use Rattle.translate_plan.specs.Window.{asked_in, window_in, inside_in, sides_of, size_in}
use Rattle.translate_plan.specs.Fits.{band_count_in, geo_in, place_in}
use Rattle.translate_plan.specs.Bands.{all_known, count_of, out_band_at, nodata_band_by, is_bare, asked_bands, out_bands, source_number_at}
use Rattle.translate_plan.specs.Limits.{AreKnown}
use Rattle.translate_plan.specs.Plan.{Planned, fits_in, plan_of}
use Rattle.translate_plan.proofs.Kept.{are_known}

-- what the first answer was, and the second one from it
record Found {A B : Type 0} (m : Result A PlanFault) (f : A → Result B PlanFault) (b : B) : Type 0 where
  value : A
  found : m ≡ Ok value
  rest : f value ≡ Ok b

bind_is : {A B : Type 0} (m : Result A PlanFault) (f : A → Result B PlanFault) (b : B) → (m >>= f) ≡ Ok b → Found m f b
bind_is (Err e) f b h = absurd cc
bind_is (Ok a) f b h = record { value = a; found = refl; rest = h }

ok_same : {A : Type 0} (v w : A) (r : Result A PlanFault) → r ≡ Ok v → r ≡ Ok w → v ≡ w
ok_same v w r a b = cc

-- the bands of a plan, and that those that are asked for are known
record IsOf (o : Options) (h : DatasetHead) (p : Planned) : Type 0 where
  known : AreKnown o.bands (length h.bands)
  bands : p.bands ≡ out_bands o h

planned_of : (o : Options) (h : DatasetHead) (p : Planned) → plan_of o h ≡ Ok p → IsOf o h p
unfolding plan_of
planned_of o h p found =
    let known = bind_is (all_known o.bands (length h.bands)) _ p found in
    let asked = bind_is (asked_in o.view h.size h.geo) _ p known.rest in
    let v = bind_is (window_in asked.value) _ p asked.rest in
    let inside = bind_is (inside_in o.epo o.eco v.value h.size) _ p v.rest in
    let size = bind_is (size_in (sides_of o.outsize v.value.size)) _ p inside.rest in
    let few = bind_is (band_count_in o.driver (count_of o.bands (length h.bands))) _ p size.rest in
    let geo = bind_is (geo_in o.driver h.geo v.value size.value) _ p few.rest in
    let place = bind_is (place_in o.driver geo.value) _ p geo.rest in
    let held = bind_is (fits_in o (asked_bands o h) size.value geo.value) _ p place.rest in
    record { known = are_known o.bands (length h.bands) known.found; bands = sym (ap (λ (q : Planned). q.bands) (ok_same _ p _ refl held.rest)) }

-- the source's band of an output's is one that there is
known_source : (bands : List ℕ) (k count : ℕ) → All (λ b. (0 < b) × (b ≤ 256)) bands → AreKnown bands count → k < count_of bands count → source_number_at bands k < count
known_source [] k count all known less = omega (arith, less)
known_source (b ∷ bs) k count all known less =
    let many : count_of (b ∷ bs) count ≡ length (b ∷ bs) = grind (arith, nat_tests) in
    let own : source_number_at (b ∷ bs) k ≡ slice_index (b ∷ bs) k - 1 = grind (arith, nat_tests) in
    let one = all k 0 (omega arith) in
    let below = known.each k 0 (omega arith) in
    omega (arith, one.0, below)

source_by : (o : Options) (h : DatasetHead) (bare : Bool) (k count : ℕ) → source_number_at o.bands k < count → (nodata_band_by bare (out_band_at o h k)).source < count
source_by o h true k count less = less
source_by o h false k count less = less

all_by : (P : OutBand → Type 0) (f : ℕ → OutBand) (n : ℕ) → ((k : ℕ) → k < n → P (f k)) → All P (map f (range_with_len 0 n))
all_by P f n h = λ k d below.
    let less : k < n = omega (arith, length-map-range_with_len f 0 n, below) in
    subst P (sym (get_or-map-range_with_len f 0 n k k d less (zero-add k))) (h k less)

pub sources_known : (o : Options) (h : DatasetHead) (p : Planned) → IsOptions o → plan_of o h ≡ Ok p → All (λ (b : OutBand). b.source < length h.bands) p.bands
sources_known o h p options found =
    let of = planned_of o h p found in
    let n = count_of o.bands (length h.bands) in
    let bare = is_bare o.driver (asked_bands o h) in
    subst (All (λ (b : OutBand). b.source < length h.bands)) (sym of.bands)
    (all_by (λ b. b.source < length h.bands) (λ k. nodata_band_by bare (out_band_at o h k)) n (λ k less. source_by o h bare k (length h.bands) (known_source o.bands k (length h.bands) options.bands of.known less)))
