-- What is planned keeps all limits, and its driver can hold it.
use Rattle.std.proofs.Common.{◌≡◌, ℕ, ℤ, zero, suc, ◌<◌, ◌≤◌, Bool, true, false, not, ◌&&◌, ◌||◌, List, [], ◌∷◌, length, map, get_or, refl, ap, sym, ◌∙◌, subst, arith, pos, negsuc, Option, Some, None, Result, Ok, Err, cond, zero-add}
use Rattle.std.specs.Prelude.{◌-◌, IfSome, nat_lt, slice_index, unsigned_abs}
use Rattle.std.specs.List.{range_with_len, list_all, All}
use Rattle.std.proofs.lemmas.Int.{ints}
use Rattle.std.proofs.lemmas.Bool.Decides.{nat_tests}
use Rattle.std.proofs.lemmas.List.FromFn.{length-map-range_with_len, get_or-map-range_with_len}
use Rattle.std.proofs.lemmas.List.Sums.{AllPass-from_list_all}
use Rattle.lists_and_answers.specs.Answers.{◌>>=◌}
use Rattle.geotransform.specs.Types.{is_in, when_in}
use Rattle.geotransform.specs.Geo.{Transform, IsRaster}
use Rattle.geotransform.specs.declared.types.Size.{Size}
use Rattle.geotransform.specs.declared.types.PixelType.{PixelType}
use Rattle.geotransform.specs.declared.types.PixelType.TheVariants.{Byte, Int8, UInt16, Int16, UInt32, Int32, UInt64, Int64}
use Rattle.geotransform.specs.declared.faults.PlanFault.{PlanFault}
use Rattle.geotransform.specs.Places.{are_same}
use Rattle.esri_hdr.specs.declared.header_parts.Layout.{Layout}
use Rattle.catalog.specs.Dataset.{DatasetHead, IsDatasetHead}
use Rattle.catalog.specs.declared.nodata.NodataWord.{NodataWord}
use Rattle.catalog.specs.declared.nodata.NodataWord.TheVariants.{Absent, Remove, Number}
use Rattle.translate_plan.specs.declared.options.Driver.{Driver}
use Rattle.translate_plan.specs.declared.options.Driver.TheVariants.{EHdr, Dted, SrtmHgt, AaiGrid, Vrt}
use Rattle.translate_plan.specs.declared.band.OutBand.{OutBand}
use Rattle.translate_plan.specs.declared.window.Asked.{Asked}
use Rattle.translate_plan.specs.declared.window.Window.{Window}
use Rattle.translate_plan.specs.Options.{Options, IsOptions}
use Rattle.translate_plan.specs.Window.{asked_in, is_empty, is_large, is_far, window_in, inside_in, sides_of, size_in}
use Rattle.translate_plan.specs.Limits.{IsWindow, AreKnown}
use Rattle.geotransform.specs.Limits.{farthest}
use Rattle.translate_plan.specs.Fits.{own_nodata, is_single, band_count_in, geo_in, place_in, holds_geo, holds_name, takes_kind, is_int16, holds_kinds, takes_number, takes_nodata}
use Rattle.translate_plan.specs.Bands.{all_known, count_of, band_type_of, nodata_of, out_band_at, nodata_band_by, bands_by, same_nodata, agree, is_bare, asked_bands, out_bands, source_band, source_number_at}
use Rattle.translate_plan.proofs.Rounded.{places_kept}
use Rattle.translate_plan.specs.Plan.{Planned, fits, fits_in, plan_of, planned_by, IsOutBand, IsAlike, BandsHold, IsPlan}

-- where a test may refuse and doesn't
passed : {A : Type 0} (b : Bool) (f : PlanFault) (r : Result A PlanFault) (x : A) → cond b (Err f) r ≡ Ok x → (b ≡ false) × (r ≡ Ok x)
passed true f r x e = absurd cc
passed false f r x e = (refl, e)

granted : (b : Bool) (f : PlanFault) (x : Unit {0}) → cond b (Ok tt) (Err f) ≡ Ok x → b ≡ true
granted true f x e = refl
granted false f x e = absurd cc

and_is : (a b : Bool) → (a && b) ≡ true → (a ≡ true) × (b ≡ true)
and_is true b e = (refl, e)
and_is false b e = absurd cc

-- what the first answer was, and the second one from it
record Found {A B : Type 0} (m : Result A PlanFault) (f : A → Result B PlanFault) (b : B) : Type 0 where
  value : A
  found : m ≡ Ok value
  rest : f value ≡ Ok b

bind_is : {A B : Type 0} (m : Result A PlanFault) (f : A → Result B PlanFault) (b : B) → (m >>= f) ≡ Ok b → Found m f b
bind_is (Err e) f b h = absurd cc
bind_is (Ok a) f b h = record { value = a; found = refl; rest = h }

-- no number is past the source's bands
not_past : (count b : ℕ) → nat_lt count b ≡ false → b ≤ count
not_past count b e = grind (arith, nat_tests)

known_is : (bands : List ℕ) (count : ℕ) → all_known bands count ≡ Ok tt → All (λ b. b ≤ count) bands
known_is [] count e k d below = absurd (omega (arith, below))
known_is (b ∷ bs) count e zero d below = not_past count b (passed (nat_lt count b) _ (all_known bs count) tt e).0
known_is (b ∷ bs) count e (suc k) d below = known_is bs count (passed (nat_lt count b) _ (all_known bs count) tt e).1 k d (omega (arith, below))

pub are_known : (bands : List ℕ) (count : ℕ) → all_known bands count ≡ Ok tt → AreKnown bands count
are_known bands count e = record { each = known_is bands count e }

ok_same : {A : Type 0} (v w : A) (r : Result A PlanFault) → r ≡ Ok v → r ≡ Ok w → v ≡ w
ok_same v w r a b = cc

some_same : (a b : ℤ) → Some a ≡ Some b → a ≡ b
some_same a b e = cc

-- the limits of a window and of a size
side_bounds : (w h : ℤ) → is_empty w h ≡ false → is_large w h ≡ false → IsRaster (record { w = unsigned_abs w; h = unsigned_abs h })
side_bounds w h some few = record { some_columns = grind (arith, nat_tests, ints); some_lines = grind (arith, nat_tests, ints); columns = grind (arith, nat_tests, ints); lines = grind (arith, nat_tests, ints) }

or_false : (a b : Bool) → (a || b) ≡ false → (a ≡ false) × (b ≡ false)
or_false true b e = absurd cc
or_false false b e = (refl, e)

near_bounds : (x y : ℤ) → is_far x y ≡ false → (unsigned_abs x ≤ farthest) × (unsigned_abs y ≤ farthest)
near_bounds x y e = grind (arith, nat_tests)

window_is : (a : Asked) (v : Window) → window_in a ≡ Ok v → IsWindow v
window_is a v e =
    let first = passed (is_empty a.w a.h) _ _ v e in
    let second = passed (is_large a.w a.h || is_far a.x a.y) _ _ v first.1 in
    let tests = or_false (is_large a.w a.h) (is_far a.x a.y) second.0 in
    let near = near_bounds a.x a.y tests.1 in
    subst IsWindow (ok_same _ v _ refl second.1) (record { x = near.0; y = near.1; size = side_bounds a.w a.h first.0 tests.0 })

size_is : (s : ℕ × ℕ) (size : Size) → size_in s ≡ Ok size → IsRaster size
size_is s size e =
    let first = passed (is_empty (pos s.0) (pos s.1)) _ _ size e in
    let second = passed (is_large (pos s.0) (pos s.1)) _ _ size first.1 in
    subst IsRaster (ok_same _ size _ refl second.1) (side_bounds (pos s.0) (pos s.1) first.0 second.0)

-- the number of bands
count_is : (driver : Driver) (n : ℕ) (u : Unit {0}) → band_count_in driver n ≡ Ok u → (n ≤ 256) × (is_single driver ≡ true → n ≤ 1)
count_is driver n u e =
    let first = passed (nat_lt 256 n) _ _ u e in
    let second = passed (nat_lt 1 n && is_single driver) _ _ u first.1 in
    (grind (arith, nat_tests, first.0), λ single. one n (is_single driver) single second.0)
  where
    one : (n : ℕ) (b : Bool) → b ≡ true → (nat_lt 1 n && b) ≡ false → n ≤ 1
    one n true s e = grind (arith, nat_tests)
    one n false s e = absurd cc

some_count : (bands : List ℕ) (count : ℕ) → 0 < count → 0 < count_of bands count
some_count [] count some = some
some_count (b ∷ bs) count some = grind (arith, nat_tests)

-- the type of cells and tiles
int16_is : (kind : PixelType) → is_int16 kind ≡ true → kind ≡ Int16
int16_is Byte e = absurd cc
int16_is Int8 e = absurd cc
int16_is UInt16 e = absurd cc
int16_is Int16 e = refl
int16_is UInt32 e = absurd cc
int16_is Int32 e = absurd cc
int16_is UInt64 e = absurd cc
int16_is Int64 e = absurd cc

tile_kind : (driver : Driver) (asked : Option PixelType) (first own : PixelType) (n : ℤ) → takes_kind driver asked ≡ true → own_nodata driver ≡ Some n → band_type_of driver asked first own ≡ Int16
tile_kind EHdr asked first own n takes e = absurd cc
tile_kind AaiGrid asked first own n takes e = absurd cc
tile_kind Vrt asked first own n takes e = absurd cc
tile_kind (Dted level) None first own n takes e = refl
tile_kind (Dted level) (Some kind) first own n takes e = int16_is kind takes
tile_kind SrtmHgt None first own n takes e = refl
tile_kind SrtmHgt (Some kind) first own n takes e = int16_is kind takes

own_in : (driver : Driver) (n : ℤ) → own_nodata driver ≡ Some n → is_in Int16 n ≡ true
own_in EHdr n e = absurd cc
own_in AaiGrid n e = absurd cc
own_in Vrt n e = absurd cc
own_in (Dted level) n e = ap (is_in Int16) (sym (some_same _ n e))
own_in SrtmHgt n e = ap (is_in Int16) (sym (some_same _ n e))

when_kept : (kind : PixelType) (source : Option ℤ) → IfSome (when_in kind source) (λ n. is_in kind n ≡ true)
when_kept kind None = tt
when_kept kind (Some n) = tested (is_in kind n) refl
  where
    tested : (b : Bool) → is_in kind n ≡ b → IfSome (cond b (Some n) None) (λ n. is_in kind n ≡ true)
    tested true e = e
    tested false e = tt

-- each NODATA is of its type
by_own : (m : Option ℤ) (word : NodataWord) (kind : PixelType) (source : Option ℤ)
    → ((n : ℤ) → m ≡ Some n → is_in kind n ≡ true)
    → ((n : ℤ) → m ≡ None → word ≡ Number n → is_in kind n ≡ true)
    → IfSome (nodata_of m word kind source) (λ n. is_in kind n ≡ true)
by_own (Some n) word kind source f g = f n refl
by_own None Absent kind source f g = when_kept kind source
by_own None Remove kind source f g = tt
by_own None (Number n) kind source f g = g n refl refl

-- what a test of all bands says of one
passes : (p : OutBand → Bool) (f : ℕ → OutBand) (n k : ℕ) (d : OutBand) → list_all p (map f (range_with_len 0 n)) ≡ true → k < n → p (f k) ≡ true
passes p f n k d h less = ap p (sym (get_or-map-range_with_len f 0 n k k d less (zero-add k))) ∙ AllPass-from_list_all p (map f (range_with_len 0 n)) h k d (omega (arith, length-map-range_with_len f 0 n))

all_by : (P : OutBand → Type 0) (f : ℕ → OutBand) (n : ℕ) → ((k : ℕ) → k < n → P (f k)) → All P (map f (range_with_len 0 n))
all_by P f n h = λ k d below.
    let less : k < n = omega (arith, length-map-range_with_len f 0 n, below) in
    subst P (sym (get_or-map-range_with_len f 0 n k k d less (zero-add k))) (h k less)

number_taken : (own : Option ℤ) (word : NodataWord) (driver : Driver) (n : ℤ) (bands : List OutBand) → own_nodata driver ≡ None → word ≡ Number n → takes_nodata driver word bands ≡ true → takes_number None n bands ≡ true
number_taken own word driver n bands e is takes = ap (λ m. takes_number m n bands) (sym e) ∙ ap (λ w. takes_nodata driver w bands) (sym is) ∙ takes

one_kept : (o : Options) (h : DatasetHead) (bare : Bool) (k : ℕ) → takes_kind o.driver o.kind ≡ true → takes_nodata o.driver o.nodata (asked_bands o h) ≡ true → k < count_of o.bands (length h.bands) → IsOutBand (nodata_band_by bare (out_band_at o h k))
one_kept o h true k kinds words less = tt
one_kept o h false k kinds words less =
    let first = (source_band h (source_number_at o.bands 0)).kind in
    let own = source_band h (source_number_at o.bands k) in
    by_own (own_nodata o.driver) o.nodata (band_type_of o.driver o.kind first own.kind) own.nodata
    (λ n e. ap (λ t. is_in t n) (tile_kind o.driver o.kind first own.kind n kinds e) ∙ own_in o.driver n e)
    (λ n e is. passes (λ b. is_in b.kind n) (λ j. out_band_at o h j) (count_of o.bands (length h.bands)) k (out_band_at o h 0) (number_taken None o.nodata o.driver n (asked_bands o h) e is words) less)

-- the source's band is one of those that there may be
few_sources : (bands : List ℕ) (k count : ℕ) → All (λ b. (0 < b) × (b ≤ 256)) bands → count ≤ 256 → k < count_of bands count → source_number_at bands k < 256
few_sources [] k count all few less = omega (arith, less, few)
few_sources (b ∷ bs) k count all few less =
    let many : count_of (b ∷ bs) count ≡ length (b ∷ bs) = grind (arith, nat_tests) in
    let own : source_number_at (b ∷ bs) k ≡ slice_index (b ∷ bs) k - 1 = grind (arith, nat_tests) in
    let one = all k 0 (omega arith) in
    omega (arith, one.1)

source_kept : (o : Options) (h : DatasetHead) (bare : Bool) (k : ℕ) → source_number_at o.bands k < 256 → (nodata_band_by bare (out_band_at o h k)).source < 256
source_kept o h true k few = few
source_kept o h false k few = few

-- two bands of raw data
same_is : (a b : Option ℤ) → same_nodata a b ≡ true → a ≡ b
same_is None None e = refl
same_is None (Some b) e = absurd cc
same_is (Some a) None e = absurd cc
same_is (Some a) (Some b) e = ap Some (number_is a b e)
  where
    number_is : (a b : ℤ) → are_same a b ≡ true → a ≡ b
    number_is a b e = grind (arith, nat_tests, ints)

agreed : (bs : List OutBand) → agree bs ≡ true → (k : ℕ) (d : OutBand) → k < length bs → (get_or bs 0 d).nodata ≡ (get_or bs k d).nodata
agreed [] e k d less = absurd (omega (arith, less))
agreed (b ∷ bs) e zero d less = refl
agreed (b ∷ bs) e (suc k) d less = same_is b.nodata (get_or bs k d).nodata (AllPass-from_list_all (λ c. same_nodata b.nodata c.nodata) bs e k d (omega (arith, less)))

agreed_at : (f : ℕ → OutBand) (n : ℕ) (d : OutBand) → agree (map f (range_with_len 0 n)) ≡ true → (i j : ℕ) → i < n → j < n → (f i).nodata ≡ (f j).nodata
agreed_at f n d e i j a b =
    let bs = map f (range_with_len 0 n) in
    let one = λ (k : ℕ) (less : k < n). agreed bs e k d (omega (arith, less, length-map-range_with_len f 0 n)) ∙ ap (λ x. x.nodata) (get_or-map-range_with_len f 0 n k k d less (zero-add k)) in
    sym (one i a) ∙ one j b

raw_kind : (o : Options) (h : DatasetHead) → o.driver ≡ EHdr → (i j : ℕ) → (out_band_at o h i).kind ≡ (out_band_at o h j).kind
raw_kind o h e i j =
    let first = (source_band h (source_number_at o.bands 0)).kind in
    ap (λ d. band_type_of d o.kind first (source_band h (source_number_at o.bands i)).kind) e ∙ same o.kind first _ _ ∙ ap (λ d. band_type_of d o.kind first (source_band h (source_number_at o.bands j)).kind) (sym e)
  where
    same : (asked : Option PixelType) (first a b : PixelType) → band_type_of EHdr asked first a ≡ band_type_of EHdr asked first b
    same None first a b = refl
    same (Some kind) first a b = refl

raw_alike : (o : Options) (h : DatasetHead) (b : Bool) → agree (asked_bands o h) ≡ b → o.driver ≡ EHdr → (i j : ℕ) → i < count_of o.bands (length h.bands) → j < count_of o.bands (length h.bands) → IsAlike (nodata_band_by (not b) (out_band_at o h i)) (nodata_band_by (not b) (out_band_at o h j))
raw_alike o h false e is i j x y = record { kind = raw_kind o h is i j; nodata = refl }
raw_alike o h true e is i j x y = record { kind = raw_kind o h is i j; nodata = agreed_at (λ k. out_band_at o h k) (count_of o.bands (length h.bands)) (out_band_at o h 0) e i j x y }

bare_raw : (d : Driver) (bands : List OutBand) → d ≡ EHdr → is_bare d bands ≡ not (agree bands)
bare_raw d bands e = ap (λ d. is_bare d bands) e

bare_tile : (d : Driver) (bands : List OutBand) (n : ℤ) → own_nodata d ≡ Some n → is_bare d bands ≡ false
bare_tile EHdr bands n e = absurd cc
bare_tile (Dted level) bands n e = refl
bare_tile SrtmHgt bands n e = refl
bare_tile AaiGrid bands n e = refl
bare_tile Vrt bands n e = refl

bands_with : (o : Options) (h : DatasetHead) (b : Bool) → is_bare o.driver (asked_bands o h) ≡ b → out_bands o h ≡ bands_by b o h
bands_with o h b e = ap (λ x. bands_by x o h) e

own_nodata_of : (m : Option ℤ) (word : NodataWord) (kind : PixelType) (source : Option ℤ) (n : ℤ) → m ≡ Some n → nodata_of m word kind source ≡ Some n
own_nodata_of m word kind source n e = ap (λ x. nodata_of x word kind source) e

tile_bands : (o : Options) (h : DatasetHead) (n : ℤ) → own_nodata o.driver ≡ Some n → takes_kind o.driver o.kind ≡ true → All (λ b. (b.kind ≡ Int16) × (b.nodata ≡ Some n)) (out_bands o h)
tile_bands o h n e takes =
    let first = (source_band h (source_number_at o.bands 0)).kind in
    subst (All (λ b. (b.kind ≡ Int16) × (b.nodata ≡ Some n))) (sym (bands_with o h false (bare_tile o.driver (asked_bands o h) n e)))
    (all_by (λ b. (b.kind ≡ Int16) × (b.nodata ≡ Some n)) (λ k. out_band_at o h k) (count_of o.bands (length h.bands)) (λ k less. (tile_kind o.driver o.kind first (source_band h (source_number_at o.bands k)).kind n takes e, own_nodata_of (own_nodata o.driver) o.nodata _ _ n e)))

alike : (o : Options) (h : DatasetHead) (d : Driver) → o.driver ≡ d → takes_kind o.driver o.kind ≡ true → holds_kinds o.driver (asked_bands o h) ≡ true → BandsHold d (out_bands o h)
alike o h EHdr e takes holds =
    let n = count_of o.bands (length h.bands) in
    let f = λ (k : ℕ). nodata_band_by (not (agree (asked_bands o h))) (out_band_at o h k) in
    subst (λ bs. All (λ b. All (IsAlike b) bs) bs) (sym (bands_with o h (not (agree (asked_bands o h))) (bare_raw o.driver (asked_bands o h) e)))
    (all_by (λ b. All (IsAlike b) (map f (range_with_len 0 n))) f n (λ i x. all_by (IsAlike (f i)) f n (λ j y. raw_alike o h (agree (asked_bands o h)) refl e i j x y)))
alike o h (Dted level) e takes holds = tile_bands o h (negsuc 32766) (ap own_nodata e) takes
alike o h SrtmHgt e takes holds = tile_bands o h (negsuc 32767) (ap own_nodata e) takes
alike o h AaiGrid e takes holds = ap (holds_kinds AaiGrid) (bands_with o h false (ap (λ d. is_bare d (asked_bands o h)) e)) ∙ ap (λ d. holds_kinds d (asked_bands o h)) (sym e) ∙ holds
alike o h Vrt e takes holds = tt

pub plan_kept : (o : Options) (h : DatasetHead) (p : Planned) → IsOptions o → IsDatasetHead h → plan_of o h ≡ Ok p → IsPlan p
unfolding plan_of
plan_kept o h p options dataset found =
    let n = count_of o.bands (length h.bands) in
    let known = bind_is (all_known o.bands (length h.bands)) _ p found in
    let asked = bind_is (asked_in o.view h.size h.geo) _ p known.rest in
    let v = bind_is (window_in asked.value) _ p asked.rest in
    let inside = bind_is (inside_in o.epo o.eco v.value h.size) _ p v.rest in
    let size = bind_is (size_in (sides_of o.outsize v.value.size)) _ p inside.rest in
    let few = bind_is (band_count_in o.driver n) _ p size.rest in
    let geo = bind_is (geo_in o.driver h.geo v.value size.value) _ p few.rest in
    let place = bind_is (place_in o.driver geo.value) _ p geo.rest in
    let held = bind_is (fits_in o (asked_bands o h) size.value geo.value) _ p place.rest in
    let all = granted (fits o (asked_bands o h) size.value geo.value) _ held.value held.found in
    let parts = and_is (holds_geo o.driver size.value geo.value && holds_name o.driver o.out size.value geo.value) _ all in
    let first = and_is (holds_geo o.driver size.value geo.value) _ parts.0 in
    let second = and_is (takes_kind o.driver o.kind) _ parts.1 in
    let third = and_is (holds_kinds o.driver (asked_bands o h)) (takes_nodata o.driver o.nodata (asked_bands o h)) second.1 in
    let window = window_is asked.value v.value v.found in
    let counted = count_is o.driver n few.value few.found in
    let long : length (out_bands o h) ≡ n = length-map-range_with_len (λ k. nodata_band_by (is_bare o.driver (asked_bands o h)) (out_band_at o h k)) 0 n in
    subst IsPlan (ok_same _ p _ refl held.rest) (record {
      driver = options.driver;
      size = size_is (sides_of o.outsize v.value.size) size.value size.found;
      window = window.size;
      x = window.x;
      y = window.y;
      some_band = omega (arith, long, some_count o.bands (length h.bands) dataset.some_band);
      bands = omega (arith, long, counted.0);
      single = λ s. omega (arith, long, counted.1 s);
      each = all_by IsOutBand (λ k. nodata_band_by (is_bare o.driver (asked_bands o h)) (out_band_at o h k)) n (λ k less. one_kept o h (is_bare o.driver (asked_bands o h)) k second.0 third.1 less);
      sources = all_by (λ b. b.source < 256) (λ k. nodata_band_by (is_bare o.driver (asked_bands o h)) (out_band_at o h k)) n (λ k less. source_kept o h (is_bare o.driver (asked_bands o h)) k (few_sources o.bands k (length h.bands) options.bands dataset.bands less));
      alike = alike o h o.driver refl second.0 third.0;
      geo = first.0;
      places = λ is. places_kept o.driver h.geo v.value size.value geo.value is geo.found;
    })

-- the same of a plan by its parts
pub kept_by : (o : Options) (h : DatasetHead) (v : Window) (size : Size) (geo : Option Transform) (driver : Driver) (layout : Layout) (bands : List OutBand) (x y : ℤ)
    → IsOptions o → IsDatasetHead h → plan_of o h ≡ Ok (planned_by o h v size geo)
    → driver ≡ o.driver → layout ≡ o.layout → bands ≡ out_bands o h → x ≡ v.x → y ≡ v.y
    → IsPlan (record { driver = driver; layout = layout; bands = bands; size = size; x = x; y = y; window = v.size; geo = geo })
kept_by o h v size geo driver layout bands x y options dataset found a b c d e = rw (a, b, c, d, e) (plan_kept o h (planned_by o h v size geo) options dataset found)
