-- The translation of the outer mosaic is judged: its dataset, and what is planned of the copy.
use Rattle.std.proofs.Common.{◌≡◌, ◌∙◌, ap, refl, cond, ℕ, pos, ◌*◌, ◌<◌, ◌≤◌, Bool, false, [], ◌∷◌, length, arith, Option, Some, Result, Ok, Err}
use Rattle.std.specs.Prelude.{int_lt, ◌||◌, All}
use Rattle.std.proofs.lemmas.Bool.Decides.{nat_tests}
use Rattle.std.proofs.lemmas.Int.{ints}
use Rattle.std.proofs.lemmas.List.Elements.{All-cons, All-nil}
use Rattle.lists_and_answers.specs.Answers.{◌>>=◌}
use Rattle.outside.specs.Names.{extension_of, ending_of, last_part, extension_of_ending, header_of}
use Rattle.outside.specs.Outside.{Files}
use Rattle.geotransform.specs.Geo.{Transform, IsRaster}
use Rattle.geotransform.specs.declared.types.Size.{Size}
use Rattle.geotransform.specs.declared.types.PixelType.TheVariants.{Int16}
use Rattle.geotransform.specs.declared.faults.PlanFault.TheVariants.{EmptyWindow, Limit}
use Rattle.vrt_writing.specs.Spelled.{spelled}
use Rattle.catalog.specs.Dataset.{DatasetHead}
use Rattle.catalog.specs.Heads.{document_in, dataset_in}
use Rattle.catalog.specs.Walk.{walked}
use Rattle.translate_plan.specs.Bands.{all_known, count_of, asked_bands}
use Rattle.translate_plan.specs.Fits.{band_count_in, geo_in, place_in}
use Rattle.translate_plan.specs.Options as translate
use Rattle.translate_plan.specs.Plan.{IsOutBand, IsAlike, IsPlan, fits_in, plan_of, planned_by}
use Rattle.translate_plan.specs.Window.{asked_in, asked_of, window_in, is_empty, is_large, is_far, inside_in, sides_of, size_in}
use Rattle.translate_plan.specs.declared.band.OutBand.{OutBand}
use Rattle.translate_plan.specs.declared.options.Driver.TheVariants.{EHdr, Vrt}
use Rattle.translate_plan.specs.declared.window.Asked.{Asked}
use Rattle.translate_plan.specs.declared.window.Window.{Window}
use Rattle.error_lines.specs.Faults.{by_walk}
use Rattle.published_files.specs.Names.{unless_read}
use Rattle.synthetic_rasters.specs.Names.{tile_name, inner_name, outer_name}
use Rattle.synthetic_rasters.specs.Outer.{outer_document, outer_place}
use Rattle.synthetic_rasters.specs.Tiles.{IsSide, nodata}
use Rattle.translation_runs.specs.Judged.{by_plan, Judged, translation_judged}
use Rattle.translation_runs.specs.Published.{names_written}
use Rattle.synth_runs.specs.Runs.{output_options}
use Rattle.synth_runs.proofs.CopyPlaced.{square, whole_window, place_copied}
use Rattle.synth_runs.proofs.OuterWalked.{outer_datasets, outer_is_read, outer_is_walked}
use Rattle.synth_runs.proofs.Standing.{MosaicsStand, tile_dataset, inner_document, outer_dataset, copy_plan}

-- what follows an answer
then_ok : {E A B : Type 0} (r : Result A E) (x : A) (f : A → Result B E) (y : Result B E) → r ≡ Ok x → f x ≡ y → (r >>= f) ≡ y
then_ok r x f y first rest = ap (λ a. a >>= f) first ∙ rest

-- what is planned where no check refuses
planned : (o : translate.Options) (h : DatasetHead) (asked : Asked) (v : Window) (size : Size) (geo : Option Transform)
    → all_known o.bands (length h.bands) ≡ Ok tt → asked_in o.view h.size h.geo ≡ Ok asked → window_in asked ≡ Ok v → inside_in o.epo o.eco v h.size ≡ Ok tt
    → size_in (sides_of o.outsize v.size) ≡ Ok size → band_count_in o.driver (count_of o.bands (length h.bands)) ≡ Ok tt → geo_in o.driver h.geo v size ≡ Ok geo
    → place_in o.driver geo ≡ Ok tt → fits_in o (asked_bands o h) size geo ≡ Ok tt → plan_of o h ≡ Ok (planned_by o h v size geo)
unfolding plan_of
planned o h asked v size geo known asks window inside sized few places place held =
    then_ok (all_known o.bands (length h.bands)) tt _ _ known
    (then_ok (asked_in o.view h.size h.geo) asked _ _ asks
    (then_ok (window_in asked) v _ _ window
    (then_ok (inside_in o.epo o.eco v h.size) tt _ _ inside
    (then_ok (size_in (sides_of o.outsize v.size)) size _ _ sized
    (then_ok (band_count_in o.driver (count_of o.bands (length h.bands))) tt _ _ few
    (then_ok (geo_in o.driver h.geo v size) geo _ _ places
    (then_ok (place_in o.driver geo) tt _ _ place
    (then_ok (fits_in o (asked_bands o h) size geo) tt _ _ held refl))))))))

-- the sides of the copy
some_side : (k : ℕ) → 0 < k → int_lt (pos k) (pos 1) ≡ false
some_side k some = grind (arith, nat_tests, ints)

few_side : (k : ℕ) → k ≤ 4194304 → int_lt (pos 4194304) (pos k) ≡ false
few_side k few = grind (arith, nat_tests, ints)

not_empty : (k : ℕ) → 0 < k → is_empty (pos k) (pos k) ≡ false
not_empty k some = ap (λ b. b || b) (some_side k some)

not_large : (k : ℕ) → k ≤ 4194304 → is_large (pos k) (pos k) ≡ false
not_large k few = ap (λ b. b || b) (few_side k few)

abbrev whole_asked : ℕ → Asked
whole_asked k = asked_of (pos 0, pos 0, pos k, pos k)

window_is : (k : ℕ) → 0 < k → k ≤ 4194304 → window_in (whole_asked k) ≡ Ok (whole_window k)
window_is k some few =
    ap (λ b. cond b (Err EmptyWindow) (cond (is_large (pos k) (pos k) || is_far (pos 0) (pos 0)) (Err Limit) (Ok (whole_window k)))) (not_empty k some)
    ∙ ap (λ b. cond (b || is_far (pos 0) (pos 0)) (Err Limit) (Ok (whole_window k))) (not_large k few)

size_is : (k : ℕ) → 0 < k → k ≤ 4194304 → size_in (k, k) ≡ Ok (square k)
size_is k some few =
    ap (λ b. cond b (Err EmptyWindow) (cond (is_large (pos k) (pos k)) (Err Limit) (Ok (square k)))) (not_empty k some)
    ∙ ap (λ b. cond b (Err Limit) (Ok (square k))) (not_large k few)

square_is : (k : ℕ) → 0 < k → k ≤ 4194304 → IsRaster (square k)
square_is k some few = record { some_columns = some; some_lines = some; columns = few; lines = few }

some_of : (n : ℕ) → IsSide n → 0 < 2 * n
some_of n side = let some = side.some in omega (arith, some)

few_of : (n : ℕ) → IsSide n → 2 * n ≤ 4194304
few_of n side = let few = side.few in omega (arith, few)

-- what is planned of the outer mosaic
pub copy_is_planned : (n : ℕ) → IsSide n → plan_of output_options (outer_dataset n).head ≡ Ok (copy_plan n)
unfolding outer_document
copy_is_planned n side =
    let k = 2 * n in let some = some_of n side in let few = few_of n side in
    planned output_options (outer_dataset n).head (whole_asked k) (whole_window k) (square k) (Some outer_place)
    refl refl (window_is k some few) refl (size_is k some few) refl (place_copied k some) refl refl

-- its band, and the rules that it keeps
abbrev copy_band : OutBand
copy_band = record { source = 0; kind = Int16; nodata = Some nodata }

one_band : (P : OutBand → Type 0) → P copy_band → All P (copy_band ∷ [])
one_band P is = All-cons P copy_band [] is (All-nil P)

no_mosaic : EHdr ≡ Vrt → ⊥
no_mosaic is = cc

pub copy_plan_is : (n : ℕ) → IsSide n → IsPlan (copy_plan n)
copy_plan_is n side = record {
  driver = tt;
  size = square_is (2 * n) (some_of n side) (few_of n side);
  window = square_is (2 * n) (some_of n side) (few_of n side);
  x = omega arith;
  y = omega arith;
  some_band = omega arith;
  bands = omega arith;
  single = λ single. omega arith;
  each = one_band IsOutBand refl;
  sources = one_band (λ b. b.source < 256) (omega arith);
  alike = one_band (λ b. All (IsAlike b) (copy_band ∷ [])) (one_band (IsAlike copy_band) (record { kind = refl; nodata = refl }));
  geo = refl;
  places = λ is. absurd (no_mosaic is);
}

-- none of the names that are published is read
copy_apart : (n : ℕ) → unless_read (outer_datasets n) (names_written output_options) ≡ Ok tt
unfolding header_of extension_of ending_of last_part extension_of_ending
copy_apart n = refl

-- what is judged
abbrev pub copy_judged : ℕ → Judged
copy_judged n = record { dataset = outer_dataset n; plan = copy_plan n }

pub copy_is_judged : (n : ℕ) → IsSide n → (m : Files)
    → ((t : ℕ) → t < 4 → (verify : Bool) → dataset_in m verify (tile_name t) ≡ Ok (tile_dataset n t))
    → document_in (spelled (inner_document n)) inner_name ≡ Ok (inner_document n)
    → document_in (spelled (outer_document n)) outer_name ≡ Ok (outer_document n)
    → MosaicsStand n m → translation_judged m false outer_name output_options ≡ Ok (copy_judged n)
unfolding translation_judged
copy_is_judged n side m tiles inner_reads outer_reads stand =
    let read = outer_is_read n m false (λ t less. tiles t less false) inner_reads outer_reads stand in
    let met = outer_is_walked n m false (λ t less. tiles t less false) inner_reads outer_reads stand in
    then_ok (by_walk (walked m false [] outer_name)) (outer_datasets n) _ _ (ap (λ r. by_walk r) met)
    (then_ok (by_walk (dataset_in m false outer_name)) (outer_dataset n) _ _ (ap (λ r. by_walk r) read)
    (then_ok (by_plan (plan_of output_options (outer_dataset n).head)) (copy_plan n) _ _ (ap (λ r. by_plan r) (copy_is_planned n side))
    (then_ok (unless_read (outer_datasets n) (names_written output_options)) tt _ _ (copy_apart n) refl)))
