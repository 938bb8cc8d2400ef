-- Lines that are tallied.
use Rattle.std.proofs.Common.{◌≡◌, ◌∙◌, ap, sym, refl, arith, ℕ, ℤ, pos, ◌+◌, ◌-◌, ◌*◌, ◌^◌, ◌<◌, ◌≤◌, List, [], ◌∷◌, ◌++◌, length, get_or, Option, Some}
use Rattle.std.specs.Prelude.{slice_get, unsigned_abs, option_map}
use Rattle.std.specs.List.{All}
use Rattle.geotransform.proofs.Ranges.{is_near}
use Rattle.geotransform.specs.declared.types.Size.{Size}
use Rattle.outside.specs.Outside.{Files}
use Rattle.band_blocks.proofs.Corners.{filled-row_by_row, rows_cut}
use Rattle.catalog.specs.Drivers.{Dataset}
use Rattle.catalog.proofs.Found.{some_is}
use Rattle.catalog.specs.Pixels.{pixel_of_name}
use Rattle.catalog.specs.Places.{row_by_row}
use Rattle.nearest_window.specs.Windows.{IsInBand}
use Rattle.strip_copies.specs.Copies.{lines_rect}
use Rattle.synthetic_rasters.specs.Tally.{Totals, tally_of, tally_text}
use Rattle.synthetic_rasters.proofs.Tallied.{count_few}
use Rattle.synth_runs.specs.Runs.{samples_of}
use Rattle.synth_runs.specs.Tallied.{first_band_lines, AreTallied, IsCopied}

first_of : {X : Type 0} (xs : List X) → 0 < length xs → (x : X) × (slice_get xs 0 ≡ Some x)
first_of [] some = absurd (omega (arith, some))
first_of (x ∷ xs) some = (x, refl)

-- each sample of the first band is less than 2^64 from 0
pub samples_near : (cat : List Dataset) (id : ℕ) (size : Size) (samples : List ℤ) → IsCopied cat id size → All (IsInBand cat id 0) samples → All (λ n. unsigned_abs n < 2 ^ 64) samples
samples_near cat id size samples is typed i d less =
    let first = first_of is.dataset.head.bands is.banded in
    is_near first.0.kind (get_or samples i d) (typed i d less is.dataset first.0.kind is.at (ap (option_map (λ band. band.kind)) first.1))

-- the samples of lines from 0 up to one, and from there up to another
both_sizes : (w b c : ℕ) → b ≤ c → w * b + w * (c - b) ≡ w * c
both_sizes w b c low =
    let split : b + (c - b) ≡ c = omega arith in
    let spread : w * (b + (c - b)) ≡ w * b + w * (c - b) = grind arith in
    sym spread ∙ ap (λ n. w * n) split

-- lines from 0 up to one, and from there up to another, joined
lines_joined : (f : ℕ → ℕ → ℤ) (size : Size) (b c : ℕ) → b ≤ c → row_by_row f (lines_rect size 0 b) ++ row_by_row f (lines_rect size b c) ≡ row_by_row f (lines_rect size 0 c)
lines_joined f size b c low =
    let line : b ≡ 0 + (b - 0) = omega arith in
    let all : c - 0 ≡ (b - 0) + (c - b) = omega arith in
    rows_cut f (lines_rect size 0 c) (lines_rect size 0 b) (lines_rect size b c)
    (record { upper_left = refl; upper_wide = refl; top = refl; lower_left = refl; lower_wide = refl; line = line; lines = all })

no_lines : (f : ℕ → ℕ → ℤ) (size : Size) → [] ≡ row_by_row f (lines_rect size 0 0)
no_lines f size =
    let none : 0 ≡ size.w * 0 = grind arith in
    filled-row_by_row f (lines_rect size 0 0) [] (pos 0) none (λ k less. absurd (omega (arith, less, none)))

-- no lines, and all lines
pub none_tallied : (told : Option Files) (cat : List Dataset) (id : ℕ) (size : Size) (t : Totals) → t ≡ tally_of [] → AreTallied told cat id size 0 t
none_tallied told cat id size t is = record {
  few = let none = count_few [] in let same = ap (λ (x : Totals). x.count) is in omega (arith, none, same);
  tallied = λ m d tells at. is ∙ ap tally_of (no_lines (pixel_of_name m d.head.name 0) size);
}

pub all_lines : (m : Files) (d : Dataset) (size : Size) → d.head.size ≡ size → first_band_lines m d.head.name size 0 size.h ≡ samples_of m d
all_lines m d size is =
    let f = pixel_of_name m d.head.name 0 in
    let down : size.h - 0 ≡ size.h = omega arith in
    ap (λ n. row_by_row f (record { x = 0; y = 0; w = size.w; h = n })) down
    ∙ ap (λ (s : Size). row_by_row f (record { x = 0; y = 0; w = s.w; h = s.h })) (sym is)

-- lines behind those that were tallied
pub tallied_more : (told now : Option Files) (cat : List Dataset) (id : ℕ) (size : Size) (first end : ℕ) (old new : Totals) (samples : List ℤ)
    → now ≡ told → first ≤ end → length samples ≡ size.w * (end - first)
    → ((m : Files) → told ≡ Some m → (d : Dataset) → slice_get cat id ≡ Some d → samples ≡ first_band_lines m d.head.name size first end)
    → ((seen : List ℤ) → old ≡ tally_of seen → new ≡ tally_of (seen ++ samples)) → new.count ≤ old.count + length samples
    → AreTallied told cat id size first old → AreTallied now cat id size end new
tallied_more told now cat id size first end old new samples same low long are added count before = record {
  few = let both = both_sizes size.w first end low in let few = before.few in omega (arith, both, few, count, long);
  tallied = λ m d tells at.
      let here : told ≡ Some m = sym same ∙ tells in
      let f = pixel_of_name m d.head.name 0 in
      added (first_band_lines m d.head.name size 0 first) (before.tallied m d here at)
      ∙ ap (λ (l : List ℤ). tally_of (first_band_lines m d.head.name size 0 first ++ l)) (are m here d at)
      ∙ ap tally_of (lines_joined f size first end low);
}

-- the text that is told of a tally of all lines is that of the dataset
pub told_as : (m : Files) (cat : List Dataset) (id : ℕ) (size : Size) (d : Dataset) (t : Totals) (text : List ℕ) → IsCopied cat id size → slice_get cat id ≡ Some d → t ≡ tally_of (first_band_lines m d.head.name size 0 size.h) → text ≡ tally_text size t → text ≡ tally_text d.head.size (tally_of (samples_of m d))
told_as m cat id size d t text is at tallied told =
    let one : is.dataset ≡ d = some_is (sym is.at ∙ at) in
    let sized : d.head.size ≡ size = ap (λ (x : Dataset). x.head.size) (sym one) ∙ is.sized in
    told ∙ ap (tally_text size) (tallied ∙ ap tally_of (all_lines m d size sized)) ∙ ap (λ (s : Size). tally_text s (tally_of (samples_of m d))) (sym sized)
