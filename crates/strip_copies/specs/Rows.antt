-- Rows of an output's band, made of lines of the source.
use Rattle.std.specs.Prelude.{◌≡◌, ◌<◌, ◌≤◌, ◌+◌, ◌/◌, ◌%◌, ℕ, ℤ, pos, List, length, get_or, Option, Some, None}
use Rattle.std.specs.Prelude.{slice_get, int_lt, if◌then◌else◌, ◌-◌}
use Rattle.std.specs.Option.{unwrap_or}
use Rattle.geotransform.specs.Types.{lowest}
use Rattle.geotransform.specs.declared.types.PixelType.{PixelType}
use Rattle.geotransform.specs.declared.types.Rect.{Rect}
use Rattle.geotransform.specs.declared.types.Size.{Size}
use Rattle.geotransform.specs.Pixels.{within}
use Rattle.outside.specs.Outside.{Files}
use Rattle.catalog.specs.Drivers.{null_elevation, Dataset}
use Rattle.catalog.specs.Pixels.{pixel_of_name}
use Rattle.catalog.specs.Places.{row_by_row}
use Rattle.translate_plan.specs.declared.band.OutBand.{OutBand}
use Rattle.translate_plan.specs.declared.options.Driver.{Driver}
use Rattle.translate_plan.specs.declared.options.Driver.TheVariants.{EHdr, Dted, SrtmHgt, AaiGrid, Vrt}
use Rattle.translate_plan.specs.Plan.{Planned, held, out_pixel, shown_line}
use Rattle.strip_copies.specs.declared.columns.Columns.{Columns}
use Rattle.strip_copies.specs.declared.holding.Holding.{Holding}
use Rattle.strip_copies.specs.declared.making.Making.{Making}
use Rattle.strip_copies.specs.declared.spans.Span.{Span}
use Rattle.strip_copies.specs.Columns.{AreColumns}
use Rattle.strip_copies.specs.declared.spans.Run.{Run}

-- the number from `least` to `most` that is nearest to v
abbrev pub nearest : ℤ → ℤ → ℤ → ℤ
nearest least most v = if int_lt v least then least else (if int_lt most v then most else v)

-- the least sample of a driver's files: that of the type, in a cell the least elevation
abbrev pub least_sample_by : Driver → PixelType → ℤ
least_sample_by EHdr kind = lowest kind
least_sample_by (Dted level) kind = null_elevation
least_sample_by SrtmHgt kind = lowest kind
least_sample_by AaiGrid kind = lowest kind
least_sample_by Vrt kind = lowest kind

-- what a band of a plan makes of a sample of the source, and what stands outside the raster
pub record IsHolding (p : Planned) (k : ℕ) (h : Holding) : Type 0 where
  pub band : OutBand
  pub at : slice_get p.bands k ≡ Some band
  pub held : (v : ℤ) → nearest h.least h.most v ≡ held p.driver band.kind v
  pub fill : h.fill ≡ unwrap_or band.nodata (pos 0)

-- the sample that a band makes of one, or of none
abbrev pub made_found : Holding → Option ℤ → ℤ
made_found h None = h.fill
made_found h (Some v) = nearest h.least h.most v

-- the sample that a band makes of the one at a place of a line
abbrev pub made_of : Holding → List ℤ → ℕ → ℤ
made_of h line place = made_found h (slice_get line place)

-- a line lies in a span
pub record IsInSpan (s : Span) (y : ℕ) : Type 0 where
  pub top : s.top ≤ y
  pub bottom : y < s.top + s.height

-- the lines of a source of this height that lines of the output from `first` up to `end` show lie in a span
pub record AreShownIn (p : Planned) (height first end : ℕ) (s : Span) : Type 0 where
  pub inside : s.top + s.height ≤ height
  pub each : (j y : ℕ) → first ≤ j → j < end → within height (shown_line p j) ≡ Some y → IsInSpan s y

-- a sample that stands in a column and a line of a band of the output: that of some pixels of the source, and over a
-- folder that tells its files that of the source's pixels
pub record IsSample (told : Option Files) (name : List ℕ) (p : Planned) (source : Size) (k i j : ℕ) (v : ℤ) : Type 0
  where
    pub pixels : ℕ → ℕ → ℕ → ℤ
    pub shows : v ≡ out_pixel p source pixels k i j
    pub named : (m : Files) → told ≡ Some m → v ≡ out_pixel p source (pixel_of_name m name) k i j

-- the first n samples of lines of a band of the output from one on, row by row
abbrev pub AreSamples : Option Files → List ℕ → Planned → Size → ℕ → ℕ → ℕ → List ℤ → Type 0
AreSamples told name p source k from n samples = (at : ℕ) → at < n →
    IsSample told name p source k (at % p.size.w) (from + at / p.size.w) (get_or samples at (pos 0))

-- a row of a band of the output
abbrev pub IsRow : Option Files → List ℕ → Planned → Size → ℕ → ℕ → List ℤ → Type 0
IsRow told name p source k j row = (i : ℕ) → i < p.size.w → IsSample told name p source k i j (get_or row i (pos 0))

-- the columns that are read, in the lines of a span
abbrev pub strip_rect : Columns → Span → Rect
strip_rect c s = record { x = c.first; y = s.top; w = c.count; h = s.height }

-- the samples of the source's band that a band of the output shows, in a rectangle, as far as the folder tells its
-- files
abbrev pub IsStrip : Option Files → List ℕ → Planned → ℕ → Rect → List ℤ → Type 0
IsStrip told name p k rect strip = (m : Files) (b : OutBand) → told ≡ Some m → slice_get p.bands k ≡ Some b →
    strip ≡ row_by_row (pixel_of_name m name b.source) rect

-- what rows are made with is of one plan, one band and one source
pub record IsMaking (making : Making) : Type 0 where
  pub columns : AreColumns making.plan.now making.size.w making.columns.now
  pub holding : IsHolding making.plan.now making.band making.holding

-- the run is of lines of a band of the plan, which show lines of the dataset
pub record IsPart (cat : List Dataset) (id : ℕ) (p : Planned) (columns : Columns) (run : Run) : Type 0 where
  pub dataset : Dataset
  pub at : slice_get cat id ≡ Some dataset
  pub band : run.band < length p.bands
  pub some : run.first < run.end
  pub end : run.end ≤ p.size.h
  pub shown : AreColumns p dataset.head.size.w columns
  pub lines : AreShownIn p dataset.head.size.h run.first run.end run.span

-- the samples of a run are the pixels of its part of a source of this height, one for one
pub record IsDirect (p : Planned) (height : ℕ) (c : Columns) (run : Run) : Type 0 where
  pub wide : c.count ≡ p.size.w
  pub own : (i : ℕ) → i < p.size.w → get_or c.places.items i 0 ≡ i
  pub tall : run.span.height ≡ run.end - run.first
  pub lines : (r : ℕ) → r < run.span.height → within height (shown_line p (run.first + r)) ≡ Some (run.span.top + r)

-- the first n samples of lines of a band of a translation's output from one on, row by row
abbrev pub AreOf : Option Files → List Dataset → ℕ → Planned → ℕ → ℕ → ℕ → List ℤ → Type 0
AreOf told cat id p k from n samples = (d : Dataset) → slice_get cat id ≡ Some d →
    AreSamples told d.head.name p d.head.size k from n samples
