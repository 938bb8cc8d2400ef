-- What stands in an output while its lines are copied, and what is told meanwhile.
use Rattle.std.specs.Prelude.{ℕ, Bool, List, take, Option, Result, Ok, Err, ◌≡◌, ◌<◌, ℤ, Some, None, slice_get}
use Rattle.outside.specs.Streams.{Gets, GetsPart}
use Rattle.outside.specs.Outside.{Files}
use Rattle.catalog.specs.Drivers.{Dataset}
use Rattle.translate_plan.specs.Plan.{Planned}
use Rattle.write_back.specs.View.{Output, Blocks, Rows, TargetView, columns_of, sheet_in, IsMetOn, shown, IsIn}
use Rattle.write_back.specs.Files.{IsTarget}
use Rattle.write_back.specs.Plans.{output_of}
use Rattle.error_lines.specs.declared.faults.Fault.{Fault}
use Rattle.error_lines.specs.Progress.{progress}
use Rattle.output_copies.specs.Copying.{spoken}
use Rattle.output_copies.specs.Steps.{raster_of}

-- so much of what is told while lines are written was put; where the outside failed, a first part of all
abbrev pub Tells : Bool → Result ℕ Fault → Option (List ℕ) → Option (List ℕ) → Type 0
Tells quiet (Ok told) before after = Gets (spoken quiet (take told progress)) before after
Tells quiet (Err fault) before after = GetsPart (spoken quiet progress) before after

-- the next line of a grid
abbrev pub IsAtLine : Output → ℕ → ℕ → Type 0
IsAtLine (Blocks w) lines y = Unit {0}
IsAtLine (Rows g) lines y = lines ≡ y

-- each column of a cell was met
abbrev pub AreColumnsMet : TargetView → Type 0
AreColumnsMet t = (x : ℕ) → x < columns_of t.output → IsMetOn t.output (sheet_in t) x

-- the lines before `first` are those of a raster, and in the first bands, k of them, the lines before `end`
pub record IsCopied (samples : ℕ → ℕ → ℕ → ℤ) (t : TargetView) (first end k : ℕ) : Type 0 where
  pub above : (b x y : ℕ) → IsIn t.output b x y → y < first → shown t b x y ≡ samples b x y
  pub beside : (b x y : ℕ) → IsIn t.output b x y → b < k → y < end → shown t b x y ≡ samples b x y
  pub met : 0 < first → AreColumnsMet t
  pub met_beside : 0 < k → AreColumnsMet t

-- An output of a plan, in which these lines were written, and no window was refused. Over a folder that tells its files
-- they are those of the plan's raster.
pub record IsFilled (told : Option Files) (cat : List Dataset) (id : ℕ) (p : Planned) (t : TargetView) (first end k : ℕ)
    : Type 0 where
  pub target : IsTarget told t
  pub output : output_of p ≡ Some t.output
  pub fault : t.fault ≡ None
  pub at : k ≡ 0 → IsAtLine t.output t.lines first
  pub behind : 0 < k → IsAtLine t.output t.lines end
  pub copied : (m : Files) (d : Dataset) → told ≡ Some m → slice_get cat id ≡ Some d →
      IsCopied (raster_of m d p) t first end k
