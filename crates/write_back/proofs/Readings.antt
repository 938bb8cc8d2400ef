-- The files of each output are read as its plan says.
use Rattle.std.proofs.Common.{◌≡◌, ℕ, ℤ, Bool, List, refl, sym, subst, Some}
use Rattle.outside.specs.Outside.{Files}
use Rattle.dted_records.specs.Text.{head_text}
use Rattle.translate_plan.specs.declared.options.Driver.{Driver}
use Rattle.translate_plan.specs.declared.options.Driver.TheVariants.{EHdr, Dted, SrtmHgt, AaiGrid, Vrt}
use Rattle.translate_plan.specs.Fits.{cell_in}
use Rattle.translate_plan.specs.Plan.{Planned, raw_head, IsPlan}
use Rattle.write_back.specs.declared.forms.Writer.TheVariants as writers
use Rattle.write_back.specs.Columns.{cell_with_front}
use Rattle.write_back.specs.Files.{files_of}
use Rattle.write_back.specs.Plans.{grid_form, output_by, output_of}
use Rattle.write_back.specs.Reading.{HasFiles, AreSamplesOf, IsDecoded, IsReadable}
use Rattle.write_back.specs.View.{Output, Blocks, Rows}
use Rattle.write_back.proofs.Accepted.{raw_decoded}
use Rattle.write_back.proofs.AcceptedBlocks.{cell_decoded, tile_decoded}
use Rattle.write_back.proofs.AcceptedGrids.{grid_decoded}
use Rattle.write_back.proofs.Outputs.{cell_found, is_same}

-- what is asked of an output and its files
record IsAsked (m : Files) (name : List ℕ) (samples : ℕ → ℕ → ℕ → ℤ) (o : Output) : Type 0 where
  pub held : AreSamplesOf o samples
  pub has : HasFiles m (files_of o name samples)

decoded_by : (d : Driver) (m : Files) (v : Bool) (name : List ℕ) (p : Planned) (o : Output) (samples : ℕ → ℕ → ℕ → ℤ) → IsPlan p → p.driver ≡ d → output_by d p ≡ Some o → IsReadable p name → IsAsked m name samples o → IsDecoded m v name p samples
decoded_by EHdr m v name p o samples plan driver e is asked =
    let a : IsAsked m name samples (Blocks (writers.Raw (raw_head p))) = subst (IsAsked m name samples) (sym (is_same _ o e)) asked in
    raw_decoded m v name p samples plan driver is a.held a.has
decoded_by (Dted level) m v name p o samples plan driver e is asked =
    let c = cell_found (cell_in level p.size p.geo) o e in
    let a : IsAsked m name samples (Blocks (writers.Dted (cell_with_front c.head (head_text c.head)))) = subst (IsAsked m name samples) c.output asked in
    cell_decoded m v name p samples level c.head plan driver is c.found a.held a.has
decoded_by SrtmHgt m v name p o samples plan driver e is asked =
    let a : IsAsked m name samples (Blocks (writers.Hgt p.size.w)) = subst (IsAsked m name samples) (sym (is_same _ o e)) asked in
    tile_decoded m v name p samples plan driver is a.held a.has
decoded_by AaiGrid m v name p o samples plan driver e is asked =
    let a : IsAsked m name samples (Rows (grid_form p)) = subst (IsAsked m name samples) (sym (is_same _ o e)) asked in
    grid_decoded m v name p samples plan driver is a.held a.has
decoded_by Vrt m v name p o samples plan driver e is asked = absurd cc

pub output_decoded : (m : Files) (v : Bool) (name : List ℕ) (p : Planned) (o : Output) (samples : ℕ → ℕ → ℕ → ℤ) → IsPlan p → output_of p ≡ Some o → IsReadable p name → AreSamplesOf o samples → HasFiles m (files_of o name samples) → IsDecoded m v name p samples
output_decoded m v name p o samples plan e is held has = decoded_by p.driver m v name p o samples plan refl e is (record { held = held; has = has })
