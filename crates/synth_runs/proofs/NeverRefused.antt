-- The run from a number is refused by nothing.
use Rattle.std.proofs.Common.{◌≡◌, refl, ℕ, false, None, Ok}
use Rattle.outside.specs.Outside.{Files}
use Rattle.translate_plan.proofs.Published.{Reads}
use Rattle.synthetic_rasters.specs.Names.{outer_name}
use Rattle.synthetic_rasters.specs.Tiles.{IsSide}
use Rattle.translation_runs.specs.Judged.{Judged, translation_judged}
use Rattle.synth_runs.specs.Runs.{output_options, synth_run}
use Rattle.synth_runs.proofs.CopyJudged.{copy_is_judged, copy_plan_is}
use Rattle.synth_runs.proofs.CopyRead.{copy_is_read}
use Rattle.synth_runs.proofs.DocumentsRead.{inner_reads, outer_reads}
use Rattle.synth_runs.proofs.InnerMade.{inner_is_made}
use Rattle.synth_runs.proofs.Passing.{PartsPass, parts_pass}
use Rattle.synth_runs.proofs.Standing.{MosaicsStand, outer_dataset, copy_plan}
use Rattle.synth_runs.proofs.TilesRead.{tile_reads}

-- the translation of the outer mosaic is judged, where the texts of documents are read as the documents
abbrev copy_judged : ℕ → Judged
copy_judged n = record { dataset = outer_dataset n; plan = copy_plan n }

judged : Reads → (n : ℕ) → IsSide n → (m : Files) → MosaicsStand n m → translation_judged m false outer_name output_options ≡ Ok (copy_judged n)
judged reads n side m stand = copy_is_judged n side m (λ t less verify. tile_reads n t side less m verify stand.tiles) (inner_reads reads n side) (outer_reads reads n side) stand

parts : Reads → (n : ℕ) → IsSide n → PartsPass n
parts reads n side = record {
  inner_is_made = inner_is_made n side;
  copy_is_judged = λ m stand. (copy_judged n, judged reads n side m stand);
  copy_is_read = λ m stand. copy_is_read n side m (copy_judged n) (judged reads n side m stand) refl (copy_plan_is n side);
}

pub never_refused : Reads → (side : ℕ) → IsSide side → (m : Files) → (synth_run side m).fault ≡ None
never_refused reads side is m = parts_pass side is (parts reads side is) m
