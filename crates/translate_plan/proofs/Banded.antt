-- Bands of a source and of an output.
use Rattle.std.proofs.Common.{◌≡◌, ℕ, Some, refl}
use Rattle.std.specs.Prelude.{slice_get}
use Rattle.catalog.specs.Dataset.{DatasetHead}
use Rattle.catalog.specs.declared.kind.BandHead.{BandHead}
use Rattle.translate_plan.specs.Bands.{source_band}

pub band_found : (h : DatasetHead) (b : ℕ) (x : BandHead) → slice_get h.bands b ≡ Some x → x ≡ source_band h b
band_found h b x e = rw e refl
