-- The pixels of a strip.
use Rattle.std.proofs.Common.{◌≡◌, ℕ, ℤ, ◌+◌, ◌*◌, ◌/◌, ◌<◌, List, Option, Some, ap, ◌∙◌, pos, get_or}
use Rattle.std.specs.Prelude.{slice_get}
use Rattle.std.proofs.lemmas.Nat.{div-mul-add, mod-mul-add, mul-add-lt}
use Rattle.geotransform.specs.declared.types.Rect.{Rect}
use Rattle.outside.specs.Outside.{Files}
use Rattle.catalog.specs.Pixels.{pixel_of_name}
use Rattle.translate_plan.specs.declared.band.OutBand.{OutBand}
use Rattle.translate_plan.specs.Plan.{Planned}
use Rattle.strip_copies.specs.Rows.{IsStrip}
use Rattle.band_blocks.proofs.Corners.{get_or-row_by_row}

-- the sample in a column and a line of a strip is a pixel
pub strip_pixel : (told : Option Files) (name : List ℕ) (p : Planned) (k : ℕ) (rect : Rect) (strip : List ℤ) (m : Files) (b : OutBand) (c r : ℕ) → IsStrip told name p k rect strip → told ≡ Some m → slice_get p.bands k ≡ Some b → c < rect.w → r < rect.h
    → get_or strip (r * rect.w + c) (pos 0) ≡ pixel_of_name m name b.source (rect.x + c) (rect.y + r)
strip_pixel told name p k rect strip m b c r is t at column line =
    ap (λ l. get_or l (r * rect.w + c) (pos 0)) (is m b t at)
    ∙ get_or-row_by_row (pixel_of_name m name b.source) rect (r * rect.w + c) (pos 0) (mul-add-lt r rect.w c rect.h line column)
    ∙ ap (λ n. pixel_of_name m name b.source (rect.x + n) (rect.y + (r * rect.w + c) / rect.w)) (mod-mul-add r rect.w c column)
    ∙ ap (λ n. pixel_of_name m name b.source (rect.x + c) (rect.y + n)) (div-mul-add r rect.w c column)
