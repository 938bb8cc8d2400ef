-- How many samples a block has.
use Rattle.std.proofs.Common.{◌≡◌, ◌∙◌, ◌*◌, ◌<◌, ◌≤◌, ◌^◌, ℕ, List, Option, Some, pos, length, replicate, option_map, ap, sym, subst, arith}
use Rattle.std.specs.Prelude.{slice_get}
use Rattle.std.proofs.lemmas.Nat.{mul-le}
use Rattle.std.proofs.lemmas.List.{length-replicate}
use Rattle.geotransform.specs.Geo.{IsRaster}
use Rattle.geotransform.specs.declared.types.PixelType.{PixelType}
use Rattle.geotransform.specs.declared.types.Rect.{Rect}
use Rattle.geotransform.specs.declared.types.Size.{Size}
use Rattle.catalog.specs.Dataset.{DatasetHead, block_of}
use Rattle.catalog.specs.Drivers.{Dataset}
use Rattle.catalog.specs.Places.{block_rect_of, block_size}
use Rattle.catalog.specs.declared.kind.Kind.{Kind}
use Rattle.catalog.specs.declared.kind.Kind.TheVariants as kinds
use Rattle.band_blocks.specs.declared.key.BlockKey.{BlockKey}
use Rattle.band_blocks.specs.Blocks.{BlockView, block_view}
use Rattle.band_blocks.specs.Keys.{IsKey}
use Rattle.shared_lines.specs.Shapes.{HasShape}

small_blocks : (kind : Kind) (size : Size) → IsRaster size → (block_of kind size).w * (block_of kind size).h ≤ 4194304
small_blocks kinds.Raw size r = omega arith
small_blocks kinds.Dted size r = omega arith
small_blocks kinds.Hgt size r = omega arith
small_blocks kinds.Ascii size r = omega arith
small_blocks kinds.Vrt size r = omega arith

-- a block has below 2^32 samples
pub few_samples : (head : DatasetHead) (n : ℕ) (rect : Rect) → IsRaster head.size → rect ≡ block_rect_of head n → rect.w * rect.h < 2 ^ 32
few_samples head n rect r is =
    let b = small_blocks head.kind head.size r in
    let w : (block_rect_of head n).w ≤ (block_size head).w = omega arith in
    let h : (block_rect_of head n).h ≤ (block_size head).h = omega arith in
    let m = mul-le (block_rect_of head n).w (block_rect_of head n).h (block_size head).w (block_size head).h w h in
    let few : (block_rect_of head n).w * (block_rect_of head n).h < 2 ^ 32 = omega arith in
    subst (λ (k : Rect). k.w * k.h < 2 ^ 32) (sym is) few

-- a block of zeros of this type and length has the shape of a key's block
pub has_shape : (cat : List Dataset) (key : BlockKey) (head : DatasetHead) (kind : PixelType) (block : BlockView) → IsKey cat key
    → option_map (λ d. d.head) (slice_get cat key.dataset) ≡ Some head
    → option_map (λ band. band.kind) (slice_get head.bands key.band) ≡ Some kind
    → block ≡ block_view kind (replicate ((block_rect_of head key.block).w * (block_rect_of head key.block).h) (pos 0))
    → HasShape cat key block
has_shape cat key head kind block (d, at) is_head is_kind is_block =
    let there = at.at in
    let same : d.head ≡ head = cc in
    record {
      dataset = d;
      in_range = at;
      kind = ap (λ (h : DatasetHead). option_map (λ band. band.kind) (slice_get h.bands key.band)) same ∙ (is_kind ∙ ap (λ (b : BlockView). Some b.kind) (sym is_block));
      count = ap (λ (b : BlockView). length b.samples) is_block ∙ (length-replicate ((block_rect_of head key.block).w * (block_rect_of head key.block).h) (pos 0) ∙ ap (λ (h : DatasetHead). (block_rect_of h key.block).w * (block_rect_of h key.block).h) (sym same));
    }
