-- The blocks of mosaics.
use Rattle.std.proofs.Common.{◌≡◌, ◌∙◌, ap, sym, subst, refl, ◌*◌, ◌^◌, ◌<◌, ◌≤◌, ℕ, ℤ, zero, suc, List, [], ◌∷◌, length, map, pos, Option, Some, None, true, arith}
use Rattle.std.specs.Prelude.{slice_get, option_map, IfSome}
use Rattle.std.specs.Option.{unwrap_or}
use Rattle.std.proofs.Math.Nat.{mul-le-mul}
use Rattle.std.proofs.lemmas.List.Sums.{sum_by-cons, sum-map}
use Rattle.std.specs.List.{sum_by}
use Rattle.std.proofs.lemmas.List.{length-map}
use Rattle.geotransform.specs.declared.types.Rect.{Rect}
use Rattle.geotransform.specs.declared.types.PixelType.{PixelType}
use Rattle.geotransform.proofs.Ranges.{clamp_zero}
use Rattle.geotransform.specs.Types.{clamp, is_in}
use Rattle.lists_and_answers.specs.Options.{◌>>=◌}
use Rattle.outside.specs.Outside.{Files}
use Rattle.vrt_profile.specs.Values.{SourceValue, BandValue, DocumentValue, IsBand, source_count}
use Rattle.vrt_profile.specs.Value.{given_of, mosaic_pixel}
use Rattle.catalog.specs.declared.kind.BandHead.{BandHead}
use Rattle.catalog.specs.declared.kind.Kind.TheVariants as kinds
use Rattle.catalog.specs.declared.driver.Content.{Content}
use Rattle.catalog.specs.declared.driver.Content.TheVariants.{File, Mosaic}
use Rattle.catalog.specs.Drivers.{Dataset, document_of, content_head}
use Rattle.catalog.specs.Mosaics.{mosaic_band, mosaic_head}
use Rattle.catalog.specs.Walk.{IsDataset, IsCatalog}
use Rattle.catalog.specs.Links.{source_at}
use Rattle.catalog.specs.Pixels.{pixel_of, member_size, member_pixel}
use Rattle.catalog.specs.Places.{block_rect_of, row_by_row}
use Rattle.catalog.specs.Blocks.{block_by}
use Rattle.catalog.proofs.Pixels.{item}
use Rattle.catalog.proofs.PixelLaws.{mosaic_is_of_its_members}
use Rattle.band_blocks.specs.declared.key.BlockKey.{BlockKey}
use Rattle.band_blocks.specs.Blocks.{BlockView}
use Rattle.band_blocks.specs.Contents.{IsBlock}
use Rattle.nearest_window.specs.BlockKeys.{IsPartBlock, IsMosaicKey}
use Rattle.nearest_window.specs.Canvases.{source_given}
use Rattle.nearest_window.proofs.Canvases.{in_itself}

content_is : (c : Content) (doc : DocumentValue) → document_of c ≡ Some doc → c ≡ Mosaic doc
content_is (File h) doc is = cc
content_is (Mosaic other) doc is = let same : other ≡ doc = cc in ap Mosaic same

-- what a mosaic's head says

module _ (cat : List Dataset) (valid : IsCatalog cat) (id : ℕ) (d : Dataset) (at : slice_get cat id ≡ Some d) (doc : DocumentValue) (is : document_of d.content ≡ Some doc) where
  dataset : IsDataset d
  dataset = item IsDataset cat id d valid.each at

  abbrev head_is : Type 0
  head_is = d.head ≡ mosaic_head d.head.name doc

  pub as_told : d.head ≡ mosaic_head d.head.name doc
  as_told = dataset.head ∙ ap (content_head d.head.name) (content_is d.content doc is)

  pub size_told : d.head.size ≡ doc.size
  size_told = ap (λ h. h.size) as_told

  pub kind_told : d.head.kind ≡ kinds.Vrt
  kind_told = ap (λ h. h.kind) as_told

  pub bands_told : d.head.bands ≡ map (mosaic_band doc.size) doc.bands
  bands_told = ap (λ h. h.bands) as_told

  pub count_told : length d.head.bands ≡ length doc.bands
  count_told = ap length bands_told ∙ length-map doc.bands (mosaic_band doc.size)

  map_at : (f : BandValue → BandHead) (bs : List BandValue) (k : ℕ) (b : BandValue) → slice_get bs k ≡ Some b → slice_get (map f bs) k ≡ Some (f b)
  map_at f [] k b e = cc
  map_at f (x ∷ bs) zero b e = let same : x ≡ b = cc in ap (λ v. Some (f v)) same
  map_at f (x ∷ bs) (suc k) b e = map_at f bs k b e

  pub band_told : (band : ℕ) (b : BandValue) → slice_get doc.bands band ≡ Some b → option_map (λ (h : BandHead). h.kind) (slice_get d.head.bands band) ≡ Some b.kind
  band_told band b e = ap (λ l. option_map (λ (h : BandHead). h.kind) (slice_get l band)) bands_told ∙ ap (λ o. option_map (λ (h : BandHead). h.kind) o) (map_at (mosaic_band doc.size) doc.bands band b e)

  -- a block of a mosaic has at most 128 columns and lines
  pub narrow : (n : ℕ) → (block_rect_of d.head n).w ≤ 128
  narrow n = subst (λ h. (block_rect_of h n).w ≤ 128) (sym as_told) (omega arith)

  pub low : (n : ℕ) → (block_rect_of d.head n).h ≤ 128
  low n = subst (λ h. (block_rect_of h n).h ≤ 128) (sym as_told) (omega arith)

  pub pixels_are : (m : Files) (band x y : ℕ) (b : BandValue) → slice_get doc.bands band ≡ Some b → pixel_of m cat id band x y ≡ mosaic_pixel b (source_given m cat d) x y
  pixels_are m band x y b e = mosaic_is_of_its_members m cat id band x y d doc b valid at is e ∙ ap (λ size. mosaic_pixel b (λ s. given_of s size (member_size cat d s) (member_pixel m cat d s)) x y) (sym size_told)

-- a rectangle that has no more pixels than a block of a mosaic
pub few_pixels : (cat : List Dataset) (key : BlockKey) (b : BandValue) → IsCatalog cat → IsMosaicKey cat key b → (d : Dataset) → slice_get cat key.dataset ≡ Some d → (block part : Rect) → block ≡ block_rect_of d.head key.block → part.w * part.h ≤ block.w * block.h → part.w * part.h < 2 ^ 32
few_pixels cat key b valid mosaic d at block part block_is less =
    let there = mosaic.in_range.at in
    let same : mosaic.dataset ≡ d = cc in
    let columns = narrow cat valid key.dataset mosaic.dataset there mosaic.document mosaic.content key.block in
    let lines = low cat valid key.dataset mosaic.dataset there mosaic.document mosaic.content key.block in
    let w : block.w ≡ (block_rect_of mosaic.dataset.head key.block).w = ap (λ (r : Rect). r.w) block_is ∙ sym (ap (λ (d : Dataset). (block_rect_of d.head key.block).w) same) in
    let h : block.h ≡ (block_rect_of mosaic.dataset.head key.block).h = ap (λ (r : Rect). r.h) block_is ∙ sym (ap (λ (d : Dataset). (block_rect_of d.head key.block).h) same) in
    let wide : block.w ≤ 128 = omega arith in
    let high : block.h ≤ 128 = omega arith in
    let most : block.w * block.h ≤ 128 * 128 = mul-le-mul wide high in
    omega arith

pub clamp_given : (kind : PixelType) (o : Option ℤ) (v : ℤ) → clamp kind v ≡ v → clamp kind (unwrap_or o v) ≡ unwrap_or (option_map (clamp kind) o) v
clamp_given kind (Some x) v e = refl
clamp_given kind None v e = e

-- the NODATA of a band, or 0, is in the band's range
pub nodata_kept : (b : BandValue) → IsBand b → clamp b.kind (unwrap_or b.nodata (pos 0)) ≡ unwrap_or b.nodata (pos 0)
nodata_kept b rules = on b.nodata rules.nodata
  where
    on : (o : Option ℤ) → IfSome o (λ n. is_in b.kind n ≡ true) → clamp b.kind (unwrap_or o (pos 0)) ≡ unwrap_or o (pos 0)
    on (Some n) h = in_itself b.kind n h
    on None h = clamp_zero b.kind

-- the samples of a block's rectangle are the block
pub whole_block : (told : Option Files) (cat : List Dataset) (key : BlockKey) (rect : Rect) (block : BlockView) → ((d : Dataset) → slice_get cat key.dataset ≡ Some d → rect ≡ block_rect_of d.head key.block)
    → IsPartBlock told cat key rect block → IsBlock told cat key block
whole_block told cat key rect block rect_is part =
    let same = rect_is part.dataset part.in_range.at in
    record {
      dataset = part.dataset;
      in_range = part.in_range;
      shape = record { kind = part.shape.kind; count = part.shape.count ∙ ap (λ (r : Rect). r.w * r.h) same; range = part.shape.range };
      content = λ m e. part.content m e ∙ ap (row_by_row (pixel_of m cat key.dataset key.band)) same ∙ sym (ap (block_by m cat key.dataset key.band key.block) part.in_range.at);
    }

abbrev sources_in : BandValue → ℕ
sources_in b = length b.sources

among : (bands : List BandValue) (k : ℕ) (b : BandValue) → slice_get bands k ≡ Some b → length b.sources ≤ sum_by sources_in bands
among [] k b at = cc
among (c ∷ bands) zero b at = let same : c ≡ b = cc in subst (λ (x : BandValue). length x.sources ≤ sum_by sources_in (c ∷ bands)) same (let e = sum_by-cons sources_in c bands in omega arith)
among (c ∷ bands) (suc k) b at = let more = among bands k b at in let e = sum_by-cons sources_in c bands in omega arith

-- the sources of a band are among those of all bands
pub few_sources : (bands : List BandValue) (k : ℕ) (b : BandValue) → slice_get bands k ≡ Some b → length b.sources ≤ source_count bands
few_sources bands k b at = let e = sum-map sources_in bands in let h = among bands k b at in omega arith

-- a source of the band of a mosaic
pub source_stands : (cat : List Dataset) (key : BlockKey) (b : BandValue) (mosaic : IsMosaicKey cat key b) (k : ℕ) (s : SourceValue) → slice_get b.sources k ≡ Some s → source_at mosaic.dataset key.band k ≡ Some s
source_stands cat key b mosaic k s at =
    ap (λ o. o >>= λ doc. slice_get doc.bands key.band >>= λ b. slice_get b.sources k) mosaic.content
    ∙ ap (λ o. o >>= λ b. slice_get b.sources k) mosaic.band_at ∙ at
