use Rattle.std.proofs.Common.{◌≤◌, ◌<◌, ◌∙◌, ap, length, sym, subst}
use Rattle.std.specs.Prelude.{slice_get}
use Rattle.geotransform.specs.declared.types.Rect.{Rect}
use Rattle.catalog.specs.Dataset.{DatasetHead}
use Rattle.catalog.specs.Places.{block_rect_of, blocks_of, IsWithin}
use Rattle.nearest_window.proofs.Blocks.{head_of}
use Rattle.nearest_window.proofs.Mosaics.{low, narrow}
use Rattle.nearest_window.proofs.members.mosaic_rect.Goals as goal

pub block_rect-requires-clause-band : goal.block_rect-requires-clause-band
block_rect-requires-clause-band c =
    let k = c.requires.key.1 in
    let same = head_of (slice_get c.args.cat.now c.args.key.dataset) k.dataset c.head.result.now k.in_range.at c.head.ensures.head in
    subst (λ (h : DatasetHead). c.args.key.band < length h.bands) same k.in_range.band

pub block_rect-requires-clause-block : goal.block_rect-requires-clause-block
block_rect-requires-clause-block c =
    let k = c.requires.key.1 in
    let same = head_of (slice_get c.args.cat.now c.args.key.dataset) k.dataset c.head.result.now k.in_range.at c.head.ensures.head in
    subst (λ (h : DatasetHead). c.args.key.block < blocks_of h) same k.in_range.block

pub returns-clause-rect : goal.returns-clause-rect
returns-clause-rect c = λ d at. c.block_rect.ensures.rect ∙ ap (λ (h : DatasetHead). block_rect_of h c.args.key.block) (sym (head_of (slice_get c.args.cat.now c.args.key.dataset) d c.head.result.now at c.head.ensures.head))

pub returns-clause-within : goal.returns-clause-within
returns-clause-within c = λ d at. subst (λ (h : DatasetHead). IsWithin c.block_rect.result h.size) (sym (head_of (slice_get c.args.cat.now c.args.key.dataset) d c.head.result.now at c.head.ensures.head)) c.block_rect.ensures.within

pub returns-clause-some : goal.returns-clause-some
returns-clause-some c = c.block_rect.ensures.within.columns

pub returns-clause-narrow : goal.returns-clause-narrow
returns-clause-narrow c =
    let k = c.requires.key.1 in
    let same = head_of (slice_get c.args.cat.now c.args.key.dataset) k.dataset c.head.result.now k.in_range.at c.head.ensures.head in
    let rect = c.block_rect.ensures.rect ∙ ap (λ (h : DatasetHead). block_rect_of h c.args.key.block) (sym same) in
    subst (λ (r : Rect). r.w ≤ 128) (sym rect) (narrow c.args.cat.now c.head.ensures.valid c.args.key.dataset k.dataset k.in_range.at k.document k.content c.args.key.block)

pub returns-clause-low : goal.returns-clause-low
returns-clause-low c =
    let k = c.requires.key.1 in
    let same = head_of (slice_get c.args.cat.now c.args.key.dataset) k.dataset c.head.result.now k.in_range.at c.head.ensures.head in
    let rect = c.block_rect.ensures.rect ∙ ap (λ (h : DatasetHead). block_rect_of h c.args.key.block) (sym same) in
    subst (λ (r : Rect). r.h ≤ 128) (sym rect) (low c.args.cat.now c.head.ensures.valid c.args.key.dataset k.dataset k.in_range.at k.document k.content c.args.key.block)
