use Rattle.std.proofs.Common.{◌≡◌, ℕ, List, ◌+◌, ◌-◌, ◌*◌, ◌^◌, ◌<◌, ◌≤◌, ◌++◌, Some, refl, sym, ap, ◌∙◌, subst, arith, rules, length, take, drop, pos, false, to_z, of_z}
use Rattle.std.specs.Prelude.{slice_get, slice_index, unwrap_or}
use Rattle.std.specs.List.{All}
use Rattle.std.proofs.lemmas.Option.{slice_get_within}
use Rattle.mosaic_sources.specs.Pixels.{IsPixelOf}
use Rattle.std.proofs.Math.Nat.{mul-le-mul, mul_comm}
use Rattle.std.proofs.Math.Seq.{take-append_seam}
use Rattle.std.proofs.lemmas.List.Elements.{All-weaker}
use mir.Syntax.{w128}
use borrow.Rule.Slice.PartMut.{put_mid}
use Rattle.outside.specs.Outside.{Files}
use Rattle.vrt_profile.specs.Values.{BandValue, SourceValue}
use Rattle.catalog.specs.Drivers.{Dataset}
use Rattle.catalog.specs.Places.{IsWithin}
use Rattle.band_blocks.specs.Contents.{IsBlock}
use Rattle.block_cache.specs.Entries.{entry_of}
use Rattle.nearest_window.specs.Heights.{height_at}
use Rattle.nearest_window.specs.Right.{IsIndexIn, slack_of}
use Rattle.nearest_window.specs.Painted.{IsPainted, first, in_columns}
use Rattle.nearest_window.specs.Pictures.{from_block}
use Rattle.nearest_window.specs.Taken.{place_at, TakesPixel}
use Rattle.nearest_window.specs.Shown.{shown, AreTyped, IsTyped, IsShown, IsSourceOf}
use Rattle.nearest_window.proofs.Alone.{alone_in}
use Rattle.nearest_window.proofs.Keys.{held_made}
use Rattle.nearest_window.proofs.Service.{answered_memory, answered_ok, answered_same, answered_then, fit_same, fit_then, no_value, none_given, refused, refused_memory, refused_then, serves_indexed, serves_still, serves_trans, serves_keep, serves_noted, serves_used}
use Rattle.nearest_window.proofs.Shown.{held_sized, rect_shown, used_shown}
use Rattle.nearest_window.specs.Canvases.{AreTaken, IsPackedOf, IsTaken}
use Rattle.nearest_window.proofs.Mosaics.{source_stands, whole_block}
use Rattle.nearest_window.proofs.Sources.{none_taken, not_wanted, taken_more, source_taken, source_unasked, packed_part}
use Rattle.nearest_window.specs.Lanes.{lane_view}
use Rattle.nearest_window.specs.Wanted.{IsWanted, bound, numbers_of}
use Rattle.nearest_window.proofs.Skips.{taken_end, taken_here, taken_behind, taken_done}
use Rattle.nearest_window.proofs.Fills.{columns_more, bands_more, part_length}
use Rattle.nearest_window.proofs.Painted.{painted_whole}
use Rattle.nearest_window.proofs.Ranges.{pixels_near, rect_typed, used_typed, rows_typed, typed_more}
use Rattle.nearest_window.proofs.Blocks.{around_at, in_row, from_row}
use Rattle.nearest_window.proofs.lane.Lane.+read.Goals as goal

pub hold-fill-requires-clause-few : goal.hold-fill-requires-clause-few
hold-fill-requires-clause-few g t c κs within =
    let narrow : c.mosaic_rect-rect.result.w ≤ 128 = c.mosaic_rect-rect.ensures.narrow in
    let low : c.mosaic_rect-rect.result.h ≤ 128 = c.mosaic_rect-rect.ensures.low in
    let big : c.mosaic_rect-rect.result.w * c.mosaic_rect-rect.result.h ≤ 128 * 128 = mul-le-mul narrow low in
    omega arith

pub hold-returns-then-finds-clause-answered : goal.hold-returns-then-finds-clause-answered
hold-returns-then-finds-clause-answered g t c = answered_ok g.F.Folder c.args.supply.now.cat.now _ (c.finds.ensures.serves c.args.loads.now)

pub hold-returns-then-finds-clause-held : goal.hold-returns-then-finds-clause-held
hold-returns-then-finds-clause-held g t c = c.finds.ensures.held c.if-finds.true

pub hold-returns-in-None-clause-answered : goal.hold-returns-in-None-clause-answered
hold-returns-in-None-clause-answered g t c = answered_then g.F.Folder c.args.supply.now.cat.now c.load_kept.result (c.finds.ensures.serves c.args.loads.now) c.load_kept.ensures.answered

pub hold-returns-in-None-clause-held : goal.hold-returns-in-None-clause-held
hold-returns-in-None-clause-held g t c = c.load_kept.ensures.held

pub hold-returns-in_err-block-in-Some-clause-answered : goal.hold-returns-in_err-block-in-Some-clause-answered
hold-returns-in_err-block-in-Some-clause-answered g t c = refused_then g.F.Folder c.args.supply.now.cat.now c.from_residual.result c.in_err-block-in-Some.field-0.0 c.from_residual.ensures (c.finds.ensures.serves c.args.loads.now) c.in_err-block-in-Some.ensures.answered

pub hold-returns-in_err-block-in-Some-clause-held : goal.hold-returns-in_err-block-in-Some-clause-held
hold-returns-in_err-block-in-Some-clause-held g t c = none_given c.from_residual.result _ _ c.from_residual.ensures

pub hold-returns-in-Some-clause-answered : goal.hold-returns-in-Some-clause-answered
hold-returns-in-Some-clause-answered g t c =
    let filled = c.in_ok-block-in-Some.ensures.answered.serves in
    let whole = whole_block (g.F.Folder.names c.fill.new.folder) c.args.supply.now.cat.now c.args.key c.mosaic_rect-rect.result c.in_ok-block-in-Some.block c.mosaic_rect-rect.ensures.rect c.in_ok-block-in-Some.ensures.block in
    let kept = serves_keep g.F.Folder.file_bytes g.F.Folder.file_len c.args.supply.now.cat.now c.keep_made.result (g.F.Folder.names c.fill.new.folder) c.fill.new.self c.keep_made.new.self (g.F.Folder.faults c.fill.new.folder) (g.F.Folder.read_calls c.fill.new.folder) (g.F.Folder.write_calls c.fill.new.folder) c.fill.new.loads c.args.key (entry_of c.in_ok-block-in-Some.block false) filled.right whole c.keep_made.ensures.kept c.keep_made.ensures.refused c.keep_made.ensures.valid c.keep_made.ensures.made_valid in
    answered_memory g.F.Folder c.args.supply.now.cat.now c.keep_made.result c.keep_made.ensures.memory
    (serves_trans g.F.Folder.file_bytes g.F.Folder.file_len c.args.supply.now.cat.now (slack_of c.keep_made.result) _ _ _ (c.finds.ensures.serves c.args.loads.now)
    (serves_trans g.F.Folder.file_bytes g.F.Folder.file_len c.args.supply.now.cat.now (slack_of c.keep_made.result) _ _ _ filled kept))

pub hold-offer_to-requires-clause-block : goal.hold-offer_to-requires-clause-block
hold-offer_to-requires-clause-block g t c κs within =
    let told = c.in_ok-block-in-Some.ensures.answered.serves.told in
    subst (λ k. IsBlock g.S.Scene.told k c.args.key c.in_ok-block-in-Some.block) (sym c.requires.fit.scene)
    (subst (λ t. IsBlock t c.args.supply.now.cat.now c.args.key c.in_ok-block-in-Some.block) (told ∙ sym c.requires.fit.told)
    (whole_block (g.F.Folder.names c.fill.new.folder) c.args.supply.now.cat.now c.args.key c.mosaic_rect-rect.result c.in_ok-block-in-Some.block c.mosaic_rect-rect.ensures.rect c.in_ok-block-in-Some.ensures.block))

pub hold-returns-in-Some-clause-held : goal.hold-returns-in-Some-clause-held
hold-returns-in-Some-clause-held g t c = held_made c.keep_made.result c.fill.new.self c.keep_made.new.self c.args.key (entry_of c.in_ok-block-in-Some.block false) c.keep_made.ensures.kept

pub part_block-recall-requires-clause-recalled : goal.part_block-recall-requires-clause-recalled
part_block-recall-requires-clause-recalled g t c κs within = (g.F.Folder.names c.args.folder.now, c.requires.fit.ready.right.pixels)

pub part_block-note-requires-clause-count : goal.part_block-note-requires-clause-count
part_block-note-requires-clause-count g t c κs within = c.in_ok-block.ensures.block.shape.count

pub part_block-returns-in-Some-clause-answered : goal.part_block-returns-in-Some-clause-answered
part_block-returns-in-Some-clause-answered g t c = answered_ok g.F.Folder c.args.supply.now.cat.now _ (serves_still g.F.Folder c.args.supply.now.cat.now c.args.folder.now c.args.self.now c.args.loads.now c.requires.fit.ready)

pub part_block-returns-in_err-block-clause-answered : goal.part_block-returns-in_err-block-clause-answered
part_block-returns-in_err-block-clause-answered g t c = refused g.F.Folder c.args.supply.now.cat.now c.from_residual.result c.in_err-block.field-0.0 c.from_residual.ensures c.in_err-block.ensures.answered

pub part_block-returns-in_err-block-clause-block : goal.part_block-returns-in_err-block-clause-block
part_block-returns-in_err-block-clause-block g t c = no_value c.from_residual.result _ _ c.from_residual.ensures

pub part_block-returns-in-Some-clause-block : goal.part_block-returns-in-Some-clause-block
part_block-returns-in-Some-clause-block g t c = (rw c.in-Some.is at c.recall.ensures.block) (g.F.Folder.names c.args.folder.now) c.requires.fit.ready.right.pixels

pub part_block-returns-clause-answered : goal.part_block-returns-clause-answered
part_block-returns-clause-answered g t c =
    let filled = c.in_ok-block.ensures.answered.serves in
    let told = g.F.Folder.names c.fill.new.folder in
    let pixels = c.note.ensures.pixels told c.args.supply.now.cat.now c.in_ok-block.ensures.block filled.right.pixels in
    answered_ok g.F.Folder c.args.supply.now.cat.now _ (serves_trans g.F.Folder.file_bytes g.F.Folder.file_len c.args.supply.now.cat.now 0 _ _ _ filled
    (serves_noted g.F.Folder.file_bytes g.F.Folder.file_len c.args.supply.now.cat.now told c.fill.new.self c.note.new.self (g.F.Folder.faults c.fill.new.folder) (g.F.Folder.read_calls c.fill.new.folder) (g.F.Folder.write_calls c.fill.new.folder) c.fill.new.loads filled.right c.note.ensures.same pixels))

pub part_block-returns-clause-block : goal.part_block-returns-clause-block
part_block-returns-clause-block g t c = c.in_ok-block.ensures.block

pub fill-wanted-requires-clause-listed : goal.fill-wanted-requires-clause-listed
fill-wanted-requires-clause-listed g t c κs within =
    subst (λ lane. All (IsIndexIn c.args.supply.now.cat.now) lane.indexes) (sym c.spend.ensures.same) c.requires.fit.ready.right.listed

pub fill-returns-in_err-wanted-clause-answered : goal.fill-returns-in_err-wanted-clause-answered
fill-returns-in_err-wanted-clause-answered g t c =
    let same = subst (λ lane. c.wanted.new.self ≡ lane_view lane.pool lane.files lane.made c.wanted.new.self.indexes lane.recalled) c.spend.ensures.same c.wanted.ensures.same in
    refused_memory g.F.Folder c.args.supply.now.cat.now c.from_residual.result c.from_residual.ensures
    (serves_indexed g.F.Folder.file_bytes g.F.Folder.file_len c.args.supply.now.cat.now (g.F.Folder.names c.args.folder.now) c.args.self.now c.wanted.new.self (g.F.Folder.faults c.args.folder.now) (g.F.Folder.read_calls c.args.folder.now) (g.F.Folder.write_calls c.args.folder.now) c.args.loads.now c.requires.fit.ready.right same c.wanted.ensures.listed)

pub fill-returns-in_err-wanted-clause-block : goal.fill-returns-in_err-wanted-clause-block
fill-returns-in_err-wanted-clause-block g t c = no_value c.from_residual.result _ _ c.from_residual.ensures

pub fill-loop-key-init : goal.fill-loop-key-init
fill-loop-key-init g t c =
    let same = subst (λ lane. c.wanted.new.self ≡ lane_view lane.pool lane.files lane.made c.wanted.new.self.indexes lane.recalled) c.spend.ensures.same c.wanted.ensures.same in
    let count = c.len-left.ensures.count in
    let numbers : List ℕ = numbers_of c.in_ok-wanted.wanted in
    record {
      serves = serves_indexed g.F.Folder.file_bytes g.F.Folder.file_len c.args.supply.now.cat.now (g.F.Folder.names c.args.folder.now) c.args.self.now c.wanted.new.self (g.F.Folder.faults c.args.folder.now) (g.F.Folder.read_calls c.args.folder.now) (g.F.Folder.write_calls c.args.folder.now) c.args.loads.now c.requires.fit.ready.right same c.wanted.ensures.listed;
      canvas = c.of-canvas.ensures.canvas;
      rect = c.of-canvas.ensures.rect;
      kind = c.of-canvas.ensures.kind ∙ ap (λ (b : BandValue). b.kind) c.band.view_is;
      wanted = c.in_ok-wanted.ensures.wanted;
      below = omega arith;
      taken = λ d at. subst (λ n. AreTaken (g.F.Folder.names c.args.folder.now) c.args.supply.now.cat.now d (bound numbers n c.args.band.now.sources) c.args.band.now.sources c.of-canvas.result) (sym count)
          (taken_end (g.F.Folder.names c.args.folder.now) c.args.supply.now.cat.now d c.args.band.now.sources numbers c.of-canvas.result
          (none_taken (g.F.Folder.names c.args.folder.now) c.args.supply.now.cat.now d c.args.band.now.sources (length c.args.band.now.sources) c.of-canvas.result (omega arith) c.of-canvas.ensures.open));
    }

pub fill-get-source-requires : goal.fill-get-source-requires
fill-get-source-requires g t c =
    let some : 0 < c.loop-key.left = c.is_wanted.ensures.some c.loop-key-test.true in
    let low = c.loop-key.invariant.below in
    let wanted = c.loop-key.invariant.wanted c.requires.key.dataset c.requires.key.in_range.at in
    let less : c.loop-key.left - 1 < length (numbers_of c.loop-key.wanted-1) = omega arith in
    let there = wanted.below (c.loop-key.left - 1) 0 less in
    let bound : c.at-number.result < length c.args.band.now.sources = subst (λ n. n < length c.args.band.now.sources) (sym c.at-number.ensures.number) there in
    let inner : c.at-number.result < length c.band.inside.sources = subst (λ n. c.at-number.result < n) (sym (ap (λ (b : BandValue). length b.sources) c.band.view_is)) bound in
    search (rules, bound, inner)

pub fill-paint-requires : goal.fill-paint-requires
fill-paint-requires g t c =
    let k = c.requires.key in
    let before = c.loop-key.invariant in
    let item : slice_get c.args.band.now.sources c.at-number.result ≡ Some c.get-source.result.now = ap (λ (l : List SourceValue). slice_get l c.at-number.result) (sym (ap (λ (b : BandValue). b.sources) c.band.view_is)) ∙ c.get-source.ensures.item in
    let few : c.at-number.result < 2 ^ 32 = (let p = slice_get_within c.args.band.now.sources c.at-number.result c.get-source.result.now item in omega (arith, p, c.requires.sources)) in
    let source : IsSourceOf c.args.supply.now.cat.now c.args.key c.at-number.result c.get-source.result.now = record { dataset = k.dataset; in_range = k.in_range; source = source_stands c.args.supply.now.cat.now c.args.key c.args.band.now k c.at-number.result c.get-source.result.now item } in
    let fall : 7 * height_at c.args.supply.now.cat.now c.args.key.dataset < t = (let m : 7 * height_at c.args.supply.now.cat.now c.args.key.dataset + 1 ≡ t = c.decreases in omega arith) in
    let within : (d : Dataset) → slice_get c.args.supply.now.cat.now c.args.key.dataset ≡ Some d → IsWithin c.loop-key.canvas.rect d.head.size = λ d at. subst (λ r. IsWithin r d.head.size) (sym before.rect) (c.requires.within d at) in
    let canvas = before.canvas in
    let fit = fit_then g.F.Folder c.args.supply.now.cat.now c.requires.fit before.serves in
    search (rules, fall, fit, source, within, canvas, few)

pub fill-loop-key-preserved : goal.fill-loop-key-preserved
fill-loop-key-preserved g t c =
    let k = c.requires.key in
    let before = c.loop-key.invariant in
    let o = c.in_ok-paint.ensures in
    let some : 0 < c.loop-key.left = c.is_wanted.ensures.some c.loop-key-test.true in
    let low = before.below in
    let less : c.loop-key.left - 1 < length (numbers_of c.loop-key.wanted-1) = omega arith in
    let is : c.at-number.result ≡ slice_index (numbers_of c.loop-key.wanted-1) (c.loop-key.left - 1) = c.at-number.ensures.number in
    let item : slice_get c.args.band.now.sources c.at-number.result ≡ Some c.get-source.result.now = ap (λ (l : List SourceValue). slice_get l c.at-number.result) (sym (ap (λ (b : BandValue). b.sources) c.band.view_is)) ∙ c.get-source.ensures.item in
    record {
      serves = serves_trans g.F.Folder.file_bytes g.F.Folder.file_len c.args.supply.now.cat.now 0 _ _ _ before.serves o.answered.serves;
      canvas = o.canvas;
      rect = (o.taken k.dataset k.in_range.at).rect ∙ before.rect;
      kind = (o.taken k.dataset k.in_range.at).kind ∙ before.kind;
      wanted = before.wanted;
      below = omega arith;
      taken = λ d at.
          let wanted = subst (λ r. IsWanted c.args.band.now.sources d.head.size r (numbers_of c.loop-key.wanted-1)) (sym before.rect) (before.wanted d at) in
          taken_here (g.F.Folder.names c.paint.new.folder) c.args.supply.now.cat.now d c.args.band.now.sources (numbers_of c.loop-key.wanted-1) c.paint.new.canvas (c.loop-key.left - 1) less
          (subst (λ n. AreTaken (g.F.Folder.names c.paint.new.folder) c.args.supply.now.cat.now d n c.args.band.now.sources c.paint.new.canvas) is
          (taken_more (g.F.Folder.names c.loop-key.folder) c.args.supply.now.cat.now d c.args.band.now.sources (g.F.Folder.names c.paint.new.folder) c.at-number.result c.get-source.result.now c.loop-key.canvas c.paint.new.canvas o.answered.serves.told item
          (subst (λ n. AreTaken (g.F.Folder.names c.loop-key.folder) c.args.supply.now.cat.now d (n + 1) c.args.band.now.sources c.loop-key.canvas) (sym is)
          (taken_behind (g.F.Folder.names c.loop-key.folder) c.args.supply.now.cat.now d c.args.band.now.sources (numbers_of c.loop-key.wanted-1) c.loop-key.canvas wanted c.loop-key.left some low (before.taken d at)))
          (o.taken d at)));
    }

pub fill-returns-in_err-paint-clause-answered : goal.fill-returns-in_err-paint-clause-answered
fill-returns-in_err-paint-clause-answered g t c = refused_then g.F.Folder c.args.supply.now.cat.now c.from_residual-in_err-paint.result c.in_err-paint.field-0.0 c.from_residual-in_err-paint.ensures c.loop-key.invariant.serves c.in_err-paint.ensures.answered

pub fill-returns-in_err-paint-clause-block : goal.fill-returns-in_err-paint-clause-block
fill-returns-in_err-paint-clause-block g t c = no_value c.from_residual-in_err-paint.result _ _ c.from_residual-in_err-paint.ensures

pub fill-returns-in_err-block-clause-answered : goal.fill-returns-in_err-block-clause-answered
fill-returns-in_err-block-clause-answered g t c = refused_memory g.F.Folder c.args.supply.now.cat.now c.from_residual-in_err-block.result c.from_residual-in_err-block.ensures c.loop-key.invariant.serves

pub fill-returns-in_err-block-clause-block : goal.fill-returns-in_err-block-clause-block
fill-returns-in_err-block-clause-block g t c = no_value c.from_residual-in_err-block.result _ _ c.from_residual-in_err-block.ensures

pub fill-returns-clause-answered : goal.fill-returns-clause-answered
fill-returns-clause-answered g t c = answered_ok g.F.Folder c.args.supply.now.cat.now _ c.loop-key.invariant.serves

pub fill-returns-clause-block : goal.fill-returns-clause-block
fill-returns-clause-block g t c =
    let k = c.requires.key in
    let before = c.loop-key.invariant in
    let done = not_wanted c.is_wanted.result _ c.loop-key-test.false c.is_wanted.ensures.done in
    let nodata : to_z w128 (of_z w128 c.unwrap_or.result) ≡ unwrap_or c.args.band.now.nodata (pos 0) = (let n : to_z w128 (of_z w128 c.unwrap_or.result) ≡ c.unwrap_or.result = search rules in n ∙ c.unwrap_or.ensures ∙ ap (λ (b : BandValue). unwrap_or b.nodata (pos 0)) c.band.view_is) in
    let wanted = subst (λ r. IsWanted c.args.band.now.sources k.dataset.head.size r (numbers_of c.loop-key.wanted-1)) (sym before.rect) (before.wanted k.dataset k.in_range.at) in
    packed_part (g.F.Folder.names c.loop-key.folder) c.args.supply.now.cat.now c.args.key c.args.band.now k c.args.rect c.loop-key.canvas c.in_ok-block.block c.count-count.ensures.valid c.rules.ensures.rules (c.requires.within k.dataset k.in_range.at).columns before.rect before.kind
    (taken_done (g.F.Folder.names c.loop-key.folder) c.args.supply.now.cat.now k.dataset c.args.band.now.sources (numbers_of c.loop-key.wanted-1) c.loop-key.canvas wanted c.loop-key.left (before.taken k.dataset k.in_range.at) done)
    (subst (λ v. IsPackedOf c.loop-key.canvas v c.in_ok-block.block) nodata c.in_ok-block.ensures.packed) c.len-len.ensures.valid

pub paint-paint_picture-requires-clause-rows : goal.paint-paint_picture-requires-clause-rows
paint-paint_picture-requires-clause-rows g t c κs within =
    let asked = rw c.in-Some.is at c.in_ok-asked.ensures.asked in
    ap length c.as_mut_slice.ensures.value ∙ asked.size ∙ mul_comm c.in-Some.asked.part.w c.in-Some.asked.part.h
    ∙ ap (λ n. n * c.in-Some.asked.part.w) (sym asked.height) ∙ ap (λ n. c.in-Some.asked.picture.height * n) (sym asked.stride)

pub paint-take-requires-clause-near : goal.paint-take-requires-clause-near
paint-take-requires-clause-near g t c =
    let asked = rw c.in-Some.is at c.in_ok-asked.ensures.asked in
    let kept : length c.paint_picture.new.out ≡ length c.as_mut_slice.result.now = c.paint_picture.auto.out in
    let whole : take c.in-Some.asked.pixels.len (c.paint_picture.new.out ++ drop (length c.paint_picture.new.out) c.in-Some.asked.pixels.items) ≡ c.paint_picture.new.out =
    ap (λ m. take m (c.paint_picture.new.out ++ drop (length c.paint_picture.new.out) c.in-Some.asked.pixels.items)) (sym (kept ∙ c.as_mut_slice.ensures.len)) ∙ take-append_seam c.paint_picture.new.out (drop (length c.paint_picture.new.out) c.in-Some.asked.pixels.items) in
    let size : length c.paint_picture.new.out ≡ c.in-Some.asked.picture.height * c.in-Some.asked.picture.stride =
    kept ∙ ap length c.as_mut_slice.ensures.value ∙ asked.size ∙ mul_comm c.in-Some.asked.part.w c.in-Some.asked.part.h
    ∙ ap (λ n. n * c.in-Some.asked.part.w) (sym asked.height) ∙ ap (λ n. c.in-Some.asked.picture.height * n) (sym asked.stride) in
    subst (All (TakesPixel c.taking_of-taking.result)) (sym whole)
    (All-weaker (IsPixelOf c.args.source.source.now) (TakesPixel c.taking_of-taking.result) (λ v p. c.taking_of-taking.ensures.pixels v p) c.paint_picture.new.out
    (pixels_near c.args.supply.now.cat.now c.args.source.source.now c.in-Some.asked.picture c.paint_picture.new.out (c.in-Some.asked.picture.height * c.in-Some.asked.picture.stride) asked.picture asked.takes asked.taking asked.to (asked.stride ∙ sym asked.width) size c.in_ok-paint_picture.ensures.typed))

pub paint-returns-in_err-asked-clause-answered : goal.paint-returns-in_err-asked-clause-answered
paint-returns-in_err-asked-clause-answered g t c = refused_memory g.F.Folder c.args.supply.now.cat.now c.from_residual.result c.from_residual.ensures (serves_still g.F.Folder c.args.supply.now.cat.now c.args.folder.now c.args.self.now c.args.loads.now c.requires.fit.ready)

pub paint-returns-in_err-asked-clause-canvas : goal.paint-returns-in_err-asked-clause-canvas
paint-returns-in_err-asked-clause-canvas g t c = none_given c.from_residual.result _ _ c.from_residual.ensures

pub paint-returns-in_err-asked-clause-taken : goal.paint-returns-in_err-asked-clause-taken
paint-returns-in_err-asked-clause-taken g t c = λ d at. none_given c.from_residual.result _ _ c.from_residual.ensures

pub paint-returns-in_default-clause-answered : goal.paint-returns-in_default-clause-answered
paint-returns-in_default-clause-answered g t c = answered_ok g.F.Folder c.args.supply.now.cat.now _ (serves_still g.F.Folder c.args.supply.now.cat.now c.args.folder.now c.args.self.now c.args.loads.now c.requires.fit.ready)

pub paint-returns-in_default-clause-canvas : goal.paint-returns-in_default-clause-canvas
paint-returns-in_default-clause-canvas g t c = c.requires.canvas

pub paint-returns-in_err-paint_picture-clause-answered : goal.paint-returns-in_err-paint_picture-clause-answered
paint-returns-in_err-paint_picture-clause-answered g t c = refused g.F.Folder c.args.supply.now.cat.now c.from_residual-in_err-paint_picture.result c.in_err-paint_picture.field-0.0 c.from_residual-in_err-paint_picture.ensures c.in_err-paint_picture.ensures.answered

pub paint-returns-in_err-paint_picture-clause-canvas : goal.paint-returns-in_err-paint_picture-clause-canvas
paint-returns-in_err-paint_picture-clause-canvas g t c = none_given c.from_residual-in_err-paint_picture.result _ _ c.from_residual-in_err-paint_picture.ensures

pub paint-returns-in_err-paint_picture-clause-taken : goal.paint-returns-in_err-paint_picture-clause-taken
paint-returns-in_err-paint_picture-clause-taken g t c = λ d at. none_given c.from_residual-in_err-paint_picture.result _ _ c.from_residual-in_err-paint_picture.ensures

pub paint-returns-in_err-take-clause-answered : goal.paint-returns-in_err-take-clause-answered
paint-returns-in_err-take-clause-answered g t c = refused_memory g.F.Folder c.args.supply.now.cat.now c.from_residual-in_err-take.result c.from_residual-in_err-take.ensures c.in_ok-paint_picture.ensures.answered.serves

pub paint-returns-in_err-take-clause-canvas : goal.paint-returns-in_err-take-clause-canvas
paint-returns-in_err-take-clause-canvas g t c = none_given c.from_residual-in_err-take.result _ _ c.from_residual-in_err-take.ensures

pub paint-returns-in_err-take-clause-taken : goal.paint-returns-in_err-take-clause-taken
paint-returns-in_err-take-clause-taken g t c = λ d at. none_given c.from_residual-in_err-take.result _ _ c.from_residual-in_err-take.ensures

pub paint-returns-clause-answered : goal.paint-returns-clause-answered
paint-returns-clause-answered g t c = answered_ok g.F.Folder c.args.supply.now.cat.now _ c.in_ok-paint_picture.ensures.answered.serves

pub paint-returns-clause-canvas : goal.paint-returns-clause-canvas
paint-returns-clause-canvas g t c = c.in_ok-take.ensures.canvas

pub paint-returns-in_default-clause-taken : goal.paint-returns-in_default-clause-taken
paint-returns-in_default-clause-taken g t c = λ d at.
    source_unasked (g.F.Folder.names c.args.folder.now) c.args.supply.now.cat.now d c.args.source.source.now c.args.canvas.now (c.in_ok-asked.ensures.none c.in_default.is d at)

pub paint-returns-clause-taken : goal.paint-returns-clause-taken
paint-returns-clause-taken g t c = λ d at.
    let asked = rw c.in-Some.is at c.in_ok-asked.ensures.asked in
    let kept : length c.paint_picture.new.out ≡ length c.as_mut_slice.result.now = c.paint_picture.auto.out in
    let whole : take c.in-Some.asked.pixels.len (c.paint_picture.new.out ++ drop (length c.paint_picture.new.out) c.in-Some.asked.pixels.items) ≡ c.paint_picture.new.out =
    ap (λ m. take m (c.paint_picture.new.out ++ drop (length c.paint_picture.new.out) c.in-Some.asked.pixels.items)) (sym (kept ∙ c.as_mut_slice.ensures.len)) ∙ take-append_seam c.paint_picture.new.out (drop (length c.paint_picture.new.out) c.in-Some.asked.pixels.items) in
    source_taken (g.F.Folder.names c.paint_picture.new.folder) c.args.supply.now.cat.now c.args.source.key c.args.source.source.now c.args.canvas.now c.in-Some.asked asked d at
    c.taking_of-taking.result c.taking_of-taking.ensures.values c.as_mut_slice.result.now c.paint_picture.new.out (ap length c.as_mut_slice.ensures.value ∙ asked.size) c.take.new.self
    c.in_ok-paint_picture.ensures.painted
    (subst (λ xs. IsTaken c.taking_of-taking.result xs c.in-Some.asked.part c.args.canvas.now c.take.new.self) whole c.in_ok-take.ensures.taken)

pub paint_picture-paint_band-requires-clause-fit : goal.paint_picture-paint_band-requires-clause-fit
paint_picture-paint_band-requires-clause-fit g t c κs within = fit_then g.F.Folder c.args.supply.now.cat.now c.requires.fit c.loop-line.invariant.serves

pub paint_pieces-paint_block-requires-clause-fit : goal.paint_pieces-paint_block-requires-clause-fit
paint_pieces-paint_block-requires-clause-fit g t c κs within = fit_then g.F.Folder c.args.supply.now.cat.now c.requires.fit c.loop-column.invariant.serves

pub paint_picture-paint_band-requires-clause-band : goal.paint_picture-paint_band-requires-clause-band
paint_picture-paint_band-requires-clause-band g t c κs within d at k low high =
    in_row c.args.supply.now.cat.now c.args.picture.now 0 c.loop-line.line c.block_around.result.key c.block_around.result.rect c.block_around.ensures.around d at (place_at c.args.picture.now.lines k)
    (c.run_end-last.ensures.low k low (let near = c.end_of-end.ensures.below in omega arith)) (c.run_end-last.ensures.edge k low (let near = c.end_of-end.ensures.below in omega arith))

pub paint_picture-paint_band-requires-clause-rows : goal.paint_picture-paint_band-requires-clause-rows
paint_picture-paint_band-requires-clause-rows g t c κs within =
    let far = c.run_end-last.ensures.below in
    let near = c.end_of-end.ensures.below in
    let below : c.end_of-end.result ≤ c.args.picture.now.height = omega arith in
    let above = c.end_of-end.ensures.above in
    let kept = c.loop-line.auto.out in
    let rows = c.requires.rows in
    let big : c.end_of-end.result * c.args.picture.now.stride ≤ c.args.picture.now.height * c.args.picture.now.stride = mul-le-mul below (omega arith) in
    part_length c.args.picture.now.stride c.loop-line.line c.end_of-end.result c.loop-line.out (omega arith) (omega arith)

pub paint_picture-loop-line-preserved : goal.paint_picture-loop-line-preserved
paint_picture-loop-line-preserved g t c =
    let before = c.loop-line.invariant in
    let o = c.in_ok-paint_band.ensures in
    let far = c.run_end-last.ensures.below in
    let near = c.end_of-end.ensures.below in
    let below : c.end_of-end.result ≤ c.args.picture.now.height = omega arith in
    let above = c.end_of-end.ensures.above in
    let kept = c.loop-line.auto.out in
    let rows = c.requires.rows in
    let sum : c.loop-line.line + (c.end_of-end.result - c.loop-line.line) ≡ c.end_of-end.result = omega arith in
    let big : c.end_of-end.result * c.args.picture.now.stride ≤ c.args.picture.now.height * c.args.picture.now.stride = mul-le-mul below (omega arith) in
    let there : (c.loop-line.line + (c.end_of-end.result - c.loop-line.line)) * c.args.picture.now.stride ≤ length c.loop-line.out = (let e : (c.loop-line.line + (c.end_of-end.result - c.loop-line.line)) * c.args.picture.now.stride ≡ c.end_of-end.result * c.args.picture.now.stride = ap (λ n. n * c.args.picture.now.stride) sum in omega arith) in
    record {
      serves = serves_trans g.F.Folder.file_bytes g.F.Folder.file_len c.args.supply.now.cat.now 0 _ _ _ before.serves o.answered.serves;
      below = below;
      painted = subst (λ n. (m : Files) → g.F.Folder.names c.paint_band.new.folder ≡ Some m → IsPainted (first (n * c.args.picture.now.stride) (in_columns c.args.picture.now.stride (c.args.picture.now.to + 0) (c.args.picture.now.to + 0 + c.args.picture.now.width) (shown m c.args.supply.now.cat.now c.args.picture.now 0 0))) c.args.out.now (put_mid (c.loop-line.line * c.args.picture.now.stride) (c.end_of-end.result * c.args.picture.now.stride - c.loop-line.line * c.args.picture.now.stride) c.loop-line.out c.paint_band.new.out)) sum
          (bands_more (g.F.Folder.names c.loop-line.folder) (g.F.Folder.names c.paint_band.new.folder) c.args.supply.now.cat.now c.args.picture.now c.loop-line.line (c.end_of-end.result - c.loop-line.line) (c.loop-line.line * c.args.picture.now.stride) (c.end_of-end.result * c.args.picture.now.stride) c.args.out.now c.loop-line.out c.paint_band.new.out
          o.answered.serves.told refl (ap (λ n. n * c.args.picture.now.stride) (sym sum)) c.requires.picture.picture.some there before.painted o.painted);
      typed = subst (λ n. AreTyped c.args.supply.now.cat.now c.args.picture.now (n * c.args.picture.now.stride) (put_mid (c.loop-line.line * c.args.picture.now.stride) (c.end_of-end.result * c.args.picture.now.stride - c.loop-line.line * c.args.picture.now.stride) c.loop-line.out c.paint_band.new.out)) sum
          (rows_typed c.args.supply.now.cat.now c.args.picture.now c.loop-line.line (c.end_of-end.result - c.loop-line.line) (c.loop-line.line * c.args.picture.now.stride) (c.end_of-end.result * c.args.picture.now.stride) c.loop-line.out c.paint_band.new.out
          refl (ap (λ n. n * c.args.picture.now.stride) (sym sum)) c.requires.picture.picture.some there
          (part_length c.args.picture.now.stride c.loop-line.line c.end_of-end.result c.loop-line.out (omega arith) (omega arith)) before.typed o.typed);
    }

pub paint_picture-returns-in_err-paint_band-clause-answered : goal.paint_picture-returns-in_err-paint_band-clause-answered
paint_picture-returns-in_err-paint_band-clause-answered g t c = refused_then g.F.Folder c.args.supply.now.cat.now c.from_residual.result c.in_err-paint_band.field-0.0 c.from_residual.ensures c.loop-line.invariant.serves c.in_err-paint_band.ensures.answered

pub paint_picture-returns-in_err-paint_band-clause-painted : goal.paint_picture-returns-in_err-paint_band-clause-painted
paint_picture-returns-in_err-paint_band-clause-painted g t c = none_given c.from_residual.result _ _ c.from_residual.ensures

pub paint_picture-returns-in_err-paint_band-clause-typed : goal.paint_picture-returns-in_err-paint_band-clause-typed
paint_picture-returns-in_err-paint_band-clause-typed g t c = none_given c.from_residual.result _ _ c.from_residual.ensures

pub paint_picture-returns-clause-answered : goal.paint_picture-returns-clause-answered
paint_picture-returns-clause-answered g t c = answered_ok g.F.Folder c.args.supply.now.cat.now _ c.loop-line.invariant.serves

pub paint_picture-returns-clause-typed : goal.paint_picture-returns-clause-typed
paint_picture-returns-clause-typed g t c =
    let before = c.loop-line.invariant in
    let test = c.loop-line-test.false in
    let below = before.below in
    let all : c.loop-line.line ≡ c.args.picture.now.height = omega arith in
    subst (λ n. AreTyped c.args.supply.now.cat.now c.args.picture.now (n * c.args.picture.now.stride) c.loop-line.out) all before.typed

pub paint_picture-returns-clause-painted : goal.paint_picture-returns-clause-painted
paint_picture-returns-clause-painted g t c = λ m e.
    let before = c.loop-line.invariant in
    let test = c.loop-line-test.false in
    let below = before.below in
    let rows = c.requires.rows in
    let all : c.loop-line.line ≡ c.args.picture.now.height = omega arith in
    let long : length c.args.out.now ≤ c.loop-line.line * c.args.picture.now.stride = (let e : c.loop-line.line * c.args.picture.now.stride ≡ c.args.picture.now.height * c.args.picture.now.stride = ap (λ n. n * c.args.picture.now.stride) all in omega arith) in
    painted_whole _ (c.loop-line.line * c.args.picture.now.stride) c.args.out.now c.loop-line.out long (before.painted m e)

pub paint_pieces-paint_block-requires-clause-piece : goal.paint_pieces-paint_block-requires-clause-piece
paint_pieces-paint_block-requires-clause-piece g t c κs within =
    let around = c.block_around.ensures.around in
    record {
      dataset = around.dataset;
      in_range = around.in_range;
      rect_is = around.rect_is;
      dataset_is = around.dataset_is;
      band = around.band;
      across = λ k low high. (c.run_end-end.ensures.low k low (omega arith), c.run_end-end.ensures.edge k low (omega arith));
      down = λ k low high. from_row c.args.supply.now.cat.now c.args.picture.now c.loop-column.column c.args.lines.first c.block_around.result.key c.block_around.result.rect around (place_at c.args.picture.now.lines k)
          (c.requires.band around.dataset (around_at c.args.supply.now.cat.now c.args.picture.now c.loop-column.column c.args.lines.first c.block_around.result.key c.block_around.result.rect around) k low high);
    }

pub paint_pieces-loop-column-preserved : goal.paint_pieces-loop-column-preserved
paint_pieces-loop-column-preserved g t c =
    let before = c.loop-column.invariant in
    let o = c.in_ok-paint_block.ensures in
    let above = c.run_end-end.ensures.above in
    let sum : c.loop-column.column + (c.run_end-end.result - c.loop-column.column) ≡ c.run_end-end.result = omega arith in
    record {
      serves = serves_trans g.F.Folder.file_bytes g.F.Folder.file_len c.args.supply.now.cat.now 0 _ _ _ before.serves o.answered.serves;
      below = c.run_end-end.ensures.below;
      painted = subst (λ n. IsShown (g.F.Folder.names c.paint_block.new.folder) c.args.supply.now.cat.now c.args.picture.now 0 n c.args.lines.first c.args.out.now c.paint_block.new.out) sum
          (columns_more (g.F.Folder.names c.loop-column.folder) (g.F.Folder.names c.paint_block.new.folder) c.args.supply.now.cat.now c.args.picture.now c.loop-column.column (c.run_end-end.result - c.loop-column.column) c.args.lines.first c.args.out.now c.loop-column.out c.paint_block.new.out o.answered.serves.told before.painted o.painted);
      typed = subst (λ n. IsTyped c.args.supply.now.cat.now c.args.picture.now 0 n c.args.out.now c.paint_block.new.out) sum
          (typed_more c.args.supply.now.cat.now c.args.picture.now c.loop-column.column (c.run_end-end.result - c.loop-column.column) c.args.out.now c.loop-column.out c.paint_block.new.out before.typed o.typed);
    }

pub paint_pieces-returns-in_err-paint_block-clause-answered : goal.paint_pieces-returns-in_err-paint_block-clause-answered
paint_pieces-returns-in_err-paint_block-clause-answered g t c = refused_then g.F.Folder c.args.supply.now.cat.now c.from_residual.result c.in_err-paint_block.field-0.0 c.from_residual.ensures c.loop-column.invariant.serves c.in_err-paint_block.ensures.answered

pub paint_pieces-returns-in_err-paint_block-clause-painted : goal.paint_pieces-returns-in_err-paint_block-clause-painted
paint_pieces-returns-in_err-paint_block-clause-painted g t c = none_given c.from_residual.result _ _ c.from_residual.ensures

pub paint_pieces-returns-in_err-paint_block-clause-typed : goal.paint_pieces-returns-in_err-paint_block-clause-typed
paint_pieces-returns-in_err-paint_block-clause-typed g t c = none_given c.from_residual.result _ _ c.from_residual.ensures

pub paint_pieces-returns-clause-answered : goal.paint_pieces-returns-clause-answered
paint_pieces-returns-clause-answered g t c = answered_ok g.F.Folder c.args.supply.now.cat.now _ c.loop-column.invariant.serves

pub paint_pieces-returns-clause-typed : goal.paint_pieces-returns-clause-typed
paint_pieces-returns-clause-typed g t c =
    let before = c.loop-column.invariant in
    let test = c.loop-column-test.false in
    let below = before.below in
    let all : c.loop-column.column ≡ c.args.picture.now.width = omega arith in
    subst (λ n. IsTyped c.args.supply.now.cat.now c.args.picture.now 0 n c.args.out.now c.loop-column.out) all before.typed

pub paint_pieces-returns-clause-painted : goal.paint_pieces-returns-clause-painted
paint_pieces-returns-clause-painted g t c =
    let before = c.loop-column.invariant in
    let test = c.loop-column-test.false in
    let below = before.below in
    let all : c.loop-column.column ≡ c.args.picture.now.width = omega arith in
    subst (λ n. IsShown (g.F.Folder.names c.loop-column.folder) c.args.supply.now.cat.now c.args.picture.now 0 n c.args.lines.first c.args.out.now c.loop-column.out) all before.painted

pub paint_band-returns-in-Some-clause-painted : goal.paint_band-returns-in-Some-clause-painted
paint_band-returns-in-Some-clause-painted g t c = λ m e.
    let part = rw c.in-Some.is at c.wide_rows.ensures.part in
    let columns = rw c.in-Some.is at c.wide_rows.ensures.columns in
    let lines = rw c.in-Some.is at c.wide_rows.ensures.lines in
    let made = c.in_ok-block.ensures.block in
    let rows = c.requires.rows in
    let p = c.args.picture.now in
    let area = c.in-Some.rows.piece.area in
    let high : area.lines * p.stride ≡ c.args.lines.count * p.stride = ap (λ n. n * p.stride) lines.1 in
    let size : length c.args.out.now ≤ area.lines * p.stride = omega arith in
    let painted = rect_shown m c.args.supply.now.cat.now c.in-Some.rows.piece.key.dataset c.in-Some.rows.piece.key.band c.in-Some.rows.piece.rect p area.column area.columns area.line area.lines c.in_ok-block.block c.args.out.now c.paint_rows.new.out part.dataset_is part.band_is part.across part.down (made.content m e) c.requires.picture.picture.some size c.paint_rows.ensures.painted in
    subst (λ n. IsPainted (in_columns p.stride (p.to + 0) (p.to + 0 + n) (shown m c.args.supply.now.cat.now p 0 c.args.lines.first)) c.args.out.now c.paint_rows.new.out) columns.1
    (subst (λ n. IsPainted (in_columns p.stride (p.to + 0) (p.to + 0 + area.columns) (shown m c.args.supply.now.cat.now p 0 n)) c.args.out.now c.paint_rows.new.out) lines.0
    (subst (λ n. IsPainted (in_columns p.stride (p.to + n) (p.to + n + area.columns) (shown m c.args.supply.now.cat.now p n area.line)) c.args.out.now c.paint_rows.new.out) columns.0 painted))

pub paint_band-returns-in-Some-clause-typed : goal.paint_band-returns-in-Some-clause-typed
paint_band-returns-in-Some-clause-typed g t c =
    let part = rw c.in-Some.is at c.wide_rows.ensures.part in
    let columns = rw c.in-Some.is at c.wide_rows.ensures.columns in
    let made = c.in_ok-block.ensures.block in
    let p = c.args.picture.now in
    subst (λ n. IsTyped c.args.supply.now.cat.now p 0 n c.args.out.now c.paint_rows.new.out) columns.1
    (subst (λ n. IsTyped c.args.supply.now.cat.now p n c.in-Some.rows.piece.area.columns c.args.out.now c.paint_rows.new.out) columns.0
    (rect_typed c.args.supply.now.cat.now p c.in-Some.rows.piece c.in-Some.rows.piece.rect made.dataset c.in_ok-block.block c.args.out.now c.paint_rows.new.out part.dataset_is part.band_is made.in_range made.shape c.paint_rows.ensures.painted))

pub paint_band-returns-in_err-block-clause-answered : goal.paint_band-returns-in_err-block-clause-answered
paint_band-returns-in_err-block-clause-answered g t c = refused g.F.Folder c.args.supply.now.cat.now c.from_residual.result c.in_err-block.field-0.0 c.from_residual.ensures c.in_err-block.ensures.answered

pub paint_band-returns-in_err-block-clause-painted : goal.paint_band-returns-in_err-block-clause-painted
paint_band-returns-in_err-block-clause-painted g t c = none_given c.from_residual.result _ _ c.from_residual.ensures

pub paint_band-returns-in_err-block-clause-typed : goal.paint_band-returns-in_err-block-clause-typed
paint_band-returns-in_err-block-clause-typed g t c = none_given c.from_residual.result _ _ c.from_residual.ensures

pub paint_band-returns-in-Some-clause-answered : goal.paint_band-returns-in-Some-clause-answered
paint_band-returns-in-Some-clause-answered g t c = answered_ok g.F.Folder c.args.supply.now.cat.now _ c.in_ok-block.ensures.answered.serves

pub paint_band-returns-clause-answered : goal.paint_band-returns-clause-answered
paint_band-returns-clause-answered g t c = c.paint_pieces.ensures.answered

pub paint_band-returns-clause-painted : goal.paint_band-returns-clause-painted
paint_band-returns-clause-painted g t c = c.paint_pieces.ensures.painted

pub paint_band-returns-clause-typed : goal.paint_band-returns-clause-typed
paint_band-returns-clause-typed g t c = c.paint_pieces.ensures.typed

pub paint_block-returns-in-Some-clause-painted : goal.paint_block-returns-in-Some-clause-painted
paint_block-returns-in-Some-clause-painted g t c = λ m e.
    let part = rw c.in-Some.is at c.lone_part.ensures.part in
    let made = c.in_ok-block.ensures.block in
    let rows = c.requires.rows in
    rect_shown m c.args.supply.now.cat.now c.args.piece.key.dataset c.args.piece.key.band c.in-Some.part.rect c.args.picture.now c.args.piece.area.column c.args.piece.area.columns c.args.piece.area.line c.args.piece.area.lines c.in_ok-block.block c.args.out.now c.paint_rows.new.out part.dataset_is part.band_is part.across part.down (made.content m e) c.requires.picture.picture.some (omega arith) c.paint_rows.ensures.painted

pub paint_block-returns-in-Some-clause-typed : goal.paint_block-returns-in-Some-clause-typed
paint_block-returns-in-Some-clause-typed g t c =
    let part = rw c.in-Some.is at c.lone_part.ensures.part in
    let made = c.in_ok-block.ensures.block in
    rect_typed c.args.supply.now.cat.now c.args.picture.now c.args.piece c.in-Some.part.rect made.dataset c.in_ok-block.block c.args.out.now c.paint_rows.new.out part.dataset_is part.band_is made.in_range made.shape c.paint_rows.ensures.painted

pub paint_block-returns-in_err-block-clause-answered : goal.paint_block-returns-in_err-block-clause-answered
paint_block-returns-in_err-block-clause-answered g t c = refused g.F.Folder c.args.supply.now.cat.now c.from_residual.result c.in_err-block.field-0.0 c.from_residual.ensures c.in_err-block.ensures.answered

pub paint_block-returns-in_err-block-clause-painted : goal.paint_block-returns-in_err-block-clause-painted
paint_block-returns-in_err-block-clause-painted g t c = none_given c.from_residual.result _ _ c.from_residual.ensures

pub paint_block-returns-in_err-block-clause-typed : goal.paint_block-returns-in_err-block-clause-typed
paint_block-returns-in_err-block-clause-typed g t c = none_given c.from_residual.result _ _ c.from_residual.ensures

pub paint_block-returns-in-Some-clause-answered : goal.paint_block-returns-in-Some-clause-answered
paint_block-returns-in-Some-clause-answered g t c = answered_ok g.F.Folder c.args.supply.now.cat.now _ c.in_ok-block.ensures.answered.serves

pub paint_block-returns-then-is_jump-clause-painted : goal.paint_block-returns-then-is_jump-clause-painted
paint_block-returns-then-is_jump-clause-painted g t c = λ m e.
    let part = c.requires.piece in
    let made = c.in_ok-block-2.ensures.block in
    let pixel = c.pixel_rect-rect.ensures in
    let rows = c.requires.rows in
    let jump = c.if-is_jump.true in
    let one = c.is_jump.ensures.narrow in
    let one_line = c.is_jump.ensures.low in
    let narrow : c.args.picture.now.width ≡ 1 = search (rules, one, jump) in
    let low : c.args.picture.now.height ≡ 1 = search (rules, one_line, jump) in
    rect_shown m c.args.supply.now.cat.now c.args.piece.key.dataset c.args.piece.key.band c.pixel_rect-rect.result c.args.picture.now c.args.piece.area.column c.args.piece.area.columns c.args.piece.area.line c.args.piece.area.lines c.in_ok-block-2.block c.args.out.now c.paint_rows-then-is_jump.new.out part.dataset_is part.band
    (alone_in c.args.picture.now.columns c.pixel_rect-rect.result.x c.pixel_rect-rect.result.w c.args.picture.now.width c.args.piece.area.column c.args.piece.area.columns pixel.column pixel.narrow narrow c.requires.area.columns)
    (alone_in c.args.picture.now.lines c.pixel_rect-rect.result.y c.pixel_rect-rect.result.h c.args.picture.now.height c.args.piece.area.line c.args.piece.area.lines pixel.line pixel.low low c.requires.area.lines)
    (made.content m e) c.requires.picture.picture.some (omega arith) c.paint_rows-then-is_jump.ensures.painted

pub paint_block-returns-then-is_jump-clause-typed : goal.paint_block-returns-then-is_jump-clause-typed
paint_block-returns-then-is_jump-clause-typed g t c =
    let part = c.requires.piece in
    let made = c.in_ok-block-2.ensures.block in
    rect_typed c.args.supply.now.cat.now c.args.picture.now c.args.piece c.pixel_rect-rect.result made.dataset c.in_ok-block-2.block c.args.out.now c.paint_rows-then-is_jump.new.out part.dataset_is part.band made.in_range made.shape c.paint_rows-then-is_jump.ensures.painted

pub paint_block-returns-in_err-block-2-clause-answered : goal.paint_block-returns-in_err-block-2-clause-answered
paint_block-returns-in_err-block-2-clause-answered g t c = answered_same g.F.Folder c.args.supply.now.cat.now c.from_residual-in_err-block-2.result c.is_jump.ensures.same
    (refused g.F.Folder c.args.supply.now.cat.now c.from_residual-in_err-block-2.result c.in_err-block-2.field-0.0 c.from_residual-in_err-block-2.ensures c.in_err-block-2.ensures.answered)

pub paint_block-returns-in_err-block-2-clause-painted : goal.paint_block-returns-in_err-block-2-clause-painted
paint_block-returns-in_err-block-2-clause-painted g t c = none_given c.from_residual-in_err-block-2.result _ _ c.from_residual-in_err-block-2.ensures

pub paint_block-returns-in_err-block-2-clause-typed : goal.paint_block-returns-in_err-block-2-clause-typed
paint_block-returns-in_err-block-2-clause-typed g t c = none_given c.from_residual-in_err-block-2.result _ _ c.from_residual-in_err-block-2.ensures

pub paint_block-returns-then-is_jump-clause-answered : goal.paint_block-returns-then-is_jump-clause-answered
paint_block-returns-then-is_jump-clause-answered g t c = answered_same g.F.Folder c.args.supply.now.cat.now _ c.is_jump.ensures.same (answered_ok g.F.Folder c.args.supply.now.cat.now _ c.in_ok-block-2.ensures.answered.serves)

pub paint_block-returns-in_err-hold-clause-answered : goal.paint_block-returns-in_err-hold-clause-answered
paint_block-returns-in_err-hold-clause-answered g t c = answered_same g.F.Folder c.args.supply.now.cat.now c.from_residual-in_err-hold.result c.is_jump.ensures.same
    (refused g.F.Folder c.args.supply.now.cat.now c.from_residual-in_err-hold.result c.in_err-hold.field-0.0 c.from_residual-in_err-hold.ensures c.in_err-hold.ensures.answered)

pub paint_block-returns-in_err-hold-clause-painted : goal.paint_block-returns-in_err-hold-clause-painted
paint_block-returns-in_err-hold-clause-painted g t c = none_given c.from_residual-in_err-hold.result _ _ c.from_residual-in_err-hold.ensures

pub paint_block-returns-in_err-hold-clause-typed : goal.paint_block-returns-in_err-hold-clause-typed
paint_block-returns-in_err-hold-clause-typed g t c = none_given c.from_residual-in_err-hold.result _ _ c.from_residual-in_err-hold.ensures

pub paint_block-hold-requires-clause-fit : goal.paint_block-hold-requires-clause-fit
paint_block-hold-requires-clause-fit g t c κs within = fit_same g.F.Folder c.args.supply.now.cat.now c.requires.fit c.is_jump.ensures.same

pub paint_block-returns-clause-typed : goal.paint_block-returns-clause-typed
paint_block-returns-clause-typed g t c =
    let o = c.in_ok-hold.ensures in
    used_typed (g.F.Folder.names c.hold.new.folder) c.args.supply.now.cat.now c.args.picture.now c.args.piece c.requires.piece c.hold.new.self c.paint_held.new.self c.args.out.now c.paint_held.new.out o.answered.serves.right.blocks o.answered.serves.right.remembered c.paint_held.ensures.used

pub paint_block-paint_held-requires-clause-held : goal.paint_block-paint_held-requires-clause-held
paint_block-paint_held-requires-clause-held g t c κs within =
    let o = c.in_ok-hold.ensures in
    held_sized (g.F.Folder.names c.hold.new.folder) c.args.supply.now.cat.now c.args.picture.now c.args.piece c.requires.piece c.hold.new.self o.answered.serves.right.blocks o.answered.serves.right.remembered o.held

pub paint_block-returns-clause-answered : goal.paint_block-returns-clause-answered
paint_block-returns-clause-answered g t c =
    let o = c.in_ok-hold.ensures in
    answered_same g.F.Folder c.args.supply.now.cat.now _ c.is_jump.ensures.same (answered_ok g.F.Folder c.args.supply.now.cat.now _
    (serves_trans g.F.Folder.file_bytes g.F.Folder.file_len c.args.supply.now.cat.now 0 _ _ _ o.answered.serves
    (serves_used g.F.Folder.file_bytes g.F.Folder.file_len c.args.supply.now.cat.now (g.F.Folder.names c.hold.new.folder) c.hold.new.self c.paint_held.new.self (g.F.Folder.faults c.hold.new.folder) (g.F.Folder.read_calls c.hold.new.folder) (g.F.Folder.write_calls c.hold.new.folder) c.hold.new.loads c.args.piece.key
    (λ e. IsPainted (in_columns c.args.picture.now.stride (c.args.picture.now.to + c.args.piece.area.column) (c.args.picture.now.to + c.args.piece.area.column + c.args.piece.area.columns) (from_block e.block c.args.piece.rect c.args.picture.now c.args.piece.area.column c.args.piece.area.line)) c.args.out.now c.paint_held.new.out)
    o.answered.serves.right c.paint_held.ensures.used c.paint_held.ensures.valid c.paint_held.ensures.made_valid)))

pub paint_block-returns-clause-painted : goal.paint_block-returns-clause-painted
paint_block-returns-clause-painted g t c =
    let o = c.in_ok-hold.ensures in
    let rows = c.requires.rows in
    used_shown (g.F.Folder.names c.hold.new.folder) c.args.supply.now.cat.now c.args.picture.now c.args.piece c.requires.piece c.hold.new.self c.paint_held.new.self c.args.out.now c.paint_held.new.out o.answered.serves.right.blocks o.answered.serves.right.remembered c.requires.picture.picture.some (omega arith) c.paint_held.ensures.used
