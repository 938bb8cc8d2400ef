use Rattle.std.proofs.Common.{◌≡◌, ◌∙◌, ◌-◌, ◌*◌, ap, sym, length, arith}
use Rattle.std.specs.Prelude.{slice_get}
use Rattle.geotransform.specs.declared.types.Rect.{Rect}
use Rattle.catalog.specs.Pixels.{pixel_of_name}
use Rattle.catalog.specs.Places.{row_by_row}
use Rattle.strip_copies.proofs.Copied.{piece_held, piece_samples, piece_told}
use Rattle.strip_copies.proofs.pieces.read_piece.Goals as goal

pub read_window_with-requires-clause-told : goal.read_window_with-requires-clause-told
read_window_with-requires-clause-told g c κs within = c.requires.ready.told_is

pub read_window_with-requires-clause-scene : goal.read_window_with-requires-clause-scene
read_window_with-requires-clause-scene g c κs within = c.requires.ready.scene_is

pub read_window_with-requires-clause-some : goal.read_window_with-requires-clause-some
read_window_with-requires-clause-some g c κs within = c.requires.ready.some

pub read_window_with-requires-clause-ready : goal.read_window_with-requires-clause-ready
read_window_with-requires-clause-ready g c κs within = c.requires.ready.ready

pub read_window_with-requires-clause-size : goal.read_window_with-requires-clause-size
read_window_with-requires-clause-size g c κs within = c.requires.size ∙ ap (λ (r : Rect). r.w * r.h) (sym c.piece_window-window.ensures.rect)

pub returns-in_err-read_window_with-clause-ready : goal.returns-in_err-read_window_with-clause-ready
returns-in_err-read_window_with-clause-ready g c = record {
  some = (let n = c.read_window_with.ensures.count in let s = c.requires.ready.some in omega arith);
  ready = c.read_window_with.ensures.ready;
  told_is = c.requires.ready.told_is ∙ sym c.read_window_with.ensures.only_read.names;
  scene_is = c.requires.ready.scene_is;
}

pub returns-clause-ready : goal.returns-clause-ready
returns-clause-ready g c = record {
  some = (let n = c.read_window_with.ensures.count in let s = c.requires.ready.some in omega arith);
  ready = c.read_window_with.ensures.ready;
  told_is = c.requires.ready.told_is ∙ sym c.read_window_with.ensures.only_read.names;
  scene_is = c.requires.ready.scene_is;
}

pub hold_all-requires : goal.hold_all-requires
hold_all-requires g c =
    let t = c.requires.translation in
    let at = ap (slice_get c.args.translation.now.cat) c.piece_window-window.ensures.dataset ∙ t.at in
    record { kind = λ k d less. c.in_ok-read_window_with.ensures.typed k d less t.dataset c.band_type_of-kind.result at (c.band_type_of-kind.ensures.kind t.dataset t.at) }

pub returns-clause-pixels : goal.returns-clause-pixels
returns-clause-pixels g c = λ m e d at.
    let p = c.args.translation.now.plan in
    let piece = c.args.piece in
    let told = g.F.Folder.names c.args.folder.now in
    let raw = c.read_window_with.new.out in
    let out = c.hold_all.new.samples in
    let long : length raw ≡ (piece.right - piece.left) * (piece.end - piece.first) = c.read_window_with.auto.out ∙ c.requires.size in
    let same : length out ≡ length raw = c.hold_all.auto.samples in
    piece_told told d.head.name p d.head.size piece (length raw) m out e (same ∙ long) (sym same)
    (piece_samples told d.head.name p d.head.size (c.requires.copied d at) piece c.requires.piece c.of-holding.result c.of-holding.ensures.holding raw out
    (λ m b t found.
    c.in_ok-read_window_with.ensures.named m t d (ap (slice_get c.args.translation.now.cat) c.piece_window-window.ensures.dataset ∙ at)
    ∙ ap (λ n. row_by_row (pixel_of_name m d.head.name n) c.piece_window-window.result.rect) (c.piece_window-window.ensures.band b found)
    ∙ ap (row_by_row (pixel_of_name m d.head.name b.source)) c.piece_window-window.ensures.rect)
    long c.hold_all.ensures.samples)

pub returns-clause-held : goal.returns-clause-held
returns-clause-held g c =
    let p = c.args.translation.now.plan in
    let piece = c.args.piece in
    let told = g.F.Folder.names c.args.folder.now in
    let raw = c.read_window_with.new.out in
    let out = c.hold_all.new.samples in
    let d = c.requires.translation.dataset in
    let at = c.requires.translation.at in
    let long : length raw ≡ (piece.right - piece.left) * (piece.end - piece.first) = c.read_window_with.auto.out ∙ c.requires.size in
    let same : length out ≡ length raw = c.hold_all.auto.samples in
    piece_held told d.head.name p d.head.size piece (length raw) out c.rules.ensures.kept (sym same)
    (piece_samples told d.head.name p d.head.size (c.requires.copied d at) piece c.requires.piece c.of-holding.result c.of-holding.ensures.holding raw out
    (λ m b t found.
    c.in_ok-read_window_with.ensures.named m t d (ap (slice_get c.args.translation.now.cat) c.piece_window-window.ensures.dataset ∙ at)
    ∙ ap (λ n. row_by_row (pixel_of_name m d.head.name n) c.piece_window-window.result.rect) (c.piece_window-window.ensures.band b found)
    ∙ ap (row_by_row (pixel_of_name m d.head.name b.source)) c.piece_window-window.ensures.rect)
    long c.hold_all.ensures.samples)
