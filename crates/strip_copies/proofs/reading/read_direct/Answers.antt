use Rattle.std.proofs.Common.{◌≡◌, ◌∙◌, ◌*◌, ap, sym, subst, length, arith}
use Rattle.std.specs.Prelude.{slice_get}
use Rattle.std.proofs.Math.Nat.{mul_comm}
use Rattle.geotransform.specs.declared.types.Rect.{Rect}
use Rattle.catalog.specs.Drivers.{Dataset}
use Rattle.catalog.specs.Pixels.{pixel_of_name}
use Rattle.catalog.specs.Places.{row_by_row}
use Rattle.translate_plan.specs.Plan.{Planned}
use Rattle.strip_copies.specs.Rows.{AreSamples, IsHolding}
use Rattle.strip_copies.specs.Columns.{AreColumns}
use Rattle.strip_copies.proofs.Straight.{direct_samples}
use Rattle.strip_copies.proofs.reading.read_direct.Goals as goal

pub read_window_with-requires-clause-told : goal.read_window_with-requires-clause-told
read_window_with-requires-clause-told g c κs within = c.requires.ready.told_is

pub read_window_with-requires-clause-scene : goal.read_window_with-requires-clause-scene
read_window_with-requires-clause-scene g c κs within = c.requires.ready.scene_is

pub read_window_with-requires-clause-some : goal.read_window_with-requires-clause-some
read_window_with-requires-clause-some g c κs within = c.requires.ready.some

pub read_window_with-requires-clause-ready : goal.read_window_with-requires-clause-ready
read_window_with-requires-clause-ready g c κs within = c.requires.ready.ready

pub read_window_with-requires-clause-size : goal.read_window_with-requires-clause-size
read_window_with-requires-clause-size g c κs within =
    let direct = c.requires.direct c.requires.part.dataset c.requires.part.at in
    let w = c.args.shown.now.translation.now.plan.size.w in
    let h = c.args.run.span.height in
    c.requires.room ∙ ap (λ n. n * w) (sym direct.tall) ∙ ap (λ n. h * n) (sym direct.wide) ∙ mul_comm h c.args.shown.now.columns.now.count ∙ ap (λ (r : Rect). r.w * r.h) (sym c.window_of-window.ensures.rect)

pub returns-in_err-read_window_with-clause-ready : goal.returns-in_err-read_window_with-clause-ready
returns-in_err-read_window_with-clause-ready g c = record {
  some = (let n = c.read_window_with.ensures.count in let s = c.requires.ready.some in omega arith);
  ready = c.read_window_with.ensures.ready;
  told_is = c.requires.ready.told_is ∙ sym c.read_window_with.ensures.only_read.names;
  scene_is = c.requires.ready.scene_is;
}

pub returns-clause-ready : goal.returns-clause-ready
returns-clause-ready g c = record {
  some = (let n = c.read_window_with.ensures.count in let s = c.requires.ready.some in omega arith);
  ready = c.read_window_with.ensures.ready;
  told_is = c.requires.ready.told_is ∙ sym c.read_window_with.ensures.only_read.names;
  scene_is = c.requires.ready.scene_is;
}

pub hold_all-requires : goal.hold_all-requires
hold_all-requires g c =
    let part = c.requires.part in
    let at = ap (slice_get c.args.shown.now.translation.now.cat) c.window_of-window.ensures.dataset ∙ part.at in
    record { kind = λ k d less. c.in_ok-read_window_with.ensures.typed k d less part.dataset c.band_type_of-kind.result at (c.band_type_of-kind.ensures.kind part.dataset part.at) }

pub returns-clause-samples : goal.returns-clause-samples
returns-clause-samples g c = λ d at.
    let p = c.args.shown.now.translation.now.plan in
    let told = g.F.Folder.names c.args.folder.now in
    let columns = c.args.shown.now.columns.now in
    let run = c.args.run in
    let raw = c.read_window_with.new.out in
    let part = c.requires.part in
    let same : part.dataset ≡ d = (let a = part.at in let b = at in cc) in
    let direct = c.requires.direct d at in
    let making = c.making_of-making.ensures in
    let h = c.making_of-making.result.holding in
    let holding : IsHolding p run.band h = subst (λ k. IsHolding p k h) making.band (subst (λ (q : Planned). IsHolding q c.making_of-making.result.band h) making.plan making.making.holding) in
    let long : length raw ≡ p.size.w * run.span.height = c.read_window_with.auto.out ∙ c.requires.room ∙ ap (λ n. n * p.size.w) (sym direct.tall) ∙ mul_comm run.span.height p.size.w in
    subst (λ n. AreSamples told d.head.name p d.head.size run.band run.first n c.hold_all.new.samples) c.read_window_with.auto.out
    (direct_samples told d.head.name p d.head.size run.band h holding columns run (subst (λ (d : Dataset). AreColumns p d.head.size.w columns) same part.shown) direct raw c.hold_all.new.samples
    (λ m b t found.
    c.in_ok-read_window_with.ensures.named m t d (ap (slice_get c.args.shown.now.translation.now.cat) c.window_of-window.ensures.dataset ∙ at)
    ∙ ap (λ n. row_by_row (pixel_of_name m d.head.name n) c.window_of-window.result.rect) (c.window_of-window.ensures.band b found)
    ∙ ap (row_by_row (pixel_of_name m d.head.name b.source)) c.window_of-window.ensures.rect)
    long c.hold_all.ensures.samples)
