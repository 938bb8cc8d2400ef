use Rattle.std.proofs.Common.{◌≡◌, ◌<◌, ◌*◌, ◌∙◌, refl, ap, sym, ℕ, length, arith}
use Rattle.catalog.specs.Pixels.{pixel_of, pixel_of_name}
use Rattle.band_blocks.specs.Contents.{most_calls}
use Rattle.nearest_window.specs.Right.{slack_of}
use Rattle.nearest_window.specs.Windows.{IsInBand}
use Rattle.nearest_window.proofs.Fills.{on_ok}
use Rattle.nearest_window.proofs.Ranges.{no_sample, window_typed}
use Rattle.nearest_window.proofs.Service.{reads_between, ready_then}
use Rattle.nearest_window.proofs.Windows.{window_shown, empty_window, named_window}
use Rattle.nearest_window.proofs.lane.Lane.read_window_with.Goals as goal

pub returns-then-window-eq0-clause-pixels : goal.returns-then-window-eq0-clause-pixels
returns-then-window-eq0-clause-pixels g c = λ m e. empty_window (pixel_of m c.args.supply.now.cat.now c.args.window.dataset c.args.window.band) c.args.window.rect c.args.out.now c.if-window-eq0.true c.requires.size

pub returns-then-window-eq0-clause-named : goal.returns-then-window-eq0-clause-named
returns-then-window-eq0-clause-named g c = λ m e d at. empty_window (pixel_of_name m d.head.name c.args.window.band) c.args.window.rect c.args.out.now c.if-window-eq0.true c.requires.size

pub returns-then-window-eq0-clause-typed : goal.returns-then-window-eq0-clause-typed
returns-then-window-eq0-clause-typed g c = no_sample (IsInBand c.args.supply.now.cat.now c.args.window.dataset c.args.window.band) c.args.window.rect c.args.out.now c.if-window-eq0.true c.requires.size

pub returns-then-window-eq0-clause-ready : goal.returns-then-window-eq0-clause-ready
returns-then-window-eq0-clause-ready g c = c.requires.ready

pub returns-then-window-eq0-clause-loads : goal.returns-then-window-eq0-clause-loads
returns-then-window-eq0-clause-loads g c = λ h. omega arith

pub returns-then-window-eq0-clause-reads : goal.returns-then-window-eq0-clause-reads
returns-then-window-eq0-clause-reads g c = omega arith

pub returns-then-window-eq0-clause-counted : goal.returns-then-window-eq0-clause-counted
returns-then-window-eq0-clause-counted g c = omega arith

pub returns-then-window-eq0-clause-kept : goal.returns-then-window-eq0-clause-kept
returns-then-window-eq0-clause-kept g c = omega arith

pub returns-then-window-eq0-clause-capacity : goal.returns-then-window-eq0-clause-capacity
returns-then-window-eq0-clause-capacity g c = refl

pub returns-then-window-eq0-clause-only_read : goal.returns-then-window-eq0-clause-only_read
returns-then-window-eq0-clause-only_read g c = record { names = refl; writes = refl; faults = omega arith }

pub returns-then-window-eq0-clause-cause : goal.returns-then-window-eq0-clause-cause
returns-then-window-eq0-clause-cause g c = record { later = omega arith; failed = λ e. cc }

pub returns-then-window-eq0-clause-changed : goal.returns-then-window-eq0-clause-changed
returns-then-window-eq0-clause-changed g c = tt

pub returns-then-window-eq0-clause-never : goal.returns-then-window-eq0-clause-never
returns-then-window-eq0-clause-never g c = λ m e. tt

pub returns-clause-pixels : goal.returns-clause-pixels
returns-clause-pixels g c = λ m e.
    let zero = c.if-window-eq0.false in
    let some : 0 < c.args.window.rect.w = omega arith in
    on_ok c.paint_window.result _ _
    (λ shown. window_shown m c.args.supply.now.cat.now c.args.window c.window_of-picture.result c.window_of-picture.ensures.whole some c.args.out.now c.paint_window.new.out c.requires.size (shown m (c.paint_window.ensures.answered.serves.told ∙ e)))
    c.paint_window.ensures.painted

pub returns-clause-named : goal.returns-clause-named
returns-clause-named g c = λ m e d at.
    on_ok c.paint_window.result _ _
    (named_window m c.args.supply.now.cat.now c.args.window d c.paint_window.new.out c.window_of-picture.ensures.valid (c.requires.ready.walked m e) at)
    (returns-clause-pixels g c m e)

pub returns-clause-typed : goal.returns-clause-typed
returns-clause-typed g c =
    let zero = c.if-window-eq0.false in
    let some : 0 < c.args.window.rect.w = omega arith in
    let whole = c.window_of-picture.ensures.whole in
    let rect = c.args.window.rect in
    let turned : rect.w * rect.h ≡ rect.h * rect.w = grind arith in
    let rows : length c.args.out.now ≡ c.window_of-picture.result.height * c.window_of-picture.result.stride =
    c.requires.size ∙ turned ∙ ap (λ (n : ℕ). n * rect.w) (sym whole.height) ∙ ap (λ (n : ℕ). c.window_of-picture.result.height * n) (sym whole.stride) in
    on_ok c.paint_window.result _ _
    (window_typed c.args.supply.now.cat.now c.args.window c.window_of-picture.result c.paint_window.new.out (c.window_of-picture.result.height * c.window_of-picture.result.stride) whole some
    (c.paint_window.auto.out ∙ rows))
    c.paint_window.ensures.typed

pub returns-clause-ready : goal.returns-clause-ready
returns-clause-ready g c =
    ready_then g.F.Folder c.args.supply.now.cat.now (slack_of c.paint_window.result) c.args.folder.now c.paint_window.new.folder c.args.self.now c.paint_window.new.self c.args.loads.now c.paint_window.new.loads c.requires.ready c.paint_window.ensures.answered.serves

pub returns-clause-only_read : goal.returns-clause-only_read
returns-clause-only_read g c =
    let s = c.paint_window.ensures.answered.serves in
    record { names = s.told; writes = s.writes; faults = s.faults }

pub paint_window-requires-clause-fit : goal.paint_window-requires-clause-fit
paint_window-requires-clause-fit g c κs within = record { ready = c.requires.ready; told = c.requires.told; scene = c.requires.scene }

pub returns-clause-loads : goal.returns-clause-loads
returns-clause-loads g c = λ h.
    let bound = c.paint_window.ensures.answered.serves.bound h in
    let held = c.paint_window.ensures.answered.serves.held in
    omega arith

pub returns-clause-reads : goal.returns-clause-reads
returns-clause-reads g c = reads_between (most_calls c.args.supply.now.cat.now) (g.F.Folder.read_calls c.args.folder.now) (g.F.Folder.read_calls c.paint_window.new.folder) c.args.loads.now c.paint_window.new.loads c.paint_window.ensures.answered.serves.loads c.paint_window.ensures.answered.serves.reads

pub returns-clause-counted : goal.returns-clause-counted
returns-clause-counted g c = c.paint_window.ensures.answered.serves.loads

pub returns-clause-kept : goal.returns-clause-kept
returns-clause-kept g c = c.paint_window.ensures.answered.serves.held

pub returns-clause-capacity : goal.returns-clause-capacity
returns-clause-capacity g c = c.paint_window.ensures.answered.serves.capacity

pub returns-clause-cause : goal.returns-clause-cause
returns-clause-cause g c = c.paint_window.ensures.answered.cause

pub returns-clause-changed : goal.returns-clause-changed
returns-clause-changed g c = c.paint_window.ensures.answered.changed

pub returns-clause-never : goal.returns-clause-never
returns-clause-never g c = c.paint_window.ensures.answered.never
