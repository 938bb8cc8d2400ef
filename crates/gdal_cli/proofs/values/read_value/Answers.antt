use Rattle.std.proofs.Common.{rules, arith, ◌≡◌, ◌∙◌, subst, sym, to_z, of_z, get_or, pos}
use mir.Syntax.{w128}
use Rattle.catalog.specs.Pixels.{pixel_of}
use Rattle.nearest_window.specs.Windows.{IsInBand}
use Rattle.error_lines.specs.Faults.{load_fault_of}
use Rattle.gdal_cli.proofs.Changed.{load_tells}
use Rattle.gdal_cli.proofs.Ended.{err_is}
use Rattle.gdal_cli.proofs.Told.{first_value}
use Rattle.gdal_cli.proofs.values.read_value.Goals as goal

pub read_window_with-requires-clause-ready : goal.read_window_with-requires-clause-ready
read_window_with-requires-clause-ready g c κs within = c.requires.ready.ready

pub read_window_with-requires-clause-told : goal.read_window_with-requires-clause-told
read_window_with-requires-clause-told g c κs within = c.requires.ready.told_is

pub read_window_with-requires-clause-scene : goal.read_window_with-requires-clause-scene
read_window_with-requires-clause-scene g c κs within = c.requires.ready.scene_is

pub returns-in_err-read_window_with-clause-ready : goal.returns-in_err-read_window_with-clause-ready
returns-in_err-read_window_with-clause-ready g c = record {
  ready = c.read_window_with.ensures.ready;
  told_is = c.requires.ready.told_is ∙ sym c.read_window_with.ensures.only_read.names;
  scene_is = c.requires.ready.scene_is;
}

pub returns-clause-ready : goal.returns-clause-ready
returns-clause-ready g c = record {
  ready = c.read_window_with.ensures.ready;
  told_is = c.requires.ready.told_is ∙ sym c.read_window_with.ensures.only_read.names;
  scene_is = c.requires.ready.scene_is;
}

pub returns-clause-value : goal.returns-clause-value
returns-clause-value g c = λ m is.
    let same : to_z w128 (of_z w128 (get_or c.read_window_with.new.out 0 (pos 0))) ≡ get_or c.read_window_with.new.out 0 (pos 0) = search rules in
    same ∙ first_value (pixel_of m c.args.question.now.cat c.args.question.now.id c.args.band) c.args.x c.args.y c.read_window_with.new.out (c.in_ok-read_window_with.ensures.pixels m is)

pub returns-clause-typed : goal.returns-clause-typed
returns-clause-typed g c =
    let same : to_z w128 (of_z w128 (get_or c.read_window_with.new.out 0 (pos 0))) ≡ get_or c.read_window_with.new.out 0 (pos 0) = search rules in
    subst (IsInBand c.args.question.now.cat c.args.question.now.id c.args.band) (sym same) (c.in_ok-read_window_with.ensures.typed 0 (pos 0) (omega arith))

pub returns-in_err-read_window_with-clause-changed : goal.returns-in_err-read_window_with-clause-changed
returns-in_err-read_window_with-clause-changed g c =
    let f = c.in_err-read_window_with.field-0.0 in
    load_tells c.args.question.now.cat f c.from_residual.result (err_is c.from_residual.result (load_fault_of f) c.from_residual.ensures) c.in_err-read_window_with.ensures.changed
