use Rattle.std.proofs.Common.{◌∙◌, sym, arith}
use Rattle.strip_copies.proofs.reading.read_made.Goals as goal

pub read_window_with-requires-clause-told : goal.read_window_with-requires-clause-told
read_window_with-requires-clause-told g c κs within = c.requires.ready.told_is

pub read_window_with-requires-clause-scene : goal.read_window_with-requires-clause-scene
read_window_with-requires-clause-scene g c κs within = c.requires.ready.scene_is

pub read_window_with-requires-clause-some : goal.read_window_with-requires-clause-some
read_window_with-requires-clause-some g c κs within = c.requires.ready.some

pub read_window_with-requires-clause-ready : goal.read_window_with-requires-clause-ready
read_window_with-requires-clause-ready g c κs within = c.requires.ready.ready

pub returns-in_err-read_window_with-clause-ready : goal.returns-in_err-read_window_with-clause-ready
returns-in_err-read_window_with-clause-ready g c = record {
  some = (let n = c.read_window_with.ensures.count in let s = c.requires.ready.some in omega arith);
  ready = c.read_window_with.ensures.ready;
  told_is = c.requires.ready.told_is ∙ sym c.read_window_with.ensures.only_read.names;
  scene_is = c.requires.ready.scene_is;
}

pub returns-clause-ready : goal.returns-clause-ready
returns-clause-ready g c = record {
  some = (let n = c.read_window_with.ensures.count in let s = c.requires.ready.some in omega arith);
  ready = c.read_window_with.ensures.ready;
  told_is = c.requires.ready.told_is ∙ sym c.read_window_with.ensures.only_read.names;
  scene_is = c.requires.ready.scene_is;
}
