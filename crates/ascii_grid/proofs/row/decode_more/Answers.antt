use Rattle.std.proofs.Common.{take, drop, sym, ◌∙◌, length, ◌-◌}
use Rattle.std.proofs.lemmas.List.{nil_from_length}
use Rattle.ascii_grid.proofs.Files.{more_of_file, line_of_file, end_of_file, empty_is_true}
use Rattle.ascii_grid.proofs.row.decode_more.Goals as goal

pub returns-clause-more : goal.returns-clause-more
returns-clause-more c file from at read stands some = more_of_file c.read.new.self c.read.new.out file c.args.bytes.now from at read.forward (c.read.ensures.fills (take (at - from) (drop from file)) read.given some) stands

pub returns-clause-line : goal.returns-clause-line
returns-clause-line c file from at read stands some whole = line_of_file (length c.read.new.out) c.read.new.out file c.args.bytes.now from at read.forward (c.read.ensures.row (take (at - from) (drop from file)) read.given whole) (sym whole ∙ c.read.ensures.ended (take (at - from) (drop from file)) read.given some) stands

pub returns-clause-end : goal.returns-clause-end
returns-clause-end c file from at read past none = end_of_file (length c.read.new.out) c.read.new.out file c.args.bytes.now from at (c.read.ensures.row (take (at - from) (drop from file)) read.given (empty_is_true (length c.args.bytes.now) c.read.result _ c.read.ensures.whole none)) (nil_from_length c.args.bytes.now none) past read.forward
