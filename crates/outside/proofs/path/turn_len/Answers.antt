use Rattle.std.proofs.Common.{◌∙◌, sym}
use Rattle.outside.proofs.Turns.{turn_falls}
use Rattle.outside.proofs.path.turn_len.Goals as goal

pub returns-in-Some-clause-parts : goal.returns-in-Some-clause-parts
returns-in-Some-clause-parts c = (turn_falls c.args.text.now c.split_at.result.1.now c.in-Some.field-0.now c.part_len-count.result (sym c.begins_plainly.ensures.part ∙ c.if-not-begins_plainly.false) c.part_len-count.ensures.count c.part_len-count.ensures.bound c.split_at.ensures.back c.in-Some.ensures.up).parts

pub returns-in-Some-clause-slash : goal.returns-in-Some-clause-slash
returns-in-Some-clause-slash c = λ some. (turn_falls c.args.text.now c.split_at.result.1.now c.in-Some.field-0.now c.part_len-count.result (sym c.begins_plainly.ensures.part ∙ c.if-not-begins_plainly.false) c.part_len-count.ensures.count c.part_len-count.ensures.bound c.split_at.ensures.back c.in-Some.ensures.up).slash
