use Rattle.std.proofs.Common.{◌+◌, ◌*◌, length}
use Rattle.output_copies.proofs.calls.+each.Given as goal

abbrev pub decreases-each_from : goal.decreases-each_from
decreases-each_from g l = 3 * length l.values.now

abbrev pub decreases-one_and_others : goal.decreases-one_and_others
decreases-one_and_others g l = 3 * length l.others.now + 2

abbrev pub decreases-one_and_others-back : goal.decreases-one_and_others-back
decreases-one_and_others-back g l = 3 * length l.others.now + 1
