use Rattle.std.proofs.Common.{◌∙◌, drop, ap, arith}
use Rattle.outside.proofs.Slashes.{end_left, more_left}
use Rattle.outside.proofs.path.behind_part.Goals as goal

pub returns-in-empty-clause-next : goal.returns-in-empty-clause-next
returns-in-empty-clause-next c =
    end_left c.args.text.now c.split_at.result.1.now (c.split_at.ensures.back ∙ ap (λ n. drop n c.args.text.now) c.part_len.ensures.count) (omega (arith, c.in-empty.len_below))

pub returns-in-len1-up-clause-next : goal.returns-in-len1-up-clause-next
returns-in-len1-up-clause-next c =
    more_left c.args.text.now c.split_at.result.1.now (c.split_at.ensures.back ∙ ap (λ n. drop n c.args.text.now) c.part_len.ensures.count) (omega (arith, c.in-len1-up.len_at_least))
