use Rattle.outside.proofs.Cuts.{cut_last-split}
use Rattle.outside.proofs.name.cut_last.Goals as goal

pub returns : goal.returns
returns c = cut_last-split c.args.byte c.args.text.now _ c.rsplit_once.ensures.cases c.requires
