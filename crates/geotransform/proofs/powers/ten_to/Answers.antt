use Rattle.geotransform.proofs.Tens.{ten_at}
use Rattle.geotransform.proofs.powers.ten_to.Goals as goal

pub returns : goal.returns
returns c = ten_at c.args.k c.requires
