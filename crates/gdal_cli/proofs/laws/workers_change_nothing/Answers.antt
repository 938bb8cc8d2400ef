use Rattle.std.proofs.Common.{refl}
use Rattle.gdal_cli.proofs.Judging.{same_runs}
use Rattle.gdal_cli.proofs.laws.workers_change_nothing.Goals as goal

pub returns : goal.returns
returns c = record {
  same = λ a b d n m input first second. same_runs a b d (record d { workers = n }) m input first second refl refl;
}
