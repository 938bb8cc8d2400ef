use Rattle.std.proofs.Common.{refl, []}
use Rattle.mosaic_builds.proofs.Ended.{names_end}
use Rattle.mosaic_builds.proofs.Listed.{unlisted}
use Rattle.mosaic_builds.proofs.list.list_names.Goals as goal

pub returns-in-None-clause-told : goal.returns-in-None-clause-told
returns-in-None-clause-told g c = λ m is. rw c.in-None.is (unlisted m c.args.inputs [] c.with_text.result refl c.with_text.ensures.told)

pub returns-in-None-clause-faults : goal.returns-in-None-clause-faults
returns-in-None-clause-faults g c = λ out. names_end c.with_text.result c.with_text.ensures.faults out
