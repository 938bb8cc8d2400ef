use Rattle.error_lines.proofs.Said.{part_of_either}
use Rattle.error_lines.proofs.telling.say.Goals as goal

pub returns-in-Some-clause-part : goal.returns-in-Some-clause-part
returns-in-Some-clause-part g c = rw c.in-Some.is (part_of_either c.put_fault.result _ _ _ c.put_fault.ensures.ok c.put_fault.ensures.err)
