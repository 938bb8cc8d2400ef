use Rattle.write_back.proofs.Runs.{if_ok}
use Rattle.write_back.proofs.target.Target.create.Goals as goal

pub returns-clause-name : goal.returns-clause-name
returns-clause-name g c = if_ok c.create_planned.result _ _ (λ t new. new.name) c.create_planned.ensures.made

pub returns-clause-pool : goal.returns-clause-pool
returns-clause-pool g c = if_ok c.create_planned.result _ _ (λ t new. new.pool) c.create_planned.ensures.made

pub returns-clause-lines : goal.returns-clause-lines
returns-clause-lines g c = if_ok c.create_planned.result _ _ (λ t new. new.lines) c.create_planned.ensures.made

pub returns-clause-fault : goal.returns-clause-fault
returns-clause-fault g c = if_ok c.create_planned.result _ _ (λ t new. new.fault) c.create_planned.ensures.made

pub returns-clause-target : goal.returns-clause-target
returns-clause-target g c = if_ok c.create_planned.result _ _ (λ t new. new.target) c.create_planned.ensures.made

pub returns-clause-zeros : goal.returns-clause-zeros
returns-clause-zeros g c = if_ok c.create_planned.result _ _ (λ t new. new.zeros) c.create_planned.ensures.made
