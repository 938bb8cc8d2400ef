use Rattle.nearest_window.proofs.Service.{no_value}
use Rattle.nearest_window.proofs.lane.Lane.new.Goals as goal

pub returns-in_err-pool-clause-empty : goal.returns-in_err-pool-clause-empty
returns-in_err-pool-clause-empty g c = no_value c.from_residual.result _ _ c.from_residual.ensures

pub returns-in_err-pool-clause-right : goal.returns-in_err-pool-clause-right
returns-in_err-pool-clause-right g c = no_value c.from_residual.result _ _ c.from_residual.ensures

pub returns-in_err-pool-clause-fresh : goal.returns-in_err-pool-clause-fresh
returns-in_err-pool-clause-fresh g c = no_value c.from_residual.result _ _ c.from_residual.ensures

pub returns-in_err-made-clause-empty : goal.returns-in_err-made-clause-empty
returns-in_err-made-clause-empty g c = no_value c.from_residual-in_err-made.result _ _ c.from_residual-in_err-made.ensures

pub returns-in_err-made-clause-right : goal.returns-in_err-made-clause-right
returns-in_err-made-clause-right g c = no_value c.from_residual-in_err-made.result _ _ c.from_residual-in_err-made.ensures

pub returns-in_err-made-clause-fresh : goal.returns-in_err-made-clause-fresh
returns-in_err-made-clause-fresh g c = no_value c.from_residual-in_err-made.result _ _ c.from_residual-in_err-made.ensures

pub returns-in_err-files-clause-empty : goal.returns-in_err-files-clause-empty
returns-in_err-files-clause-empty g c = no_value c.from_residual-in_err-files.result _ _ c.from_residual-in_err-files.ensures

pub returns-in_err-files-clause-right : goal.returns-in_err-files-clause-right
returns-in_err-files-clause-right g c = no_value c.from_residual-in_err-files.result _ _ c.from_residual-in_err-files.ensures

pub returns-in_err-files-clause-fresh : goal.returns-in_err-files-clause-fresh
returns-in_err-files-clause-fresh g c = no_value c.from_residual-in_err-files.result _ _ c.from_residual-in_err-files.ensures

pub returns-in_err-recalled-clause-empty : goal.returns-in_err-recalled-clause-empty
returns-in_err-recalled-clause-empty g c = no_value c.from_residual-in_err-recalled.result _ _ c.from_residual-in_err-recalled.ensures

pub returns-in_err-recalled-clause-right : goal.returns-in_err-recalled-clause-right
returns-in_err-recalled-clause-right g c = no_value c.from_residual-in_err-recalled.result _ _ c.from_residual-in_err-recalled.ensures

pub returns-in_err-recalled-clause-fresh : goal.returns-in_err-recalled-clause-fresh
returns-in_err-recalled-clause-fresh g c = no_value c.from_residual-in_err-recalled.result _ _ c.from_residual-in_err-recalled.ensures
