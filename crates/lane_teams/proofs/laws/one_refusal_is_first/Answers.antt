use Rattle.lane_teams.proofs.FirstRefusals.{found, only, told}
use Rattle.lane_teams.proofs.laws.one_refusal_is_first.Goals as goal

pub returns : goal.returns
returns c = record { found = found; only = only; told = told }
