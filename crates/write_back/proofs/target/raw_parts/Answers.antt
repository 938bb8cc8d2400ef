use Rattle.std.proofs.Common.{subst}
use Rattle.block_cache.specs.Entries.{IsPool}
use Rattle.write_back.proofs.target.raw_parts.Goals as goal

pub returns-clause-valid : goal.returns-clause-valid
returns-clause-valid c = subst IsPool c.pool.view_is c.pool.invariant
