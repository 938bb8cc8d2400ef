use Rattle.std.proofs.Common.{arith}
use Rattle.write_back.proofs.Published.{if_refused}
use Rattle.write_back.proofs.drafts.publish_all.Goals as goal

pub returns-in-Ok-clause-untouched : goal.returns-in-Ok-clause-untouched
returns-in-Ok-clause-untouched g c = if_refused c.publish_header.result _ _ (λ e some none. absurd (omega arith)) c.publish_header.ensures.first
