use Rattle.std.proofs.Common.{◌+◌, ◌≤◌, sym, subst}
use Rattle.catalog.specs.Drivers.{Dataset}
use Rattle.catalog.specs.Readings.{calls_to_open}
use Rattle.catalog.proofs.Readings.{known_dataset}
use Rattle.catalog.proofs.Listings.{long_unknown, long_owns, long_of_head, long_cause}
use Rattle.catalog.proofs.own_files.head_of.Goals as goal

pub returns-in-Err-clause-unknown : goal.returns-in-Err-clause-unknown
returns-in-Err-clause-unknown g c = long_unknown c.in_ok-kind.kind c.args.name.now c.dataset.inside.content c.in-Err.fault c.in_ok-kind.ensures.kind (sym c.in-Err.ensures)

pub returns-in-Err-clause-cause : goal.returns-in-Err-clause-cause
returns-in-Err-clause-cause g c = long_cause c.args.name.now c.dataset.inside.content c.in-Err.fault _ _ (sym c.in-Err.ensures) c.read_dataset.ensures.cause.later

pub returns-in-Err-clause-own : goal.returns-in-Err-clause-own
returns-in-Err-clause-own g c = long_owns c.args.name.now c.dataset.inside.content c.in-Err.fault (sym c.in-Err.ensures)

pub returns-in-Err-clause-of_head : goal.returns-in-Err-clause-of_head
returns-in-Err-clause-of_head g c = long_of_head c.args.name.now c.dataset.inside.content c.in-Err.fault (sym c.in-Err.ensures)

pub returns-in-Ok-clause-reads : goal.returns-in-Ok-clause-reads
returns-in-Ok-clause-reads g c = λ m d told is.
    let e = c.in_ok-dataset.ensures in
    subst (λ (x : Dataset). g.F.Folder.read_calls c.read_dataset.new.folder ≤ g.F.Folder.read_calls c.args.folder.now + calls_to_open c.args.verify x)
    (known_dataset m c.args.verify c.args.name.now c.in_ok-kind.kind c.in_ok-dataset.dataset d c.in_ok-kind.ensures.kind (e.told m told) is) e.reads
