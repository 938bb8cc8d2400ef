use Rattle.catalog.proofs.Datasets.{is_dataset}
use Rattle.catalog.proofs.own_files.read_dataset.Goals as goal

pub invariant_of-result : goal.invariant_of-result
invariant_of-result g c = is_dataset c.args.name.now c.args.kind c.in-Ok.head c.in_ok-found.found.content c.in_ok-found.found.length c.requires.kind c.in_ok-found.ensures.kind c.in-Ok.ensures.ok c.in-Ok.ensures.valid c.in_ok-found.ensures.fits
