use Rattle.std.proofs.Common.{◌∙◌, ap, sym, refl, arith}
use Rattle.catalog.specs.declared.faults.WalkFault.TheVariants.{Memory}
use Rattle.catalog.specs.Drivers.{Dataset}
use Rattle.catalog.proofs.Listings.{err_is}
use Rattle.catalog.proofs.Meetings.{visits_full, visits_unread, visits_memory, visits_file, opened}
use Rattle.catalog.proofs.walk.meet_first.Goals as goal

pub returns-then-count-ge-MOST_DATASETS : goal.returns-then-count-ge-MOST_DATASETS
returns-then-count-ge-MOST_DATASETS g c =
    record { meets = visits_full c.args.verify c.args.room c.args.name.now c.args.kind c.args.met.now c.requires.kind c.requires.shallow c.requires.fresh _ (omega arith) }

pub returns-in_err-dataset : goal.returns-in_err-dataset
returns-in_err-dataset g c =
    let result = err_is c.from_residual.result c.in_err-dataset.field-0.0 c.from_residual.ensures in
    let e = c.in_err-dataset.ensures in
    record { meets = rw result (visits_unread c.args.verify c.args.room c.args.name.now c.args.kind c.args.met.now c.requires.kind c.requires.shallow c.requires.fresh _ _ (omega arith) e.names e.write_calls c.in_err-dataset.field-0.0 e.told e.cause e.of_file) }

pub returns-in_err-id : goal.returns-in_err-id
returns-in_err-id g c =
    let result = err_is c.from_residual-in_err-id.result Memory c.from_residual-in_err-id.ensures in
    let e = c.in_ok-dataset.ensures in
    record { meets = rw result (visits_memory c.args.verify c.args.room c.args.name.now c.args.kind c.args.met.now c.requires.kind c.requires.shallow c.requires.fresh _ _ (omega arith) e.names e.write_calls c.push.new.self Memory refl c.push.ensures.grows e.cause.later) }

pub returns-in-File : goal.returns-in-File
returns-in-File g c =
    let e = c.in_ok-dataset.ensures in
    record { meets = visits_file c.args.verify c.args.room c.args.name.now c.args.kind c.args.met.now c.requires.kind c.requires.shallow c.requires.fresh _ _ (omega arith) e.names e.write_calls c.requires.linked c.in_ok-dataset.dataset e.valid e.name e.told e.cause.later e.reads c.push.new.self c.in_ok-id.id c.in-File.field-0 c.of_file.result (ap (λ (d : Dataset). d.content) (sym c.dataset.view_is) ∙ c.in-File.is) c.of_file.ensures.file c.in_ok-id.ensures.ok c.in_ok-id.ensures.id }

pub returns-in_err-id-2 : goal.returns-in_err-id-2
returns-in_err-id-2 g c =
    let result = err_is c.from_residual-in_err-id-2.result Memory c.from_residual-in_err-id-2.ensures in
    let e = c.in_ok-dataset.ensures in
    record { meets = rw result (visits_memory c.args.verify c.args.room c.args.name.now c.args.kind c.args.met.now c.requires.kind c.requires.shallow c.requires.fresh _ _ (omega arith) e.names e.write_calls c.push-2.new.self Memory refl c.push-2.ensures.grows e.cause.later) }

pub returns : goal.returns
returns g c =
    let e = c.in_ok-dataset.ensures in
    record { meets = opened c.args.verify c.args.room c.args.name.now c.args.kind c.args.met.now c.requires.kind c.requires.shallow c.requires.fresh _ _ (omega arith) e.names e.write_calls c.requires.linked c.in_ok-dataset.dataset e.valid e.name e.told e.cause.later e.reads c.push-2.new.self c.in_ok-id-2.id c.in_default.field-0 (ap (λ (d : Dataset). d.content) (sym c.dataset.view_is) ∙ c.in_default.is) c.in_ok-id-2.ensures.ok c.in_ok-id-2.ensures.id }
