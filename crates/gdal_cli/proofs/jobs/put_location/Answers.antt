use Rattle.std.proofs.Common.{◌≡◌, ◌∙◌, ◌⊎◌, ap, false, refl, sym, subst, List, Result, Ok, Err}
use Rattle.std.specs.Prelude.{IfErr}
use Rattle.std.proofs.lemmas.Option.{slice_get_within}
use Rattle.input_points.specs.Entries.{entries}
use Rattle.catalog.specs.Dataset.{DatasetHead}
use Rattle.catalog.specs.Drivers.{Dataset}
use Rattle.catalog.specs.Walk.{walked}
use Rattle.catalog.proofs.Found.{found}
use Rattle.error_lines.specs.declared.faults.Fault.{Fault}
use Rattle.error_lines.specs.declared.faults.Fault.TheVariants.{Changed}
use Rattle.error_lines.specs.Faults.{fault_of, IsOutside, OwnsFault}
use Rattle.command_words.specs.declared.command.Job.TheVariants.{Locate}
use Rattle.gdal_cli.specs.Location.{asked_in, answers, point_text}
use Rattle.translation_runs.specs.Ends.{ended}
use Rattle.gdal_cli.specs.Run.{MayEnd}
use Rattle.gdal_cli.specs.Jobs.{Ends, RefusesKind}
use Rattle.gdal_cli.specs.Work.{Work, location_judged, carried_out}
use Rattle.gdal_cli.proofs.Causes.{walk_may, asked_may, answers_may, lines_refuse}
use Rattle.translation_runs.proofs.Ended.{has_changed, no_change}
use Rattle.gdal_cli.proofs.Datasets.{walk_refuses}
use Rattle.gdal_cli.proofs.Ended.{err_is, asked_refused, location_told, location_put, stops_same}
use Rattle.gdal_cli.proofs.Lacking.{asked_unchanged, one_fault}
use Rattle.error_lines.proofs.Owned.{own_refused}
use Rattle.translation_runs.proofs.Reached.{told_of, walked_read}
use Rattle.gdal_cli.proofs.Reached.{few_bands}
use Rattle.gdal_cli.proofs.jobs.put_location.Goals as goal

pub head-requires : goal.head-requires
head-requires g c =
    let d = found c.open_all.new.cat c.args.name.now c.in_ok-id.id c.in_ok-id.ensures.number in
    record { known = slice_get_within c.open_all.new.cat c.in_ok-id.id d.dataset d.at }

pub returns-in_err-id-clause-own : goal.returns-in_err-id-clause-own
returns-in_err-id-clause-own g c =
    let f = c.in_err-id.field-0.0 in
    subst (λ (r : Result (Unit {0}) Fault). OwnsFault (ended r)) (sym (err_is c.from_residual.result (fault_of f) c.from_residual.ensures))
    (own_refused f c.in_err-id.ensures.own)

pub returns-in_err-asked-clause-told : goal.returns-in_err-asked-clause-told
returns-in_err-asked-clause-told g c = λ m is i left.
    let f = c.in_err-asked.field-0.0 in
    let walk = subst (λ (cat : List Dataset). walked m c.args.options.verify cat c.args.name.now ≡ Ok c.open_all.new.cat) c.new-cat.ensures.empty (c.in_ok-id.ensures.told m is) in
    let d = found c.open_all.new.cat c.args.name.now c.in_ok-id.id c.in_ok-id.ensures.number in
    let head : c.head.result.now ≡ d.dataset.head = sym (told_of (λ (d : Dataset). d.head) c.open_all.new.cat c.in_ok-id.id d.dataset c.head.result.now d.at c.head.ensures.head) in
    let choice = subst (λ (h : DatasetHead). IsOutside f ⊎ (asked_in c.args.options.form c.args.bands.now c.args.options.geoloc h ≡ Err f)) head c.in_err-asked.ensures.gives in
    subst (λ (r : Result (Unit {0}) Fault). Ends (carried_out (location_judged m c.args.options.verify c.args.name.now c.args.options.point c.args.bands.now c.args.options.form c.args.options.geoloc) m (entries i)) r (g.O.Sink.got c.args.out.now) (g.O.Sink.got c.args.out.now))
    (sym (err_is c.from_residual-in_err-asked.result f c.from_residual-in_err-asked.ensures))
    (asked_refused m c.args.options.verify c.args.name.now c.args.options.point c.args.bands.now c.args.options.form c.args.options.geoloc c.open_all.new.cat d.dataset walk (walked_read m c.new-cat.result c.open_all.new.cat c.args.name.now c.in_ok-id.id d.dataset c.new-cat.ensures.empty (c.in_ok-id.ensures.walked m is) d.at d.named) (entries i) f (g.O.Sink.got c.args.out.now) choice)

pub returns-clause-told : goal.returns-clause-told
returns-clause-told g c = λ m is i left.
    let walk = subst (λ (cat : List Dataset). walked m c.args.options.verify cat c.args.name.now ≡ Ok c.open_all.new.cat) c.new-cat.ensures.empty (c.in_ok-id.ensures.told m is) in
    let d = found c.open_all.new.cat c.args.name.now c.in_ok-id.id c.in_ok-id.ensures.number in
    let head : c.head.result.now ≡ d.dataset.head = sym (told_of (λ (d : Dataset). d.head) c.open_all.new.cat c.in_ok-id.id d.dataset c.head.result.now d.at c.head.ensures.head) in
    let choice = subst (λ (h : DatasetHead). asked_in c.args.options.form c.args.bands.now c.args.options.geoloc h ≡ Ok c.in_ok-asked.asked) head c.in_ok-asked.ensures.gives in
    location_put m c.args.options.verify c.args.name.now c.args.options.point c.args.bands.now c.args.options.form c.args.options.geoloc c.open_all.new.cat d.dataset walk (walked_read m c.new-cat.result c.open_all.new.cat c.args.name.now c.in_ok-id.id d.dataset c.new-cat.ensures.empty (c.in_ok-id.ensures.walked m is) d.at d.named) (entries i) c.in_ok-asked.asked c.put_answers.result (g.O.Sink.got c.args.out.now) (g.O.Sink.got c.put_answers.new.out) choice
    (c.put_answers.ensures.told m (c.in_ok-id.ensures.names ∙ is) d.dataset d.at i left)

pub asked_in-requires : goal.asked_in-requires
asked_in-requires g c =
    let d = found c.open_all.new.cat c.args.name.now c.in_ok-id.id c.in_ok-id.ensures.number in
    record { few = few_bands c.open_all.new.cat c.in_ok-id.id c.head.result.now c.in_ok-id.ensures.valid (slice_get_within c.open_all.new.cat c.in_ok-id.id d.dataset d.at) c.head.ensures.head }

pub returns-in_err-asked-clause-changed : goal.returns-in_err-asked-clause-changed
returns-in_err-asked-clause-changed g c =
    let r = c.from_residual-in_err-asked.result in
    let f = c.in_err-asked.field-0.0 in
    no_change (g.F.Folder.names c.args.folder.now) r
    (λ name was now is. asked_unchanged c.args.options.form c.args.bands.now c.args.options.geoloc c.head.result.now f c.in_err-asked.ensures.gives name was now
    (one_fault r f (Changed name was now) (err_is r f c.from_residual-in_err-asked.ensures) is))

pub returns-clause-stopped : goal.returns-clause-stopped
returns-clause-stopped g c = λ so m is i left.
    let walk = subst (λ (cat : List Dataset). walked m c.args.options.verify cat c.args.name.now ≡ Ok c.open_all.new.cat) c.new-cat.ensures.empty (c.in_ok-id.ensures.told m is) in
    let d = found c.open_all.new.cat c.args.name.now c.in_ok-id.id c.in_ok-id.ensures.number in
    let head : c.head.result.now ≡ d.dataset.head = sym (told_of (λ (d : Dataset). d.head) c.open_all.new.cat c.in_ok-id.id d.dataset c.head.result.now d.at c.head.ensures.head) in
    let choice = subst (λ (h : DatasetHead). asked_in c.args.options.form c.args.bands.now c.args.options.geoloc h ≡ Ok c.in_ok-asked.asked) head c.in_ok-asked.ensures.gives in
    stops_same (answers (point_text m c.open_all.new.cat d.dataset c.in_ok-asked.asked) c.args.options.point)
    (carried_out (location_judged m c.args.options.verify c.args.name.now c.args.options.point c.args.bands.now c.args.options.form c.args.options.geoloc) m)
    i _ _ _ (c.put_answers.ensures.stopped so m (c.in_ok-id.ensures.names ∙ is) d.dataset d.at i left)
    (λ lines. ap (λ (w : Result Work Fault). carried_out w m lines) (sym (location_told m c.args.options.verify c.args.name.now c.args.options.point c.args.bands.now c.args.options.form c.args.options.geoloc c.open_all.new.cat d.dataset walk (walked_read m c.new-cat.result c.open_all.new.cat c.args.name.now c.in_ok-id.id d.dataset c.new-cat.ensures.empty (c.in_ok-id.ensures.walked m is) d.at d.named) c.in_ok-asked.asked choice)))

pub returns-in_err-id-clause-may_end : goal.returns-in_err-id-clause-may_end
returns-in_err-id-clause-may_end g c =
    let job = Locate c.args.name.now c.args.options.point c.args.bands.now c.args.options.form c.args.options.geoloc in
    subst (λ (r : Result (Unit {0}) Fault). IfErr r (MayEnd job)) (sym (err_is c.from_residual.result (fault_of c.in_err-id.field-0.0) c.from_residual.ensures)) (walk_may job c.in_err-id.field-0.0)

pub returns-in_err-asked-clause-may_end : goal.returns-in_err-asked-clause-may_end
returns-in_err-asked-clause-may_end g c =
    let job = Locate c.args.name.now c.args.options.point c.args.bands.now c.args.options.form c.args.options.geoloc in
    let f = c.in_err-asked.field-0.0 in
    subst (λ (r : Result (Unit {0}) Fault). IfErr r (MayEnd job)) (sym (err_is c.from_residual-in_err-asked.result f c.from_residual-in_err-asked.ensures))
    (asked_may job c.args.options.form c.args.bands.now c.args.options.geoloc c.head.result.now f refl c.in_err-asked.ensures.gives c.in_err-asked.ensures.inner)

pub returns-clause-may_end : goal.returns-clause-may_end
returns-clause-may_end g c = answers_may c.args.name.now c.args.options.point c.args.bands.now c.args.options.form c.args.options.geoloc c.put_answers.result c.put_answers.ensures.lines c.put_answers.ensures.point

pub returns-clause-refused : goal.returns-clause-refused
returns-clause-refused g c = λ refusal. absurd (lines_refuse c.put_answers.result c.put_answers.ensures.lines refusal)

pub returns-in_err-id-clause-unknown : goal.returns-in_err-id-clause-unknown
returns-in_err-id-clause-unknown g c =
    let f = c.in_err-id.field-0.0 in
    subst (λ (r : Result (Unit {0}) Fault). RefusesKind false c.args.name.now r) (sym (err_is c.from_residual.result (fault_of f) c.from_residual.ensures)) (walk_refuses c.args.name.now f c.in_err-id.ensures.unknown)

pub returns-clause-changed : goal.returns-clause-changed
returns-clause-changed g c = has_changed (g.F.Folder.names c.args.folder.now) c.put_answers.result c.put_answers.ensures.differs (λ m is. c.put_answers.ensures.never m (c.in_ok-id.ensures.names ∙ is))
