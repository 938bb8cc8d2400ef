use Rattle.std.proofs.Common.{◌≡◌, ◌∙◌, ◌⊎◌, ◌+◌, ◌≤◌, ap, sym, subst, List, take, length, Ok, Err, arith}
use Rattle.std.proofs.lemmas.List.{take_all}
use Rattle.catalog.specs.Outcomes.{IsOutside}
use Rattle.catalog.specs.Drivers.{Dataset}
use Rattle.catalog.specs.Readings.{calls_to_open_all}
use Rattle.catalog.specs.Walk.{walked, IsCatalog, IsWalked}
use Rattle.catalog.specs.Linked.{State, IsWholeWalk}
use Rattle.catalog.proofs.Readings.{more_read}
use Rattle.catalog.proofs.Wholes.{whole_goes}
use Rattle.catalog.proofs.Opened.{open_told, refused_told, datasets_kept, goes_on, cut_same}
use Rattle.catalog.proofs.catalog.open_all.Goals as goal

pub invariant_of-cat : goal.invariant_of-cat
invariant_of-cat g c = whole_goes c.cat.inside.met c.visit.new.met c.cat.invariant c.in-Ok.ensures.visits.walks.goes

pub invariant_of-cat-in-Err : goal.invariant_of-cat-in-Err
invariant_of-cat-in-Err g c =
    let same = cut_same c.cat.inside.met c.visit.new.met c.cut.new.self c.count-count.result c.sources-sources.result c.cat.invariant c.in-Err.ensures.visits.walks.grows c.count-count.ensures.count c.sources-sources.ensures.sources c.cut.ensures.cut in
    subst IsWholeWalk (sym same) c.cat.invariant

pub returns-in-Ok-clause-told : goal.returns-in-Ok-clause-told
returns-in-Ok-clause-told g c = λ m told.
    subst (λ (ds : List Dataset). walked m c.args.verify ds c.args.name.now ≡ Ok c.visit.new.met.datasets) c.cat.view_is
    (open_told c.args.verify c.args.name.now _ _ c.cat.inside.met c.visit.new.met c.cat.invariant c.in-Ok.id m c.in-Ok.ensures.visits told)

pub returns-in-Ok-clause-kept : goal.returns-in-Ok-clause-kept
returns-in-Ok-clause-kept g c =
    goes_on c.args.cat.now c.visit.new.met.datasets (subst (λ (ds : List Dataset). take (length ds) c.visit.new.met.datasets ≡ ds) c.cat.view_is (datasets_kept c.cat.inside.met c.visit.new.met c.in-Ok.ensures.visits.walks.grows))

pub returns-in-Ok-clause-reads : goal.returns-in-Ok-clause-reads
returns-in-Ok-clause-reads g c = λ more is.
    more_read c.args.verify (g.F.Folder.read_calls c.args.folder.now) (g.F.Folder.read_calls c.visit.new.folder) c.args.cat.now c.visit.new.met.datasets more
    (subst (λ (ds : List Dataset). g.F.Folder.read_calls c.visit.new.folder + calls_to_open_all c.args.verify ds ≤ g.F.Folder.read_calls c.args.folder.now + calls_to_open_all c.args.verify c.visit.new.met.datasets) c.cat.view_is c.in-Ok.ensures.visits.reads)
    is

pub returns-in-Ok-clause-valid : goal.returns-in-Ok-clause-valid
returns-in-Ok-clause-valid g c = (whole_goes c.cat.inside.met c.visit.new.met c.cat.invariant c.in-Ok.ensures.visits.walks.goes).catalog

pub returns-in-Err-clause-told : goal.returns-in-Err-clause-told
returns-in-Err-clause-told g c = λ m told.
    subst (λ (ds : List Dataset). IsOutside c.in-Err.fault ⊎ (walked m c.args.verify ds c.args.name.now ≡ Err c.in-Err.fault)) c.cat.view_is
    (refused_told c.args.verify c.args.name.now _ _ c.cat.inside.met c.visit.new.met c.cat.invariant c.in-Err.fault m c.in-Err.ensures.visits told)

pub returns-in-Err-clause-refused : goal.returns-in-Err-clause-refused
returns-in-Err-clause-refused g c =
    let same = cut_same c.cat.inside.met c.visit.new.met c.cut.new.self c.count-count.result c.sources-sources.result c.cat.invariant c.in-Err.ensures.visits.walks.grows c.count-count.ensures.count c.sources-sources.ensures.sources c.cut.ensures.cut in
    ap (λ (s : State). s.datasets) same ∙ c.cat.view_is

pub returns-in-Err-clause-kept : goal.returns-in-Err-clause-kept
returns-in-Err-clause-kept g c =
    let same = cut_same c.cat.inside.met c.visit.new.met c.cut.new.self c.count-count.result c.sources-sources.result c.cat.invariant c.in-Err.ensures.visits.walks.grows c.count-count.ensures.count c.sources-sources.ensures.sources c.cut.ensures.cut in
    goes_on c.args.cat.now c.cut.new.self.datasets (ap (take (length c.args.cat.now)) (ap (λ (s : State). s.datasets) same ∙ c.cat.view_is) ∙ take_all (length c.args.cat.now) c.args.cat.now (omega arith))

pub returns-in-Err-clause-valid : goal.returns-in-Err-clause-valid
returns-in-Err-clause-valid g c =
    let same = cut_same c.cat.inside.met c.visit.new.met c.cut.new.self c.count-count.result c.sources-sources.result c.cat.invariant c.in-Err.ensures.visits.walks.grows c.count-count.ensures.count c.sources-sources.ensures.sources c.cut.ensures.cut in
    subst (λ (s : State). IsCatalog s.datasets) (sym same) c.cat.invariant.catalog

pub returns-in-Err-clause-walked : goal.returns-in-Err-clause-walked
returns-in-Err-clause-walked g c = λ m told walked.
    let same = cut_same c.cat.inside.met c.visit.new.met c.cut.new.self c.count-count.result c.sources-sources.result c.cat.invariant c.in-Err.ensures.visits.walks.grows c.count-count.ensures.count c.sources-sources.ensures.sources c.cut.ensures.cut in
    subst (λ (ds : List Dataset). IsWalked m ds) (sym (ap (λ (s : State). s.datasets) same ∙ c.cat.view_is)) walked
