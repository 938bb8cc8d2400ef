use Rattle.std.proofs.Common.{◌≡◌, ◌∙◌, ◌⊎◌, subst, arith, ℕ, List, Ok, Err}
use Rattle.error_lines.specs.Faults.{IsOutside}
use Rattle.mosaic_builds.specs.Built.{built_by}
use Rattle.mosaic_builds.specs.Walks.{walked_all, AreNumbers}
use Rattle.mosaic_builds.proofs.Ended.{built_end, built_cause}
use Rattle.mosaic_builds.proofs.Stages.{refused_names, refused_walks, built_gives}
use Rattle.mosaic_builds.proofs.making.make.Goals as goal

pub returns-in-Err-clause-told : goal.returns-in-Err-clause-told
returns-in-Err-clause-told g c = λ m is. refused_names m c.args.building.verify c.args.inputs c.args.building.list.now c.args.building.options.now c.in-Err.fault (c.in-Err.ensures.told m is)

pub returns-in-Err-clause-faults : goal.returns-in-Err-clause-faults
returns-in-Err-clause-faults g c = c.in-Err.ensures.faults c.args.building.options.now.out

pub returns-in-Err-walk_all-clause-told : goal.returns-in-Err-walk_all-clause-told
returns-in-Err-walk_all-clause-told g c = λ m is.
    let verify = c.args.building.verify in
    let f = c.in-Err-walk_all.fault in
    let none = c.new-cat.result in
    refused_walks m verify c.args.inputs c.args.building.list.now c.args.building.options.now c.in-Ok.names none f (c.in-Ok.ensures.told m is) c.new-cat.ensures.empty
    (subst (λ (names : List (List ℕ)). IsOutside f ⊎ (walked_all m verify none names ≡ Err f)) c.as_slice.ensures.items (c.in-Err-walk_all.ensures.told m (c.list_names.ensures.names ∙ is)))

pub returns-in-Err-walk_all-clause-faults : goal.returns-in-Err-walk_all-clause-faults
returns-in-Err-walk_all-clause-faults g c = c.in-Err-walk_all.ensures.faults c.args.building.options.now.out

pub returns-clause-told : goal.returns-clause-told
returns-clause-told g c = λ m is.
    let verify = c.args.building.verify in
    let none = c.new-cat.result in
    let cat = c.walk_all.new.cat in
    let ids = c.in-Ok-walk_all.ids in
    built_gives built_by m verify c.args.inputs c.args.building.list.now c.args.building.options.now c.in-Ok.names none cat ids c.build.result (c.in-Ok.ensures.told m is) c.new-cat.ensures.empty
    (subst (λ (names : List (List ℕ)). walked_all m verify none names ≡ Ok cat) c.as_slice.ensures.items (c.in-Ok-walk_all.ensures.told m (c.list_names.ensures.names ∙ is)))
    (subst (λ (names : List (List ℕ)). AreNumbers cat names ids) c.as_slice.ensures.items c.in-Ok-walk_all.ensures.numbers)
    c.build.ensures.told

pub returns-clause-faults : goal.returns-clause-faults
returns-clause-faults g c = built_end c.build.result c.args.building.options.now.out c.build.ensures.faults

pub returns-clause-cause : goal.returns-clause-cause
returns-clause-cause g c =
    let first = c.list_names.ensures.cause.later in
    let second = c.walk_all.ensures.cause.later in
    built_cause c.build.result c.args.building.options.now.out (g.F.Folder.faults c.args.folder.now) (g.F.Folder.faults c.walk_all.new.folder) (omega (arith, first, second)) c.build.ensures.faults
