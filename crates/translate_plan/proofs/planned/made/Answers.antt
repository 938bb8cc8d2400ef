use Rattle.std.proofs.Common.{ap, subst, rules}
use Rattle.catalog.specs.Dataset.{IsDatasetHead}
use Rattle.translate_plan.specs.Options.{IsOptions}
use Rattle.translate_plan.proofs.Kept.{kept_by}
use Rattle.translate_plan.proofs.planned.made.Goals as goal

pub invariant_of-result : goal.invariant_of-result
invariant_of-result c =
    let options : IsOptions c.args.options.now = subst IsOptions c.options.view_is c.options.invariant in
    let dataset : IsDatasetHead c.args.head.now = subst IsDatasetHead c.head.view_is c.head.invariant in (
      c.requires.few,
      kept_by c.args.options.now c.args.head.now c.args.window.now c.args.size c.args.geo _ _ _ _ _ options dataset c.requires.planned
          (ap (λ o. o.driver) c.options.view_is) (ap (λ o. o.layout) c.options.view_is) c.out_table.ensures.bands (search rules) (search rules),
    )

pub returns-clause-kept : goal.returns-clause-kept
returns-clause-kept c = (invariant_of-result c).1
