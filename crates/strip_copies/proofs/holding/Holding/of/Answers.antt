use Rattle.std.proofs.Common.{rules, ◌≡◌, ◌∙◌, ap, to_z, of_z}
use mir.Syntax.{w128}
use Rattle.translate_plan.specs.Plan.{Planned}
use Rattle.strip_copies.specs.Rows.{least_sample_by}
use Rattle.strip_copies.proofs.Holdings.{holding_is}
use Rattle.strip_copies.proofs.holding.Holding.of.Goals as goal

pub returns : goal.returns
returns c =
    let least : to_z w128 (of_z w128 c.least_of.result) ≡ c.least_of.result = search rules in
    let most : to_z w128 (of_z w128 c.highest.result) ≡ c.highest.result = search rules in
    let fill : to_z w128 (of_z w128 c.unwrap_or.result) ≡ c.unwrap_or.result = search rules in
    let driver = ap (λ (p : Planned). least_sample_by p.driver c.kind-kind.result) c.plan.view_is in
    record { holding = holding_is c.args.plan.now c.args.band _ c.kind-kind.result c.nodata-nodata.result c.rules.ensures.kept c.kind-kind.ensures.kind c.nodata-nodata.ensures.nodata (least ∙ c.least_of.ensures.least ∙ driver) (most ∙ c.highest.ensures.greatest) (fill ∙ c.unwrap_or.ensures) }
