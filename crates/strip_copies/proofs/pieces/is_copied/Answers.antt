use Rattle.std.proofs.Common.{◌∙◌, ap, of_z, to_z, FitsSigned, rules}
use Rattle.std.specs.Int.{w64}
use Rattle.std.proofs.lemmas.Int.{to_z-of_z}
use Rattle.translate_plan.specs.Plan.{Planned}
use Rattle.strip_copies.specs.Pieces.{copies}
use Rattle.strip_copies.proofs.pieces.is_copied.Goals as goal

pub returns : goal.returns
returns c =
    let x : FitsSigned w64 c.plan.inside.x = search rules in
    let y : FitsSigned w64 c.plan.inside.y = search rules in
    record {
      copied = c.copies.ensures.copies
          ∙ (ap (λ n. copies c.plan.inside.window c.plan.inside.size n (to_z w64 (of_z w64 c.plan.inside.y)) c.args.source) (to_z-of_z w64 c.plan.inside.x x)
          ∙ (ap (λ n. copies c.plan.inside.window c.plan.inside.size c.plan.inside.x n c.args.source) (to_z-of_z w64 c.plan.inside.y y)
          ∙ ap (λ (q : Planned). copies q.window q.size q.x q.y c.args.source) c.plan.view_is));
    }
