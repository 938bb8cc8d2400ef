use Rattle.std.proofs.Common.{◌≡◌, ◌∙◌, [], ap, subst, sym, List, ℕ, Bor}
use Rattle.std.specs.Option.{unwrap_or}
use Rattle.outside.specs.Names.{ending_of}
use Rattle.outside.proofs.Cuts.{Cuttable, cuttable, unwrap-now}
use Rattle.outside.proofs.name.cut_ending.Goals as goal

found : (c : goal.After-unwrap_or-ending) → Cuttable c.args.name.now c.unwrap_or-ending.result.now
found c =
    let is : c.unwrap_or-ending.result.now ≡ unwrap_or (ending_of c.args.name.now) [] =
    ap (λ (p : Bor (List ℕ)). p.now) c.unwrap_or-ending.ensures
    ∙ unwrap-now c.ending_of.result _
    ∙ ap (λ r. unwrap_or r []) c.ending_of.ensures in
    subst (Cuttable c.args.name.now) (sym is) (cuttable c.args.name.now c.utf8.name)

pub overflow_sub-at : goal.overflow_sub-at
overflow_sub-at c = (found c).within

pub split_at-requires : goal.split_at-requires
split_at-requires c = (found c).at
