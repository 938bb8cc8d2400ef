use Rattle.std.proofs.Common.{rules, arith, ◌≡◌, ◌∙◌, ◌+◌, ◌<◌, sym, ap, subst, pos, to_z, of_z}
use mir.Syntax.{w128}
use Rattle.std.specs.Prelude.{slice_index_or, option_map}
use Rattle.std.specs.Option.{option_or}
use Rattle.geotransform.specs.Types.{clamp}
use Rattle.nearest_window.specs.Canvases.{filled_with}
use Rattle.nearest_window.specs.Taken.{taken_by}
use Rattle.nearest_window.proofs.Canvases.{under_more, under_whole}
use Rattle.nearest_window.proofs.merging.take_each.Goals as goal

pub loop-at-preserved : goal.loop-at-preserved
loop-at-preserved c =
    let o : to_z w128 (of_z w128 c.under.result) ≡ c.under.result = search rules in
    let m : to_z w128 (of_z w128 (slice_index_or c.loop-at.out c.loop-at.at (pos 0))) ≡ slice_index_or c.loop-at.out c.loop-at.at (pos 0) = search rules in
    let n : to_z w128 (of_z w128 (slice_index_or c.args.pixels.now (c.args.base + c.loop-at.at) (pos 0))) ≡ slice_index_or c.args.pixels.now (c.args.base + c.loop-at.at) (pos 0) = search rules in
    let within = subst (λ n. c.loop-at.at < n) (sym c.loop-at.invariant.size) c.loop-at-test.true in
    under_more c.args.taking.now c.args.kind c.args.pixels.now c.args.base c.loop-at.at (to_z w128 (of_z w128 c.under.result)) c.args.out.now c.loop-at.out within c.loop-at.invariant
    (ap (λ v. option_map (clamp c.args.kind) (filled_with v)) o ∙ c.under.ensures
    ∙ ap (λ v. option_map (clamp c.args.kind) (option_or (filled_with v) (taken_by c.args.taking.now (to_z w128 (of_z w128 (slice_index_or c.args.pixels.now (c.args.base + c.loop-at.at) (pos 0))))))) m
    ∙ ap (λ v. option_map (clamp c.args.kind) (option_or (filled_with (slice_index_or c.loop-at.out c.loop-at.at (pos 0))) (taken_by c.args.taking.now v))) n)

pub returns : goal.returns
returns c = record { taken = under_whole c.args.taking.now c.args.kind c.args.pixels.now c.args.base c.loop-at.at c.args.out.now c.loop-at.out (let t = c.loop-at-test.false in omega arith) c.loop-at.invariant }
