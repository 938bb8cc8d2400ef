use Rattle.std.proofs.Common.{◌∙◌, sym, subst}
use Rattle.std.specs.List.{All}
use Rattle.std.proofs.lemmas.List.Elements.{All-push}
use Rattle.buildvrt.specs.Rectangles.{IsPatch}
use Rattle.buildvrt.proofs.Filled.{patches_next}
use Rattle.buildvrt.proofs.patch.patches_of.Goals as goal

pub loop-tile-preserved : goal.loop-tile-preserved
loop-tile-preserved c = record {
  same =
      patches_next c.args.grid.now c.args.tiles.now c.loop-tile.tile-index c.tile-item.result c.in-Ok.patch c.loop-tile.patches c.push.new.self c.loop-tile-test.true c.tile-item.is (sym c.in-Ok.ensures.value) c.in_ok-push-in-Ok.ensures.ok
      ∙ c.loop-tile.invariant.same;
  rules = subst (All IsPatch) (sym c.in_ok-push-in-Ok.ensures.ok) (All-push IsPatch c.loop-tile.patches c.in-Ok.patch c.loop-tile.invariant.rules c.in-Ok.ensures.rules);
}
