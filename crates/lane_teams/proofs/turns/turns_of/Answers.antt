use Rattle.std.proofs.Common.{◌+◌, ◌∙◌, ap, length}
use Rattle.std.proofs.lemmas.List.{length_push}
use Rattle.std.proofs.lemmas.List.Elements.{All-push, All-same}
use Rattle.lane_teams.specs.Turns.{IsTurnOf}
use Rattle.lane_teams.proofs.Refusals.{fresh_turn}
use Rattle.lane_teams.proofs.turns.turns_of.Goals as goal

pub loop-at-preserved : goal.loop-at-preserved
loop-at-preserved g c =
    let was = c.loop-at.invariant in
    let fresh = fresh_turn (g.F.Folder.names c.loop-at.folder) (g.F.Folder.names c.in-Ok.view) c.args.cat.now (g.F.Folder.faults c.in-Ok.view) (g.F.Folder.read_calls c.in-Ok.view) (g.F.Folder.write_calls c.in-Ok.view) c.in-Ok.ensures.view in
    let items = c.in_default-push.ensures.items in
    record {
      only_read = was.only_read;
      count = ap length items ∙ length_push c.loop-at.turns.items _ ∙ ap (λ n. n + 1) was.count;
      turns_are = All-same (IsTurnOf g.F.Folder (g.F.Folder.names c.loop-at.folder) c.args.cat.now) _ _ items (All-push (IsTurnOf g.F.Folder (g.F.Folder.names c.loop-at.folder) c.args.cat.now) c.loop-at.turns.items _ was.turns_are fresh);
    }
