use Rattle.std.proofs.Common.{◌+◌, ◌∙◌, ap, length}
use Rattle.std.proofs.lemmas.List.{length_push}
use Rattle.std.proofs.lemmas.List.Elements.{All-push, All-same}
use Rattle.output_copies.specs.Packed.{HasRoom}
use Rattle.output_copies.proofs.handing.made_rooms.Goals as goal

pub loop-at-preserved : goal.loop-at-preserved
loop-at-preserved g c =
    let t = c.args.task.now in
    let was = c.loop-at.invariant in
    let items = c.in_ok-push.ensures.items in
    record {
      count = ap length items ∙ length_push c.loop-at.made.items _ ∙ ap (λ n. n + 1) was.count;
      rooms = λ is. All-same (HasRoom t.translation.now.plan t.packing t.rows) _ _ items (All-push (HasRoom t.translation.now.plan t.packing t.rows) c.loop-at.made.items _ (was.rooms is) (c.in_ok-room.ensures.room is));
    }
