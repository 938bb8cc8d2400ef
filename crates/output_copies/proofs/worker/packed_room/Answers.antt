use Rattle.std.proofs.Common.{◌≡◌, ◌+◌, ◌∙◌, ap, length, ℕ, List}
use Rattle.std.proofs.lemmas.List.{length_push}
use Rattle.std.proofs.lemmas.List.Elements.{All-push, All-same}
use Rattle.output_copies.proofs.worker.packed_room.Goals as goal

pub loop-at-preserved : goal.loop-at-preserved
loop-at-preserved c =
    let was = c.loop-at.invariant in
    let items = c.in_ok-push.ensures.items in
    record {
      count = ap length items ∙ length_push c.loop-at.packed.items _ ∙ ap (λ n. n + 1) was.count;
      each = All-same (λ (bytes : List ℕ). length bytes ≡ c.args.len) _ _ items (All-push (λ (bytes : List ℕ). length bytes ≡ c.args.len) c.loop-at.packed.items _ was.each c.in_ok-block.ensures.len);
    }
