use Rattle.std.proofs.Common.{◌≡◌, ◌+◌, ◌∙◌, ap, length, pos}
use Rattle.std.proofs.lemmas.List.{length_push, length-replicate}
use Rattle.std.proofs.lemmas.List.Elements.{All-push, All-same}
use Rattle.band_blocks.specs.Blocks.{BlockView}
use Rattle.output_copies.proofs.worker.block_room.Goals as goal

pub loop-at-preserved : goal.loop-at-preserved
loop-at-preserved c =
    let was = c.loop-at.invariant in
    let items = c.in_ok-push.ensures.items in
    let zeros = c.in_ok-block.ensures.zeros in
    record {
      count = ap length items ∙ length_push c.loop-at.blocks.items _ ∙ ap (λ n. n + 1) was.count;
      each = All-same (λ (block : BlockView). (block.kind ≡ c.args.kind) × (length block.samples ≡ c.args.len)) _ _ items
          (All-push (λ (block : BlockView). (block.kind ≡ c.args.kind) × (length block.samples ≡ c.args.len)) c.loop-at.blocks.items _ was.each (ap (λ (b : BlockView). b.kind) zeros, ap (λ (b : BlockView). length b.samples) zeros ∙ length-replicate c.args.len (pos 0)));
    }
