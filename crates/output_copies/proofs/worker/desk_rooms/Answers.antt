use Rattle.std.proofs.Common.{◌≡◌, ◌∙◌, ◌*◌, ap, subst, arith, length, pos}
use Rattle.std.specs.List.{All}
use Rattle.std.proofs.lemmas.List.{length-replicate}
use Rattle.band_blocks.specs.Blocks.{BlockView}
use Rattle.output_copies.proofs.worker.desk_rooms.Goals as goal

pub returns : goal.returns
returns g c =
    let w = c.args.task.now.packing in
    let spots = c.spots-spots.ensures.spots in
    let kind = c.kind-kind.ensures.kind in
    record {
      desk = record {
        wide = omega (arith, c.in_ok-room.room.ok.0, c.in_ok-room.ensures.len, c.room_len-size.ensures.len);
        packs = record {
          block_is = record {
            kind = ap (λ (b : BlockView). b.kind) c.in_ok-block.ensures.zeros ∙ kind;
            count = ap (λ (b : BlockView). length b.samples) c.in_ok-block.ensures.zeros ∙ length-replicate c.spots-spots.result (pos 0) ∙ spots;
          };
          long = c.in_ok-packed.ensures.count ∙ c.area-count.ensures.area ∙ ap (λ n. c.args.task.now.rows * n) c.count.ensures.count;
          each = subst (λ n. All (λ bytes. length bytes ≡ n) c.in_ok-packed.packed.items) c.block_len-len.ensures.len c.in_ok-packed.ensures.each;
        };
        count = c.in_ok-records.ensures.count ∙ c.record_count-columns.ensures.count;
        each = λ i d less. (let b = c.in_ok-records.ensures.each i d less in record { kind = b.0 ∙ kind; count = b.1 ∙ spots });
      };
    }
