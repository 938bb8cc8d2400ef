use Rattle.std.proofs.Common.{◌≡◌, ◌∙◌, subst, length}
use Rattle.std.specs.List.{All}
use Rattle.output_copies.proofs.handing.made_room.Goals as goal

pub returns : goal.returns
returns g c = record {
  room = λ is. record {
    long = c.in_ok-packed.ensures.count ∙ c.block_count-count.ensures.count is;
    each = subst (λ n. All (λ bytes. length bytes ≡ n) c.in_ok-packed.packed.items) c.block_len-len.ensures.len c.in_ok-packed.ensures.each;
  };
}
