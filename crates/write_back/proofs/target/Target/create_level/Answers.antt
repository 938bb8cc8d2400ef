use Rattle.std.proofs.Common.{◌≡◌, ◌++◌, List, ℕ, length, ap, ◌∙◌, arith}
use Rattle.dted_records.specs.Text.{head_text}
use Rattle.dted_records.proofs.HeadAgain.{head_len}
use Rattle.write_back.proofs.target.Target.create_level.Goals as goal

pub create_cell-requires-clause-front : goal.create_cell-requires-clause-front
create_cell-requires-clause-front g c κs within =
    let long : length c.write_head.new.out.items ≡ 3428 = ap length c.in_ok-write_head.ensures.ok ∙ ap (λ (l : List ℕ). length (l ++ head_text c.in-Ok.head)) c.new-front.ensures.items ∙ head_len c.in-Ok.head in
    let front = c.in-Ok.ensures.plain.front in
    let held = c.write_head.new.out.ok in
    omega (arith, long, front, held)
