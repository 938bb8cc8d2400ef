use Rattle.std.proofs.Common.{◌≡◌, ◌∙◌, ◌≤◌, ◌*◌, ap, sym, subst, length, arith}
use Rattle.std.proofs.Math.Nat.{mul-le-mul}
use Rattle.geotransform.specs.declared.types.Size.{Size}
use Rattle.strip_copies.specs.Columns.{AreColumns}
use Rattle.strip_copies.proofs.reading.StripReader.new.Goals as goal

pub returns-clause-room : goal.returns-clause-room
returns-clause-room g c =
    let t = c.requires.translation in
    let columns = c.in_ok-columns.columns in
    let lines = c.room_lines-lines.ensures.some in
    let wide = ap (λ (s : Size). s.w) (c.source_size-size.ensures.size t.dataset t.at) in
    let most : columns.count * 1 ≤ columns.count * c.room_lines-lines.result = mul-le-mul (omega arith) lines in
    let one : columns.count * 1 ≡ columns.count = omega arith in
    let size : length c.in_ok-samples.samples.items ≡ columns.count * c.room_lines-lines.result = sym c.in_ok-samples.samples.ok.0 ∙ c.in_ok-samples.ensures.len ∙ c.area.ensures.area in
    record {
      dataset = t.dataset;
      at = t.at;
      shown = subst (λ w. AreColumns c.args.translation.now.plan w columns) wide c.in_ok-columns.ensures.columns;
      room = omega (arith, most, one, size);
    }

pub returns-clause-fresh : goal.returns-clause-fresh
returns-clause-fresh g c = record {
  some = (let n = c.in_ok-team.ensures.count in let w = c.get.ensures.some in omega arith);
  fresh = c.in_ok-team.ensures.fresh;
}
