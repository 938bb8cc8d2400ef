use Rattle.std.proofs.Common.{◌≡◌, ◌∙◌, ◌-◌, ap₂, suc, length, arith}
use Rattle.std.specs.Ordering.{nat_cmp}
use Rattle.std.specs.Cmp.Lexicographic.{slice_cmp}
use Rattle.catalog.proofs.Gatherings.{order_at}
use Rattle.catalog.proofs.gathered.Gathered.order.Goals as goal

pub returns : goal.returns
returns c =
    let long : length c.args.self.now.files ≡ suc (c.len-count.result - 1) = omega arith in
    record {
      order =
          c.cmp.ensures
          ∙ ap₂ (slice_cmp nat_cmp) c.as_str.ensures.name c.as_str-2.ensures.name
          ∙ order_at c.args.self.now.files c.args.name.now (c.len-count.result - 1) c.get.result.now (omega arith) c.get.ensures.item long;
    }
