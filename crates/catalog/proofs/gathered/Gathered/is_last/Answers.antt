use Rattle.std.proofs.Common.{◌≡◌, ◌-◌, suc, length, arith}
use Rattle.catalog.proofs.Gatherings.{last_is}
use Rattle.catalog.proofs.gathered.Gathered.is_last.Goals as goal

pub returns : goal.returns
returns c =
    let long : length c.args.self.now.files ≡ suc (c.len-count.result - 1) = omega arith in
    record {
      last = λ same. last_is c.args.self.now.files c.args.name.now (c.len-count.result - 1) c.get.result.now (omega arith) c.get.ensures.item long (c.are_same.ensures.same same);
    }
