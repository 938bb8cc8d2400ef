use Rattle.std.proofs.Common.{◌≤◌, ◌-◌, arith}
use Rattle.std.proofs.lemmas.Grind.{common_steps}
use Rattle.std.proofs.lemmas.Bool.Decides.{nat_tests}
use Rattle.geotransform.proofs.Few.{room_one, room_left}
use Rattle.vrt_profile.proofs.fronts.run_in_ten.Goals as goal

pub overflow_mul-n : goal.overflow_mul-n
overflow_mul-n c = omega (arith, room_one c.loop-count.n 10 c.loop-count.count c.loop-count-test.true c.loop-count.invariant.room)

pub overflow_add-n : goal.overflow_add-n
overflow_add-n c =
    let digit : c.from.result - 48 ≤ 9 = grind (arith, nat_tests) in
    omega (arith, digit, room_one c.loop-count.n 10 c.loop-count.count c.loop-count-test.true c.loop-count.invariant.room)

pub loop-count-preserved : goal.loop-count-preserved
loop-count-preserved c =
    let digit : c.from.result - 48 ≤ 9 = grind (arith, nat_tests) in
    record {
      digits = grind (arith, common_steps);
      number = grind (arith, common_steps);
      room = room_left c.loop-count.n (c.from.result - 48) 10 c.loop-count.count digit c.loop-count-test.true c.loop-count.invariant.room;
    }
