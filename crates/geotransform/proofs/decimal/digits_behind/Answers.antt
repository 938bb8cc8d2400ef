use Rattle.std.proofs.Common.{◌≤◌, arith, length}
use Rattle.std.proofs.lemmas.Grind.{common_steps}
use Rattle.std.proofs.lemmas.Bool.Decides.{nat_tests}
use Rattle.geotransform.proofs.Few.{room_one, room_left}
use Rattle.geotransform.proofs.decimal.digits_behind.Goals as goal

pub overflow_mul-n : goal.overflow_mul-n
overflow_mul-n c = omega (arith, room_one c.loop-i.n (length c.args.text.now) c.loop-i.i c.loop-i-test.true c.loop-i.invariant.room)

pub overflow_add-n : goal.overflow_add-n
overflow_add-n c =
    let digit : c.from.result ≤ 9 = grind (arith, nat_tests) in
    omega (arith, digit, room_one c.loop-i.n (length c.args.text.now) c.loop-i.i c.loop-i-test.true c.loop-i.invariant.room)

pub loop-i-preserved : goal.loop-i-preserved
loop-i-preserved c =
    let digit : c.from.result ≤ 9 = grind (arith, nat_tests) in
    record {
      digits = grind (arith, common_steps);
      number = grind (arith, common_steps);
      room = room_left c.loop-i.n c.from.result (length c.args.text.now) c.loop-i.i digit c.loop-i-test.true c.loop-i.invariant.room;
    }
