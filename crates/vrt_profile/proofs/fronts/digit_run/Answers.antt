use Rattle.std.proofs.Common.{◌*◌, ◌+◌, arith}
use Rattle.vrt_profile.proofs.DigitRuns.{run_more, run_small}
use Rattle.vrt_profile.proofs.fronts.digit_run.Goals as goal

pub loop-digit-preserved : goal.loop-digit-preserved
loop-digit-preserved c =
    let l = c.loop-digit in
    let run = run_more c.args.text.now l.rest.now c.in-Some.more.now l.n l.count c.in-Some.digit l.invariant.run c.in-Some.ensures.digit (omega (arith, c.if-count-ge9.false)) in
    record {
      run = run;
      small = run_small c.args.text.now c.in-Some.more.now (l.n * 10 + c.in-Some.digit) (l.count + 1) run;
      shorter = omega (arith, c.in-Some.ensures.shorter, l.invariant.shorter);
    }
