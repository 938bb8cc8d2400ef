use Rattle.std.proofs.Common.{◌≡◌, ◌∙◌, ap, length, rules}
use Rattle.outside.proofs.Told.{wrote-none, wrote-more, wrote-kept, wrote-all, wrote-part, wrote-ended}
use Rattle.outside.proofs.standard.write_out.Goals as goal
use Rattle.outside.proofs.standard.write_out.Goals.{in-Ok, in-Err}

pub loop-init : goal.loop-init
loop-init g c = wrote-none c.args.bytes.now _

pub returns-then-is_empty-clause-ok : goal.returns-then-is_empty-clause-ok
returns-then-is_empty-clause-ok g c =
    let empty : length c.loop.rest.now ≡ 0 = search rules in
    wrote-all c.args.bytes.now c.loop.rest.now _ _ empty c.loop.invariant

pub returns-in-Ok-eq0-clause-err : goal.returns-in-Ok-eq0-clause-err
returns-in-Ok-eq0-clause-err g c = wrote-ended _ _ _ _ _ _ c.loop.invariant c.write.ensures.bytes

pub returns-in-Err-2-clause-err : goal.returns-in-Err-2-clause-err
returns-in-Err-2-clause-err g c = wrote-ended _ _ _ _ _ _ c.loop.invariant c.write.ensures.bytes

pub loop-preserved : goal.loop-preserved
loop-preserved g c =
    elim c.match-write.branch [
      | in-Ok w ↦ wrote-more _ _ _ _ _ _ _ c.loop.invariant w.in-Ok.ensures.bytes (ap (λ r. r.now) w.rest-is ∙ w.split_at.ensures.back)
      | in-Err w ↦ rw w.rest-is (wrote-kept _ _ _ _ _ c.loop.invariant w.in-Err.ensures.bytes)
    ]

pub returns-clause-err : goal.returns-clause-err
returns-clause-err g c = wrote-part _ _ _ _ c.loop.invariant
