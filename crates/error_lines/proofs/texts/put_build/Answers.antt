use Rattle.error_lines.proofs.texts.put_build.Goals as goal

pub returns-in-Nothing-clause-ok : goal.returns-in-Nothing-clause-ok
returns-in-Nothing-clause-ok g c = rw c.in-Nothing.is c.put.ensures.ok

pub returns-in-Nothing-clause-err : goal.returns-in-Nothing-clause-err
returns-in-Nothing-clause-err g c = rw c.in-Nothing.is c.put.ensures.err

pub returns-in-Strict-clause-ok : goal.returns-in-Strict-clause-ok
returns-in-Strict-clause-ok g c = rw c.in-Strict.is (rw c.reason_word.ensures at c.put_skipped.ensures.ok)

pub returns-in-Strict-clause-err : goal.returns-in-Strict-clause-err
returns-in-Strict-clause-err g c = rw c.in-Strict.is (rw c.reason_word.ensures at c.put_skipped.ensures.err)

pub returns-in-Limit-clause-ok : goal.returns-in-Limit-clause-ok
returns-in-Limit-clause-ok g c = rw c.in-Limit.is c.put-in-Limit.ensures.ok

pub returns-in-Limit-clause-err : goal.returns-in-Limit-clause-err
returns-in-Limit-clause-err g c = rw c.in-Limit.is c.put-in-Limit.ensures.err

pub returns-in-Memory-clause-ok : goal.returns-in-Memory-clause-ok
returns-in-Memory-clause-ok g c = rw c.in-Memory.is c.put-in-Memory.ensures.ok

pub returns-in-Memory-clause-err : goal.returns-in-Memory-clause-err
returns-in-Memory-clause-err g c = rw c.in-Memory.is c.put-in-Memory.ensures.err
