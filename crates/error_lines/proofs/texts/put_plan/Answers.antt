use Rattle.error_lines.proofs.texts.put_plan.Goals as goal

pub returns-in-NoBand-clause-ok : goal.returns-in-NoBand-clause-ok
returns-in-NoBand-clause-ok g c = rw c.in-NoBand.is (rw c.from.ensures at c.put_number.ensures.ok)

pub returns-in-NoBand-clause-err : goal.returns-in-NoBand-clause-err
returns-in-NoBand-clause-err g c = rw c.in-NoBand.is (rw c.from.ensures at c.put_number.ensures.err)

pub returns-in-NoGeo-clause-ok : goal.returns-in-NoGeo-clause-ok
returns-in-NoGeo-clause-ok g c = rw c.in-NoGeo.is c.put.ensures.ok

pub returns-in-NoGeo-clause-err : goal.returns-in-NoGeo-clause-err
returns-in-NoGeo-clause-err g c = rw c.in-NoGeo.is c.put.ensures.err

pub returns-in-EmptyWindow-clause-ok : goal.returns-in-EmptyWindow-clause-ok
returns-in-EmptyWindow-clause-ok g c = rw c.in-EmptyWindow.is c.put-in-EmptyWindow.ensures.ok

pub returns-in-EmptyWindow-clause-err : goal.returns-in-EmptyWindow-clause-err
returns-in-EmptyWindow-clause-err g c = rw c.in-EmptyWindow.is c.put-in-EmptyWindow.ensures.err

pub returns-in-Limit-clause-ok : goal.returns-in-Limit-clause-ok
returns-in-Limit-clause-ok g c = rw c.in-Limit.is c.put-in-Limit.ensures.ok

pub returns-in-Limit-clause-err : goal.returns-in-Limit-clause-err
returns-in-Limit-clause-err g c = rw c.in-Limit.is c.put-in-Limit.ensures.err

pub returns-in-Outside-clause-ok : goal.returns-in-Outside-clause-ok
returns-in-Outside-clause-ok g c = rw c.in-Outside.is c.put-in-Outside.ensures.ok

pub returns-in-Outside-clause-err : goal.returns-in-Outside-clause-err
returns-in-Outside-clause-err g c = rw c.in-Outside.is c.put-in-Outside.ensures.err

pub returns-in-BandCount-clause-ok : goal.returns-in-BandCount-clause-ok
returns-in-BandCount-clause-ok g c = rw c.in-BandCount.is c.put-in-BandCount.ensures.ok

pub returns-in-BandCount-clause-err : goal.returns-in-BandCount-clause-err
returns-in-BandCount-clause-err g c = rw c.in-BandCount.is c.put-in-BandCount.ensures.err

pub returns-in-Unfit-clause-ok : goal.returns-in-Unfit-clause-ok
returns-in-Unfit-clause-ok g c = rw c.in-Unfit.is c.put-in-Unfit.ensures.ok

pub returns-in-Unfit-clause-err : goal.returns-in-Unfit-clause-err
returns-in-Unfit-clause-err g c = rw c.in-Unfit.is c.put-in-Unfit.ensures.err
