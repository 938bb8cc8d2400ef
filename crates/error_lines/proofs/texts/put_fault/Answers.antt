use Rattle.error_lines.proofs.texts.put_fault.Goals as goal

pub returns-in-Usage-clause-ok : goal.returns-in-Usage-clause-ok
returns-in-Usage-clause-ok g c = rw c.in-Usage.is c.put_number.ensures.ok

pub returns-in-Usage-clause-err : goal.returns-in-Usage-clause-err
returns-in-Usage-clause-err g c = rw c.in-Usage.is c.put_number.ensures.err

pub returns-in-Absent-clause-ok : goal.returns-in-Absent-clause-ok
returns-in-Absent-clause-ok g c = rw c.in-Absent.is c.put_name.ensures.ok

pub returns-in-Absent-clause-err : goal.returns-in-Absent-clause-err
returns-in-Absent-clause-err g c = rw c.in-Absent.is c.put_name.ensures.err

pub returns-in-NotRecognized-clause-ok : goal.returns-in-NotRecognized-clause-ok
returns-in-NotRecognized-clause-ok g c = rw c.in-NotRecognized.is c.put_name-in-NotRecognized.ensures.ok

pub returns-in-NotRecognized-clause-err : goal.returns-in-NotRecognized-clause-err
returns-in-NotRecognized-clause-err g c = rw c.in-NotRecognized.is c.put_name-in-NotRecognized.ensures.err

pub returns-in-Malformed-clause-ok : goal.returns-in-Malformed-clause-ok
returns-in-Malformed-clause-ok g c = rw c.in-Malformed.is c.put_malformed.ensures.ok

pub returns-in-Malformed-clause-err : goal.returns-in-Malformed-clause-err
returns-in-Malformed-clause-err g c = rw c.in-Malformed.is c.put_malformed.ensures.err

pub returns-in-Short-clause-ok : goal.returns-in-Short-clause-ok
returns-in-Short-clause-ok g c = rw c.in-Short.is c.put_short.ensures.ok

pub returns-in-Short-clause-err : goal.returns-in-Short-clause-err
returns-in-Short-clause-err g c = rw c.in-Short.is c.put_short.ensures.err

pub returns-in-FolderFault-clause-ok : goal.returns-in-FolderFault-clause-ok
returns-in-FolderFault-clause-ok g c = rw c.in-FolderFault.is c.put.ensures.ok

pub returns-in-FolderFault-clause-err : goal.returns-in-FolderFault-clause-err
returns-in-FolderFault-clause-err g c = rw c.in-FolderFault.is c.put.ensures.err

pub returns-in-OutFault-clause-ok : goal.returns-in-OutFault-clause-ok
returns-in-OutFault-clause-ok g c = rw c.in-OutFault.is c.put-in-OutFault.ensures.ok

pub returns-in-OutFault-clause-err : goal.returns-in-OutFault-clause-err
returns-in-OutFault-clause-err g c = rw c.in-OutFault.is c.put-in-OutFault.ensures.err

pub returns-in-Memory-clause-ok : goal.returns-in-Memory-clause-ok
returns-in-Memory-clause-ok g c = rw c.in-Memory.is c.put-in-Memory.ensures.ok

pub returns-in-Memory-clause-err : goal.returns-in-Memory-clause-err
returns-in-Memory-clause-err g c = rw c.in-Memory.is c.put-in-Memory.ensures.err

pub returns-in-Plan-clause-ok : goal.returns-in-Plan-clause-ok
returns-in-Plan-clause-ok g c = rw c.in-Plan.is c.put_plan.ensures.ok

pub returns-in-Plan-clause-err : goal.returns-in-Plan-clause-err
returns-in-Plan-clause-err g c = rw c.in-Plan.is c.put_plan.ensures.err

pub returns-in-Limit-clause-ok : goal.returns-in-Limit-clause-ok
returns-in-Limit-clause-ok g c = rw c.in-Limit.is c.put_limit.ensures.ok

pub returns-in-Limit-clause-err : goal.returns-in-Limit-clause-err
returns-in-Limit-clause-err g c = rw c.in-Limit.is c.put_limit.ensures.err

pub returns-in-Changed-clause-ok : goal.returns-in-Changed-clause-ok
returns-in-Changed-clause-ok g c = rw c.in-Changed.is c.put_changed.ensures.ok

pub returns-in-Changed-clause-err : goal.returns-in-Changed-clause-err
returns-in-Changed-clause-err g c = rw c.in-Changed.is c.put_changed.ensures.err

pub returns-in-Cycle-clause-ok : goal.returns-in-Cycle-clause-ok
returns-in-Cycle-clause-ok g c = rw c.in-Cycle.is c.put_name-in-Cycle.ensures.ok

pub returns-in-Cycle-clause-err : goal.returns-in-Cycle-clause-err
returns-in-Cycle-clause-err g c = rw c.in-Cycle.is c.put_name-in-Cycle.ensures.err

pub returns-in-TooDeep-clause-ok : goal.returns-in-TooDeep-clause-ok
returns-in-TooDeep-clause-ok g c = rw c.in-TooDeep.is c.put_name-in-TooDeep.ensures.ok

pub returns-in-TooDeep-clause-err : goal.returns-in-TooDeep-clause-err
returns-in-TooDeep-clause-err g c = rw c.in-TooDeep.is c.put_name-in-TooDeep.ensures.err

pub returns-in-SourceBand-clause-ok : goal.returns-in-SourceBand-clause-ok
returns-in-SourceBand-clause-ok g c = rw c.in-SourceBand.is c.put_lacking.ensures.ok

pub returns-in-SourceBand-clause-err : goal.returns-in-SourceBand-clause-err
returns-in-SourceBand-clause-err g c = rw c.in-SourceBand.is c.put_lacking.ensures.err

pub returns-in-SameName-clause-ok : goal.returns-in-SameName-clause-ok
returns-in-SameName-clause-ok g c = rw c.in-SameName.is c.put_name-in-SameName.ensures.ok

pub returns-in-SameName-clause-err : goal.returns-in-SameName-clause-err
returns-in-SameName-clause-err g c = rw c.in-SameName.is c.put_name-in-SameName.ensures.err

pub returns-in-BadPoint-clause-ok : goal.returns-in-BadPoint-clause-ok
returns-in-BadPoint-clause-ok g c = rw c.in-BadPoint.is (rw c.from.ensures at c.put_number-in-BadPoint.ensures.ok)

pub returns-in-BadPoint-clause-err : goal.returns-in-BadPoint-clause-err
returns-in-BadPoint-clause-err g c = rw c.in-BadPoint.is (rw c.from.ensures at c.put_number-in-BadPoint.ensures.err)

pub returns-in-InputFault-clause-ok : goal.returns-in-InputFault-clause-ok
returns-in-InputFault-clause-ok g c = rw c.in-InputFault.is c.put-in-InputFault.ensures.ok

pub returns-in-InputFault-clause-err : goal.returns-in-InputFault-clause-err
returns-in-InputFault-clause-err g c = rw c.in-InputFault.is c.put-in-InputFault.ensures.err

pub returns-in-Build-clause-ok : goal.returns-in-Build-clause-ok
returns-in-Build-clause-ok g c = rw c.in-Build.is c.put_build.ensures.ok

pub returns-in-Build-clause-err : goal.returns-in-Build-clause-err
returns-in-Build-clause-err g c = rw c.in-Build.is c.put_build.ensures.err
