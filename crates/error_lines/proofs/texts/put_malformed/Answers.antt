use Rattle.error_lines.proofs.texts.put_malformed.Goals as goal

pub returns-in-Hdr-clause-ok : goal.returns-in-Hdr-clause-ok
returns-in-Hdr-clause-ok g c = rw c.in-Hdr.is (rw (c.from.ensures, c.number.ensures.number) at c.put_form.ensures.ok)

pub returns-in-Hdr-clause-err : goal.returns-in-Hdr-clause-err
returns-in-Hdr-clause-err g c = rw c.in-Hdr.is (rw (c.from.ensures, c.number.ensures.number) at c.put_form.ensures.err)

pub returns-in-List-clause-ok : goal.returns-in-List-clause-ok
returns-in-List-clause-ok g c = rw c.in-List.is c.put_form-in-List.ensures.ok

pub returns-in-Dted-clause-ok : goal.returns-in-Dted-clause-ok
returns-in-Dted-clause-ok g c = rw c.in-Dted.is c.put_dted.ensures.ok

pub returns-in-Dted-clause-err : goal.returns-in-Dted-clause-err
returns-in-Dted-clause-err g c = rw c.in-Dted.is c.put_dted.ensures.err

pub returns-in-Hgt-clause-ok : goal.returns-in-Hgt-clause-ok
returns-in-Hgt-clause-ok g c = rw c.in-Hgt.is (rw (c.from-in-Hgt.ensures, c.number-in-Hgt.ensures.number) at c.put_form-in-Hgt.ensures.ok)

pub returns-in-Hgt-clause-err : goal.returns-in-Hgt-clause-err
returns-in-Hgt-clause-err g c = rw c.in-Hgt.is (rw (c.from-in-Hgt.ensures, c.number-in-Hgt.ensures.number) at c.put_form-in-Hgt.ensures.err)

pub returns-in-Grid-clause-ok : goal.returns-in-Grid-clause-ok
returns-in-Grid-clause-ok g c = rw c.in-Grid.is c.put_grid.ensures.ok

pub returns-in-Grid-clause-err : goal.returns-in-Grid-clause-err
returns-in-Grid-clause-err g c = rw c.in-Grid.is c.put_grid.ensures.err

pub returns-in-Vrt-clause-ok : goal.returns-in-Vrt-clause-ok
returns-in-Vrt-clause-ok g c = rw c.in-Vrt.is c.put_vrt.ensures.ok

pub returns-in-Vrt-clause-err : goal.returns-in-Vrt-clause-err
returns-in-Vrt-clause-err g c = rw c.in-Vrt.is c.put_vrt.ensures.err
