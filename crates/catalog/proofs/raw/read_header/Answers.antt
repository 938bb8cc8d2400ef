use Rattle.std.proofs.Common.{◌<◌, ◌∙◌, ap, inr, sym, arith, length, Ok, Err}
use Rattle.esri_hdr.specs.Head.{esri_head}
use Rattle.catalog.proofs.Headers.{long_header, header_read}
use Rattle.catalog.proofs.raw.read_header.Goals as goal

pub returns-then-len-gt-LONGEST_HEADER-clause-told : goal.returns-then-len-gt-LONGEST_HEADER-clause-told
returns-then-len-gt-LONGEST_HEADER-clause-told g c = λ m told.
    let file = c.in_ok-text.ensures.ok m told in
    let len = c.len-len.ensures.told file.0 file.2 in
    let long : 1048576 < length file.0 = omega arith in
    inr (rw c.in_ok-try_clone.ensures.same (long_header m c.args.name.now file.0 file.1 long))

pub returns-in-Ok-clause-told : goal.returns-in-Ok-clause-told
returns-in-Ok-clause-told g c = λ m told.
    let file = c.in_ok-text.ensures.ok m told in
    let read = c.deref.ensures.value ∙ c.in_ok-bytes.ensures.ok file.0 file.2 in
    header_read m c.args.name.now file.0 (Ok c.in-Ok.head) file.1 (ap esri_head (sym read) ∙ sym c.in-Ok.ensures.head)

pub returns-clause-told : goal.returns-clause-told
returns-clause-told g c = λ m told.
    let file = c.in_ok-text.ensures.ok m told in
    let read = c.deref.ensures.value ∙ c.in_ok-bytes.ensures.ok file.0 file.2 in
    inr (rw c.in_ok-try_clone-in-Err.ensures.same (header_read m c.args.name.now file.0 (Err c.in-Err.fault) file.1 (ap esri_head (sym read) ∙ sym c.in-Err.ensures.head)))
