use Rattle.std.proofs.Common.{ap, arith, length, sym, ◌≡◌, ◌∙◌, ◌*◌, ◌≤◌}
use Rattle.mosaic_sources.specs.Rows.{covering_lines}
use Rattle.mosaic_sources.proofs.Indexes.{is_index}
use Rattle.mosaic_sources.proofs.rows.RowIndex.new.Goals as goal

pub returns-clause-index : goal.returns-clause-index
returns-clause-index c =
    let sources = c.args.sources.now in
    let size = c.args.size in
    let spans = c.in_ok-spans.spans.items in
    let cuts = c.in_ok-cuts.cuts.items in
    let made = c.in_ok-cuts.ensures in
    let are = rw (c.in-Some.is) at c.in_ok-lists_within.ensures.lists in
    is_index sources size spans cuts c.in-Some.lists.items
    (λ y less. c.in_ok-spans.ensures.lists y less ∙ ap (λ s. covering_lines s size y) c.as_slice.ensures.items)
    made.rising
    made.inner
    (rw (c.as_slice-2.ensures.value) at made.changes)
    (omega (arith, made.count, ap (λ s. length s) c.as_slice-2.ensures.value, c.in_ok-spans.ensures.count, ap (λ s. length s) c.as_slice.ensures.items))
    (rw (c.as_slice-3.ensures.value, c.as_slice-4.ensures.value) at are)

pub returns-in-None-clause-long : goal.returns-in-None-clause-long
returns-in-None-clause-long c = λ none.
    let sources = c.args.sources.now in
    let size = c.args.size in
    let spans = c.in_ok-spans.spans.items in
    let cuts = c.in_ok-cuts.cuts.items in
    let made = c.in_ok-cuts.ensures in
    let found = c.in_ok-lists_within.ensures.long c.in-None.is in (
      record { height = size.h; cuts = cuts; lists = found.0 },
      (
        is_index sources size spans cuts found.0
            (λ y less. c.in_ok-spans.ensures.lists y less ∙ ap (λ s. covering_lines s size y) c.as_slice.ensures.items)
            made.rising
            made.inner
            (rw (c.as_slice-2.ensures.value) at made.changes)
            (omega (arith, made.count, ap (λ s. length s) c.as_slice-2.ensures.value, c.in_ok-spans.ensures.count, ap (λ s. length s) c.as_slice.ensures.items))
            (rw (c.as_slice-3.ensures.value, c.as_slice-4.ensures.value) at found.1.0),
        found.1.1,
      ),
    )
