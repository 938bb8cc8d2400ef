use Rattle.std.proofs.Common.{◌≡◌, ◌∙◌, ◌+◌, ◌-◌, ◌*◌, ◌<◌, ◌≤◌, ℕ, ap, sym, subst, arith, length, take, drop}
use borrow.Rule.Slice.PartMut.{put_mid}
use Rattle.band_blocks.specs.Contents.{most_calls}
use Rattle.translate_plan.specs.Plan.{Planned}
use Rattle.strip_copies.specs.Rows.{AreSamples}
use Rattle.strip_copies.proofs.Joined.{lines_more}
use Rattle.strip_copies.proofs.Told.{part_length, reads_more, rows_up, samples_moved}
use Rattle.strip_copies.proofs.reading.read_runs.Goals as goal

-- lines from one up to another, among those that are wanted
fits : (w first line end last begin until room : ℕ) → first ≤ line → line < end → end ≤ last → begin ≡ (line - first) * w → until ≡ (end - first) * w → room ≡ (last - first) * w → (begin + (until - begin) ≡ (end - first) * w) × ((begin + (until - begin) ≤ room) × (until - begin ≡ (end - line) * w))
fits w first line end last begin until room low some high b u r =
    let whole = rows_up w (line - first) (end - first) (omega arith) in
    let rest = rows_up w (end - first) (last - first) (omega arith) in
    let step : (end - first) - (line - first) ≡ end - line = omega arith in
    let wide : ((end - first) - (line - first)) * w ≡ (end - line) * w = ap (λ n. n * w) step in
    (omega (arith, whole, b, u), (omega (arith, whole, rest, b, u, r), omega (arith, whole, wide, b, u)))

pub read_part-requires-clause-room : goal.read_part-requires-clause-room
read_part-requires-clause-room g c κs within =
    let w = c.args.shown.now.translation.now.plan.size.w in
    let wide : c.plan.inside.size.w ≡ w = ap (λ (p : Planned). p.size.w) c.plan.view_is in
    let run = c.next_run-next.ensures in
    let begin : c.area-begin.result ≡ (c.loop-line.line - c.args.lines.first) * w = c.area-begin.ensures.area ∙ ap (λ n. (c.loop-line.line - c.args.lines.first) * n) wide in
    let until : c.area-end.result ≡ (c.next_run-next.result.run.end - c.args.lines.first) * w = c.area-end.ensures.area ∙ ap (λ n. (c.next_run-next.result.run.end - c.args.lines.first) * n) wide in
    let f = fits w c.args.lines.first c.loop-line.line c.next_run-next.result.run.end c.args.lines.end c.area-begin.result c.area-end.result (length c.loop-line.out) c.loop-line.invariant.above run.some run.end begin until (c.loop-line.auto.out ∙ c.requires.size) in
    part_length c.area-begin.result (c.area-end.result - c.area-begin.result) c.loop-line.out f.1.0 ∙ f.1.1 ∙ ap (λ n. (c.next_run-next.result.run.end - n) * w) (sym run.first)

pub returns-in_err-read_part-clause-reads : goal.returns-in_err-read_part-clause-reads
returns-in_err-read_part-clause-reads g c =
    let before = c.loop-line.invariant in
    λ one. reads_more (most_calls c.args.shown.now.translation.now.cat) c.args.team.now.loads c.loop-line.team.loads c.read_part.new.team.loads _ _ _ before.counted c.read_part.ensures.counted (before.reads one) (c.read_part.ensures.reads (before.lanes ∙ one))

pub returns-in_err-read_part-clause-capacity : goal.returns-in_err-read_part-clause-capacity
returns-in_err-read_part-clause-capacity g c = c.read_part.ensures.capacity ∙ c.loop-line.invariant.capacity

pub loop-line-preserved : goal.loop-line-preserved
loop-line-preserved g c =
    let p = c.args.shown.now.translation.now.plan in
    let w = c.args.shown.now.translation.now.plan.size.w in
    let first = c.args.lines.first in
    let line = c.loop-line.line in
    let end = c.next_run-next.result.run.end in
    let a = c.area-begin.result in
    let b = c.area-end.result - c.area-begin.result in
    let before = c.loop-line.invariant in
    let here = c.read_part.ensures in
    let run = c.next_run-next.ensures in
    let wide : c.plan.inside.size.w ≡ w = ap (λ (p : Planned). p.size.w) c.plan.view_is in
    let begin : a ≡ (line - first) * w = c.area-begin.ensures.area ∙ ap (λ n. (line - first) * n) wide in
    let until : c.area-end.result ≡ (end - first) * w = c.area-end.ensures.area ∙ ap (λ n. (end - first) * n) wide in
    let f = fits w first line end c.args.lines.end a c.area-end.result (length c.loop-line.out) before.above run.some run.end begin until (c.loop-line.auto.out ∙ c.requires.size) in
    let part : length (take b (drop a c.loop-line.out)) ≡ b = part_length a b c.loop-line.out f.1.0 in
    let size : length c.read_part.new.out ≡ b = c.read_part.auto.out ∙ part in
    let down : c.next_run-next.result.run.first ≡ first + (line - first) = run.first ∙ (let low = before.above in omega arith) in
    let some : 0 < w = c.rules.ensures.kept.size.some_columns in
    record {
      below = run.end;
      above = omega (arith, before.above, run.some);
      samples = λ d at.
          subst (λ n. AreSamples (g.F.Folder.names c.args.folder.now) d.head.name p d.head.size c.args.lines.band first n (put_mid a b c.loop-line.out c.read_part.new.out)) f.0
          (lines_more (g.F.Folder.names c.args.folder.now) d.head.name p d.head.size c.args.lines.band first some (line - first) (end - line) a b c.loop-line.out c.read_part.new.out begin f.1.1 (omega (arith, f.1.0)) size
          (subst (λ n. AreSamples (g.F.Folder.names c.args.folder.now) d.head.name p d.head.size c.args.lines.band first n c.loop-line.out) (sym begin) (before.samples d at))
          (samples_moved _ _ d.head.name p d.head.size _ _ _ _ _ _ c.read_part.new.out before.only_read.names run.band down part (c.in_ok-read_part.ensures.samples d at)));
      ready = here.ready;
      lanes = here.lanes ∙ before.lanes;
      capacity = here.capacity ∙ before.capacity;
      only_read = record { names = here.only_read.names ∙ before.only_read.names; writes = omega (arith, here.only_read.writes, before.only_read.writes); faults = omega (arith, here.only_read.faults, before.only_read.faults) };
      counted = omega (arith, before.counted, here.counted);
      reads = λ one. reads_more (most_calls c.args.shown.now.translation.now.cat) c.args.team.now.loads c.loop-line.team.loads c.read_part.new.team.loads _ _ _ before.counted here.counted (before.reads one) (here.reads (before.lanes ∙ one));
    }
