use Rattle.std.proofs.Common.{◌≡◌, ◌∙◌, ap, sym, subst, ℕ, List, [], ◌∷◌, ◌++◌}
use Rattle.std.specs.Prelude.{slice_get}
use Rattle.catalog.specs.Dataset.{DatasetHead}
use Rattle.buildvrt.specs.Judging.{name_of}
use Rattle.error_lines.specs.Steps.{Warns, AreWarned}
use Rattle.error_lines.specs.Texts.{warning_line}
use Rattle.mosaic_builds.specs.Walks.{heads_at}
use Rattle.mosaic_builds.proofs.Heads.{head_there}
use Rattle.mosaic_builds.proofs.putting.warn.Goals as goal

pub returns : goal.returns
returns g c = record {
  warned = λ steps first start w.
      let there = head_there c.args.made.now.cat c.args.made.now.ids c.args.skipped.input c.get-id.result.now c.requires.made.known c.get-id.ensures.item in
      let name : c.head.inside.name ≡ name_of (slice_get (heads_at c.args.made.now.cat c.args.made.now.ids) c.args.skipped.input) = ap (λ (h : DatasetHead). h.name) c.head.view_is ∙ sym (ap name_of (there ∙ c.head-head.ensures.head)) in
      subst (λ (n : List ℕ). AreWarned (steps ++ Warns (warning_line n c.args.skipped.reason) ∷ []) c.put_warning.new.failed first (g.E.Sink.faults c.put_warning.new.err) start (g.E.Sink.got c.put_warning.new.err)) name
      (c.put_warning.ensures.warned steps first start w);
}
