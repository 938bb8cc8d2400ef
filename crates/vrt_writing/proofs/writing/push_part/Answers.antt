use Rattle.std.proofs.Common.{◌≡◌, ◌++◌, ◌∙◌, ℤ, pos, ap, subst}
use Rattle.std.specs.Prelude.{OnOk, ◌*ℤ◌}
use Rattle.std.proofs.lemmas.Int.{to_z-of_z}
use Rattle.std.specs.Int.{w128}
use Rattle.geotransform.specs.Print.{short_text}
use Rattle.vrt_writing.specs.Spelled.{part_text}
use Rattle.vrt_writing.proofs.writing.push_part.Goals as goal

pub returns-clause-ok : goal.returns-clause-ok
unfolding part_text
returns-clause-ok c = subst (λ (t : ℤ). OnOk c.print_short.result (c.print_short.new.out.items ≡ c.args.out.now.items ++ short_text t)) (c.part_ticks.ensures.ticks ∙ ap (λ (x : ℤ). x *ℤ pos 180000) (to_z-of_z w128 c.args.v c.ranges.v)) c.print_short.ensures.ok
