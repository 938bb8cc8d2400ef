use Rattle.std.proofs.Common.{rules, ◌≡◌, ◌∙◌, to_z, of_z}
use mir.Syntax.{w128}
use Rattle.interleaved_raw.specs.Raw.{position_of, sample_at}
use Rattle.interleaved_raw.proofs.Order.{sample_stands}
use Rattle.interleaved_raw.proofs.samples.decode_sample.Goals as goal

pub returns-clause-file : goal.returns-clause-file
returns-clause-file c file band x y stands =
    let same : to_z w128 (of_z w128 c.value_of.result) ≡ sample_at c.args.head.now c.args.bytes.now = search rules in
    same ∙ sample_stands c.args.head.now file c.args.bytes.now (position_of c.args.head.now band x y) c.requires.enough stands
