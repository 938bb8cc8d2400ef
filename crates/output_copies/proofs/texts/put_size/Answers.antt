use Rattle.std.proofs.Common.{subst}
use Rattle.std.specs.Prelude.{OnOk}
use Rattle.geotransform.specs.declared.types.Size.{Size}
use Rattle.outside.specs.Streams.{Gets}
use Rattle.output_copies.specs.Copying.{spoken}
use Rattle.output_copies.specs.Steps.{size_line}
use Rattle.output_copies.proofs.texts.put_size.Goals as goal

pub returns-clause-ok : goal.returns-clause-ok
returns-clause-ok g c = λ d at.
    subst (λ (s : Size). OnOk c.put_sides.result (Gets (spoken c.args.quiet (size_line s)) (g.O.Sink.got c.args.out.now) (g.O.Sink.got c.put_sides.new.out))) (c.source_size-size.ensures.size d at) c.put_sides.ensures.ok
