use Rattle.mosaic_sources.proofs.Held.{held_by_stretch, stretches_in_order}
use Rattle.mosaic_sources.proofs.stretches.stretches_of.Goals as goal

pub returns-clause-within : goal.returns-clause-within
returns-clause-within c = record {
  order = stretches_in_order c.args.cuts.now c.args.height c.args.span c.stretch_of-first.result c.end_of-end.result c.if-span.false c.stretch_of-first.ensures.stretch c.end_of-end.ensures.inner c.end_of-end.ensures.last;
  within = c.end_of-end.ensures.within;
}

pub returns-clause-held : goal.returns-clause-held
returns-clause-held c = rw (c.stretch_of-first.ensures.stretch) (held_by_stretch c.args.cuts.now c.args.height c.args.span c.end_of-end.result c.requires.edges c.if-span.false c.end_of-end.ensures.inner c.end_of-end.ensures.last)
