use Rattle.std.proofs.Common.{subst}
use Rattle.vrt_profile.specs.Values.{BandValue}
use Rattle.nearest_window.specs.Wanted.{IsWanted, numbers_of}
use Rattle.nearest_window.proofs.indexing.wanted_in.Goals as goal

pub returns-then-not-is_indexed-clause-wanted : goal.returns-then-not-is_indexed-clause-wanted
returns-then-not-is_indexed-clause-wanted c = λ d at. subst (λ (b : BandValue). IsWanted b.sources d.head.size c.args.rect (numbers_of c.all_of.result)) c.band.view_is (c.all_of.ensures.all d.head.size c.args.rect)
