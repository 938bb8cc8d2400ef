use Rattle.std.proofs.Common.{◌≡◌, refl, sym, subst}
use Rattle.std.specs.List.{All}
use Rattle.nearest_window.specs.Lanes.{lane_view}
use Rattle.nearest_window.specs.Right.{IsIndexIn}
use Rattle.nearest_window.proofs.lane.Lane.wanted.Goals as goal

pub wanted_in-requires-clause-listed : goal.wanted_in-requires-clause-listed
wanted_in-requires-clause-listed g c = subst (λ lane. All (IsIndexIn c.args.cat.now) lane.indexes) (sym c.self.view_is) c.requires.listed

pub wanted_in-requires-clause-key : goal.wanted_in-requires-clause-key
wanted_in-requires-clause-key g c = c.requires.key

pub wanted_in-requires-clause-within : goal.wanted_in-requires-clause-within
wanted_in-requires-clause-within g c = c.requires.within

pub returns-clause-same : goal.returns-clause-same
returns-clause-same g c = subst (λ lane. lane_view c.self.inside.pool c.self.inside.files c.self.inside.made c.wanted_in.new.indexes c.self.inside.recalled ≡ lane_view lane.pool lane.files lane.made c.wanted_in.new.indexes lane.recalled) c.self.view_is refl

pub returns-clause-listed : goal.returns-clause-listed
returns-clause-listed g c = c.wanted_in.ensures.listed

pub returns-clause-wanted : goal.returns-clause-wanted
returns-clause-wanted g c = c.wanted_in.ensures.wanted
