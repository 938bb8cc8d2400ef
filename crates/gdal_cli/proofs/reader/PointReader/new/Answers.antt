use Rattle.std.proofs.Common.{◌∙◌, ap}
use Rattle.nearest_window.specs.Lanes.{held_count, room_of}
use Rattle.gdal_cli.proofs.reader.PointReader.new.Goals as goal

pub returns-clause-capacity : goal.returns-clause-capacity
returns-clause-capacity g c = ap room_of c.in_ok-lane.ensures.empty ∙ c.get.ensures.value

pub returns-clause-empty : goal.returns-clause-empty
returns-clause-empty g c = ap held_count c.in_ok-lane.ensures.empty
