use Rattle.std.proofs.Common.{◌+◌, ◌*◌, length}
use Rattle.lane_teams.proofs.beside.+lanes.Given as goal

abbrev pub decreases-read_all : goal.decreases-read_all
decreases-read_all g l = 5 * length l.lanes.now

abbrev pub decreases-read_group : goal.decreases-read_group
decreases-read_group g l = 5 * length l.group.now.lanes.now + 1

abbrev pub decreases-read_both-read : goal.decreases-read_both-read
decreases-read_both-read g l = 5 * l.most + 2

abbrev pub decreases-read_both : goal.decreases-read_both
decreases-read_both g l = 5 * l.groups.most + 3

abbrev pub decreases-read_pair : goal.decreases-read_pair
decreases-read_pair g l = 5 * l.groups.most + 4
