use Rattle.std.proofs.Common.{◌≡◌, ◌++◌, List, map, Err, vec_len}
use Rattle.outside.specs.Causes.{Rose}
use Rattle.band_blocks.specs.declared.fault.LoadFault.TheVariants.{FolderFault}
use Rattle.lane_teams.specs.declared.turns.Turn.{Turn}
use Rattle.lane_teams.specs.Refusals.{first_refusal}
use Rattle.lane_teams.specs.Ready.{OnlyReadByViews}
use Rattle.lane_teams.proofs.turns.collect.Given as goal

-- the turns that were ended are the last ones
abbrev pub invariant-loop-turn : goal.invariant-loop-turn
invariant-loop-turn g l = record {
  only_read : OnlyReadByViews g.F.Folder l.fn.folder l.folder;
  rest : List (Turn g.row.F.Denot g.row.F-File.Denot g.row.F-Draft.Denot);
  split : l.fn.turns.items ≡ l.turns.items ++ rest;
  first : l.answer ≡ first_refusal (map (λ t. t.answer) rest);
  failed : l.answer ≡ Err FolderFault → Rose (g.F.Folder.faults l.fn.folder) (g.F.Folder.faults l.folder);
}

abbrev pub decreases-loop-turn : goal.decreases-loop-turn
decreases-loop-turn g l = vec_len l.turns
