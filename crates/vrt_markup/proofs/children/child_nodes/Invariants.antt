use Rattle.std.proofs.Common.{◌≡◌, ◌≤◌, length, Ok, true}
use Rattle.vrt_markup.specs.Forest.{nodes, read_as}
use Rattle.vrt_markup.specs.Kept.{seen, kept_of}
use Rattle.vrt_markup.proofs.children.child_nodes.Given as goal

abbrev pub invariant-items : goal.invariant-items
invariant-items g l = record {
  left : read_as (seen (g.P.Parts.step l.fn.parts) (kept_of (g.P.Parts.value l.parts) l.seen.kept) l.seen.white) (nodes l.level.total l.level.depth l.name l.rest) ≡ read_as (seen (g.P.Parts.step l.fn.parts) (Ok (g.P.Parts.value l.fn.parts)) true) (nodes l.level.total l.level.depth l.name l.bytes);
  same : g.P.Parts.step l.parts ≡ g.P.Parts.step l.fn.parts;
  shorter : length l.rest ≤ length l.bytes;
}

abbrev pub decreases-items : goal.decreases-items
decreases-items g l = length l.rest
