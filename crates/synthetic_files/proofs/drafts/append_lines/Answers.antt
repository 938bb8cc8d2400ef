use Rattle.std.proofs.Common.{◌∙◌, ap, sym, List, ℕ, ◌++◌, Some, arith}
use Rattle.std.specs.Prelude.{flat_map}
use Rattle.std.specs.List.{range_with_len}
use Rattle.synthetic_rasters.specs.Tiles.{line_bytes}
use Rattle.synthetic_rasters.proofs.Lines.{pieces_more}
use Rattle.synthetic_files.proofs.drafts.append_lines.Goals as goal

pub loop-line-preserved : goal.loop-line-preserved
loop-line-preserved g c = record {
  held = λ empty. c.in_ok-append.ensures.ok _ (c.loop-line.invariant.held empty)
      ∙ ap (λ (t : List ℕ). Some (flat_map (line_bytes c.args.side c.args.tile) (range_with_len 0 c.loop-line.line) ++ t))
      (c.bytes.ensures.bytes ∙ c.fill.ensures.bytes ∙ ap (λ (s : ℕ). line_bytes s c.args.tile c.loop-line.line) c.loop-line.invariant.side)
      ∙ ap Some (sym (pieces_more (line_bytes c.args.side c.args.tile) c.loop-line.line));
  name = c.in_ok-append.ensures.name ∙ c.loop-line.invariant.name;
  side = c.fill.ensures.side ∙ c.loop-line.invariant.side;
  names = c.in_ok-append.ensures.names ∙ c.loop-line.invariant.names;
  writes = c.in_ok-append.ensures.write_calls ∙ c.loop-line.invariant.writes;
  later = omega (arith, c.in_ok-append.ensures.cause.later, c.loop-line.invariant.later);
}
