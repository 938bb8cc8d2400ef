use Rattle.std.proofs.Common.{◌≡◌, ◌<◌, List, ℕ, Some, ap, sym, subst, ◌∙◌, arith, length}
use Rattle.std.specs.Prelude.{OnOk}
use Rattle.esri_hdr.specs.Head.{Head}
use Rattle.interleaved_raw.specs.Raw.{needed_of}
use Rattle.write_back.specs.Pieces.{line_calls, planes_of, spots_of}
use Rattle.write_back.specs.Spots.{IsRunWritten}
use Rattle.write_back.proofs.writer.LineWriter.write_line.Goals as goal

pub write_pieces-requires-clause-band : goal.write_pieces-requires-clause-band
write_pieces-requires-clause-band g c κs within = subst (λ (h : Head). c.args.band < planes_of h) (sym c.self.view_is) c.requires.band

pub write_pieces-requires-clause-line : goal.write_pieces-requires-clause-line
write_pieces-requires-clause-line g c κs within = subst (λ (h : Head). c.args.y < h.size.h) (sym c.self.view_is) c.requires.line

pub write_pieces-requires-clause-some : goal.write_pieces-requires-clause-some
write_pieces-requires-clause-some g c κs within = c.self.invariant.some

pub write_pieces-requires-clause-within : goal.write_pieces-requires-clause-within
write_pieces-requires-clause-within g c κs within = c.self.invariant.within

pub write_pieces-requires-clause-long : goal.write_pieces-requires-clause-long
write_pieces-requires-clause-long g c κs within = c.requires.long ∙ ap needed_of (sym c.self.view_is)

pub write_pieces-requires-clause-kind : goal.write_pieces-requires-clause-kind
write_pieces-requires-clause-kind g c κs within = c.requires.kind ∙ ap (λ (h : Head). h.kind) (sym c.self.view_is)

pub write_pieces-requires-clause-room : goal.write_pieces-requires-clause-room
write_pieces-requires-clause-room g c κs within = c.requires.room ∙ ap spots_of (sym c.self.view_is)

pub returns-clause-told : goal.returns-clause-told
returns-clause-told g c =
    subst (λ (h : Head). OnOk c.write_pieces.result ((b : List ℕ) → g.F.Folder.draft_bytes c.args.draft.now ≡ Some b → length b ≡ needed_of h → (d : List ℕ) × (g.F.Folder.draft_bytes c.write_pieces.new.draft ≡ Some d) × IsRunWritten h c.args.band c.args.y 0 (spots_of h) c.args.block.now.samples b d))
    c.self.view_is c.write_pieces.ensures.told

pub returns-clause-calls : goal.returns-clause-calls
returns-clause-calls g c = omega (arith, c.write_pieces.ensures.calls, c.self.invariant.few, ap line_calls c.self.view_is)
