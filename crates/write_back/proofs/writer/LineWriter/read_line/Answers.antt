use Rattle.std.proofs.Common.{◌≡◌, ◌<◌, List, ℕ, Some, ap, sym, subst, ◌∙◌, length}
use Rattle.esri_hdr.specs.Head.{Head}
use Rattle.interleaved_raw.specs.Raw.{needed_of}
use Rattle.write_back.specs.Pieces.{planes_of, spots_of}
use Rattle.write_back.specs.Spots.{spots_from}
use Rattle.write_back.proofs.writer.LineWriter.read_line.Goals as goal

pub read_pieces-requires-clause-band : goal.read_pieces-requires-clause-band
read_pieces-requires-clause-band g c κs within = subst (λ (h : Head). c.args.band < planes_of h) (sym c.self.view_is) c.requires.band

pub read_pieces-requires-clause-line : goal.read_pieces-requires-clause-line
read_pieces-requires-clause-line g c κs within = subst (λ (h : Head). c.args.y < h.size.h) (sym c.self.view_is) c.requires.line

pub read_pieces-requires-clause-some : goal.read_pieces-requires-clause-some
read_pieces-requires-clause-some g c κs within = c.self.invariant.some

pub read_pieces-requires-clause-within : goal.read_pieces-requires-clause-within
read_pieces-requires-clause-within g c κs within = c.self.invariant.within

pub read_pieces-requires-clause-long : goal.read_pieces-requires-clause-long
read_pieces-requires-clause-long g c κs within = c.requires.long ∙ ap needed_of (sym c.self.view_is)

pub read_pieces-requires-clause-kind : goal.read_pieces-requires-clause-kind
read_pieces-requires-clause-kind g c κs within = c.requires.kind ∙ ap (λ (h : Head). h.kind) (sym c.self.view_is)

pub read_pieces-requires-clause-room : goal.read_pieces-requires-clause-room
read_pieces-requires-clause-room g c κs within = c.requires.room ∙ ap spots_of (sym c.self.view_is)

pub returns-clause-told : goal.returns-clause-told
returns-clause-told g c =
    subst (λ (h : Head). (b : List ℕ) → g.F.Folder.draft_bytes c.args.draft.now ≡ Some b → length b ≡ needed_of h → c.read_pieces.new.block.samples ≡ spots_from h b c.args.band 0 c.args.y (spots_of h))
    c.self.view_is c.in_ok-read_pieces.ensures.told

pub returns-clause-kind : goal.returns-clause-kind
returns-clause-kind g c = c.read_pieces.ensures.kind ∙ c.requires.kind

pub returns-clause-count : goal.returns-clause-count
returns-clause-count g c = c.read_pieces.ensures.count ∙ c.requires.room
