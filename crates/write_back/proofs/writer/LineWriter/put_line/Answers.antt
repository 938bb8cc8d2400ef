use Rattle.std.proofs.Common.{◌≡◌, ◌<◌, ◌*◌, List, ℕ, Some, ap, sym, subst, ◌∙◌, arith, length, map}
use Rattle.std.specs.Prelude.{OnOk}
use Rattle.std.specs.List.{range_with_len}
use Rattle.esri_hdr.specs.Head.{Head, sample_len}
use Rattle.interleaved_raw.specs.Raw.{needed_of, strided_at}
use Rattle.write_back.specs.Pieces.{planes_of, spots_of}
use Rattle.write_back.specs.Spots.{plain_of, IsRunWritten}
use Rattle.write_back.proofs.writer.LineWriter.put_line.Goals as goal

pub put_line_bytes-requires-clause-band : goal.put_line_bytes-requires-clause-band
put_line_bytes-requires-clause-band g c κs within = subst (λ (h : Head). c.args.band < planes_of h) (sym c.self.view_is) c.requires.band

pub put_line_bytes-requires-clause-line : goal.put_line_bytes-requires-clause-line
put_line_bytes-requires-clause-line g c κs within = subst (λ (h : Head). c.args.y < h.size.h) (sym c.self.view_is) c.requires.line

pub put_line_bytes-requires-clause-bytes : goal.put_line_bytes-requires-clause-bytes
put_line_bytes-requires-clause-bytes g c κs within = c.requires.bytes ∙ ap (λ (h : Head). spots_of h * sample_len h.kind) (sym c.self.view_is)

pub put_line_bytes-requires-clause-long : goal.put_line_bytes-requires-clause-long
put_line_bytes-requires-clause-long g c κs within = c.requires.long ∙ ap needed_of (sym c.self.view_is)

pub returns-clause-told : goal.returns-clause-told
returns-clause-told g c =
    subst (λ (h : Head). OnOk c.put_line_bytes.result ((b : List ℕ) → g.F.Folder.draft_bytes c.args.draft.now ≡ Some b → length b ≡ needed_of h → (d : List ℕ) × (g.F.Folder.draft_bytes c.put_line_bytes.new.draft ≡ Some d)
    × IsRunWritten h c.args.band c.args.y 0 (spots_of h) (map (strided_at (plain_of h) c.args.bytes.now) (range_with_len 0 (spots_of h))) b d)) c.self.view_is c.put_line_bytes.ensures.told

pub returns-clause-calls : goal.returns-clause-calls
returns-clause-calls g c = omega (arith, c.put_line_bytes.ensures.calls)
