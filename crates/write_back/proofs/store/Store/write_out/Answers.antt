use Rattle.std.proofs.Common.{ap, sym, subst, ◌∙◌}
use Rattle.write_back.specs.declared.forms.Writer.{Writer}
use Rattle.write_back.specs.Overlay.{IsLine}
use Rattle.write_back.specs.Stores.{IsBlockWritten}
use Rattle.write_back.specs.Unwritten.{known}
use Rattle.write_back.proofs.Known.{known_of, known_written}
use Rattle.write_back.proofs.Lines.{line_is}
use Rattle.write_back.proofs.Runs.{on_ok}
use Rattle.write_back.proofs.store.Store.write_out.Goals as goal

pub write_block-requires-clause-line : goal.write_block-requires-clause-line
write_block-requires-clause-line g c κs within = subst (λ k. IsLine c.args.self.now.writer k c.args.block.now) (sym (line_is c.args.key c.requires.line.dataset_is)) c.requires.line

pub returns-clause-written : goal.returns-clause-written
returns-clause-written g c =
    let w = c.args.self.now.writer in
    on_ok c.write_block.result _ _ (λ told b is long formed. (
    let had = known_of w c.args.self.now.written (g.F.Folder.draft_bytes c.args.self.now.draft) b is in
    let now = told b had.0 long formed in
    let put = subst (λ k. IsBlockWritten w k c.args.block.now.samples b now.0) (line_is c.args.key c.requires.line.dataset_is) now.2 in (
      now.0,
      ap (λ (v : Writer). known v c.mark.new.self (g.F.Folder.draft_bytes c.write_block.new.draft)) c.write_block.ensures.same
          ∙ known_written w c.args.self.now.written c.mark.new.self c.args.key c.args.block.now.samples (g.F.Folder.draft_bytes c.write_block.new.draft) b now.0 had.1 c.mark.ensures.here c.mark.ensures.others put now.1,
      put,
    ))) c.write_block.ensures.told
