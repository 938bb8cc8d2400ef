use Rattle.std.proofs.Common.{◌≡◌, ap, sym, ◌∙◌}
use Rattle.write_back.specs.declared.forms.Writer.{Writer}
use Rattle.write_back.specs.Unwritten.{known}
use Rattle.write_back.proofs.Cleared.{zero_line, zero_samples}
use Rattle.write_back.proofs.Known.{known_of, known_told}
use Rattle.write_back.proofs.Runs.{on_ok}
use Rattle.write_back.proofs.store.Store.fetch.Goals as goal

pub returns-then-not-is_written-clause-line : goal.returns-then-not-is_written-clause-line
returns-then-not-is_written-clause-line g c =
    zero_line c.args.self.now.writer c.args.band c.args.y c.clear.new.block c.requires.band c.requires.line (c.clear.ensures.kind ∙ c.requires.kind) (c.clear.ensures.count ∙ c.requires.room) c.clear.ensures.zeros

pub returns-then-not-is_written-clause-told : goal.returns-then-not-is_written-clause-told
returns-then-not-is_written-clause-told g c = λ b is long.
    let had = known_of c.args.self.now.writer c.args.self.now.written (g.F.Folder.draft_bytes c.args.self.now.draft) b is in
    zero_samples c.args.self.now.writer b c.args.band c.args.y c.clear.new.block.samples (c.clear.ensures.count ∙ c.requires.room) c.clear.ensures.zeros
    (had.1 c.args.band c.args.y c.requires.band c.requires.line (sym c.is_written.ensures.written ∙ c.if-not-is_written.true))

pub returns-clause-told : goal.returns-clause-told
returns-clause-told g c =
    on_ok c.read_block.result _ _ (λ got b is long. got b (known_told c.args.self.now.writer c.args.self.now.written (g.F.Folder.draft_bytes c.args.self.now.draft) b is) long) c.read_block.ensures.told

pub returns-clause-bytes : goal.returns-clause-bytes
returns-clause-bytes g c =
    ap (λ (v : Writer). known v c.args.self.now.written (g.F.Folder.draft_bytes c.read_block.new.draft)) c.read_block.ensures.same
    ∙ ap (known c.args.self.now.writer c.args.self.now.written) c.read_block.ensures.bytes
