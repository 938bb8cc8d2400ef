use Rattle.write_back.specs.Overlay.{line_key}
use Rattle.write_back.specs.Packed.{in_bytes}
use Rattle.write_back.proofs.Known.{known_of, known_written}
use Rattle.write_back.proofs.Runs.{on_ok}
use Rattle.write_back.proofs.store.Store.put_block.Goals as goal

pub returns-clause-written : goal.returns-clause-written
returns-clause-written g c =
    let w = c.args.self.now.writer in
    on_ok c.put_block.result _ _ (λ told b is long formed. (
    let had = known_of w c.args.self.now.written (g.F.Folder.draft_bytes c.args.self.now.draft) b is in
    let now = told b had.0 long formed in (
      now.0,
      known_written w c.args.self.now.written c.mark.new.self (line_key c.args.band c.args.block) (in_bytes w c.args.bytes.now) (g.F.Folder.draft_bytes c.put_block.new.draft) b now.0 had.1 c.mark.ensures.here c.mark.ensures.others now.2 now.1,
      now.2,
    ))) c.put_block.ensures.told
