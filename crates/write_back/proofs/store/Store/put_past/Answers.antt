use Rattle.std.proofs.Common.{ap, arith}
use Rattle.block_cache.specs.Entries.{PoolView}
use Rattle.write_back.specs.Packed.{in_bytes}
use Rattle.write_back.specs.Seen.{known_in, state_of}
use Rattle.write_back.proofs.Past.{apart_bands, past_met, past_window}
use Rattle.write_back.proofs.Runs.{on_ok}
use Rattle.write_back.proofs.States.{on_both, serves_taken}
use Rattle.write_back.proofs.store.Store.put_past.Goals as goal

pub put_block-requires-clause-band : goal.put_block-requires-clause-band
put_block-requires-clause-band g c κs within = omega (arith, apart_bands c.args.self.now.writer c.requires.apart, c.requires.band)

pub returns-clause-serves : goal.returns-clause-serves
returns-clause-serves g c =
    let o = c.put_block.ensures in
    serves_taken c.args.self.now.writer _ _ c.args.self.now.pool c.put_block.new.self.pool (known_in g.F.Folder.draft_bytes c.args.self.now) (known_in g.F.Folder.draft_bytes c.put_block.new.self) (g.F.Folder.draft_len c.args.self.now.draft) (g.F.Folder.draft_len c.put_block.new.self.draft)
    _ _ _ _ _ _ _ _ _ _ (rw o.pool c.requires.sound) (ap (λ (r : PoolView). r.capacity) o.pool) o.names o.name o.reads o.cause.later o.calls o.one

pub returns-clause-changed : goal.returns-clause-changed
returns-clause-changed g c =
    let o = c.put_block.ensures in
    on_both c.put_block.result _ _ _ (λ written len. record {
      long = len;
      told = λ b has. (
          let now = written b has.is has.long has.formed in
          past_window c.args.self.now.writer c.args.self.now.pool c.put_block.new.self.pool c.args.band c.args.block c.args.bytes.now b now.0 _ _ c.requires.apart o.pool c.requires.empty has now.2 now.1
          );
    }) o.written o.len

pub returns-clause-met : goal.returns-clause-met
returns-clause-met g c =
    on_ok c.put_block.result _ _ (λ written. past_met c.args.self.now.writer c.args.band c.args.block (in_bytes c.args.self.now.writer c.args.bytes.now) (state_of g.F.Folder c.args.folder.now c.args.self.now c.args.writes.now)
    (state_of g.F.Folder c.put_block.new.folder c.put_block.new.self c.put_block.new.writes) written) c.put_block.ensures.written
