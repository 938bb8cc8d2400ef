use Rattle.std.proofs.Common.{false, subst}
use Rattle.band_blocks.specs.Contents.{IsBlock}
use Rattle.block_cache.specs.Entries.{entry_of}
use Rattle.nearest_window.proofs.Service.{serves_kept, serves_same, serves_still}
use Rattle.nearest_window.proofs.Keys.{held_made}
use Rattle.nearest_window.proofs.lane.Lane.takes_shown.Goals as goal

pub returns-in-Ok-clause-serves : goal.returns-in-Ok-clause-serves
returns-in-Ok-clause-serves g c = λ loads.
    let shown = rw c.in-Some.is at c.shown_in.ensures.block in
    let whole : IsBlock (g.F.Folder.names c.args.folder.now) c.args.supply.now.cat.now c.args.key c.in-Some.block = subst (λ told. IsBlock told c.args.supply.now.cat.now c.args.key c.in-Some.block) c.requires.fit.told shown in
    serves_kept g.F.Folder.file_bytes g.F.Folder.file_len c.args.supply.now.cat.now (g.F.Folder.names c.args.folder.now) c.args.self.now c.keep_shown.new.self (g.F.Folder.faults c.args.folder.now) (g.F.Folder.read_calls c.args.folder.now) (g.F.Folder.write_calls c.args.folder.now) loads c.args.key (entry_of c.in-Some.block false)
    c.requires.fit.ready.right whole (rw c.in-Ok.is at c.keep_shown.ensures.kept) c.keep_shown.ensures.valid c.keep_shown.ensures.made_valid

pub returns-in-Ok-clause-held : goal.returns-in-Ok-clause-held
returns-in-Ok-clause-held g c = λ _. rw c.in-Ok.is at (held_made c.keep_shown.result c.args.self.now c.keep_shown.new.self c.args.key (entry_of c.in-Some.block false) c.keep_shown.ensures.kept)

pub returns-in-Err-clause-serves : goal.returns-in-Err-clause-serves
returns-in-Err-clause-serves g c = λ loads.
    serves_same g.F.Folder.file_bytes g.F.Folder.file_len c.args.supply.now.cat.now (g.F.Folder.names c.args.folder.now) c.args.self.now c.keep_shown.new.self (g.F.Folder.faults c.args.folder.now) (g.F.Folder.read_calls c.args.folder.now) (g.F.Folder.write_calls c.args.folder.now) loads
    c.requires.fit.ready.right (rw c.in-Err.is at c.keep_shown.ensures.refused)

pub returns-in_default-clause-serves : goal.returns-in_default-clause-serves
returns-in_default-clause-serves g c = λ loads. serves_still g.F.Folder c.args.supply.now.cat.now c.args.folder.now c.args.self.now loads c.requires.fit.ready
