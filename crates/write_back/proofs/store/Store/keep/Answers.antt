use Rattle.std.proofs.Common.{◌≡◌, Some, None, true, false, refl, ap, sym, ◌∙◌}
use Rattle.block_cache.specs.Entries.{entry_of, entry_dropped, dropped, PoolView}
use Rattle.block_cache.proofs.Held.{dropped_is_gone}
use Rattle.write_back.proofs.MetColumns.{dirty_admitted, ok_any}
use Rattle.write_back.specs.Overlay.{HoldsDirty}
use Rattle.write_back.proofs.Lines.{settled_none, settled_put}
use Rattle.write_back.proofs.States.{admitted_sound, admitted_changes, serves_unwritten, serves_written, on_both}
use Rattle.write_back.proofs.store.Store.keep.Goals as goal

pub returns-in-Ok-None-clause-serves : goal.returns-in-Ok-None-clause-serves
returns-in-Ok-None-clause-serves g c =
    let h = c.args.self.now.writer in
    let o = c.in-Ok-None.ensures in
    serves_unwritten h _ c.args.self.now.pool c.admit.new.self _ _ _ _ _ _ _ (admitted_sound h c.args.self.now.pool c.admit.new.self c.args.key (entry_of c.args.block true) c.requires.sound o.entries o.valid c.requires.line) (ap (λ (p : PoolView). p.capacity) o.entries)

pub returns-in-Ok-None-clause-changed : goal.returns-in-Ok-None-clause-changed
returns-in-Ok-None-clause-changed g c =
    let h = c.args.self.now.writer in
    let p = c.args.self.now.pool in
    let o = c.in-Ok-None.ensures in
    let none : None ≡ dropped p.capacity c.args.key p.entries = rw c.in-Ok-None.field-0-is at o.dropped in
    record {
      long = refl;
      told = λ b has. admitted_changes h p c.admit.new.self c.args.key (entry_of c.args.block true) b b _ c.requires.sound o.entries o.valid c.requires.line.dataset_is refl has.kept has.long has.formed (settled_none h p.capacity c.args.key p.entries b (sym none)) has.is;
    }

pub write_out-written-requires-clause-line : goal.write_out-written-requires-clause-line
write_out-written-requires-clause-line g c κs within =
    let p = c.args.self.now.pool in
    let o = c.in-Ok-Some.ensures in
    let out : Some (entry_dropped c.in-Ok-Some.last) ≡ dropped p.capacity c.args.key p.entries = rw c.in-Ok-Some.field-0-is at o.dropped in
    let gone = dropped_is_gone p.capacity c.args.key (entry_of c.args.block true) p.entries (entry_dropped c.in-Ok-Some.last) c.requires.sound.valid (sym out) in
    c.requires.sound.lines c.in-Ok-Some.last.key (entry_dropped c.in-Ok-Some.last).1 gone.before

pub returns-in-Ok-Some-clause-serves : goal.returns-in-Ok-Some-clause-serves
returns-in-Ok-Some-clause-serves g c =
    let h = c.args.self.now.writer in
    let p = c.args.self.now.pool in
    let o = c.in-Ok-Some.ensures in
    let w = c.write_out-written.ensures in
    let out : Some (entry_dropped c.in-Ok-Some.last) ≡ dropped p.capacity c.args.key p.entries = rw c.in-Ok-Some.field-0-is at o.dropped in
    let q : c.write_out-written.new.self.pool ≡ c.admit.new.self = w.pool in
    let sound = admitted_sound h p c.admit.new.self c.args.key (entry_of c.args.block true) c.requires.sound o.entries o.valid c.requires.line in
    serves_written h _ _ p c.write_out-written.new.self.pool _ _ _ _ _ _ _ _ _ _ _ _ _ _ c.args.key (entry_dropped c.in-Ok-Some.last) c.requires.sound (rw q sound) (ap (λ (r : PoolView). r.capacity) (q ∙ o.entries)) c.requires.line.dataset_is c.requires.line.band c.requires.line.line c.requires.absent (sym out) w.names w.name w.reads w.cause.later w.calls w.one

pub returns-in-Ok-Some-clause-changed : goal.returns-in-Ok-Some-clause-changed
returns-in-Ok-Some-clause-changed g c =
    let h = c.args.self.now.writer in
    let p = c.args.self.now.pool in
    let o = c.in-Ok-Some.ensures in
    let w = c.write_out-written.ensures in
    let out : Some (entry_dropped c.in-Ok-Some.last) ≡ dropped p.capacity c.args.key p.entries = rw c.in-Ok-Some.field-0-is at o.dropped in
    let gone = dropped_is_gone p.capacity c.args.key (entry_of c.args.block true) p.entries (entry_dropped c.in-Ok-Some.last) c.requires.sound.valid (sym out) in
    let q : c.write_out-written.new.self.pool ≡ c.admit.new.self = w.pool in
    on_both c.write_out-written.result _ _ _ (λ written len. record {
      long = len;
      told = λ b has. (
          let now = written b has.is has.long has.formed in
          admitted_changes h p c.write_out-written.new.self.pool c.args.key (entry_of c.args.block true) b now.0 _ c.requires.sound (q ∙ o.entries) (rw q o.valid) c.requires.line.dataset_is refl has.kept has.long has.formed
          (settled_put h p.capacity c.args.key p.entries b now.0 (entry_dropped c.in-Ok-Some.last) (sym out) gone.before has.kept now.2) now.1
          );
    }) w.written w.len

pub returns-in-Ok-None-clause-dirty : goal.returns-in-Ok-None-clause-dirty
returns-in-Ok-None-clause-dirty g c = let o = c.in-Ok-None.ensures in dirty_admitted c.args.self.now.pool c.admit.new.self c.args.key (entry_of c.args.block true) c.requires.sound.valid o.entries refl

pub returns-in-Ok-Some-clause-dirty : goal.returns-in-Ok-Some-clause-dirty
returns-in-Ok-Some-clause-dirty g c =
    let o = c.in-Ok-Some.ensures in
    ok_any c.write_out-written.result (HoldsDirty c.write_out-written.new.self.pool.entries c.args.key) (dirty_admitted c.args.self.now.pool c.write_out-written.new.self.pool c.args.key (entry_of c.args.block true) c.requires.sound.valid (c.write_out-written.ensures.pool ∙ o.entries) refl)
