use Rattle.std.proofs.Common.{◌≡◌, refl, ap, sym, ◌∙◌, arith}
use Rattle.block_cache.specs.Entries.{PoolView, held_at}
use Rattle.block_cache.specs.Spreads.{IsSpreadInto}
use Rattle.write_back.specs.Overlay.{line_key}
use Rattle.write_back.specs.Stores.{IsLineSet}
use Rattle.write_back.specs.Seen.{state_of}
use Rattle.write_back.proofs.MetColumns.{dirty_patched}
use Rattle.write_back.proofs.Runs.{on_ok}
use Rattle.write_back.proofs.States.{held_range, held_room, some_of, none_of, spread_line, patched_sound, patched_changes, set_changes, serves_as, serves_more, serves_read, serves_trans, serves_unwritten, changes_from, set_as}
use Rattle.write_back.proofs.store.Store.put.Goals as goal

pub patch_spread-requires-clause-within : goal.patch_spread-requires-clause-within
patch_spread-requires-clause-within g c =
    let h = c.args.self.now.writer in
    held_room h (line_key c.args.spot.band c.args.spot.y) c.args.spot.x c.args.spot.stride c.args.samples.now (held_at (line_key c.args.spot.band c.args.spot.y) c.args.self.now.pool.entries) (λ e is. c.requires.sound.lines (line_key c.args.spot.band c.args.spot.y) e is) c.requires.room

pub patch_spread-requires-clause-range : goal.patch_spread-requires-clause-range
patch_spread-requires-clause-range g c =
    let h = c.args.self.now.writer in
    held_range h (line_key c.args.spot.band c.args.spot.y) c.args.samples.now (held_at (line_key c.args.spot.band c.args.spot.y) c.args.self.now.pool.entries) (λ e is. c.requires.sound.lines (line_key c.args.spot.band c.args.spot.y) e is) c.requires.range

pub returns-then-patch_spread-clause-serves : goal.returns-then-patch_spread-clause-serves
returns-then-patch_spread-clause-serves g c =
    let h = c.args.self.now.writer in
    let p = c.args.self.now.pool in
    let found = some_of (held_at (line_key c.args.spot.band c.args.spot.y) c.args.self.now.pool.entries) (sym c.patch_spread.ensures.held ∙ c.if-patch_spread.true) in
    let held = found.1 in
    let put : IsSpreadInto (line_key c.args.spot.band c.args.spot.y) c.args.spot.x c.args.spot.stride c.args.samples.now found.0 c.args.self.now.pool c.patch_spread.new.self = rw held at c.patch_spread.ensures.patched in
    let line = spread_line h (line_key c.args.spot.band c.args.spot.y) found.0.block put.block c.args.spot.x c.args.spot.stride c.args.samples.now (c.requires.sound.lines (line_key c.args.spot.band c.args.spot.y) found.0 held) put.kind put.spread c.requires.range in
    serves_unwritten h _ p c.patch_spread.new.self _ _ _ _ _ _ _ (patched_sound h p c.patch_spread.new.self (line_key c.args.spot.band c.args.spot.y) found.0 put.block c.requires.sound held put.is c.patch_spread.ensures.valid line) (ap (λ (r : PoolView). r.capacity) put.is)

pub returns-then-patch_spread-clause-changed : goal.returns-then-patch_spread-clause-changed
returns-then-patch_spread-clause-changed g c =
    let h = c.args.self.now.writer in
    let p = c.args.self.now.pool in
    let found = some_of (held_at (line_key c.args.spot.band c.args.spot.y) c.args.self.now.pool.entries) (sym c.patch_spread.ensures.held ∙ c.if-patch_spread.true) in
    let held = found.1 in
    let put : IsSpreadInto (line_key c.args.spot.band c.args.spot.y) c.args.spot.x c.args.spot.stride c.args.samples.now found.0 c.args.self.now.pool c.patch_spread.new.self = rw held at c.patch_spread.ensures.patched in
    record {
      long = refl;
      told = λ b has. patched_changes h p c.patch_spread.new.self (line_key c.args.spot.band c.args.spot.y) found.0 c.args.spot.x c.args.spot.stride c.args.samples.now b _ c.requires.sound held put c.requires.room has;
    }

pub returns-in_err-block-clause-serves : goal.returns-in_err-block-clause-serves
returns-in_err-block-clause-serves g c =
    let h = c.args.self.now.writer in
    let p = c.args.self.now.pool in
    let absent = none_of (held_at (line_key c.args.spot.band c.args.spot.y) c.args.self.now.pool.entries) (sym c.patch_spread.ensures.held ∙ c.if-patch_spread.false) in
    let same : c.patch_spread.new.self ≡ p = c.patch_spread.ensures.absent absent in
    let w = c.line_with.ensures in
    serves_more h 0 0 1 0 _ _ (omega arith) (omega arith) (serves_read h _ _ p _ _ _ _ _ _ _ _ _ _ _ _ _ _ c.requires.sound (w.pool ∙ same) w.names w.name w.reads w.calls w.cause.later)

pub returns-clause-serves : goal.returns-clause-serves
returns-clause-serves g c =
    let h = c.args.self.now.writer in
    let p = c.args.self.now.pool in
    let absent = none_of (held_at (line_key c.args.spot.band c.args.spot.y) c.args.self.now.pool.entries) (sym c.patch_spread.ensures.held ∙ c.if-patch_spread.false) in
    let same : c.patch_spread.new.self ≡ p = c.patch_spread.ensures.absent absent in
    let w = c.line_with.ensures in
    serves_trans h 0 0 1 0 _ _ _ (serves_read h _ _ p _ _ _ _ _ _ _ _ _ _ _ _ _ _ c.requires.sound (w.pool ∙ same) w.names w.name w.reads w.calls w.cause.later) (serves_as _ _ 1 0 _ _ w.head c.keep.ensures.serves)

pub returns-clause-changed : goal.returns-clause-changed
returns-clause-changed g c =
    let h = c.args.self.now.writer in
    let p = c.args.self.now.pool in
    let key = line_key c.args.spot.band c.args.spot.y in
    let absent = none_of (held_at (line_key c.args.spot.band c.args.spot.y) c.args.self.now.pool.entries) (sym c.patch_spread.ensures.held ∙ c.if-patch_spread.false) in
    let same : c.patch_spread.new.self ≡ p = c.patch_spread.ensures.absent absent in
    let w = c.line_with.ensures in
    on_ok c.keep.result _ _ (λ set.
    let before = state_of g.F.Folder c.args.folder.now c.args.self.now c.args.writes.now in
    let from = changes_from h (IsLineSet h (line_key c.args.spot.band c.args.spot.y) c.in_ok-block.block.samples) before _ _ (w.pool ∙ same) w.bytes w.len (set_as _ _ (line_key c.args.spot.band c.args.spot.y) c.in_ok-block.block.samples _ _ w.head set) in
    record {
      long = from.long;
      told = λ b has. (
          let now = from.told b has in
          (now.0, now.1, set_changes h p c.keep.new.self.pool (line_key c.args.spot.band c.args.spot.y) c.args.spot.x c.args.spot.stride c.args.samples.now c.in_ok-block.block.samples b now.0 refl absent c.requires.room (c.in_ok-block.ensures.told b has.is has.long) now.2, now.3)
          );
    }) c.keep.ensures.changed

pub returns-then-patch_spread-clause-dirty : goal.returns-then-patch_spread-clause-dirty
returns-then-patch_spread-clause-dirty g c =
    let p = c.args.self.now.pool in
    let found = some_of (held_at (line_key c.args.spot.band c.args.spot.y) c.args.self.now.pool.entries) (sym c.patch_spread.ensures.held ∙ c.if-patch_spread.true) in
    let held = found.1 in
    let put : IsSpreadInto (line_key c.args.spot.band c.args.spot.y) c.args.spot.x c.args.spot.stride c.args.samples.now found.0 c.args.self.now.pool c.patch_spread.new.self = rw held at c.patch_spread.ensures.patched in
    dirty_patched p c.patch_spread.new.self (line_key c.args.spot.band c.args.spot.y) found.0 put.block c.requires.sound.valid held put.is
