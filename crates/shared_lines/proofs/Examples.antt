-- Lines and events that are worked out by computing alone.
use Rattle.std.proofs.Common.{◌≡◌, ℕ, [], ◌∷◌, List, Option, refl, arith}
use Rattle.outside.specs.Outside.{Files}
use Rattle.catalog.specs.Drivers.{Dataset}
use Rattle.band_blocks.specs.declared.key.BlockKey.{BlockKey}
use Rattle.band_blocks.specs.Blocks.{BlockView}
use Rattle.band_blocks.specs.Contents.{IsBlock}
use Rattle.shared_lines.specs.Events.{Line, empty, taken, held, Kind, look, leave, take, put, done, Event, key_line_of, opening, Step, Leads}

key_at : ℕ → BlockKey
key_at block = record { dataset = 0; band = 0; block = block }

at_one : Kind → Event
at_one kind = record { at = 1; kind = kind }

-- blocks 1 and 5 share a line of four
blocks_share : key_line_of 4 (key_at 1) ≡ key_line_of 4 (key_at 5)
unfolding key_at
blocks_share = refl

-- a line is taken and written, looked at and left
used_once : (told : Option Files) (cat : List Dataset) (block : BlockView) → IsBlock told cat (key_at 1) block
    → Leads told cat 2 (opening 2) (at_one take ∷ at_one (put (key_at 1) block) ∷ at_one (look (key_at 1) block) ∷ at_one leave ∷ []) (empty ∷ held (key_at 1) block 0 ∷ [])
unfolding key_at at_one
used_once told cat block is = (
  empty ∷ taken ∷ [],
  record { line = empty; next = taken; here = refl; changes = refl; after = refl },
  (
    empty ∷ held (key_at 1) block 0 ∷ [],
    record { line = taken; next = held (key_at 1) block 0; here = refl; changes = ((is, refl), refl); after = refl },
    (
      empty ∷ held (key_at 1) block 1 ∷ [],
      record { line = held (key_at 1) block 0; next = held (key_at 1) block 1; here = refl; changes = (refl, refl, omega arith, refl); after = refl },
      (
        empty ∷ held (key_at 1) block 0 ∷ [],
        record { line = held (key_at 1) block 1; next = held (key_at 1) block 0; here = refl; changes = refl; after = refl },
        refl,
      ),
    ),
  ),
)
