-- What stands in front of a text, and what is behind it.
use Rattle.std.specs.Prelude.{ℕ, Bool, false, List, ◌<◌, length, Result}
use Rattle.lists_and_answers.specs.Answers.{◌>>=◌}
use Rattle.vrt_markup.specs.Items.{less_than, option_case, has_first, byte_at, bad, comment, run, open_tag, close_tag}
use Rattle.vrt_markup.specs.Items.{item_at, Tag}
use Rattle.vrt_markup.specs.Items as items
use Rattle.vrt_markup.specs.declared.fault.VrtFault.{VrtFault}
use Rattle.vrt_markup.specs.Tree.{space, Root, root_item}
use Rattle.vrt_markup.specs.Forest.{Forest}

-- whether a `<` and a name stand in front
abbrev pub opens_name : List ℕ → Bool
opens_name text = option_case (byte_at less_than text) false has_first

-- An item takes a byte at least.
abbrev pub IsShorter : items.Item → List ℕ → Type 0
IsShorter bad text = Unit {0}
IsShorter (comment rest) text = length rest < length text
IsShorter (run front rest) text = length rest < length text
IsShorter (open_tag tag rest) text = length rest < length text
IsShorter (close_tag name rest) text = length rest < length text

-- the same behind comments and white space
abbrev pub root_behind : ℕ → List ℕ → Result Root VrtFault
root_behind total bytes = space total bytes >>= λ start. root_item total start (item_at start)

-- the parts so far with a child element
abbrev pub stepped : {S : Type 0} → (S → ℕ → Tag → Forest → Result S VrtFault) → Result S VrtFault → ℕ → Tag → Forest →
    Result S VrtFault
stepped step kept place tag inside = kept >>= λ s. step s place tag inside
