-- How many workers make the blocks of an output.
use Rattle.std.specs.Prelude.{ℕ, ◌-◌, nat_le, if◌then◌else◌}
use Rattle.strip_copies.specs.declared.portions.Form.{Form}
use Rattle.strip_copies.specs.declared.portions.Form.TheVariants.{Lines, Pieces, Records}

-- one worker fewer, where more than one remains
abbrev pub one_fewer : ℕ → ℕ
one_fewer workers = if nat_le workers 2 then workers else workers - 1

-- how many of so many workers make a form's blocks: of lines one fewer, since one more thread writes
abbrev pub makers_of : Form → ℕ → ℕ
makers_of Lines workers = one_fewer workers
makers_of Pieces workers = workers
makers_of Records workers = workers
