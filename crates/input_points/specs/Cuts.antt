-- Lines that are cut from the front of a text.
use Rattle.std.specs.Prelude.{◌≡◌, ℕ, ◌+◌, ◌<◌, true, List, ◌∷◌, ◌++◌, length, drop}
use Rattle.std.specs.List.{list_all}
use Rattle.lists_and_answers.specs.Bytes.{line_feed}
use Rattle.input_points.specs.Lines.{is_in_line}

-- the bytes before the first line feed of a text
pub record IsLineIn (line text : List ℕ) : Type 0 where
  pub inside : list_all is_in_line line ≡ true
  pub parts : text ≡ line ++ line_feed ∷ drop (length line + 1) text
  pub within : length line < length text
