-- A row that is read in pieces.
use Rattle.std.specs.Prelude.{ℕ, ℤ, pos, Bool, true, false, ◌+◌, ◌-◌, List, [], ◌∷◌, ◌++◌, length, take, drop, map}
use Rattle.std.specs.Prelude.{Result, Ok, Err, nat_lt, if◌then◌else◌, slice_set, ◌≡◌, ◌≤◌, replicate}
use Rattle.std.specs.List.{fold}
use Rattle.lists_and_answers.specs.Texts.{is_white}
use Rattle.ascii_grid.specs.declared.faults.GridFault.{GridFault}
use Rattle.ascii_grid.specs.Tokens.{tokens}
use Rattle.ascii_grid.specs.Values.{value_in}
use Rattle.ascii_grid.specs.Scan.{Open, opened, passed, is_open}

-- the value of a token, 0 where it has none
abbrev pub or_zero : Result ℤ GridFault → ℤ
or_zero (Ok v) = v
or_zero (Err f) = pos 0

abbrev pub value_or_zero : List ℕ → ℤ
value_or_zero text = or_zero (value_in 0 text)

-- the samples of a row, and how many of them were read
pub record Row : Type 0 where
  pub filled : ℕ
  pub out : List ℤ

abbrev pub put : Row → List ℕ → Row
put r text = if nat_lt r.filled (length r.out) then record {
  filled = r.filled + 1;
  out = slice_set r.out r.filled (value_or_zero text);
} else r

-- a row and the token that is open
pub record Reading : Type 0 where
  pub held : Open
  pub row : Row

abbrev pub row_ended : Reading → Row
row_ended s = if is_open s.held.text then put s.row s.held.text else s.row

unfoldable pub row_byte : Reading → ℕ → Reading
row_byte s c = if is_white c then record {
  held = passed s.held;
  row = row_ended s;
} else record { held = opened s.held c; row = s.row }

abbrev pub row_fed : Reading → List ℕ → Reading
row_fed s bytes = fold row_byte s bytes

pub record RowNow : Type 0 where
  pub held : Open
  pub filled : ℕ
  pub over : Bool

abbrev pub reading : RowNow → List ℤ → Reading
reading s out = record { held = s.held; row = record { filled = s.filled; out = out } }

-- the first n values of a text, 0 where it has fewer
abbrev pub row_of : ℕ → List ℕ → List ℤ
row_of n text = take n (map (λ t. value_or_zero t.text) (tokens text) ++ replicate n (pos 0))

abbrev pub fresh : RowNow
fresh = record { held = record { at = 0; begun = 0; text = [] }; filled = 0; over = false }

-- the row has read this text so far, in some pieces, none of which was empty
pub record Fills (s : RowNow) (out : List ℤ) (text : List ℕ) : Type 0 where
  pub before : List ℤ
  pub size : length before ≡ length out
  pub going : s.over ≡ false
  pub read : reading s out ≡ row_fed (reading fresh before) text

-- how many tokens have ended in a text, which begins inside a token or not: one at each white byte behind one that
-- isn't
abbrev pub ended_from : Bool → List ℕ → ℕ
ended_from inside [] = 0
ended_from inside (c ∷ cs) = if is_white c then (if inside then 1 + ended_from false cs else ended_from false cs)
    else ended_from true cs

abbrev pub ended_in : List ℕ → ℕ
ended_in text = ended_from false text

-- the row was given the bytes of a file from one place up to another, in some pieces, none of which was empty
pub record HasRead (s : RowNow) (out : List ℤ) (file : List ℕ) (from at : ℕ) : Type 0 where
  pub forward : from ≤ at
  pub given : Fills s out (take (at - from) (drop from file))
