-- The scanner as a machine: what each byte changes.
use Rattle.std.specs.Prelude.{ℕ, Bool, true, false, ◌+◌, ◌-◌, ◌*◌, List, [], ◌∷◌, ◌++◌, length, take, Option, Some}
use Rattle.std.specs.Prelude.{None, Result, Ok, Err, ok_or, nat_lt, ◌<◌, ◌≤◌, ◌≡◌, ◌⊎◌, ◌==◌, if◌then◌else◌, min}
use Rattle.std.specs.List.{fold}
use Rattle.lists_and_answers.specs.Answers.{◌>>=◌}
use Rattle.lists_and_answers.specs.Texts.{is_white}
use Rattle.ascii_grid.specs.declared.faults.GridFault.{GridFault}
use Rattle.ascii_grid.specs.declared.faults.GridFault.TheVariants.{BadToken, TooMany, Memory}
use Rattle.ascii_grid.specs.declared.head_parts.Shape.{Shape}
use Rattle.ascii_grid.specs.declared.head_parts.Stage.{Stage}
use Rattle.ascii_grid.specs.declared.head_parts.Stage.TheVariants.{AtKey, AtValue, InBody}
use Rattle.ascii_grid.specs.Tokens.{Token, next, most_kept}
use Rattle.ascii_grid.specs.Values.{is_body_start, value_in}
use Rattle.ascii_grid.specs.Keys.{key_of, with_value, shape_of}
use Rattle.ascii_grid.specs.Grid.{nothing, grid_head}

-- a token of the body, n of which were read, the last of them before column x: what is read then, and whether the token
-- is the first of a row
unfoldable pub body_step : Shape → ℕ → ℕ → Token → Result (Stage × Bool) GridFault
body_step s n x t = if n == s.w * s.h then Err (TooMany t.at) else (do
  v ← value_in t.at t.text
  Ok (InBody s (n + 1) (if x + 1 == s.w then 0 else x + 1), x == 0))

-- what a token changes
unfoldable pub step : Stage → Token → Result (Stage × Bool) GridFault
step (AtKey f) t = if is_body_start t.text then (do
  s ← shape_of f
  body_step s 0 0 t) else (do
    k ← ok_or (key_of t.text) (BadToken t.at)
    Ok (AtValue f k, false))
step (AtValue f k) t = do
  g ← with_value f k t
  Ok (AtKey g, false)
step (InBody s n x) t = body_step s n x t

-- what was read of whole tokens: the stage, and the places of the rows
pub record Read : Type 0 where
  pub stage : Stage
  pub rows : List ℕ

abbrev pub add_token : Read → Token → Result Read GridFault
add_token r t = do
  next ← step r.stage t
  Ok (record { stage = next.0; rows = if next.1 then r.rows ++ t.at ∷ [] else r.rows })

-- the token that is open: its first bytes, none where none is open
pub record Open : Type 0 where
  pub at : ℕ
  pub begun : ℕ
  pub text : List ℕ

abbrev pub is_open : List ℕ → Bool
is_open [] = false
is_open (c ∷ cs) = true

abbrev pub push : List ℕ → ℕ → List ℕ
push text c = if nat_lt (length text) most_kept then text ++ c ∷ [] else text

pub record State : Type 0 where
  pub held : Open
  pub read : Read

-- a byte inside a token
abbrev pub opened : Open → ℕ → Open
opened o c = record { at = next o.at; begun = if is_open o.text then o.begun else o.at; text = push o.text c }

abbrev pub passed : Open → Open
passed o = record { at = next o.at; begun = o.begun; text = [] }

-- behind a token of n bytes, whose first byte has this place, and a byte of white space
abbrev pub passed_over : ℕ → ℕ → Open
passed_over at n = record { at = min (at + n + 1) 18446744073709551615; begun = at; text = [] }

-- what was read where the text ends here
abbrev pub ended : State → Result Read GridFault
ended s = if is_open s.held.text then add_token s.read (record { at = s.held.begun; text = s.held.text }) else Ok s.read

-- what a byte changes
unfoldable pub add_byte : State → ℕ → Result State GridFault
add_byte s c = if is_white c then (do
  r ← ended s
  Ok (record { held = passed s.held; read = r })) else Ok (record { held = opened s.held c; read = s.read })

abbrev pub Scanned : Type 0
Scanned = Result State GridFault

abbrev pub then_byte : Scanned → ℕ → Scanned
then_byte s c = s >>= λ s. add_byte s c

-- the state behind these bytes
abbrev pub fed : Scanned → List ℕ → Scanned
fed s bytes = fold then_byte s bytes

abbrev pub start : State
start = record { held = record { at = 0; begun = 0; text = [] }; read = record { stage = AtKey nothing; rows = [] } }

abbrev pub scan : List ℕ → Scanned
scan bytes = fed (Ok start) bytes

-- n values and the places of their rows, of which the next value is in column x
pub record IsBody (s : Shape) (n x : ℕ) (rows : List ℕ) : Type 0 where
  pub few : n ≤ s.w * s.h
  pub column : x < s.w
  pub begun : length rows * s.w ≡ n + (if x == 0 then 0 else s.w - x)

-- what a stage and the places of the rows keep
abbrev pub AreRowsAt : Stage → List ℕ → Type 0
AreRowsAt (AtKey f) rows = rows ≡ []
AreRowsAt (AtValue f k) rows = rows ≡ []
AreRowsAt (InBody s n x) rows = IsBody s n x rows

-- how a scanner's fields stand for what was scanned
abbrev pub scanned : Option GridFault → Open → Stage → List ℕ → Scanned
scanned None o stage rows = Ok (record { held = o; read = record { stage = stage; rows = rows } })
scanned (Some f) o stage rows = Err f

abbrev pub answer_of : Scanned → Result (Unit {0}) GridFault
answer_of (Ok s) = Ok tt
answer_of (Err f) = Err f

-- the scanner has read this text, if memory sufficed
abbrev pub Reads : Scanned → List ℕ → Type 0
Reads s text = (s ≡ Err Memory) ⊎ (s ≡ scan text)

-- the fault is want of memory, or that of the text, however it goes on
abbrev pub IsFaultOf : GridFault → List ℕ → Type 0
IsFaultOf f text = (f ≡ Memory) ⊎ ((more : List ℕ) → grid_head (text ++ more) ≡ Err f)

-- the scanner was fed a file up to a place
pub record HasScanned (s : Scanned) (file : List ℕ) (at : ℕ) : Type 0 where
  pub reads : Reads s (take at file)

-- the fault is want of memory, or that of a file
abbrev pub IsFaultIn : GridFault → List ℕ → Type 0
IsFaultIn f file = (f ≡ Memory) ⊎ (grid_head file ≡ Err f)
