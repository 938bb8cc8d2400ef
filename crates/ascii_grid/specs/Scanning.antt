-- What the steps of a scanner and of a row say, and what holds where memory is refused.
use Rattle.std.specs.Prelude.{ℕ, ℤ, ◌||◌, List, codes, Option, None, Result, Ok, Err, if◌then◌else◌, Bool, ◌&&◌, ◌≡◌}
use Rattle.std.specs.Prelude.{◌⊎◌, ◌*◌, ◌==◌, pos, ◌-◌, ◌++◌, length, take, replicate}
use Rattle.std.specs.List.{fold}
use Rattle.lists_and_answers.specs.Texts.{same_letters}
use Rattle.lists_and_answers.specs.Answers.{◌>>=◌}
use Rattle.geotransform.specs.Limits.{longest_decimal}
use Rattle.geotransform.specs.Decimal.{is_decimal}
use Rattle.ascii_grid.specs.declared.faults.GridFault.{GridFault}
use Rattle.ascii_grid.specs.declared.faults.GridFault.TheVariants.{BadToken, Memory, TooFew}
use Rattle.ascii_grid.specs.Values.{is_value, is_whole_text, whole_value}
use Rattle.ascii_grid.specs.Tokens.{Token}
use Rattle.ascii_grid.specs.Scan.{Read, add_token, ended, Scanned}
use Rattle.ascii_grid.specs.declared.head_parts.Stage.{Stage}
use Rattle.ascii_grid.specs.declared.head_parts.Shape.{Shape}
use Rattle.ascii_grid.specs.declared.head_parts.Stage.TheVariants.{AtKey, AtValue, InBody}
use Rattle.ascii_grid.specs.Keys.{shape_of}
use Rattle.ascii_grid.specs.Grid.{Head, head_with}
use Rattle.ascii_grid.specs.Row.{Row}

-- The most bytes of a token.
abbrev pub longest_token : ℕ
longest_token = longest_decimal

-- a NODATA that is no whole number
abbrev pub other_nodata : ℕ → List ℕ → Result (Option ℤ) GridFault
other_nodata at text = if is_decimal text || same_letters text (codes "nan") then Ok None else Err (BadToken at)

-- whether a text is a value of the body
abbrev pub has_value : List ℕ → Bool
has_value text = is_whole_text text && is_value (whole_value text)

-- one is the other, unless memory ran out
abbrev pub Reaches : {A : Type 0} → Result A GridFault → Result A GridFault → Type 0
Reaches got want = (got ≡ Err Memory) ⊎ (got ≡ want)

abbrev pub add_tokens : Result Read GridFault → List Token → Result Read GridFault
add_tokens r ts = fold (λ (s : Result Read GridFault) t. s >>= λ r. add_token r t) r ts

abbrev pub with_rows : Result Stage GridFault → List ℕ → Result Read GridFault
with_rows (Ok stage) rows = Ok (record { stage = stage; rows = rows })
with_rows (Err f) rows = Err f

abbrev pub with_read : Result (Unit {0}) GridFault → Read → Result Read GridFault
with_read (Ok t) read = Ok read
with_read (Err f) read = Err f

-- what a body of n tokens says
abbrev pub body_closed : Shape → ℕ → Result Shape GridFault
body_closed s n = if n == s.w * s.h then Ok s else Err TooFew

-- what the head and the body say where the text ends here
unfoldable pub closed : Stage → Result Shape GridFault
closed (AtKey f) = do
  s ← shape_of f
  body_closed s 0
closed (AtValue f k) = do
  s ← shape_of f
  body_closed s 0
closed (InBody s n x) = body_closed s n

unfoldable pub finished : Read → Result Head GridFault
finished r = do
  s ← closed r.stage
  Ok (head_with s r.rows)

-- the answer behind all bytes
abbrev pub grid_after : Scanned → Result Head GridFault
grid_after s = (do
  s ← s
  r ← ended s
  finished r)

-- what is missing is 0
abbrev pub padded : Row → List ℤ
padded r = take r.filled r.out ++ replicate (length r.out - r.filled) (pos 0)
