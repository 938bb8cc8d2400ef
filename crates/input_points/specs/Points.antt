-- What a line says.
use Rattle.std.specs.Prelude.{ℕ, ℤ, List, length, Option, Some, None, nat_lt, ◌==◌, if◌then◌else◌}
use Rattle.lists_and_answers.specs.Texts.{token_at}
use Rattle.geotransform.specs.Decimal.{ticks_of}
use Rattle.input_points.specs.declared.entry.LineKind.{LineKind}
use Rattle.input_points.specs.declared.entry.LineKind.TheVariants.{Blank, Point, Bad}

-- The most bytes of a line that is a point.
abbrev pub longest_line : ℕ
longest_line = 4096

-- the point of two numbers, where both are there
abbrev pub point_of : Option ℤ → Option ℤ → LineKind
point_of None y = Bad
point_of (Some x) None = Bad
point_of (Some x) (Some y) = Point x y

-- what a line of at most 4,096 bytes says: nothing where it has no token, and a point where it has two tokens, both of
-- them decimal texts
unfoldable pub line_kind_of : List ℕ → LineKind
line_kind_of line =
    let first = token_at line in
    let second = token_at first.1 in
    let third = token_at second.1 in
    if nat_lt longest_line (length line) then Bad else (if length first.0 == 0 then Blank
    else (if length third.0 == 0 then point_of (ticks_of first.0) (ticks_of second.0) else Bad))
