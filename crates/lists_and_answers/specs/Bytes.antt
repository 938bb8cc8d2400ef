-- Names of bytes that formats tell apart.
use Rattle.std.specs.Prelude.{ℕ}

abbrev pub tab : ℕ
tab = 9

abbrev pub line_feed : ℕ
line_feed = 10

abbrev pub carriage_return : ℕ
carriage_return = 13

abbrev pub space_byte : ℕ
space_byte = 32

abbrev pub plus_sign : ℕ
plus_sign = 43

abbrev pub minus_sign : ℕ
minus_sign = 45

abbrev pub point : ℕ
point = 46

abbrev pub slash : ℕ
slash = 47

-- the digit 0, behind which the other digits follow
abbrev pub zero_digit : ℕ
zero_digit = 48
