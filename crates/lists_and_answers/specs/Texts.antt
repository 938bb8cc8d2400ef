-- Texts: their parts, their letters, and tokens between blanks.
use Rattle.std.specs.Prelude.{ℕ, ◌==◌, ◌&&◌, ◌||◌, nat_le, Bool, not, List, drop, map, flat_map, take_while, bytes_eq}
use Rattle.std.specs.List.{prefix_len}
use Rattle.std.specs.Char.{to_ascii_lowercase}
use Rattle.lists_and_answers.specs.Bytes.{tab, space_byte}
use Rattle.lists_and_answers.specs.Lists.{flattened}
use denote.Ref.{Bor}

-- these parts, one after another
abbrev pub text : List (List ℕ) → List ℕ
text parts = flattened parts

-- these lent parts, one after another
abbrev pub joined : List (Bor (List ℕ)) → List ℕ
joined parts = flat_map (λ part. part.now) parts

-- the same texts but for the case of ASCII letters
abbrev pub same_letters : List ℕ → List ℕ → Bool
same_letters a b = bytes_eq (map to_ascii_lowercase a) (map to_ascii_lowercase b)

-- a space, or a byte from 9 to 13
abbrev pub is_white : ℕ → Bool
is_white byte = (byte == space_byte) || (nat_le 9 byte && nat_le byte 13)

-- a space or a tab
abbrev pub is_blank : ℕ → Bool
is_blank byte = (byte == tab) || (byte == space_byte)

-- a text without the blanks in front
abbrev pub without_blanks : List ℕ → List ℕ
without_blanks text = drop (prefix_len is_blank text) text

-- a token is all that stands between blanks
abbrev pub is_in_token : ℕ → Bool
is_in_token byte = not (is_blank byte)

-- the first token of a line, which is empty where there is none, and what stands behind it
abbrev pub token_at : List ℕ → List ℕ × List ℕ
token_at line = (
  take_while is_in_token (without_blanks line),
  drop (prefix_len is_in_token (without_blanks line))
      (without_blanks line),
)
