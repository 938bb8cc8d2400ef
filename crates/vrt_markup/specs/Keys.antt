-- The keys by which the names of a tag's attributes are sorted, and texts that stand in a document as they are.
use Rattle.std.specs.Prelude.{ℕ, ◌+◌, ◌-◌, ◌*◌, ◌%◌, ◌==◌, Bool, true, false, not, ◌&&◌, List, [], ◌∷◌}
use Rattle.std.specs.Prelude.{if◌then◌else◌, nat_lt, length, drop, Option, Some, None}
use Rattle.std.specs.Int.{w64, from_be_bytes}
use Rattle.std.specs.List.{list_any}
use Rattle.vrt_markup.specs.Hashes.{text_hash}
use Rattle.vrt_markup.specs.Items.{Pair, option_case, less_than, ampersand}

-- the number that the bytes of a text make, each of which counts 256 times as much as the next one, behind those of a
-- word
abbrev pub bytes_number : ℕ → List ℕ → ℕ
bytes_number word [] = word
bytes_number word (c ∷ cs) = bytes_number (word % 72057594037927936 * 256 + c) cs

-- the number that the last eight bytes of a name make, or all bytes of a shorter one
unfoldable pub last_bytes : List ℕ → ℕ
last_bytes name = if nat_lt (length name) 8 then bytes_number 0 name else
    from_be_bytes w64 (drop (length name - 8) name)

-- the number by which a name is told from others: that of its bytes, or the hash of a name of more than eight
unfoldable pub name_number : List ℕ → ℕ
name_number name = if nat_lt 8 (length name) then text_hash 0 name else last_bytes name

-- a name behind its number
abbrev pub sort_key_of : Pair → ℕ × List ℕ
sort_key_of p = (name_number p.name, p.name)

-- the number alone
abbrev pub number_of : Pair → ℕ
number_of p = name_number p.name

-- the number of the last bytes of its name
abbrev pub last_number_of : Pair → ℕ
last_number_of p = last_bytes p.name

-- whether no element is the same as one behind it
abbrev pub apart : {X : Type 0} → (X → X → Bool) → List X → Bool
apart same [] = true
apart same (x ∷ xs) = not (list_any (same x) xs) && apart same xs

-- Numbers so far: each is one from low to last, or one from top on. With one more they are so again, where it is less
-- than all of them, or between last and top.
pub record Spread : Type 0 where
  pub low : ℕ
  pub last : ℕ
  pub top : ℕ

abbrev pub spread_with : Spread → ℕ → Option Spread
spread_with s n = if nat_lt n s.low then Some (record { low = n; last = n; top = s.low }) else
    (if nat_lt s.last n && nat_lt n s.top then Some (record { low = s.low; last = n; top = s.top }) else None)

-- whether they are so with each of a list
abbrev pub spreads : Spread → List ℕ → Bool
spreads s [] = true
spreads s (n ∷ ns) = option_case (spread_with s n) false (λ t. spreads t ns)

-- the first number that is the same as the one in front of it
abbrev pub double_from : ℕ → List ℕ → Option ℕ
double_from last [] = None
double_from last (n ∷ ns) = if n == last then Some last else double_from n ns

abbrev pub double_of : List ℕ → Option ℕ
double_of [] = None
double_of (n ∷ ns) = double_from n ns

-- a byte that begins neither a tag nor an entity
abbrev pub is_plain : ℕ → Bool
is_plain c = not (c == less_than) && not (c == ampersand)

-- a byte that begins no entity
abbrev pub is_literal : ℕ → Bool
is_literal c = not (c == ampersand)
