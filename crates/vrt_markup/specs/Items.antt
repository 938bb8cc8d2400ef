-- The items of a document: comments, tags and runs of text.
use Rattle.std.specs.Prelude.{ℕ, zero, suc, Bool, true, false, ◌||◌, ◌&&◌, not, List, [], ◌∷◌, length, drop, take}
use Rattle.std.specs.Prelude.{codes, Option, Some, None, ◌==◌, nat_le, if◌then◌else◌}
use Rattle.std.specs.List.{prefix_len, list_all}
use Rattle.std.specs.Cmp.Lexicographic.{pointwise}
use Rattle.lists_and_answers.specs.Bytes.{slash}
use Rattle.lists_and_answers.specs.Options.{◌>>=◌}
use Rattle.lists_and_answers.specs.Texts.{is_white}

-- the bytes by which markup is told from text: `<`, `>`, `&`, the two quotes and `=`
abbrev pub less_than : ℕ
less_than = 60

abbrev pub greater_than : ℕ
greater_than = 62

abbrev pub ampersand : ℕ
ampersand = 38

abbrev pub double_quote : ℕ
double_quote = 34

abbrev pub single_quote : ℕ
single_quote = 39

abbrev pub equals_sign : ℕ
equals_sign = 61

abbrev pub is_equal : List ℕ → List ℕ → Bool
is_equal a b = pointwise (λ x y. x == y) a b

abbrev pub is_some : {A : Type 0} → Option A → Bool
is_some None = false
is_some (Some x) = true

abbrev pub option_case : {A B : Type 0} → Option A → B → (A → B) → B
option_case None none some = none
option_case (Some x) none some = some x

-- whether a text begins with this front
abbrev pub begins : List ℕ → List ℕ → Bool
begins front text = pointwise (λ x y. x == y) (take (length front) text) front

-- the text without the front, where it begins so
abbrev pub strip : List ℕ → List ℕ → Option (List ℕ)
strip front text = if begins front text then Some (drop (length front) text) else None

-- the text without the white space in front
abbrev pub trim_front : List ℕ → List ℕ
trim_front text = drop (prefix_len is_white text) text

-- a name: a letter or `_`, then letters, digits, `_`, `-`, `.`, `:`
abbrev pub is_first : ℕ → Bool
is_first c = ((nat_le 65 c && nat_le c 90) || (nat_le 97 c && nat_le c 122)) || (c == 95)

abbrev pub is_later : ℕ → Bool
is_later c = is_first c || (nat_le 48 c && nat_le c 58) || (c == 45) || (c == 46)

abbrev pub has_first : List ℕ → Bool
has_first [] = false
has_first (c ∷ cs) = is_first c

abbrev pub name_at : List ℕ → Option (List ℕ × List ℕ)
name_at text = if has_first text then Some (take (prefix_len is_later text) text, drop (prefix_len is_later text) text)
    else None

-- whether the whole of a text is a name
abbrev pub is_name : List ℕ → Bool
is_name text = has_first text && list_all is_later text

-- the byte in front
abbrev pub byte_at : ℕ → List ℕ → Option (List ℕ)
byte_at b [] = None
byte_at b (c ∷ cs) = if c == b then Some cs else None

-- what stands behind the first `-->`
abbrev pub after_comment : List ℕ → Option (List ℕ)
after_comment [] = None
after_comment (c ∷ cs) = if begins (codes "-->") (c ∷ cs) then Some (drop 3 (c ∷ cs)) else after_comment cs

-- an entity: the byte that it stands for, and how many bytes stand behind its `&`
abbrev pub entity_at : List ℕ → Option (ℕ × ℕ)
entity_at text =
    if begins (codes "lt;") text then Some (less_than, 3) else (
    if begins (codes "gt;") text then Some (greater_than, 3) else (
    if begins (codes "amp;") text then Some (ampersand, 4) else (
    if begins (codes "quot;") text then Some (double_quote, 5) else (
    if begins (codes "apos;") text then Some (single_quote, 5) else None))))

-- Plain text ends before a `<`, before an `&` that begins no entity, and before the byte q.
abbrev pub ends_at : ℕ → ℕ → List ℕ → Bool
ends_at q c cs = (c == less_than) || ((c == q) || ((c == ampersand) && not (is_some (entity_at cs))))

abbrev pub plain_len : ℕ → List ℕ → ℕ
plain_len q [] = 0
plain_len q (c ∷ cs) = if ends_at q c cs then 0 else suc (plain_len q cs)

-- an attribute: white space, a name, `=`, a quoted value
pub record Pair : Type 0 where
  pub name : List ℕ
  pub value : List ℕ

abbrev pub spaces_at : List ℕ → Option (List ℕ)
spaces_at text = if prefix_len is_white text == 0 then None else Some (trim_front text)

abbrev pub quote_at : List ℕ → Option (ℕ × List ℕ)
quote_at [] = None
quote_at (c ∷ cs) = if (c == double_quote) || (c == single_quote) then Some (c, cs) else None

unfoldable pub value_at : List ℕ → Option (List ℕ × List ℕ)
value_at text = do
  q ← quote_at text
  end ← byte_at q.0 (drop (plain_len q.0 q.1) q.1)
  Some (take (plain_len q.0 q.1) q.1, end)

unfoldable pub pair_at : List ℕ → Option (Pair × List ℕ)
pair_at text = do
  front ← spaces_at text
  name ← name_at front
  equals ← byte_at equals_sign (trim_front name.1)
  value ← value_at (trim_front equals)
  Some (record { name = name.0; value = value.0 }, value.1)

abbrev pub with_pair : Pair → List Pair × List ℕ → List Pair × List ℕ
with_pair p x = (p ∷ x.0, x.1)

-- All pairs in front, and what stands behind them. Each takes a byte at least, so there are no more than bytes.
abbrev pub pairs_by : ℕ → List ℕ → List Pair × List ℕ
pairs_by zero text = ([], text)
pairs_by (suc fuel) text = option_case (pair_at text) ([], text) (λ p. with_pair p.0 (pairs_by fuel p.1))

abbrev pub pairs : List ℕ → List Pair × List ℕ
pairs text = pairs_by (length text) text

-- the value of the first attribute of a name
abbrev pub attribute : List ℕ → List Pair → Option (List ℕ)
attribute name [] = None
attribute name (p ∷ ps) = if is_equal p.name name then Some p.value else attribute name ps

-- no name twice
abbrev pub is_distinct : List Pair → Bool
is_distinct [] = true
is_distinct (p ∷ ps) = not (is_some (attribute p.name ps)) && is_distinct ps

pub record Tag : Type 0 where
  pub name : List ℕ
  pub pairs : List Pair
  pub empty : Bool

-- `>` or `/>`: whether it is the latter, and what stands behind it
abbrev pub tag_end : List ℕ → Option (Bool × List ℕ)
tag_end [] = None
tag_end (c ∷ cs) = if c == greater_than then Some (false, cs) else (if c == slash
    then option_case (byte_at greater_than cs) None (λ rest. Some (true, rest)) else None)

-- a tag behind its `<`, whatever its attributes
unfoldable pub tag_front : List ℕ → Option (Tag × List ℕ)
tag_front text = do
  name ← name_at text
  end ← tag_end (trim_front (pairs name.1).1)
  Some (record { name = name.0; pairs = (pairs name.1).0; empty = end.0 }, end.1)

-- the same, where no attribute stands twice
unfoldable pub tag_at : List ℕ → Option (Tag × List ℕ)
tag_at text = do
  x ← tag_front text
  if is_distinct x.0.pairs then Some x else None

-- an end tag behind its `</`
unfoldable pub close_at : List ℕ → Option (List ℕ × List ℕ)
close_at text = do
  name ← name_at text
  end ← byte_at greater_than (trim_front name.1)
  Some (name.0, end)

-- An item in front of a text, each with what stands behind it.
pub data Item : Type 0 where
  bad : Item
  comment : List ℕ → Item
  run : List ℕ → List ℕ → Item
  open_tag : Tag → List ℕ → Item
  close_tag : List ℕ → List ℕ → Item

abbrev pub run_at : List ℕ → Item
run_at text = if plain_len less_than text == 0 then bad else
    run (take (plain_len less_than text) text) (drop (plain_len less_than text) text)

abbrev pub tag_item : List ℕ → Item
tag_item text = option_case (tag_at text) bad (λ t. open_tag t.0 t.1)

unfoldable pub item_at : List ℕ → Item
item_at text =
    option_case (strip (codes "<!--") text)
    (option_case (strip (codes "</") text)
    (option_case (byte_at less_than text)
    (run_at text)
    tag_item)
    (λ rest. option_case (close_at rest) bad (λ t. close_tag t.0 t.1)))
    (λ rest. option_case (after_comment rest) bad comment)
