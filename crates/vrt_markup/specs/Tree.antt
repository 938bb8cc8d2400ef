-- The tree of a document: its markup, from the first byte to the last.
use Rattle.std.specs.Prelude.{ℕ, zero, suc, ◌-◌, List, [], ◌∷◌, length, drop, codes, Option, Some, None, Result, Ok}
use Rattle.std.specs.Prelude.{Err, nat_lt, if◌then◌else◌}
use Rattle.std.specs.Str.Lossy.{utf8_valid_len}
use Rattle.vrt_markup.specs.Items.{Item, bad, comment, run, open_tag, close_tag, Tag, item_at, strip, begins}
use Rattle.vrt_markup.specs.Items.{option_case}
use Rattle.lists_and_answers.specs.Answers.{◌>>=◌}
use Rattle.vrt_markup.specs.Forest.{Forest, inner, is_all_white}
use Rattle.vrt_markup.specs.declared.fault.VrtFault.{VrtFault}
use Rattle.vrt_markup.specs.declared.fault.VrtFault.TheVariants.{BadText}

-- Outside the root only comments and white space stand: what is left behind them.
abbrev pub space_step : (List ℕ → Result (List ℕ) VrtFault) → ℕ → List ℕ → Item → Result (List ℕ) VrtFault
space_step more total bytes (comment rest) = more rest
space_step more total bytes (run raw rest) = if is_all_white raw then more rest
    else Err (BadText (total - length bytes))
space_step more total bytes bad = Ok bytes
space_step more total bytes (open_tag tag rest) = Ok bytes
space_step more total bytes (close_tag name rest) = Ok bytes

abbrev pub space_by : ℕ → ℕ → List ℕ → Result (List ℕ) VrtFault
space_by zero total bytes = Ok bytes
space_by (suc fuel) total bytes = space_step (λ r. space_by fuel total r) total bytes (item_at bytes)

abbrev pub space : ℕ → List ℕ → Result (List ℕ) VrtFault
space total bytes = space_by (length bytes) total bytes

-- UTF-8 is judged over all bytes first: the place is that of the first character that fails
abbrev pub utf8_of : List ℕ → Result (List ℕ) VrtFault
utf8_of bytes = if nat_lt (utf8_valid_len bytes) (length bytes) then Err (BadText (utf8_valid_len bytes)) else Ok bytes

-- the text without the byte order mark in front, where it has one
abbrev pub without_mark : List ℕ → List ℕ
without_mark bytes = option_case (strip (239 ∷ 187 ∷ 191 ∷ []) bytes) bytes (λ rest. rest)

-- what stands behind the first `?>`
abbrev pub after_declaration : List ℕ → Option (List ℕ)
after_declaration [] = None
after_declaration (c ∷ cs) = if begins (codes "?>") (c ∷ cs) then Some (drop 2 (c ∷ cs)) else after_declaration cs

-- what stands behind the declaration, where the text begins with one
abbrev pub declared_at : ℕ → List ℕ → Result (List ℕ) VrtFault
declared_at total bytes = option_case (strip (codes "<?xml") bytes) (Ok bytes)
    (λ rest. option_case (after_declaration rest) (Err (BadText (total - length bytes))) Ok)

-- the root's tag
pub record Root : Type 0 where
  pub place : ℕ
  pub tag : Tag
  pub rest : List ℕ

-- Where `space` ends no comment stands in front and no run, since it goes on behind a comment and a run of white space,
-- and refuses another run. So the root's tag stands there, or what is no item, or an end tag.
abbrev pub root_item : ℕ → List ℕ → Item → Result Root VrtFault
root_item total bytes (open_tag tag rest) = Ok (record { place = total - length bytes; tag = tag; rest = rest })
root_item total bytes other = Err (BadText (total - length bytes))

unfoldable pub root_at : ℕ → List ℕ → Result Root VrtFault
root_at total bytes = do
  front ← declared_at total (without_mark bytes)
  start ← space total front
  root_item total start (item_at start)

-- nothing but comments and white space may follow
abbrev pub end_by : ℕ → List ℕ → Result (List ℕ) VrtFault
end_by total [] = Ok []
end_by total (c ∷ cs) = Err (BadText (total - length (c ∷ cs)))

unfoldable pub end_at : ℕ → List ℕ → Result (List ℕ) VrtFault
end_at total bytes = do
  rest ← space total bytes
  end_by total rest

-- The tree of a document: the root's place and tag, and what stands in it; or the first fault of the first pass.
pub record Tree : Type 0 where
  pub place : ℕ
  pub tag : Tag
  pub inside : Forest

unfoldable pub markup_of : List ℕ → Result Tree VrtFault
markup_of bytes = do
  root ← root_at (length bytes) bytes
  x ← inner (length bytes) 0 root.tag root.rest
  end ← end_at (length bytes) x.1
  Ok (record { place = root.place; tag = root.tag; inside = x.0 })

abbrev pub tree_of : List ℕ → Result Tree VrtFault
tree_of bytes = utf8_of bytes >>= λ valid. markup_of valid
