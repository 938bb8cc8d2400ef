-- Elements, one in another: the tree of a document.
use Rattle.std.specs.Prelude.{ℕ, zero, suc, ◌-◌, Bool, true, ◌&&◌, List, [], ◌∷◌, ◌++◌, length, Result, Ok, Err, nat_le}
use Rattle.std.specs.Prelude.{Option, Some, None, ◌==◌, if◌then◌else◌}
use Rattle.std.specs.List.{list_all}
use Rattle.lists_and_answers.specs.Answers.{◌>>=◌}
use Rattle.lists_and_answers.specs.Texts.{is_white}
use Rattle.vrt_markup.specs.Items.{Item, bad, comment, run, open_tag, close_tag, Tag, item_at, is_equal}
use Rattle.vrt_markup.specs.Items.{option_case, entity_at, ampersand}
use Rattle.vrt_markup.specs.declared.fault.VrtFault.{VrtFault}
use Rattle.vrt_markup.specs.declared.fault.VrtFault.TheVariants.{BadText, Limit}

-- How deep an element stands at most, where the root stands at 1.
abbrev pub deepest : ℕ
deepest = 64

-- What stands in an element, in order: a run of text and what follows; an element with its place, its tag and what
-- stands in it, and what follows.
pub data Forest : Type 0 where
  stop : Forest
  text : List ℕ → Forest → Forest
  element : ℕ → Tag → Forest → Forest → Forest

-- what stands in an element, and the bytes behind its end; or the first fault of the first pass
abbrev pub ForestRead : Type 0
ForestRead = Result (Forest × List ℕ) VrtFault

abbrev pub with_text : List ℕ → Forest × List ℕ → ForestRead
with_text raw x = Ok (text raw x.0, x.1)

abbrev pub with_element : ℕ → Tag → Forest → Forest × List ℕ → ForestRead
with_element place tag inner x = Ok (element place tag inner x.0, x.1)

abbrev pub inner_by : (ℕ → List ℕ → List ℕ → ForestRead) → ℕ → Tag → List ℕ → ForestRead
inner_by more depth tag rest = if tag.empty then Ok (stop, rest) else more (suc depth) tag.name rest

-- What stands in an element with this name at this depth, by the item in front; more reads what stands behind it.
-- A place is counted from the document's first byte, so it is the document's length less what is left.
abbrev pub nodes_step : (ℕ → List ℕ → List ℕ → ForestRead) → ℕ → ℕ → List ℕ → List ℕ → Item → ForestRead
nodes_step more total depth name bytes bad = Err (BadText (total - length bytes))
nodes_step more total depth name bytes (comment rest) = more depth name rest
nodes_step more total depth name bytes (run raw rest) = more depth name rest >>= with_text raw
nodes_step more total depth name bytes (close_tag other rest) = if is_equal other name then Ok (stop, rest)
    else Err (BadText (total - length bytes))
nodes_step more total depth name bytes (open_tag tag rest) =
    if nat_le deepest depth then Err Limit else
    (inner_by more depth tag rest >>= λ x. more depth name x.1 >>= with_element (total - length bytes) tag x.0)

-- Each item takes a byte at least.
abbrev pub nodes_by : ℕ → ℕ → ℕ → List ℕ → List ℕ → ForestRead
nodes_by zero total depth name bytes = Err (BadText (total - length bytes))
nodes_by (suc fuel) total depth name bytes =
    nodes_step (λ d n r. nodes_by fuel total d n r) total depth name bytes (item_at bytes)

abbrev pub nodes : ℕ → ℕ → List ℕ → List ℕ → ForestRead
nodes total depth name bytes = nodes_by (length bytes) total depth name bytes

-- what stands in the element that begins with a tag
abbrev pub inner : ℕ → ℕ → Tag → List ℕ → ForestRead
inner total depth tag rest = inner_by (nodes total) depth tag rest

-- Over what stands in an element: each element in it in turn, until one is refused.
abbrev pub over : {S : Type 0} → (S → ℕ → Tag → Forest → Result S VrtFault) → S → Forest → Result S VrtFault
over step s stop = Ok s
over step s (text raw more) = over step s more
over step s (element place tag inside more) = step s place tag inside >>= λ t. over step t more

-- whether a text is white space alone
abbrev pub is_all_white : List ℕ → Bool
is_all_white raw = list_all is_white raw

-- whether all text directly in it is white space
abbrev pub all_white : Forest → Bool
all_white stop = true
all_white (text raw more) = is_all_white raw && all_white more
all_white (element place tag inside more) = all_white more

-- what an element means, and the bytes behind it
abbrev pub read_as : {A : Type 0} → (Forest → A) → ForestRead → Result (A × List ℕ) VrtFault
read_as means (Ok x) = Ok (means x.0, x.1)
read_as means (Err e) = Err e

-- the text directly in an element, entities read: each byte, and how many bytes behind it belong to it
abbrev pub plain_at : ℕ → List ℕ → ℕ × ℕ
plain_at c cs = if c == ampersand then option_case (entity_at cs) (c, 0) (λ e. e) else (c, 0)

abbrev pub decoded_from : ℕ → List ℕ → List ℕ
decoded_from skip [] = []
decoded_from zero (c ∷ cs) = (plain_at c cs).0 ∷ decoded_from (plain_at c cs).1 cs
decoded_from (suc skip) (c ∷ cs) = decoded_from skip cs

abbrev pub decoded : List ℕ → List ℕ
decoded raw = decoded_from 0 raw

abbrev pub text_of : Forest → List ℕ
text_of stop = []
text_of (text raw more) = decoded raw ++ text_of more
text_of (element place tag inside more) = text_of more

-- the place of the first element in it
abbrev pub child_of : Forest → Option ℕ
child_of stop = None
child_of (text raw more) = child_of more
child_of (element place tag inside more) = Some place
