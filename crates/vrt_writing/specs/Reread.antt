-- What is read of pieces of a written document.
use Rattle.std.specs.Prelude.{◌≡◌, ℕ, true, List, [], ◌∷◌, ◌++◌, length}
use Rattle.std.specs.List.{list_all}
use Rattle.vrt_markup.specs.Items.{has_first, is_later, plain_len, double_quote}
use Rattle.vrt_markup.specs.Forest.{Forest, stop, text}
use Rattle.vrt_writing.specs.Spelled.{escaped}

-- a name that a tag may have
pub record IsTagName (name : List ℕ) : Type 0 where
  pub first : has_first name ≡ true
  pub later : list_all is_later name ≡ true

-- a value in which no quote and no special character stands
pub record IsValue (value : List ℕ) : Type 0 where
  pub plain : (r : List ℕ) → plain_len double_quote (value ++ double_quote ∷ r) ≡ length value

-- what stands in an element that holds a text: one run, or nothing
abbrev pub words_forest : List ℕ → Forest
words_forest [] = stop
words_forest (c ∷ cs) = text (escaped (c ∷ cs)) stop
