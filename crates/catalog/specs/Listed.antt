-- The files of a mosaic while its sources are gone through.
use Rattle.std.specs.Prelude.{◌≡◌, ℕ, List, ◌∷◌}
use Rattle.std.specs.BTreeSet.{contains_text}
use Rattle.lists_and_answers.specs.Lists.{is_among}
use Rattle.catalog.specs.declared.mosaic_head.Listing.{Listing}
use Rattle.catalog.specs.Mosaics.{distinct}

-- the own name and the distinct ones of some names are listed, and these are looked up
pub record HasListed (own : List ℕ) (names : List (List ℕ)) (l : Listing) : Type 0 where
  pub files : l.files ≡ own ∷ distinct names
  pub seen : (name : List ℕ) → contains_text l.seen name ≡ is_among (distinct names) name
