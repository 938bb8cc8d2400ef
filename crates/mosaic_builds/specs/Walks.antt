-- The walks from the inputs, in order, with one catalog for all.
use Rattle.std.specs.Prelude.{ℕ, ◌≡◌, ◌<◌, Bool, List, [], ◌∷◌, length, map, slice_get, Option, Some, option_map}
use Rattle.std.specs.Prelude.{Result, Ok}
use Rattle.std.specs.List.{All, filter_map}
use Rattle.lists_and_answers.specs.Answers.{◌>>=◌}
use Rattle.outside.specs.Outside.{Files}
use Rattle.catalog.specs.Dataset.{DatasetHead}
use Rattle.catalog.specs.Drivers.{Dataset}
use Rattle.catalog.specs.Walk.{dataset_number_in, dataset_named, walked}
use Rattle.error_lines.specs.declared.faults.Fault.{Fault}
use Rattle.error_lines.specs.Faults.{by_walk}

-- The catalog behind the walks from these names, each of which knows what the earlier ones met, or the first refusal.
abbrev pub walked_all : Files → Bool → List Dataset → List (List ℕ) → Result (List Dataset) Fault
walked_all m verify cat [] = Ok cat
walked_all m verify cat (name ∷ names) = by_walk (walked m verify cat name) >>= λ next. walked_all m verify next names

-- these are the numbers of the datasets of these names
pub record AreNumbers (cat : List Dataset) (names : List (List ℕ)) (ids : List ℕ) : Type 0 where
  pub each : map (λ (name : List ℕ). dataset_number_in cat name) names ≡ map (λ (id : ℕ). Some id) ids

-- they are numbers of datasets
abbrev pub AreKnown : List Dataset → List ℕ → Type 0
AreKnown cat ids = All (λ id. id < length cat) ids

-- the heads of the datasets of these names
abbrev pub head_of : Dataset → DatasetHead
head_of d = d.head

abbrev pub heads_of : List Dataset → List (List ℕ) → List DatasetHead
heads_of cat names = filter_map (λ (name : List ℕ). option_map head_of (dataset_named cat name)) names

-- the heads of the datasets of these numbers
abbrev pub head_at : List Dataset → ℕ → Option DatasetHead
head_at cat id = option_map head_of (slice_get cat id)

abbrev pub heads_at : List Dataset → List ℕ → List DatasetHead
heads_at cat ids = filter_map (head_at cat) ids
