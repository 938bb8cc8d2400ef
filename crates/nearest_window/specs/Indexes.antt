-- The indexes of bands that a lane keeps.
use Rattle.std.specs.Prelude.{◌≡◌, ℕ, ◌+◌, ◌≤◌, Bool, ◌&&◌, List, None, nat_eq, nat_le, if◌then◌else◌}
use Rattle.std.specs.List.{sum_by}
use Rattle.std.specs.Option.{option_map_or}
use Rattle.mosaic_sources.specs.Rows.{listed, most_listed}
use Rattle.nearest_window.specs.declared.indexes.Kept.{Kept}

-- The most bands that are indexed.
abbrev pub most_indexed : ℕ
most_indexed = 256

-- whether it is this band
abbrev pub is_kept_for : Kept → ℕ → ℕ → Bool
is_kept_for kept dataset band = nat_eq kept.dataset dataset && nat_eq kept.band band

-- how many numbers the lists of a band's index have together
abbrev pub listed_of : Kept → ℕ
listed_of kept = option_map_or listed kept.index 0

-- how many numbers all lists have together
abbrev pub all_listed : List Kept → ℕ
all_listed kept = sum_by listed_of kept

-- the band without an index
abbrev pub without_index : Kept → Kept
without_index kept = record { dataset = kept.dataset; band = kept.band; index = None }

-- a band as it is kept behind others: without its index where all lists together would have too many numbers
abbrev pub kept_behind : List Kept → Kept → Kept
kept_behind others kept = if nat_le (all_listed others + listed_of kept) most_listed then kept else without_index kept

-- the numbers that all lists have together are counted, and aren't too many
pub record AreCounted (kept : List Kept) (count : ℕ) : Type 0 where
  pub all : count ≡ all_listed kept
  pub short : count ≤ most_listed
