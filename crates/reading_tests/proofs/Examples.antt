-- Indexes that a lane keeps, and sources that are asked for rectangles, worked out by computing alone.
use Rattle.std.proofs.Common.{◌≡◌, ℕ, replicate, [], ◌∷◌, Some, None, true, false, refl, arith}
use Rattle.geotransform.specs.declared.types.Rect.{Rect}
use Rattle.mosaic_sources.specs.Rows.{Rows}
use Rattle.nearest_window.specs.declared.indexes.Kept.{Kept}
use Rattle.nearest_window.specs.declared.wanted.Wanted.TheVariants.{All}
use Rattle.nearest_window.specs.Indexes.{is_kept_for, listed_of, all_listed, kept_behind, without_index}
use Rattle.nearest_window.specs.Wanted.{numbers_of, bound, IsListedIn}

-- of four lines the first three have source 0, and the last three source 1
abbrev rows : Rows
rows = record { height = 4; cuts = 1 ∷ 3 ∷ []; lists = (0 ∷ []) ∷ (0 ∷ 1 ∷ []) ∷ (1 ∷ []) ∷ [] }

-- the index of the second band of dataset 2, and a third band that went without one
abbrev second : Kept
second = record { dataset = 2; band = 1; index = Some rows }

abbrev third : Kept
third = record { dataset = 2; band = 2; index = None }

same_band : is_kept_for second 2 1 ≡ true
same_band = refl

other_band : is_kept_for second 2 2 ≡ false
other_band = refl

other_dataset : is_kept_for second 1 1 ≡ false
other_dataset = refl

-- a number counts once for each stretch whose list has it
four_listed : listed_of second ≡ 4
four_listed = refl

none_listed : listed_of third ≡ 0
none_listed = refl

both_listed : all_listed (second ∷ third ∷ second ∷ []) ≡ 8
both_listed = refl

-- while there is room an index is kept
kept_whole : kept_behind (second ∷ third ∷ []) second ≡ second
kept_whole = refl

-- 2,048 lists of 2,048 numbers: as many as all lists may have together
abbrev full : Kept
full = record { dataset = 1; band = 0; index = Some (record { height = 2048; cuts = []; lists = replicate 2048 (replicate 2048 0) }) }

kept_alone : kept_behind [] full ≡ full
kept_alone = refl

-- beside it an index of more numbers isn't kept
goes_without : kept_behind (full ∷ []) second ≡ without_index second
goes_without = refl

-- of three sources all are asked
all_three : numbers_of (All 3) ≡ 0 ∷ 1 ∷ 2 ∷ []
all_three = refl

-- lines of the mosaic, in five columns
abbrev lines : ℕ → ℕ → Rect
lines y h = record { x = 0; y = y; w = 5; h = h }

-- the second line of the first two has source 1
second_listed : IsListedIn rows (lines 0 2) 1
second_listed = record { line = 1; within = record { top = omega arith; bottom = omega arith }; listed = (1, omega arith, refl) }

-- and the third of the last two source 0
first_listed : IsListedIn rows (lines 2 2) 0
first_listed = record { line = 2; within = record { top = omega arith; bottom = omega arith }; listed = (0, omega arith, refl) }

-- the second of the numbers 1 and 4; behind the last, the number of sources
second_number : bound (1 ∷ 4 ∷ []) 1 [] ≡ 4
second_number = refl

behind_the_last : bound (1 ∷ 4 ∷ []) 2 [] ≡ 0
behind_the_last = refl
