-- Windows cut among lanes.
use Rattle.std.proofs.Common.{◌≡◌, refl, [], ◌∷◌, Ok, Err}
use Rattle.band_blocks.specs.declared.fault.LoadFault.TheVariants.{FolderFault, Memory}
use Rattle.lane_teams.specs.Parts.{lines_before, part_of, readers_of}
use Rattle.lane_teams.specs.Refusals.{first_refusal}

-- ten lines among three lanes: three, three and four
second_begins : lines_before 10 3 1 ≡ 3
second_begins = refl

third_begins : lines_before 10 3 2 ≡ 6
third_begins = refl

-- the second of them, of a window that begins in line 5
second_part : part_of (record { dataset = 1; band = 2; rect = record { x = 4; y = 5; w = 7; h = 10 } }) 3 1 2 ≡ record { dataset = 1; band = 2; rect = record { x = 4; y = 8; w = 7; h = 3 } }
second_part = refl

-- ten lines of seven samples each, read by all of three lanes
all_read : readers_of 10 70 23 3 ≡ 3
all_read = refl

-- by the first alone, where 24 samples should come to each, or where there are two lines
few_samples : readers_of 10 70 24 3 ≡ 1
few_samples = refl

few_lines : readers_of 2 70 0 3 ≡ 1
few_lines = refl

-- two lanes refused, and the first of them is told
first_told : first_refusal (Ok tt ∷ Err Memory ∷ Err FolderFault ∷ []) ≡ Err Memory
first_told = refl

none_told : first_refusal (Ok tt ∷ Ok tt ∷ []) ≡ Ok tt
none_told = refl
