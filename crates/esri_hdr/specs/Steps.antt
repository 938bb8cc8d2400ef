-- What the steps of reading and of writing a header say.
use Rattle.std.specs.Prelude.{ℕ, List, Option, None, slice_index_or, ◌≡◌, ◌<◌, ◌≤◌, ◌⊎◌, ◌++◌}
use Rattle.std.specs.Option.{option_map}
use Rattle.geotransform.specs.Limits.{most_bands}
use Rattle.esri_hdr.specs.Lines.{Values}
use Rattle.esri_hdr.specs.declared.header_parts.Shape.{Shape}
use Rattle.esri_hdr.specs.Values.{longest_gap}
use Rattle.esri_hdr.specs.Head.{IsSide}
use Rattle.esri_hdr.specs.Text.{lines_text_of}
use denote.Bor.{Bor}

-- the values that were found, by the numbers of their keys
abbrev pub lookup : List (Option (Bor (List ℕ))) → Values
lookup found key = option_map (λ v. v.now) (slice_index_or found key None)

-- the rules of what the first keys say
pub record IsShape (s : Shape) : Type 0 where
  pub width : IsSide s.w
  pub height : IsSide s.h
  pub bands : (0 < s.bands) × (s.bands ≤ most_bands)
  pub skip : s.skip ≤ longest_gap
  pub bits : (s.bits ≡ 8) ⊎ ((s.bits ≡ 16) ⊎ ((s.bits ≡ 32) ⊎ (s.bits ≡ 64)))

-- the new bytes are the old ones and these lines
pub record AppendsLines (old new : List ℕ) (fields : List (ℕ × List ℕ)) : Type 0 where
  pub lines : new ≡ old ++ lines_text_of fields
