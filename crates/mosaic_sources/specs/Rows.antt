-- Which sources cover a line of a mosaic, and what an index of them by lines is.
use Rattle.std.specs.Prelude.{ℕ, Bool, ◌&&◌, suc, List, [], ◌∷◌, ◌≡◌, ◌≢◌, ◌<◌, ◌≤◌, ◌+◌, ◌-◌, ◌*◌, ◌^◌, length, nat_le}
use Rattle.std.specs.Prelude.{nat_lt, count_by, slice_index_or, if◌then◌else◌}
use Rattle.std.specs.List.{All, Contains, sum_by}
use Rattle.std.specs.List.Sorted.{IsStrictlyIncreasing}
use Rattle.geotransform.specs.declared.types.Size.{Size}
use Rattle.vrt_profile.specs.Values.{SourceValue}
use Rattle.vrt_profile.specs.Cover.{centre, is_covered, lines_of}
use Rattle.mosaic_sources.specs.declared.spans.Span.{Span}

-- Whether the source's part of the mosaic covers the centre of a line. The dataset's size has no part in it.
unfoldable pub covers_line : SourceValue → Size → ℕ → Bool
covers_line s size y = is_covered (lines_of s size size) (centre y)

-- the numbers of the items that pass a test, in order, where the first of them has this number
abbrev pub passing_from : {A : Type 0} → (A → Bool) → List A → ℕ → List ℕ
passing_from passes [] number = []
passing_from passes (x ∷ xs) number = if passes x then number ∷ passing_from passes xs (suc number)
    else passing_from passes xs (suc number)

-- the numbers of the sources that cover a line, in order
abbrev pub covering_lines : List SourceValue → Size → ℕ → List ℕ
covering_lines sources size y = passing_from (λ s. covers_line s size y) sources 0

-- the number of the stretch between cuts that holds a line
abbrev pub stretch_of : List ℕ → ℕ → ℕ
stretch_of cuts y = count_by (λ cut. nat_le cut y) cuts

-- the list of the stretch that holds a line
abbrev pub list_by : List ℕ → List (List ℕ) → ℕ → List ℕ
list_by cuts lists y = slice_index_or lists (stretch_of cuts y) []

-- What an index by lines keeps: how many lines there are, the lines at which the list changes, in ascending order, and
-- the lists of the stretches before, between and after them.
pub record Rows : Type 0 where
  pub height : ℕ
  pub cuts : List ℕ
  pub lists : List (List ℕ)

-- the list of a line
abbrev pub list_at : Rows → ℕ → List ℕ
list_at r y = list_by r.cuts r.lists y

-- how many numbers all lists have together
abbrev pub listed : Rows → ℕ
listed r = sum_by length r.lists

-- the most numbers that are listed
abbrev pub most_listed : ℕ
most_listed = 4194304

-- a line below the first
pub record IsInner (height : ℕ) (cut : ℕ) : Type 0 where
  pub low : 0 < cut
  pub high : cut < height

-- the cuts are lines, there is one stretch more than there are cuts, and the numbers of stretches and of listed numbers
-- are u32
pub record IsRows (r : Rows) : Type 0 where
  pub rising : IsStrictlyIncreasing r.cuts
  pub inner : All (IsInner r.height) r.cuts
  pub lists : length r.lists ≡ length r.cuts + 1
  pub few : length r.lists < 2 ^ 32
  pub short : listed r ≤ most_listed

-- The index of a band's sources over a mosaic of this size. Its cuts are exactly the lines whose list isn't that of the
-- line before, so there is one list for each stretch of lines on which the list is the same.
pub record IsIndexOf (sources : List SourceValue) (size : Size) (r : Rows) : Type 0 where
  pub height : r.height ≡ size.h
  pub lists : (y : ℕ) → y < size.h → list_at r y ≡ covering_lines sources size y
  pub rising : IsStrictlyIncreasing r.cuts
  pub inner : All (IsInner size.h) r.cuts
  pub changes : (y : ℕ) → Contains r.cuts y → covering_lines sources size (y - 1) ≢ covering_lines sources size y
  pub same : (y : ℕ) → 0 < y → y < size.h → ¬ Contains r.cuts y →
      covering_lines sources size (y - 1) ≡ covering_lines sources size y
  pub count : length r.lists ≡ length r.cuts + 1
  pub stretches : length r.lists ≤ 2 * length sources + 1
  pub none : size.h ≡ 0 → listed r ≡ 0

-- whether a line is between a span's first line and its end
abbrev pub is_in_span : Span → ℕ → Bool
is_in_span s y = nat_le s.first y && nat_lt y s.end
