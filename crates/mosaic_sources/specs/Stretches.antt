-- The stretches of lines that spans hold, and how lists of them are made.
use Rattle.std.specs.Prelude.{ℕ, List, ◌≡◌, ◌⊎◌, ◌<◌, ◌≤◌, ◌+◌, ◌-◌, length}
use Rattle.std.specs.List.{Any, Contains, sum_by}
use Rattle.mosaic_sources.specs.Rows.{passing_from, list_by, is_in_span}
use Rattle.mosaic_sources.specs.declared.spans.Span.{Span}

-- the numbers of the spans that hold a line, in order
abbrev pub holding_lines : List Span → ℕ → List ℕ
holding_lines spans y = passing_from (λ s. is_in_span s y) spans 0

-- A span of some lines begins at the first line or at a cut, and ends at the last line's end or at a cut.
pub record HasEdges (cuts : List ℕ) (height : ℕ) (s : Span) : Type 0 where
  pub first : s.first < s.end → 0 < s.first → Contains cuts s.first
  pub end : s.first < s.end → s.end < height → Contains cuts s.end

-- a line at which a span of some lines begins or ends
pub record IsEdge (s : Span) (line : ℕ) : Type 0 where
  pub some : s.first < s.end
  pub at : (s.first ≡ line) ⊎ (s.end ≡ line)

-- a line at which one of the spans begins or ends
abbrev pub IsEdgeOfOne : List Span → ℕ → Type 0
IsEdgeOfOne spans line = Any (λ s. IsEdge s line) spans

-- a span of so many stretches
pub record IsWithinCount (count : ℕ) (s : Span) : Type 0 where
  pub order : s.first ≤ s.end
  pub within : s.end ≤ count

-- how much all spans hold together
abbrev pub total_held : List Span → ℕ
total_held spans = sum_by (λ s. s.end - s.first) spans

-- For each stretch between cuts, the numbers of the spans that hold its lines; none where there is no line.
pub record AreListsOf (cuts : List ℕ) (height : ℕ) (spans : List Span) (kept : List (List ℕ)) : Type 0 where
  pub count : length kept ≡ length cuts + 1
  pub lists : (y : ℕ) → y < height → list_by cuts kept y ≡ holding_lines spans y
  pub none : height ≡ 0 → sum_by length kept ≡ 0
