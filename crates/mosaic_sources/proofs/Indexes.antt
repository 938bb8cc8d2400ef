-- The index of sources by lines, from the lists of the spans of lines that they cover.
use Rattle.std.proofs.Common.{◌≡◌, ℕ, ◌+◌, ◌-◌, ◌*◌, ◌<◌, ◌≤◌, List, [], length, get_or, refl, sym, ap, ◌∙◌, arith}
use Rattle.std.specs.List.{All, Contains}
use Rattle.std.specs.List.Sorted.{IsStrictlyIncreasing}
use Rattle.geotransform.specs.declared.types.Size.{Size}
use Rattle.vrt_profile.specs.Values.{SourceValue}
use Rattle.mosaic_sources.specs.Rows.{covering_lines, list_by, stretch_of, IsIndexOf, IsInner}
use Rattle.mosaic_sources.specs.Stretches.{holding_lines, AreListsOf}
use Rattle.mosaic_sources.specs.declared.spans.Span.{Span}
use Rattle.std.proofs.lemmas.List.Elements.{All-contains}
use Rattle.mosaic_sources.proofs.Held.{stretch_stays}

-- between cuts the list stays
list_stays : (cuts : List ℕ) (height : ℕ) (spans : List Span) (lists : List (List ℕ)) → AreListsOf cuts height spans lists → (y : ℕ) → y < height → (Contains cuts y → ⊥) → holding_lines spans (y - 1) ≡ holding_lines spans y
list_stays cuts height spans lists are y less other =
    let before : y - 1 < height = omega (arith, less) in
    sym (are.lists (y - 1) before) ∙ ap (λ (k : ℕ). get_or lists k []) (stretch_stays cuts y other) ∙ are.lists y less

pub is_index : (sources : List SourceValue) (size : Size) (spans : List Span) (cuts : List ℕ) (lists : List (List ℕ))
    → ((y : ℕ) → y < size.h → holding_lines spans y ≡ covering_lines sources size y)
    → IsStrictlyIncreasing cuts
    → All (IsInner size.h) cuts
    → ((y : ℕ) → Contains cuts y → holding_lines spans (y - 1) ≡ holding_lines spans y → ⊥)
    → length cuts ≤ 2 * length sources
    → AreListsOf cuts size.h spans lists
    → IsIndexOf sources size (record { height = size.h; cuts = cuts; lists = lists })
is_index sources size spans cuts lists each rising inner changes few are = record {
  height = refl;
  lists = λ y less. are.lists y less ∙ each y less;
  rising = rising;
  inner = inner;
  changes = λ y there same.
      let low = All-contains (IsInner size.h) cuts y inner there in
      changes y there (each (y - 1) (omega (arith, low.high)) ∙ same ∙ sym (each y low.high));
  same = λ y some less other.
      let before : y - 1 < size.h = omega (arith, less) in
      sym (each (y - 1) before) ∙ list_stays cuts size.h spans lists are y less other ∙ each y less;
  count = are.count;
  stretches = omega (arith, are.count, few);
  none = are.none;
}
