-- Windows that are cut among lanes: the lines of two parts make up the whole.
use Rattle.std.proofs.Common.{◌≡◌, ◌∙◌, ap, refl, ◌+◌, ◌-◌, ◌*◌, ◌/◌, ◌<◌, ◌≤◌, ℕ, ℤ, List, ◌++◌, Option, Some, Ok, Err, arith}
use Rattle.std.specs.Prelude.{slice_get, Result, OnOk}
use Rattle.std.specs.List.{All}
use Rattle.std.proofs.lemmas.Nat.{div-mul-add, div-add-mod', le-div, mul-le}
use Rattle.std.proofs.lemmas.List.Elements.{All-append}
use Rattle.geotransform.specs.Limits.{most_side}
use Rattle.geotransform.specs.declared.types.Rect.{Rect}
use Rattle.outside.specs.Outside.{Files}
use Rattle.catalog.specs.Drivers.{Dataset}
use Rattle.catalog.specs.Pixels.{pixel_of, pixel_of_name}
use Rattle.catalog.specs.Places.{row_by_row}
use Rattle.catalog.specs.Walk.{IsCatalog}
use Rattle.catalog.proofs.Walked.{dataset_kept}
use Rattle.band_blocks.proofs.Corners.{rect_at, rows_cut}
use Rattle.band_blocks.specs.declared.fault.LoadFault.{LoadFault}
use Rattle.nearest_window.specs.declared.window.Window.{Window}
use Rattle.nearest_window.specs.Windows.{IsInBand, IsWindow}
use Rattle.lane_teams.specs.Parts.{lines_before, lane_lines, part_of, AreOfWindow}

pub before_rises : (lines n a b : ℕ) → 0 < n → a ≤ b → lines_before lines n a ≤ lines_before lines n b
before_rises lines n a b some order =
    let product : a * lines ≤ b * lines = mul-le a lines b lines order (omega arith) in
    let whole = div-add-mod' (a * lines) n in
    le-div (a * lines / n) (b * lines) n some (omega arith)

before_first : (lines n : ℕ) → 0 < n → lines_before lines n 0 ≡ 0
before_first lines n some = let e : 0 * lines ≡ 0 * n + 0 = omega arith in ap (λ k. k / n) e ∙ div-mul-add 0 n 0 some

before_end : (lines n : ℕ) → 0 < n → lines_before lines n n ≡ lines
before_end lines n some = let e : n * lines ≡ lines * n + 0 = grind arith in ap (λ k. k / n) e ∙ div-mul-add lines n 0 some

pub before_below : (lines n k : ℕ) → 0 < n → k ≤ n → lines_before lines n k ≤ lines
before_below lines n k some order = let e = before_end lines n some in let r = before_rises lines n k n some order in omega arith

-- the lines of two parts
lines_joined : (f : ℕ → ℕ → ℤ) (rect : Rect) (n a m b : ℕ) → 0 < n → a ≤ m → m ≤ b → row_by_row f (lane_lines rect n a m) ++ row_by_row f (lane_lines rect n m b) ≡ row_by_row f (lane_lines rect n a b)
lines_joined f rect n a m b some up on =
    let p = before_rises rect.h n a m some up in
    let q = before_rises rect.h n m b some on in
    let line : rect.y + lines_before rect.h n m ≡ rect.y + lines_before rect.h n a + (lines_before rect.h n m - lines_before rect.h n a) = omega arith in
    let all : lines_before rect.h n b - lines_before rect.h n a ≡ (lines_before rect.h n m - lines_before rect.h n a) + (lines_before rect.h n b - lines_before rect.h n m) = omega arith in
    rows_cut f (lane_lines rect n a b) (lane_lines rect n a m) (lane_lines rect n m b)
    (record { upper_left = refl; upper_wide = refl; top = refl; lower_left = refl; lower_wide = refl; line = line; lines = all })

-- the samples of two parts are those of both
pub both_shown : (told : Option Files) (cat : List Dataset) (window : Window) (n a m b : ℕ) (p q : List ℤ) → 0 < n → a ≤ m → m ≤ b
    → AreOfWindow told cat (part_of window n a m) p → AreOfWindow told cat (part_of window n m b) q → AreOfWindow told cat (part_of window n a b) (p ++ q)
both_shown told cat window n a m b p q some up on front back = record {
  pixels = λ f e.
      ap (λ xs. xs ++ q) (front.pixels f e)
      ∙ ap (λ xs. row_by_row (pixel_of f cat window.dataset window.band) (lane_lines window.rect n a m) ++ xs) (back.pixels f e)
      ∙ lines_joined (pixel_of f cat window.dataset window.band) window.rect n a m b some up on;
  named = λ f d e at.
      ap (λ xs. xs ++ q) (front.named f d e at)
      ∙ ap (λ xs. row_by_row (pixel_of_name f d.head.name window.band) (lane_lines window.rect n a m) ++ xs) (back.named f d e at)
      ∙ lines_joined (pixel_of_name f d.head.name window.band) window.rect n a m b some up on;
  typed = All-append (IsInBand cat window.dataset window.band) p q front.typed back.typed;
}

-- the lines of all lanes
whole_lines : (rect : Rect) (n : ℕ) → 0 < n → lane_lines rect n 0 n ≡ rect
whole_lines rect n some =
    let s = before_first rect.h n some in
    let e = before_end rect.h n some in
    let top : rect.y + lines_before rect.h n 0 ≡ rect.y = omega arith in
    let high : lines_before rect.h n n - lines_before rect.h n 0 ≡ rect.h = omega arith in
    ap (λ y. rect_at rect.x y rect.w (lines_before rect.h n n - lines_before rect.h n 0)) top ∙ ap (rect_at rect.x rect.y rect.w) high

pub whole_window : (window : Window) (n : ℕ) → 0 < n → part_of window n 0 n ≡ window
whole_window window n some = ap (λ (rect : Rect). with_rect window rect) (whole_lines window.rect n some)
  where
    with_rect : Window → Rect → Window
    with_rect window rect = record { dataset = window.dataset; band = window.band; rect = rect }

-- lines of a window are a window
pub window_part : (cat : List Dataset) (window : Window) (n a b : ℕ) → 0 < n → a ≤ b → b ≤ n → IsWindow cat window → IsWindow cat (part_of window n a b)
window_part cat window n a b some order within w = record {
  dataset = w.dataset;
  at = w.at;
  has_band = w.has_band;
  across = w.across;
  down = let p = before_rises window.rect.h n a b some order in let q = before_below window.rect.h n b some within in let d = w.down in omega arith;
}

-- no line of a window lies behind the last that a dataset can have
pub window_low : (cat : List Dataset) (window : Window) → IsCatalog cat → IsWindow cat window → window.rect.y + window.rect.h ≤ most_side
window_low cat window valid w =
    let size = (dataset_kept cat window.dataset w.dataset valid w.at).valid.size in
    let lines : w.dataset.head.size.h ≤ most_side = size.lines in
    let down = w.down in
    omega (arith, lines, down)

-- the samples of two parts
pub sizes : (rect : Rect) (n a m b : ℕ) → 0 < n → a ≤ m → m ≤ b → rect.w * (lane_lines rect n a b).h ≡ rect.w * (lane_lines rect n a m).h + rect.w * (lane_lines rect n m b).h
sizes rect n a m b some up on =
    let p = before_rises rect.h n a m some up in
    let q = before_rises rect.h n m b some on in
    let all : lines_before rect.h n b - lines_before rect.h n a ≡ (lines_before rect.h n m - lines_before rect.h n a) + (lines_before rect.h n b - lines_before rect.h n m) = omega arith in
    ap (λ h. rect.w * h) all ∙ spread rect.w (lines_before rect.h n m - lines_before rect.h n a) (lines_before rect.h n b - lines_before rect.h n m)
  where
    spread : (w a b : ℕ) → w * (a + b) ≡ w * a + w * b
    spread w a b = grind arith

-- what a read window is, by what the call says of its answer
pub shown_of : (r : Result (Unit {0}) LoadFault) (told : Option Files) (cat : List Dataset) (window : Window) (out : List ℤ)
    → ((m : Files) → told ≡ Some m → OnOk r (out ≡ row_by_row (pixel_of m cat window.dataset window.band) window.rect))
    → ((m : Files) → told ≡ Some m → (d : Dataset) → slice_get cat window.dataset ≡ Some d → OnOk r (out ≡ row_by_row (pixel_of_name m d.head.name window.band) window.rect))
    → OnOk r (All (IsInBand cat window.dataset window.band) out)
    → OnOk r (AreOfWindow told cat window out)
shown_of (Ok x) told cat window out pixels named typed = record { pixels = pixels; named = λ m d e at. named m e d at; typed = typed }
shown_of (Err e) told cat window out pixels named typed = tt
