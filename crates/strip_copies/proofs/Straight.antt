-- Samples that are the pixels of their part of the source, one for one.
use Rattle.std.proofs.Common.{◌≡◌, ℕ, ℤ, ◌+◌, ◌*◌, ◌/◌, ◌%◌, ◌<◌, ◌≤◌, ◌+ℤ◌, List, length, ap, sym, ◌∙◌, subst, arith, pos, negsuc, Option, Some, get_or, zero, suc}
use Rattle.std.proofs.Math.IntN.{+ℤ_assoc}
use Rattle.std.proofs.Math.Nat.{div-lt_iff_lt-mul, mod-lt, mul_comm}
use Rattle.std.proofs.lemmas.Bool.Decides.{nat_tests}
use Rattle.std.proofs.lemmas.Int.{ints}
use Rattle.std.proofs.lemmas.Nat.{div-mul-add}
use Rattle.geotransform.specs.declared.types.Size.{Size}
use Rattle.geotransform.specs.Pixels.{within}
use Rattle.outside.specs.Outside.{Files}
use Rattle.band_blocks.proofs.Corners.{get_or-row_by_row}
use Rattle.catalog.specs.Pixels.{pixel_of_name}
use Rattle.translate_plan.specs.Plan.{Planned, shown, shown_column, shown_line}
use Rattle.strip_copies.specs.declared.columns.Columns.{Columns}
use Rattle.strip_copies.specs.declared.holding.Holding.{Holding}
use Rattle.strip_copies.specs.declared.spans.Run.{Run}
use Rattle.strip_copies.specs.Rows.{IsDirect, nearest, strip_rect, AreSamples, IsHolding, IsSample, IsStrip}
use Rattle.strip_copies.specs.Columns.{column_at, AreColumns}
use Rattle.strip_copies.proofs.Samples.{held_sample}

-- of as many lines as there are, each shows itself
pub shown_own : (n k : ℕ) → 0 < n → shown n n k ≡ k
shown_own n k some =
    let split : (2 * k + 1) * n ≡ k * (2 * n) + n = grind arith in
    ap (λ m. m / (2 * n)) split ∙ div-mul-add k (2 * n) n (omega arith)

-- so many places behind one of a side
behind : (side : ℕ) (a : ℤ) (t r : ℕ) → within side a ≡ Some t → t + r < side → within side (a +ℤ pos r) ≡ Some (t + r)
behind side (pos n) t r e less = grind (arith, nat_tests, ints)
behind side (negsuc n) t r e less = absurd (cc)

more : (a : ℤ) (k r : ℕ) → (a +ℤ pos k) +ℤ pos r ≡ a +ℤ pos (k + r)
more a k r = +ℤ_assoc a (pos k) (pos r)

line_behind : (p : Planned) (height first top r : ℕ) → p.window.h ≡ p.size.h → 0 < p.size.h → within height (shown_line p first) ≡ Some top → top + r < height → within height (shown_line p (first + r)) ≡ Some (top + r)
line_behind p height first top r same some here less =
    let each : (k : ℕ) → shown p.window.h p.size.h k ≡ k = λ k. ap (λ n. shown n p.size.h k) same ∙ shown_own p.size.h k some in
    let at : within height (p.y +ℤ pos first) ≡ Some top = ap (λ n. within height (p.y +ℤ pos n)) (sym (each first)) ∙ here in
    ap (λ n. within height (p.y +ℤ pos n)) (each (first + r))
    ∙ ap (within height) (sym (more p.y first r))
    ∙ behind height (p.y +ℤ pos first) top r at less

-- the lines of a span are those of a run
pub lines_own : (p : Planned) (height first top tall : ℕ) → p.window.h ≡ p.size.h → 0 < p.size.h → within height (shown_line p first) ≡ Some top → top + tall ≤ height
    → (r : ℕ) → r < tall → within height (shown_line p (first + r)) ≡ Some (top + r)
lines_own p height first top tall same some here fits r less = line_behind p height first top r same some here (omega arith)

column_is : (c : Columns) (i : ℕ) → i < c.count → column_at c.first c.count i ≡ Some (c.first + i)
column_is c i less = grind (arith, nat_tests)

pub wide_of : (a w h : ℕ) → a < w * h → 0 < w
wide_of a zero h less = absurd (omega (arith, less))
wide_of a (suc w) h less = omega arith

-- what a band makes of each pixel of the part
pub direct_samples : (told : Option Files) (name : List ℕ) (p : Planned) (source : Size) (k : ℕ) (h : Holding) → IsHolding p k h → (c : Columns) (run : Run) → AreColumns p source.w c → IsDirect p source.h c run
    → (raw out : List ℤ) → IsStrip told name p k (strip_rect c run.span) raw → length raw ≡ p.size.w * run.span.height
    → ((i : ℕ) → i < length raw → get_or out i (pos 0) ≡ nearest h.least h.most (get_or raw i (pos 0))) → AreSamples told name p source k run.first (length raw) out
direct_samples told name p source k h holding c run columns direct raw out strip long made at less =
    let w = p.size.w in
    let some = wide_of at w run.span.height (omega (arith, less, long)) in
    let turned : w * run.span.height ≡ run.span.height * w = mul_comm w run.span.height in
    let column : at % w < w = mod-lt at some in
    let line : at / w < run.span.height = (div-lt_iff_lt-mul some).1 (omega (arith, less, long, turned)) in
    let x : within source.w (shown_column p (at % w)) ≡ Some (c.first + at % w) = columns.each (at % w) column ∙ ap (column_at c.first c.count) (direct.own (at % w) column) ∙ column_is c (at % w) (omega (arith, column, direct.wide)) in
    let wide : p.size.w * run.span.height ≡ c.count * run.span.height = ap (λ n. n * run.span.height) (sym direct.wide) in
    subst (IsSample told name p source k (at % w) (run.first + at / w)) (sym (made at less))
    (held_sample told name p source k (at % w) (run.first + at / w) (c.first + at % w) (run.span.top + at / w) h holding (get_or raw at (pos 0)) x (direct.lines (at / w) line)
    (λ m t.
    ap (λ l. get_or l at (pos 0)) (strip m holding.band t holding.at)
    ∙ get_or-row_by_row (pixel_of_name m name holding.band.source) (strip_rect c run.span) at (pos 0) (omega (arith, less, long, wide))
    ∙ ap (λ n. pixel_of_name m name holding.band.source (c.first + at % n) (run.span.top + at / n)) direct.wide))
