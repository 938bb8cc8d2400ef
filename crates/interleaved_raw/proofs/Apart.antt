-- Two samples of a file share no byte.
use Rattle.std.proofs.Common.{◌≡◌, ℕ, ◌+◌, ◌*◌, ◌<◌, ◌≤◌, ap, ◌∙◌, sym, arith, ⊎_elim}
use Rattle.std.proofs.lemmas.Bool.{cases_lt}
use Rattle.std.proofs.Math.Nat.{add-mul, mul_assoc, mul_comm, mul-le-mul_right}
use Rattle.esri_hdr.specs.declared.header_parts.Layout.{Layout}
use Rattle.esri_hdr.specs.declared.header_parts.Layout.TheVariants.{Bil, Bip, Bsq}
use Rattle.esri_hdr.specs.Head.{Head, IsHead, RowsFit, sample_len}
use Rattle.interleaved_raw.specs.Raw.{position_by, position_of, IsPlace, IsSamePlace}

-- a part that fits between two multiples
step : (a c m r : ℕ) → a < c → r ≤ m → a * m + r ≤ c * m
step a c m r less fits =
    let more : (a + 1) * m ≤ c * m = mul-le-mul_right m (omega arith) in
    omega (arith, add-mul a 1 m)

-- two stretches of s bytes that meet, each within one of the pieces of m bytes, are in the same piece and meet there
record Meet (a c r q s : ℕ) : Type 0 where
  piece : a ≡ c
  first : r < q + s
  second : q < r + s

met : (a c m r q s : ℕ) → r + s ≤ m → q + s ≤ m → a * m + r < c * m + q + s → c * m + q < a * m + r + s → Meet a c r q s
met a c m r q s rs qs one two =
    ⊎_elim
    (λ (low : a < c). absurd (omega (arith, step a c m (r + s) low rs)))
    (λ (not_low : c ≤ a).
    ⊎_elim
    (λ (high : c < a). absurd (omega (arith, step c a m (q + s) high qs)))
    (λ (not_high : a ≤ c).
    let same : a ≡ c = omega arith in
    let pieces : a * m ≡ c * m = ap (λ k. k * m) same in
    record { piece = same; first = omega arith; second = omega arith })
    (cases_lt c a))
    (cases_lt a c)

-- the last byte of a sample among n of them
ends : (x w s : ℕ) → x < w → x * s + s ≤ w * s
ends x w s less = step x w s s less (omega arith)

apart_by : (l : Layout) (h : Head) (band x y other u v : ℕ) → RowsFit l h.bands (h.size.w * sample_len h.kind) (record { band_row = h.band_row; total_row = h.total_row; gap = h.gap }) → IsPlace h band x y → IsPlace h other u v → position_by l h band x y < position_by l h other u v + sample_len h.kind → position_by l h other u v < position_by l h band x y + sample_len h.kind → IsSamePlace band x y other u v
apart_by Bil h band x y other u v fits p q one two =
    let s : ℕ = sample_len h.kind in
    let within : x * s + s ≤ h.band_row = omega (arith, ends x h.size.w s p.column, fits.0) in
    let within_too : u * s + s ≤ h.band_row = omega (arith, ends u h.size.w s q.column, fits.0) in
    let line : band * h.band_row + x * s + s ≤ h.total_row = omega (arith, step band h.bands h.band_row (x * s + s) p.band within, fits.1) in
    let line_too : other * h.band_row + u * s + s ≤ h.total_row = omega (arith, step other h.bands h.band_row (u * s + s) q.band within_too, fits.1) in
    let a = met y v h.total_row (band * h.band_row + x * s) (other * h.band_row + u * s) s line line_too (omega arith) (omega arith) in
    let b = met band other h.band_row (x * s) (u * s) s within within_too a.first a.second in
    let c = met x u s 0 0 s (omega arith) (omega arith) (omega (arith, b.first)) (omega (arith, b.second)) in
    record { band = b.piece; column = c.piece; line = a.piece }
apart_by Bip h band x y other u v fits p q one two =
    let s : ℕ = sample_len h.kind in
    let turned : h.size.w * h.bands * s ≡ h.size.w * s * h.bands = mul_assoc h.size.w h.bands s ∙ ap (λ k. h.size.w * k) (mul_comm h.bands s) ∙ sym (mul_assoc h.size.w s h.bands) in
    let pixel : x * h.bands + (band + 1) ≤ h.size.w * h.bands = step x h.size.w h.bands (band + 1) p.column (omega (arith, p.band)) in
    let pixel_too : u * h.bands + (other + 1) ≤ h.size.w * h.bands = step u h.size.w h.bands (other + 1) q.column (omega (arith, q.band)) in
    let line : (x * h.bands + band) * s + s ≤ h.total_row = omega (arith, turned, ends (x * h.bands + band) (h.size.w * h.bands) s (omega arith), fits.1) in
    let line_too : (u * h.bands + other) * s + s ≤ h.total_row = omega (arith, turned, ends (u * h.bands + other) (h.size.w * h.bands) s (omega arith), fits.1) in
    let a = met y v h.total_row ((x * h.bands + band) * s) ((u * h.bands + other) * s) s line line_too (omega arith) (omega arith) in
    let b = met (x * h.bands + band) (u * h.bands + other) s 0 0 s (omega arith) (omega arith) (omega (arith, a.first)) (omega (arith, a.second)) in
    let c = met x u h.bands band other 1 (omega (arith, p.band)) (omega (arith, q.band)) (omega (arith, b.piece)) (omega (arith, b.piece)) in
    record { band = omega (arith, c.first, c.second); column = c.piece; line = a.piece }
apart_by Bsq h band x y other u v fits p q one two =
    let s : ℕ = sample_len h.kind in
    let len : ℕ = h.size.h * h.size.w * s + h.gap in
    let pixel : y * h.size.w + (x + 1) ≤ h.size.h * h.size.w = step y h.size.h h.size.w (x + 1) p.line (omega (arith, p.column)) in
    let pixel_too : v * h.size.w + (u + 1) ≤ h.size.h * h.size.w = step v h.size.h h.size.w (u + 1) q.line (omega (arith, q.column)) in
    let within : (y * h.size.w + x) * s + s ≤ len = omega (arith, ends (y * h.size.w + x) (h.size.h * h.size.w) s (omega arith)) in
    let within_too : (v * h.size.w + u) * s + s ≤ len = omega (arith, ends (v * h.size.w + u) (h.size.h * h.size.w) s (omega arith)) in
    let a = met band other len ((y * h.size.w + x) * s) ((v * h.size.w + u) * s) s within within_too (omega arith) (omega arith) in
    let b = met (y * h.size.w + x) (v * h.size.w + u) s 0 0 s (omega arith) (omega arith) (omega (arith, a.first)) (omega (arith, a.second)) in
    let c = met y v h.size.w x u 1 (omega (arith, p.column)) (omega (arith, q.column)) (omega (arith, b.piece)) (omega (arith, b.piece)) in
    record { band = a.piece; column = omega (arith, c.first, c.second); line = c.piece }

-- two samples that share a byte are the same
pub apart : (h : Head) (band x y other u v : ℕ) → IsHead h → IsPlace h band x y → IsPlace h other u v → position_of h band x y < position_of h other u v + sample_len h.kind → position_of h other u v < position_of h band x y + sample_len h.kind → IsSamePlace band x y other u v
apart h band x y other u v is p q one two = apart_by h.layout h band x y other u v is.rows p q one two
