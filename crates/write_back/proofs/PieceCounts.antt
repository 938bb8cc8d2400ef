-- In how many pieces a line is written or read.
use Rattle.std.proofs.Common.{◌≡◌, ◌⊎◌, ⊎_elim, ℕ, suc, ◌+◌, ◌-◌, ◌*◌, ◌/◌, ◌<◌, ◌≤◌, min, refl, sym, ap, ◌∙◌, subst, arith}
use Rattle.std.proofs.lemmas.Bool.{cases_lt}
use Rattle.std.proofs.lemmas.Nat.{div-add-mod', le-div}
use Rattle.std.proofs.Math.Nat.{mul_assoc, mul-le-mul, mul-le-mul_right}
use Rattle.geotransform.specs.declared.types.PixelType.{PixelType}
use Rattle.geotransform.proofs.Ranges.{bytes_bounds}
use Rattle.esri_hdr.specs.declared.header_parts.Layout.{Layout}
use Rattle.esri_hdr.specs.declared.header_parts.Layout.TheVariants.{Bil, Bip, Bsq}
use Rattle.esri_hdr.specs.Head.{Head, IsHead, sample_len}
use Rattle.interleaved_raw.specs.Raw.{stride_by}
use Rattle.catalog.specs.Places.{steps_over}
use Rattle.band_blocks.proofs.Corners.{step_within}
use Rattle.band_blocks.proofs.Pieces.{once}
use Rattle.write_back.specs.Pieces.{line_calls, span_of, spots_by, spots_of}

-- pieces of at least 32,768 bytes
few_long : (w st step span : ℕ) → 0 < w → 0 < step → 32768 ≤ step * st → (w - 1) * st ≤ span + 32767 → steps_over step w ≤ span / 32768 + 2
few_long w st step span wp sp long near =
    let n : ℕ = steps_over step w in
    let d = div-add-mod' (w + step - 1) step in
    let before : (steps_over step w - 1) * step ≤ w - 1 = (let e : (steps_over step w - 1) * step + step ≡ suc (steps_over step w - 1) * step = grind arith in
    ⊎_elim (λ (none : steps_over step w < 1). (let z : steps_over step w - 1 ≡ 0 = omega arith in let y : (steps_over step w - 1) * step ≡ 0 * step = ap (λ k. k * step) z in let x : 0 * step ≡ 0 = omega arith in omega arith))
    (λ (some : 1 ≤ steps_over step w). (let f : suc (steps_over step w - 1) ≡ steps_over step w = omega arith in let g : suc (steps_over step w - 1) * step ≡ steps_over step w * step = ap (λ k. k * step) f in omega arith))
    (cases_lt (steps_over step w) 1)) in
    let bytes : (steps_over step w - 1) * step * st ≤ (w - 1) * st = mul-le-mul_right st before in
    let all : (steps_over step w - 1) * (step * st) ≤ (w - 1) * st = (let e = mul_assoc (steps_over step w - 1) step st in omega arith) in
    let each : (steps_over step w - 1) * 32768 ≤ (steps_over step w - 1) * (step * st) = mul-le-mul (let r : steps_over step w - 1 ≤ steps_over step w - 1 = omega arith in r) long in
    let fits : steps_over step w - 2 ≤ span / 32768 = le-div (steps_over step w - 2) span 32768 (omega arith) (omega arith) in
    omega arith

sample_few : (kind : PixelType) → sample_len kind ≤ 8
sample_few kind = (bytes_bounds kind).1

-- the samples of a line of all bands take no more than a pixel more than those of a band with what stands between them
near_by : (l : Layout) (w bands s : ℕ) → 0 < w → bands ≤ 256 → s ≤ 8 → (h : Head) → h.size.w ≡ w → h.bands ≡ bands → sample_len h.kind ≡ s → (spots_by l w bands - 1) * s ≤ (w - 1) * stride_by l h + s + 32767
near_by Bil w bands s some few short h wide has is = let e = ap (λ k. (w - 1) * k) is in omega arith
near_by Bip w bands s some few short h wide has is =
    let a : (w * bands - 1) * s ≤ w * bands * s = mul-le-mul_right s (omega arith) in
    let e : suc (w - 1) ≡ w = omega arith in
    let b : suc (w - 1) * bands * s ≡ (w - 1) * (bands * s) + bands * s = grind arith in
    let f : suc (w - 1) * bands * s ≡ w * bands * s = ap (λ k. k * bands * s) e in
    let c : bands * s ≤ 256 * s = mul-le-mul_right s few in
    let g : (w - 1) * (h.bands * sample_len h.kind) ≡ (w - 1) * (bands * s) = ap (λ k. (w - 1) * (k * sample_len h.kind)) has ∙ ap (λ k. (w - 1) * (bands * k)) is in
    omega arith
near_by Bsq w bands s some few short h wide has is = let e = ap (λ k. (w - 1) * k) is in omega arith

pub few_pieces : (h : Head) (most step : ℕ) → IsHead h → 0 < most → 0 < spots_of h → 32768 ≤ most * sample_len h.kind → step ≡ min most (spots_of h) → steps_over step (spots_of h) ≤ line_calls h
few_pieces h most step is some spots long taken = ⊎_elim
    (λ (short : spots_of h < most).
    let e : step ≡ spots_of h = omega arith in
    let one : steps_over step (spots_of h) ≡ 1 = ap (λ k. steps_over k (spots_of h)) e ∙ once (spots_of h) spots in
    omega arith)
    (λ (rest : most ≤ spots_of h).
    let e : step ≡ most = omega arith in
    let near = near_by h.layout h.size.w h.bands (sample_len h.kind) is.width.0 is.bands.1 (sample_few h.kind) h refl refl refl in
    subst (λ k. steps_over k (spots_of h) ≤ line_calls h) (sym e) (few_long (spots_of h) (sample_len h.kind) most (span_of h) spots some long near))
    (cases_lt (spots_of h) most)

-- each piece begins within the line
pub piece_within : (spots step piece : ℕ) → 0 < step → step ≤ spots → piece < steps_over step spots → piece * step < spots
piece_within spots step piece some within below = step_within spots step piece some (omega arith) below
