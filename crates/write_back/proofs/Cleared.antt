-- A block of zeros.
use Rattle.std.proofs.Common.{◌≡◌, ℕ, ℤ, pos, ◌+◌, ◌<◌, ◌≤◌, ⊎_elim, true, List, get_or, get_or-set_other, get_or-set_same, length, sym, ap, ◌∙◌, refl, arith}
use Rattle.std.specs.Prelude.{slice_set}
use Rattle.std.proofs.lemmas.Bool.{cases_lt}
use Rattle.std.proofs.lemmas.List.{get_or_default, get_or_past}
use Rattle.std.proofs.lemmas.List.FromFn.{fill_by_all}
use Rattle.geotransform.proofs.Ranges.{zero_in}
use Rattle.band_blocks.specs.Blocks.{BlockView}
use Rattle.write_back.specs.declared.forms.Writer.{Writer}
use Rattle.write_back.specs.declared.forms.Writer.TheVariants.{Raw, Hgt, Dted}
use Rattle.write_back.specs.Forms.{cut_of, holds, under}
use Rattle.write_back.specs.Overlay.{held_in, line_key, IsLine}
use Rattle.write_back.specs.Unwritten.{IsBlank}

-- one sample more is 0
pub zero_more : (xs : List ℤ) (at : ℕ) → at < length xs → ((u : ℕ) → u < at → get_or xs u (pos 0) ≡ pos 0) → (u : ℕ) → u < at + 1 → get_or (slice_set xs at (pos 0)) u (pos 0) ≡ pos 0
zero_more xs at inside each u less = ⊎_elim
    (λ (low : u < at). get_or-set_other xs at u (pos 0) (pos 0) (λ (same : u ≡ at). omega arith) ∙ each u low)
    (λ (late : at ≤ u). let e : u ≡ at = omega arith in ap (λ k. get_or (slice_set xs at (pos 0)) k (pos 0)) e ∙ get_or-set_same xs at (pos 0) (pos 0) inside)
    (cases_lt u at)

pub all_zero : (xs : List ℤ) (n : ℕ) → length xs ≤ n → ((u : ℕ) → u < n → get_or xs u (pos 0) ≡ pos 0) → (u : ℕ) → get_or xs u (pos 0) ≡ pos 0
all_zero xs n long each u = ⊎_elim (λ (low : u < n). each u low) (λ (past : n ≤ u). get_or_past xs u (pos 0) (omega arith)) (cases_lt u n)

zero_held : (w : Writer) → holds w (pos 0) ≡ true
zero_held (Raw h) = zero_in h.kind
zero_held (Hgt side) = refl
zero_held (Dted c) = refl

-- a cleared block is one of the raster's
pub zero_line : (w : Writer) (band y : ℕ) (block : BlockView) → band < (cut_of w).bands → y < (cut_of w).blocks → block.kind ≡ (cut_of w).kind → length block.samples ≡ (cut_of w).spots → ((u : ℕ) → get_or block.samples u (pos 0) ≡ pos 0) → IsLine w (line_key band y) block
zero_line w band y block less line kind count zeros = record {
  dataset_is = refl;
  band = less;
  line = line;
  kind = kind;
  count = count;
  range = λ k d below. ap (holds w) (get_or_default block.samples k d (pos 0) below ∙ zeros k) ∙ zero_held w;
}

-- and has the samples of a blank block
pub zero_samples : (w : Writer) (b : List ℕ) (band y : ℕ) (samples : List ℤ) → length samples ≡ (cut_of w).spots → ((u : ℕ) → get_or samples u (pos 0) ≡ pos 0) → IsBlank w b band y → samples ≡ held_in w b band y
zero_samples w b band y samples count zeros blank = fill_by_all (λ u. under w b band u y) samples (cut_of w).spots (pos 0) count (λ k below. zeros k ∙ sym (blank k below))
