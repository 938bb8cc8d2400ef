-- A copy of all pixels has the place of what is copied.
use Rattle.std.proofs.Common.{◌≡◌, ◌∙◌, ap, sym, subst, ℕ, ℤ, pos, ◌*◌, ◌<◌, ◌≤◌, arith, Some, Ok}
use Rattle.std.specs.Prelude.{◌*ℤ◌, ◌-ℤ◌, neg_ℤ, unsigned_abs}
use Rattle.std.proofs.Math.IntN.{*ℤ_comm}
use Rattle.std.proofs.lemmas.Int.{ints}
use Rattle.lists_and_answers.specs.Options.{◌>>=◌}
use Rattle.geotransform.specs.Geo.{stretched, transform_of, cut_of}
use Rattle.geotransform.specs.Print.{unit}
use Rattle.geotransform.specs.declared.types.Size.{Size}
use Rattle.geotransform.proofs.Floors.{half_only}
use Rattle.translate_plan.specs.Fits.{rounded_for, or_limit, geo_in}
use Rattle.translate_plan.specs.declared.options.Driver.TheVariants.{EHdr}
use Rattle.translate_plan.specs.declared.window.Window.{Window}
use Rattle.synthetic_rasters.specs.Outer.{outer_place}

none_left : (a : ℤ) → a -ℤ a ≡ pos 0
none_left a = omega (arith, ints)

-- as many pixels have the same size
step_kept : (k : ℕ) (step : ℤ) → 0 < k → stretched step k k ≡ step
step_kept k step some =
    let none : pos k *ℤ step -ℤ step *ℤ pos k ≡ pos 0 = ap (λ a. a -ℤ step *ℤ pos k) (*ℤ_comm (pos k) step) ∙ none_left (step *ℤ pos k) in
    half_only (pos k *ℤ step) k step some (record {
      near = subst (λ d. 2 * unsigned_abs d ≤ k) (sym none) (omega arith);
      away = λ e. absurd (let one : 0 ≡ k = subst (λ d. 2 * unsigned_abs d ≡ k) none e in omega (arith, some, one));
    })

-- the whole of a square raster
abbrev pub square : ℕ → Size
square k = record { w = k; h = k }

abbrev pub whole_window : ℕ → Window
whole_window k = record { x = pos 0; y = pos 0; size = square k }

place_kept : (k : ℕ) → 0 < k → cut_of outer_place (pos 0) (pos 0) (square k) (square k) ≡ Some outer_place
place_kept k some =
    ap (λ d. transform_of (pos 0) (pos 0) d (stretched (neg_ℤ (pos unit)) k k)) (step_kept k (pos unit) some)
    ∙ ap (λ d. transform_of (pos 0) (pos 0) (pos unit) d) (step_kept k (neg_ℤ (pos unit)) some)

pub place_copied : (k : ℕ) → 0 < k → geo_in EHdr (Some outer_place) (whole_window k) (square k) ≡ Ok (Some outer_place)
place_copied k some = ap (λ t. or_limit (t >>= rounded_for EHdr)) (place_kept k some)
