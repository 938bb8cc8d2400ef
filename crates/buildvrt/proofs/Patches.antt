-- Rectangles of inputs.
use Rattle.std.proofs.Common.{◌≡◌, ℤ, refl, to_z, of_z, FitsSigned, Bool, true, false, cond, ◌&&◌, Ok, Err, Some, None}
use Rattle.std.specs.Int.{w128}
use Rattle.std.proofs.lemmas.Int.{to_z-of_z}
use Rattle.geotransform.specs.declared.types.Size.{Size}
use Rattle.buildvrt.specs.declared.patch.PixelRect.{PixelRect}
use Rattle.buildvrt.specs.declared.faults.BuildFault.TheVariants.{Limit}
use Rattle.buildvrt.specs.Rectangles.{meets, is_offset, is_within, shown_in, in_millionths}

-- numbers that are stored are what they were
pub stored_pixels : (x y w h : ℤ) → FitsSigned w128 x → FitsSigned w128 y → FitsSigned w128 w → FitsSigned w128 h → (r : PixelRect) → record { x = x; y = y; w = w; h = h } ≡ r → record { x = to_z w128 (of_z w128 x); y = to_z w128 (of_z w128 y); w = to_z w128 (of_z w128 w); h = to_z w128 (of_z w128 h) } ≡ r
stored_pixels x y w h a b c d r e = rw (to_z-of_z w128 x a, to_z-of_z w128 y b, to_z-of_z w128 w c, to_z-of_z w128 h d) e

-- a rectangle that meets the mosaic and is within the limits is shown
chosen : {A : Type 0} (m i : Bool) (x y z : A) → m ≡ true → i ≡ true → cond m (cond i x y) z ≡ x
chosen true true x y z p q = refl
chosen true false x y z p q = absurd cc
chosen false i x y z p q = absurd cc

four : (a b c d : Bool) → a ≡ true → b ≡ true → c ≡ true → d ≡ true → (a && (b && (c && d))) ≡ true
four a b c d p q r s = rw (p, q, r, s) refl

pub shown_is : (size : Size) (r : PixelRect) → meets size r ≡ true → is_offset r.x ≡ true → is_offset r.y ≡ true → is_offset r.w ≡ true → is_offset r.h ≡ true → shown_in size r ≡ Ok (Some (in_millionths r))
shown_is size r m i j k l = chosen (meets size r) (is_within r) (Ok (Some (in_millionths r))) (Err Limit) (Ok None) m (four (is_offset r.x) (is_offset r.y) (is_offset r.w) (is_offset r.h) i j k l)
