-- Names that are the same, and names that are found.
use Rattle.std.proofs.Common.{◌≡◌, ap, ℕ, Bool, List, IsTrue, ◌↔◌, Option, Some, bytes_eq}
use Rattle.std.specs.Prelude.{option_map}
use Rattle.std.proofs.lemmas.Slice.Eq.{bytes_eq-Decides}
use Rattle.std.proofs.lemmas.Bool.Decides.{same_from_decides}
use Rattle.lists_and_answers.specs.Lists.{with_name}
use Rattle.geotransform.specs.declared.types.Size.{Size}
use Rattle.vrt_profile.specs.Values.{SourceValue}
use Rattle.vrt_profile.specs.Cover.{cover_of}
use Rattle.location_report.specs.Covering.{with_found, covering_name}

-- a test that decides whether two texts are the same
pub same_bytes : (a b : List ℕ) (r : Bool) → (IsTrue r ↔ (a ≡ b)) → r ≡ bytes_eq a b
same_bytes a b r h = same_from_decides r (bytes_eq a b) h (bytes_eq-Decides a b)

-- a source that covers the pixel gives its name
pub covered : (names : List (List ℕ)) (s : SourceValue) (mosaic : Size) (name : List ℕ) (size : Size) (x y : ℕ) (place : ℕ × ℕ) → Some place ≡ cover_of s mosaic size x y → with_name names name ≡ with_found names (covering_name s mosaic name size x y)
covered names s mosaic name size x y place is = ap (λ (o : Option (ℕ × ℕ)). with_found names (option_map (λ p. name) o)) is
