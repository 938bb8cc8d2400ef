-- The lines of a geotransform.
use Rattle.std.proofs.Common.{◌≡◌, ◌∙◌, ap, List, ℕ, ◌++◌, Some}
use Rattle.std.specs.Prelude.{codes}
use Rattle.geotransform.specs.Geo.{Transform}
use Rattle.geotransform.specs.declared.types.Size.{Size}
use Rattle.info_report.proofs.Appended.{four}
use Rattle.info_report.specs.Report.{pair_text, corners_text, geo_text}

-- the four pieces, whose numbers are those of g
pub transform_made : (o x y z w : List ℕ) (seen g : Transform) (size : Size) → seen ≡ g → x ≡ o ++ pair_text (codes "Origin = (") 15 (codes ",") seen.ox seen.oy → y ≡ x ++ pair_text (codes "Pixel Size = (") 15 (codes ",") seen.dx seen.dy → z ≡ y ++ codes "Corner Coordinates:\n" → w ≡ z ++ corners_text g size → w ≡ o ++ geo_text (Some g) size
unfolding geo_text
transform_made o x y z w seen g size is p q r s =
    four o x y z w _ _ _ _
    (p ∙ ap (λ (t : Transform). o ++ pair_text (codes "Origin = (") 15 (codes ",") t.ox t.oy) is)
    (q ∙ ap (λ (t : Transform). x ++ pair_text (codes "Pixel Size = (") 15 (codes ",") t.dx t.dy) is)
    r
    s
