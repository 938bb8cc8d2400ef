-- What is told of a place over every folder, also over one that doesn't tell its files.
use Rattle.std.proofs.Common.{◌≡◌, ◌∙◌, ap, sym, subst, refl, ◌+◌, ◌-◌, ◌<◌, ℕ, ℤ, pos, List, [], ◌++◌, length, set, get_or, get_or-set_same, get_or-set_other, below_more, Option, Some, None, arith}
use Rattle.geotransform.specs.Pixels.{within}
use Rattle.catalog.specs.Drivers.{Dataset}
use Rattle.location_report.specs.Covering.{covering_files}
use Rattle.location_report.specs.Location.{location_text}
use Rattle.location_report.specs.declared.report.Form.{Form}
use Rattle.location_report.specs.declared.report.Form.TheVariants.{Report, ValuesOnly, FilesOnly}
use Rattle.gdal_cli.specs.declared.asked.Asked.{Asked}
use Rattle.gdal_cli.specs.Pixels.{IsOnRaster, AreOfBands}
use Rattle.gdal_cli.specs.Untold.{IsTold, TellsPlace}
use Rattle.gdal_cli.proofs.Told.{within_side}

-- one value more that is of its band's type
pub typed_more : (P : ℕ → ℤ → Type 0) (bands : List ℕ) (values : List ℤ) (i : ℕ) (v : ℤ) → i < length values → P (get_or bands i 0 - 1) v → ((k : ℕ) → k < i → P (get_or bands k 0 - 1) (get_or values k (pos 0))) → (k : ℕ) → k < i + 1 → P (get_or bands k 0 - 1) (get_or (set values i v) k (pos 0))
typed_more P bands values i v less here before =
    below_more (λ k. P (get_or bands k 0 - 1) (get_or (set values i v) k (pos 0))) i
    (λ k below. subst (P (get_or bands k 0 - 1)) (sym (get_or-set_other values i k v (pos 0) (λ same. absurd (omega arith)))) (before k below))
    (subst (P (get_or bands i 0 - 1)) (sym (get_or-set_same values i v (pos 0) less)) here)

-- a text without values tells of files alone as one with some does
without_values : (form : Form) (column line : ℤ) (bands : List ℕ) (values : List ℤ) (files : List (List ℕ)) → form ≡ FilesOnly → location_text form column line None bands files ≡ location_text form column line (Some values) bands files
unfolding location_text
without_values Report column line bands values files is = cc
without_values ValuesOnly column line bands values files is = cc
without_values FilesOnly column line bands values files is = refl

-- and one that tells values names no file
without_files : (form : Form) (column line : ℤ) (values : Option (List ℤ)) (bands : List ℕ) (files : List (List ℕ)) → (form ≡ FilesOnly → ⊥) → location_text form column line values bands [] ≡ location_text form column line values bands files
unfolding location_text
without_files Report column line values bands files other = refl
without_files ValuesOnly column line values bands files other = refl
without_files FilesOnly column line values bands files other = absurd (other refl)

module _ (cat : List Dataset) (id : ℕ) (d : Dataset) (asked : Asked) where
  on_raster : (x y : ℕ) (text : List ℕ) → x < d.head.size.w → y < d.head.size.h → IsTold cat id d asked (pos x, pos y) (Some x) (Some y) text → IsTold cat id d asked (pos x, pos y) (within d.head.size.w (pos x)) (within d.head.size.h (pos y)) text
  on_raster x y text column line h =
      subst (λ (o : Option ℕ). IsTold cat id d asked (pos x, pos y) o (within d.head.size.h (pos y)) text) (sym (within_side d.head.size.w x column))
      (subst (λ (o : Option ℕ). IsTold cat id d asked (pos x, pos y) (Some x) o text) (sym (within_side d.head.size.h y line)) h)

module _ (cat : List Dataset) (id : ℕ) (asked : Asked) where
  -- the text of the names of files, made behind an empty one
  pub files_place : (x y : ℕ) (text old : List ℕ) (column line : ℤ) (bands : List ℕ) (files : List (List ℕ)) (p : IsOnRaster cat id x y) → asked.form ≡ FilesOnly → text ≡ old ++ location_text asked.form column line None bands files → old ≡ [] → column ≡ pos x → line ≡ pos y → bands ≡ asked.bands → files ≡ covering_files cat p.dataset x y bands → TellsPlace cat id asked (pos x, pos y) text
  files_place x y text old column line bands files p form is empty col row same names =
      let text_is : text ≡ location_text asked.form (pos x) (pos y) (Some []) asked.bands (covering_files cat p.dataset x y asked.bands) =
      is
      ∙ ap (λ (o : List ℕ). o ++ location_text asked.form column line None bands files) empty
      ∙ ap (λ (k : ℤ). location_text asked.form k line None bands files) col
      ∙ ap (λ (k : ℤ). location_text asked.form (pos x) k None bands files) row
      ∙ ap (λ (bs : List ℕ). location_text asked.form (pos x) (pos y) None bs files) same
      ∙ ap (location_text asked.form (pos x) (pos y) None asked.bands) (names ∙ ap (covering_files cat p.dataset x y) same)
      ∙ without_values asked.form (pos x) (pos y) asked.bands [] _ form in
      record {
        dataset = p.dataset;
        at = p.at;
        told = on_raster cat id p.dataset asked x y text p.column p.line ([], (λ other. absurd (other form)), text_is);
      }

  -- the text of values
  pub values_place : (x y : ℕ) (text old : List ℕ) (column line : ℤ) (bands : List ℕ) (values read : List ℤ) (files : List (List ℕ)) (p : IsOnRaster cat id x y) → (asked.form ≡ FilesOnly → ⊥) → text ≡ old ++ location_text asked.form column line (Some values) bands files → old ≡ [] → column ≡ pos x → line ≡ pos y → bands ≡ asked.bands → files ≡ [] → values ≡ read → AreOfBands cat id bands read → TellsPlace cat id asked (pos x, pos y) text
  values_place x y text old column line bands values read files p other is empty col row same none back are =
      let text_is : text ≡ location_text asked.form (pos x) (pos y) (Some values) asked.bands (covering_files cat p.dataset x y asked.bands) =
      is
      ∙ ap (λ (o : List ℕ). o ++ location_text asked.form column line (Some values) bands files) empty
      ∙ ap (λ (k : ℤ). location_text asked.form k line (Some values) bands files) col
      ∙ ap (λ (k : ℤ). location_text asked.form (pos x) k (Some values) bands files) row
      ∙ ap (λ (bs : List ℕ). location_text asked.form (pos x) (pos y) (Some values) bs files) same
      ∙ ap (location_text asked.form (pos x) (pos y) (Some values) asked.bands) none
      ∙ without_files asked.form (pos x) (pos y) (Some values) asked.bands _ other in
      let of_asked : AreOfBands cat id asked.bands values = subst (λ (bs : List ℕ). AreOfBands cat id bs values) same (subst (AreOfBands cat id bands) (sym back) are) in
      record {
        dataset = p.dataset;
        at = p.at;
        told = on_raster cat id p.dataset asked x y text p.column p.line (values, (λ _. of_asked), text_is);
      }
