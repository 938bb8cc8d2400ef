-- What is told of a place, inside the raster and off it, and the pixels that it is made of.
use Rattle.std.proofs.Common.{◌≡◌, ◌∙◌, ap, sym, subst, refl, ◌⊎◌, inl, inr, ◌+◌, ◌-◌, ◌<◌, ℕ, ℤ, pos, List, [], ◌∷◌, ◌++◌, length, map, take, set, get_or, add-one, nat_lt, Option, Some, None, arith}
use Rattle.std.specs.Prelude.{slice_get}
use Rattle.std.proofs.lemmas.Bool.{cond-true, lt-ltb}
use Rattle.std.proofs.lemmas.List.{map-append, take_more}
use Rattle.std.proofs.Math.Seq.{take-suc-set, take-append_seam}
use Rattle.geotransform.specs.Pixels.{within}
use Rattle.outside.specs.Outside.{Files}
use Rattle.catalog.specs.Drivers.{Dataset}
use Rattle.catalog.specs.Walk.{IsCatalog, IsWalked}
use Rattle.catalog.specs.Pixels.{pixel_of, pixel_of_name}
use Rattle.catalog.specs.Places.{row_by_row}
use Rattle.catalog.proofs.PixelLaws.{number_is_name}
use Rattle.location_report.specs.Covering.{covering_files}
use Rattle.location_report.specs.Location.{location_text}
use Rattle.location_report.specs.declared.report.Form.{Form}
use Rattle.location_report.specs.declared.report.Form.TheVariants.{Report, ValuesOnly, FilesOnly}
use Rattle.gdal_cli.specs.declared.asked.Asked.{Asked}
use Rattle.gdal_cli.specs.Location.{values_at, files_at, told_text}
use Rattle.gdal_cli.specs.Pixels.{IsOnRaster}
use Rattle.gdal_cli.proofs.Reached.{one_dataset}

-- the pixel of a window of one
pub one_value : (f : ℕ → ℕ → ℤ) (x y : ℕ) → row_by_row f (record { x = x; y = y; w = 1; h = 1 }) ≡ f x y ∷ []
unfolding row_by_row
one_value f x y =
    let column : x + 0 ≡ x = omega arith in
    let line : y + 0 ≡ y = omega arith in
    ap (λ k. f k (y + 0) ∷ []) column ∙ ap (λ k. f x k ∷ []) line

pub first_value : (f : ℕ → ℕ → ℤ) (x y : ℕ) (values : List ℤ) → values ≡ row_by_row f (record { x = x; y = y; w = 1; h = 1 }) → get_or values 0 (pos 0) ≡ f x y
first_value f x y values is = ap (λ (vs : List ℤ). get_or vs 0 (pos 0)) (is ∙ one_value f x y)

-- the pixels by the number of a dataset are those by its name
map_same : {A B : Type 0} (f g : A → B) (xs : List A) → ((x : A) → f x ≡ g x) → map f xs ≡ map g xs
map_same f g [] same = refl
map_same f g (x ∷ xs) same = ap (λ y. y ∷ map f xs) (same x) ∙ ap (λ ys. g x ∷ ys) (map_same f g xs same)

pub values_named : (m : Files) (cat : List Dataset) (id x y : ℕ) (d : Dataset) (bands : List ℕ) → IsCatalog cat → IsWalked m cat → slice_get cat id ≡ Some d → map (λ band. pixel_of m cat id (band - 1) x y) bands ≡ map (λ band. pixel_of_name m d.head.name (band - 1) x y) bands
values_named m cat id x y d bands valid walked at = map_same _ _ bands (λ band. number_is_name m cat id (band - 1) x y d valid walked at)

-- one value more
pub values_more : (f : ℕ → ℤ) (bands : List ℕ) (values : List ℤ) (i band d : ℕ) (v : ℤ) → i < length bands → length values ≡ length bands → band ≡ get_or bands i d → v ≡ f band → take i values ≡ map f (take i bands) → take (i + 1) (set values i v) ≡ map f (take (i + 1) bands)
values_more f bands values i band d v less room is one so_far =
    ap (λ (n : ℕ). take n (set values i v)) (add-one i)
    ∙ take-suc-set values i v (omega arith)
    ∙ ap (λ (vs : List ℤ). vs ++ v ∷ []) so_far
    ∙ ap (λ (x : ℤ). map f (take i bands) ++ x ∷ []) (one ∙ ap f is)
    ∙ sym (map-append f (take i bands) (get_or bands i d ∷ []))
    ∙ ap (map f) (sym (take_more bands i d less))

-- values that were written over all of a list
pub written_back : (n : ℕ) (shown values rest : List ℤ) → shown ≡ take n (values ++ rest) → length values ≡ n → shown ≡ values
written_back n shown values rest is size = is ∙ ap (λ (k : ℕ). take k (values ++ rest)) (sym size) ∙ take-append_seam values rest

-- the forms that tell values
pub not_files : (form : Form) → (form ≡ Report) ⊎ (form ≡ ValuesOnly) → form ≡ FilesOnly → ⊥
not_files form (inl is) files = cc
not_files form (inr is) files = cc

-- a column or a line of the side
pub within_side : (side n : ℕ) → n < side → within side (pos n) ≡ Some n
within_side side n less = cond-true (nat_lt n side) (Some n) None (lt-ltb n side less)

module _ (m : Files) (cat : List Dataset) (d : Dataset) (asked : Asked) where
  abbrev place : Option ℕ → Option ℕ → ℤ → ℤ → List ℕ
  place x y column line = location_text asked.form column line (values_at (pixel_of_name m d.head.name) asked.bands x y) asked.bands (files_at cat d asked.bands x y)

  inside : (x y : ℕ) → x < d.head.size.w → y < d.head.size.h → place (Some x) (Some y) (pos x) (pos y) ≡ told_text m cat d asked (pos x, pos y)
  inside x y column line =
      ap (λ (o : Option ℕ). place o (Some y) (pos x) (pos y)) (sym (within_side d.head.size.w x column))
      ∙ ap (λ (o : Option ℕ). place (within d.head.size.w (pos x)) o (pos x) (pos y)) (sym (within_side d.head.size.h y line))

  only_files : (form : Form) (column line : ℤ) (values : Option (List ℤ)) (files : List (List ℕ)) → form ≡ FilesOnly → location_text form column line None asked.bands files ≡ location_text form column line values asked.bands files
  unfolding location_text
  only_files Report column line values files is = cc
  only_files ValuesOnly column line values files is = cc
  only_files FilesOnly column line values files is = refl

  no_files : (form : Form) (column line : ℤ) (values : Option (List ℤ)) (files : List (List ℕ)) → (form ≡ FilesOnly → ⊥) → location_text form column line values asked.bands [] ≡ location_text form column line values asked.bands files
  unfolding location_text
  no_files Report column line values files other = refl
  no_files ValuesOnly column line values files other = refl
  no_files FilesOnly column line values files other = absurd (other refl)

  -- the names of files
  pub told_files : (x y : ℕ) → x < d.head.size.w → y < d.head.size.h → asked.form ≡ FilesOnly → location_text asked.form (pos x) (pos y) None asked.bands (covering_files cat d x y asked.bands) ≡ told_text m cat d asked (pos x, pos y)
  told_files x y column line is = only_files asked.form (pos x) (pos y) _ _ is ∙ inside x y column line

  -- values
  pub told_values : (x y : ℕ) (values : List ℤ) → x < d.head.size.w → y < d.head.size.h → (asked.form ≡ FilesOnly → ⊥) → values ≡ map (λ band. pixel_of_name m d.head.name (band - 1) x y) asked.bands → location_text asked.form (pos x) (pos y) (Some values) asked.bands [] ≡ told_text m cat d asked (pos x, pos y)
  told_values x y values column line other is =
      ap (λ (vs : List ℤ). location_text asked.form (pos x) (pos y) (Some vs) asked.bands []) is
      ∙ no_files asked.form (pos x) (pos y) _ _ other ∙ inside x y column line

  -- the text of the names of files, made behind an empty one
  pub files_told : (id x y : ℕ) (text old : List ℕ) (column line : ℤ) (bands : List ℕ) (files : List (List ℕ)) → IsOnRaster cat id x y → slice_get cat id ≡ Some d → asked.form ≡ FilesOnly → text ≡ old ++ location_text asked.form column line None bands files → old ≡ [] → column ≡ pos x → line ≡ pos y → bands ≡ asked.bands → files ≡ covering_files cat d x y bands → text ≡ told_text m cat d asked (pos x, pos y)
  files_told id x y text old column line bands files p at form is empty col row same names =
      let here : p.dataset ≡ d = one_dataset cat id p.dataset d p.at at in
      is
      ∙ ap (λ (o : List ℕ). o ++ location_text asked.form column line None bands files) empty
      ∙ ap (λ (k : ℤ). location_text asked.form k line None bands files) col
      ∙ ap (λ (k : ℤ). location_text asked.form (pos x) k None bands files) row
      ∙ ap (λ (bs : List ℕ). location_text asked.form (pos x) (pos y) None bs files) same
      ∙ ap (location_text asked.form (pos x) (pos y) None asked.bands) (names ∙ ap (covering_files cat d x y) same)
      ∙ told_files x y (subst (λ (e : Dataset). x < e.head.size.w) here p.column) (subst (λ (e : Dataset). y < e.head.size.h) here p.line) form

  -- the same of values
  pub values_told : (id x y : ℕ) (text old : List ℕ) (column line : ℤ) (bands : List ℕ) (values : List ℤ) (files : List (List ℕ)) → IsCatalog cat → IsWalked m cat → IsOnRaster cat id x y → slice_get cat id ≡ Some d → (asked.form ≡ FilesOnly → ⊥) → text ≡ old ++ location_text asked.form column line (Some values) bands files → old ≡ [] → column ≡ pos x → line ≡ pos y → bands ≡ asked.bands → files ≡ [] → values ≡ map (λ band. pixel_of m cat id (band - 1) x y) bands → text ≡ told_text m cat d asked (pos x, pos y)
  values_told id x y text old column line bands values files valid walked p at other is empty col row same none are =
      let here : p.dataset ≡ d = one_dataset cat id p.dataset d p.at at in
      let named : values ≡ map (λ band. pixel_of_name m d.head.name (band - 1) x y) asked.bands = are ∙ values_named m cat id x y d bands valid walked at ∙ ap (map (λ band. pixel_of_name m d.head.name (band - 1) x y)) same in
      is
      ∙ ap (λ (o : List ℕ). o ++ location_text asked.form column line (Some values) bands files) empty
      ∙ ap (λ (k : ℤ). location_text asked.form k line (Some values) bands files) col
      ∙ ap (λ (k : ℤ). location_text asked.form (pos x) k (Some values) bands files) row
      ∙ ap (λ (bs : List ℕ). location_text asked.form (pos x) (pos y) (Some values) bs files) same
      ∙ ap (location_text asked.form (pos x) (pos y) (Some values) asked.bands) none
      ∙ told_values x y values (subst (λ (e : Dataset). x < e.head.size.w) here p.column) (subst (λ (e : Dataset). y < e.head.size.h) here p.line) other named

  -- off the raster
  pub told_outside : (column line : ℤ) → (within d.head.size.w column ≡ None) ⊎ (within d.head.size.h line ≡ None) → location_text asked.form column line None asked.bands [] ≡ told_text m cat d asked (column, line)
  told_outside column line (inl is) = sym (ap (λ (o : Option ℕ). place o (within d.head.size.h line) column line) is)
  told_outside column line (inr is) = sym (ap (λ (o : Option ℕ). place (within d.head.size.w column) o column line) is ∙ no_line (within d.head.size.w column))
    where
      no_line : (o : Option ℕ) → place o None column line ≡ location_text asked.form column line None asked.bands []
      no_line None = refl
      no_line (Some x) = refl
