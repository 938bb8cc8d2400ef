-- The file of a grid is accepted as a dataset, whose pixels are its samples.
use Rattle.std.proofs.Common.{◌≡◌, ℕ, zero, suc, ℤ, pos, ◌+◌, ◌*◌, ◌<◌, ◌≤◌, Bool, true, List, [], ◌∷◌, ◌++◌, length, map, replicate, get_or, refl, sym, ap, ◌∙◌, subst, arith, zero-add, append-nil, Option, Some, None, Result, Ok, Err}
use Rattle.std.specs.Prelude.{slice_get, IfSome}
use Rattle.std.specs.List.{All, range_with_len}
use Rattle.std.specs.FinMap.{get}
use Rattle.std.proofs.lemmas.List.FromFn.{length-map-range_with_len, get_or-map-range_with_len}
use Rattle.std.proofs.lemmas.List.Sums.{AllPass-from_list_all}
use Rattle.std.proofs.lemmas.Option.{get_or_from_slice_get, slice_get_within}
use Rattle.lists_and_answers.specs.Answers.{◌>>=◌}
use Rattle.lists_and_answers.specs.Lists.{flattened}
use Rattle.geotransform.specs.Types.{is_in}
use Rattle.geotransform.specs.Geo.{Transform}
use Rattle.geotransform.specs.declared.types.PixelType.{PixelType}
use Rattle.outside.specs.Outside.{Files}
use Rattle.ascii_grid.specs.declared.faults.GridFault.{GridFault}
use Rattle.ascii_grid.specs.Grid as ascii
use Rattle.ascii_grid.specs.Values.{is_value}
use Rattle.ascii_grid.specs.Text.{placing_of, AreRows, IsGridOf, IsReadAgain}
use Rattle.ascii_grid.proofs.Again.{grid_again}
use Rattle.catalog.specs.declared.kind.BandHead.{BandHead}
use Rattle.catalog.specs.declared.driver.DriverHead.TheVariants as heads
use Rattle.catalog.specs.declared.faults.Bad.TheVariants as bad
use Rattle.catalog.specs.declared.faults.WalkFault.{WalkFault}
use Rattle.catalog.specs.declared.faults.WalkFault.TheVariants.{Malformed}
use Rattle.catalog.specs.Drivers.{ascii_band}
use Rattle.catalog.specs.Heads.{ascii_in, found_in, grid_in, named}
use Rattle.translate_plan.specs.declared.options.Driver.TheVariants.{AaiGrid}
use Rattle.translate_plan.specs.declared.band.OutBand.{OutBand}
use Rattle.translate_plan.specs.Bands.{no_out_band}
use Rattle.translate_plan.specs.Fits.{is_within_int32}
use Rattle.translate_plan.specs.Plan.{Planned, first_band, BandsHold, IsPlan}
use Rattle.write_back.specs.declared.rows.GridForm.{GridForm}
use Rattle.write_back.specs.Files.{files_of, grid_text, line_at}
use Rattle.write_back.specs.Plans.{grid_form}
use Rattle.write_back.specs.Reading.{HasFiles, kind_read, AreSamplesOf, IsDecoded, IsReadable, IsReadBackBy}
use Rattle.write_back.specs.View.{Rows}
use Rattle.write_back.proofs.Accepted.{kind_by, file_of, file_there, first_file, decoded_from}
use Rattle.write_back.proofs.AcceptedBlocks.{first_alone}
use Rattle.write_back.proofs.Decoded.{all_made, made_at}
use Rattle.write_back.proofs.GridRows.{joined_at}
use Rattle.write_back.proofs.Outputs.{one_band, one_of, value_held}

lone : {A : Type 0} (x y : A) (k : ℕ) → slice_get (x ∷ []) k ≡ Some y → y ≡ x
lone x y zero e = cc
lone x y (suc k) e = absurd cc

nodata_value : (kind : PixelType) (nodata : Option ℤ) → is_within_int32 kind ≡ true → IfSome nodata (λ n. is_in kind n ≡ true) → IfSome nodata (λ n. is_value n ≡ true)
nodata_value kind None small within = tt
nodata_value kind (Some n) small within = value_held kind n small within

-- the lines of a grid
abbrev rows_of : GridForm → (ℕ → ℕ → ℕ → ℤ) → List (List ℤ)
rows_of g samples = map (line_at samples g.size.w) (range_with_len 0 g.size.h)

are_rows : (g : GridForm) (samples : ℕ → ℕ → ℕ → ℤ) → ((x y : ℕ) → x < g.size.w → y < g.size.h → is_value (samples 0 x y) ≡ true) → AreRows g.size.w (rows_of g samples)
are_rows g samples within = record {
  long = all_made (λ row. length row ≡ g.size.w) (line_at samples g.size.w) g.size.h (λ y less. length-map-range_with_len (λ x. samples 0 x y) 0 g.size.w);
  values = all_made (λ row. All (λ n. is_value n ≡ true) row) (line_at samples g.size.w) g.size.h (λ y less. all_made (λ n. is_value n ≡ true) (λ x. samples 0 x y) g.size.w (λ x column. within x y column less));
}

-- the value of the grid that a text is
grid_value : (g : GridForm) (samples : ℕ → ℕ → ℕ → ℤ) (read : Transform) (x y : ℕ) → (is : IsGridOf (grid_text g samples) g.size read g.nodata (flattened (rows_of g samples))) → AreRows g.size.w (rows_of g samples) → x < g.size.w → y < g.size.h → ascii.ascii_at (grid_text g samples) x y ≡ samples 0 x y
grid_value g samples read x y is are column line =
    ap (λ (r : Result ascii.Grid GridFault). ascii.ascii_by r x y) is.grid
    ∙ ap (λ (l : List ℤ). get_or l (y * g.size.w + x) (pos 0)) (sym (append-nil (flattened (rows_of g samples))))
    ∙ joined_at g.size.w 0 (rows_of g samples) x y are column
    ∙ ap (λ (l : List ℤ). get_or l x (pos 0)) (get_or-map-range_with_len (line_at samples g.size.w) 0 g.size.h y y [] line (zero-add y))
    ∙ made_at (λ u. samples 0 u y) g.size.w x column

ascii_found : (m : Files) (name bytes : List ℕ) (h : ascii.Head) → get m name ≡ Some bytes → ascii.grid_head bytes ≡ Ok h → ascii_in m name ≡ Ok (file_of (heads.Ascii h) bytes)
unfolding ascii_in
ascii_found m name bytes h there is =
    ap (λ (r : Result (List ℕ) WalkFault). r >>= λ found. (grid_in found name >>= λ head. Ok (file_of (heads.Ascii head) found))) (file_there m name bytes there)
    ∙ ap (λ (r : Result ascii.Head GridFault). named (λ f. Malformed name (bad.Grid f)) r >>= λ head. Ok (file_of (heads.Ascii head) bytes)) is

pub grid_decoded : (m : Files) (v : Bool) (name : List ℕ) (p : Planned) (samples : ℕ → ℕ → ℕ → ℤ) → IsPlan p → p.driver ≡ AaiGrid → IsReadable p name → AreSamplesOf (Rows (grid_form p)) samples → HasFiles m (files_of (Rows (grid_form p)) name samples) → IsDecoded m v name p samples
grid_decoded m v name p samples plan driver is held has =
    let g : GridForm = grid_form p in
    let bytes : List ℕ = grid_text g samples in
    let one = one_band p AaiGrid plan driver refl in
    let there : get m name ≡ Some bytes = first_file m (name, bytes) [] has in
    let bands : BandsHold AaiGrid p.bands = subst (λ d. BandsHold d p.bands) driver plan.alike in
    let small : is_within_int32 (first_band p).kind ≡ true = AllPass-from_list_all (λ b. is_within_int32 b.kind) p.bands bands 0 no_out_band plan.some_band in
    let nodata = nodata_value (first_band p).kind (first_band p).nodata small (plan.each 0 no_out_band plan.some_band) in
    let place : (read : Transform) × IsReadAgain p.size (placing_of p.size p.geo) read = subst (λ d. IsReadBackBy d p) driver is.place in
    let rows = are_rows g samples (λ x y column line. held 0 x y (record { band = omega arith; column = column; line = line })) in
    let again = grid_again p.size p.geo g.nodata place.0 (rows_of g samples) plan.size nodata place.1 rows (length-map-range_with_len (line_at samples g.size.w) 0 g.size.h) in
    let h : ascii.Head = record { size = p.size; geo = place.0; nodata = g.nodata; rows = again.rows } in
    let read : ascii.grid_head bytes ≡ Ok h = ap (λ (r : Result ascii.Grid GridFault). r >>= λ x. Ok x.head) again.grid in
    decoded_from m v name bytes p (heads.Ascii h) samples is.extension
    (λ w. ap (λ d. found_in (kind_by d) m w name) driver ∙ ascii_found m name bytes h there read) there
    (record {
      size = refl;
      count = one;
      bands = λ k b x at found.
          let here : x ≡ ascii_band h = lone (ascii_band h) x k found in
          let less : k < length p.bands = slice_get_within p.bands k b at in
          let first : first_band p ≡ b = ap (λ i. get_or p.bands i no_out_band) (sym (first_alone (length p.bands) k one less)) ∙ get_or_from_slice_get p.bands k b no_out_band at in
          record {
            kind_is = ap (λ (y : BandHead). y.kind) here ∙ ap (λ d. kind_read d b.kind) (sym driver);
            nodata_is = ap (λ (y : BandHead). y.nodata) here ∙ ap (λ (y : OutBand). y.nodata) first;
          };
      pixels = λ k x y band column line. grid_value g samples place.0 x y again rows column line ∙ ap (λ i. samples i x y) (sym (first_alone (length p.bands) k one band));
    })
