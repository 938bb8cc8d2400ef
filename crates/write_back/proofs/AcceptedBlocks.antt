-- The files of cells and tiles are accepted as a dataset, whose pixels are their samples.
use Rattle.std.proofs.Common.{◌≡◌, ℕ, zero, suc, ℤ, pos, negsuc, ◌+◌, ◌-◌, ◌*◌, ◌<◌, ◌≤◌, ◌⊎◌, inl, inr, Bool, true, false, not, cond, List, [], ◌∷◌, ◌++◌, length, get_or, refl, sym, ap, ap₂, ◌∙◌, subst, arith, Option, Some, None, Result, Ok, Err}
use Rattle.std.specs.Prelude.{ok_or, slice_get, unsigned_abs, codes}
use Rattle.std.specs.List.{flat_map, range_with_len}
use Rattle.std.specs.FinMap.{get}
use Rattle.std.proofs.lemmas.Int.{ints}
use Rattle.lists_and_answers.specs.Answers.{◌>>=◌}
use Rattle.geotransform.specs.Types.{is_in}
use Rattle.geotransform.specs.Geo.{Transform}
use Rattle.geotransform.specs.declared.types.Size.{Size}
use Rattle.geotransform.specs.declared.types.PixelType.TheVariants.{Int16}
use Rattle.outside.specs.Outside.{Files}
use Rattle.lists_and_answers.specs.Texts.{same_letters}
use Rattle.outside.specs.Names.{last_part}
use Rattle.dted_records.specs.declared.head.DtedFault.{DtedFault}
use Rattle.dted_records.specs.Head as dted
use Rattle.dted_records.specs.Places.{record_len, record_of}
use Rattle.dted_records.specs.Places as places
use Rattle.dted_records.specs.Records.{is_record}
use Rattle.dted_records.specs.Text.{head_text}
use Rattle.dted_records.specs.Written.{IsElevation, record_bytes}
use Rattle.dted_records.proofs.HeadAgain.{head_len}
use Rattle.hgt_tiles.specs.declared.corner.HgtFault.TheVariants.{BadName, BadLength}
use Rattle.hgt_tiles.specs.Names.{Place, IsPlace, corner_of, name_of}
use Rattle.hgt_tiles.specs.Places.{IsSide, side_of_length, tile_of}
use Rattle.hgt_tiles.proofs.Fits as tiles
use Rattle.catalog.specs.declared.kind.BandHead.{BandHead}
use Rattle.catalog.specs.declared.driver.Found.{Found}
use Rattle.catalog.specs.declared.driver.DriverHead.TheVariants as heads
use Rattle.catalog.specs.declared.faults.Bad.TheVariants as bad
use Rattle.catalog.specs.declared.faults.WalkFault.{WalkFault}
use Rattle.catalog.specs.declared.faults.WalkFault.TheVariants.{Malformed}
use Rattle.catalog.specs.Drivers.{dted_band, hgt_band}
use Rattle.catalog.specs.Heads.{all_whole, broken_in, file_in, cell_in, dted_in, hgt_in, found_in, long_enough, named, records_whole}
use Rattle.translate_plan.specs.declared.options.Driver.TheVariants.{Dted, SrtmHgt}
use Rattle.translate_plan.specs.declared.band.OutBand.{OutBand}
use Rattle.translate_plan.specs.Fits as fits
use Rattle.translate_plan.specs.Plan.{Planned, BandsHold, IsPlan}
use Rattle.translate_plan.proofs.Written.{tile_is}
use Rattle.write_back.specs.declared.forms.Writer.TheVariants as writers
use Rattle.write_back.specs.Columns.{Cell, cell_with_front}
use Rattle.write_back.specs.Files.{files_of, cell_bytes, column_at, tile_bytes}
use Rattle.write_back.specs.Reading.{HasFiles, kind_read, AreSamplesOf, IsDecoded, IsReadable}
use Rattle.write_back.specs.View.{Blocks}
use Rattle.write_back.proofs.Accepted.{kind_by, file_of, file_there, first_file, enough, decoded_from, Agrees}
use Rattle.write_back.proofs.CellHeads.{CanBeWritten, cell_rules}
use Rattle.write_back.proofs.CellSamples.{cell_len, cell_sample, front_head, record_at, record_whole}
use Rattle.write_back.proofs.Decoded.{tile_len, tile_sample}
use Rattle.write_back.proofs.Outputs.{cell_size, one_band, one_of, tile_square}
use Rattle.write_back.proofs.RecordBytes.{elevation_of}
use Rattle.write_back.proofs.TileNames.{name_read}
use Rattle.std.proofs.lemmas.List.FromFn.{length-map-range_with_len}

abbrev size_with : ℕ → ℕ → Size
size_with w h = record { w = w; h = h }

size_same : (a b : ℕ) (s : Size) → a ≡ s.w → b ≡ s.h → size_with a b ≡ s
size_same a b s p q = ap₂ size_with p q

lone : {A : Type 0} (x y : A) (k : ℕ) → slice_get (x ∷ []) k ≡ Some y → y ≡ x
lone x y zero e = cc
lone x y (suc k) e = absurd cc

-- the first band alone
pub first_alone : (n k : ℕ) → 1 ≡ n → k < n → k ≡ 0
first_alone n k one less = omega arith

-- cells
none_broken : (h : dted.Head) (bytes : List ℕ) (k n : ℕ) → ((i : ℕ) → i < k + n → is_record (dted.part (record_of h i) (record_len h) bytes) ≡ true) → broken_in h bytes (range_with_len k n) ≡ None
none_broken h bytes k zero whole = refl
none_broken h bytes k (suc n) whole =
    ap (λ (b : Bool). cond b (Some k) (broken_in h bytes (range_with_len (k + 1) n))) (ap not (whole k (omega arith)))
    ∙ none_broken h bytes (k + 1) n (λ i less. whole i (omega arith))

whole_or_not : (h : dted.Head) (bytes name : List ℕ) → ((i : ℕ) → i < h.lines → is_record (dted.part (record_of h i) (record_len h) bytes) ≡ true) → (v : Bool) → cond v (records_whole h bytes name) (Ok tt) ≡ Ok tt
whole_or_not h bytes name whole true = ap (all_whole name) (none_broken h bytes 0 h.lines (λ i less. whole i (omega arith)))
whole_or_not h bytes name whole false = refl

cell_there : (name bytes : List ℕ) (h : dted.Head) → dted.dted_head bytes ≡ Ok h → length bytes ≡ places.needed_of h → cell_in bytes name ≡ Ok h
unfolding cell_in
cell_there name bytes h is long =
    ap (λ (r : Result dted.Head DtedFault). named (λ f. Malformed name (bad.Dted f)) r >>= λ head. (long_enough (places.needed_of head) bytes name >>= λ e. Ok head)) is
    ∙ ap (λ (r : Result (Unit {0}) WalkFault). r >>= λ e. Ok h) (enough (places.needed_of h) bytes name long)

dted_found : (m : Files) (v : Bool) (name bytes : List ℕ) (h : dted.Head) → get m name ≡ Some bytes → dted.dted_head bytes ≡ Ok h → length bytes ≡ places.needed_of h → ((i : ℕ) → i < h.lines → is_record (dted.part (record_of h i) (record_len h) bytes) ≡ true) → dted_in m v name ≡ Ok (file_of (heads.Dted h) bytes)
unfolding dted_in
dted_found m v name bytes h there is long whole =
    ap (λ (r : Result (List ℕ) WalkFault). r >>= λ found. (cell_in found name >>= λ head. (cond v (records_whole head found name) (Ok tt) >>= λ w. Ok (file_of (heads.Dted head) found)))) (file_there m name bytes there)
    ∙ ap (λ (r : Result dted.Head WalkFault). r >>= λ head. (cond v (records_whole head bytes name) (Ok tt) >>= λ w. Ok (file_of (heads.Dted head) bytes))) (cell_there name bytes h is long)
    ∙ ap (λ (r : Result (Unit {0}) WalkFault). r >>= λ w. Ok (file_of (heads.Dted h) bytes)) (whole_or_not h bytes name whole v)

cell_written : (level : ℕ) (size : Size) (geo : Option Transform) (h : dted.Head) → fits.cell_in level size geo ≡ Some h → CanBeWritten h
cell_written level size None h e = absurd cc
cell_written level size (Some g) h e = cell_rules level size g h e

pub cell_decoded : (m : Files) (v : Bool) (name : List ℕ) (p : Planned) (samples : ℕ → ℕ → ℕ → ℤ) (level : ℕ) (h : dted.Head) → IsPlan p → p.driver ≡ Dted level → IsReadable p name → fits.cell_in level p.size p.geo ≡ Some h → AreSamplesOf (Blocks (writers.Dted (cell_with_front h (head_text h)))) samples → HasFiles m (files_of (Blocks (writers.Dted (cell_with_front h (head_text h)))) name samples) → IsDecoded m v name p samples
cell_decoded m v name p samples level h plan driver is fit held has =
    let c : Cell = cell_with_front h (head_text h) in
    let bytes : List ℕ = cell_bytes c samples in
    let rules = cell_written level p.size p.geo h fit in
    let size = cell_size level p.size p.geo h fit in
    let one = one_band p (Dted level) plan driver refl in
    let front : length (head_text h) ≡ record_of h 0 = (let a = head_len h in let b = rules.plain.front in omega arith) in
    let there : get m name ≡ Some bytes = first_file m (name, bytes) [] has in
    let read : dted.dted_head bytes ≡ Ok h = front_head h (flat_map (λ x. record_bytes x (column_at samples h.points x)) (range_with_len 0 h.lines)) rules.head rules.plain in
    let points : h.points < 10000 = rules.head.points.1 in
    let bands : BandsHold (Dted level) p.bands = subst (λ d. BandsHold d p.bands) driver plan.alike in
    let record_is : (i : ℕ) → i < h.lines → is_record (dted.part (record_of h i) (record_len h) bytes) ≡ true = λ i less.
    ap is_record (record_at c samples i front less) ∙ record_whole i (column_at samples h.points i) (let n = length-map-range_with_len (λ y. samples 0 i y) 0 h.points in omega arith) in
    decoded_from m v name bytes p (heads.Dted h) samples is.extension
    (λ w. ap (λ d. found_in (kind_by d) m w name) driver ∙ dted_found m w name bytes h there read (cell_len c samples front) record_is) there
    (record {
      size = size_same h.lines h.points p.size size.0 size.1;
      count = one;
      bands = λ k b x at found.
          let same = one_of (λ b. (b.kind ≡ Int16) × (b.nodata ≡ Some (negsuc 32766))) p.bands k b bands at in
          let here : x ≡ dted_band h = lone (dted_band h) x k found in
          record {
            kind_is = ap (λ (y : BandHead). y.kind) here ∙ sym same.0 ∙ ap (λ d. kind_read d b.kind) (sym driver);
            nodata_is = ap (λ (y : BandHead). y.nodata) here ∙ sym same.1;
          };
      pixels = λ k x y band column line.
          cell_sample c samples x y front (omega arith) (omega arith) (λ a b less row. elevation_of (samples 0 a b) (held 0 a b (record { band = omega arith; column = less; line = row })))
          ∙ ap (λ i. samples i x y) (sym (first_alone (length p.bands) k one band));
    })

-- tiles
side_known : (side : ℕ) → IsSide side → side_of_length (2 * (side * side)) ≡ Some side
side_known side (inl e) = rw e refl
side_known side (inr e) = rw e refl

tile_place : (name : List ℕ) (size : Size) (geo : Option Transform) → fits.is_named name (fits.tile_in size geo) ≡ true → (c : Place) × (corner_of (last_part name) ≡ Some c)
tile_place name size None is = absurd cc
tile_place name size (Some g) is = by (tile_of size g) refl is
  where
    by : (t : Option Place) → tile_of size g ≡ t → fits.is_named name t ≡ true → (c : Place) × (corner_of (last_part name) ≡ Some c)
    by None e is = absurd cc
    by (Some c) e is =
        let t = tiles.tile_is size g c e in
        (c, name_read (last_part name) c (record { lat = omega (arith, ints, t.lat_least, t.lat_most); lon = omega (arith, ints, t.lon_least, t.lon_most) }) is)

hgt_found : (m : Files) (name bytes : List ℕ) (side : ℕ) (c : Place) → corner_of (last_part name) ≡ Some c → get m name ≡ Some bytes → side_of_length (length bytes) ≡ Some side → hgt_in m name ≡ Ok (file_of (heads.Hgt side) bytes)
unfolding hgt_in
hgt_found m name bytes side c corner there long =
    ap (λ (o : Option Place). ok_or o (Malformed name (bad.Hgt BadName)) >>= λ place. (file_in m name >>= λ found. (ok_or (side_of_length (length found)) (Malformed name (bad.Hgt BadLength)) >>= λ side. Ok (file_of (heads.Hgt side) found)))) corner
    ∙ ap (λ (r : Result (List ℕ) WalkFault). r >>= λ found. (ok_or (side_of_length (length found)) (Malformed name (bad.Hgt BadLength)) >>= λ side. Ok (file_of (heads.Hgt side) found))) (file_there m name bytes there)
    ∙ ap (λ (o : Option ℕ). ok_or o (Malformed name (bad.Hgt BadLength)) >>= λ side. Ok (file_of (heads.Hgt side) bytes)) long

pub tile_decoded : (m : Files) (v : Bool) (name : List ℕ) (p : Planned) (samples : ℕ → ℕ → ℕ → ℤ) → IsPlan p → p.driver ≡ SrtmHgt → IsReadable p name → AreSamplesOf (Blocks (writers.Hgt p.size.w)) samples → HasFiles m (files_of (Blocks (writers.Hgt p.size.w)) name samples) → IsDecoded m v name p samples
tile_decoded m v name p samples plan driver is held has =
    let side : ℕ = p.size.w in
    let bytes : List ℕ = tile_bytes side samples in
    let square = tile_square p.size p.geo (tile_is p plan driver) in
    let one = one_band p SrtmHgt plan driver refl in
    let there : get m name ≡ Some bytes = first_file m (name, bytes) [] has in
    let corner = tile_place name p.size p.geo (ap (λ d. fits.holds_name d name p.size p.geo) (sym driver) ∙ is.corner) in
    let long : side_of_length (length bytes) ≡ Some side = ap side_of_length (tile_len side samples) ∙ side_known side square.1 in
    let bands : BandsHold SrtmHgt p.bands = subst (λ d. BandsHold d p.bands) driver plan.alike in
    decoded_from m v name bytes p (heads.Hgt side) samples is.extension
    (λ w. ap (λ d. found_in (kind_by d) m w name) driver ∙ hgt_found m name bytes side corner.0 corner.1 there long) there
    (record {
      size = size_same side side p.size refl square.0;
      count = one;
      bands = λ k b x at found.
          let same = one_of (λ b. (b.kind ≡ Int16) × (b.nodata ≡ Some (negsuc 32767))) p.bands k b bands at in
          let here : x ≡ hgt_band side = lone (hgt_band side) x k found in
          record {
            kind_is = ap (λ (y : BandHead). y.kind) here ∙ sym same.0 ∙ ap (λ d. kind_read d b.kind) (sym driver);
            nodata_is = ap (λ (y : BandHead). y.nodata) here ∙ sym same.1;
          };
      pixels = λ k x y band column line.
          tile_sample side samples x y column (let e = square.0 in omega arith) (λ a b less row. held 0 a b (record { band = omega arith; column = less; line = row }))
          ∙ ap (λ i. samples i x y) (sym (first_alone (length p.bands) k one band));
    })
