-- The files of an output are accepted as a dataset, whose pixels are the output's samples.
use Rattle.std.proofs.Common.{◌≡◌, ℕ, zero, suc, ℤ, pos, negsuc, ◌+◌, ◌-◌, ◌*◌, ◌<◌, ◌≤◌, Bool, true, false, not, cond, List, [], ◌∷◌, ◌++◌, length, map, replicate, get_or, refl, sym, ap, ◌∙◌, subst, arith, zero-add, Option, Some, None, Result, Ok, Err}
use Rattle.std.specs.Prelude.{nat_lt, ok_or, option_map, option_and_then, slice_get, is_some, IfSome, codes}
use Rattle.std.specs.Option.{unwrap_or}
use Rattle.std.specs.List.{All, flat_map, range_with_len}
use Rattle.std.specs.FinMap.{get}
use Rattle.std.proofs.lemmas.Bool.Decides.{nat_tests}
use Rattle.std.proofs.lemmas.List.{length-replicate}
use Rattle.std.proofs.lemmas.List.FromFn.{length-map-range_with_len, get_or-map-range_with_len}
use Rattle.std.proofs.lemmas.Option.{get_or_from_slice_get, slice_get_within}
use Rattle.lists_and_answers.specs.Answers.{◌>>=◌}
use Rattle.geotransform.specs.Types.{is_in}
use Rattle.geotransform.specs.Geo.{Transform}
use Rattle.geotransform.specs.declared.types.Size.{Size}
use Rattle.geotransform.specs.declared.types.PixelType.TheVariants.{Int16, Int32}
use Rattle.outside.specs.Outside.{Files}
use Rattle.outside.specs.Names.{extension_of, header_of, is_raw, last_part}
use Rattle.outside.specs.declared.name.Ext.{Ext}
use Rattle.outside.specs.declared.name.Ext.TheVariants as ext
use Rattle.esri_hdr.specs.Head.{Head, IsHead, esri_head}
use Rattle.esri_hdr.specs.Text.{hdr_text}
use Rattle.esri_hdr.proofs.HeadAgain.{hdr_again}
use Rattle.interleaved_raw.specs.Raw as raw
use Rattle.dted_records.specs.Head as dted
use Rattle.dted_records.specs.Fit as fit
use Rattle.dted_records.specs.Places as dted_places
use Rattle.dted_records.specs.Text.{head_text}
use Rattle.dted_records.proofs.HeadAgain.{head_len}
use Rattle.hgt_tiles.specs.Names as hgt_names
use Rattle.hgt_tiles.specs.Places as hgt_places
use Rattle.hgt_tiles.proofs.Fits as hgt_fits
use Rattle.ascii_grid.specs.Grid as ascii
use Rattle.ascii_grid.specs.Values.{is_value}
use Rattle.ascii_grid.specs.Text as grid_text
use Rattle.ascii_grid.proofs.Again.{grid_again}
use Rattle.catalog.specs.declared.kind.BandHead.{BandHead}
use Rattle.catalog.specs.declared.kind.Kind.{Kind}
use Rattle.catalog.specs.declared.kind.Kind.TheVariants as kinds
use Rattle.catalog.specs.declared.driver.Found.{Found}
use Rattle.catalog.specs.declared.driver.DriverHead.{DriverHead}
use Rattle.catalog.specs.declared.driver.DriverHead.TheVariants as heads
use Rattle.catalog.specs.declared.driver.Content.TheVariants.{File}
use Rattle.catalog.specs.declared.faults.Bad.TheVariants as bad
use Rattle.catalog.specs.declared.faults.WalkFault.{WalkFault}
use Rattle.catalog.specs.declared.faults.WalkFault.TheVariants.{Absent, NotRecognized, Malformed, Short}
use Rattle.catalog.specs.Drivers.{Dataset, dataset_of, head_told, raw_band}
use Rattle.catalog.specs.Heads.{file_in, kind_of, kind_in, named, long_enough, header_in, raw_in, found_in, dataset_by, dataset_in, names_within, head_in}
use Rattle.catalog.specs.Pixels.{sample_in, file_pixel, pixel_step, pixel_within, found_in_folder, told, pixel_of_name}
use Rattle.translate_plan.specs.declared.options.Driver.{Driver}
use Rattle.translate_plan.specs.declared.options.Driver.TheVariants.{EHdr, Dted, SrtmHgt, AaiGrid, Vrt}
use Rattle.translate_plan.specs.declared.band.OutBand.{OutBand}
use Rattle.translate_plan.specs.Options.{driver_for}
use Rattle.translate_plan.specs.Bands.{no_out_band}
use Rattle.translate_plan.specs.Plan.{Planned, first_band, raw_head, BandsHold, IsAlike, IsPlan}
use Rattle.translate_plan.proofs.Written.{raw_is_head}
use Rattle.write_back.specs.declared.forms.Writer.TheVariants as writers
use Rattle.write_back.specs.Files.{files_of, raw_bytes, IsTight}
use Rattle.write_back.specs.Plans.{IsNamedFor}
use Rattle.write_back.specs.Reading.{HasFiles, kind_read, AreSamplesOf, IsBandOf, IsDecoded, IsReadable}
use Rattle.write_back.specs.View.{Blocks, is_writable, IsIn}
use Rattle.write_back.proofs.Data.{len_by}
use Rattle.write_back.proofs.Decoded.{raw_len, raw_sample}
use Rattle.write_back.proofs.Outputs.{one_of}
use Rattle.write_back.proofs.Plain.{plain_tight}

-- the kind that a driver's files are of
abbrev pub kind_by : Driver → Kind
kind_by EHdr = kinds.Raw
kind_by (Dted level) = kinds.Dted
kind_by SrtmHgt = kinds.Hgt
kind_by AaiGrid = kinds.Ascii
kind_by Vrt = kinds.Vrt

kind_of_ext : (x : Ext) → kind_of x ≡ Some (kind_by (driver_for x))
kind_of_ext ext.Bil = refl
kind_of_ext ext.Bip = refl
kind_of_ext ext.Bsq = refl
kind_of_ext ext.Dt0 = refl
kind_of_ext ext.Dt1 = refl
kind_of_ext ext.Dt2 = refl
kind_of_ext ext.Hgt = refl
kind_of_ext ext.Asc = refl
kind_of_ext ext.Grd = refl
kind_of_ext ext.Vrt = refl

named_kind : (e : Option Ext) (d : Driver) → option_map driver_for e ≡ Some d → option_and_then kind_of e ≡ Some (kind_by d)
named_kind None d is = absurd cc
named_kind (Some x) d is = kind_of_ext x ∙ ap (option_map kind_by) is

-- raw data has a header beside it
abbrev raw_by : Driver → Bool
raw_by EHdr = true
raw_by (Dted level) = false
raw_by SrtmHgt = false
raw_by AaiGrid = false
raw_by Vrt = false

raw_of_ext : (x : Ext) → is_raw (Some x) ≡ raw_by (driver_for x)
raw_of_ext ext.Bil = refl
raw_of_ext ext.Bip = refl
raw_of_ext ext.Bsq = refl
raw_of_ext ext.Dt0 = refl
raw_of_ext ext.Dt1 = refl
raw_of_ext ext.Dt2 = refl
raw_of_ext ext.Hgt = refl
raw_of_ext ext.Asc = refl
raw_of_ext ext.Grd = refl
raw_of_ext ext.Vrt = refl

some_driver : (a b : Driver) → Some a ≡ Some b → a ≡ b
some_driver a b e = cc

raw_ext : (e : Option Ext) (d : Driver) → option_map driver_for e ≡ Some d → d ≡ EHdr → is_raw e ≡ true
raw_ext None d is same = absurd cc
raw_ext (Some x) d is same = raw_of_ext x ∙ ap raw_by (some_driver (driver_for x) d is ∙ same)

pub named_raw : (p : Planned) (name : List ℕ) → IsNamedFor p name → p.driver ≡ EHdr → is_raw (extension_of name) ≡ true
named_raw p name is same = raw_ext (extension_of name) p.driver is same

-- files that are there
pub file_there : (m : Files) (name bytes : List ℕ) → get m name ≡ Some bytes → file_in m name ≡ Ok bytes
file_there m name bytes there = ap (λ (o : Option (List ℕ)). ok_or o (Absent name)) there

pub first_file : (m : Files) (f : List ℕ × List ℕ) (fs : List (List ℕ × List ℕ)) → HasFiles m (f ∷ fs) → get m f.0 ≡ Some f.1
first_file m f fs has = has.0

other_files : (m : Files) (f : List ℕ × List ℕ) (fs : List (List ℕ × List ℕ)) → HasFiles m (f ∷ fs) → HasFiles m fs
other_files m f fs has = has.1

not_below : (n k : ℕ) → n ≡ k → nat_lt n k ≡ false
not_below n k e = grind (arith, nat_tests)

pub enough : (n : ℕ) (bytes name : List ℕ) → length bytes ≡ n → long_enough n bytes name ≡ Ok tt
enough n bytes name e = ap (λ (b : Bool). cond b (Err (Short name n (length bytes))) (Ok tt)) (not_below (length bytes) n e)

-- what is found of a file
abbrev pub file_of : DriverHead → List ℕ → Found
file_of h bytes = record { content = File h; length = length bytes }

dataset_from : (m : Files) (v : Bool) (name bytes : List ℕ) (p : Planned) (h : DriverHead) → IsNamedFor p name → found_in (kind_by p.driver) m v name ≡ Ok (file_of h bytes) → dataset_in m v name ≡ Ok (dataset_of name (file_of h bytes))
unfolding dataset_in dataset_by
dataset_from m v name bytes p h is found =
    ap (λ (o : Option Kind). ok_or o (NotRecognized name) >>= λ kind. dataset_by kind m v name) (named_kind (extension_of name) p.driver is)
    ∙ ap (λ (r : Result Found WalkFault). r >>= λ f. Ok (dataset_of name f)) found

head_from : (m : Files) (v : Bool) (name bytes : List ℕ) (h : DriverHead) → dataset_in m v name ≡ Ok (dataset_of name (file_of h bytes)) → head_in m v name ≡ Ok (head_told name h)
unfolding head_in
head_from m v name bytes h is = ap (λ (r : Result Dataset WalkFault). r >>= λ d. names_within name d.content >>= λ within. Ok d.head) is

name_told : (name : List ℕ) (h : DriverHead) → (head_told name h).name ≡ name
name_told name (heads.Raw h) = refl
name_told name (heads.Dted h) = refl
name_told name (heads.Hgt side) = refl
name_told name (heads.Ascii h) = refl

pixel_from : (m : Files) (name bytes : List ℕ) (h : DriverHead) (k x y : ℕ) → dataset_in m false name ≡ Ok (dataset_of name (file_of h bytes)) → get m name ≡ Some bytes → pixel_of_name m name k x y ≡ sample_in h bytes k x y
unfolding pixel_of_name
pixel_from m name bytes h k x y is there =
    ap (λ (r : Result Dataset WalkFault). pixel_step (found_in_folder m) (pixel_within (found_in_folder m) m 16) m (told r) k x y) is
    ∙ ap (λ (n : List ℕ). file_pixel m n h k x y) (name_told name h)
    ∙ ap (λ (o : Option (List ℕ)). sample_in h (unwrap_or o []) k x y) there

-- what is asked of the head of a file, and of its samples
pub record Agrees (name bytes : List ℕ) (p : Planned) (h : DriverHead) (samples : ℕ → ℕ → ℕ → ℤ) : Type 0 where
  pub size : (head_told name h).size ≡ p.size
  pub count : length (head_told name h).bands ≡ length p.bands
  pub bands : (k : ℕ) (b : OutBand) (c : BandHead) → slice_get p.bands k ≡ Some b → slice_get (head_told name h).bands k ≡ Some c → IsBandOf p.driver b c
  pub pixels : (k x y : ℕ) → k < length p.bands → x < p.size.w → y < p.size.h → sample_in h bytes k x y ≡ samples k x y

pub decoded_from : (m : Files) (v : Bool) (name bytes : List ℕ) (p : Planned) (h : DriverHead) (samples : ℕ → ℕ → ℕ → ℤ) → IsNamedFor p name → ((w : Bool) → found_in (kind_by p.driver) m w name ≡ Ok (file_of h bytes)) → get m name ≡ Some bytes → Agrees name bytes p h samples → IsDecoded m v name p samples
decoded_from m v name bytes p h samples is found there agrees = record {
  head = head_told name h;
  accepted = head_from m v name bytes h (dataset_from m v name bytes p h is (found v));
  size_is = agrees.size;
  count_is = agrees.count;
  bands_are = agrees.bands;
  pixels_are = λ k x y band column line. pixel_from m name bytes h k x y (dataset_from m false name bytes p h is (found false)) there ∙ agrees.pixels k x y band column line;
}

-- raw data
header_found : (m : Files) (name : List ℕ) (h : Head) → IsHead h → get m name ≡ Some (hdr_text h) → header_in m name ≡ Ok h
unfolding header_in
header_found m name h is there =
    ap (λ (r : Result (List ℕ) WalkFault). r >>= λ bytes. named (λ f. Malformed name (bad.Hdr f)) (esri_head bytes)) (file_there m name (hdr_text h) there)
    ∙ ap (named (λ f. Malformed name (bad.Hdr f))) (hdr_again h is)

raw_found : (m : Files) (name bytes : List ℕ) (h : Head) → IsHead h → length bytes ≡ raw.needed_of h → get m name ≡ Some bytes → get m (header_of name) ≡ Some (hdr_text h) → raw_in m name ≡ Ok (file_of (heads.Raw h) bytes)
unfolding raw_in
raw_found m name bytes h is long there header =
    ap (λ (r : Result (List ℕ) WalkFault). r >>= λ found. (header_in m (header_of name) >>= λ head. (long_enough (raw.needed_of head) found name >>= λ e. Ok (file_of (heads.Raw head) found)))) (file_there m name bytes there)
    ∙ ap (λ (r : Result Head WalkFault). r >>= λ head. (long_enough (raw.needed_of head) bytes name >>= λ e. Ok (file_of (heads.Raw head) bytes))) (header_found m (header_of name) h is header)
    ∙ ap (λ (r : Result (Unit {0}) WalkFault). r >>= λ e. Ok (file_of (heads.Raw h) bytes)) (enough (raw.needed_of h) bytes name long)

same_item : {A : Type 0} (n k : ℕ) (x y : A) → slice_get (replicate n x) k ≡ Some y → y ≡ x
same_item zero k x y e = absurd cc
same_item (suc n) zero x y e = cc
same_item (suc n) (suc k) x y e = same_item n k x y e

pub raw_decoded : (m : Files) (v : Bool) (name : List ℕ) (p : Planned) (samples : ℕ → ℕ → ℕ → ℤ) → IsPlan p → p.driver ≡ EHdr → IsReadable p name → AreSamplesOf (Blocks (writers.Raw (raw_head p))) samples → HasFiles m (files_of (Blocks (writers.Raw (raw_head p))) name samples) → IsDecoded m v name p samples
raw_decoded m v name p samples plan driver is held has =
    let h : Head = raw_head p in
    let bytes : List ℕ = raw_bytes h samples in
    let rules : IsHead h = raw_is_head p plan in
    let tight : IsTight h = plain_tight p.size (length p.bands) _ p.layout _ _ in
    let long : length bytes ≡ raw.needed_of h = raw_len h samples ∙ sym (len_by h.layout h rules tight.skip tight.rows) in
    let there : get m name ≡ Some bytes = first_file m (name, bytes) ((header_of name, hdr_text h) ∷ []) has in
    let beside : get m (header_of name) ≡ Some (hdr_text h) = first_file m (header_of name, hdr_text h) [] (other_files m (name, bytes) ((header_of name, hdr_text h) ∷ []) has) in
    let alike : BandsHold EHdr p.bands = subst (λ d. BandsHold d p.bands) driver plan.alike in
    decoded_from m v name bytes p (heads.Raw h) samples is.extension
    (λ w. ap (λ d. found_in (kind_by d) m w name) driver ∙ raw_found m name bytes h rules long there beside) there
    (record {
      size = refl;
      count = length-replicate (length p.bands) (raw_band h);
      bands = λ k b c at found.
          let same : IsAlike (first_band p) b = one_of (IsAlike (first_band p)) p.bands k b (alike 0 no_out_band plan.some_band) at in
          let here : c ≡ raw_band h = same_item (length p.bands) k (raw_band h) c found in
          record {
            kind_is = ap (λ (x : BandHead). x.kind) here ∙ same.kind ∙ ap (λ d. kind_read d b.kind) (sym driver);
            nodata_is = ap (λ (x : BandHead). x.nodata) here ∙ same.nodata;
          };
      pixels = λ k x y band column line. raw_sample h samples k x y tight (record { band = band; column = column; line = line }) (held k x y (record { band = band; column = column; line = line }));
    })
