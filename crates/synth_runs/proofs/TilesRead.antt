-- The tiles are read as what they were written from.
use Rattle.std.proofs.Common.{◌≡◌, ◌∙◌, ap, refl, ℕ, zero, suc, ◌+◌, ◌-◌, ◌*◌, ◌<◌, Bool, false, List, length, Option, Some, Result, Ok, Err, cond, arith}
use Rattle.std.specs.Prelude.{flat_map, nat_lt, ok_or}
use Rattle.std.specs.FinMap.{get}
use Rattle.std.specs.List.{range_with_len}
use Rattle.std.proofs.lemmas.Bool.Decides.{nat_tests}
use Rattle.std.proofs.lemmas.List.{length-append}
use Rattle.lists_and_answers.specs.Answers.{◌>>=◌}
use Rattle.geotransform.specs.Geo.{IsRaster}
use Rattle.geotransform.specs.declared.types.PixelType.TheVariants.{Int16}
use Rattle.outside.specs.Names.{header_of, extension_of, ending_of, last_part, extension_of_ending}
use Rattle.outside.specs.Outside.{Files}
use Rattle.esri_hdr.specs.Head.{Head, IsHead, esri_head, raw_geo_of}
use Rattle.esri_hdr.specs.Text.{hdr_text}
use Rattle.esri_hdr.specs.declared.header_parts.HdrFault.{HdrFault}
use Rattle.esri_hdr.specs.declared.header_parts.Layout.TheVariants.{Bil}
use Rattle.esri_hdr.proofs.HeadAgain.{hdr_again}
use Rattle.esri_hdr.proofs.Heads.{held_fits, plain_is_head}
use Rattle.interleaved_raw.specs.Raw.{needed_of, sample_bytes}
use Rattle.interleaved_raw.proofs.Writes.{sample_bytes_len}
use Rattle.catalog.specs.Drivers.{dataset_of}
use Rattle.catalog.specs.Heads.{named, kind_in, header_in, long_enough, raw_in, dataset_by, dataset_in}
use Rattle.catalog.specs.declared.kind.Kind.{Kind}
use Rattle.catalog.specs.declared.kind.Kind.TheVariants as kinds
use Rattle.catalog.specs.declared.driver.Found.{Found}
use Rattle.catalog.specs.declared.driver.DriverHead.TheVariants as drivers
use Rattle.catalog.specs.declared.driver.Content.TheVariants.{File}
use Rattle.catalog.specs.declared.faults.Bad.TheVariants as bad
use Rattle.catalog.specs.declared.faults.WalkFault.{WalkFault}
use Rattle.catalog.specs.declared.faults.WalkFault.TheVariants.{Absent, Malformed, Short}
use Rattle.synthetic_rasters.specs.Names.{tile_name}
use Rattle.synthetic_rasters.specs.Tiles.{IsSide, nodata, tile_place, tile_head, tile_sample, line_bytes, tile_data}
use Rattle.synth_runs.proofs.Standing.{TilesStand, tile_dataset}

-- pieces that are all as long
pieces_long : {T : Type 0} (f : ℕ → List T) (k a n : ℕ) → ((i : ℕ) → length (f i) ≡ k) → length (flat_map f (range_with_len a n)) ≡ n * k
pieces_long f k a zero each = omega arith
pieces_long f k a (suc n) each = length-append (f a) (flat_map f (range_with_len (a + 1) n)) ∙ omega (arith, each a, pieces_long f k (a + 1) n each)

-- the bytes of a tile, two for each sample
tile_long : (n t : ℕ) → length (tile_data n t) ≡ n * (n * 2)
unfolding tile_data
tile_long n t = pieces_long (line_bytes n t) (n * 2) 0 n (λ y. pieces_long (λ x. sample_bytes (tile_head n t) (tile_sample t x y)) 2 0 n (λ x. sample_bytes_len (tile_head n t) (tile_sample t x y)))

last_sample : (n k : ℕ) → n ≡ k + 1 → 0 + k * (1 * (n * 2)) + (1 - 1) * (n * 2) + k * 2 + 2 ≡ n * (n * 2)
last_sample n k is = rw is (omega arith)

needed : (n t : ℕ) → IsSide n → needed_of (tile_head n t) ≡ n * (n * 2)
needed n t side = last_sample n (n - 1) (omega (arith, side.some))

never_below : (a b : ℕ) → a ≡ b → nat_lt a b ≡ false
never_below a b is = grind (arith, nat_tests)

enough : (n t : ℕ) → IsSide n → nat_lt (length (tile_data n t)) (needed_of (tile_head n t)) ≡ false
enough n t side = never_below (length (tile_data n t)) (needed_of (tile_head n t)) (tile_long n t ∙ omega (arith, needed n t side))

-- the head of a tile keeps the rules of a head
raster : (n : ℕ) → IsSide n → IsRaster (record { w = n; h = n })
raster n side = record {
  some_columns = omega (arith, side.some);
  some_lines = omega (arith, side.some);
  columns = omega (arith, side.few);
  lines = omega (arith, side.few);
}

pub tile_is_head : (n t : ℕ) → IsSide n → IsHead (tile_head n t)
tile_is_head n t side = plain_is_head (record { w = n; h = n }) 1 Int16 Bil (Some nodata) (raw_geo_of (tile_place n t)) (raster n side) (omega arith) (omega arith) refl (held_fits (tile_place n t))

-- what is found of raw data and its header
header_found : (m : Files) (name : List ℕ) (h : Head) → get m name ≡ Some (hdr_text h) → IsHead h → header_in m name ≡ Ok h
unfolding header_in
header_found m name h at is =
    ap (λ (o : Option (List ℕ)). ok_or o (Absent name) >>= λ bytes. named (λ f. Malformed name (bad.Hdr f)) (esri_head bytes)) at
    ∙ ap (λ (r : Result Head HdrFault). named (λ f. Malformed name (bad.Hdr f)) r) (hdr_again h is)

raw_found : (m : Files) (name bytes : List ℕ) (h : Head) → get m name ≡ Some bytes → header_in m (header_of name) ≡ Ok h → nat_lt (length bytes) (needed_of h) ≡ false → raw_in m name ≡ Ok (record { content = File (drivers.Raw h); length = length bytes })
unfolding raw_in
raw_found m name bytes h at header long =
    ap (λ (o : Option (List ℕ)). ok_or o (Absent name) >>= λ read. (header_in m (header_of name) >>= λ head. (long_enough (needed_of head) read name >>= λ enough. Ok (record { content = File (drivers.Raw head); length = length read })))) at
    ∙ ap (λ (r : Result Head WalkFault). r >>= λ head. (long_enough (needed_of head) bytes name >>= λ enough. Ok (record { content = File (drivers.Raw head); length = length bytes }))) header
    ∙ ap (λ (short : Bool). cond short (Err (Short name (needed_of h) (length bytes))) (Ok tt) >>= λ enough. Ok (record { content = File (drivers.Raw h); length = length bytes })) long

pub raw_dataset : (m : Files) (verify : Bool) (name : List ℕ) (found : Found) → kind_in name ≡ Ok kinds.Raw → raw_in m name ≡ Ok found → dataset_in m verify name ≡ Ok (dataset_of name found)
unfolding dataset_in dataset_by
raw_dataset m verify name found kind is =
    ap (λ (k : Result Kind WalkFault). k >>= λ kind. dataset_by kind m verify name) kind
    ∙ ap (λ (r : Result Found WalkFault). r >>= λ f. Ok (dataset_of name f)) is

-- the names of the tiles tell raw data
pub tile_kind : (t : ℕ) → t < 4 → kind_in (tile_name t) ≡ Ok kinds.Raw
unfolding extension_of extension_of_ending ending_of last_part
tile_kind zero less = refl
tile_kind (suc zero) less = refl
tile_kind (suc (suc zero)) less = refl
tile_kind (suc (suc (suc zero))) less = refl
tile_kind (suc (suc (suc (suc t)))) less = absurd (omega (arith, less))

-- each tile is read as its dataset
pub tile_reads : (n t : ℕ) → IsSide n → t < 4 → (m : Files) → (verify : Bool) → TilesStand n m → dataset_in m verify (tile_name t) ≡ Ok (tile_dataset n t)
tile_reads n t side less m verify stand =
    let header : header_in m (header_of (tile_name t)) ≡ Ok (tile_head n t) = header_found m (header_of (tile_name t)) (tile_head n t) (stand.header t less) (tile_is_head n t side) in
    raw_dataset m verify (tile_name t) (record { content = File (drivers.Raw (tile_head n t)); length = length (tile_data n t) }) (tile_kind t less)
    (raw_found m (tile_name t) (tile_data n t) (tile_head n t) (stand.samples t less) header (enough n t side))
