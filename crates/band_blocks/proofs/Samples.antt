-- Single samples of files, and where they stand.
use Rattle.std.proofs.Common.{◌≡◌, ◌∙◌, ap, sym, subst, refl, inl, inr, ℕ, ℤ, ◌+◌, ◌-◌, ◌*◌, ◌/◌, ◌<◌, ◌≤◌, List, [], length, replicate, take, drop, Option, Some, true, arith}
use Rattle.std.specs.Prelude.{slice_get, option_map, IfOk, IfSome, IsSome, Result, Ok, Err, nat_eq}
use Rattle.std.specs.Option.{unwrap_or, IsSomeAnd}
use Rattle.std.specs.Map.{lookup}
use Rattle.std.specs.FinMap.{get}
use Rattle.std.proofs.Math.Nat.{mul-le-mul}
use Rattle.std.proofs.lemmas.List.{length-replicate}
use Rattle.geotransform.specs.Types.{is_in}
use Rattle.geotransform.specs.Geo.{IsRaster}
use Rattle.geotransform.specs.declared.types.PixelType.{PixelType}
use Rattle.geotransform.specs.declared.types.Size.{Size}
use Rattle.outside.specs.Outside.{Files}
use Rattle.interleaved_raw.proofs.Order.{ends_within}
use Rattle.dted_records.specs.Head as dted
use Rattle.dted_records.specs.Places as dted_places
use Rattle.dted_records.specs.Records.{point_place_of}
use Rattle.catalog.specs.declared.driver.Content.{Content}
use Rattle.catalog.specs.declared.driver.Content.TheVariants.{File, Mosaic}
use Rattle.catalog.specs.declared.driver.DriverHead.{DriverHead}
use Rattle.catalog.specs.declared.driver.DriverHead.TheVariants.{Raw, Dted, Hgt, Ascii}
use Rattle.catalog.specs.Dataset.{DatasetHead, block_of}
use Rattle.catalog.specs.declared.kind.Kind.{Kind}
use Rattle.catalog.specs.declared.kind.Kind.TheVariants as kinds
use Rattle.catalog.specs.Drivers.{Dataset, head_told, driver_of, raw_band, IsLongEnough}
use Rattle.catalog.specs.Places.{block_size, block_number_of}
use Rattle.catalog.specs.Pixels.{sample_in, pixel_of}
use Rattle.catalog.specs.Walk.{IsCatalog}
use Rattle.catalog.proofs.PixelLaws.{file_is_sample}
use Rattle.catalog.proofs.Walked.{dataset_kept}
use Rattle.band_blocks.specs.declared.key.BlockKey.{BlockKey}
use Rattle.band_blocks.specs.declared.key.PixelKey.{PixelKey}
use Rattle.band_blocks.specs.Contents.{driver_calls, content_calls, calls_of, most_calls}
use Rattle.band_blocks.specs.Loaded.{sample_type_of, HasSample, place_of, bytes_per_sample}
use Rattle.band_blocks.specs.Keys.{IsKeyOf, IsPixelKeyOf}
use Rattle.band_blocks.specs.Open.{AreGood}
use Rattle.band_blocks.specs.Samples.{HasPlaces, IsDirect, IsOfType}
use Rattle.band_blocks.proofs.Corners.{number_below}
use Rattle.band_blocks.proofs.Loads.{told_by, told_kind, some_one, driver_in, file_of, long_enough, calls_within}
use Rattle.band_blocks.proofs.Opened.{good_found, some_file}
use Rattle.band_blocks.proofs.Parts.{tile_long}

-- each elevation ends within the bytes that a cell must have
elevation_within : (h : dted.Head) (x y : ℕ) → x < h.lines → y < h.points → dted_places.record_of h x + point_place_of h y + 2 ≤ dted_places.needed_of h
elevation_within h x y column line =
    let big : (x + 1) * dted_places.record_len h ≤ h.lines * dted_places.record_len h = mul-le-mul (omega arith) (omega arith) in
    let e : (x + 1) * dted_places.record_len h ≡ x * dted_places.record_len h + dted_places.record_len h = grind arith in
    omega arith

-- each sample ends within the bytes of a tile
item_within : (side x y : ℕ) → x < side → y < side → 2 * (y * side + x) + 2 ≤ 2 * (side * side)
item_within side x y column line =
    let big : (y + 1) * side ≤ side * side = mul-le-mul (omega arith) (omega arith) in
    let e : (y + 1) * side ≡ y * side + side = grind arith in
    omega arith

-- the lines of a tile are few
pub short_side : (driver : DriverHead) (side len : ℕ) → driver ≡ Hgt side → IsLongEnough driver len → side ≤ 4194304
short_side driver side len is long =
    let t = tile_long len side (subst (λ (d : DriverHead). IsLongEnough d len) is long) in
    elim t.side_is [ inl small ↦ omega arith | inr large ↦ omega arith ]

-- each sample ends within a file that is long enough
pub sample_within : (driver : DriverHead) (band x y len : ℕ) → HasSample driver band x y → HasPlaces driver → IsLongEnough driver len → place_of driver band x y + bytes_per_sample driver ≤ len
sample_within (Raw h) band x y len there places long = let e = ends_within h band x y (record { band = there.0; column = there.1; line = there.2 }) in omega arith
sample_within (Dted h) band x y len there places long = let e = elevation_within h x y there.0 there.1 in omega arith
sample_within (Hgt side) band x y len there places long = let t = tile_long len side long in let e = item_within side x y there.0 there.1 in let n = t.long in omega arith
sample_within (Ascii h) band x y len there places long = absurd places

told_sample : (driver : DriverHead) (name : List ℕ) (band x y : ℕ) → band < length (head_told name driver).bands → x < (head_told name driver).size.w → y < (head_told name driver).size.h → HasSample driver band x y
told_sample (Raw h) name band x y known column line = let bands = length-replicate h.bands (raw_band h) in (omega (arith, bands, known), column, line)
told_sample (Dted h) name band x y known column line = (column, line)
told_sample (Hgt side) name band x y known column line = (column, line)
told_sample (Ascii h) name band x y known column line = (column, line)

-- a dataset whose head of data tells the places of its samples is one that has places
pub direct_known : (o : Option Dataset) (x : DriverHead) → driver_in o ≡ Some x → HasPlaces x → (d : Dataset) → o ≡ Some d → IsDirect d.content
direct_known o x h places d is = subst IsDirect (sym (file_of o d x is h)) places

-- it is a file
pub direct_is_file : (c : Content) → IsDirect c → IsSome (driver_of c)
direct_is_file (File h) direct = refl
direct_is_file (Mosaic d) direct = absurd direct

-- the key of the block that a pixel lies in
abbrev block_key : PixelKey → Dataset → BlockKey
block_key key d = record { dataset = key.dataset; band = key.band; block = block_number_of d.head key.x key.y }

-- a block has columns and lines
block_some : (kind : Kind) (size : Size) → IsRaster size → (0 < (block_of kind size).w) × (0 < (block_of kind size).h)
block_some kinds.Raw size r = (r.some_columns, omega arith)
block_some kinds.Dted size r = (omega arith, r.some_lines)
block_some kinds.Hgt size r = (r.some_columns, omega arith)
block_some kinds.Ascii size r = (r.some_columns, omega arith)
block_some kinds.Vrt size r = (omega arith, omega arith)

module _ (cat : List Dataset) (key : PixelKey) (d : Dataset) (valid : IsCatalog cat) (key_of : IsPixelKeyOf cat key d) where
  in_block : IsKeyOf cat (block_key key d) d
  in_block =
      let some = block_some d.head.kind d.head.size (dataset_kept cat key.dataset d valid key_of.at).valid.size in
      record { at = key_of.at; band = key_of.band; block = number_below (block_size d.head) d.head.size key.x key.y some.0 some.1 key_of.column key_of.line }

  -- a pixel of a file's dataset is one of the file's samples
  pub has_sample : (driver : DriverHead) → d.content ≡ File driver → HasSample driver key.band key.x key.y
  has_sample driver file =
      let told = told_by cat key.dataset d driver valid key_of.at file in
      told_sample driver d.head.name key.band key.x key.y (subst (λ (h : DatasetHead). key.band < length h.bands) told key_of.band) (subst (λ (h : DatasetHead). key.x < h.size.w) told key_of.column) (subst (λ (h : DatasetHead). key.y < h.size.h) told key_of.line)

  -- a sample of a file is of the type of its band
  pub of_type : {E : Type 0} (driver : DriverHead) (r : Result ℤ E) → d.content ≡ File driver → IfOk r (λ v. is_in (sample_type_of driver) v ≡ true) → IfOk r (IsOfType d key.band)
  of_type driver (Ok v) file range = λ kind is.
      let told = told_by cat key.dataset d driver valid key_of.at file in
      let band : key.band < length (head_told d.head.name driver).bands = subst (λ (h : DatasetHead). key.band < length h.bands) told key_of.band in
      let same : Some (sample_type_of driver) ≡ Some kind = sym (ap (λ (h : DatasetHead). option_map (λ c. c.kind) (slice_get h.bands key.band)) told ∙ told_kind driver d.head.name key.band band) ∙ is in
      subst (λ k. is_in k v ≡ true) (some_one (sample_type_of driver) kind same) range
  of_type driver (Err e) file range = range

  -- an open file has as many bytes as the head of its data asks
  pub sample_long : {Handle : Type 0} (bytes : Handle → Option (List ℕ)) (len : Handle → ℕ) (told : Option Files) (es : List (ℕ × Handle)) (driver : DriverHead) → AreGood bytes len told cat es → d.content ≡ File driver → IsSome (lookup (nat_eq key.dataset) es)
      → IsSomeAnd (lookup (nat_eq key.dataset) es) (λ f. IsLongEnough driver (len f))
  sample_long bytes len told es driver good file some = long_enough bytes len told cat es (block_key key d) d driver valid good in_block file some

  -- some block is loaded in a read at least
  pub one_read : (driver : DriverHead) → d.content ≡ File driver → 1 ≤ most_calls cat
  one_read driver file =
      let key' = block_key key d in
      let some : 1 ≤ calls_of d key' = subst (λ (c : Content). 1 ≤ content_calls c d.length key'.block) (sym file) (let n : 1 ≤ driver_calls driver d.length key'.block = omega arith in n) in
      let most = calls_within cat key' d in_block in
      omega (arith, some, most)

pub typed_as : {E : Type 0} (r : Result ℤ E) (d e : Dataset) (band : ℕ) → d ≡ e → IfOk r (IsOfType d band) → IfOk r (IsOfType e band)
typed_as r d e band is range = subst (λ (x : Dataset). IfOk r (IsOfType x band)) is range

answer_as : {E : Type 0} (r : Result ℤ E) (a b : ℤ) → a ≡ b → IfOk r (λ v. v ≡ a) → IfOk r (λ v. v ≡ b)
answer_as (Ok v) a b e is = is ∙ e
answer_as (Err f) a b e is = is

-- what is read of the open file of a dataset is its pixel
pub sample_told : {Handle E : Type 0} (bytes : Handle → Option (List ℕ)) (len : Handle → ℕ) (told : Option Files) (cat : List Dataset) (es : List (ℕ × Handle)) (key : PixelKey) (d : Dataset) (driver : DriverHead) (m : Files) (r : Result ℤ E)
    → AreGood bytes len told cat es → told ≡ Some m → slice_get cat key.dataset ≡ Some d → d.content ≡ File driver → IsSome (lookup (nat_eq key.dataset) es)
    → IfSome (lookup (nat_eq key.dataset) es) (λ f. (b : List ℕ) → bytes f ≡ Some b → IfOk r (λ v. v ≡ sample_in driver b key.band key.x key.y)) → IfOk r (λ v. v ≡ pixel_of m cat key.dataset key.band key.x key.y)
sample_told bytes len told cat es key d driver m r good tells at file some read =
    let f = some_file (lookup (nat_eq key.dataset) es) some in
    let is = good_found bytes len told cat es key.dataset f.0 good f.1 in
    let one : is.dataset ≡ d = some_one is.dataset d (sym is.at ∙ at) in
    let there = is.content m tells in
    let b = there.0 in
    let stored : get m d.head.name ≡ Some b = ap (λ (x : Dataset). get m x.head.name) (sym one) ∙ there.1 in
    let here : (b : List ℕ) → bytes f.0 ≡ Some b → IfOk r (λ v. v ≡ sample_in driver b key.band key.x key.y) = subst (λ o. IfSome o (λ f. (b : List ℕ) → bytes f ≡ Some b → IfOk r (λ v. v ≡ sample_in driver b key.band key.x key.y))) f.1 read in
    let pixel : sample_in driver b key.band key.x key.y ≡ pixel_of m cat key.dataset key.band key.x key.y =
    ap (λ (o : Option (List ℕ)). sample_in driver (unwrap_or o []) key.band key.x key.y) (sym stored)
    ∙ sym (file_is_sample m cat key.dataset key.band key.x key.y d driver at (ap driver_of file)) in
    answer_as r (sample_in driver b key.band key.x key.y) (pixel_of m cat key.dataset key.band key.x key.y) pixel (here b there.2)
