-- The walk from the outer mosaic meets it, the mosaic of the tiles, and the tiles.
use Rattle.std.proofs.Common.{◌≡◌, ◌∙◌, ap, sym, refl, cond, ℕ, zero, suc, pos, ◌+◌, ◌*◌, ◌<◌, Bool, true, false, List, [], ◌∷◌, ◌++◌, length, arith, Some, None, Result, Ok, Err}
use Rattle.std.specs.Prelude.{◌||◌, ok_or, nat_lt}
use Rattle.std.specs.FinMap.{get}
use Rattle.lists_and_answers.specs.Answers.{◌>>=◌}
use Rattle.lists_and_answers.specs.Lists.{is_among}
use Rattle.outside.specs.Names.{extension_of, ending_of, last_part, extension_of_ending, folder_part}
use Rattle.outside.specs.Outside.{Files}
use Rattle.outside.specs.Paths.{normal}
use Rattle.vrt_profile.specs.Values.{Rectangle, SourceValue, DocumentValue}
use Rattle.vrt_profile.specs.Built.{pixel_rectangle}
use Rattle.vrt_writing.specs.Spelled.{spelled}
use Rattle.catalog.specs.Dataset.{band_at, band_count}
use Rattle.catalog.specs.Drivers.{Dataset, dataset_of}
use Rattle.catalog.specs.Heads.{kind_in, document_in, vrt_in, dataset_by, dataset_in, resolved}
use Rattle.catalog.specs.Walk.{Met, dataset_number_in, dataset_named, sources_in, one_more_source, bands_of, band_named, is_narrow_band, unless_no_band, unless_no_samples, unless_wide, again_below, again_sources, again, visit_source, visit_sources, visit, met_at_first, walked}
use Rattle.catalog.specs.declared.driver.Content.TheVariants.{Mosaic}
use Rattle.catalog.specs.declared.driver.Found.{Found}
use Rattle.catalog.specs.declared.faults.WalkFault.{WalkFault}
use Rattle.catalog.specs.declared.faults.WalkFault.TheVariants.{Absent, Malformed, SourceBand}
use Rattle.catalog.specs.declared.faults.Bad.TheVariants as bad
use Rattle.vrt_markup.specs.declared.fault.VrtFault.TheVariants as vrt
use Rattle.vrt_profile.specs.Value.{is_plain}
use Rattle.catalog.specs.declared.kind.Kind.{Kind}
use Rattle.catalog.specs.declared.kind.Kind.TheVariants.{Raw, Vrt}
use Rattle.catalog.proofs.Again.{again_begins}
use Rattle.catalog.proofs.Visits.{IsFirst, visit_file, visit_mosaic, visit_again, source_fine}
use Rattle.synthetic_rasters.specs.Names.{tile_name, inner_name, outer_name}
use Rattle.synthetic_rasters.specs.Outer.{outer_document, outer_sources, inner_source, adding}
use Rattle.synth_runs.proofs.Standing.{MosaicsStand, tile_dataset, tile_source, inner_document, inner_dataset, outer_dataset}

-- the kinds of the names
inner_kind : kind_in inner_name ≡ Ok Vrt
unfolding extension_of ending_of last_part extension_of_ending
inner_kind = refl

outer_kind : kind_in outer_name ≡ Ok Vrt
unfolding extension_of ending_of last_part extension_of_ending
outer_kind = refl

pub tile_kind : (t : ℕ) → t < 4 → kind_in (tile_name t) ≡ Ok Raw
unfolding extension_of ending_of last_part extension_of_ending
tile_kind zero less = refl
tile_kind (suc zero) less = refl
tile_kind (suc (suc zero)) less = refl
tile_kind (suc (suc (suc zero))) less = refl
tile_kind (suc (suc (suc (suc n)))) less = absurd (omega (arith, less))

-- a dataset whose kind is known, and that of a mosaic by its text
read_by : (m : Files) (verify : Bool) (name : List ℕ) (kind : Kind) → kind_in name ≡ Ok kind → dataset_in m verify name ≡ dataset_by kind m verify name
unfolding dataset_in
read_by m verify name kind is = ap (λ r. r >>= λ k. dataset_by k m verify name) is

abbrev mosaic_found : List ℕ → DocumentValue → Found
mosaic_found bytes d = record { content = Mosaic d; length = length bytes }

mosaic_by : (m : Files) (verify : Bool) (name bytes : List ℕ) (d : DocumentValue) → get m name ≡ Some bytes → document_in bytes name ≡ Ok d → dataset_by Vrt m verify name ≡ Ok (dataset_of name (mosaic_found bytes d))
unfolding dataset_by vrt_in
mosaic_by m verify name bytes d at reads =
    ap (λ o. (ok_or o (Absent name) >>= λ b. document_in b name >>= λ document. Ok (mosaic_found b document)) >>= λ found. Ok (dataset_of name found)) at
    ∙ ap (λ r. (r >>= λ document. Ok (mosaic_found bytes document)) >>= λ found. Ok (dataset_of name found)) reads

-- what the sources name
inner_sources_are : (n : ℕ) → sources_in (inner_dataset n).content ≡ tile_source n 0 ∷ tile_source n 1 ∷ tile_source n 2 ∷ tile_source n 3 ∷ []
unfolding inner_document
inner_sources_are n = refl

outer_sources_are : (n : ℕ) → sources_in (outer_dataset n).content ≡ outer_sources n
unfolding outer_document
outer_sources_are n = refl

tile_resolved : (n t : ℕ) → t < 4 → resolved inner_name (tile_source n t) ≡ Ok (tile_name t)
unfolding normal folder_part
tile_resolved n zero less = refl
tile_resolved n (suc zero) less = refl
tile_resolved n (suc (suc zero)) less = refl
tile_resolved n (suc (suc (suc zero))) less = refl
tile_resolved n (suc (suc (suc (suc k)))) less = absurd (omega (arith, less))

inner_resolved : (side : ℕ) (dst : Rectangle) → resolved outer_name (inner_source side dst) ≡ Ok inner_name
unfolding normal folder_part
inner_resolved side dst = refl

adding_resolved : (more side : ℕ) (dst : Rectangle) → resolved outer_name (adding more (inner_source side dst)) ≡ Ok inner_name
unfolding normal folder_part
adding_resolved more side dst = refl

-- the first source is followed, then the others
sources_then : (below : Met → List ℕ → Result Met WalkFault) (base : List ℕ) (met after : Met) (s : SourceValue) (ss : List SourceValue) (r : Result Met WalkFault) → visit_source below base met s ≡ Ok after → visit_sources below base after ss ≡ r → visit_sources below base met (s ∷ ss) ≡ r
sources_then below base met after s ss r first rest = ap (λ x. x >>= λ a. visit_sources below base a ss) first ∙ rest

again_then : (below : List ℕ → Result (Unit {0}) WalkFault) (base name : List ℕ) (s : SourceValue) (ss : List SourceValue) (r : Result (Unit {0}) WalkFault) → resolved base s ≡ Ok name → below name ≡ Ok tt → again_sources below base ss ≡ r → again_sources below base (s ∷ ss) ≡ r
again_then below base name s ss r is fine rest = ap (λ x. x >>= λ k. below k >>= λ checked. again_sources below base ss) is ∙ ap (λ x. x >>= λ checked. again_sources below base ss) fine ∙ rest

-- what was met, and how many sources were counted
abbrev state : List Dataset → ℕ → Met
state ds k = record { datasets = ds; sources = k }

-- the datasets in the order in which they are met
abbrev pub outer_datasets : ℕ → List Dataset
outer_datasets n = outer_dataset n ∷ inner_dataset n ∷ tile_dataset n 0 ∷ tile_dataset n 1 ∷ tile_dataset n 2 ∷ tile_dataset n 3 ∷ []

-- the paths to the sources of each mosaic
abbrev above_inner : List (List ℕ)
above_inner = outer_name ∷ []

abbrev above_tiles : List (List ℕ)
above_tiles = inner_name ∷ outer_name ∷ []

-- a tile isn't on the path to it, and has no source
tile_off : (t : ℕ) → t < 4 → is_among above_tiles (tile_name t) ≡ false
tile_off zero less = refl
tile_off (suc zero) less = refl
tile_off (suc (suc zero)) less = refl
tile_off (suc (suc (suc zero))) less = refl
tile_off (suc (suc (suc (suc n)))) less = absurd (omega (arith, less))

-- the dataset of a name has a first band
has_first : (ds : List Dataset) (name : List ℕ) (d : Dataset) → dataset_named ds name ≡ Some d → band_count d.head ≡ 1 → unless_no_band ds name 1 ≡ Ok tt
has_first ds name d there one =
    ap (λ o. cond (nat_lt (bands_of o) 1) (Err (SourceBand name 1)) (Ok tt)) there
    ∙ ap (λ c. cond (nat_lt c 1) (Err (SourceBand name 1)) (Ok tt)) one

or_right : (a b : Bool) → b ≡ true → a || b ≡ true
or_right true b is = refl
or_right false b is = is

-- and a source takes its samples, which have at most 32 bits
takes_first : (ds : List Dataset) (base name : List ℕ) (d : Dataset) (plain : Bool) → dataset_named ds name ≡ Some d → band_count d.head ≡ 1 → is_narrow_band (band_at d.head 0) ≡ true → unless_no_samples ds base name 1 plain ≡ Ok tt
takes_first ds base name d plain there one narrow =
    ap (λ r. r >>= λ t. unless_wide ds base name 1 plain) (has_first ds name d there one)
    ∙ ap (λ o. cond (plain || is_narrow_band (band_named o 1)) (Ok tt) (Err (Malformed base (bad.Vrt vrt.Unsupported)))) there
    ∙ ap (λ b. cond b (Ok tt) (Err (Malformed base (bad.Vrt vrt.Unsupported)))) (or_right plain (is_narrow_band (band_at d.head 0)) narrow)

tile_narrow : (n t : ℕ) → is_narrow_band (band_at (tile_dataset n t).head 0) ≡ true
tile_narrow n t = refl

inner_narrow : (n : ℕ) → is_narrow_band (band_at (inner_dataset n).head 0) ≡ true
unfolding inner_document
inner_narrow n = refl

tile_banded : (n t : ℕ) → band_count (tile_dataset n t).head ≡ 1
tile_banded n t = refl

inner_banded : (n : ℕ) → band_count (inner_dataset n).head ≡ 1
unfolding inner_document
inner_banded n = refl

module _ (n : ℕ) (m : Files) (verify : Bool) where
  abbrev to_tile : Met → List ℕ → Result Met WalkFault
  to_tile met name = visit m verify 14 above_tiles met name

  abbrev to_inner : Met → List ℕ → Result Met WalkFault
  to_inner met name = visit m verify 15 above_inner met name

  -- a tile that is met for the first time
  record MeetsTile (ds : List Dataset) (k t : ℕ) : Type 0 where
    tile : t < 4
    few : length ds < 65536
    fresh : dataset_number_in ds (tile_name t) ≡ None
    there : dataset_named (ds ++ tile_dataset n t ∷ []) (tile_name t) ≡ Some (tile_dataset n t)
    counted : one_more_source k ≡ Ok tt

  tile_visited : (ds : List Dataset) (k t : ℕ) → dataset_in m verify (tile_name t) ≡ Ok (tile_dataset n t) → MeetsTile ds k t
      → visit_source to_tile inner_name (state ds k) (tile_source n t) ≡ Ok (state (ds ++ tile_dataset n t ∷ []) (k + 1))
  tile_visited ds k t reads meets =
      let kind = tile_kind t meets.tile in
      let met : IsFirst 14 above_tiles (state ds (k + 1)) (tile_name t) Raw = record { kind_is = kind; off = tile_off t meets.tile; shallow = refl; fresh = meets.fresh } in
      let visited : to_tile (state ds (k + 1)) (tile_name t) ≡ Ok (state (ds ++ tile_dataset n t ∷ []) (k + 1)) = visit_file m verify 14 above_tiles (state ds (k + 1)) (tile_name t) Raw (tile_dataset n t) met meets.few (sym (read_by m verify (tile_name t) Raw kind) ∙ reads) refl in
      source_fine to_tile inner_name (state ds k) (tile_source n t) (tile_name t) (state (ds ++ tile_dataset n t ∷ []) (k + 1)) meets.counted (tile_resolved n t meets.tile) visited
      (takes_first (ds ++ tile_dataset n t ∷ []) inner_name (tile_name t) (tile_dataset n t) (is_plain (tile_source n t)) meets.there (tile_banded n t) (tile_narrow n t))

  -- the sources of the mosaic of the tiles
  tiles_visited : ((t : ℕ) → t < 4 → dataset_in m verify (tile_name t) ≡ Ok (tile_dataset n t))
      → visit_sources to_tile inner_name (state (outer_dataset n ∷ inner_dataset n ∷ []) 1) (sources_in (inner_dataset n).content) ≡ Ok (state (outer_datasets n) 5)
  tiles_visited tiles =
      let O = outer_dataset n in let I = inner_dataset n in let T = tile_dataset n in
      let visited = λ (ds : List Dataset) (k t : ℕ) (is : MeetsTile ds k t). tile_visited ds k t (tiles t is.tile) is in
      ap (λ ss. visit_sources to_tile inner_name (state (O ∷ I ∷ []) 1) ss) (inner_sources_are n)
      ∙ sources_then to_tile inner_name (state (O ∷ I ∷ []) 1) (state (O ∷ I ∷ T 0 ∷ []) 2) (tile_source n 0) (tile_source n 1 ∷ tile_source n 2 ∷ tile_source n 3 ∷ []) (Ok (state (outer_datasets n) 5))
      (visited (O ∷ I ∷ []) 1 0 (record { tile = omega arith; few = omega arith; fresh = refl; there = refl; counted = refl }))
      (sources_then to_tile inner_name (state (O ∷ I ∷ T 0 ∷ []) 2) (state (O ∷ I ∷ T 0 ∷ T 1 ∷ []) 3) (tile_source n 1) (tile_source n 2 ∷ tile_source n 3 ∷ []) (Ok (state (outer_datasets n) 5))
      (visited (O ∷ I ∷ T 0 ∷ []) 2 1 (record { tile = omega arith; few = omega arith; fresh = refl; there = refl; counted = refl }))
      (sources_then to_tile inner_name (state (O ∷ I ∷ T 0 ∷ T 1 ∷ []) 3) (state (O ∷ I ∷ T 0 ∷ T 1 ∷ T 2 ∷ []) 4) (tile_source n 2) (tile_source n 3 ∷ []) (Ok (state (outer_datasets n) 5))
      (visited (O ∷ I ∷ T 0 ∷ T 1 ∷ []) 3 2 (record { tile = omega arith; few = omega arith; fresh = refl; there = refl; counted = refl }))
      (sources_then to_tile inner_name (state (O ∷ I ∷ T 0 ∷ T 1 ∷ T 2 ∷ []) 4) (state (outer_datasets n) 5) (tile_source n 3) [] (Ok (state (outer_datasets n) 5))
      (visited (O ∷ I ∷ T 0 ∷ T 1 ∷ T 2 ∷ []) 4 3 (record { tile = omega arith; few = omega arith; fresh = refl; there = refl; counted = refl }))
      refl)))

-- a tile that was met, and the mosaic of the tiles
tile_again : (n room t : ℕ) → t < 4 → dataset_named (outer_datasets n) (tile_name t) ≡ Some (tile_dataset n t) → again (suc room) (outer_datasets n) above_tiles (tile_name t) ≡ Ok tt
tile_again n room t less there =
    again_begins (λ p a. again room (outer_datasets n) p a) (suc room) (outer_datasets n) above_tiles (tile_name t) Raw (tile_kind t less) (tile_off t less)
    ∙ ap (λ o. again_below (λ p a. again room (outer_datasets n) p a) above_tiles o) there

tiles_again : (n : ℕ) → again_sources (λ a. again 14 (outer_datasets n) above_tiles a) inner_name (sources_in (inner_dataset n).content) ≡ Ok tt
tiles_again n =
    let below = λ (a : List ℕ). again 14 (outer_datasets n) above_tiles a in
    let S = tile_source n in
    let resolves = λ (t : ℕ) (less : t < 4). tile_resolved n t less in
    ap (again_sources below inner_name) (inner_sources_are n)
    ∙ again_then below inner_name (tile_name 0) (S 0) (S 1 ∷ S 2 ∷ S 3 ∷ []) (Ok tt) (resolves 0 (omega arith)) (tile_again n 13 0 (omega arith) refl)
    (again_then below inner_name (tile_name 1) (S 1) (S 2 ∷ S 3 ∷ []) (Ok tt) (resolves 1 (omega arith)) (tile_again n 13 1 (omega arith) refl)
    (again_then below inner_name (tile_name 2) (S 2) (S 3 ∷ []) (Ok tt) (resolves 2 (omega arith)) (tile_again n 13 2 (omega arith) refl)
    (again_then below inner_name (tile_name 3) (S 3) [] (Ok tt) (resolves 3 (omega arith)) (tile_again n 13 3 (omega arith) refl) refl)))

inner_again : (n : ℕ) → again 15 (outer_datasets n) above_inner inner_name ≡ Ok tt
inner_again n =
    let below = λ (p : List (List ℕ)) (a : List ℕ). again 14 (outer_datasets n) p a in
    let there : dataset_named (outer_datasets n) inner_name ≡ Some (inner_dataset n) = refl in
    again_begins below 15 (outer_datasets n) above_inner inner_name Vrt inner_kind refl
    ∙ ap (λ o. again_below below above_inner o) there
    ∙ tiles_again n

module _ (n : ℕ) (m : Files) (verify : Bool)
    (tiles : (t : ℕ) → t < 4 → dataset_in m verify (tile_name t) ≡ Ok (tile_dataset n t))
    (inner_reads : document_in (spelled (inner_document n)) inner_name ≡ Ok (inner_document n))
    (outer_reads : document_in (spelled (outer_document n)) outer_name ≡ Ok (outer_document n))
    (stand : MosaicsStand n m)
  where
    inner_by : dataset_by Vrt m verify inner_name ≡ Ok (inner_dataset n)
    inner_by = mosaic_by m verify inner_name (spelled (inner_document n)) (inner_document n) stand.inner inner_reads

    outer_by : dataset_by Vrt m verify outer_name ≡ Ok (outer_dataset n)
    outer_by = mosaic_by m verify outer_name (spelled (outer_document n)) (outer_document n) stand.outer outer_reads

    -- the datasets of the mosaics
    pub inner_is_read : dataset_in m verify inner_name ≡ Ok (inner_dataset n)
    inner_is_read = read_by m verify inner_name Vrt inner_kind ∙ inner_by

    pub outer_is_read : dataset_in m verify outer_name ≡ Ok (outer_dataset n)
    outer_is_read = read_by m verify outer_name Vrt outer_kind ∙ outer_by

    -- the mosaic of the tiles, where it is met for the first time, and again
    inner_visited : visit m verify 15 above_inner (state (outer_dataset n ∷ []) 1) inner_name ≡ Ok (state (outer_datasets n) 5)
    inner_visited =
        let first : IsFirst 15 above_inner (state (outer_dataset n ∷ []) 1) inner_name Vrt = record { kind_is = inner_kind; off = refl; shallow = refl; fresh = refl } in
        visit_mosaic m verify 14 above_inner (state (outer_dataset n ∷ []) 1) inner_name Vrt (inner_dataset n) first (omega arith) inner_by
        ∙ tiles_visited n m verify tiles

    inner_met : visit m verify 15 above_inner (state (outer_datasets n) 6) inner_name ≡ Ok (state (outer_datasets n) 6)
    inner_met =
        visit_again m verify 15 above_inner (state (outer_datasets n) 6) inner_name Vrt 1 inner_kind refl refl
        ∙ ap (λ r. r >>= λ checked. Ok (state (outer_datasets n) 6)) (inner_again n)

    -- the sources of the outer mosaic
    inners_visited : visit_sources (to_inner n m verify) outer_name (state (outer_dataset n ∷ []) 0) (sources_in (outer_dataset n).content) ≡ Ok (state (outer_datasets n) 6)
    inners_visited =
        let whole = inner_source (2 * n) (pixel_rectangle (pos 0) (pos 0) (pos (2 * n)) (pos (2 * n))) in
        let part = adding 1000 (inner_source n (pixel_rectangle (pos n) (pos n) (pos n) (pos n))) in
        let takes = λ (plain : Bool). takes_first (outer_datasets n) outer_name inner_name (inner_dataset n) plain refl (inner_banded n) (inner_narrow n) in
        let once = source_fine (to_inner n m verify) outer_name (state (outer_dataset n ∷ []) 0) whole inner_name (state (outer_datasets n) 5) refl (inner_resolved (2 * n) (pixel_rectangle (pos 0) (pos 0) (pos (2 * n)) (pos (2 * n)))) inner_visited (takes (is_plain whole)) in
        let twice = source_fine (to_inner n m verify) outer_name (state (outer_datasets n) 5) part inner_name (state (outer_datasets n) 6) refl (adding_resolved 1000 n (pixel_rectangle (pos n) (pos n) (pos n) (pos n))) inner_met (takes (is_plain part)) in
        ap (visit_sources (to_inner n m verify) outer_name (state (outer_dataset n ∷ []) 0)) (outer_sources_are n)
        ∙ sources_then (to_inner n m verify) outer_name (state (outer_dataset n ∷ []) 0) (state (outer_datasets n) 5) whole (part ∷ []) (Ok (state (outer_datasets n) 6)) once
        (sources_then (to_inner n m verify) outer_name (state (outer_datasets n) 5) (state (outer_datasets n) 6) part [] (Ok (state (outer_datasets n) 6)) twice refl)

    outer_visited : visit m verify 16 [] (met_at_first []) outer_name ≡ Ok (state (outer_datasets n) 6)
    outer_visited =
        let first : IsFirst 16 [] (met_at_first []) outer_name Vrt = record { kind_is = outer_kind; off = refl; shallow = refl; fresh = refl } in
        visit_mosaic m verify 15 [] (met_at_first []) outer_name Vrt (outer_dataset n) first (omega arith) outer_by
        ∙ inners_visited

    pub outer_is_walked : walked m verify [] outer_name ≡ Ok (outer_datasets n)
    unfolding walked
    outer_is_walked = ap (λ r. r >>= λ met. Ok met.datasets) outer_visited
