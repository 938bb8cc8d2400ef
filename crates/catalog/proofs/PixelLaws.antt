-- The pixels of the datasets of a catalog, by their numbers, by their names, and by the datasets that sources name.
use Rattle.std.proofs.Common.{◌≡◌, ◌∙◌, ap, sym, subst, refl, ◌+◌, ◌-◌, ℕ, ℤ, zero, suc, List, [], ◌∷◌, ◌++◌, Bool, true, false, cond, Option, Some, None, Ok, arith, bytes_eq}
use Rattle.std.specs.Prelude.{All, slice_get, option_and_then, option_map, unwrap_or, pos}
use Rattle.std.proofs.lemmas.Slice.Eq.{bytes_eq-Decides}
use Rattle.lists_and_answers.specs.Options.{◌>>=◌}
use Rattle.geotransform.specs.declared.types.Size.{Size}
use Rattle.outside.specs.Outside.{Files}
use Rattle.vrt_profile.specs.Values.{SourceValue, BandValue, DocumentValue}
use Rattle.vrt_profile.specs.Value.{given_of, mosaic_pixel}
use Rattle.catalog.specs.declared.driver.Content.{Content}
use Rattle.catalog.specs.declared.driver.Content.TheVariants.{File, Mosaic}
use Rattle.catalog.specs.declared.driver.DriverHead.{DriverHead}
use Rattle.catalog.specs.Drivers.{Dataset, document_of, driver_of}
use Rattle.catalog.specs.Mosaics.{source_name}
use Rattle.catalog.specs.Heads.{dataset_in}
use Rattle.catalog.specs.Walk.{number_from, dataset_number_in, dataset_named, sources_in, HasMember, IsNested, IsCatalog, IsWalked}
use Rattle.catalog.specs.Links.{member_in, source_at, member_at}
use Rattle.catalog.specs.Pixels.{size_of, shown, band_pixel, content_pixel, pixel_step, pixel_within, found_in_folder, told, file_pixel, pixel_of, pixel_of_name, member_size, member_pixel, TakesMember, AreOfMembers}
use Rattle.catalog.specs.Places.{block_rect_of, row_by_row}
use Rattle.catalog.specs.Blocks.{block_by, block_pixels}
use Rattle.catalog.proofs.Pixels.{Finds, same_pixels, mosaic_same, given_same, shown_is, none≢some, same_item, item, part, when_ok}

-- the dataset of a name stands under a number, and has the name

record Place (at : ℕ) (cs : List Dataset) (id : ℕ) (name : List ℕ) : Type 0 where
  before : ℕ
  dataset : Dataset
  place : id ≡ at + before
  there : slice_get cs before ≡ Some dataset
  named : dataset.head.name ≡ name

place_step : (c : Dataset) (cs : List Dataset) (at id : ℕ) (name : List ℕ) (b : Bool) → bytes_eq c.head.name name ≡ b → cond b (Some at) (number_from (suc at) cs name) ≡ Some id
    → (number_from (suc at) cs name ≡ Some id → Place (suc at) cs id name) → Place at (c ∷ cs) id name
place_step c cs at id name true e is rest = record { before = 0; dataset = c; place = sym (same_item at id is) ∙ omega arith; there = refl; named = (bytes_eq-Decides c.head.name name).0 e }
place_step c cs at id name false e is rest =
    let r = rest is in
    record { before = suc r.before; dataset = r.dataset; place = r.place ∙ omega arith; there = r.there; named = r.named }

place_found : (cs : List Dataset) (at id : ℕ) (name : List ℕ) → number_from at cs name ≡ Some id → Place at cs id name
place_found [] at id name is = absurd (none≢some is)
place_found (c ∷ cs) at id name is = place_step c cs at id name (bytes_eq c.head.name name) refl is (λ h. place_found cs (suc at) id name h)

record Named (cat : List Dataset) (name : List ℕ) (d : Dataset) : Type 0 where
  number : ℕ
  found : dataset_number_in cat name ≡ Some number
  there : slice_get cat number ≡ Some d
  named : d.head.name ≡ name

named_by : (cat : List Dataset) (name : List ℕ) (d : Dataset) (n : Option ℕ) → dataset_number_in cat name ≡ n → option_and_then (slice_get cat) n ≡ Some d → Named cat name d
named_by cat name d None found is = absurd (none≢some is)
named_by cat name d (Some id) found is =
    let p = place_found cat 0 id name found in
    let e : id ≡ p.before = p.place ∙ omega arith in
    let same : p.dataset ≡ d = same_item p.dataset d (sym p.there ∙ ap (slice_get cat) (sym e) ∙ is) in
    record { number = id; found = found; there = is; named = ap (λ (x : Dataset). x.head.name) (sym same) ∙ p.named }

named_is : (cat : List Dataset) (name : List ℕ) (d : Dataset) → dataset_named cat name ≡ Some d → Named cat name d
named_is cat name d is = named_by cat name d (dataset_number_in cat name) refl is

-- ways to find the datasets of a catalog

by_name : (cat : List Dataset) → Finds (dataset_named cat) cat
by_name cat name d is = is

in_folder : (m : Files) (cat : List Dataset) → IsWalked m cat → Finds (found_in_folder m) cat
in_folder m cat walked name d is =
    let n = named_is cat name d is in
    ap told (ap (dataset_in m false) (sym n.named) ∙ item (λ (x : Dataset). dataset_in m false x.head.name ≡ Ok x) cat n.number d walked n.there)

kept_step : (at : ℕ) (cs more : List Dataset) (name : List ℕ) (id : ℕ) (b : Bool) → cond b (Some at) (number_from (suc at) cs name) ≡ Some id
    → (number_from (suc at) cs name ≡ Some id → number_from (suc at) (cs ++ more) name ≡ Some id) → cond b (Some at) (number_from (suc at) (cs ++ more) name) ≡ Some id
kept_step at cs more name id true is rest = is
kept_step at cs more name id false is rest = rest is

kept : (at : ℕ) (cs more : List Dataset) (name : List ℕ) (id : ℕ) → number_from at cs name ≡ Some id → number_from at (cs ++ more) name ≡ Some id
kept at [] more name id is = absurd (none≢some is)
kept at (c ∷ cs) more name id is = kept_step at cs more name id (bytes_eq c.head.name name) is (λ h. kept (suc at) cs more name id h)

there_still : (cs more : List Dataset) (id : ℕ) (d : Dataset) → slice_get cs id ≡ Some d → slice_get (cs ++ more) id ≡ Some d
there_still [] more id d is = absurd (none≢some is)
there_still (c ∷ cs) more zero d is = is
there_still (c ∷ cs) more (suc id) d is = there_still cs more id d is

in_more : (cat more : List Dataset) → Finds (dataset_named (cat ++ more)) cat
in_more cat more name d is =
    let n = named_is cat name d is in
    ap (option_and_then (slice_get (cat ++ more))) (kept 0 cat more name n.number n.found) ∙ there_still cat more n.number d n.there

-- the laws

nested : (cat : List Dataset) (id : ℕ) (d : Dataset) → IsCatalog cat → slice_get cat id ≡ Some d → IsNested 16 cat d
nested cat id d is at = item (λ (x : Dataset). IsNested 16 cat x) cat id d is.nested at

pixel_is : (m : Files) (cat : List Dataset) (id band x y : ℕ) (d : Dataset) → slice_get cat id ≡ Some d → pixel_of m cat id band x y ≡ content_pixel (dataset_named cat) (pixel_within (dataset_named cat) m 16) m d.head.name d.content band x y
unfolding pixel_of
pixel_is m cat id band x y d at = ap (λ o. pixel_step (dataset_named cat) (pixel_within (dataset_named cat) m 16) m o band x y) at

pub number_is_name : (m : Files) (cat : List Dataset) (id band x y : ℕ) (d : Dataset) → IsCatalog cat → IsWalked m cat → slice_get cat id ≡ Some d → pixel_of m cat id band x y ≡ pixel_of_name m d.head.name band x y
unfolding pixel_of_name
number_is_name m cat id band x y d is walked at =
    pixel_is m cat id band x y d at
    ∙ same_pixels cat (dataset_named cat) (found_in_folder m) m (by_name cat) (in_folder m cat walked) 16 16 16 d (omega arith) (omega arith) (nested cat id d is at) band x y
    ∙ sym (ap (λ o. pixel_step (found_in_folder m) (pixel_within (found_in_folder m) m 16) m o band x y) (ap told (item (λ (x : Dataset). dataset_in m false x.head.name ≡ Ok x) cat id d walked at)))

pub more_is_same : (m : Files) (cat more : List Dataset) (id band x y : ℕ) (d : Dataset) → IsCatalog cat → slice_get cat id ≡ Some d → pixel_of m (cat ++ more) id band x y ≡ pixel_of m cat id band x y
more_is_same m cat more id band x y d is at =
    pixel_is m (cat ++ more) id band x y d (there_still cat more id d at)
    ∙ same_pixels cat (dataset_named (cat ++ more)) (dataset_named cat) m (in_more cat more) (by_name cat) 16 16 16 d (omega arith) (omega arith) (nested cat id d is at) band x y
    ∙ sym (pixel_is m cat id band x y d at)

pub is_file : (content : Content) (h : DriverHead) → driver_of content ≡ Some h → content ≡ File h
is_file (File g) h is = ap File (same_item g h is)
is_file (Mosaic d) h is = absurd (none≢some is)

is_mosaic : (content : Content) (doc : DocumentValue) → document_of content ≡ Some doc → content ≡ Mosaic doc
is_mosaic (File h) doc is = absurd (none≢some is)
is_mosaic (Mosaic d) doc is = ap Mosaic (same_item d doc is)

pub file_is_sample : (m : Files) (cat : List Dataset) (id band x y : ℕ) (d : Dataset) (h : DriverHead) → slice_get cat id ≡ Some d → driver_of d.content ≡ Some h → pixel_of m cat id band x y ≡ file_pixel m d.head.name h band x y
file_is_sample m cat id band x y d h at is = pixel_is m cat id band x y d at ∙ ap (λ c. content_pixel (dataset_named cat) (pixel_within (dataset_named cat) m 16) m d.head.name c band x y) (is_file d.content h is)

-- a source of a band is one of its mosaic's

found_then : {A B : Type 0} (o : Option A) (f : A → Option B) (y : B) → (o >>= f) ≡ Some y → (x : A) × (o ≡ Some x) × (f x ≡ Some y)
found_then None f y is = absurd (none≢some is)
found_then (Some x) f y is = (x, refl, is)

source_member : (cat : List Dataset) (d : Dataset) (band source : ℕ) (s : SourceValue) → IsNested 16 cat d → source_at d band source ≡ Some s → HasMember (λ t. IsNested 15 cat t) cat d.head.name s
source_member cat d band source s nested is =
    let doc = found_then (document_of d.content) _ s is in
    let b = found_then (slice_get doc.0.bands band) _ s doc.2 in
    let P = HasMember (λ t. IsNested 15 cat t) cat d.head.name in
    item P b.0.sources source s (part P (λ (v : BandValue). v.sources) doc.0.bands band b.0 (subst (λ c. All P (sources_in c)) (is_mosaic d.content doc.0 doc.1) nested) b.1) b.2

-- the number of the dataset that a source names
member_named : (cat : List Dataset) (base : List ℕ) (s : SourceValue) (P : Dataset → Type 0) (t : HasMember P cat base s) (n : ℕ) → dataset_number_in cat t.name ≡ Some n → member_in cat base s ≡ Some n
member_named cat base s P t n found = ap (option_and_then (dataset_number_in cat)) (when_ok (source_name base s) _ t.name t.resolves) ∙ found

member_is : (cat : List Dataset) (d : Dataset) (band source : ℕ) (s : SourceValue) (P : Dataset → Type 0) (t : HasMember P cat d.head.name s) (n : ℕ) → source_at d band source ≡ Some s → dataset_number_in cat t.name ≡ Some n → member_at cat d band source ≡ Some n
member_is cat d band source s P t n is found = ap (λ (o : Option SourceValue). o >>= λ s. member_in cat d.head.name s) is ∙ member_named cat d.head.name s P t n found

pub has_member : (cat : List Dataset) (id band source : ℕ) (d : Dataset) (s : SourceValue) → IsCatalog cat → slice_get cat id ≡ Some d → source_at d band source ≡ Some s → TakesMember cat d band source s
has_member cat id band source d s is at stands =
    let P = λ (x : Dataset). IsNested 15 cat x in
    let t = source_member cat d band source s (nested cat id d is at) stands in
    let n = named_is cat t.name t.dataset t.named in
    record { member = n.number; dataset = t.dataset; is = member_is cat d band source s P t n.number stands n.found; there = n.there; has_band = t.band; takes = t.takes }

pub mosaic_is_of_members : (m : Files) (cat : List Dataset) (id band x y : ℕ) (d : Dataset) (doc : DocumentValue) (b : BandValue) (sizes : SourceValue → Size) (pixels : SourceValue → ℕ → ℕ → ℤ)
    → IsCatalog cat → slice_get cat id ≡ Some d → document_of d.content ≡ Some doc → slice_get doc.bands band ≡ Some b → AreOfMembers m cat d band sizes pixels
    → pixel_of m cat id band x y ≡ mosaic_pixel b (λ s. given_of s doc.size (sizes s) (pixels s)) x y
mosaic_is_of_members m cat id band x y d doc b sizes pixels is at has there same =
    let look = dataset_named cat in
    let images = pixel_within look m 16 in
    pixel_is m cat id band x y d at
    ∙ ap (λ c. content_pixel look images m d.head.name c band x y) (is_mosaic d.content doc has)
    ∙ ap (λ o. band_pixel look images d.head.name doc.size o x y) there
    ∙ mosaic_same b (shown look images d.head.name doc.size) (λ s. given_of s doc.size (sizes s) (pixels s)) x y (λ k s stands_here.
    let stands : source_at d band k ≡ Some s = ap (λ (o : Option DocumentValue). o >>= λ doc. slice_get doc.bands band >>= λ b. slice_get b.sources k) has ∙ ap (λ (o : Option BandValue). o >>= λ b. slice_get b.sources k) there ∙ stands_here in
    let t = source_member cat d band k s (nested cat id d is at) stands in
    let p = named_is cat t.name t.dataset t.named in
    let q = same k p.number s t.dataset stands (member_named cat d.head.name s (λ x. IsNested 15 cat x) t p.number p.found) p.there in
    let found : look t.name ≡ Some t.dataset = t.named in
    shown_is look images d.head.name doc.size s t.name x y (when_ok (source_name d.head.name s) _ t.name t.resolves)
    ∙ given_same s doc.size (size_of (look t.name)) (sizes s) (images t.name (s.band - 1)) (pixels s) x y (ap size_of found ∙ sym q.0)
    (λ u v. ap (λ o. pixel_step look (pixel_within look m 15) m o (s.band - 1) u v) found
    ∙ same_pixels cat look look m (by_name cat) (by_name cat) 15 15 16 t.dataset (omega arith) (omega arith) t.asked (s.band - 1) u v
    ∙ sym (pixel_is m cat p.number (s.band - 1) u v t.dataset p.there)
    ∙ sym (q.1 u v)))

pub own_members : (m : Files) (cat : List Dataset) (d : Dataset) (band : ℕ) → AreOfMembers m cat d band (member_size cat d) (member_pixel m cat d)
own_members m cat d band source t s e stands is there = (
  ap (λ (o : Option ℕ). size_of (o >>= λ t. slice_get cat t)) is ∙ ap size_of there,
  λ x y. ap (λ (o : Option ℕ). unwrap_or (option_map (λ t. pixel_of m cat t (s.band - 1) x y) o) (pos 0)) is,
)

pub mosaic_is_of_its_members : (m : Files) (cat : List Dataset) (id band x y : ℕ) (d : Dataset) (doc : DocumentValue) (b : BandValue)
    → IsCatalog cat → slice_get cat id ≡ Some d → document_of d.content ≡ Some doc → slice_get doc.bands band ≡ Some b
    → pixel_of m cat id band x y ≡ mosaic_pixel b (λ s. given_of s doc.size (member_size cat d s) (member_pixel m cat d s)) x y
mosaic_is_of_its_members m cat id band x y d doc b is at has there = mosaic_is_of_members m cat id band x y d doc b (member_size cat d) (member_pixel m cat d) is at has there (own_members m cat d band)

-- the blocks of datasets by what their pixels are

block_is : (m : Files) (cat : List Dataset) (id band block : ℕ) (d : Dataset) (f : ℕ → ℕ → ℤ) → slice_get cat id ≡ Some d → ((x y : ℕ) → pixel_of m cat id band x y ≡ f x y)
    → block_pixels m cat id band block ≡ row_by_row f (block_rect_of d.head block)
block_is m cat id band block d f at same = ap (block_by m cat id band block) at ∙ (λ i. row_by_row (λ x y. same x y i) (block_rect_of d.head block))

pub file_block : (m : Files) (cat : List Dataset) (id band block : ℕ) (d : Dataset) (h : DriverHead) → slice_get cat id ≡ Some d → driver_of d.content ≡ Some h
    → block_pixels m cat id band block ≡ row_by_row (file_pixel m d.head.name h band) (block_rect_of d.head block)
file_block m cat id band block d h at is = block_is m cat id band block d (file_pixel m d.head.name h band) at (λ x y. file_is_sample m cat id band x y d h at is)

pub mosaic_block : (m : Files) (cat : List Dataset) (id band block : ℕ) (d : Dataset) (doc : DocumentValue) (b : BandValue) (sizes : SourceValue → Size) (pixels : SourceValue → ℕ → ℕ → ℤ)
    → IsCatalog cat → slice_get cat id ≡ Some d → document_of d.content ≡ Some doc → slice_get doc.bands band ≡ Some b → AreOfMembers m cat d band sizes pixels
    → block_pixels m cat id band block ≡ row_by_row (mosaic_pixel b (λ s. given_of s doc.size (sizes s) (pixels s))) (block_rect_of d.head block)
mosaic_block m cat id band block d doc b sizes pixels is at has there same = block_is m cat id band block d (mosaic_pixel b (λ s. given_of s doc.size (sizes s) (pixels s))) at (λ x y. mosaic_is_of_members m cat id band x y d doc b sizes pixels is at has there same)

pub more_block : (m : Files) (cat more : List Dataset) (id band block : ℕ) (d : Dataset) → IsCatalog cat → slice_get cat id ≡ Some d → block_pixels m (cat ++ more) id band block ≡ block_pixels m cat id band block
more_block m cat more id band block d is at =
    block_is m (cat ++ more) id band block d (pixel_of m cat id band) (there_still cat more id d at) (λ x y. more_is_same m cat more id band x y d is at)
    ∙ sym (block_is m cat id band block d (pixel_of m cat id band) at (λ x y. refl))
