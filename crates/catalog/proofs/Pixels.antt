-- The pixels of a mosaic depend on nothing of a catalog but the datasets that its sources name.
use Rattle.std.proofs.Common.{◌≡◌, ◌∙◌, ap, sym, subst, refl, ◌-◌, ◌<◌, ◌≤◌, ℕ, ℤ, zero, suc, List, [], ◌∷◌, ◌++◌, length, Option, Some, None, is_some, Ok, Err, arith, true≢false}
use Rattle.std.specs.Prelude.{All, slice_get, flat_map, option_map, ok_or, unwrap_or, pos}
use Rattle.std.specs.Option.{option_or}
use Rattle.std.proofs.lemmas.Option.{slice_get_within, get_or_from_slice_get}
use Rattle.std.proofs.lemmas.List.Elements.{All-nil, All-cons, All-head, All-tail, All-weaker}
use Rattle.geotransform.specs.Types.{clamp}
use Rattle.geotransform.specs.declared.types.Size.{Size}
use Rattle.outside.specs.Outside.{Files}
use Rattle.vrt_profile.specs.Values.{SourceValue, BandValue}
use Rattle.vrt_profile.specs.Value.{given_of, last_given, mosaic_pixel}
use Rattle.catalog.specs.declared.driver.Content.{Content}
use Rattle.catalog.specs.declared.driver.Content.TheVariants.{File, Mosaic}
use Rattle.catalog.specs.declared.faults.WalkFault.{WalkFault}
use Rattle.catalog.specs.Drivers.{Dataset}
use Rattle.catalog.specs.Mosaics.{source_name}
use Rattle.catalog.specs.Walk.{dataset_named, sources_in, HasMember, IsNested, IsNoMosaic}
use Rattle.catalog.specs.Pixels.{Lookup, Images, size_of, shown, band_pixel, content_pixel, pixel_step, pixel_within}

-- what the last of some sources gives depends on what each of them gives alone

pub last_same : (given other : SourceValue → Option ℤ) (ss : List SourceValue) → ((k : ℕ) (s : SourceValue) → slice_get ss k ≡ Some s → given s ≡ other s) → last_given given ss ≡ last_given other ss
last_same given other [] same = refl
last_same given other (s ∷ ss) same =
    let here = same 0 s refl in
    let rest = last_same given other ss (λ k t at. same (suc k) t at) in
    λ i. option_or (rest i) (here i)

pub mosaic_same : (b : BandValue) (given other : SourceValue → ℕ → ℕ → Option ℤ) (x y : ℕ) → ((k : ℕ) (s : SourceValue) → slice_get b.sources k ≡ Some s → given s x y ≡ other s x y) → mosaic_pixel b given x y ≡ mosaic_pixel b other x y
mosaic_same b given other x y same = ap (λ o. unwrap_or (option_map (clamp b.kind) o) (unwrap_or b.nodata (pos 0))) (last_same (λ s. given s x y) (λ s. other s x y) b.sources same)

-- what a source gives depends on the size and the pixels of its dataset alone

pub given_same : (s : SourceValue) (mosaic size other : Size) (pixels others : ℕ → ℕ → ℤ) (x y : ℕ) → size ≡ other → ((c r : ℕ) → pixels c r ≡ others c r) → given_of s mosaic size pixels x y ≡ given_of s mosaic other others x y
given_same s mosaic size other pixels others x y same each = λ i. given_of s mosaic (same i) (λ c r. each c r i) x y

pub shown_is : (look : Lookup) (images : Images) (base : List ℕ) (size : Size) (s : SourceValue) (name : List ℕ) (x y : ℕ) → source_name base s ≡ Some name → shown look images base size s x y ≡ given_of s size (size_of (look name)) (images name (s.band - 1)) x y
shown_is look images base size s name x y is = ap (λ (o : Option (List ℕ)). given_of s size (size_of (look (unwrap_or o []))) (images (unwrap_or o []) (s.band - 1)) x y) is

-- an item by its number

pub none≢some : {A : Type 0} {x : A} → None ≡ Some x → ⊥
none≢some is = true≢false (sym (ap is_some is))

pub same_item : {A : Type 0} (x y : A) → Some x ≡ Some y → x ≡ y
same_item x y is = cc

pub at_number : {A : Type 0} (xs : List A) (k : ℕ) → k < length xs → (x : A) × (slice_get xs k ≡ Some x)
at_number [] k h = absurd (omega arith)
at_number (x ∷ xs) zero h = (x, refl)
at_number (x ∷ xs) (suc k) h = at_number xs k (omega arith)

pub item : {A : Type 0} (P : A → Type 0) (xs : List A) (k : ℕ) (x : A) → All P xs → slice_get xs k ≡ Some x → P x
item P xs k x all at = subst P (get_or_from_slice_get xs k x x at) (all k x (slice_get_within xs k x at))

-- what holds of all items of lists in a row holds of those of each list

front : {A : Type 0} (P : A → Type 0) (xs ys : List A) → All P (xs ++ ys) → All P xs
front P [] ys all = All-nil P
front P (x ∷ xs) ys all = All-cons P x xs (All-head P x (xs ++ ys) all) (front P xs ys (All-tail P x (xs ++ ys) all))

back : {A : Type 0} (P : A → Type 0) (xs ys : List A) → All P (xs ++ ys) → All P ys
back P [] ys all = all
back P (x ∷ xs) ys all = back P xs ys (All-tail P x (xs ++ ys) all)

pub part : {A B : Type 0} (P : B → Type 0) (f : A → List B) (xs : List A) (k : ℕ) (x : A) → All P (flat_map f xs) → slice_get xs k ≡ Some x → All P (f x)
part P f [] k x all at = absurd (none≢some at)
part P f (a ∷ xs) zero x all at = subst (λ v. All P (f v)) (same_item a x at) (front P (f a) (flat_map f xs) all)
part P f (a ∷ xs) (suc k) x all at = part P f xs k x (back P (f a) (flat_map f xs) all) at

-- the name of a source

pub when_ok : {A : Type 0} (o : Option A) (e : WalkFault) (x : A) → ok_or o e ≡ Ok x → o ≡ Some x
when_ok (Some v) e x is = cc
when_ok None e x is = absurd (err≢ok is)
  where
    err≢ok : {T : Type 0} {e : WalkFault} {x : T} → Err e ≡ Ok x → ⊥
    err≢ok is = cc

-- two ways to find datasets and their pixels that agree on a source
record SameSource (one two : Lookup) (here there : Images) (base : List ℕ) (s : SourceValue) : Type 0 where
  name : List ℕ
  is : source_name base s ≡ Some name
  size : size_of (one name) ≡ size_of (two name)
  pixel : (x y : ℕ) → here name (s.band - 1) x y ≡ there name (s.band - 1) x y

of_band : (one two : Lookup) (here there : Images) (base : List ℕ) (size : Size) (b : Option BandValue) (x y : ℕ) → ((v : BandValue) → b ≡ Some v → All (SameSource one two here there base) v.sources)
    → band_pixel one here base size b x y ≡ band_pixel two there base size b x y
of_band one two here there base size None x y same = refl
of_band one two here there base size (Some v) x y same =
    mosaic_same v (shown one here base size) (shown two there base size) x y (λ k s at.
    let r = item (SameSource one two here there base) v.sources k s (same v refl) at in
    shown_is one here base size s r.name x y r.is
    ∙ given_same s size (size_of (one r.name)) (size_of (two r.name)) (here r.name (s.band - 1)) (there r.name (s.band - 1)) x y r.size r.pixel
    ∙ sym (shown_is two there base size s r.name x y r.is))

of_content : (one two : Lookup) (here there : Images) (m : Files) (base : List ℕ) (content : Content) → All (SameSource one two here there base) (sources_in content) → (band x y : ℕ)
    → content_pixel one here m base content band x y ≡ content_pixel two there m base content band x y
of_content one two here there m base (File h) same band x y = refl
of_content one two here there m base (Mosaic d) same band x y = of_band one two here there base d.size (slice_get d.bands band) x y (λ v at. part (SameSource one two here there base) (λ (b : BandValue). b.sources) d.bands band v same at)

of_file : (one two : Lookup) (here there : Images) (m : Files) (base : List ℕ) (content : Content) → IsNoMosaic content → (band x y : ℕ) → content_pixel one here m base content band x y ≡ content_pixel two there m base content band x y
of_file one two here there m base (File h) is band x y = refl
of_file one two here there m base (Mosaic d) is band x y = absurd is

-- the datasets of a catalog are found by their names
abbrev pub Finds : Lookup → List Dataset → Type 0
Finds look cat = (name : List ℕ) (d : Dataset) → dataset_named cat name ≡ Some d → look name ≡ Some d

-- the pixels of a dataset that is nested so deep, however it is found, and through however many mosaics more it is looked at
pub same_pixels : (cat : List Dataset) (one two : Lookup) (m : Files) → Finds one cat → Finds two cat → (room n p : ℕ) (d : Dataset) → room ≤ n → room ≤ p → IsNested room cat d → (band x y : ℕ)
    → content_pixel one (pixel_within one m n) m d.head.name d.content band x y ≡ content_pixel two (pixel_within two m p) m d.head.name d.content band x y
same_pixels cat one two m a b zero n p d low high nested band x y = of_file one two (pixel_within one m n) (pixel_within two m p) m d.head.name d.content nested band x y
same_pixels cat one two m a b (suc room) zero p d low high nested band x y = absurd (omega arith)
same_pixels cat one two m a b (suc room) (suc n) zero d low high nested band x y = absurd (omega arith)
same_pixels cat one two m a b (suc room) (suc n) (suc p) d low high nested band x y =
    let low : room ≤ n = omega arith in
    let high : room ≤ p = omega arith in
    of_content one two (pixel_within one m (suc n)) (pixel_within two m (suc p)) m d.head.name d.content
    (All-weaker (HasMember (λ t. IsNested room cat t) cat d.head.name) (SameSource one two (pixel_within one m (suc n)) (pixel_within two m (suc p)) d.head.name)
    (λ s t. record {
      name = t.name;
      is = when_ok (source_name d.head.name s) _ t.name t.resolves;
      size = ap size_of (a t.name t.dataset t.named ∙ sym (b t.name t.dataset t.named));
      pixel = λ c r.
          ap (λ o. pixel_step one (pixel_within one m n) m o (s.band - 1) c r) (a t.name t.dataset t.named)
          ∙ same_pixels cat one two m a b room n p t.dataset low high t.asked (s.band - 1) c r
          ∙ sym (ap (λ o. pixel_step two (pixel_within two m p) m o (s.band - 1) c r) (b t.name t.dataset t.named));
    })
    (sources_in d.content) nested)
    band x y
