-- How a canvas fills from the last source of a band to the first.
use Rattle.std.proofs.Common.{◌≡◌, ◌⊎◌, ℕ, ℤ, zero, suc, pos, ◌+◌, ◌-◌, ◌*◌, ◌/◌, ◌%◌, ◌<◌, ◌≤◌, List, [], ◌∷◌, drop, map, length, get_or, Option, Some, None, Bool, true, false, refl, sym, ap, ◌∙◌, subst, arith, inl, inr}
use Rattle.std.specs.Prelude.{is_some, option_map, slice_get, IsTrue}
use Rattle.std.specs.Option.{option_or, unwrap_or}
use Rattle.std.proofs.Math.Nat.{mul_comm}
use Rattle.std.proofs.lemmas.Bool.{cases_lt}
use Rattle.std.proofs.lemmas.Nat.{div-add-mod', mod_below, div_below, mul-add-lt}
use Rattle.std.proofs.lemmas.List.{length-map, get_or-map}
use Rattle.geotransform.specs.Types.{clamp}
use Rattle.geotransform.specs.declared.types.PixelType.{PixelType}
use Rattle.geotransform.specs.declared.types.Rect.{Rect}
use Rattle.geotransform.specs.declared.types.Size.{Size}
use Rattle.geotransform.specs.Pixels.{IsInside}
use Rattle.outside.specs.Outside.{Files}
use Rattle.vrt_profile.specs.Values.{SourceValue, BandValue, IsBand}
use Rattle.vrt_profile.specs.Cover.{axis_at, columns_of, lines_of}
use Rattle.vrt_profile.specs.Value.{source_value, given_of, last_given}
use Rattle.catalog.specs.Drivers.{Dataset}
use Rattle.catalog.specs.Pixels.{pixel_of, member_size, member_pixel}
use Rattle.catalog.specs.Places.{row_by_row}
use Rattle.catalog.specs.Walk.{IsCatalog}
use Rattle.band_blocks.specs.declared.key.BlockKey.{BlockKey}
use Rattle.band_blocks.specs.Blocks.{BlockView, IsPacked}
use Rattle.nearest_window.specs.declared.asking.Asked.{Asked}
use Rattle.nearest_window.specs.declared.canvas.Canvas.{Canvas}
use Rattle.nearest_window.specs.declared.taking.Taking.{Taking}
use Rattle.nearest_window.specs.Canvases.{stands, stands_at, source_given, IsSame, IsTaken, IsUnasked, IsAsked, IsSourceTaken, AreTaken, IsPackedOf}
use Rattle.nearest_window.specs.Painted.{IsPainted, in_columns}
use Rattle.nearest_window.specs.BlockKeys.{IsPartBlock, IsMosaicKey}
use Rattle.nearest_window.specs.Shown.{shown, IsShown}
use Rattle.nearest_window.specs.Taken.{place_at, taken_by}
use Rattle.nearest_window.proofs.Canvases.{same_under}
use Rattle.nearest_window.proofs.Covers.{seen_there, nothing_given, pixel_given}
use Rattle.nearest_window.proofs.Mosaics.{band_told, pixels_are, nodata_kept, clamp_given}
use Rattle.nearest_window.proofs.Painted.{in_columns_at, placed_in}
use Rattle.nearest_window.proofs.Shown.{filled_row_by_row}

-- the sources from a number on

drop_one : {X : Type 0} (xs : List X) (i : ℕ) (x : X) → slice_get xs i ≡ Some x → drop i xs ≡ x ∷ drop (suc i) xs
drop_one [] i x e = cc
drop_one (y ∷ ys) zero x e = let same : y ≡ x = cc in ap (λ z. z ∷ ys) same
drop_one (y ∷ ys) (suc i) x e = drop_one ys i x e

drop_all : {X : Type 0} (xs : List X) (n : ℕ) → length xs ≤ n → drop n xs ≡ []
drop_all [] zero p = refl
drop_all [] (suc n) p = refl
drop_all (x ∷ xs) zero p = absurd (omega arith)
drop_all (x ∷ xs) (suc n) p = drop_all xs n (omega arith)

module _ (m : Files) (cat : List Dataset) (d : Dataset) (x y : ℕ) where
  abbrev one : SourceValue → Option ℤ
  one s = source_given m cat d s x y

  abbrev last : List SourceValue → Option ℤ
  last ss = last_given (λ s. source_given m cat d s x y) ss

  -- one source more, before those so far
  last_from : (ss : List SourceValue) (k : ℕ) (s : SourceValue) → slice_get ss k ≡ Some s → last (drop k ss) ≡ option_or (last (drop (k + 1) ss)) (one s)
  last_from ss k s at = let e : suc k ≡ k + 1 = omega arith in ap (λ (l : List SourceValue). last l) (drop_one ss k s at) ∙ ap (λ n. option_or (last (drop n ss)) (one s)) e

  or_some : (a b : Option ℤ) (v : ℤ) → a ≡ Some v → option_or a b ≡ Some v
  or_some a b v e = ap (λ o. option_or o b) e

  -- what the sources from a number on give, all give
  last_stays : (ss : List SourceValue) (j : ℕ) (v : ℤ) → last (drop j ss) ≡ Some v → last ss ≡ Some v
  last_stays ss zero v e = e
  last_stays [] (suc j) v e = e
  last_stays (s ∷ ss) (suc j) v e = or_some (last ss) (one s) v (last_stays ss j v e)

some_of : (o : Option ℤ) → is_some o ≡ true → (v : ℤ) × (o ≡ Some v)
some_of (Some v) h = (v, refl)
some_of None h = cc

module _ (told : Option Files) (cat : List Dataset) (d : Dataset) (ss : List SourceValue) where
  -- nothing stands, and no source is left behind the last
  pub none_taken : (n : ℕ) (c : Canvas) → length ss ≤ n → ((k : ℕ) → stands c.samples.items k ≡ None) → AreTaken told cat d n ss c
  none_taken n c end unfilled m e x y at =
      ap (option_map (clamp c.kind)) (unfilled ((y - c.rect.y) * c.rect.w + (x - c.rect.x)))
      ∙ sym (ap (λ l. option_map (clamp c.kind) (last_given (λ s. source_given m cat d s x y) l)) (drop_all ss n end))

  -- one source more
  pub taken_more : (told' : Option Files) (k : ℕ) (s : SourceValue) (c c' : Canvas) → told' ≡ told → slice_get ss k ≡ Some s → AreTaken told cat d (k + 1) ss c → IsSourceTaken told' cat d s c c' → AreTaken told' cat d k ss c'
  taken_more told' k s c c' same at before here m e x y in_new =
      let in_old : IsInside c.rect x y = subst (λ r. IsInside r x y) here.rect in_new in
      ap (λ t. option_map (clamp t) (stands_at c' x y)) here.kind
      ∙ here.given m e x y in_old
      ∙ same_under c.kind (stands_at c x y) (last_given (λ s. source_given m cat d s x y) (drop (k + 1) ss)) (source_given m cat d s x y) (before m (sym same ∙ e) x y in_old)
      ∙ ap (option_map (clamp c.kind)) (sym (last_from m cat d x y ss k s at))
      ∙ ap (λ t. option_map (clamp t) (last_given (λ s. source_given m cat d s x y) (drop k ss))) (sym here.kind)

-- where all is filled the sources so far count
filled_same : (kind : PixelType) (a b : Option ℤ) → IsSame kind a b → is_some a ≡ true → (v : ℤ) × (b ≡ Some v)
filled_same kind a (Some v) h s = (v, refl)
filled_same kind None None h s = cc
filled_same kind (Some x) None h s = cc

-- what stands where no source is left, or nothing is open
pub all_taken : (told : Option Files) (cat : List Dataset) (d : Dataset) (n : ℕ) (ss : List SourceValue) (c : Canvas) → AreTaken told cat d n ss c
    → (n ≡ 0) ⊎ ((k : ℕ) → k < c.rect.w * c.rect.h → is_some (stands c.samples.items k) ≡ true) → AreTaken told cat d 0 ss c
all_taken told cat d n ss c h done m e x y at = elim done [
  | inl zero_is ↦ subst (λ n. AreTaken told cat d n ss c) zero_is h m e x y at
  | inr filled ↦
      let l = at.left in let r = at.right in let t = at.top in let b = at.bottom in
      let place = mul-add-lt (y - c.rect.y) c.rect.w (x - c.rect.x) c.rect.h (omega arith) (omega arith) in
      let there = h m e x y at in
      let v = filled_same c.kind (stands_at c x y) (last_given (λ s. source_given m cat d s x y) (drop n ss)) there (filled ((y - c.rect.y) * c.rect.w + (x - c.rect.x)) place) in
      there ∙ ap (option_map (clamp c.kind)) (v.1 ∙ sym (last_stays m cat d x y ss n v.0 v.1))
]

-- the search is over
pub not_wanted : (b : Bool) (P : Type 0) → b ≡ false → IsTrue b ⊎ P → P
not_wanted b P is h = elim h [
  | inl t ↦ (let z : true ≡ false = sym t ∙ is in cc)
  | inr p ↦ p
]

-- what a source gives is what is made of the pixels that it was asked for

module _ (told : Option Files) (cat : List Dataset) (key : BlockKey) (s : SourceValue) (c : Canvas) (a : Asked) (asked : IsAsked cat key s c a) (d : Dataset) (at : slice_get cat key.dataset ≡ Some d)
    (taking : Taking) (makes : (pixel : ℤ) → taken_by taking pixel ≡ source_value s pixel) (zeros pixels : List ℤ) (size : length zeros ≡ a.part.w * a.part.h) where
  abbrev dataset_size : Size
  dataset_size = member_size cat d s

  pixel_there : (m : Files) → IsPainted (in_columns a.picture.stride (a.picture.to + 0) (a.picture.to + 0 + a.picture.width) (shown m cat a.picture 0 0)) zeros pixels → (i j : ℕ) → i < a.part.w → j < a.part.h
      → get_or pixels (j * a.part.w + i) (pos 0) ≡ pixel_of m cat a.picture.dataset a.picture.band (place_at a.picture.columns i) (place_at a.picture.lines j)
  pixel_there m h i j p q =
      let to = asked.to in let width = asked.width in let stride = asked.stride in
      let below : i < a.picture.stride = omega arith in
      let place = mul-add-lt j a.part.w i a.part.h q p in
      let column : 0 + (i - (a.picture.to + 0)) ≡ i = omega arith in
      let line : 0 + j ≡ j = omega arith in
      ap (λ n. get_or pixels (j * n + i) (pos 0)) (sym stride)
      ∙ h.each (j * a.picture.stride + i) (let e : j * a.picture.stride ≡ j * a.part.w = ap (λ n. j * n) stride in omega arith)
      ∙ ap (λ o. unwrap_or o (get_or zeros (j * a.picture.stride + i) (pos 0)))
      (in_columns_at a.picture.stride (a.picture.to + 0) (a.picture.to + 0 + a.picture.width) (shown m cat a.picture 0 0) j i below
      ∙ placed_in (a.picture.to + 0) (a.picture.to + 0 + a.picture.width) (λ c. shown m cat a.picture 0 0 c j) i (omega arith) (omega arith)
      ∙ ap (λ t. taken_by t (pixel_of m cat a.picture.dataset a.picture.band (place_at a.picture.columns (0 + (i - (a.picture.to + 0)))) (place_at a.picture.lines (0 + j)))) asked.taking
      ∙ ap (λ n. Some (pixel_of m cat a.picture.dataset a.picture.band (place_at a.picture.columns n) (place_at a.picture.lines (0 + j)))) column
      ∙ ap (λ n. Some (pixel_of m cat a.picture.dataset a.picture.band (place_at a.picture.columns i) (place_at a.picture.lines n))) line)

  given_there : (m : Files) (x y : ℕ) → IsInside a.part x y → given_of s d.head.size dataset_size (member_pixel m cat d s) x y ≡ source_value s (pixel_of m cat a.picture.dataset a.picture.band (place_at a.picture.columns (x - a.part.x)) (place_at a.picture.lines (y - a.part.y)))
  given_there m x y p =
      let l = p.left in let r = p.right in let t = p.top in let b = p.bottom in
      let across : a.part.x + (x - a.part.x) ≡ x = omega arith in
      let down : a.part.y + (y - a.part.y) ≡ y = omega arith in
      let column = subst (λ n. axis_at (columns_of s d.head.size dataset_size) dataset_size.w n ≡ Some (place_at a.picture.columns (x - a.part.x))) across (asked.across d at (x - a.part.x) (omega arith)) in
      let line = subst (λ n. axis_at (lines_of s d.head.size dataset_size) dataset_size.h n ≡ Some (place_at a.picture.lines (y - a.part.y))) down (asked.down d at (y - a.part.y) (omega arith)) in
      pixel_given s d.head.size dataset_size x y (member_pixel m cat d s) (place_at a.picture.columns (x - a.part.x)) (place_at a.picture.lines (y - a.part.y))
      (seen_there s d.head.size dataset_size x y (place_at a.picture.columns (x - a.part.x)) (place_at a.picture.lines (y - a.part.y)) column line)
      ∙ ap (source_value s) (asked.pixels m d at (place_at a.picture.columns (x - a.part.x)) (place_at a.picture.lines (y - a.part.y)))

  in_or_out : (x y : ℕ) → IsInside a.part x y ⊎ (IsInside a.part x y → ⊥)
  in_or_out x y = elim (cases_lt x a.part.x) [
    | inl p ↦ inr (λ i. let q = i.left in absurd (omega arith))
    | inr p ↦ elim (cases_lt x (a.part.x + a.part.w)) [
      | inr q ↦ inr (λ i. let r = i.right in absurd (omega arith))
      | inl q ↦ elim (cases_lt y a.part.y) [
        | inl r ↦ inr (λ i. let z = i.top in absurd (omega arith))
        | inr r ↦ elim (cases_lt y (a.part.y + a.part.h)) [
          | inr z ↦ inr (λ i. let w = i.bottom in absurd (omega arith))
          | inl z ↦ inl (record { left = p; right = q; top = r; bottom = z })
        ]
      ]
    ]
  ]

  or_nothing : (o : Option ℤ) → option_or o None ≡ o
  or_nothing (Some v) = refl
  or_nothing None = refl

  or_filled : (o g : Option ℤ) → is_some o ≡ true → option_or o g ≡ o
  or_filled (Some v) g h = refl
  or_filled None g h = cc

  pub source_taken : (c' : Canvas) → IsShown told cat a.picture 0 a.picture.width 0 zeros pixels → IsTaken taking pixels a.part c c' → IsSourceTaken told cat d s c c'
  source_taken c' painted taken = record {
    rect = taken.rect;
    kind = taken.kind;
    given = λ m e x y there. elim (in_or_out x y) [
      | inl p ↦
          let l = p.left in let r = p.right in let t = p.top in let b = p.bottom in
          taken.inside x y p
          ∙ ap (λ o. option_map (clamp c.kind) (option_or (stands_at c x y) o))
          (ap (taken_by taking) (pixel_there m (painted m e) (x - a.part.x) (y - a.part.y) (omega arith) (omega arith))
          ∙ makes (pixel_of m cat a.picture.dataset a.picture.band (place_at a.picture.columns (x - a.part.x)) (place_at a.picture.lines (y - a.part.y)))
          ∙ sym (given_there m x y p))
      | inr p ↦ ap (option_map (clamp c.kind)) (taken.outside x y there p ∙ elim (asked.outside d at x y there p) [
        | inl q ↦ sym (or_filled (stands_at c x y) (given_of s d.head.size dataset_size (member_pixel m cat d s) x y) q)
        | inr q ↦ sym (ap (option_or (stands_at c x y)) (nothing_given s d.head.size dataset_size x y (member_pixel m cat d s) q) ∙ or_nothing (stands_at c x y))
      ])
    ];
  }

-- a source that isn't asked changes nothing
pub source_unasked : (told : Option Files) (cat : List Dataset) (d : Dataset) (s : SourceValue) (c : Canvas) → IsUnasked s d.head.size (member_size cat d s) c → IsSourceTaken told cat d s c c
source_unasked told cat d s c unasked = record {
  rect = refl;
  kind = refl;
  given = λ m e x y there. ap (option_map (clamp c.kind)) (elim (unasked x y there) [
    | inl q ↦ sym (filled (stands_at c x y) (source_given m cat d s x y) q)
    | inr q ↦ sym (ap (option_or (stands_at c x y)) (nothing_given s d.head.size (member_size cat d s) x y (member_pixel m cat d s) q) ∙ nothing (stands_at c x y))
  ]);
}
  where
    nothing : (o : Option ℤ) → option_or o None ≡ o
    nothing (Some v) = refl
    nothing None = refl

    filled : (o g : Option ℤ) → is_some o ≡ true → option_or o g ≡ o
    filled (Some v) g h = refl
    filled None g h = cc

-- the block of a canvas on which all sources of a band stand

same_value : (kind : PixelType) (a b : Option ℤ) (v : ℤ) → clamp kind v ≡ v → IsSame kind a b → clamp kind (unwrap_or a v) ≡ unwrap_or (option_map (clamp kind) b) v
same_value kind a b v kept h = clamp_given kind a v kept ∙ ap (λ o. unwrap_or o v) h

pub packed_part : (told : Option Files) (cat : List Dataset) (key : BlockKey) (b : BandValue) (mosaic : IsMosaicKey cat key b) (rect : Rect) (c : Canvas) (block : BlockView) → IsCatalog cat → IsBand b → 0 < rect.w → c.rect ≡ rect → c.kind ≡ b.kind
    → AreTaken told cat mosaic.dataset 0 b.sources c → IsPackedOf c (unwrap_or b.nodata (pos 0)) block → IsPacked block → IsPartBlock told cat key rect block
packed_part told cat key b mosaic rect c block valid rules some same_rect same_kind taken packed fits = record {
  dataset = mosaic.dataset;
  in_range = mosaic.in_range;
  shape = record {
    kind = band_told cat valid key.dataset mosaic.dataset mosaic.in_range.at mosaic.document mosaic.content key.band b mosaic.band_at ∙ ap (λ t. Some t) (sym same_kind) ∙ ap (λ (v : BlockView). Some v.kind) (sym packed.packed);
    count = whole;
    range = fits.range;
  };
  content = content;
}
  where
    made : block.samples ≡ map (clamp c.kind) packed.samples
    made = ap (λ (v : BlockView). v.samples) packed.packed

    size : length packed.samples ≡ rect.w * rect.h
    size = packed.size ∙ ap (λ (r : Rect). r.w * r.h) same_rect

    whole : length block.samples ≡ rect.w * rect.h
    whole = ap length made ∙ length-map packed.samples (clamp c.kind) ∙ size

    kept : clamp c.kind (unwrap_or b.nodata (pos 0)) ≡ unwrap_or b.nodata (pos 0)
    kept = ap (λ t. clamp t (unwrap_or b.nodata (pos 0))) same_kind ∙ nodata_kept b rules

    content : (m : Files) → told ≡ Some m → block.samples ≡ row_by_row (pixel_of m cat key.dataset key.band) rect
    content m e =
        filled_row_by_row (pixel_of m cat key.dataset key.band) rect block.samples (pos 0) whole
        (λ k p.
        let q : k < length packed.samples = subst (λ n. k < n) (sym size) p in
        let column = mod_below k rect.w some in
        let line = div_below k rect.w rect.h some (let f = mul_comm rect.w rect.h in omega arith) in
        let inside : IsInside rect (rect.x + k % rect.w) (rect.y + k / rect.w) = record { left = omega arith; right = omega arith; top = omega arith; bottom = omega arith } in
        let back : (rect.y + k / rect.w - rect.y) * rect.w + (rect.x + k % rect.w - rect.x) ≡ k = (let i : rect.y + k / rect.w - rect.y ≡ k / rect.w = omega arith in let j : rect.x + k % rect.w - rect.x ≡ k % rect.w = omega arith in ap (λ n. n * rect.w + (rect.x + k % rect.w - rect.x)) i ∙ ap (λ n. k / rect.w * rect.w + n) j ∙ div-add-mod' k rect.w) in
        let there = subst (λ r. IsSame c.kind (stands c.samples.items ((rect.y + k / rect.w - r.y) * r.w + (rect.x + k % rect.w - r.x))) (last_given (λ s. source_given m cat mosaic.dataset s (rect.x + k % rect.w) (rect.y + k / rect.w)) b.sources)) same_rect
        (taken m e (rect.x + k % rect.w) (rect.y + k / rect.w) (subst (λ r. IsInside r (rect.x + k % rect.w) (rect.y + k / rect.w)) (sym same_rect) inside)) in
        ap (λ l. get_or l k (pos 0)) made
        ∙ get_or-map (clamp c.kind) packed.samples k (pos 0) (pos 0) q
        ∙ ap (clamp c.kind) (packed.each k (subst (λ (r : Rect). k < r.w * r.h) (sym same_rect) p) ∙ ap (λ n. unwrap_or (stands c.samples.items n) (unwrap_or b.nodata (pos 0))) (sym back))
        ∙ same_value c.kind _ _ (unwrap_or b.nodata (pos 0)) kept there
        ∙ ap (λ t. unwrap_or (option_map (clamp t) (last_given (λ s. source_given m cat mosaic.dataset s (rect.x + k % rect.w) (rect.y + k / rect.w)) b.sources)) (unwrap_or b.nodata (pos 0))) same_kind
        ∙ sym (pixels_are cat valid key.dataset mosaic.dataset mosaic.in_range.at mosaic.document mosaic.content m key.band (rect.x + k % rect.w) (rect.y + k / rect.w) b mosaic.band_at))
