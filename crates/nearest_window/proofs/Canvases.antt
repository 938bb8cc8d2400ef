-- Taking pixels where samples are open.
use Rattle.std.proofs.Common.{◌≡◌, ℕ, ℤ, zero, suc, pos, ◌+◌, ◌-◌, ◌*◌, ◌<◌, ◌≤◌, ◌<ℤ◌, List, [], ◌∷◌, drop, replicate, length, get_or, Option, Some, None, Bool, true, false, cond, refl, sym, ap, ◌∙◌, subst, arith, inl, inr, length-drop}
use Rattle.std.specs.Prelude.{option_map, slice_set}
use Rattle.std.specs.Option.{option_or, unwrap_or}
use Rattle.std.specs.Ordering.{int_eq}
use Rattle.std.proofs.Math.Nat.{mul-le-mul}
use Rattle.std.proofs.lemmas.Bool.{cases_lt}
use Rattle.std.proofs.lemmas.Int.{ints}
use Rattle.std.proofs.lemmas.List.{length-take-le, get_or-take, get_or-drop, get_or-replicate, length-replicate, get_or-set_same, get_or-set_other, length-set}
use borrow.Rule.Slice.PartMut.{put_mid, mid_of}
use Rattle.geotransform.specs.Types.{clamp, is_in}
use Rattle.geotransform.specs.declared.types.PixelType.{PixelType}
use Rattle.geotransform.proofs.Ranges.{clamp_kept}
use Rattle.vrt_profile.specs.Values.{SourceValue}
use Rattle.mosaic_sources.specs.Pixels.{IsPixel, IsPixelOf}
use Rattle.mosaic_sources.proofs.Following.{is_pixel}
use Rattle.nearest_window.specs.declared.merging.Place.{Place}
use Rattle.nearest_window.specs.declared.taking.Taking.{Taking}
use Rattle.nearest_window.specs.declared.taking.Taking.TheVariants.{All, Except, By}
use Rattle.nearest_window.specs.Canvases.{blank, filled_with, stands, IsSame, IsMergedFrom, IsMerged}
use Rattle.nearest_window.specs.Painted.{IsPainted, given_between}
use Rattle.nearest_window.specs.Taken.{TakesPixel, taken_by}
use Rattle.nearest_window.proofs.Painted.{painted_part, placed_in, placed_before, placed_after}

-- a pixel stands
not_blank : (v : ℤ) → v <ℤ blank → int_eq v blank ≡ false
not_blank v h = grind (arith, ints)

pub pixel_stands : (v : ℤ) → IsPixel v → filled_with v ≡ Some v
pixel_stands v h = let high = h.greatest in ap (λ b. cond b None (Some v)) (not_blank v (omega (arith, ints)))

-- a pixel of a source is one of a band's type
pub wide_pixel : (source : SourceValue) (v : ℤ) → IsPixelOf source v → IsPixel v
wide_pixel source v h = h.wide

-- each pixel that may be taken is one of a band's type
pub any_pixel : (taking : Taking) (v : ℤ) → TakesPixel taking v → IsPixel v
any_pixel All v h = h
any_pixel (Except nodata) v h = h
any_pixel (By source) v h = h.wide

-- where each pixel is taken as it is, each of a band's type may be
pub plain_pixel : (taking : Taking) (v : ℤ) → taking ≡ All → IsPixel v → TakesPixel taking v
plain_pixel All v is h = h
plain_pixel (Except nodata) v is h = let no : ⊥ = cc in absurd no
plain_pixel (By source) v is h = let no : ⊥ = cc in absurd no

pub in_itself : (kind : PixelType) (v : ℤ) → is_in kind v ≡ true → clamp kind v ≡ v
in_itself kind v h = clamp_kept kind v h

-- what is filled has a value, which is the sample
pub filled_value : (v : ℤ) (x : ℤ) → filled_with v ≡ Some x → x ≡ v
filled_value v x h = on (int_eq v blank) h
  where
    on : (b : Bool) → cond b None (Some v) ≡ Some x → x ≡ v
    on true h = cc
    on false h = cc

-- a list of marks is open
pub open_replicate : (n k : ℕ) → stands (replicate n blank) k ≡ None
open_replicate n k = elim (cases_lt k n) [
  | inl p ↦ ap filled_with (get_or-replicate n k blank blank p)
  | inr p ↦ ap filled_with (past_end (replicate n blank) k (let e = length-replicate n blank in omega arith))
]
  where
    past_end : (xs : List ℤ) (i : ℕ) → length xs ≤ i → get_or xs i blank ≡ blank
    past_end [] i p = refl
    past_end (x ∷ xs) zero p = absurd (omega arith)
    past_end (x ∷ xs) (suc i) p = past_end xs i (omega arith)

any_default : (xs : List ℤ) (k : ℕ) (a b : ℤ) → k < length xs → get_or xs k a ≡ get_or xs k b
any_default [] k a b p = absurd (omega arith)
any_default (x ∷ xs) zero a b p = refl
any_default (x ∷ xs) (suc k) a b p = any_default xs k a b (omega arith)

-- what stands at a place of the list
pub stands_there : (xs : List ℤ) (k : ℕ) → k < length xs → stands xs k ≡ filled_with (get_or xs k (pos 0))
stands_there xs k p = ap filled_with (any_default xs k blank (pos 0) p)

-- what is the same under one more
or_map : (kind : PixelType) (a b : Option ℤ) → option_map (clamp kind) (option_or a b) ≡ option_or (option_map (clamp kind) a) (option_map (clamp kind) b)
or_map kind (Some x) b = refl
or_map kind None b = refl

pub same_under : (kind : PixelType) (a b c : Option ℤ) → IsSame kind a b → IsSame kind (option_or a c) (option_or b c)
same_under kind a b c h = or_map kind a c ∙ ap (λ o. option_or o (option_map (clamp kind) c)) h ∙ sym (or_map kind b c)

-- a value in the range of a type
pub clamped : (kind : PixelType) (v r : ℤ) (o : Option ℤ) → r ≡ clamp kind v → is_in kind r ≡ true → o ≡ Some v → IsSame kind (filled_with r) o
clamped kind v r o is within given =
    ap (option_map (clamp kind)) (pixel_stands r (is_pixel kind r within))
    ∙ ap (λ x. Some x) (in_itself kind r within ∙ is)
    ∙ sym (ap (option_map (clamp kind)) given)

-- the first n places took a pixel where they were open

pub record IsUnderSoFar (taking : Taking) (kind : PixelType) (pixels : List ℤ) (base n : ℕ) (old new : List ℤ) : Type 0 where
  pub size : length new ≡ length old
  pub below : (k : ℕ) → k < n → IsSame kind (filled_with (get_or new k (pos 0))) (option_or (filled_with (get_or old k (pos 0))) (taken_by taking (get_or pixels (base + k) (pos 0))))
  pub above : (k : ℕ) → n ≤ k → get_or new k (pos 0) ≡ get_or old k (pos 0)

pub under_none : (taking : Taking) (kind : PixelType) (pixels : List ℤ) (base : ℕ) (xs : List ℤ) → IsUnderSoFar taking kind pixels base 0 xs xs
under_none taking kind pixels base xs = record { size = refl; below = λ k p. absurd (omega arith); above = λ k p. refl }

pub under_more : (taking : Taking) (kind : PixelType) (pixels : List ℤ) (base i : ℕ) (v : ℤ) (old mid : List ℤ) → i < length mid → IsUnderSoFar taking kind pixels base i old mid
    → IsSame kind (filled_with v) (option_or (filled_with (get_or mid i (pos 0))) (taken_by taking (get_or pixels (base + i) (pos 0)))) → IsUnderSoFar taking kind pixels base (i + 1) old (slice_set mid i v)
under_more taking kind pixels base i v old mid there before here = record {
  size = length-set mid i v ∙ before.size;
  below = λ k p. elim (cases_lt k i) [
    | inl q ↦ ap (λ x. option_map (clamp kind) (filled_with x)) (get_or-set_other mid i k v (pos 0) (λ z. absurd (omega arith))) ∙ before.below k q
    | inr q ↦
        let same : k ≡ i = omega arith in
        subst (λ n. IsSame kind (filled_with (get_or (slice_set mid i v) n (pos 0))) (option_or (filled_with (get_or old n (pos 0))) (taken_by taking (get_or pixels (base + n) (pos 0))))) (sym same)
        (ap (λ x. option_map (clamp kind) (filled_with x)) (get_or-set_same mid i v (pos 0) there) ∙ here
        ∙ ap (λ x. option_map (clamp kind) (option_or (filled_with x) (taken_by taking (get_or pixels (base + i) (pos 0))))) (before.above i (omega arith)))
  ];
  above = λ k p. get_or-set_other mid i k v (pos 0) (λ z. absurd (omega arith)) ∙ before.above k (omega arith);
}

pub under_whole : (taking : Taking) (kind : PixelType) (pixels : List ℤ) (base n : ℕ) (old new : List ℤ) → length old ≤ n → IsUnderSoFar taking kind pixels base n old new → IsMergedFrom taking kind pixels base old new
under_whole taking kind pixels base n old new p h = record { size = h.size; each = λ k q. h.below k (omega arith) }

-- the first n open places have a value
pub record IsClosedSoFar (value : ℤ) (n : ℕ) (old new : List ℤ) : Type 0 where
  pub size : length new ≡ length old
  pub below : (k : ℕ) → k < n → get_or new k (pos 0) ≡ unwrap_or (filled_with (get_or old k (pos 0))) value
  pub above : (k : ℕ) → n ≤ k → get_or new k (pos 0) ≡ get_or old k (pos 0)

pub closed_more : (value : ℤ) (i : ℕ) (old mid : List ℤ) → i < length mid → IsClosedSoFar value i old mid → get_or mid i (pos 0) ≡ blank → IsClosedSoFar value (i + 1) old (slice_set mid i value)
closed_more value i old mid there before here = record {
  size = length-set mid i value ∙ before.size;
  below = λ k p. elim (cases_lt k i) [
    | inl q ↦ get_or-set_other mid i k value (pos 0) (λ z. absurd (omega arith)) ∙ before.below k q
    | inr q ↦
        let same : k ≡ i = omega arith in
        subst (λ n. get_or (slice_set mid i value) n (pos 0) ≡ unwrap_or (filled_with (get_or old n (pos 0))) value) (sym same)
        (get_or-set_same mid i value (pos 0) there ∙ ap (λ x. unwrap_or (filled_with x) value) (sym here ∙ before.above i (omega arith)))
  ];
  above = λ k p. get_or-set_other mid i k value (pos 0) (λ z. absurd (omega arith)) ∙ before.above k (omega arith);
}

pub closed_same : (value : ℤ) (i : ℕ) (old mid : List ℤ) → IsClosedSoFar value i old mid → int_eq (get_or mid i (pos 0)) blank ≡ false → IsClosedSoFar value (i + 1) old mid
closed_same value i old mid before here = record {
  size = before.size;
  below = λ k p. elim (cases_lt k i) [
    | inl q ↦ before.below k q
    | inr q ↦
        let same : k ≡ i = omega arith in
        subst (λ n. get_or mid n (pos 0) ≡ unwrap_or (filled_with (get_or old n (pos 0))) value) (sym same)
        (sym (ap (λ x. unwrap_or (filled_with x) value) (sym (before.above i (omega arith))) ∙ ap (λ b. unwrap_or (cond b None (Some (get_or mid i (pos 0)))) value) here))
  ];
  above = λ k p. before.above k (omega arith);
}

-- a part that is put back

module _ (a n : ℕ) (xs ys : List ℤ) (fits : a + n ≤ length xs) (size : length ys ≡ n) where
  part : length (mid_of a n xs) ≡ n
  part = let d = length-drop a xs in length-take-le n (drop a xs) (omega arith)

  painted : IsPainted (given_between a (a + n) (λ i. Some (get_or ys i (pos 0)))) xs (put_mid a n xs ys)
  painted = painted_part (λ i. Some (get_or ys i (pos 0))) a n xs ys fits (record { size = size ∙ sym part; each = λ k q. refl })

  pub put_size : length (put_mid a n xs ys) ≡ length xs
  put_size = painted.size

  pub put_before : (k : ℕ) → k < a → get_or (put_mid a n xs ys) k (pos 0) ≡ get_or xs k (pos 0)
  put_before k p = painted.each k (omega arith) ∙ ap (λ o. unwrap_or o (get_or xs k (pos 0))) (placed_before a (a + n) (λ i. Some (get_or ys i (pos 0))) k p)

  pub put_behind : (k : ℕ) → a + n ≤ k → k < length xs → get_or (put_mid a n xs ys) k (pos 0) ≡ get_or xs k (pos 0)
  put_behind k p q = painted.each k q ∙ ap (λ o. unwrap_or o (get_or xs k (pos 0))) (placed_after a (a + n) (λ i. Some (get_or ys i (pos 0))) k p)

  pub put_inside : (i : ℕ) → i < n → get_or (put_mid a n xs ys) (a + i) (pos 0) ≡ get_or ys i (pos 0)
  put_inside i p =
      let back : a + i - a ≡ i = omega arith in
      painted.each (a + i) (omega arith) ∙ ap (λ o. unwrap_or o (get_or xs (a + i) (pos 0))) (placed_in a (a + n) (λ i. Some (get_or ys i (pos 0))) (a + i) (omega arith) (omega arith)) ∙ ap (λ j. get_or ys j (pos 0)) back

pub mid_at : (a n : ℕ) (xs : List ℤ) (i : ℕ) → i < n → get_or (mid_of a n xs) i (pos 0) ≡ get_or xs (a + i) (pos 0)
mid_at a n xs i p = get_or-take n (drop a xs) i (pos 0) p ∙ get_or-drop a xs i (pos 0)

-- rows of a place

module _ (taking : Taking) (kind : PixelType) (pixels : List ℤ) (place : Place) where
  pub merged_none : (xs : List ℤ) → IsMerged taking kind pixels place 0 xs xs
  merged_none xs = record {
    size = refl;
    inside = λ x y at. let t = at.top in let b = at.bottom in absurd (omega arith);
    outside = λ x y p q out. refl;
  }

  -- a row more
  row_more : (row : ℕ) (old mid ys : List ℤ) → place.to + place.columns ≤ place.stride → (place.top + row + 1) * place.stride ≤ length mid
      → IsMerged taking kind pixels place row old mid → IsMergedFrom taking kind pixels (row * place.columns) (mid_of ((place.top + row) * place.stride + place.to) place.columns mid) ys
      → IsMerged taking kind pixels place (row + 1) old (put_mid ((place.top + row) * place.stride + place.to) place.columns mid ys)
  row_more row old mid ys wide low before here = record {
    size = put_size ((place.top + row) * place.stride + place.to) place.columns mid ys fits size ∙ before.size;
    inside = λ x y at. let l = at.left in let r = at.right in let t = at.top in let b = at.bottom in elim (cases_lt y (place.top + row)) [
      | inl p ↦
          let less : (y + 1) * place.stride ≤ (place.top + row) * place.stride = mul-le-mul (omega arith) (omega arith) in
          let next : (y + 1) * place.stride ≡ y * place.stride + place.stride = grind arith in
          subst (λ v. IsSame kind (filled_with v) (option_or (filled_with (get_or old (y * place.stride + x) (pos 0))) (taken_by taking (get_or pixels ((y - place.top) * place.columns + (x - place.to)) (pos 0)))))
          (sym (put_before ((place.top + row) * place.stride + place.to) place.columns mid ys fits size (y * place.stride + x) (omega arith)))
          (before.inside x y (record { left = l; right = r; top = t; bottom = p }))
      | inr p ↦
          let same : y ≡ place.top + row = omega arith in
          let spot : y * place.stride + x ≡ ((place.top + row) * place.stride + place.to) + (x - place.to) = (let e : y * place.stride ≡ (place.top + row) * place.stride = ap (λ n. n * place.stride) same in omega arith) in
          let pixel : row * place.columns + (x - place.to) ≡ (y - place.top) * place.columns + (x - place.to) = (let e : row ≡ y - place.top = omega arith in ap (λ n. n * place.columns + (x - place.to)) e) in
          let new : get_or (put_mid ((place.top + row) * place.stride + place.to) place.columns mid ys) (y * place.stride + x) (pos 0) ≡ get_or ys (x - place.to) (pos 0) = ap (λ n. get_or (put_mid ((place.top + row) * place.stride + place.to) place.columns mid ys) n (pos 0)) spot ∙ put_inside ((place.top + row) * place.stride + place.to) place.columns mid ys fits size (x - place.to) (omega arith) in
          let was : get_or (mid_of ((place.top + row) * place.stride + place.to) place.columns mid) (x - place.to) (pos 0) ≡ get_or old (y * place.stride + x) (pos 0) =
          mid_at ((place.top + row) * place.stride + place.to) place.columns mid (x - place.to) (omega arith) ∙ ap (λ n. get_or mid n (pos 0)) (sym spot) ∙ before.outside x y (omega arith) (let k = before.size in let f = fits in omega arith) (λ q. let z = q.bottom in absurd (omega arith)) in
          ap (λ v. option_map (clamp kind) (filled_with v)) new
          ∙ here.each (x - place.to) (let e = part ((place.top + row) * place.stride + place.to) place.columns mid ys fits size in omega arith)
          ∙ ap (λ v. option_map (clamp kind) (option_or (filled_with v) (taken_by taking (get_or pixels (row * place.columns + (x - place.to)) (pos 0))))) was
          ∙ ap (λ n. option_map (clamp kind) (option_or (filled_with (get_or old (y * place.stride + x) (pos 0))) (taken_by taking (get_or pixels n (pos 0))))) pixel
    ];
    outside = λ x y w less out. let k = before.size in elim (cases_lt y (place.top + row)) [
      | inl p ↦
          let row_less : (y + 1) * place.stride ≤ (place.top + row) * place.stride = mul-le-mul (omega arith) (omega arith) in
          let next : (y + 1) * place.stride ≡ y * place.stride + place.stride = grind arith in
          put_before ((place.top + row) * place.stride + place.to) place.columns mid ys fits size (y * place.stride + x) (omega arith) ∙ before.outside x y w less (λ q. out (record { left = q.left; right = q.right; top = q.top; bottom = let b = q.bottom in omega arith }))
      | inr p ↦ elim (cases_lt (place.top + row) y) [
        | inl q ↦
            let row_less : (place.top + row + 1) * place.stride ≤ y * place.stride = mul-le-mul (omega arith) (omega arith) in
            let next : (place.top + row + 1) * place.stride ≡ (place.top + row) * place.stride + place.stride = grind arith in
            put_behind ((place.top + row) * place.stride + place.to) place.columns mid ys fits size (y * place.stride + x) (omega arith) (omega arith) ∙ before.outside x y w less (λ q. let b = q.bottom in absurd (omega arith))
        | inr q ↦
            let same : y ≡ place.top + row = omega arith in
            let e : y * place.stride ≡ (place.top + row) * place.stride = ap (λ n. n * place.stride) same in
            elim (cases_lt x place.to) [
              | inl l ↦ put_before ((place.top + row) * place.stride + place.to) place.columns mid ys fits size (y * place.stride + x) (omega arith) ∙ before.outside x y w less (λ q. let b = q.left in absurd (omega arith))
              | inr l ↦ elim (cases_lt x (place.to + place.columns)) [
                | inl r ↦ absurd (out (record { left = l; right = r; top = omega arith; bottom = omega arith }))
                | inr r ↦ put_behind ((place.top + row) * place.stride + place.to) place.columns mid ys fits size (y * place.stride + x) (omega arith) (omega arith) ∙ before.outside x y w less (λ q. let b = q.right in absurd (omega arith))
              ]
            ]
      ]
    ];
  }
    where
      fits : (place.top + row) * place.stride + place.to + place.columns ≤ length mid
      fits = let next : (place.top + row + 1) * place.stride ≡ (place.top + row) * place.stride + place.stride = grind arith in omega arith

      size : length ys ≡ place.columns
      size = let d = length-drop ((place.top + row) * place.stride + place.to) mid in here.size ∙ length-take-le place.columns (drop ((place.top + row) * place.stride + place.to) mid) (let f = fits in omega arith)

  -- the same at the bounds as code has them
  pub merged_more : (row p q : ℕ) (old mid ys : List ℤ) → p ≡ (place.top + row) * place.stride + place.to → q ≡ p + place.columns → place.to + place.columns ≤ place.stride → (place.top + row + 1) * place.stride ≤ length mid
      → IsMerged taking kind pixels place row old mid → IsMergedFrom taking kind pixels (row * place.columns) (mid_of p (q - p) mid) ys → IsMerged taking kind pixels place (row + 1) old (put_mid p (q - p) mid ys)
  merged_more row p q old mid ys e f wide low before here =
      let d : q - p ≡ place.columns = omega arith in
      subst (λ m. IsMerged taking kind pixels place (row + 1) old (put_mid p m mid ys)) (sym d)
      (subst (λ m. IsMerged taking kind pixels place (row + 1) old (put_mid m place.columns mid ys)) (sym e)
      (row_more row old mid ys wide low before (subst (λ m. IsMergedFrom taking kind pixels (row * place.columns) (mid_of m place.columns mid) ys) e (subst (λ m. IsMergedFrom taking kind pixels (row * place.columns) (mid_of p m mid) ys) d here))))

-- the first n places are open where they had a value
pub record IsOpenedSoFar (value : ℤ) (n : ℕ) (old new : List ℤ) : Type 0 where
  pub size : length new ≡ length old
  pub below : (k : ℕ) → k < n → get_or new k (pos 0) ≡ cond (int_eq value (get_or old k (pos 0))) blank (get_or old k (pos 0))
  pub above : (k : ℕ) → n ≤ k → get_or new k (pos 0) ≡ get_or old k (pos 0)

same_number : (a b : ℤ) → a ≡ b → int_eq a b ≡ true
same_number a b h = grind (arith, ints)

pub opened_more : (value : ℤ) (i : ℕ) (old mid : List ℤ) → i < length mid → IsOpenedSoFar value i old mid → value ≡ get_or mid i (pos 0) → IsOpenedSoFar value (i + 1) old (slice_set mid i blank)
opened_more value i old mid there before here = record {
  size = length-set mid i blank ∙ before.size;
  below = λ k p. elim (cases_lt k i) [
    | inl q ↦ get_or-set_other mid i k blank (pos 0) (λ z. absurd (omega arith)) ∙ before.below k q
    | inr q ↦
        let same : k ≡ i = omega arith in
        subst (λ n. get_or (slice_set mid i blank) n (pos 0) ≡ cond (int_eq value (get_or old n (pos 0))) blank (get_or old n (pos 0))) (sym same)
        (get_or-set_same mid i blank (pos 0) there ∙ sym (ap (λ b. cond b blank (get_or old i (pos 0))) (same_number value (get_or old i (pos 0)) (here ∙ before.above i (omega arith)))))
  ];
  above = λ k p. get_or-set_other mid i k blank (pos 0) (λ z. absurd (omega arith)) ∙ before.above k (omega arith);
}

pub opened_same : (value : ℤ) (i : ℕ) (old mid : List ℤ) → IsOpenedSoFar value i old mid → int_eq value (get_or mid i (pos 0)) ≡ false → IsOpenedSoFar value (i + 1) old mid
opened_same value i old mid before here = record {
  size = before.size;
  below = λ k p. elim (cases_lt k i) [
    | inl q ↦ before.below k q
    | inr q ↦
        let same : k ≡ i = omega arith in
        subst (λ n. get_or mid n (pos 0) ≡ cond (int_eq value (get_or old n (pos 0))) blank (get_or old n (pos 0))) (sym same)
        (before.above i (omega arith) ∙ sym (ap (λ b. cond b blank (get_or old i (pos 0))) (ap (int_eq value) (sym (before.above i (omega arith))) ∙ here)))
  ];
  above = λ k p. before.above k (omega arith);
}

-- a pixel, or the mark in place of one that isn't taken
pub opened_taken : (value v w : ℤ) → IsPixel v → w ≡ cond (int_eq value v) blank v → filled_with w ≡ cond (int_eq value v) None (Some v)
opened_taken value v w h is = ap filled_with is ∙ on (int_eq value v)
  where
    on : (b : Bool) → filled_with (cond b blank v) ≡ cond b None (Some v)
    on true = refl
    on false = pixel_stands v h
