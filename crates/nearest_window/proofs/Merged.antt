-- A canvas whose open samples took the pixels of a part.
use Rattle.std.proofs.Common.{◌≡◌, ◌⊎◌, ℕ, ℤ, pos, ◌+◌, ◌-◌, ◌*◌, ◌/◌, ◌%◌, ◌^◌, ◌<◌, ◌≤◌, List, [], length, map, get_or, Option, Some, None, true, refl, sym, ap, ◌∙◌, subst, arith, inl, inr}
use Rattle.std.specs.Prelude.{is_some, option_map}
use Rattle.std.specs.Option.{option_or, unwrap_or}
use Rattle.std.proofs.lemmas.Bool.{cases_lt}
use Rattle.std.proofs.lemmas.Nat.{div-add-mod', mod_below, mul-add-lt}
use Rattle.geotransform.specs.Types.{clamp}
use Rattle.geotransform.specs.declared.types.PixelType.{PixelType}
use Rattle.geotransform.specs.declared.types.Rect.{Rect}
use Rattle.geotransform.specs.Pixels.{IsInside}
use Rattle.band_blocks.specs.Blocks.{BlockView, block_view}
use Rattle.nearest_window.specs.declared.canvas.Canvas.{Canvas}
use Rattle.nearest_window.specs.declared.merging.Place.{Place}
use Rattle.nearest_window.specs.declared.taking.Taking.{Taking}
use Rattle.nearest_window.specs.Canvases.{filled_with, stands, stands_at, IsSame, IsCanvas, HoldsPart, IsInPlace, IsMerged, IsTaken, IsPackedOf}
use Rattle.nearest_window.specs.Taken.{taken_by}
use Rattle.nearest_window.proofs.Canvases.{stands_there, open_replicate}

some_mapped : (kind : PixelType) (a : Option ℤ) → is_some (option_map (clamp kind) a) ≡ is_some a
some_mapped kind (Some v) = refl
some_mapped kind None = refl

some_or : (a b : Option ℤ) → is_some a ≡ true → is_some (option_or a b) ≡ true
some_or (Some v) b h = refl
some_or None b h = cc

still_some : (kind : PixelType) (a b g : Option ℤ) → IsSame kind a (option_or b g) → is_some b ≡ true → is_some a ≡ true
still_some kind a b g h s = sym (some_mapped kind a) ∙ ap is_some h ∙ some_mapped kind (option_or b g) ∙ some_or b g s

abbrev pub part_place : Rect → Rect → Place
part_place rect part = record { to = part.x - rect.x; top = part.y - rect.y; columns = part.w; rows = part.h; stride = rect.w }

module _ (c c' : Canvas) (taking : Taking) (pixels : List ℤ) (part : Rect) (canvas : IsCanvas c) (size : length c.samples.items ≡ c.rect.w * c.rect.h) (inside : HoldsPart c.rect part)
    (merged : IsMerged taking c.kind pixels (part_place c.rect part) part.h c.samples.items c'.samples.items) (same_rect : c'.rect ≡ c.rect) (same_kind : c'.kind ≡ c.kind) where
  new_size : length c'.samples.items ≡ c.rect.w * c.rect.h
  new_size = merged.size ∙ size

  at_or_not : (x y : ℕ) → IsInPlace (part_place c.rect part) part.h x y ⊎ (IsInPlace (part_place c.rect part) part.h x y → ⊥)
  at_or_not x y = elim (cases_lt x (part.x - c.rect.x)) [
    | inl p ↦ inr (λ i. let q = i.left in absurd (omega arith))
    | inr p ↦ elim (cases_lt x (part.x - c.rect.x + part.w)) [
      | inr q ↦ inr (λ i. let r = i.right in absurd (omega arith))
      | inl q ↦ elim (cases_lt y (part.y - c.rect.y)) [
        | inl r ↦ inr (λ i. let z = i.top in absurd (omega arith))
        | inr r ↦ elim (cases_lt y (part.y - c.rect.y + part.h)) [
          | inr z ↦ inr (λ i. let w = i.bottom in absurd (omega arith))
          | inl z ↦ inl (record { left = p; right = q; top = r; bottom = z })
        ]
      ]
    ]
  ]

  -- what stood stands
  stays : (k : ℕ) → k < c.rect.w * c.rect.h → is_some (stands c.samples.items k) ≡ true → is_some (stands c'.samples.items k) ≡ true
  stays k p h =
      let some = canvas.some in
      let split = div-add-mod' k c.rect.w in
      let was : is_some (filled_with (get_or c.samples.items (k / c.rect.w * c.rect.w + k % c.rect.w) (pos 0))) ≡ true =
      ap (λ n. is_some (filled_with (get_or c.samples.items n (pos 0)))) split ∙ ap is_some (sym (stands_there c.samples.items k (subst (λ n. k < n) (sym size) p))) ∙ h in
      ap is_some (stands_there c'.samples.items k (subst (λ n. k < n) (sym new_size) p)) ∙ ap (λ n. is_some (filled_with (get_or c'.samples.items n (pos 0)))) (sym split)
      ∙ elim (at_or_not (k % c.rect.w) (k / c.rect.w)) [
        | inl at ↦ still_some c.kind _ _ _ (merged.inside (k % c.rect.w) (k / c.rect.w) at) was
        | inr out ↦ ap (λ v. is_some (filled_with v)) (merged.outside (k % c.rect.w) (k / c.rect.w) (mod_below k c.rect.w some) (omega arith) out) ∙ was
      ]

  pub merged_canvas : c.filled ≤ c'.filled → c'.filled ≤ length c'.samples.items → ((k : ℕ) → c.filled ≤ k → k < c'.filled → is_some (filled_with (get_or c'.samples.items k (pos 0))) ≡ true) → IsCanvas c'
  merged_canvas more within filled = record {
    size = inr (new_size ∙ sym (ap (λ (r : Rect). r.w * r.h) same_rect));
    some = subst (λ (r : Rect). 0 < r.w) (sym same_rect) canvas.some;
    few = subst (λ (r : Rect). r.w * r.h < 2 ^ 32) (sym same_rect) canvas.few;
    within = subst (λ (r : Rect). c'.filled ≤ r.w * r.h) (sym same_rect) (let s = new_size in omega arith);
    filled = λ k p. elim (cases_lt k c.filled) [
      | inl q ↦ stays k (let w = canvas.within in omega arith) (canvas.filled k q)
      | inr q ↦ ap is_some (stands_there c'.samples.items k (omega arith)) ∙ filled k q p
    ];
  }

  spot_below : (x y : ℕ) → IsInside c.rect x y → (y - c.rect.y) * c.rect.w + (x - c.rect.x) < c.rect.w * c.rect.h
  spot_below x y at = let l = at.left in let r = at.right in let t = at.top in let b = at.bottom in mul-add-lt (y - c.rect.y) c.rect.w (x - c.rect.x) c.rect.h (omega arith) (omega arith)

  stands_old : (x y : ℕ) → IsInside c.rect x y → stands_at c x y ≡ filled_with (get_or c.samples.items ((y - c.rect.y) * c.rect.w + (x - c.rect.x)) (pos 0))
  stands_old x y at = stands_there c.samples.items ((y - c.rect.y) * c.rect.w + (x - c.rect.x)) (subst (λ n. (y - c.rect.y) * c.rect.w + (x - c.rect.x) < n) (sym size) (spot_below x y at))

  stands_new : (x y : ℕ) → IsInside c.rect x y → stands_at c' x y ≡ filled_with (get_or c'.samples.items ((y - c.rect.y) * c.rect.w + (x - c.rect.x)) (pos 0))
  stands_new x y at =
      ap (λ (r : Rect). stands c'.samples.items ((y - r.y) * r.w + (x - r.x))) same_rect
      ∙ stands_there c'.samples.items ((y - c.rect.y) * c.rect.w + (x - c.rect.x)) (subst (λ n. (y - c.rect.y) * c.rect.w + (x - c.rect.x) < n) (sym new_size) (spot_below x y at))

  pub merged_taken : IsTaken taking pixels part c c'
  merged_taken = record {
    rect = same_rect;
    kind = same_kind;
    inside = λ x y at.
        let a = inside.left in let b = inside.right in let e = inside.top in let f = inside.bottom in
        let l = at.left in let r = at.right in let t = at.top in let z = at.bottom in
        let there : IsInside c.rect x y = record { left = omega arith; right = omega arith; top = omega arith; bottom = omega arith } in
        let i : x - c.rect.x - (part.x - c.rect.x) ≡ x - part.x = omega arith in
        let j : y - c.rect.y - (part.y - c.rect.y) ≡ y - part.y = omega arith in
        ap (option_map (clamp c.kind)) (stands_new x y there)
        ∙ merged.inside (x - c.rect.x) (y - c.rect.y) (record { left = omega arith; right = omega arith; top = omega arith; bottom = omega arith })
        ∙ ap (λ o. option_map (clamp c.kind) (option_or o (taken_by taking (get_or pixels ((y - c.rect.y - (part.y - c.rect.y)) * part.w + (x - c.rect.x - (part.x - c.rect.x))) (pos 0))))) (sym (stands_old x y there))
        ∙ ap (λ n. option_map (clamp c.kind) (option_or (stands_at c x y) (taken_by taking (get_or pixels (n * part.w + (x - c.rect.x - (part.x - c.rect.x))) (pos 0))))) j
        ∙ ap (λ n. option_map (clamp c.kind) (option_or (stands_at c x y) (taken_by taking (get_or pixels ((y - part.y) * part.w + n) (pos 0))))) i;
    outside = λ x y there out.
        let a = inside.left in let b = inside.right in let e = inside.top in let f = inside.bottom in
        let l = there.left in let r = there.right in let t = there.top in let z = there.bottom in
        stands_new x y there
        ∙ ap filled_with (merged.outside (x - c.rect.x) (y - c.rect.y) (omega arith) (subst (λ n. (y - c.rect.y) * c.rect.w + (x - c.rect.x) < n) (sym size) (spot_below x y there))
        (λ at. let g = at.left in let h = at.right in let i = at.top in let j = at.bottom in out (record { left = omega arith; right = omega arith; top = omega arith; bottom = omega arith })))
        ∙ sym (stands_old x y there);
  }

-- the samples of a canvas, with a value where they are open, are packed
pub packed_of : (c : Canvas) (value : ℤ) (began xs : List ℤ) (kind : PixelType) → kind ≡ c.kind → length began ≡ c.rect.w * c.rect.h → ((k : ℕ) → k < c.rect.w * c.rect.h → stands began k ≡ stands c.samples.items k)
    → length xs ≡ length began → ((k : ℕ) → k < length began → get_or xs k (pos 0) ≡ unwrap_or (filled_with (get_or began k (pos 0))) value) → (b : BlockView) → b ≡ block_view kind (map (clamp kind) xs) → IsPackedOf c value b
packed_of c value began xs kind same size stood kept closed b packed = record {
  samples = xs;
  size = kept ∙ size;
  each = λ k p. let q : k < length began = subst (λ n. k < n) (sym size) p in closed k q ∙ ap (λ o. unwrap_or o value) (sym (stands_there began k q) ∙ stood k p);
  packed = packed ∙ ap (λ t. block_view t (map (clamp t) xs)) same;
}

-- a canvas on which nothing was filled, and whose samples then were made of pixels

module _ (c c' : Canvas) (taking : Taking) (pixels : List ℤ) (part : Rect) (canvas : IsCanvas c) (inside : HoldsPart c.rect part) (size : length pixels ≡ part.w * part.h) (none : c.samples.items ≡ []) (wide : part.w ≡ c.rect.w) (high : part.h ≡ c.rect.h)
    (same_rect : c'.rect ≡ c.rect) (same_kind : c'.kind ≡ c.kind) (kept : length c'.samples.items ≡ length pixels) where
  all_size : length pixels ≡ c.rect.w * c.rect.h
  all_size = size ∙ ap (λ n. n * part.h) wide ∙ ap (λ n. c.rect.w * n) high

  pub made_canvas : c'.filled ≤ length c'.samples.items → ((k : ℕ) → k < c'.filled → is_some (filled_with (get_or c'.samples.items k (pos 0))) ≡ true) → IsCanvas c'
  made_canvas within filled = record {
    size = inr (kept ∙ all_size ∙ sym (ap (λ (r : Rect). r.w * r.h) same_rect));
    some = subst (λ (r : Rect). 0 < r.w) (sym same_rect) canvas.some;
    few = subst (λ (r : Rect). r.w * r.h < 2 ^ 32) (sym same_rect) canvas.few;
    within = subst (λ (r : Rect). c'.filled ≤ r.w * r.h) (sym same_rect) (let s = all_size in omega arith);
    filled = λ k p. ap is_some (stands_there c'.samples.items k (omega arith)) ∙ filled k p;
  }

  pub made_taken : ((k : ℕ) → k < length pixels → filled_with (get_or c'.samples.items k (pos 0)) ≡ taken_by taking (get_or pixels k (pos 0))) → IsTaken taking pixels part c c'
  made_taken each = record {
    rect = same_rect;
    kind = same_kind;
    inside = λ x y at.
        let a = inside.left in let b = inside.right in let e = inside.top in let f = inside.bottom in
        let l = at.left in let r = at.right in let t = at.top in let z = at.bottom in
        let spot = mul-add-lt (y - c.rect.y) c.rect.w (x - c.rect.x) c.rect.h (omega arith) (omega arith) in
        let here = subst (λ n. (y - c.rect.y) * c.rect.w + (x - c.rect.x) < n) (sym all_size) spot in
        let i : x - c.rect.x ≡ x - part.x = omega arith in
        let j : y - c.rect.y ≡ y - part.y = omega arith in
        let new : stands_at c' x y ≡ taken_by taking (get_or pixels ((y - part.y) * part.w + (x - part.x)) (pos 0)) =
        ap (λ (r : Rect). stands c'.samples.items ((y - r.y) * r.w + (x - r.x))) same_rect
        ∙ stands_there c'.samples.items ((y - c.rect.y) * c.rect.w + (x - c.rect.x)) (subst (λ n. (y - c.rect.y) * c.rect.w + (x - c.rect.x) < n) (sym kept) here)
        ∙ each ((y - c.rect.y) * c.rect.w + (x - c.rect.x)) here
        ∙ ap (λ n. taken_by taking (get_or pixels (n * c.rect.w + (x - c.rect.x)) (pos 0))) j ∙ ap (λ n. taken_by taking (get_or pixels ((y - part.y) * n + (x - c.rect.x)) (pos 0))) (sym wide) ∙ ap (λ n. taken_by taking (get_or pixels ((y - part.y) * part.w + n) (pos 0))) i in
        let old : stands_at c x y ≡ None = ap (λ xs. stands xs ((y - c.rect.y) * c.rect.w + (x - c.rect.x))) none ∙ open_replicate 0 ((y - c.rect.y) * c.rect.w + (x - c.rect.x)) in
        ap (option_map (clamp c.kind)) (new ∙ sym (ap (λ o. option_or o (taken_by taking (get_or pixels ((y - part.y) * part.w + (x - part.x)) (pos 0)))) old));
    outside = λ x y there out.
        let a = inside.left in let b = inside.right in let e = inside.top in let f = inside.bottom in
        let l = there.left in let r = there.right in let t = there.top in let z = there.bottom in
        absurd (out (record { left = omega arith; right = omega arith; top = omega arith; bottom = omega arith }));
  }
