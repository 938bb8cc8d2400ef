-- What a source is asked for.
use Rattle.std.proofs.Common.{◌≡◌, ℕ, ◌+◌, ◌-◌, ◌*◌, ◌<◌, ◌≤◌, List, length, Some, None, sym, ap, ◌∙◌, subst, arith, inl, inr}
use Rattle.std.specs.Prelude.{slice_get}
use Rattle.std.proofs.lemmas.Bool.{cases_lt}
use Rattle.geotransform.specs.declared.types.Rect.{Rect}
use Rattle.geotransform.specs.declared.types.Size.{Size}
use Rattle.geotransform.specs.Pixels.{IsInside}
use Rattle.vrt_profile.specs.Values.{SourceValue}
use Rattle.vrt_profile.specs.Cover.{axis_at, columns_of, lines_of, cover_of}
use Rattle.catalog.specs.Drivers.{Dataset}
use Rattle.catalog.specs.Pixels.{pixel_of, member_size}
use Rattle.catalog.specs.Places.{IsWithin}
use Rattle.catalog.specs.Walk.{IsDataset, IsCatalog}
use Rattle.catalog.proofs.Pixels.{item}
use Rattle.band_blocks.specs.declared.key.BlockKey.{BlockKey}
use Rattle.nearest_window.specs.declared.asking.Asked.{Asked}
use Rattle.nearest_window.specs.declared.canvas.Canvas.{Canvas}
use Rattle.nearest_window.specs.declared.picture.Picture.{Picture}
use Rattle.nearest_window.specs.declared.taking.Taking.TheVariants.{All}
use Rattle.nearest_window.specs.Canvases.{IsAsked, IsUnasked}
use Rattle.nearest_window.specs.Heights.{height_at}
use Rattle.nearest_window.specs.Shown.{IsPictureOf, IsSeenBy, IsUnseen, IsSourceOf, TakesBand}
use Rattle.nearest_window.specs.Taken.{place_at, IsLongAs}
use Rattle.nearest_window.proofs.Covers.{unseen_column, unseen_line}

pub unseen_unasked : (s : SourceValue) (mosaic size : Size) (c : Canvas) → IsUnseen s mosaic size c.rect → IsUnasked s mosaic size c
unseen_unasked s mosaic size c unseen x y at =
    let l = at.left in let r = at.right in let t = at.top in let b = at.bottom in
    let i : c.rect.x + (x - c.rect.x) ≡ x = omega arith in
    let j : c.rect.y + (y - c.rect.y) ≡ y = omega arith in
    inr (ap (λ n. cover_of s mosaic size n y) (sym i) ∙ ap (cover_of s mosaic size (c.rect.x + (x - c.rect.x))) (sym j) ∙ unseen (x - c.rect.x) (y - c.rect.y) (omega arith) (omega arith))

pub ends_below : (cat : List Dataset) (id : ℕ) (d : Dataset) (rect : Rect) → IsCatalog cat → slice_get cat id ≡ Some d → IsWithin rect d.head.size → (rect.x + rect.w ≤ 4194304) × (rect.y + rect.h ≤ 4194304)
ends_below cat id d rect valid at within =
    let size = (item IsDataset cat id d valid.each at).valid.size in
    let a = size.columns in let b = size.lines in let e = within.right in let f = within.bottom in
    (omega arith, omega arith)

module _ (cat : List Dataset) (key : BlockKey) (number : ℕ) (s : SourceValue) (c : Canvas) (p q : Picture) (a : Asked) (of : IsSourceOf cat key number s) (seen : IsSeenBy cat key s c.rect p) (known : IsPictureOf cat p)
    (takes : TakesBand cat s p) (falls : height_at cat p.dataset < height_at cat key.dataset) (dataset : q.dataset ≡ p.dataset) (band : q.band ≡ p.band) (taking : q.taking ≡ All) (width : q.width ≡ p.width) (columns : q.columns ≡ p.columns) (height : q.height ≡ p.height) (lines : q.lines ≡ p.lines)
    (to : q.to ≡ 0) (stride : q.stride ≡ p.width) (picture : a.picture ≡ q) (left : a.part.x ≡ c.rect.x + p.to) (top : a.part.y ≡ c.rect.y + p.top) (wide : a.part.w ≡ p.width) (high : a.part.h ≡ p.height) (room : length a.pixels.items ≡ a.part.w * a.part.h) where
  cut : (d : Dataset) → slice_get cat key.dataset ≡ Some d → (x y : ℕ) → IsInside c.rect x y → (IsInside a.part x y → ⊥) → cover_of s d.head.size (member_size cat d s) x y ≡ None
  cut d at x y there out =
      let part = seen.seen d at in
      let l = there.left in let r = there.right in let t = there.top in let b = there.bottom in
      let i : c.rect.x + (x - c.rect.x) ≡ x = omega arith in
      let j : c.rect.y + (y - c.rect.y) ≡ y = omega arith in
      elim (cases_lt (x - c.rect.x) p.to) [
        | inl u ↦ unseen_column s d.head.size (member_size cat d s) x y (subst (λ n. axis_at (columns_of s d.head.size (member_size cat d s)) (member_size cat d s).w n ≡ None) i (part.across.before (x - c.rect.x) u))
        | inr u ↦ elim (cases_lt (x - c.rect.x) (p.to + p.width)) [
          | inr v ↦ unseen_column s d.head.size (member_size cat d s) x y (subst (λ n. axis_at (columns_of s d.head.size (member_size cat d s)) (member_size cat d s).w n ≡ None) i (part.across.behind (x - c.rect.x) v (omega arith)))
          | inl v ↦ elim (cases_lt (y - c.rect.y) p.top) [
            | inl w ↦ unseen_line s d.head.size (member_size cat d s) x y (subst (λ n. axis_at (lines_of s d.head.size (member_size cat d s)) (member_size cat d s).h n ≡ None) j (part.down.before (y - c.rect.y) w))
            | inr w ↦ elim (cases_lt (y - c.rect.y) (p.top + p.height)) [
              | inr z ↦ unseen_line s d.head.size (member_size cat d s) x y (subst (λ n. axis_at (lines_of s d.head.size (member_size cat d s)) (member_size cat d s).h n ≡ None) j (part.down.behind (y - c.rect.y) z (omega arith)))
              | inl z ↦ absurd (out (record { left = omega arith; right = omega arith; top = omega arith; bottom = omega arith }))
            ]
          ]
        ]
      ]

  known_alone : IsPictureOf cat q
  known_alone =
      let here = seen.seen of.dataset of.in_range.at in
      let f = known.picture in
      let positive = known.some in
      record {
        picture = record { columns = subst (λ n. IsLongAs q.columns n) (sym width) (subst (λ cs. IsLongAs cs p.width) (sym columns) f.columns); lines = subst (λ n. IsLongAs q.lines n) (sym height) (subst (λ cs. IsLongAs cs p.height) (sym lines) f.lines); some = omega arith; inside = omega arith; plain = taking };
        some = omega arith;
        dataset = known.dataset;
        at = subst (λ n. slice_get cat n ≡ Some known.dataset) (sym dataset) known.at;
        band = subst (λ n. n < length known.dataset.head.bands) (sym band) known.band;
        columns = λ k l. subst (λ cs. place_at cs k < known.dataset.head.size.w) (sym columns) (known.columns k (omega arith));
        lines = λ k l. subst (λ cs. place_at cs k < known.dataset.head.size.h) (sym lines) (known.lines k (omega arith));
      }

  alone : IsPictureOf cat a.picture
  alone = subst (IsPictureOf cat) (sym picture) known_alone

  pub asked_is : IsAsked cat key s c a
  asked_is =
      let here = seen.seen of.dataset of.in_range.at in
      let i = here.across.inside in let j = here.down.inside in let positive = here.across.some in
      record {
        picture = alone;
        falls = subst (λ n. height_at cat n < height_at cat key.dataset) (sym (ap (λ (p : Picture). p.dataset) picture ∙ dataset)) falls;
        inside = record { left = omega arith; right = omega arith; top = omega arith; bottom = omega arith; some = omega arith };
        width = ap (λ (p : Picture). p.width) picture ∙ width ∙ sym wide;
        height = ap (λ (p : Picture). p.height) picture ∙ height ∙ sym high;
        to = ap (λ (p : Picture). p.to) picture ∙ to;
        stride = ap (λ (p : Picture). p.stride) picture ∙ stride ∙ sym wide;
        taking = ap (λ (p : Picture). p.taking) picture ∙ taking;
        takes = λ d b at there. takes d b (subst (λ n. slice_get cat n ≡ Some d) (ap (λ (p : Picture). p.dataset) picture ∙ dataset) at) (subst (λ n. slice_get d.head.bands n ≡ Some b) (ap (λ (p : Picture). p.band) picture ∙ band) there);
        size = room;
        pixels = λ m d at x y. seen.pixels m d at x y ∙ ap (λ n. pixel_of m cat n p.band x y) (sym (ap (λ (p : Picture). p.dataset) picture ∙ dataset)) ∙ ap (λ n. pixel_of m cat a.picture.dataset n x y) (sym (ap (λ (p : Picture). p.band) picture ∙ band));
        across = λ d at k l. ap (λ n. axis_at (columns_of s d.head.size (member_size cat d s)) (member_size cat d s).w (n + k)) left ∙ (seen.seen d at).across.there k (omega arith) ∙ ap (λ cs. Some (place_at cs k)) (sym (ap (λ (p : Picture). p.columns) picture ∙ columns));
        down = λ d at k l. ap (λ n. axis_at (lines_of s d.head.size (member_size cat d s)) (member_size cat d s).h (n + k)) top ∙ (seen.seen d at).down.there k (omega arith) ∙ ap (λ cs. Some (place_at cs k)) (sym (ap (λ (p : Picture). p.lines) picture ∙ lines));
        outside = λ d at x y there out. inr (cut d at x y there out);
      }
