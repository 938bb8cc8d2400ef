use Rattle.std.proofs.Common.{◌≡◌, ◌∙◌, ◌++◌, ◌*◌, ℕ, ◌≤◌, List, ℤ, sym, ap, subst, refl, true, pos, take, drop, length, arith}
use Rattle.std.proofs.Math.Nat.{mul-le-mul_right, mul_comm}
use Rattle.std.specs.Prelude.{is_some, slice_index_or}
use Rattle.std.proofs.Math.Seq.{take-append_seam}
use Rattle.nearest_window.specs.Canvases.{filled_with, IsMerged}
use Rattle.nearest_window.proofs.Merged.{part_place, merged_canvas, merged_taken}
use Rattle.nearest_window.proofs.canvas.Canvas.merge.Goals as goal

whole : (len : ℕ) (ys xs : List ℤ) → length ys ≡ len → take len (ys ++ drop (length ys) xs) ≡ ys
whole len ys xs e = ap (λ m. take m (ys ++ drop (length ys) xs)) (sym e) ∙ take-append_seam ys (drop (length ys) xs)

below : (a w h size : ℕ) → a ≤ h → size ≡ w * h → a * w ≤ size
below a w h size less e = subst (λ n. a * w ≤ n) (mul_comm h w ∙ sym e) (mul-le-mul_right w less)

pub take_rows-requires-clause-low : goal.take_rows-requires-clause-low
take_rows-requires-clause-low c =
    let part = c.requires.part in
    below _ c.args.self.now.rect.w c.args.self.now.rect.h _ (omega arith) (ap length c.as_mut_slice.ensures.value ∙ c.requires.size)

pub returns-clause-canvas : goal.returns-clause-canvas
returns-clause-canvas c =
    let kept = c.take_rows.ensures.taken.size in
    let all = whole c.args.self.now.samples.len c.take_rows.new.out c.args.self.now.samples.items (kept ∙ c.as_mut_slice.ensures.len) in
    let merged = subst (λ xs. IsMerged c.args.taking.now c.args.self.now.kind c.args.pixels.now (part_place c.args.self.now.rect c.args.part) c.args.part.h xs c.take_rows.new.out) c.as_mut_slice.ensures.value c.take_rows.ensures.taken in
    let put = subst (λ ys. IsMerged c.args.taking.now c.args.self.now.kind c.args.pixels.now (part_place c.args.self.now.rect c.args.part) c.args.part.h c.args.self.now.samples.items ys) (sym all) merged in
    merged_canvas c.args.self.now _ c.args.taking.now c.args.pixels.now c.args.part c.requires.canvas c.requires.size c.requires.part put refl refl
    c.filled_from-self.ensures.more (subst (λ (xs : List ℤ). c.filled_from-self.result ≤ length xs) c.as_slice.ensures.value c.filled_from-self.ensures.within)
    (λ k p q. subst (λ (xs : List ℤ). is_some (filled_with (slice_index_or xs k (pos 0))) ≡ true) c.as_slice.ensures.value (c.filled_from-self.ensures.filled k p q))

pub returns-clause-taken : goal.returns-clause-taken
returns-clause-taken c =
    let kept = c.take_rows.ensures.taken.size in
    let all = whole c.args.self.now.samples.len c.take_rows.new.out c.args.self.now.samples.items (kept ∙ c.as_mut_slice.ensures.len) in
    let merged = subst (λ xs. IsMerged c.args.taking.now c.args.self.now.kind c.args.pixels.now (part_place c.args.self.now.rect c.args.part) c.args.part.h xs c.take_rows.new.out) c.as_mut_slice.ensures.value c.take_rows.ensures.taken in
    let put = subst (λ ys. IsMerged c.args.taking.now c.args.self.now.kind c.args.pixels.now (part_place c.args.self.now.rect c.args.part) c.args.part.h c.args.self.now.samples.items ys) (sym all) merged in
    merged_taken c.args.self.now _ c.args.taking.now c.args.pixels.now c.args.part c.requires.canvas c.requires.size c.requires.part put refl refl
