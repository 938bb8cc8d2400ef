use Rattle.std.proofs.Common.{rules, ◌≡◌, ◌∙◌, ◌++◌, ℕ, List, ℤ, sym, ap, subst, take, drop, map, length, to_z, of_z}
use mir.Syntax.{w128}
use Rattle.std.proofs.Math.Seq.{take-append_seam}
use Rattle.geotransform.specs.Types.{clamp}
use Rattle.band_blocks.specs.Blocks.{BlockView, block_view}
use Rattle.nearest_window.specs.Canvases.{stands, IsPackedOf}
use Rattle.nearest_window.proofs.Merged.{packed_of}
use Rattle.nearest_window.proofs.canvas.Canvas.packed.Goals as goal

whole : (len : ℕ) (ys xs : List ℤ) → length ys ≡ len → take len (ys ++ drop (length ys) xs) ≡ ys
whole len ys xs e = ap (λ m. take m (ys ++ drop (length ys) xs)) (sym e) ∙ take-append_seam ys (drop (length ys) xs)

pub returns : goal.returns
returns c =
    let o = c.in_ok-begin.ensures in
    let f : to_z w128 (of_z w128 c.args.nodata) ≡ c.args.nodata = search rules in
    let all = whole c.begin.new.self.samples.len c.close.new.samples c.begin.new.self.samples.items (c.close.ensures.size ∙ c.as_mut_slice.ensures.len) in
    let each : (b : BlockView) → b ≡ block_view c.begin.new.self.kind (map (clamp c.begin.new.self.kind) c.as_slice.result.now) → IsPackedOf c.args.self.now c.args.nodata b =
    λ b e. subst (λ v. IsPackedOf c.args.self.now v b) f
    (packed_of c.args.self.now (to_z w128 (of_z w128 c.args.nodata)) c.as_mut_slice.result.now c.close.new.samples c.begin.new.self.kind o.kind (ap length c.as_mut_slice.ensures.value ∙ o.size)
    (λ k p. ap (λ xs. stands xs k) c.as_mut_slice.ensures.value ∙ o.stands k p) c.close.ensures.size c.close.ensures.closed b
    (e ∙ ap (λ xs. block_view c.begin.new.self.kind (map (clamp c.begin.new.self.kind) xs)) (c.as_slice.ensures.value ∙ all))) in
    record { packed = search (rules, each, c.pack_clamped.ensures.samples) }
