use Rattle.std.proofs.Common.{◌≡◌, ◌∙◌, ◌+ℤ◌, ◌&&◌, ap, sym, subst, arith, int_le, int_lt, false}
use Rattle.std.proofs.lemmas.Int.{to_z-of_z}
use Rattle.vrt_profile.specs.Values.{SourceValue, Rectangle}
use Rattle.vrt_profile.specs.Cover.{centre}
use Rattle.mosaic_sources.proofs.Beside.{no_column, no_line}
use Rattle.mosaic_sources.proofs.Runs.{near_fits}
use Rattle.mosaic_sources.proofs.covering.misses.Goals as goal

pub returns-then-is_beside : goal.returns-then-is_beside
returns-then-is_beside c =
    let a = near_fits c.part.inside.x (let i = c.part.invariant.left in omega arith) in
    let b = near_fits c.part.inside.w (let i = c.part.invariant.width in omega arith) in
    let beside = simp to_z-of_z at (c.is_beside.ensures.beside c.if-is_beside.true) in
    record {
      missed = λ h mosaic size x y left right top bottom.
          no_column c.args.source.now c.in-Some.part (sym (ap (λ (s : SourceValue). s.dst) c.source.view_is) ∙ c.in-Some.is) mosaic size x y
          (subst (λ (r : Rectangle). (int_le r.x (centre x) && int_lt (centre x) (r.x +ℤ r.w)) ≡ false) c.part.view_is (beside x left right));
    }

pub returns-in-Some : goal.returns-in-Some
returns-in-Some c =
    let a = near_fits c.part.inside.y (let i = c.part.invariant.top in omega arith) in
    let b = near_fits c.part.inside.h (let i = c.part.invariant.height in omega arith) in
    record {
      missed = λ h mosaic size x y left right top bottom.
          let beside = simp to_z-of_z at (c.is_beside-in-Some.ensures.beside h) in
          no_line c.args.source.now c.in-Some.part (sym (ap (λ (s : SourceValue). s.dst) c.source.view_is) ∙ c.in-Some.is) mosaic size x y
          (subst (λ (r : Rectangle). (int_le r.y (centre y) && int_lt (centre y) (r.y +ℤ r.h)) ≡ false) c.part.view_is (beside y top bottom));
    }
