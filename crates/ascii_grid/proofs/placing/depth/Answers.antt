use Rattle.std.proofs.Common.{◌≡◌, ◌<◌, ◌^◌, ◌*◌, ◌*ℤ◌, ℤ, pos, unsigned_abs, to_z, subst, sym, ap, arith, FitsSigned}
use Rattle.std.proofs.lemmas.Int.{to_z-of_z, to_z_pos}
use Rattle.std.specs.Int.{w128}
use Rattle.ascii_grid.proofs.Products.{depth_small, depth_fits}
use Rattle.ascii_grid.proofs.placing.depth.Goals as goal

pub overflow_mul-result : goal.overflow_mul-result
overflow_mul-result c =
    let lines : to_z w128 c.args.h ≡ pos c.args.h = to_z_pos w128 c.args.h (omega arith) in
    let wide : FitsSigned w128 c.get.result = record { sfits = c.get.type_inv } in
    let near : unsigned_abs c.get.result < 18 * 10 ^ 28 = subst (λ (z : ℤ). unsigned_abs z < 18 * 10 ^ 28) (sym c.get.ensures.value) c.requires.step in
    rw lines (simp to_z-of_z (depth_fits c.args.h c.get.result c.requires.h near))

pub returns : goal.returns
returns c =
    let lines : to_z w128 c.args.h ≡ pos c.args.h = to_z_pos w128 c.args.h (omega arith) in
    let wide : FitsSigned w128 c.get.result = record { sfits = c.get.type_inv } in
    let near : unsigned_abs c.get.result < 18 * 10 ^ 28 = subst (λ (z : ℤ). unsigned_abs z < 18 * 10 ^ 28) (sym c.get.ensures.value) c.requires.step in
    let fits : FitsSigned w128 (pos c.args.h *ℤ c.get.result) = depth_fits c.args.h c.get.result c.requires.h near in
    record {
      value = rw lines (simp to_z-of_z (ap (λ (z : ℤ). pos c.args.h *ℤ z) c.get.ensures.value));
      bound = rw lines (simp to_z-of_z (depth_small c.args.h c.get.result c.requires.h near));
    }
