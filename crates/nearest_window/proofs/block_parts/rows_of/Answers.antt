use Rattle.std.proofs.Common.{rules, ◌≡◌, ◌*◌, ◌^◌, ◌<◌, Some, sym, subst}
use Rattle.std.specs.Prelude.{slice_get}
use Rattle.nearest_window.proofs.block_parts.rows_of.Goals as goal

pub returns-clause-part : goal.returns-clause-part
returns-clause-part c =
    let around = c.block_around.ensures.around in
    let small = c.is_small.ensures.small in
    let taken = c.if-not-is_small.false in
    let few : c.in_ok-rect.rect.w * c.in_ok-rect.rect.h < 2 ^ 32 = search (rules, small, taken) in
    record {
      mosaic = c.in_ok-band.ensures.mosaic;
      sources = c.in_ok-band.ensures.few;
      dataset_is = around.dataset_is;
      band_is = around.band;
      within = λ d at. c.in_ok-rect.ensures.within d (subst (λ n. slice_get c.args.cat.now n ≡ Some d) (sym around.dataset_is) at);
      few = few;
      across = c.in_ok-rect.ensures.across;
      down = c.in_ok-rect.ensures.down;
    }
