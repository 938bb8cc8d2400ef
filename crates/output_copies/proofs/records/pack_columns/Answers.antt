use Rattle.std.proofs.Common.{◌≡◌, ◌∙◌, ◌+◌, ◌-◌, ◌<◌, ap, arith, inl, inr, length, subst, sym, true, ℕ, ℤ, List}
use Rattle.std.specs.Prelude.{slice_set}
use Rattle.std.proofs.lemmas.Bool.{cases_lt}
use Rattle.std.proofs.lemmas.List.Elements.{All-set}
use Rattle.band_blocks.specs.Blocks.{BlockView}
use Rattle.write_back.specs.Forms.{cut_of}
use Rattle.write_back.specs.Packed.{block_len, in_bytes}
use Rattle.output_copies.specs.Packed.{place_in, HoldsFront, IsBlockFor, IsMade, IsPackedAt}
use Rattle.output_copies.proofs.Fronts.{front_held}
use Rattle.output_copies.proofs.Packs.{are_held, column_band, column_blocks, column_spots, made_here, made_there, place_within}
use Rattle.output_copies.proofs.records.pack_columns.Goals as goal

pub bounds-packed-place : goal.bounds-packed-place
bounds-packed-place g c =
    let p = c.args.task.now.translation.now.plan in
    let some = c.rules.ensures.kept.some_band in
    let within = place_within (length p.bands) 0 (c.loop-x.x - c.args.portion.top) c.args.task.now.rows some (omega (arith, c.requires.few, c.loop-x-test.true)) in
    let place : c.place_of-place.result ≡ place_in (length c.args.task.now.translation.now.plan.bands) 0 (c.loop-x.x - c.args.portion.top) = c.place_of-place.ensures.place ∙ ap (λ n. place_in n 0 (c.loop-x.x - c.args.portion.top)) c.count-bands.ensures.count in
    omega (arith, within, place, c.requires.long, c.loop-x.auto.packed)

pub pack_column-requires-clause-column : goal.pack_column-requires-clause-column
pack_column-requires-clause-column g c =
    let wide = column_blocks c.args.task.now.translation.now.plan c.args.task.now.packing c.rules.ensures.kept c.requires.task.output c.requires.columns in
    omega (arith, wide, c.requires.end, c.loop-x-test.true)

pub pack_column-requires-clause-block : goal.pack_column-requires-clause-block
pack_column-requires-clause-block g c =
    subst (IsBlockFor c.args.task.now.packing) (sym c.index-records-at.is) (c.requires.blocks (c.loop-x.x - c.args.portion.top) c.index-records-at.result (omega (arith, c.requires.count, c.requires.few, c.loop-x-test.true)))

pub pack_column-requires-clause-range : goal.pack_column-requires-clause-range
pack_column-requires-clause-range g c =
    let t = c.args.task.now.translation.now in
    let w = c.args.task.now.packing in
    let some = c.rules.ensures.kept.some_band in
    let row = c.loop-x.x - c.args.portion.top in
    let block : IsBlockFor c.args.task.now.packing c.index-records-at.result = subst (IsBlockFor c.args.task.now.packing) (sym c.index-records-at.is) (c.requires.blocks row c.index-records-at.result (omega (arith, c.requires.count, c.requires.few, c.loop-x-test.true))) in
    let front : HoldsFront g.S.Scene.told t.cat t.id t.plan true 0 (c.args.portion.top + row) t.plan.size.h c.index-records-at.result.samples =
    subst (λ (b : BlockView). HoldsFront g.S.Scene.told t.cat t.id t.plan true 0 (c.args.portion.top + row) t.plan.size.h b.samples) (sym c.index-records-at.is) (c.requires.fronts row c.index-records-at.result (omega (arith, c.loop-x-test.true))) in
    are_held t.plan w c.rules.ensures.kept c.requires.task.output 0 c.index-records-at.result.samples g.S.Scene.told t.cat t.id some
    (front_held g.S.Scene.told t.cat t.id t.plan true 0 (c.args.portion.top + row) t.plan.size.h c.index-records-at.result.samples (block.count ∙ column_spots t.plan w c.rules.ensures.kept c.requires.task.output c.requires.columns) front)

pub pack_column-requires-clause-bytes : goal.pack_column-requires-clause-bytes
pack_column-requires-clause-bytes g c =
    let p = c.args.task.now.translation.now.plan in
    let some = c.rules.ensures.kept.some_band in
    let within = place_within (length p.bands) 0 (c.loop-x.x - c.args.portion.top) c.args.task.now.rows some (omega (arith, c.requires.few, c.loop-x-test.true)) in
    let place : c.place_of-place.result ≡ place_in (length c.args.task.now.translation.now.plan.bands) 0 (c.loop-x.x - c.args.portion.top) = c.place_of-place.ensures.place ∙ ap (λ n. place_in n 0 (c.loop-x.x - c.args.portion.top)) c.count-bands.ensures.count in
    c.loop-x.invariant.each c.place_of-place.result _ (omega (arith, within, place, c.requires.long, c.loop-x.auto.packed))

pub loop-x-init : goal.loop-x-init
loop-x-init g c = record { each = c.requires.each; done = λ y low less. absurd (omega arith) }

pub loop-x-preserved : goal.loop-x-preserved
loop-x-preserved g c =
    let t = c.args.task.now.translation.now in
    let w = c.args.task.now.packing in
    let told = g.S.Scene.told in
    let top = c.args.portion.top in
    let x = c.loop-x.x in
    let row = c.loop-x.x - c.args.portion.top in
    let packed = c.loop-x.packed in
    let bytes = c.pack_column.new.self in
    let so_far = c.loop-x.invariant in
    let some = c.rules.ensures.kept.some_band in
    let place : c.place_of-place.result ≡ place_in (length c.args.task.now.translation.now.plan.bands) 0 (c.loop-x.x - c.args.portion.top) = c.place_of-place.ensures.place ∙ ap (λ n. place_in n 0 (c.loop-x.x - c.args.portion.top)) c.count-bands.ensures.count in
    let fits = place_within (length t.plan.bands) 0 (c.loop-x.x - c.args.portion.top) c.args.task.now.rows some (omega (arith, c.requires.few, c.loop-x-test.true)) in
    let within : place_in (length t.plan.bands) 0 (c.loop-x.x - c.args.portion.top) < length c.loop-x.packed = omega (arith, fits, c.requires.long, c.loop-x.auto.packed) in
    let here : c.args.portion.top + (c.loop-x.x - c.args.portion.top) ≡ c.loop-x.x = omega arith in
    let spots = column_spots t.plan w c.rules.ensures.kept c.requires.task.output c.requires.columns in
    let front : HoldsFront g.S.Scene.told t.cat t.id t.plan true 0 (c.args.portion.top + row) t.plan.size.h c.index-records-at.result.samples =
    subst (λ (b : BlockView). HoldsFront g.S.Scene.told t.cat t.id t.plan true 0 (c.args.portion.top + row) t.plan.size.h b.samples) (sym c.index-records-at.is) (c.requires.fronts row c.index-records-at.result (omega (arith, c.loop-x-test.true))) in
    let made : IsPackedAt g.S.Scene.told t.cat t.id t.plan c.args.task.now.packing 0 c.loop-x.x c.pack_column.new.self = record {
      front = subst (λ b. HoldsFront told t.cat t.id t.plan b 0 x (cut_of w).spots (in_bytes w bytes)) (sym c.requires.columns)
          (subst (λ n. HoldsFront told t.cat t.id t.plan true 0 x n (in_bytes w bytes)) (sym spots)
          (subst (λ (l : List ℤ). HoldsFront told t.cat t.id t.plan true 0 x t.plan.size.h l) (sym c.pack_column.ensures.packed)
          (subst (λ n. HoldsFront told t.cat t.id t.plan true 0 n t.plan.size.h c.index-records-at.result.samples) here front)));
      whole = c.pack_column.ensures.whole;
    } in
    rw place (record {
      each = All-set (λ (b : List ℕ). length b ≡ block_len w) packed (place_in (length t.plan.bands) 0 (x - top)) bytes (c.pack_column.ensures.len ∙ so_far.each c.place_of-place.result _ (omega (arith, within, place))) so_far.each;
      done = λ v low less. elim (cases_lt v x) [
        | inl before ↦ made_there told t.cat t.id t.plan w top packed 0 x bytes some (omega arith) 0 v some low (λ same line. absurd (omega arith)) (so_far.done v low before)
        | inr last ↦ (
            let now : x ≡ v = omega arith in
            subst (IsMade told t.cat t.id t.plan w top (slice_set packed (place_in (length t.plan.bands) 0 (x - top)) bytes) 0) now (made_here told t.cat t.id t.plan w top packed 0 x bytes some (omega arith) within made)
            )
      ];
    })

pub returns-clause-made : goal.returns-clause-made
returns-clause-made g c =
    let t = c.args.task.now.translation.now in
    let w = c.args.task.now.packing in
    let one = column_band t.plan w c.rules.ensures.kept c.requires.task.output c.requires.columns in
    let all : c.loop-x.x ≡ c.args.portion.end = omega (arith, c.requires.order, c.loop-x-test.false, c.loop-x.auto.x-end) in
    record {
      above = λ b y band low less. (
          let first : 0 ≡ b = omega (arith, band, one) in
          subst (λ n. IsMade g.S.Scene.told t.cat t.id t.plan w c.args.portion.top c.loop-x.packed n y) first (c.loop-x.invariant.done y low (omega (arith, all)))
          );
      beside = λ b y less low high. absurd (omega arith);
    }
