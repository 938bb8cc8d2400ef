use Rattle.std.proofs.Common.{◌≡◌, ◌∙◌, ◌+◌, ◌-◌, ◌*◌, ◌≤◌, ap, sym, subst, arith, inl, inr, length, take, drop}
use Rattle.std.specs.Prelude.{slice_set}
use Rattle.std.proofs.lemmas.Bool.{cases_lt}
use Rattle.translate_plan.specs.Plan.{Planned}
use Rattle.write_back.specs.Forms.{cut_of, AreHeld}
use Rattle.write_back.specs.Packed.{in_bytes}
use Rattle.write_back.proofs.Past.{lined_whole}
use Rattle.strip_copies.specs.Copies.{lines_rect}
use Rattle.output_copies.specs.Packed.{place_in, HoldsFront, IsMade, IsPackedAt}
use Rattle.output_copies.proofs.Fronts.{line_front, lines_read, row_held, row_within}
use Rattle.output_copies.proofs.Packs.{are_held, is_lined, line_spots, made_here, made_there, packs_set, place_within}
use Rattle.output_copies.proofs.making.pack_lines.Goals as goal

pub nth_row-row-requires : goal.nth_row-row-requires
nth_row-row-requires g c =
    let wide : c.plan.inside.size.w ≡ c.args.task.now.translation.now.plan.size.w = ap (λ (p : Planned). p.size.w) c.plan.view_is in
    record {
      within =
          subst (λ n. (c.loop-line.line - c.args.lines.first) * n + n ≤ length c.args.samples.now) (sym wide)
          (row_within c.args.samples.now c.args.task.now.translation.now.plan.size.w (c.args.lines.end - c.args.lines.first) (c.loop-line.line - c.args.lines.first) c.requires.read.long (omega (arith, c.loop-line-test.true)));
    }

pub bounds-packed-place : goal.bounds-packed-place
bounds-packed-place g c =
    let p = c.args.task.now.translation.now.plan in
    let so_far = c.loop-line.invariant in
    let within = place_within (length p.bands) c.args.lines.band (c.loop-line.line - c.args.top) c.args.task.now.rows c.requires.part.band (omega (arith, c.requires.few, c.requires.top, c.loop-line-test.true)) in
    let place : c.place_of-place.result ≡ place_in (length c.args.task.now.translation.now.plan.bands) c.args.lines.band (c.loop-line.line - c.args.top) = c.place_of-place.ensures.place ∙ ap (λ n. place_in n c.args.lines.band (c.loop-line.line - c.args.top)) c.count-bands.ensures.count in
    omega (arith, within, place, so_far.packs.long)

pub pack-requires-clause-lined : goal.pack-requires-clause-lined
pack-requires-clause-lined g c = is_lined c.args.task.now.packing c.requires.task.apart c.requires.lines

pub pack-requires-clause-size : goal.pack-requires-clause-size
pack-requires-clause-size g c =
    let p = c.args.task.now.translation.now.plan in
    let w = c.args.task.now.packing in
    c.nth_row-row.ensures.len ∙ ap (λ (q : Planned). q.size.w) c.plan.view_is ∙ sym (line_spots p w c.rules.ensures.kept c.requires.task.output (is_lined w c.requires.task.apart c.requires.lines))

pub pack-requires-clause-range : goal.pack-requires-clause-range
pack-requires-clause-range g c =
    let t = c.args.task.now.translation.now in
    let lines = c.args.lines in
    let row : c.nth_row-row.result.now ≡ take c.args.task.now.translation.now.plan.size.w (drop ((c.loop-line.line - c.args.lines.first) * c.args.task.now.translation.now.plan.size.w) c.args.samples.now) =
    c.nth_row-row.ensures.row ∙ ap (λ (q : Planned). take q.size.w (drop ((c.loop-line.line - c.args.lines.first) * q.size.w) c.args.samples.now)) c.plan.view_is in
    subst (AreHeld c.args.task.now.packing) (sym row)
    (are_held t.plan c.args.task.now.packing c.rules.ensures.kept c.requires.task.output lines.band (take t.plan.size.w (drop ((c.loop-line.line - lines.first) * t.plan.size.w) c.args.samples.now)) g.S.Scene.told t.cat t.id c.requires.part.band
    (row_held g.S.Scene.told t.cat t.id t.plan lines.band (lines_rect t.plan.size lines.first lines.end) c.args.samples.now (lines_read g.S.Scene.told t.cat t.id t.plan lines c.args.samples.now c.requires.read) (c.loop-line.line - lines.first) (omega (arith, c.loop-line-test.true))))

pub pack-requires-clause-bytes : goal.pack-requires-clause-bytes
pack-requires-clause-bytes g c =
    let p = c.args.task.now.translation.now.plan in
    let so_far = c.loop-line.invariant in
    let within = place_within (length p.bands) c.args.lines.band (c.loop-line.line - c.args.top) c.args.task.now.rows c.requires.part.band (omega (arith, c.requires.few, c.requires.top, c.loop-line-test.true)) in
    let place : c.place_of-place.result ≡ place_in (length c.args.task.now.translation.now.plan.bands) c.args.lines.band (c.loop-line.line - c.args.top) = c.place_of-place.ensures.place ∙ ap (λ n. place_in n c.args.lines.band (c.loop-line.line - c.args.top)) c.count-bands.ensures.count in
    so_far.packs.each c.place_of-place.result _ (omega (arith, within, place, so_far.packs.long))

pub loop-line-init : goal.loop-line-init
loop-line-init g c = record { packs = c.requires.packs; made = c.requires.made; here = λ y low less. absurd (omega arith) }

pub loop-line-preserved : goal.loop-line-preserved
loop-line-preserved g c =
    let t = c.args.task.now.translation.now in
    let w = c.args.task.now.packing in
    let k = c.args.lines.band in
    let y = c.loop-line.line in
    let told = g.S.Scene.told in
    let so_far = c.loop-line.invariant in
    let lined = is_lined w c.requires.task.apart c.requires.lines in
    let bytes = c.pack.new.self in
    let place : c.place_of-place.result ≡ place_in (length c.args.task.now.translation.now.plan.bands) c.args.lines.band (c.loop-line.line - c.args.top) = c.place_of-place.ensures.place ∙ ap (λ n. place_in n c.args.lines.band (c.loop-line.line - c.args.top)) c.count-bands.ensures.count in
    let within = place_within (length t.plan.bands) c.args.lines.band (c.loop-line.line - c.args.top) c.args.task.now.rows c.requires.part.band (omega (arith, c.requires.few, c.requires.top, c.loop-line-test.true)) in
    let row : c.nth_row-row.result.now ≡ take c.args.task.now.translation.now.plan.size.w (drop ((c.loop-line.line - c.args.lines.first) * c.args.task.now.translation.now.plan.size.w) c.args.samples.now) =
    c.nth_row-row.ensures.row ∙ ap (λ (q : Planned). take q.size.w (drop ((c.loop-line.line - c.args.lines.first) * q.size.w) c.args.samples.now)) c.plan.view_is in
    let made : IsPackedAt g.S.Scene.told c.args.task.now.translation.now.cat c.args.task.now.translation.now.id c.args.task.now.translation.now.plan c.args.task.now.packing c.args.lines.band c.loop-line.line c.pack.new.self = record {
      front = subst (λ b. HoldsFront told t.cat t.id t.plan b k y (cut_of w).spots (in_bytes w bytes)) (sym c.requires.lines)
          (line_front told t.cat t.id t.plan c.args.lines c.args.samples.now y (cut_of w).spots (in_bytes w bytes) c.requires.read (omega arith) c.loop-line-test.true (line_spots t.plan w c.rules.ensures.kept c.requires.task.output lined) (c.pack.ensures.packed ∙ row));
      whole = lined_whole w y bytes lined;
    } in
    rw place (record {
      packs = packs_set t.plan w c.args.task.now.rows c.loop-line.block c.pack.new.block c.loop-line.packed (place_in (length t.plan.bands) k (y - c.args.top)) bytes so_far.packs c.pack.ensures.block (c.pack.ensures.len ∙ so_far.packs.each c.place_of-place.result _ (omega (arith, within, place, so_far.packs.long)));
      made = record {
        above = λ b v band low less. made_there told t.cat t.id t.plan w c.args.top c.loop-line.packed k y bytes c.requires.part.band (omega arith) b v band low (λ same line. absurd (omega arith)) (so_far.made.above b v band low less);
        beside = λ b v less low high. made_there told t.cat t.id t.plan w c.args.top c.loop-line.packed k y bytes c.requires.part.band (omega arith) b v (omega (arith, c.requires.part.band)) (omega arith) (λ same line. absurd (omega arith)) (so_far.made.beside b v less low high);
      };
      here = λ v low less. elim (cases_lt v y) [
        | inl before ↦ made_there told t.cat t.id t.plan w c.args.top c.loop-line.packed k y bytes c.requires.part.band (omega arith) k v c.requires.part.band (omega arith) (λ same line. absurd (omega arith)) (so_far.here v low before)
        | inr last ↦ (
            let now : y ≡ v = omega arith in
            subst (IsMade told t.cat t.id t.plan w c.args.top (slice_set c.loop-line.packed (place_in (length t.plan.bands) k (y - c.args.top)) bytes) k) now
            (made_here told t.cat t.id t.plan w c.args.top c.loop-line.packed k y bytes c.requires.part.band (omega arith) (omega (arith, within, so_far.packs.long)) made)
            )
      ];
    })

pub returns-clause-made : goal.returns-clause-made
returns-clause-made g c =
    let t = c.args.task.now.translation.now in
    let so_far = c.loop-line.invariant in
    let order = c.requires.part.order in
    let all : c.loop-line.line ≡ c.args.lines.end = omega (arith, c.loop-line-test.false, c.loop-line.auto.line-end) in
    record {
      above = so_far.made.above;
      beside = λ b v less low high. elim (cases_lt b c.args.lines.band) [
        | inl before ↦ so_far.made.beside b v before low high
        | inr last ↦ (
            let same : c.args.lines.band ≡ b = omega arith in
            subst (λ n. IsMade g.S.Scene.told t.cat t.id t.plan c.args.task.now.packing c.args.top c.loop-line.packed n v) same (so_far.here v low (omega (arith, all)))
            )
      ];
    }
