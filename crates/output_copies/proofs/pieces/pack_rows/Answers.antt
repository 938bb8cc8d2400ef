use Rattle.std.proofs.Common.{◌≡◌, ◌∙◌, ◌-◌, ◌*◌, ◌<◌, ◌≤◌, ap, sym, subst, arith, inl, inr, get_or, length, take, drop, false, [], ℕ, List}
use Rattle.std.specs.Prelude.{slice_set}
use Rattle.std.proofs.lemmas.Bool.{cases_lt}
use Rattle.std.proofs.lemmas.List.{get_or_default}
use Rattle.band_blocks.specs.Blocks.{written}
use Rattle.write_back.specs.Forms.{AreHeld}
use Rattle.write_back.specs.Packed.{in_bytes}
use Rattle.write_back.proofs.Past.{length_in}
use Rattle.output_copies.specs.Packed.{place_in, AreFronts, HoldsFront}
use Rattle.output_copies.proofs.Fronts.{piece_front, piece_held, piece_within}
use Rattle.output_copies.proofs.Packs.{are_held, is_lined, line_spots, made_there, packed_here, packed_there, packs_set, place_within}
use Rattle.output_copies.proofs.pieces.pack_rows.Goals as goal

pub nth_row-row-requires : goal.nth_row-row-requires
nth_row-row-requires g c =
    let t = c.args.task.now.translation.now in
    record { within = piece_within g.S.Scene.told t.cat t.id t.plan c.args.piece c.args.samples.now c.requires.read c.loop-line.line (omega arith) c.loop-line-test.true }

pub bounds-packed-place : goal.bounds-packed-place
bounds-packed-place g c =
    let p = c.args.task.now.translation.now.plan in
    let so_far = c.loop-line.invariant in
    let within = place_within (length p.bands) c.args.piece.band (c.loop-line.line - c.args.top) c.args.task.now.rows c.requires.piece.band (omega (arith, c.requires.few, c.requires.top, c.loop-line-test.true)) in
    let place : c.place_of-place.result ≡ place_in (length c.args.task.now.translation.now.plan.bands) c.args.piece.band (c.loop-line.line - c.args.top) = c.place_of-place.ensures.place ∙ ap (λ n. place_in n c.args.piece.band (c.loop-line.line - c.args.top)) c.count-bands.ensures.count in
    omega (arith, within, place, so_far.packs.long)

pub pack_piece-requires-clause-lined : goal.pack_piece-requires-clause-lined
pack_piece-requires-clause-lined g c = is_lined c.args.task.now.packing c.requires.task.apart c.requires.lines

pub pack_piece-requires-clause-within : goal.pack_piece-requires-clause-within
pack_piece-requires-clause-within g c =
    let t = c.args.task.now.translation.now in
    let w = c.args.task.now.packing in
    let spots = line_spots t.plan w c.rules.ensures.kept c.requires.task.output (is_lined w c.requires.task.apart c.requires.lines) in
    let columns = c.requires.piece.columns in
    let width = c.requires.piece.width in
    omega (arith, c.nth_row-row.ensures.len, spots, columns, width)

pub pack_piece-requires-clause-range : goal.pack_piece-requires-clause-range
pack_piece-requires-clause-range g c =
    let t = c.args.task.now.translation.now in
    let piece = c.args.piece in
    let wide = c.args.piece.right - c.args.piece.left in
    subst (AreHeld c.args.task.now.packing) (sym c.nth_row-row.ensures.row)
    (are_held t.plan c.args.task.now.packing c.rules.ensures.kept c.requires.task.output piece.band (take wide (drop ((c.loop-line.line - piece.first) * wide) c.args.samples.now)) g.S.Scene.told t.cat t.id c.requires.piece.band
    (piece_held g.S.Scene.told t.cat t.id t.plan piece c.args.samples.now c.requires.read c.loop-line.line (omega arith) c.loop-line-test.true))

pub pack_piece-requires-clause-bytes : goal.pack_piece-requires-clause-bytes
pack_piece-requires-clause-bytes g c =
    let p = c.args.task.now.translation.now.plan in
    let so_far = c.loop-line.invariant in
    let within = place_within (length p.bands) c.args.piece.band (c.loop-line.line - c.args.top) c.args.task.now.rows c.requires.piece.band (omega (arith, c.requires.few, c.requires.top, c.loop-line-test.true)) in
    let place : c.place_of-place.result ≡ place_in (length c.args.task.now.translation.now.plan.bands) c.args.piece.band (c.loop-line.line - c.args.top) = c.place_of-place.ensures.place ∙ ap (λ n. place_in n c.args.piece.band (c.loop-line.line - c.args.top)) c.count-bands.ensures.count in
    so_far.packs.each c.place_of-place.result _ (omega (arith, within, place, so_far.packs.long))

pub loop-line-init : goal.loop-line-init
loop-line-init g c = record { packs = c.requires.packs; made = c.requires.made; done = λ y low high. absurd (omega arith); rest = c.requires.fronts }

pub loop-line-preserved : goal.loop-line-preserved
loop-line-preserved g c =
    let t = c.args.task.now.translation.now in
    let w = c.args.task.now.packing in
    let piece = c.args.piece in
    let k = c.args.piece.band in
    let y = c.loop-line.line in
    let top = c.args.top in
    let told = g.S.Scene.told in
    let packed = c.loop-line.packed in
    let bytes = c.pack_piece.new.self in
    let so_far = c.loop-line.invariant in
    let has_band = c.requires.piece.band in
    let low_top : c.args.top ≤ c.loop-line.line = omega (arith, c.requires.top) in
    let place : c.place_of-place.result ≡ place_in (length c.args.task.now.translation.now.plan.bands) c.args.piece.band (c.loop-line.line - c.args.top) = c.place_of-place.ensures.place ∙ ap (λ n. place_in n c.args.piece.band (c.loop-line.line - c.args.top)) c.count-bands.ensures.count in
    let fits = place_within (length t.plan.bands) c.args.piece.band (c.loop-line.line - c.args.top) c.args.task.now.rows has_band (omega (arith, c.requires.few, c.requires.top, c.loop-line-test.true)) in
    let within : place_in (length t.plan.bands) c.args.piece.band (c.loop-line.line - c.args.top) < length c.loop-line.packed = omega (arith, fits, so_far.packs.long) in
    let old = get_or packed (place_in (length t.plan.bands) k (y - top)) [] in
    let was : in_bytes w bytes ≡ written piece.left c.nth_row-row.result.now (in_bytes w old) =
    c.pack_piece.ensures.packed ∙ ap (λ b. written piece.left c.nth_row-row.result.now (in_bytes w b)) (get_or_default packed c.place_of-place.result _ [] (omega (arith, within, place)) ∙ ap (λ n. get_or packed n []) place) in
    let spots = line_spots t.plan w c.rules.ensures.kept c.requires.task.output (is_lined w c.requires.task.apart c.requires.lines) in
    let width = c.requires.piece.width in
    let front : HoldsFront g.S.Scene.told c.args.task.now.translation.now.cat c.args.task.now.translation.now.id c.args.task.now.translation.now.plan false c.args.piece.band c.loop-line.line c.args.piece.right (in_bytes c.args.task.now.packing c.pack_piece.new.self) =
    piece_front told t.cat t.id t.plan piece c.args.samples.now c.requires.read y (omega arith) c.loop-line-test.true c.nth_row-row.result.now (in_bytes w old) (in_bytes w bytes) c.requires.piece.columns c.nth_row-row.ensures.row was (omega (arith, width, spots, length_in w old)) (so_far.rest y (omega arith) c.loop-line-test.true) in
    rw place (record {
      packs = packs_set t.plan w c.args.task.now.rows c.loop-line.block c.pack_piece.new.block packed (place_in (length t.plan.bands) k (y - top)) bytes so_far.packs c.pack_piece.ensures.block (c.pack_piece.ensures.len ∙ so_far.packs.each c.place_of-place.result _ (omega (arith, within, place)));
      made = record {
        above = λ b v band low less. made_there told t.cat t.id t.plan w top packed k y bytes has_band low_top b v band low (λ same line. absurd (omega arith)) (so_far.made.above b v band low less);
        beside = λ b v less low high. made_there told t.cat t.id t.plan w top packed k y bytes has_band low_top b v (omega (arith, has_band)) (omega (arith, c.requires.top)) (λ same line. absurd (omega arith)) (so_far.made.beside b v less low high);
      };
      done = λ v low less. elim (cases_lt v y) [
        | inl before ↦
            subst (λ (b : List ℕ). HoldsFront told t.cat t.id t.plan false k v piece.right (in_bytes w b)) (sym (packed_there told t.cat t.id t.plan w top packed k y bytes has_band low_top k v has_band (omega (arith, c.requires.top)) (λ same line. absurd (omega arith)))) (so_far.done v low before)
        | inr last ↦ (
            let now : y ≡ v = omega arith in
            subst (λ n. HoldsFront told t.cat t.id t.plan false k n piece.right (in_bytes w (get_or (slice_set packed (place_in (length t.plan.bands) k (y - top)) bytes) (place_in (length t.plan.bands) k (n - top)) []))) now
            (subst (λ (b : List ℕ). HoldsFront told t.cat t.id t.plan false k y piece.right (in_bytes w b)) (sym (packed_here told t.cat t.id t.plan w top packed k y bytes has_band low_top [] within)) front)
            )
      ];
      rest = λ v low less.
          subst (λ (b : List ℕ). HoldsFront told t.cat t.id t.plan false k v piece.left (in_bytes w b)) (sym (packed_there told t.cat t.id t.plan w top packed k y bytes has_band low_top k v has_band (omega (arith, c.requires.top)) (λ same line. absurd (omega arith)))) (so_far.rest v (omega arith) less);
    })

pub returns-clause-fronts : goal.returns-clause-fronts
returns-clause-fronts g c =
    let t = c.args.task.now.translation.now in
    let order = c.requires.piece.lines in
    let all : c.loop-line.line ≡ c.args.piece.end = omega (arith, order, c.loop-line-test.false, c.loop-line.auto.line-end) in
    subst (λ n. AreFronts g.S.Scene.told t.cat t.id t.plan c.args.task.now.packing c.args.top c.loop-line.packed c.args.piece.first n c.args.piece.band c.args.piece.right) all c.loop-line.invariant.done
