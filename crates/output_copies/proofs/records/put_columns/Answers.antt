use Rattle.std.proofs.Common.{◌≡◌, ◌+◌, ◌-◌, ◌<◌, arith, get_or, inl, inr, length, subst, sym, true}
use Rattle.std.specs.Prelude.{slice_set}
use Rattle.std.proofs.lemmas.Bool.{cases_lt}
use Rattle.std.proofs.lemmas.List.{get_or-set_other, get_or-set_same}
use Rattle.std.proofs.lemmas.List.Elements.{All-set}
use Rattle.band_blocks.specs.Blocks.{BlockView}
use Rattle.output_copies.specs.Packed.{AreColumnFronts, HoldsFront, IsBlockFor}
use Rattle.output_copies.proofs.records.put_columns.Goals as goal

pub loop-at-init : goal.loop-at-init
loop-at-init g c = record { blocks = c.requires.blocks; done = λ i d less. absurd (omega arith); rest = λ i d low less. c.requires.fronts i d less }

pub put_column-requires-clause-room : goal.put_column-requires-clause-room
put_column-requires-clause-room g c κs within = omega (arith, c.requires.room, c.loop-at.auto.room)

pub put_column-requires-clause-block : goal.put_column-requires-clause-block
put_column-requires-clause-block g c κs within = c.loop-at.invariant.blocks c.loop-at.at _ (omega (arith, c.requires.few, c.loop-at.auto.records, c.loop-at-test.true))

pub put_column-requires-clause-front : goal.put_column-requires-clause-front
put_column-requires-clause-front g c κs within = c.loop-at.invariant.rest c.loop-at.at _ (omega arith) c.loop-at-test.true

pub loop-at-preserved : goal.loop-at-preserved
loop-at-preserved g c =
    let t = c.args.task.now.translation.now in
    let told = g.S.Scene.told in
    let piece = c.args.piece in
    let at = c.loop-at.at in
    let xs = c.loop-at.records in
    let new = c.put_column.new.column in
    let so_far = c.loop-at.invariant in
    let inside : c.loop-at.at < length c.loop-at.records = omega (arith, c.requires.few, c.loop-at.auto.records, c.loop-at-test.true) in
    record {
      blocks = All-set (IsBlockFor c.args.task.now.packing) xs at new c.put_column.ensures.block so_far.blocks;
      done = λ i d less. elim (cases_lt i at) [
        | inl before ↦ subst (λ (b : BlockView). HoldsFront told t.cat t.id t.plan true 0 (piece.left + i) piece.end b.samples) (sym (get_or-set_other xs at i new d (λ same. absurd (omega arith)))) (so_far.done i d before)
        | inr last ↦ (
            let now : at ≡ i = omega arith in
            subst (λ n. HoldsFront told t.cat t.id t.plan true 0 (piece.left + n) piece.end (get_or (slice_set xs at new) n d).samples) now
            (subst (λ (b : BlockView). HoldsFront told t.cat t.id t.plan true 0 (piece.left + at) piece.end b.samples) (sym (get_or-set_same xs at new d inside)) c.put_column.ensures.front)
            )
      ];
      rest = λ i d low less. subst (λ (b : BlockView). HoldsFront told t.cat t.id t.plan true 0 (piece.left + i) piece.first b.samples) (sym (get_or-set_other xs at i new d (λ same. absurd (omega arith)))) (so_far.rest i d (omega arith) less);
    }

pub returns-clause-fronts : goal.returns-clause-fronts
returns-clause-fronts g c =
    let t = c.args.task.now.translation.now in
    let all : c.loop-at.at ≡ c.args.piece.right - c.args.piece.left = omega (arith, c.loop-at-test.false, c.loop-at.auto.at-end) in
    subst (λ n. AreColumnFronts g.S.Scene.told t.cat t.id t.plan c.args.task.now.packing c.args.piece.left n c.args.piece.end c.loop-at.records) all c.loop-at.invariant.done
