use Rattle.std.proofs.Common.{◌≡◌, ◌<◌, ◌+◌, ◌*◌, arith, refl, ap, sym, subst, ◌∙◌, length}
use Rattle.write_back.specs.Forms.{cut_of, needed_of, AreHeld}
use Rattle.write_back.specs.Spots.{IsSpot}
use Rattle.write_back.specs.Overlay.{IsOverlaid}
use Rattle.write_back.specs.Stores.{line_rect}
use Rattle.write_back.proofs.MetColumns.{met_as, met_more, met_none}
use Rattle.write_back.proofs.Lines.{AreColumns, column_in, columns_more, columns_none}
use Rattle.write_back.proofs.Transposed.{column_fits, column_of, no_group}
use Rattle.write_back.proofs.States.{changes_none, changes_trans, column_held, column_put, columned, serves_as, serves_more, serves_none, serves_trans, sound_as}
use Rattle.write_back.proofs.store.Store.put_columns.Goals as goal

pub nth_run-line-requires : goal.nth_run-line-requires
nth_run-line-requires g c =
    let room : length c.turn_to-held.new.group ≡ c.group_width-most.result * c.args.rect.h = c.turn_to-held.auto.group ∙ c.loop-x.invariant.room in
    record { within = column_fits c.args.samples.now c.args.rect c.group_width-most.result c.turn_to-held.result c.turn_to-held.new.group c.loop-x.x room c.turn_to-held.ensures.held c.turn_to-held.ensures.first c.turn_to-held.ensures.last }

pub put-requires-clause-range : goal.put-requires-clause-range
put-requires-clause-range g c κs within =
    let w = c.args.self.now.writer in
    let line : c.nth_run-line.result.now ≡ column_in c.args.samples.now c.args.rect.w c.loop-x.x c.args.rect.h = c.nth_run-line.ensures.run
    ∙ column_of c.args.samples.now c.args.rect c.group_width-most.result c.turn_to-held.result c.turn_to-held.new.group c.loop-x.x (c.turn_to-held.auto.group ∙ c.loop-x.invariant.room) c.turn_to-held.ensures.held c.turn_to-held.ensures.first c.turn_to-held.ensures.last in
    subst (λ v. AreHeld v c.nth_run-line.result.now) (sym c.loop-x.invariant.head) (subst (AreHeld w) (sym line) (column_held w c.args.samples.now c.args.rect.w c.loop-x.x c.args.rect.h c.loop-x-test.true c.requires.size c.requires.range))

pub put-requires-clause-room : goal.put-requires-clause-room
put-requires-clause-room g c κs within i less =
    let below : i < c.args.rect.h = subst (λ n. i < n) c.nth_run-line.ensures.len less in
    subst (λ v. c.args.rect.y + i * 1 < (cut_of v).spots) (sym c.loop-x.invariant.head) (omega (arith, below, c.requires.down))

pub put-requires-clause-sound : goal.put-requires-clause-sound
put-requires-clause-sound g c κs within = sound_as _ _ _ (sym c.loop-x.invariant.head) c.loop-x.invariant.serves.sound

pub put-requires-clause-long : goal.put-requires-clause-long
put-requires-clause-long g c κs within = c.loop-x.invariant.changed.long ∙ c.requires.long ∙ ap needed_of (sym c.loop-x.invariant.head)

pub put-requires-clause-band : goal.put-requires-clause-band
put-requires-clause-band g c κs within = subst (λ v. c.args.band < (cut_of v).bands) (sym c.loop-x.invariant.head) c.requires.band

pub put-requires-clause-line : goal.put-requires-clause-line
put-requires-clause-line g c κs within = subst (λ v. c.args.rect.x + c.loop-x.x < (cut_of v).blocks) (sym c.loop-x.invariant.head) (omega (arith, c.requires.across, c.loop-x-test.true))

pub returns-in_err-put-clause-head : goal.returns-in_err-put-clause-head
returns-in_err-put-clause-head g c = c.put.ensures.head ∙ c.loop-x.invariant.head

pub returns-in_err-put-clause-serves : goal.returns-in_err-put-clause-serves
returns-in_err-put-clause-serves g c =
    let h = c.args.self.now.writer in
    serves_more h (c.loop-x.x + 1) 0 c.args.rect.w 0 _ _ (omega (arith, c.loop-x-test.true)) (omega arith)
    (serves_trans h c.loop-x.x 0 1 0 _ _ _ c.loop-x.invariant.serves (serves_as _ _ 1 0 _ _ c.loop-x.invariant.head c.put.ensures.serves))

pub returns-clause-serves : goal.returns-clause-serves
returns-clause-serves g c = serves_more c.args.self.now.writer c.loop-x.x 0 c.args.rect.w 0 _ _ (omega (arith, c.loop-x.auto.x-end)) (omega arith) c.loop-x.invariant.serves

pub loop-x-init : goal.loop-x-init
loop-x-init g c =
    let h = c.args.self.now.writer in
    record {
      head = refl;
      room = c.as_mut_slice-group.ensures.len ∙ c.in_ok-room.ensures.len ∙ c.samples_in.ensures.count;
      first = omega arith;
      held = no_group c.args.samples.now c.args.rect c.group_width-most.result _;
      serves = serves_none h _ c.requires.sound;
      changed = changes_none h (AreColumns h c.args.band c.args.rect 0 c.args.samples.now) _ (λ old. columns_none h c.args.band c.args.rect c.args.samples.now old);
      met = met_none h c.args.band c.args.rect.x _ _;
      later = omega arith;
    }

pub loop-x-preserved : goal.loop-x-preserved
loop-x-preserved g c =
    let h = c.args.self.now.writer in
    let rect = c.args.rect in
    let x = c.loop-x.x in
    let xs = c.args.samples.now in
    let so_far = c.loop-x.invariant in
    let o = c.in_ok-put.ensures in
    let line : c.nth_run-line.result.now ≡ column_in c.args.samples.now c.args.rect.w c.loop-x.x c.args.rect.h = c.nth_run-line.ensures.run
    ∙ column_of c.args.samples.now c.args.rect c.group_width-most.result c.turn_to-held.result c.turn_to-held.new.group c.loop-x.x (c.turn_to-held.auto.group ∙ c.loop-x.invariant.room) c.turn_to-held.ensures.held c.turn_to-held.ensures.first c.turn_to-held.ensures.last in
    let put = column_put _ _ c.args.band rect.y (rect.x + x) rect.h _ _ _ _ so_far.head c.nth_run-line.ensures.len line o.changed in
    record {
      head = o.head ∙ so_far.head;
      room = c.turn_to-held.auto.group ∙ so_far.room;
      first = omega (arith, c.turn_to-held.ensures.first);
      held = c.turn_to-held.ensures.held;
      serves = serves_trans h x 0 1 0 _ _ _ so_far.serves (serves_as _ _ 1 0 _ _ so_far.head o.serves);
      changed = changes_trans h
          (AreColumns h c.args.band rect x xs)
          (IsOverlaid (IsSpot h) c.args.band (line_rect rect.y (rect.x + x) rect.h) (column_in xs rect.w x rect.h))
          (AreColumns h c.args.band rect (x + 1) xs)
          _ _ _
          (λ p q r first second. columns_more h c.args.band rect x xs p q r c.requires.band c.requires.across c.requires.down c.loop-x-test.true first second)
          so_far.changed
          put;
      met = met_more h c.args.band rect.x (AreColumns h c.args.band rect x xs) (IsOverlaid (IsSpot h) c.args.band (line_rect rect.y (rect.x + x) rect.h) (column_in xs rect.w x rect.h)) x _ _ _
          c.requires.band (omega (arith, c.requires.across, c.loop-x-test.true)) so_far.met so_far.changed
          put o.dirty;
      later = omega (arith, so_far.later, o.cause.later);
    }

pub returns-clause-changed : goal.returns-clause-changed
returns-clause-changed g c =
    let all : c.loop-x.x ≡ c.args.rect.w = omega (arith, c.loop-x-test.false, c.loop-x.auto.x-end) in
    columned c.args.self.now.writer c.args.band c.args.rect c.loop-x.x c.args.samples.now _ _ c.requires.columns all c.loop-x.invariant.changed

pub returns-clause-met : goal.returns-clause-met
returns-clause-met g c =
    let all : c.loop-x.x ≡ c.args.rect.w = omega (arith, c.loop-x-test.false, c.loop-x.auto.x-end) in
    met_as c.args.self.now.writer c.args.band c.args.rect.x c.loop-x.x c.args.rect.w _ _ all c.loop-x.invariant.met
