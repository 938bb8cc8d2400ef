use Rattle.std.proofs.Common.{◌∙◌, ap, sym, subst, length, map, inl}
use Rattle.std.specs.List.{All}
use Rattle.std.specs.Prelude.{slice_set}
use lib.Seq.{map-set_same}
use Rattle.std.proofs.lemmas.List.{length-set}
use Rattle.std.proofs.lemmas.List.Elements.{All-set}
use Rattle.nearest_window.specs.Lanes.{room_of}
use Rattle.nearest_window.specs.Right.{IsReady}
use Rattle.lane_teams.specs.Parts.{readers_of}
use Rattle.lane_teams.specs.Refusals.{IsFirstOf, IsTeamAnswer}
use Rattle.lane_teams.proofs.Answered.{alone_answered, one_reader, several_readers}
use Rattle.lane_teams.proofs.Groups.{all_kept}
use Rattle.lane_teams.proofs.Refusals.{on_ok, put_back}
use Rattle.lane_teams.proofs.Windows.{shown_of}
use Rattle.lane_teams.proofs.team.Team.read_window_with.Goals as goal

pub returns-then-count-eq1-clause-ready : goal.returns-then-count-eq1-clause-ready
returns-then-count-eq1-clause-ready g c =
    let xs = c.as_mut_slice-lanes.result.now in
    let new = slice_set xs 0 c.read_window_with.new.self in
    let long = sym (length-set xs 0 c.read_window_with.new.self ∙ c.as_mut_slice-lanes.ensures.len) in
    let ready = IsReady g.F.Folder c.read_window_with.new.folder c.args.supply.now.cat.now in
    let before : All (IsReady g.F.Folder c.args.folder.now c.args.supply.now.cat.now) xs = subst (All (IsReady g.F.Folder c.args.folder.now c.args.supply.now.cat.now)) (sym c.as_mut_slice-lanes.ensures.value) c.requires.ready in
    subst (All ready) (sym (put_back c.args.self.now.lanes.len new c.args.self.now.lanes.items long))
    (All-set ready xs 0 c.read_window_with.new.self c.read_window_with.ensures.ready
    (all_kept g.F.Folder c.args.supply.now.cat.now c.args.folder.now c.read_window_with.new.folder xs c.read_window_with.ensures.only_read.names before))

pub read_beside-requires-clause-ready : goal.read_beside-requires-clause-ready
read_beside-requires-clause-ready g c κs within =
    subst (All (IsReady g.F.Folder c.args.folder.now c.args.supply.now.cat.now)) (sym c.as_mut_slice-lanes.ensures.value) c.requires.ready

pub returns-clause-pixels : goal.returns-clause-pixels
returns-clause-pixels g c = λ m e. on_ok c.read_beside.result _ _ (λ shown. shown.pixels m e) c.read_beside.ensures.shown

pub returns-clause-named : goal.returns-clause-named
returns-clause-named g c = λ m e d at. on_ok c.read_beside.result _ _ (λ shown. shown.named m d e at) c.read_beside.ensures.shown

pub returns-clause-typed : goal.returns-clause-typed
returns-clause-typed g c = on_ok c.read_beside.result _ _ (λ shown. shown.typed) c.read_beside.ensures.shown

pub returns-clause-ready : goal.returns-clause-ready
returns-clause-ready g c =
    let new = c.read_beside.new.lanes in
    let long = sym (c.read_beside.auto.lanes ∙ c.as_mut_slice-lanes.ensures.len) in
    subst (All (IsReady g.F.Folder c.read_beside.new.folder c.args.supply.now.cat.now)) (sym (put_back c.args.self.now.lanes.len new c.args.self.now.lanes.items long)) c.read_beside.ensures.ready

pub returns-clause-loads : goal.returns-clause-loads
returns-clause-loads g c = λ old new is_old is_new room.
    let one = ap length c.as_mut_slice-lanes.ensures.value ∙ ap length is_old in
    absurd (c.if-count-eq1.false (c.readers_of-count.ensures.readers ∙ ap (readers_of c.args.window.rect.h (length c.args.out.now) c.args.fewest) one ∙ one_reader c.args.window.rect.h (length c.args.out.now) c.args.fewest))

pub returns-clause-reads : goal.returns-clause-reads
returns-clause-reads g c = λ alone.
    let one = ap length c.as_mut_slice-lanes.ensures.value ∙ alone in
    absurd (c.if-count-eq1.false (c.readers_of-count.ensures.readers ∙ ap (readers_of c.args.window.rect.h (length c.args.out.now) c.args.fewest) one ∙ one_reader c.args.window.rect.h (length c.args.out.now) c.args.fewest))

pub returns-then-count-eq1-clause-first : goal.returns-then-count-eq1-clause-first
returns-then-count-eq1-clause-first g c =
    let told = g.F.Folder.names c.args.folder.now in
    let cat = c.args.supply.now.cat.now in
    let out = c.read_window_with.new.out in
    let answer = c.read_window_with.result in
    let o = c.read_window_with.ensures in
    let readers = readers_of c.args.window.rect.h (length c.args.out.now) c.args.fewest in
    let one = ap readers (ap length (sym c.as_mut_slice-lanes.ensures.value)) ∙ sym c.readers_of-count.ensures.readers ∙ c.if-count-eq1.true in
    inl (subst (λ n. IsFirstOf told cat c.args.window n out answer) (sym one)
    (alone_answered told cat c.args.window out answer (c.read_window_with.auto.out ∙ c.requires.size)
    (shown_of answer told cat c.args.window out o.pixels o.named o.typed) o.changed o.never))

pub returns-clause-first : goal.returns-clause-first
returns-clause-first g c =
    let told = g.F.Folder.names c.args.folder.now in
    let cat = c.args.supply.now.cat.now in
    let count = length c.as_mut_slice-lanes.result.now in
    let readers = readers_of c.args.window.rect.h (length c.args.out.now) c.args.fewest in
    let all = several_readers c.args.window.rect.h (length c.args.out.now) c.args.fewest count (λ one. c.if-count-eq1.false (c.readers_of-count.ensures.readers ∙ one)) in
    subst (λ n. IsTeamAnswer told cat c.args.window n c.args.out.now c.read_beside.new.out c.read_beside.result)
    (sym all ∙ ap readers (ap length c.as_mut_slice-lanes.ensures.value)) c.read_beside.ensures.first

pub returns-then-count-eq1-clause-count : goal.returns-then-count-eq1-clause-count
returns-then-count-eq1-clause-count g c =
    let xs = c.as_mut_slice-lanes.result.now in
    let new = slice_set xs 0 c.read_window_with.new.self in
    let same = length-set xs 0 c.read_window_with.new.self in
    ap length (put_back c.args.self.now.lanes.len new c.args.self.now.lanes.items (sym (same ∙ c.as_mut_slice-lanes.ensures.len))) ∙ same ∙ ap length c.as_mut_slice-lanes.ensures.value

pub returns-clause-count : goal.returns-clause-count
returns-clause-count g c =
    let new = c.read_beside.new.lanes in
    let long = sym (c.read_beside.auto.lanes ∙ c.as_mut_slice-lanes.ensures.len) in
    ap length (put_back c.args.self.now.lanes.len new c.args.self.now.lanes.items long) ∙ c.read_beside.auto.lanes ∙ ap length c.as_mut_slice-lanes.ensures.value

pub returns-then-count-eq1-clause-capacity : goal.returns-then-count-eq1-clause-capacity
returns-then-count-eq1-clause-capacity g c =
    let xs = c.as_mut_slice-lanes.result.now in
    let new = slice_set xs 0 c.read_window_with.new.self in
    let long = sym (length-set xs 0 c.read_window_with.new.self ∙ c.as_mut_slice-lanes.ensures.len) in
    ap (map room_of) (put_back c.args.self.now.lanes.len new c.args.self.now.lanes.items long)
    ∙ map-set_same room_of xs 0 c.read_window_with.new.self _ c.read_window_with.ensures.capacity
    ∙ ap (map room_of) c.as_mut_slice-lanes.ensures.value

pub returns-clause-capacity : goal.returns-clause-capacity
returns-clause-capacity g c =
    let new = c.read_beside.new.lanes in
    let long = sym (c.read_beside.auto.lanes ∙ c.as_mut_slice-lanes.ensures.len) in
    ap (map room_of) (put_back c.args.self.now.lanes.len new c.args.self.now.lanes.items long) ∙ c.read_beside.ensures.capacity ∙ ap (map room_of) c.as_mut_slice-lanes.ensures.value
