use Rattle.std.proofs.Common.{◌∙◌, ap, sym, inr, Err}
use Rattle.catalog.specs.declared.faults.WalkFault.TheVariants.{Cycle, TooDeep}
use Rattle.catalog.proofs.Meets.{place_known, met_cycle, met_fine, met_deep, met_low, met_high}
use Rattle.catalog.proofs.States.{item_there}
use Rattle.catalog.proofs.walk.check_again.Goals as goal

pub link-requires : goal.link-requires
link-requires c = record { known = place_known c.args.met.now c.requires.linked c.args.name.now c.args.id c.requires.number }

pub deepest-deepest-requires-clause-high : goal.deepest-deepest-requires-clause-high
deepest-deepest-requires-clause-high c = met_high c.args.met.now c.args.name.now c.args.id c.args.room c.in-Some.link.now c.requires.number c.in-Some.ensures.link c.if-link-room.false

pub returns-in_ok-try_clone-in-None-clause-told : goal.returns-in_ok-try_clone-in-None-clause-told
returns-in_ok-try_clone-in-None-clause-told c = λ m verify path is.
    inr (met_cycle c.args.met.now c.requires.linked m verify c.args.room path c.args.name.now c.args.id is c.requires.number c.in-None.ensures.link ∙ ap (λ n. Err (Cycle n)) (sym c.in_ok-try_clone-in-None.ensures.same))

pub returns-in-Some-clause-told : goal.returns-in-Some-clause-told
returns-in-Some-clause-told c = λ m verify path is.
    met_fine c.args.met.now c.requires.linked m verify c.args.room path c.args.name.now c.args.id c.in-Some.link.now is c.requires.number c.in-Some.ensures.link c.if-link-room.true

pub returns-in-Some-clause-low : goal.returns-in-Some-clause-low
returns-in-Some-clause-low c = met_low c.args.met.now c.args.name.now c.args.id c.args.room c.in-Some.link.now c.requires.number c.in-Some.ensures.link c.if-link-room.true

pub returns-in_ok-try_clone-in-Some-2-clause-told : goal.returns-in_ok-try_clone-in-Some-2-clause-told
returns-in_ok-try_clone-in-Some-2-clause-told c = λ m verify path is.
    let st = c.args.met.now in
    let there = item_there st.datasets c.deepest-deepest.result c.deepest-deepest.ensures.known in
    let deep = c.deepest-deepest.ensures.deep there.0 there.1 in
    let named = c.name.ensures.name there.0 there.1 in
    inr (met_deep c.args.met.now c.requires.linked m verify c.args.room path c.args.name.now c.args.id c.in-Some.link.now there.0.head.name is c.requires.number c.in-Some.ensures.link deep
    ∙ ap (λ n. Err (TooDeep n)) (sym (c.in_ok-try_clone-in-Some-2.ensures.same ∙ named)))
