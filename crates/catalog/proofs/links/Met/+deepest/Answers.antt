use Rattle.std.proofs.Common.{◌≡◌, ◌∙◌, ◌-◌, ◌<◌, ap, sym, subst, ℕ, suc, List, length, Some, arith}
use Rattle.std.specs.Prelude.{All}
use Rattle.std.proofs.lemmas.Option.{slice_get_within}
use Rattle.lists_and_answers.specs.Lists.{flattened}
use Rattle.catalog.specs.declared.links.Link.{Link}
use Rattle.catalog.specs.Drivers.{Dataset}
use Rattle.catalog.specs.Linked.{IsDeep, first_above}
use Rattle.catalog.proofs.Found.{some_is}
use Rattle.catalog.proofs.Again.{deep_here, deep_step, high_there, high_next, high_known}
use Rattle.catalog.proofs.links.Met.+deepest.Goals as goal

pub returns-then-room-eq0-clause-deep : goal.returns-then-room-eq0-clause-deep
returns-then-room-eq0-clause-deep t c = λ d at.
    let h = c.requires.high in
    let none : c.args.room ≡ 0 = c.if-room-eq0.true in
    let high : 0 < h.link.height = (let more = h.high in omega arith) in
    let here = deep_here c.args.self.now c.requires.linked c.args.id h.dataset h.link h.met high in
    subst (λ room. IsDeep c.args.self.now room c.args.id d.head.name) (sym none) (subst (λ (x : Dataset). IsDeep c.args.self.now 0 c.args.id x.head.name) (some_is (sym h.met.at ∙ at)) here)

pub link-requires : goal.link-requires
link-requires t c =
    let h = c.requires.high in
    record { known = slice_get_within c.args.self.now.links c.args.id (Some h.link) h.met.whole }

pub first_above-requires : goal.first_above-requires
first_above-requires t c =
    let h = c.requires.high in
    let same : h.link ≡ c.in-Some.link.now = some_is (some_is (sym h.met.whole ∙ c.in-Some.ensures.link)) in
    let rows : h.link.members ≡ c.as_slice.result.now = ap (λ (l : Link). l.members) same ∙ sym c.as_slice.ensures.items in
    let known = high_known c.args.self.now c.requires.linked c.args.room c.args.id h.dataset h.link h.met h.high in
    record { known = subst (λ (rs : List (List ℕ)). All (λ row. All (λ id. id < length c.args.self.now.links) row) rs) rows known }

pub unreachable-requires-in_default-first_above : goal.unreachable-requires-in_default-first_above
unreachable-requires-in_default-first_above t c =
    let h = c.requires.high in
    let same : h.link ≡ c.in-Some.link.now = some_is (some_is (sym h.met.whole ∙ c.in-Some.ensures.link)) in
    let rows : h.link.members ≡ c.as_slice.result.now = ap (λ (l : Link). l.members) same ∙ sym c.as_slice.ensures.items in
    let more = h.high in
    let some = c.if-room-eq0.false in
    let there = high_there c.args.self.now c.requires.linked (c.args.room - 1) c.args.id h.dataset h.link h.met (omega arith) in
    let first = ap (λ rs. first_above c.args.self.now.links (c.args.room - 1) (flattened rs)) rows in
    c.in_default-first_above.not-Some there.0 (c.first_above.ensures.first ∙ sym first ∙ there.1)

pub deepest-requires : goal.deepest-requires
deepest-requires t c =
    let h = c.requires.high in
    let same : h.link ≡ c.in-Some.link.now = some_is (some_is (sym h.met.whole ∙ c.in-Some.ensures.link)) in
    let rows : h.link.members ≡ c.as_slice.result.now = ap (λ (l : Link). l.members) same ∙ sym c.as_slice.ensures.items in
    let more = h.high in
    let some = c.if-room-eq0.false in
    let m = c.decreases in
    let first = ap (λ rs. first_above c.args.self.now.links (c.args.room - 1) (flattened rs)) rows in
    (omega arith, (c.requires.linked, high_next c.args.self.now c.requires.linked (c.args.room - 1) c.args.id h.dataset h.link c.in-Some-first_above.next h.met (omega arith) (first ∙ sym c.in-Some-first_above.ensures.first)))

pub returns-clause-deep : goal.returns-clause-deep
returns-clause-deep t c = λ d at.
    let h = c.requires.high in
    let same : h.link ≡ c.in-Some.link.now = some_is (some_is (sym h.met.whole ∙ c.in-Some.ensures.link)) in
    let rows : h.link.members ≡ c.as_slice.result.now = ap (λ (l : Link). l.members) same ∙ sym c.as_slice.ensures.items in
    let more = h.high in
    let some = c.if-room-eq0.false in
    let first = ap (λ rs. first_above c.args.self.now.links (c.args.room - 1) (flattened rs)) rows in
    let deep = deep_step c.args.self.now c.requires.linked (c.args.room - 1) c.args.id h.dataset h.link c.in-Some-first_above.next d.head.name h.met (omega arith) (first ∙ sym c.in-Some-first_above.ensures.first) (c.deepest.ensures.deep d at) in
    let room : suc (c.args.room - 1) ≡ c.args.room = omega arith in
    subst (λ n. IsDeep c.args.self.now n c.args.id d.head.name) room deep
