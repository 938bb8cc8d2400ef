use Rattle.std.proofs.Common.{◌∙◌, ◌++◌, ◌∷◌, [], ap, sym, subst, append_assoc, inl, inr, arith}
use Rattle.std.specs.Prelude.{IfErr}
use Rattle.band_blocks.specs.Open.{IsUnchanged}
use Rattle.band_blocks.specs.declared.fault.LoadFault.TheVariants.{FolderFault}
use Rattle.nearest_window.specs.Right.{TellsChangeIn}
use Rattle.lane_teams.specs.Refusals.{first_of}
use Rattle.lane_teams.specs.Turns.{IsTurnOf}
use Rattle.lane_teams.proofs.Refusals.{first_failed, rose_on, rose_then, first_keeps, turn_at, turns_behind}
use Rattle.lane_teams.proofs.turns.collect.Goals as goal

pub loop-turn-preserved : goal.loop-turn-preserved
loop-turn-preserved g c =
    let was = c.loop-turn.invariant in
    let o = c.give_up.ensures in
    let whole = was.split ∙ ap (λ ts. ts ++ was.rest) c.in-Some.ensures.items in
    let turn : IsTurnOf g.F.Folder (g.F.Folder.names c.args.folder.now) c.args.cat.now c.in-Some.turn =
    turn_at (IsTurnOf g.F.Folder (g.F.Folder.names c.args.folder.now) c.args.cat.now) c.args.turns.items c.pop.new.self.items was.rest c.in-Some.turn whole c.requires.turns in
    record {
      only_read = record {
        names = o.only_read.names ∙ was.only_read.names;
        writes = (let a = o.only_read.writes in let b = was.only_read.writes in omega arith);
        faults = (let a = o.only_read.faults in let b = was.only_read.faults in omega arith);
      };
      rest = c.in-Some.turn ∷ was.rest;
      split = whole ∙ append_assoc c.pop.new.self.items (c.in-Some.turn ∷ []) was.rest;
      first = c.first_of-answer.ensures.first ∙ ap (first_of c.in-Some.turn.answer) was.first;
      failed = λ e. elim (first_failed c.in-Some.turn.answer c.loop-turn.answer FolderFault (sym c.first_of-answer.ensures.first ∙ e)) [
        | inl found ↦ rose_on _ _ _ was.only_read.faults (o.rose (turn.failed found))
        | inr later ↦ rose_then _ _ _ (was.failed later) o.only_read.faults
      ];
    }

pub returns-clause-changed : goal.returns-clause-changed
returns-clause-changed g c =
    let was = c.loop-turn.invariant in
    subst (λ r. IfErr r (TellsChangeIn c.args.cat.now)) (sym was.first)
    (first_keeps (λ r. IfErr r (TellsChangeIn c.args.cat.now)) tt was.rest
    (turns_behind (λ t. IfErr t.answer (TellsChangeIn c.args.cat.now)) c.args.turns.items c.loop-turn.turns.items was.rest was.split (λ k d less. (c.requires.turns k d less).changed)))

pub returns-clause-never : goal.returns-clause-never
returns-clause-never g c = λ m e.
    let was = c.loop-turn.invariant in
    subst (λ r. IfErr r IsUnchanged) (sym was.first)
    (first_keeps (λ r. IfErr r IsUnchanged) tt was.rest
    (turns_behind (λ t. IfErr t.answer IsUnchanged) c.args.turns.items c.loop-turn.turns.items was.rest was.split (λ k d less. (c.requires.turns k d less).never m e)))
