use Rattle.std.proofs.Common.{◌≡◌, ap, ◌∙◌, sym, option_map}
use Rattle.outside.proofs.Puts.{newest-none, newest-same, newest-other}
use Rattle.outside.proofs.memory.find.Goals as goal
use Rattle.outside.proofs.memory.find.Goals.{then-is, else-is}

pub loop-stored-init : goal.loop-stored-init
loop-stored-init c = newest-none c.args.name.now

pub loop-stored-preserved : goal.loop-stored-preserved
loop-stored-preserved c =
    elim c.if-is.branch [
      | then-is w ↦
          newest-same _ _ _ _ c.loop-stored-test.true c.stored-item.is (c.is.ensures.0 w.if-is.true)
          ∙ sym (ap (option_map (λ s. s.now.bytes.items)) w.found-is)
      | else-is w ↦
          let ne : c.stored-item.result.name ≡ c.args.name.now → ⊥ = λ e. cc (c.is.ensures.1 e, w.if-is.false) in
          newest-other _ _ _ _ c.loop-stored-test.true c.stored-item.is ne
          ∙ c.loop-stored.invariant
          ∙ sym (ap (option_map (λ s. s.now.bytes.items)) w.found-is)
    ]
