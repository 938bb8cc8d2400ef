use Rattle.std.proofs.Common.{◌≡◌, ◌+◌, ◌++◌, ◌∙◌, [], ◌∷◌, take, subst, sym, Contains}
use Rattle.outside.specs.Memory.{AreApart}
use Rattle.outside.proofs.Listing.{Lists, lists-none, lists-held, lists-more, apart-none, apart-more}
use Rattle.outside.proofs.Orders.{order-held, order-more}
use Rattle.outside.proofs.memory.names_in.Goals as goal
use Rattle.outside.proofs.memory.names_in.Goals.{then-not-has_name+in_ok-try_clone+in_ok-push, else-not-has_name}

pub loop-stored-init : goal.loop-stored-init
loop-stored-init c = record {
  lists = subst (λ names. Lists names []) (sym c.new-names.ensures.empty) lists-none;
  apart = subst (λ names. AreApart names) (sym c.new-names.ensures.empty) apart-none;
  order = c.new-names.ensures.empty;
}

pub loop-stored-preserved : goal.loop-stored-preserved
loop-stored-preserved c =
    elim c.if-not-has_name.branch [
      | then-not-has_name+in_ok-try_clone+in_ok-push w ↦
          let is : c.loop-stored.names ++ c.stored-item.result.name ∷ [] ≡ c.if-not-has_name.names = cc (w.names-is, w.in_ok-push.ensures.ok, w.in_ok-try_clone.ensures.same) in
          let new : Contains c.loop-stored.names c.stored-item.result.name → ⊥ = λ has. cc (c.has_name.ensures.1 (subst (λ names. Contains names c.stored-item.result.name) (sym c.as_slice.ensures.items) has), w.if-not-has_name.true) in
          record {
            lists = subst (λ names. Lists names (take (c.loop-stored.stored-index + 1) c.args.files.now)) is
                (lists-more _ _ _ _ c.loop-stored-test.true c.stored-item.is c.loop-stored.invariant.lists);
            apart = subst (λ names. AreApart names) is (apart-more c.loop-stored.names c.stored-item.result.name c.loop-stored.invariant.apart new);
            order = sym is ∙ order-more _ _ _ _ c.loop-stored-test.true c.stored-item.is c.loop-stored.invariant.order new;
          }
      | else-not-has_name w ↦
          let has : Contains c.as_slice.result.now c.stored-item.result.name = c.has_name.ensures.0 w.if-not-has_name.false in
          let held = subst (λ names. Contains names c.stored-item.result.name) c.as_slice.ensures.items has in
          record {
            lists = subst (λ names. Lists names (take (c.loop-stored.stored-index + 1) c.args.files.now)) (sym w.names-is)
                (lists-held _ _ _ _ c.loop-stored-test.true c.stored-item.is c.loop-stored.invariant.lists held);
            apart = subst (λ names. AreApart names) (sym w.names-is) c.loop-stored.invariant.apart;
            order = w.names-is ∙ order-held _ _ _ _ c.loop-stored-test.true c.stored-item.is c.loop-stored.invariant.order held;
          }
    ]
