use Rattle.std.proofs.Common.{◌∙◌, ◌++◌, ◌∷◌, [], List, ℕ, ap}
use Rattle.catalog.proofs.Keepings.{kept_again, kept_more}
use Rattle.catalog.proofs.repeats.keep.Goals as goal

pub returns-then-stands_before : goal.returns-then-stands_before
returns-then-stands_before c = record {
  kept = λ own kept. kept_again own c.args.names.now c.args.at c.index-names-at.result c.args.files.now c.requires.within c.index-names-at.is (c.stands_before.ensures.before c.if-stands_before.true) kept;
}

pub returns : goal.returns
returns c =
    let files = c.in_ok-push.ensures.ok ∙ ap (λ (x : List ℕ). c.args.files.now ++ x ∷ []) c.in_ok-try_clone.ensures.same in
    record {
      kept = λ own kept. kept_more own c.args.names.now c.args.at c.index-names-at.result c.args.files.now _ c.requires.within c.index-names-at.is files kept;
    }
