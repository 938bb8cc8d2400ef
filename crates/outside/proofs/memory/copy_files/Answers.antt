use Rattle.std.proofs.Common.{[], ap, ap₂, ◌∙◌, sym}
use Rattle.lists_and_answers.specs.Lists.{with_name}
use Rattle.outside.specs.Memory.{files_of, names_with}
use Rattle.outside.proofs.Puts.{files_of-push, files_of-more, put_alike}
use Rattle.outside.proofs.Orders.{names_with-push, names_with-more}
use Rattle.outside.proofs.memory.copy_files.Goals as goal

pub loop-stored-preserved : goal.loop-stored-preserved
loop-stored-preserved c =
    let a = c.in_ok-try_clone.ensures in
    let before = c.loop-stored.invariant in
    record {
      files = ap files_of c.in_ok-push.ensures.items
          ∙ files_of-push c.loop-stored.copy.items c.in_ok-try_clone.field-0
          ∙ put_alike _ _ _ _ _ _ before.files a.name a.bytes
          ∙ sym (files_of-more _ _ _ c.loop-stored-test.true c.stored-item.is);
      order = ap (names_with []) c.in_ok-push.ensures.items
          ∙ names_with-push [] c.loop-stored.copy.items c.in_ok-try_clone.field-0
          ∙ ap₂ with_name before.order a.name
          ∙ sym (names_with-more _ _ _ c.loop-stored-test.true c.stored-item.is);
    }
