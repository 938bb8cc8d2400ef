use Rattle.std.proofs.Common.{◌≡◌, ◌∙◌, ap, refl, rules, sym, subst, arith, length, ℕ, List, Err, Ok, Option, Result}
use Rattle.std.specs.List.{All}
use Rattle.write_back.specs.Packed.{block_len}
use Rattle.std.specs.Prelude.{IfErr}
use Rattle.outside.specs.Outside.{Files}
use Rattle.error_lines.specs.declared.faults.Fault.{Fault}
use Rattle.output_copies.specs.Copying.{MayEnd, TellsChange}
use Rattle.output_copies.specs.Packed.{AreMade}
use Rattle.output_copies.proofs.Changes.{handed_on}
use Rattle.output_copies.proofs.Ends.{ends_after, ends_so, err_is}
use Rattle.output_copies.proofs.packed.write_made.Goals as goal

pub write_portion-requires-clause-made : goal.write_portion-requires-clause-made
write_portion-requires-clause-made g c κs within =
    let t = c.args.task.now.translation.now in
    let ok : c.replace-answer.result ≡ Ok tt = search rules in
    subst (λ (l : List (List ℕ)). AreMade (g.F.Folder.names c.args.folder.now) t.cat t.id t.plan c.args.task.now.packing c.args.portion.top l c.args.portion.end c.args.portion.end 0) (sym c.as_slice-packed.ensures.value)
    (subst (λ (o : Option Files). AreMade o t.cat t.id t.plan c.args.task.now.packing c.args.portion.top c.args.made.now.packed.items c.args.portion.end c.args.portion.end 0) c.requires.told
    (c.requires.made.made (sym c.replace-answer.ensures.value ∙ ok)))

pub write_portion-requires-clause-long : goal.write_portion-requires-clause-long
write_portion-requires-clause-long g c κs within = ap length c.as_slice-packed.ensures.value ∙ c.requires.made.room.long

pub write_portion-requires-clause-each : goal.write_portion-requires-clause-each
write_portion-requires-clause-each g c κs within = subst (All (λ (b : List ℕ). length b ≡ block_len c.args.task.now.packing)) (sym c.as_slice-packed.ensures.value) c.requires.made.room.each

pub returns-in_err-answer-clause-ends : goal.returns-in_err-answer-clause-ends
returns-in_err-answer-clause-ends g c = λ before ends.
    let told = g.F.Folder.names c.args.folder.now in
    let x = c.in_err-answer.field-0.0 in
    ends_so told before (g.F.Folder.faults c.args.folder.now) 0 0 x c.from_residual.result (err_is c.from_residual.result x c.from_residual.ensures)
    (subst (λ (o : Option Files). MayEnd {T = Unit {0}} o before (g.F.Folder.faults c.args.folder.now) 0 0 (Err x)) c.requires.told
    (subst (λ (r : Result (Unit {0}) Fault). MayEnd g.S.Scene.told before (g.F.Folder.faults c.args.folder.now) 0 0 r) (sym c.replace-answer.ensures.value ∙ c.in_err-answer.was {u = tt}) ends))

pub returns-in_err-answer-clause-changed : goal.returns-in_err-answer-clause-changed
returns-in_err-answer-clause-changed g c =
    let cat = c.args.task.now.translation.now.cat in
    let x = c.in_err-answer.field-0.0 in
    handed_on (TellsChange cat) x c.from_residual.result c.from_residual.ensures (subst (λ (r : Result (Unit {0}) Fault). IfErr r (TellsChange cat)) (sym c.replace-answer.ensures.value ∙ c.in_err-answer.was {u = tt}) c.requires.made.changed)

pub returns-clause-ends : goal.returns-clause-ends
returns-clause-ends g c = λ before ends.
    let told = g.F.Folder.names c.args.folder.now in
    ends_after told told before (g.F.Folder.faults c.args.folder.now) (g.F.Folder.faults c.write_portion.new.folder) 0 0 0 c.write_portion.result refl ends.cause.folder_later (omega arith) c.write_portion.ensures.ends
