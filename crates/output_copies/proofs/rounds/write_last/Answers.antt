use Rattle.std.proofs.Common.{◌∙◌, ap, arith, length, subst, sym, ℕ, List}
use Rattle.std.specs.Prelude.{OnOk}
use Rattle.std.specs.List.{All}
use Rattle.write_back.specs.Forms.{cut_of}
use Rattle.output_copies.specs.declared.handing.Made.{Made}
use Rattle.output_copies.specs.Packed.{top_of, AreBlocksWritten, HasRoom, MayTell, WereMade}
use Rattle.output_copies.proofs.Kept.{put_back}
use Rattle.output_copies.proofs.rounds.write_last.Goals as goal

pub write_all-requires-clause-few : goal.write_all-requires-clause-few
write_all-requires-clause-few g c κs within = (let n = ap length c.as_mut_slice-made.ensures.value in omega (arith, n, c.requires.may.few))

pub write_all-requires-clause-made : goal.write_all-requires-clause-made
write_all-requires-clause-made g c κs within =
    let t = c.args.task.now.translation.now in
    subst (WereMade g.S.Scene.told t.cat t.id t.plan c.args.task.now.packing c.args.task.now.rows c.args.first) (sym c.as_mut_slice-made.ensures.value) c.requires.may.made_is

pub returns-clause-put : goal.returns-clause-put
returns-clause-put g c =
    let t = c.args.task.now.translation.now in
    let w = c.args.task.now.packing in
    let o = c.write_all.ensures in
    let value = c.as_mut_slice-made.ensures.value in
    let long = sym (c.write_all.auto.made ∙ c.as_mut_slice-made.ensures.len) in
    let same = put_back c.args.writing.now.made.now.len c.write_all.new.made c.args.writing.now.made.now.items long in
    record {
      count = ap length same ∙ (c.write_all.auto.made ∙ ap length value);
      rooms = subst (All (HasRoom t.plan w c.args.task.now.rows)) (sym same) o.rooms;
      written = subst (λ (n : ℕ). OnOk c.write_all.result (AreBlocksWritten (g.F.Folder.names c.write_all.new.folder) t.cat t.id t.plan w (cut_of w).by_columns c.write_all.new.target (top_of (cut_of w).blocks c.args.task.now.rows c.args.first n))) (ap length value) o.written;
      empty = o.empty;
      name = o.name;
      names = o.names;
      later = o.later;
      ends = λ count early may. o.ends count early (subst (λ (l : List Made). MayTell g.S.Scene.told count (g.F.Folder.faults c.args.writing.now.folder.now) l) (sym value) may);
      changed = o.changed;
    }
