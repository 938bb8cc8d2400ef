use Rattle.std.proofs.Common.{replicate, ap, sym, subst, refl, ◌∙◌}
use Rattle.std.proofs.lemmas.List.{length-replicate}
use Rattle.outside.specs.Names.{header_of}
use Rattle.esri_hdr.specs.Head.{IsHead}
use Rattle.interleaved_raw.specs.Raw.{needed_of}
use Rattle.write_back.specs.declared.forms.Writer.TheVariants.{Raw}
use Rattle.write_back.proofs.Known.{known_new}
use Rattle.write_back.proofs.Made.{made, raw_zero, shows}
use Rattle.write_back.proofs.Sheets.{told_by}
use Rattle.write_back.proofs.Zeros.{zeros_small}
use Rattle.write_back.proofs.target.Target.create_raw.Goals as goal

pub returns-clause-made : goal.returns-clause-made
returns-clause-made g c =
    let h = c.args.head.now in
    let is : IsHead h = subst IsHead c.head.view_is c.head.invariant in
    let p = c.in_ok-parts.ensures in
    let d = c.in_ok-drafts.ensures.drafts in
    let names = c.raw_drafts.ensures.kept.names in
    let zero = raw_zero h (needed_of h) is refl in
    record {
      name = d.name;
      pool = p.pool;
      lines = refl;
      fault = refl;
      target = made (Raw h) _ _ _ c.args.capacity _ _ _ _ (replicate (needed_of h) 0) (ap Raw p.writer) p.valid p.pool
          (is, c.requires.tight) d.len (length-replicate (needed_of h) 0) (zeros_small (needed_of h))
          (λ m e. known_new (Raw h) _ _ _ (replicate (needed_of h) 0) (ap Raw p.writer) (d.zeros m (sym names ∙ e)) zero)
          (_, refl, d.beside ∙ ap header_of (sym d.name), λ m e. d.text m (sym names ∙ e));
      zeros = λ some. (
          let m = told_by (g.F.Folder.names c.args.folder.now) some in
          shows (Raw h) _ _ c.args.capacity _ (replicate (needed_of h) 0) (ap Raw p.writer) p.pool
          (known_new (Raw h) _ _ _ (replicate (needed_of h) 0) (ap Raw p.writer) (d.zeros m.0 m.1) zero) zero
          );
    }
