use Rattle.std.proofs.Common.{◌++◌, Some, List, ℕ, replicate, ap, ◌∙◌}
use Rattle.esri_hdr.specs.Text.{hdr_text}
use Rattle.write_back.proofs.target.raw_drafts.Goals as goal

pub returns-in-Ok-clause-drafts : goal.returns-in-Ok-clause-drafts
returns-in-Ok-clause-drafts g c =
    let d = c.in_ok-draft.ensures in
    let t = c.in-Ok.ensures in
    record {
      zeros = λ m e. d.zeros m e ∙ ap (λ n. Some (replicate n 0)) c.needed_len.ensures.value;
      len = d.len ∙ c.needed_len.ensures.value;
      name = d.name;
      text = λ m e.
          t.text m (d.names ∙ e)
          ∙ ap (λ l. Some l) (c.deref.ensures.value ∙ c.in_ok-write.ensures.ok ∙ ap (λ (l : List ℕ). l ++ hdr_text c.args.head.now) c.new-text.ensures.items);
      beside = t.name ∙ c.in_ok-header_name.ensures.header;
    }

pub returns-in-Ok-clause-kept : goal.returns-in-Ok-clause-kept
returns-in-Ok-clause-kept g c =
    let d = c.in_ok-draft.ensures in
    let t = c.in-Ok.ensures in
    record { names = t.names ∙ d.names; reads = t.reads ∙ d.reads; calls = t.calls ∙ d.calls }
