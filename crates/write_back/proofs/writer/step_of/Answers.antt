use Rattle.std.proofs.Common.{◌≡◌, ◌<◌, ◌≤◌, ◌*◌, min, ap, subst, ◌∙◌}
use Rattle.esri_hdr.specs.Head.{Head, IsHead, sample_len}
use Rattle.write_back.specs.Pieces.{spots_of}
use Rattle.write_back.proofs.PieceCounts.{few_pieces}
use Rattle.write_back.proofs.writer.step_of.Goals as goal

pub returns-clause-pieces : goal.returns-clause-pieces
returns-clause-pieces c =
    let h = c.args.head.now in
    let is : IsHead h = subst IsHead c.head.view_is c.head.invariant in
    let long : 32768 ≤ c.most_samples.result * sample_len h.kind = subst (λ k. 32768 ≤ c.most_samples.result * sample_len k) (ap (λ (g : Head). g.kind) c.head.view_is) c.most_samples.ensures.long in
    let taken : c.min.result ≡ min c.most_samples.result (spots_of h) = c.min.ensures ∙ ap (min c.most_samples.result) c.line_len.ensures.len in
    let some : 0 < spots_of h = subst (λ n. 0 < n) c.line_len.ensures.len c.line_len.ensures.some in
    few_pieces h c.most_samples.result c.min.result is c.most_samples.ensures.some some long taken
