use Rattle.std.proofs.Common.{◌∙◌, ap, sym}
use Rattle.outside.specs.Paths.{is_absolute, normal}
use Rattle.outside.proofs.Trims.{trim}
use Rattle.outside.proofs.path.trimmed.Goals as goal

pub split_at-requires : goal.split_at-requires
split_at-requires c =
    let found = c.dropped_len.ensures in
    let absolute = ap is_absolute (sym c.as_bytes-2.ensures.value) ∙ sym c.is_absolute.ensures in
    (trim c.args.text.now _ _ _ _ c.utf8.text c.as_bytes-3.ensures.value absolute found.parts found.bound found.slash found.none c.kept_at-at.ensures).cut

pub returns : goal.returns
returns c =
    let found = c.dropped_len.ensures in
    let absolute = ap is_absolute (sym c.as_bytes-2.ensures.value) ∙ sym c.is_absolute.ensures in
    ap normal c.split_at.ensures.back
    ∙ (trim c.args.text.now _ _ _ _ c.utf8.text c.as_bytes-3.ensures.value absolute found.parts found.bound found.slash found.none c.kept_at-at.ensures).same
