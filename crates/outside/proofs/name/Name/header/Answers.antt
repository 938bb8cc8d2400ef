use Rattle.std.proofs.Common.{◌∙◌, subst, sym}
use Rattle.outside.specs.Paths.{IsName}
use Rattle.outside.proofs.Headers.{header_is_name, header_from}
use Rattle.outside.proofs.name.Name.header.Goals as goal

pub invariant_of-result : goal.invariant_of-result
invariant_of-result c =
    subst IsName
    (sym (c.of.ensures.same ∙ header_from c.args.self.now _ _ _ _ _ _ (c.as_str.ensures.text ∙ c.self.view_is) c.cut_ending.ensures.ending c.cut_ending.ensures.stem c.in_ok-text.ensures.ok c.header_ending.ensures c.in_ok-push_str.ensures.bytes))
    (header_is_name c.args.self.now c.requires.raw (subst IsName c.self.view_is c.self.invariant))
