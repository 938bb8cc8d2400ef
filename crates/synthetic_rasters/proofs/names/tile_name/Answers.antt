use Rattle.std.proofs.Common.{◌∙◌, ap, subst, sym, List, ℕ, length, arith}
use Rattle.std.specs.Prelude.{IsTrue}
use Rattle.outside.specs.Names.{extension_of, is_raw}
use Rattle.outside.specs.Paths.{normal}
use Rattle.synthetic_rasters.proofs.Named.{tile_normal, tile_raw, tile_short, if_ok}
use Rattle.synthetic_rasters.proofs.names.tile_name.Goals as goal

pub named-requires-clause-some : goal.named-requires-clause-some
named-requires-clause-some c = omega (arith, ap length c.tile_text.ensures.text, tile_short c.args.tile c.requires.tile)

pub named-requires-clause-few : goal.named-requires-clause-few
named-requires-clause-few c = omega (arith, ap length c.tile_text.ensures.text, tile_short c.args.tile c.requires.tile)

pub returns-clause-name : goal.returns-clause-name
returns-clause-name c = if_ok c.named.result _ _ (λ name is. is ∙ ap normal c.tile_text.ensures.text ∙ tile_normal c.args.tile c.requires.tile) c.named.ensures.name

pub returns-clause-raw : goal.returns-clause-raw
returns-clause-raw c = if_ok c.named.result _ _
    (λ name is. subst (λ (n : List ℕ). IsTrue (is_raw (extension_of n)))
    (sym (is ∙ ap normal c.tile_text.ensures.text ∙ tile_normal c.args.tile c.requires.tile)) (tile_raw c.args.tile c.requires.tile))
    c.named.ensures.name
