use Rattle.std.proofs.Common.{◌∙◌, ◌<◌, ◌∷◌, List, ℕ, ap, sym, subst, length, arith}
use Rattle.std.proofs.lemmas.List.{take_all}
use Rattle.catalog.specs.Mosaics.{distinct}
use Rattle.catalog.specs.Listed.{HasListed}
use Rattle.catalog.proofs.Listings.{next_item}
use Rattle.catalog.proofs.mosaic_head.looked_up.Goals as goal

pub loop-name-preserved : goal.loop-name-preserved
loop-name-preserved c =
    let below : c.loop-name.name-index < length c.args.names.now = omega arith in
    subst (λ (l : List (List ℕ)). HasListed c.args.own.now l c.add.new.self) (sym (next_item c.args.names.now c.loop-name.name-index c.name-item.result below c.name-item.is))
    (c.in_ok-add.ensures.listed c.args.own.now _ c.loop-name.invariant)

pub returns : goal.returns
returns c = record { listed = c.loop-name.invariant.files ∙ ap (λ (l : List (List ℕ)). c.args.own.now ∷ distinct l) (take_all c.loop-name.name-index c.args.names.now (omega arith)) }
