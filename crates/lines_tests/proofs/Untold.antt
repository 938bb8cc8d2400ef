-- Blocks over a folder that tells nothing.
use Rattle.std.proofs.Common.{◌≡◌, ◌∙◌, ℕ, List, Option, Some, None, is_some, length, ap, sym, subst, true≢false}
use Rattle.outside.specs.Outside.{Files}
use Rattle.catalog.specs.Drivers.{Dataset}
use Rattle.band_blocks.specs.declared.key.BlockKey.{BlockKey}
use Rattle.band_blocks.specs.Blocks.{BlockView, IsPacked}
use Rattle.band_blocks.specs.Contents.{IsBlock}
use Rattle.band_blocks.specs.Keys.{IsKeyOf}
use Rattle.shared_lines.specs.Shapes.{HasShape}

none≢some : {T : Type 0} {x : T} → None ≡ Some x → ⊥
none≢some e = true≢false (sym (ap is_some e))

-- where nothing is told, the block's type and length are all that is asked of it
pub is_block : (told : Option Files) (scene cat : List Dataset) (key : BlockKey) (old new : BlockView) → told ≡ None → scene ≡ cat → HasShape cat key old → new.kind ≡ old.kind → length new.samples ≡ length old.samples → IsPacked new
    → IsBlock told scene key new
is_block told scene cat key old new none same shape kind count packed = record {
  dataset = shape.dataset;
  in_range = subst (λ c. IsKeyOf c key shape.dataset) (sym same) shape.in_range;
  shape = record { kind = shape.kind ∙ ap Some (sym kind); count = count ∙ shape.count; range = packed.range };
  content = λ m e. absurd (none≢some (sym none ∙ e));
}
