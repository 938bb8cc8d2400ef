-- Lanes over a catalog that grows.
use Rattle.std.proofs.Common.{◌≡◌, ◌∙◌, sym, ℕ, ℤ, zero, suc, List, [], ◌∷◌, ◌++◌, Option, Some}
use Rattle.std.specs.Prelude.{slice_get}
use Rattle.std.proofs.lemmas.List.Elements.{All-weaker}
use Rattle.outside.specs.Outside.{Files}
use Rattle.catalog.specs.Drivers.{Dataset}
use Rattle.catalog.specs.Walk.{IsCatalog}
use Rattle.catalog.proofs.PixelLaws.{more_block, more_is_same}
use Rattle.band_blocks.specs.declared.key.BlockKey.{BlockKey}
use Rattle.band_blocks.specs.declared.key.PixelKey.{PixelKey}
use Rattle.band_blocks.specs.Blocks.{BlockView}
use Rattle.block_cache.specs.Entries.{PoolView}
use Rattle.band_blocks.specs.Contents.{IsBlock}
use Rattle.nearest_window.specs.declared.indexes.Kept.{Kept}
use Rattle.nearest_window.specs.Right.{IsIndexIn, IsRecalled, IsRight}

still_there : (cat more : List Dataset) (id : ℕ) (d : Dataset) → slice_get cat id ≡ Some d → slice_get (cat ++ more) id ≡ Some d
still_there [] more id d at = cc
still_there (c ∷ cat) more zero d at = at
still_there (c ∷ cat) more (suc id) d at = still_there cat more id d at

block_stays : (told : Option Files) (cat more : List Dataset) (key : BlockKey) (block : BlockView) → IsCatalog cat → IsBlock told cat key block → IsBlock told (cat ++ more) key block
block_stays told cat more key block valid is = record {
  dataset = is.dataset;
  in_range = record { at = still_there cat more key.dataset is.dataset is.in_range.at; band = is.in_range.band; block = is.in_range.block };
  shape = is.shape;
  content = λ m e. is.content m e ∙ sym (more_block m cat more key.dataset key.band key.block is.dataset valid is.in_range.at);
}

index_stays : (cat more : List Dataset) (kept : Kept) → IsIndexIn cat kept → IsIndexIn (cat ++ more) kept
index_stays cat more kept is = record {
  dataset = is.dataset;
  at = still_there cat more kept.dataset is.dataset is.at;
  document = is.document;
  content = is.content;
  band = is.band;
  band_at = is.band_at;
  index = is.index;
}

recalled_stays : (told : Option Files) (cat more : List Dataset) (key : PixelKey) (sample : ℤ) → IsCatalog cat → IsRecalled told cat key sample → IsRecalled told (cat ++ more) key sample
recalled_stays told cat more key sample valid is = record {
  dataset = is.dataset;
  at = still_there cat more key.dataset is.dataset is.at;
  kind = is.kind;
  kind_is = is.kind_is;
  range = is.range;
  content = λ m e. is.content m e ∙ sym (more_is_same m cat more key.dataset key.band key.x key.y is.dataset valid is.at);
}

pub right_stays : {File : Type 0} (bytes : File → Option (List ℕ)) (len : File → ℕ) (told : Option Files) (cat more : List Dataset) (pool : PoolView) (files : List (ℕ × File)) (made : PoolView) (indexes : List Kept) (recalled : List (PixelKey × ℤ)) → IsCatalog cat → IsRight bytes len told cat pool files made indexes recalled → IsRight bytes len told (cat ++ more) pool files made indexes recalled
right_stays bytes len told cat more pool files made indexes recalled valid right = record {
  valid = right.valid;
  blocks = λ key entry held. block_stays told cat more key entry.block valid (right.blocks key entry held);
  good = λ n f kept. let g = right.good n f kept in record { dataset = g.dataset; at = still_there cat more n g.dataset g.at; is_file = g.is_file; length = g.length; content = g.content };
  made_valid = right.made_valid;
  remembered = λ key entry held. block_stays told cat more key entry.block valid (right.remembered key entry held);
  listed = All-weaker (IsIndexIn cat) (IsIndexIn (cat ++ more)) (λ kept is. index_stays cat more kept is) indexes right.listed;
  pixels = λ key sample there. recalled_stays told cat more key sample valid (right.pixels key sample there);
}
