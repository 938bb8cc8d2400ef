-- What the fit of cells and tiles says.
use Rattle.std.proofs.Common.{◌≡◌, Option, Some, None, Ok, Err, refl}
use Rattle.geotransform.specs.declared.faults.Unfit.{Unfit}
use Rattle.geotransform.specs.Degrees.{or_unfit}
use Rattle.dted_records.specs.Head.{Head}
use Rattle.hgt_tiles.specs.Names.{Place}

pub cell_found : (m : Option Head) (h : Head) → Ok h ≡ or_unfit m → m ≡ Some h
cell_found None h e = absurd cc
cell_found (Some x) h e = cc

pub cell_missed : (m : Option Head) (u : Unfit) → Err u ≡ or_unfit m → m ≡ None
cell_missed None u e = refl
cell_missed (Some x) u e = absurd cc

pub tile_found : (m : Option Place) (p : Place) → Ok p ≡ or_unfit m → m ≡ Some p
tile_found None p e = absurd cc
tile_found (Some x) p e = cc

pub tile_missed : (m : Option Place) (u : Unfit) → Err u ≡ or_unfit m → m ≡ None
tile_missed None u e = refl
tile_missed (Some x) u e = absurd cc
