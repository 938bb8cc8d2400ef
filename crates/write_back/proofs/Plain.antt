-- In raw data of a plain head nothing but samples stands.
use Rattle.std.proofs.Common.{◌≡◌, ℕ, ℤ, ◌*◌, Option, refl, arith}
use Rattle.geotransform.specs.declared.types.Size.{Size}
use Rattle.geotransform.specs.declared.types.PixelType.{PixelType}
use Rattle.esri_hdr.specs.declared.header_parts.Layout.{Layout}
use Rattle.esri_hdr.specs.declared.header_parts.Layout.TheVariants.{Bil, Bip, Bsq}
use Rattle.esri_hdr.specs.declared.header_parts.RawGeo.{RawGeo}
use Rattle.esri_hdr.specs.Head.{plain_head, sample_len}
use Rattle.write_back.specs.Files.{IsTight}

across : (w s bands : ℕ) → w * s * bands ≡ w * bands * s
across w s bands = grind arith

pub plain_tight : (size : Size) (bands : ℕ) (kind : PixelType) (layout : Layout) (nodata : Option ℤ) (geo : Option RawGeo) → IsTight (plain_head size bands kind layout nodata geo)
plain_tight size bands kind Bil nodata geo = record { skip = refl; rows = (refl, refl) }
plain_tight size bands kind Bip nodata geo = record { skip = refl; rows = across size.w (sample_len kind) bands }
plain_tight size bands kind Bsq nodata geo = record { skip = refl; rows = refl }
