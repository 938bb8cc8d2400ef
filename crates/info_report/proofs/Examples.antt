-- What the definitions say of a tile of the world.
use Rattle.std.proofs.Common.{◌≡◌, refl, ◌++◌, [], ◌∷◌, pos, negsuc, true, Some}
use Rattle.std.specs.Prelude.{codes}
use Rattle.std.specs.Fmt.{decimal}
use Rattle.geotransform.specs.declared.types.PixelType.TheVariants.{Int16}
use Rattle.esri_hdr.specs.Head.{Head, geotransform_of}
use Rattle.esri_hdr.specs.declared.header_parts.Layout.TheVariants.{Bil}
use Rattle.info_report.specs.Report.{files_text, pair_text}

-- its header, whose numbers are in ticks
tile : Head
tile = record { size = record { w = 4800; h = 6000 }; bands = 1; kind = Int16; big = true; layout = Bil; skip = 0; band_row = 9600; total_row = 9600; gap = 0; nodata = Some (negsuc 9998); geo = Some (record { ulx = negsuc 17999250000000001199; uly = pos 16199250000000001200; xdim = pos 1499999999999400; ydim = pos 1499999999999400 }) }

-- half a pixel from the centre of the first pixel
placed : geotransform_of tile ≡ Some (record { ox = negsuc 18000000000000000899; oy = pos 16200000000000000900; dx = pos 1499999999999400; dy = negsuc 1499999999999399 })
unfolding tile
placed = refl

-- the line of the origin
origin : pair_text (codes "Origin = (") 15 (codes ",") (negsuc 18000000000000000899) (pos 16200000000000000900) ≡ codes "Origin = (-" ++ ((decimal 100 ++ codes ".000000000000005") ++ (codes "," ++ ((decimal 90 ++ codes ".000000000000005") ++ codes ")\n")))
unfolding pair_text
origin = refl

-- the lines of the files
files : files_text (codes "w100n90.bil" ∷ codes "w100n90.hdr" ∷ []) ≡ codes "Files: w100n90.bil\n       w100n90.hdr\n"
unfolding files_text
files = refl
