-- The definitions compute on small documents.
use Rattle.std.proofs.Common.{◌≡◌, [], ◌∷◌, None, Ok, Err, refl, codes}
use Rattle.geotransform.specs.Types.{type_named}
use Rattle.geotransform.specs.declared.types.PixelType.TheVariants.{Int16}
use Rattle.vrt_markup.specs.Items.{item_at, tag_at, tag_front, close_at, pair_at, value_at}
use Rattle.vrt_markup.specs.Tree.{markup_of, root_at, end_at}
use Rattle.vrt_profile.specs.Means.{dataset_of}
use Rattle.vrt_profile.specs.Seen.{markup_means}
use Rattle.vrt_markup.specs.declared.fault.VrtFault.TheVariants.{BadText, UnknownElement}

-- an element that isn't known
unknown : markup_means (codes "<VRTDataset rasterXSize='1' rasterYSize='1'><Foo/></VRTDataset>") ≡ Err (UnknownElement 44)
unfolding item_at tag_at tag_front close_at pair_at value_at markup_of root_at end_at dataset_of
unknown = refl

-- a later fault of the markup counts before it
wrong_end : markup_means (codes "<VRTDataset rasterXSize='1' rasterYSize='1'><Foo/></VRTDatase>") ≡ Err (BadText 50)
unfolding item_at tag_at tag_front close_at pair_at value_at markup_of root_at end_at
wrong_end = refl

-- a document of one band without sources
one_band : markup_means (codes "<VRTDataset rasterXSize='2' rasterYSize='3'><VRTRasterBand dataType='Int16'/></VRTDataset>") ≡ Ok (record { size = record { w = 2; h = 3 }; srs = None; geo = None; bands = record { kind = Int16; nodata = None; sources = [] } ∷ [] })
unfolding item_at tag_at tag_front close_at pair_at value_at markup_of root_at end_at dataset_of type_named
one_band = refl
