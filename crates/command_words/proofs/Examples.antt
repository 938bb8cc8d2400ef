-- What the definitions say of some command lines.
use Rattle.std.proofs.Common.{◌≡◌, pos, neg_ℤ, [], ◌∷◌, Some, None, true, false, Ok, Err, refl}
use Rattle.std.specs.Prelude.{codes}
use Rattle.outside.specs.Names.{ending_of, last_part, extension_of_ending, extension_of}
use Rattle.outside.specs.Paths.{normal}
use Rattle.geotransform.specs.Decimal.{parts_of, ticks_of, whole_of, is_decimal}
use Rattle.geotransform.specs.declared.types.PixelType.TheVariants.{UInt16}
use Rattle.geotransform.specs.Types.{type_named}
use Rattle.esri_hdr.specs.declared.header_parts.Layout.TheVariants.{Bip}
use Rattle.catalog.specs.declared.nodata.NodataWord.TheVariants.{Number, Remove}
use Rattle.location_report.specs.declared.report.Form.TheVariants.{FilesOnly}
use Rattle.translate_plan.specs.declared.options.Driver.TheVariants.{EHdr}
use Rattle.translate_plan.specs.declared.options.View.TheVariants.{Pixels}
use Rattle.translate_plan.specs.declared.options.OutSize.TheVariants.{Count, Percent}
use Rattle.buildvrt.specs.declared.options.Resolution.TheVariants.{User}
use Rattle.command_words.specs.declared.command.Job.TheVariants.{Info, Locate, Translate, Build, Synth}
use Rattle.command_words.specs.declared.spoken.WordFault.TheVariants.{Usage}
use Rattle.command_words.specs.Options.{shared_option_of, own_option_of}
use Rattle.command_words.specs.Values.{format_of, layout_of, nodata_of, resolution_named}
use Rattle.command_words.specs.Said.{config_said, window_said, places_said, outsize_said, band_said, blocks_said, workers_said, format_said, nodata_said, kind_said, creation_said, resolution_said, pixel_size_said, extent_said, source_nodata_said, mosaic_nodata_said, list_said}
use Rattle.command_words.specs.Uses.{placed_said, spoken_of, spoken_in}
use Rattle.command_words.specs.Jobs.{written_of, asked_of, asked_mosaic, info_job, locate_job, translate_job, build_job, synth_job}
use Rattle.command_words.specs.Words.{command_of, words_of}

-- the last use of an option counts, all bands do, and options stand anywhere
translated : words_of (codes "gdal_translate" ∷ codes "-b" ∷ codes "2" ∷ codes "-a_nodata" ∷ codes "none" ∷ codes "a.bil" ∷ codes "-srcwin" ∷ codes "3" ∷ codes "-1" ∷ codes "4" ∷ codes "1" ∷ codes "-a_nodata" ∷ codes "9" ∷ codes "-b" ∷ codes "1" ∷ codes "-co" ∷ codes "interleave=bip" ∷ codes "-outsize" ∷ codes "2" ∷ codes "50%" ∷ codes "out.bil" ∷ codes "-ot" ∷ codes "uint16" ∷ codes "-q" ∷ [])
    ≡ Ok (record {
      job = Translate (codes "a.bil") (record { driver = EHdr; layout = Bip; out = codes "out.bil"; bands = 2 ∷ 1 ∷ []; view = Pixels (pos 3) (neg_ℤ (pos 1)) (pos 4) (pos 1); outsize = Some (Count 2, Percent 50); nodata = Number (pos 9); kind = Some UInt16; epo = false; eco = false }) true;
      verify = false;
      blocks = 64;
      workers = 1;
    })
unfolding words_of command_of spoken_in spoken_of translate_job asked_of written_of extension_of ending_of last_part extension_of_ending shared_option_of own_option_of window_said outsize_said band_said nodata_said kind_said creation_said placed_said layout_of nodata_of normal whole_of parts_of type_named
translated = refl

-- a setting that is no, and a word with a dash as the value of another
reported : words_of (codes "gdalinfo" ∷ codes "--config" ∷ codes "DTED_VERIFY_CHECKSUM" ∷ codes "YES" ∷ codes "--config" ∷ codes "-b" ∷ codes "--blocks" ∷ codes "./a.dt0" ∷ codes "--blocks" ∷ codes "7" ∷ [])
    ≡ Ok (record { job = Info (codes "a.dt0"); verify = true; blocks = 7; workers = 1 })
unfolding words_of command_of spoken_in spoken_of info_job shared_option_of own_option_of config_said blocks_said placed_said normal
reported = refl

located : words_of (codes "gdallocationinfo" ∷ codes "a.bil" ∷ codes "-lifonly" ∷ codes "-b" ∷ codes "2" ∷ [])
    ≡ Ok (record { job = Locate (codes "a.bil") None (2 ∷ []) FilesOnly false; verify = false; blocks = 64; workers = 1 })
unfolding words_of command_of spoken_in spoken_of locate_job shared_option_of own_option_of band_said placed_said normal
located = refl

-- a value that is refused is named before the early end of its option
refused_value : words_of (codes "gdal_translate" ∷ codes "a.bil" ∷ codes "-srcwin" ∷ codes "1" ∷ codes "x" ∷ []) ≡ Err (Usage 4)
unfolding words_of spoken_in shared_option_of own_option_of window_said placed_said normal
refused_value = refl

-- values that end early, and words that are missing, are named by the number of words
early_end : words_of (codes "gdal_translate" ∷ codes "a.bil" ∷ codes "-outsize" ∷ codes "1" ∷ []) ≡ Err (Usage 4)
unfolding words_of spoken_in shared_option_of own_option_of outsize_said placed_said normal
early_end = refl

missing : words_of (codes "gdal_translate" ∷ codes "-q" ∷ codes "a.bil" ∷ []) ≡ Err (Usage 3)
unfolding words_of command_of spoken_in spoken_of translate_job shared_option_of own_option_of placed_said normal
missing = refl

-- an output of another format than is asked for, and one of none, are named
other_format : words_of (codes "gdal_translate" ∷ codes "a.bil" ∷ codes "b.asc" ∷ codes "-of" ∷ codes "ehdr" ∷ []) ≡ Err (Usage 2)
unfolding words_of command_of spoken_in spoken_of translate_job asked_of written_of extension_of ending_of last_part extension_of_ending shared_option_of own_option_of format_said format_of placed_said normal
other_format = refl

no_format : words_of (codes "gdal_translate" ∷ codes "a.bil" ∷ codes "b.tif" ∷ []) ≡ Err (Usage 2)
unfolding words_of command_of spoken_in spoken_of translate_job asked_of written_of extension_of ending_of last_part extension_of_ending shared_option_of own_option_of placed_said normal
no_format = refl

-- of two options that don't go together the later is named, by its last use
two_windows : words_of (codes "gdal_translate" ∷ codes "-projwin" ∷ codes "0" ∷ codes "1" ∷ codes "1" ∷ codes "0" ∷ codes "a.bil" ∷ codes "-srcwin" ∷ codes "0" ∷ codes "0" ∷ codes "1" ∷ codes "1" ∷ codes "b.bil" ∷ codes "-projwin" ∷ codes "0" ∷ codes "1" ∷ codes "1" ∷ codes "0" ∷ []) ≡ Err (Usage 13)
unfolding words_of command_of spoken_in spoken_of translate_job asked_of written_of extension_of ending_of last_part extension_of_ending shared_option_of own_option_of window_said places_said placed_said normal ticks_of parts_of
two_windows = refl

-- a layout of an output that isn't raw data
no_layout : words_of (codes "gdal_translate" ∷ codes "a.bil" ∷ codes "-co" ∷ codes "INTERLEAVE=BSQ" ∷ codes "b.asc" ∷ []) ≡ Err (Usage 2)
unfolding words_of command_of spoken_in spoken_of translate_job asked_of written_of extension_of ending_of last_part extension_of_ending shared_option_of own_option_of creation_said layout_of placed_said normal
no_layout = refl

-- half a point
half_a_point : words_of (codes "gdallocationinfo" ∷ codes "a.bil" ∷ codes "-1.5" ∷ []) ≡ Err (Usage 3)
unfolding words_of command_of spoken_in spoken_of locate_job shared_option_of own_option_of placed_said normal ticks_of parts_of is_decimal
half_a_point = refl

-- a mosaic of inputs and of those that a list names; options stand anywhere
built : words_of (codes "gdalbuildvrt" ∷ codes "-te" ∷ codes "0" ∷ codes "-1" ∷ codes "2" ∷ codes "1" ∷ codes "out.vrt" ∷ codes "-separate" ∷ codes "a.bil" ∷ codes "-tr" ∷ codes "1" ∷ codes "0.5" ∷ codes "-srcnodata" ∷ codes "none" ∷ codes "./b.bil" ∷ codes "-vrtnodata" ∷ codes "-7" ∷ codes "-input_file_list" ∷ codes "l.txt" ∷ codes "-strict" ∷ codes "-q" ∷ codes "-overwrite" ∷ [])
    ≡ Ok (record {
      job = Build (codes "a.bil" ∷ codes "b.bil" ∷ []) (Some (codes "l.txt")) (record { out = codes "out.vrt"; bands = []; resolution = User (pos 180000000000000000) (pos 90000000000000000); extent = Some (record { xmin = pos 0; ymin = neg_ℤ (pos 180000000000000000); xmax = pos 360000000000000000; ymax = pos 180000000000000000 }); src_nodata = Remove; vrt_nodata = Number (neg_ℤ (pos 7)); separate = true; strict = true }) true;
      verify = false;
      blocks = 64;
      workers = 1;
    })
unfolding words_of command_of spoken_in spoken_of build_job asked_mosaic written_of extension_of ending_of last_part extension_of_ending shared_option_of own_option_of pixel_size_said extent_said source_nodata_said mosaic_nodata_said list_said placed_said nodata_of normal ticks_of whole_of parts_of
built = refl

-- the greatest column isn't beyond the least, which is named before the early end
no_columns : words_of (codes "gdalbuildvrt" ∷ codes "out.vrt" ∷ codes "-te" ∷ codes "0" ∷ codes "0" ∷ codes "-1" ∷ []) ≡ Err (Usage 5)
unfolding words_of spoken_in shared_option_of own_option_of extent_said placed_said normal ticks_of parts_of
no_columns = refl

-- a given size goes together with the user's resolution alone, and of each option the last use counts
size_beside_word : words_of (codes "gdalbuildvrt" ∷ codes "-tr" ∷ codes "1" ∷ codes "1" ∷ codes "out.vrt" ∷ codes "-resolution" ∷ codes "user" ∷ codes "a.bil" ∷ codes "-resolution" ∷ codes "lowest" ∷ []) ≡ Err (Usage 8)
unfolding words_of command_of spoken_in spoken_of build_job asked_mosaic written_of extension_of ending_of last_part extension_of_ending shared_option_of own_option_of resolution_said pixel_size_said resolution_named placed_said normal ticks_of parts_of
size_beside_word = refl

-- the side of the tiles, alone, beside a count of blocks and beside a setting that has no effect; the greatest one
made : words_of (codes "synth" ∷ codes "45" ∷ []) ≡ Ok (record { job = Synth 45; verify = false; blocks = 64; workers = 1 })
unfolding words_of command_of spoken_in spoken_of synth_job shared_option_of own_option_of placed_said
made = refl

made_by_one_block : words_of (codes "synth" ∷ codes "45" ∷ codes "--blocks" ∷ codes "1" ∷ []) ≡ Ok (record { job = Synth 45; verify = false; blocks = 1; workers = 1 })
unfolding words_of command_of spoken_in spoken_of synth_job shared_option_of own_option_of blocks_said placed_said
made_by_one_block = refl

greatest_side : words_of (codes "synth" ∷ codes "--config" ∷ codes "A" ∷ codes "B" ∷ codes "4096" ∷ []) ≡ Ok (record { job = Synth 4096; verify = false; blocks = 64; workers = 1 })
unfolding words_of command_of spoken_in spoken_of synth_job shared_option_of own_option_of config_said placed_said
greatest_side = refl

-- the last number of workers counts, beside a count of blocks; one of more than sixteen, and none, are named
read_by_workers : words_of (codes "gdalinfo" ∷ codes "--workers" ∷ codes "3" ∷ codes "a.dt0" ∷ codes "--blocks" ∷ codes "2" ∷ codes "--workers" ∷ codes "16" ∷ [])
    ≡ Ok (record { job = Info (codes "a.dt0"); verify = false; blocks = 2; workers = 16 })
unfolding words_of command_of spoken_in spoken_of info_job shared_option_of own_option_of blocks_said workers_said placed_said normal
read_by_workers = refl

too_many_workers : words_of (codes "synth" ∷ codes "--workers" ∷ codes "17" ∷ codes "45" ∷ []) ≡ Err (Usage 2)
unfolding words_of spoken_in shared_option_of own_option_of workers_said placed_said
too_many_workers = refl

no_workers : words_of (codes "gdalbuildvrt" ∷ codes "--workers" ∷ codes "0" ∷ []) ≡ Err (Usage 2)
unfolding words_of spoken_in shared_option_of own_option_of workers_said placed_said
no_workers = refl

-- sides out of range are named
no_side : words_of (codes "synth" ∷ codes "0" ∷ []) ≡ Err (Usage 1)
unfolding words_of spoken_in shared_option_of own_option_of placed_said
no_side = refl

side_too_great : words_of (codes "synth" ∷ codes "4097" ∷ []) ≡ Err (Usage 1)
unfolding words_of spoken_in shared_option_of own_option_of placed_said
side_too_great = refl

-- a side that is missing, one too many, and an option that synth doesn't have
missing_side : words_of (codes "synth" ∷ []) ≡ Err (Usage 1)
unfolding words_of command_of spoken_in spoken_of synth_job
missing_side = refl

two_sides : words_of (codes "synth" ∷ codes "4" ∷ codes "5" ∷ []) ≡ Err (Usage 2)
unfolding words_of spoken_in shared_option_of own_option_of placed_said
two_sides = refl

option_of_others : words_of (codes "synth" ∷ codes "-q" ∷ codes "4" ∷ []) ≡ Err (Usage 1)
unfolding words_of spoken_in shared_option_of own_option_of placed_said
option_of_others = refl
