use Rattle.std.proofs.Common.{◌≡◌, ◌∙◌, ap, sym, subst, arith}
use Rattle.std.specs.Prelude.{option_map, slice_get}
use Rattle.catalog.specs.declared.driver.Content.TheVariants.{File}
use Rattle.band_blocks.specs.Samples.{IsDirect}
use Rattle.band_blocks.proofs.Loads.{file_of, some_one}
use Rattle.band_blocks.proofs.Opened.{good_same}
use Rattle.band_blocks.proofs.Samples.{has_sample, of_type, one_read, sample_long, sample_told, typed_as}
use Rattle.band_blocks.proofs.sample.load_sample.Goals as goal

pub read_sample-requires-clause-sample : goal.read_sample-requires-clause-sample
read_sample-requires-clause-sample g c κs within =
    let d = c.requires.pixel.0 in
    let key_of = c.requires.pixel.1 in
    let file : d.content ≡ File c.in-Some.driver.now = file_of (slice_get c.args.cat.now c.args.pixel.dataset) d c.in-Some.driver.now key_of.at (c.driver.ensures.driver ∙ ap (option_map (λ r. r.now)) c.in-Some.is) in
    has_sample c.args.cat.now c.args.pixel d c.count-count.ensures.valid key_of c.in-Some.driver.now file

pub read_sample-requires-clause-places : goal.read_sample-requires-clause-places
read_sample-requires-clause-places g c κs within =
    let d = c.requires.pixel.0 in
    let key_of = c.requires.pixel.1 in
    let file : d.content ≡ File c.in-Some.driver.now = file_of (slice_get c.args.cat.now c.args.pixel.dataset) d c.in-Some.driver.now key_of.at (c.driver.ensures.driver ∙ ap (option_map (λ r. r.now)) c.in-Some.is) in
    subst IsDirect file (c.requires.direct d key_of.at)

pub read_sample-requires-clause-open : goal.read_sample-requires-clause-open
read_sample-requires-clause-open g c κs within =
    let d = c.requires.pixel.0 in
    let key_of = c.requires.pixel.1 in
    let file : d.content ≡ File c.in-Some.driver.now = file_of (slice_get c.args.cat.now c.args.pixel.dataset) d c.in-Some.driver.now key_of.at (c.driver.ensures.driver ∙ ap (option_map (λ r. r.now)) c.in-Some.is) in
    sample_long c.args.cat.now c.args.pixel d c.count-count.ensures.valid key_of g.F.Folder.file_bytes g.F.Folder.file_len (g.F.Folder.names c.ensure_open.new.folder) c.ensure_open.new.self c.in-Some.driver.now c.ensure_open.ensures.good file c.in_ok-ensure_open.ensures.open

pub returns-clause-told : goal.returns-clause-told
returns-clause-told g c = λ m tells walked.
    let d = c.requires.pixel.0 in
    let key_of = c.requires.pixel.1 in
    let file : d.content ≡ File c.in-Some.driver.now = file_of (slice_get c.args.cat.now c.args.pixel.dataset) d c.in-Some.driver.now key_of.at (c.driver.ensures.driver ∙ ap (option_map (λ r. r.now)) c.in-Some.is) in
    sample_told g.F.Folder.file_bytes g.F.Folder.file_len (g.F.Folder.names c.ensure_open.new.folder) c.args.cat.now c.ensure_open.new.self c.args.pixel d c.in-Some.driver.now m c.read_sample.result c.ensure_open.ensures.good (c.ensure_open.ensures.only_read.names ∙ tells) key_of.at file c.in_ok-ensure_open.ensures.open c.read_sample.ensures.told

pub returns-clause-typed : goal.returns-clause-typed
returns-clause-typed g c = λ d at.
    let d' = c.requires.pixel.0 in
    let key_of = c.requires.pixel.1 in
    let file : d'.content ≡ File c.in-Some.driver.now = file_of (slice_get c.args.cat.now c.args.pixel.dataset) d' c.in-Some.driver.now key_of.at (c.driver.ensures.driver ∙ ap (option_map (λ r. r.now)) c.in-Some.is) in
    typed_as c.read_sample.result d' d c.args.pixel.band (some_one d' d (sym key_of.at ∙ at)) (of_type c.args.cat.now c.args.pixel d' c.count-count.ensures.valid key_of c.in-Some.driver.now c.read_sample.result file c.read_sample.ensures.range)

pub returns-clause-most : goal.returns-clause-most
returns-clause-most g c =
    let d = c.requires.pixel.0 in
    let key_of = c.requires.pixel.1 in
    let file : d.content ≡ File c.in-Some.driver.now = file_of (slice_get c.args.cat.now c.args.pixel.dataset) d c.in-Some.driver.now key_of.at (c.driver.ensures.driver ∙ ap (option_map (λ r. r.now)) c.in-Some.is) in
    let one = one_read c.args.cat.now c.args.pixel d c.count-count.ensures.valid key_of c.in-Some.driver.now file in
    let reads = c.read_sample.ensures.reads in
    let opened = c.ensure_open.ensures.read_calls in
    omega arith

pub returns-clause-good : goal.returns-clause-good
returns-clause-good g c =
    rw c.read_sample.ensures.only_read.names (good_same g.F.Folder.file_bytes g.F.Folder.file_len (g.F.Folder.names c.ensure_open.new.folder) c.args.cat.now c.ensure_open.new.self c.read_sample.new.self c.ensure_open.ensures.good c.read_sample.ensures.files)
