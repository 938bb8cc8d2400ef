use Rattle.std.proofs.Common.{ℕ, List, [], ◌∷◌, arith}
use Rattle.std.proofs.lemmas.List.{length-take-le}
use Rattle.band_blocks.proofs.Samples.{sample_within}
use Rattle.band_blocks.proofs.contents.read_sample.Goals as goal

pub place_of-requires-clause-long : goal.place_of-requires-clause-long
place_of-requires-clause-long g c = (g.F.Folder.file_len c.args.file.now, c.requires.long)

pub read_at-requires : goal.read_at-requires
read_at-requires g c =
    let within = sample_within c.args.driver.now c.args.pixel.band c.args.pixel.x c.args.pixel.y (g.F.Folder.file_len c.args.file.now) c.requires.sample c.requires.places c.requires.long in
    let few = c.bytes_per_sample.ensures.few in
    let zeros : List ℕ = 0 ∷ 0 ∷ 0 ∷ 0 ∷ 0 ∷ 0 ∷ 0 ∷ 0 ∷ [] in
    let long = length-take-le c.bytes_per_sample.result zeros (omega arith) in
    omega (arith, within, long, c.place_of.ensures.place, c.bytes_per_sample.ensures.width)
