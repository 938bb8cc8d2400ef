use Rattle.std.proofs.Common.{◌≡◌, ◌∙◌, ◌*◌, ◌-◌, length, take, arith}
use Rattle.std.proofs.lemmas.List.{length-take-le}
use Rattle.synth_runs.proofs.Tallying.{tallied_more}
use Rattle.synth_runs.proofs.strips.tally_strip.Goals as goal

pub returns-in-Ok-clause-tallied : goal.returns-in-Ok-clause-tallied
returns-in-Ok-clause-tallied g c =
    let size = c.args.copied.now.size in
    let first = c.args.strip.first in
    let end = c.args.strip.end in
    let part : length (take c.area.result c.args.samples.now) ≡ c.area.result = length-take-le c.area.result c.args.samples.now (let long = c.requires.long in let area = c.area.ensures.area in omega (arith, long, area)) in
    let long : length c.read_strip.new.samples ≡ size.w * (end - first) = c.read_strip.ensures.long ∙ part ∙ c.area.ensures.area in
    tallied_more (g.F.Folder.names c.args.folder.now) (g.F.Folder.names c.read_strip.new.folder) c.args.copied.now.cat c.args.copied.now.id size first end c.args.tally.now c.add.new.self c.read_strip.new.samples
    c.read_strip.ensures.names c.requires.order long
    (λ m told d at. c.in-Ok.ensures.samples m told d at) c.add.ensures.added c.add.ensures.count c.requires.tallied
