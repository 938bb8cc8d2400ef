use Rattle.std.proofs.Common.{subst, sym}
use Rattle.write_back.specs.Packed.{AreApart, IsPackedOf}
use Rattle.write_back.proofs.Past.{lined_whole}
use Rattle.target_tests.proofs.packed.put_line.Goals as goal

pub write_packed-requires-clause-apart : goal.write_packed-requires-clause-apart
write_packed-requires-clause-apart g c κs within = subst AreApart (sym c.requires.output) c.requires.lined.apart

pub write_packed-requires-clause-whole : goal.write_packed-requires-clause-whole
write_packed-requires-clause-whole g c κs within = subst (λ o. IsPackedOf o c.args.y c.args.bytes.now) (sym c.requires.output) (lined_whole c.args.packing.now c.args.y c.args.bytes.now c.requires.lined)
