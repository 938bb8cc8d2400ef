use Rattle.std.proofs.Common.{subst, sym}
use Rattle.write_back.specs.Packed.{AreApart, IsPackedOf}
use Rattle.target_tests.proofs.packed.put_record.Goals as goal

pub write_packed-requires-clause-apart : goal.write_packed-requires-clause-apart
write_packed-requires-clause-apart g c κs within = subst AreApart (sym c.requires.output) c.requires.apart

pub write_packed-requires-clause-whole : goal.write_packed-requires-clause-whole
write_packed-requires-clause-whole g c κs within = subst (λ o. IsPackedOf o c.args.x c.pack_held.new.bytes) (sym c.requires.output) c.pack_held.ensures.whole
