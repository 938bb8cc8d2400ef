use Rattle.std.proofs.Common.{map}
use Rattle.std.specs.Char.{to_ascii_lowercase}
use Rattle.std.specs.Cmp.Lexicographic.{bytes_decides}
use Rattle.std.proofs.lemmas.Bool.Decides.{same_from_decides}
use Rattle.lists_and_answers.specs.Texts.{same_letters}
use Rattle.lists_and_answers.proofs.texts.same_letters.Goals as goal

pub returns : goal.returns
returns c = record {
  letters =
      same_from_decides c.eq_ignore_ascii_case.result (same_letters c.args.a.now c.args.b.now) (c.eq_ignore_ascii_case.ensures.test.0, c.eq_ignore_ascii_case.ensures.test.1)
      (bytes_decides (map to_ascii_lowercase c.args.a.now) (map to_ascii_lowercase c.args.b.now));
}
