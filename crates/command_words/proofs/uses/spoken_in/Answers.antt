use Rattle.std.proofs.Common.{◌≡◌, ◌∙◌, ◌+◌, ap, length, map, drop, string_bytes, arith}
use Rattle.command_words.specs.Gathered.{with_said}
use Rattle.command_words.specs.Options.{option_of}
use Rattle.command_words.proofs.Told.{next_word, value_step, use_step}
use Rattle.command_words.proofs.uses.spoken_in.Goals.{then-taken-gt0, else-taken-gt0+in_ok-said+in_ok-all}
use Rattle.command_words.proofs.uses.spoken_in.Goals as goal

pub loop-i-preserved : goal.loop-i-preserved
loop-i-preserved c =
    let word = string_bytes c.index-words-i.result in
    let here = map string_bytes (drop c.loop-i.i c.args.words.now) in
    let left = map string_bytes (drop (c.loop-i.i + 1) c.args.words.now) in
    let next = next_word string_bytes c.args.words.now c.loop-i.i c.index-words-i.result c.index-words-i.result c.loop-i-test.true c.index-words-i.is in
    elim c.if-taken-gt0.branch [
      | then-taken-gt0 w ↦ record {
        told = value_step c.args.tool (length c.args.words.now + 1) (c.loop-i.i + 1) c.loop-i.all word here left (map string_bytes c.args.words.now) next c.loop-i.before c.if-taken-gt0.before c.loop-i.taken c.if-taken-gt0.taken c.if-taken-gt0.all c.loop-i.invariant.told w.if-taken-gt0.true w.taken-is w.before-is w.all-is;
        few = omega arith;
      }
      | else-taken-gt0+in_ok-said+in_ok-all w ↦ record {
        told =
            let more : w.in_ok-all.all ≡ with_said (c.loop-i.i + 1) w.in_ok-said.said c.loop-i.all = cc w.in_ok-all.ensures in
            use_step c.args.tool (length c.args.words.now + 1) (c.loop-i.i + 1) c.loop-i.all word here left (map string_bytes c.args.words.now) next c.loop-i.before c.if-taken-gt0.before c.loop-i.taken c.if-taken-gt0.taken c.if-taken-gt0.all w.as_str.result.now (map string_bytes w.behind.result.now) w.in_ok-said.said w.option_of-option.result c.loop-i.invariant.told (omega arith) w.as_str.ensures.value (ap (map string_bytes) w.behind.ensures.value) w.in_ok-said.ensures (w.all-is ∙ more) (w.option_of-option.ensures ∙ ap (option_of c.args.tool) w.as_str-else-taken-gt0.ensures.value) (w.before-is ∙ w.behind_use-before.ensures.value) (w.taken-is ∙ w.taken_by-taken.ensures.value);
        few = omega arith;
      }
    ]
