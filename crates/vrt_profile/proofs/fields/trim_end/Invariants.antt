use Rattle.std.proofs.Common.{◌≡◌, ◌≤◌, ◌+◌, take, length}
use Rattle.std.specs.List.{suffix_len}
use Rattle.lists_and_answers.specs.Texts.{is_white}
use Rattle.vrt_profile.proofs.fields.trim_end.Given as goal

abbrev pub invariant-loop-count : goal.invariant-loop-count
invariant-loop-count l = record { within : l.count ≤ length l.text; left : l.count + suffix_len is_white l.text ≡ length l.text + suffix_len is_white (take l.count l.text) }

abbrev pub decreases-loop-count : goal.decreases-loop-count
decreases-loop-count l = l.count
