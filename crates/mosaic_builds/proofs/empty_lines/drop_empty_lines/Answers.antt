use Rattle.std.proofs.Common.{List, ℕ, length, drop}
use Rattle.mosaic_builds.proofs.Feeds.{same_filled, same_text, kept_items}
use Rattle.mosaic_builds.proofs.empty_lines.drop_empty_lines.Goals as goal

pub returns-clause-kept : goal.returns-clause-kept
returns-clause-kept c =
    let old : List ℕ = c.args.bytes.now.items in
    let out : List ℕ = c.move_kept-kept.new.bytes in
    let kept = c.move_kept-kept.ensures in
    kept_items old c.deref_mut.result.now out (drop (length out) old) c.truncate.new.self.items c.move_kept-kept.result c.args.bytes.now.len c.truncate.ensures.items kept.kept c.deref_mut.ensures.value kept.few kept.size c.deref_mut.ensures.len

pub returns-clause-lines : goal.returns-clause-lines
returns-clause-lines c = same_filled c.args.bytes.now.items c.truncate.new.self.items (returns-clause-kept c)

pub returns-clause-text : goal.returns-clause-text
returns-clause-text c = same_text c.args.bytes.now.items c.truncate.new.self.items (returns-clause-kept c)
