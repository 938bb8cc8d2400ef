use Rattle.vrt_markup.proofs.EndTags.{name_front}
use Rattle.vrt_markup.proofs.tokens.name_front.Goals as goal

pub returns-clause-named : goal.returns-clause-named
returns-clause-named c = name_front c.args.text.now c.split_at.result.0.now c.later_len.result c.requires.first c.later_len.ensures.count c.split_at.ensures.front
