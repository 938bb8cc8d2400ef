use Rattle.std.proofs.Common.{◌∙◌}
use Rattle.vrt_markup.proofs.Bare.{whole_tag}
use Rattle.vrt_markup.proofs.items.item_at.Goals as goal

pub returns-in-Some-tag_end-clause-item : goal.returns-in-Some-tag_end-clause-item
returns-in-Some-tag_end-clause-item c = whole_tag c.in-Some.front.now c.name_front.result.0.now c.name_front.result.1.now c.in-Some-tag_end.rest.now c.in-Some-tag_end.empty c.name_front.ensures.name c.in-Some-tag_end.ensures.end ∙ c.in-Some.ensures.item
