use Rattle.vrt_markup.proofs.Entities.{literal_added}
use Rattle.vrt_markup.proofs.text.push_literal.Goals as goal

pub returns-clause-ok : goal.returns-clause-ok
returns-clause-ok c = literal_added c.args.out.now.items c.extend_from_slice.new.self.items c.args.text.now c.split_at.result.0.now c.split_at.result.1.now c.literal_len-count.result c.literal_len-count.ensures.count c.split_at.ensures.front c.split_at.ensures.back c.in_ok-extend_from_slice.ensures.items
