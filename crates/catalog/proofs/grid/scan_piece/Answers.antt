use Rattle.catalog.proofs.Scans.{fed_more, fed_fault}
use Rattle.catalog.proofs.grid.scan_piece.Goals as goal

pub returns-in-Ok-feed-clause-fed : goal.returns-in-Ok-feed-clause-fed
returns-in-Ok-feed-clause-fed g c = fed_more _ _ _ c.args.at _ c.read_at.new.out c.read_at.auto.out c.in-Ok.ensures.ok c.in-Ok-feed.ensures.reads

pub returns-in-Err-feed-clause-err : goal.returns-in-Err-feed-clause-err
returns-in-Err-feed-clause-err g c = λ b told. fed_fault _ _ c.args.at _ c.read_at.new.out b c.in-Err-feed.fault told (c.in-Ok.ensures.ok b told) (λ text reads. c.feed.ensures.fault text c.in-Err-feed.fault reads c.in-Err-feed.is)
