use Rattle.std.proofs.Common.{rules, ◌≡◌, ◌∙◌, ap, sym}
use Rattle.lane_teams.proofs.Lanes.{lanes_kept}
use Rattle.output_copies.proofs.Beside.{may_read_at}
use Rattle.output_copies.proofs.ahead.write_and_read.Goals as goal

pub do_both-requires-clause-may_read : goal.do_both-requires-clause-may_read
do_both-requires-clause-may_read g c κs within =
    let t = c.args.translation.now in
    let e = c.who_reads-reading.ensures in
    may_read_at g.F.Folder t.cat t.id t.plan c.args.pair.next g.S.Scene.told g.S.Scene.cat _ _ _ _ _ _ _ _ _ _
    (record {
      translation = c.requires.translation;
      part = c.requires.next;
      ready = lanes_kept g.F.Folder g.S.Scene.told g.S.Scene.cat t.cat _ c.args.folder.now c.in-Ok.view c.in-Ok.ensures.view.same c.requires.ready;
      room_for = c.requires.room;
      long = c.requires.long;
    }) (ap (λ x. x.now) (sym e.view)) (ap (λ x. x.now.team.lanes.items) (sym e.reader)) (ap (λ x. x.now.columns) (sym e.reader)) (ap (λ x. x.now.samples.items) (sym e.reader)) (ap (λ x. x.now.items) (sym e.room))

pub returns-in-Ok-written-clause-ready : goal.returns-in-Ok-written-clause-ready
returns-in-Ok-written-clause-ready g c =
    let names = g.F.Folder.names in
    let done = c.do_both.ensures in
    let reads = done.were_read.names ∙ (ap (λ x. names x.now) c.who_reads-reading.ensures.view ∙ c.in-Ok.ensures.view.same) in
    let writes = done.were_written.names ∙ ap (λ x. names x.now) c.who_writes-writing.ensures.folder in
    let here : names c.absorb.new.self ≡ names c.do_both.new.writing.folder.now = search rules in
    lanes_kept g.F.Folder g.S.Scene.told g.S.Scene.cat c.args.translation.now.cat _ c.do_both.new.reading.view.now c.absorb.new.self (here ∙ (writes ∙ sym reads)) done.were_read.ready

pub returns-in-Err-clause-ready : goal.returns-in-Err-clause-ready
returns-in-Err-clause-ready g c =
    let names = g.F.Folder.names in
    let done = c.do_both.ensures in
    let reads = done.were_read.names ∙ (ap (λ x. names x.now) c.who_reads-reading.ensures.view ∙ c.in-Ok.ensures.view.same) in
    let writes = done.were_written.names ∙ ap (λ x. names x.now) c.who_writes-writing.ensures.folder in
    let here : names c.absorb.new.self ≡ names c.do_both.new.writing.folder.now = search rules in
    lanes_kept g.F.Folder g.S.Scene.told g.S.Scene.cat c.args.translation.now.cat _ c.do_both.new.reading.view.now c.absorb.new.self (here ∙ (writes ∙ sym reads)) done.were_read.ready
