use Rattle.nearest_window.proofs.Merged.{made_canvas, made_taken}
use Rattle.nearest_window.proofs.canvas.Canvas.take.Goals as goal

pub returns-then-takes_all-clause-canvas : goal.returns-then-takes_all-clause-canvas
returns-then-takes_all-clause-canvas c =
    let a = c.takes_all.ensures in let t = c.if-takes_all.true in let o = c.fill_by.ensures in
    made_canvas c.args.self.now c.fill_by.new.self c.args.taking.now c.args.pixels.items c.args.part c.requires.canvas c.requires.part c.requires.pixels (a.none t) (a.wide t) (a.high t) o.rect o.kind o.size o.within o.filled

pub returns-then-takes_all-clause-taken : goal.returns-then-takes_all-clause-taken
returns-then-takes_all-clause-taken c =
    let a = c.takes_all.ensures in let t = c.if-takes_all.true in let o = c.fill_by.ensures in
    made_taken c.args.self.now c.fill_by.new.self c.args.taking.now c.args.pixels.items c.args.part c.requires.canvas c.requires.part c.requires.pixels (a.none t) (a.wide t) (a.high t) o.rect o.kind o.size o.samples
