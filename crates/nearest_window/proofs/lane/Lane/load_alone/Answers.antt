use Rattle.std.proofs.Common.{rules, ◌≡◌, ◌∙◌, true, sym, subst, to_z, of_z}
use mir.Syntax.{w128}
use Rattle.geotransform.specs.Types.{is_in}
use Rattle.nearest_window.specs.Lanes.{lane_view}
use Rattle.nearest_window.proofs.Alone.{one_in, pixel_block}
use Rattle.nearest_window.proofs.Service.{answered_ok, no_value, refused_for, refused_memory, serves_read, tells_in}
use Rattle.nearest_window.proofs.lane.Lane.load_alone.Goals as goal

pub returns-in_err-sample-clause-answered : goal.returns-in_err-sample-clause-answered
returns-in_err-sample-clause-answered g c =
    let o = c.load_sample.ensures in
    let e = c.in_err-sample.ensures in
    let f = c.in_err-sample.field-0.0 in
    let at = c.requires.key.1.at in
    refused_for g.F.Folder c.args.cat.now c.from_residual.result f c.from_residual.ensures
    (serves_read g.F.Folder c.args.cat.now 1 (lane_view c.self.inside.pool c.self.inside.files c.self.inside.made c.self.inside.indexes c.self.inside.recalled) c.load_sample.new.files c.args.key c.requires.key.0
    c.self.view_is c.requires.ready c.requires.key.1 c.requires.absent c.requires.full o.only_read o.good o.most o.loads)
    e.cause (tells_in c.args.cat.now c.args.key.dataset c.requires.key.0 at f (e.changed c.requires.key.0 at)) (λ m told. e.never m told (c.requires.ready.walked m told))

pub returns-in_err-sample-clause-block : goal.returns-in_err-sample-clause-block
returns-in_err-sample-clause-block g c = no_value c.from_residual.result _ _ c.from_residual.ensures

pub returns-in_err-pack-clause-answered : goal.returns-in_err-pack-clause-answered
returns-in_err-pack-clause-answered g c =
    let o = c.load_sample.ensures in
    refused_memory g.F.Folder c.args.cat.now c.from_residual-in_err-pack.result c.from_residual-in_err-pack.ensures
    (serves_read g.F.Folder c.args.cat.now 0 (lane_view c.self.inside.pool c.self.inside.files c.self.inside.made c.self.inside.indexes c.self.inside.recalled) c.load_sample.new.files c.args.key c.requires.key.0
    c.self.view_is c.requires.ready c.requires.key.1 c.requires.absent c.requires.full o.only_read o.good o.most o.loads)

pub returns-in_err-pack-clause-block : goal.returns-in_err-pack-clause-block
returns-in_err-pack-clause-block g c = no_value c.from_residual-in_err-pack.result _ _ c.from_residual-in_err-pack.ensures

pub returns-clause-answered : goal.returns-clause-answered
returns-clause-answered g c =
    let o = c.load_sample.ensures in
    answered_ok g.F.Folder c.args.cat.now _
    (serves_read g.F.Folder c.args.cat.now 0 (lane_view c.self.inside.pool c.self.inside.files c.self.inside.made c.self.inside.indexes c.self.inside.recalled) c.load_sample.new.files c.args.key c.requires.key.0
    c.self.view_is c.requires.ready c.requires.key.1 c.requires.absent c.requires.full o.only_read o.good o.most o.loads)

pub pack-requires-clause-range : goal.pack-requires-clause-range
pack-requires-clause-range g c =
    let d = c.requires.key.0 in
    let at = c.requires.key.1.at in
    let same : to_z w128 (of_z w128 c.in_ok-sample.sample) ≡ c.in_ok-sample.sample = search rules in
    one_in c.band_type_of-kind.result (to_z w128 (of_z w128 c.in_ok-sample.sample)) (subst (λ v. is_in c.band_type_of-kind.result v ≡ true) (sym same) (c.in_ok-sample.ensures.typed d at c.band_type_of-kind.result (c.band_type_of-kind.ensures.kind d at)))

pub returns-clause-block : goal.returns-clause-block
returns-clause-block g c =
    let o = c.load_sample.ensures in
    let d = c.requires.key.0 in
    let at = c.requires.key.1.at in
    let same : to_z w128 (of_z w128 c.in_ok-sample.sample) ≡ c.in_ok-sample.sample = search rules in
    pixel_block (g.F.Folder.names c.load_sample.new.folder) c.args.cat.now c.args.key d c.args.rect c.band_type_of-kind.result (to_z w128 (of_z w128 c.in_ok-sample.sample)) c.in_ok-pack.field-0 c.requires.key.1 c.requires.narrow c.requires.low
    (c.band_type_of-kind.ensures.kind d at)
    (subst (λ v. is_in c.band_type_of-kind.result v ≡ true) (sym same) (c.in_ok-sample.ensures.typed d at c.band_type_of-kind.result (c.band_type_of-kind.ensures.kind d at)))
    (λ m e. let before = sym o.only_read.names ∙ e in same ∙ c.in_ok-sample.ensures.told m before (c.requires.ready.walked m before))
    c.in_ok-pack.ensures.samples
