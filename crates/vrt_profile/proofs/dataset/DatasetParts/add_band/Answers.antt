use Rattle.std.proofs.Common.{◌≡◌, ◌≤◌, ◌+◌, length, refl, ap, ◌∙◌, arith, subst, Result, IfOk}
use Rattle.vrt_profile.specs.Values.{BandValue}
use Rattle.vrt_profile.specs.Means.{DatasetParts}
use Rattle.vrt_markup.specs.declared.fault.VrtFault.{VrtFault}
use Rattle.vrt_profile.proofs.Counts.{more_bands}
use Rattle.vrt_profile.proofs.dataset.DatasetParts.add_band.Goals as goal

pub invariant_of-self : goal.invariant_of-self
invariant_of-self c =
    let p : DatasetParts = record { srs = c.self.inside.srs; geo = c.self.inside.geo; bands = c.self.inside.bands; taken = c.self.inside.taken } in
    let q : DatasetParts = record { srs = c.self.inside.srs; geo = c.self.inside.geo; bands = c.push.new.self; taken = c.self.inside.taken + c.len-count.result } in
    let count : c.len-count.result ≡ length c.in-Ok.band.sources = c.len-count.ensures.count ∙ ap (λ (b : BandValue). length b.sources) c.band.view_is in
    let fits : c.args.self.now.taken + length c.in-Ok.band.sources ≤ 262144 = subst (λ (r : Result BandValue VrtFault). IfOk r (λ b. c.args.self.now.taken + length b.sources ≤ 262144)) c.in-Ok.is c.requires.fits in
    more_bands p q c.in-Ok.band c.self.invariant c.rules.ensures.rules refl refl c.in-Ok-push.ensures.ok (ap (λ n. c.self.inside.taken + n) count)
    (omega (arith, c.if-len-ge-MOST_BANDS.false, c.len.ensures.count)) (omega (arith, fits, ap (λ (x : DatasetParts). x.taken) c.self.view_is))
