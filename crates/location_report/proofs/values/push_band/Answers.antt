use Rattle.std.proofs.Common.{◌∙◌, ap}
use Rattle.std.proofs.Math.Facts.{to_z-of_z}
use Rattle.std.specs.Fmt.{signed_decimal}
use Rattle.location_report.proofs.Appended.{band}
use Rattle.location_report.proofs.values.push_band.Goals as goal

pub returns-clause-ok : goal.returns-clause-ok
returns-clause-ok c = band _ _ c.as_bytes-n.result.now c.as_bytes-v.result.now c.args.band c.args.value (c.as_bytes-n.ensures.value ∙ c.format.ensures.text) (c.as_bytes-v.ensures.value ∙ c.format-2.ensures.text ∙ ap signed_decimal (to_z-of_z c.ranges.value)) c.in_ok-push_all.ensures.ok
