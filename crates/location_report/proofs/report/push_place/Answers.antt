use Rattle.std.proofs.Common.{◌∙◌, ap}
use Rattle.std.proofs.Math.Facts.{to_z-of_z}
use Rattle.std.specs.Fmt.{signed_decimal}
use Rattle.location_report.proofs.Appended.{place}
use Rattle.location_report.proofs.report.push_place.Goals as goal

pub returns-clause-ok : goal.returns-clause-ok
returns-clause-ok c = place _ _ c.as_bytes-column.result.now c.as_bytes-line.result.now c.args.x c.args.y (c.as_bytes-column.ensures.value ∙ c.format.ensures.text ∙ ap signed_decimal (to_z-of_z c.ranges.x)) (c.as_bytes-line.ensures.value ∙ c.format-2.ensures.text ∙ ap signed_decimal (to_z-of_z c.ranges.y)) c.in_ok-push_all.ensures.ok
