use Rattle.info_report.proofs.Transforms.{transform_made}
use Rattle.info_report.proofs.transform_lines.push_transform.Goals as goal

pub returns : goal.returns
returns c = transform_made _ _ _ _ _ _ c.args.geo.now c.args.size c.geo.view_is c.in_ok-push_pair.ensures c.in_ok-push_pair-2.ensures c.in_ok-extend_from_slice.ensures.items c.in_ok-push_corners.ensures
