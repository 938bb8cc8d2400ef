use Rattle.std.proofs.Common.{◌+ℤ◌, arith}
use Rattle.std.proofs.lemmas.Int.{ints}
use Rattle.vrt_profile.specs.Cover.{centre}
use Rattle.mosaic_sources.proofs.Beside.{before_part, behind_part}
use Rattle.mosaic_sources.proofs.covering.is_beside.Goals as goal

pub returns-then-high-start : goal.returns-then-high-start
returns-then-high-start c = record { beside = λ h x low high. let t = c.if-high-start.true in let a = c.ranges.start in before_part c.args.start (c.args.start +ℤ c.args.length) (centre x) (omega (arith, ints)) }

pub returns-then-end-low : goal.returns-then-end-low
returns-then-end-low c = record { beside = λ h x low high. let t = c.if-end-low.true in let a = c.ranges.start in let b = c.ranges.length in behind_part c.args.start (c.args.start +ℤ c.args.length) (centre x) (omega (arith, ints)) }
