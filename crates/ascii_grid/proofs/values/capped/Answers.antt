use Rattle.std.proofs.Common.{◌≡◌, ℕ, ◌+◌, ◌-◌, ◌*◌, ◌<◌, min, take, length, get_or, List, arith, refl}
use Rattle.std.proofs.lemmas.List.Sums.{fold_more}
use Rattle.geotransform.specs.Decimal.{number}
use Rattle.ascii_grid.proofs.values.capped.Goals as goal

capped_more : (digits : List ℕ) (i n m c : ℕ) → i < length digits → c ≡ get_or digits i 0 → min n 2147483649 ≡ min (number (take i digits)) 2147483649 → min m 2147483649 ≡ min (n * 10 + (c - 48)) 2147483649 → min m 2147483649 ≡ min (number (take (i + 1) digits)) 2147483649
capped_more digits i n m c less is so_far step =
    let more : number (take (i + 1) digits) ≡ number (take i digits) * 10 + (get_or digits i 0 - 48) = fold_more (λ n c. n * 10 + (c - 48)) 0 digits i 0 less in
    omega (arith, more, is)

pub loop-c-preserved : goal.loop-c-preserved
loop-c-preserved c = record {
  capped = capped_more c.args.digits.now c.loop-c.c-index c.loop-c.n c.with_digit-n.result _ c.loop-c-test.true refl c.loop-c.invariant.capped c.with_digit-n.ensures.value;
  bound = c.with_digit-n.ensures.bound;
}
