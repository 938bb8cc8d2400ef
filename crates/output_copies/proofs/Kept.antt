-- What a vector has behind a slice of it that was lent and written.
use Rattle.std.proofs.Common.{◌≡◌, ◌∙◌, ◌++◌, ap, drop, length, take, ℕ, List}
use Rattle.std.proofs.Math.Seq.{take-append_seam}

-- all of it is what stands in the slice
pub put_back : {X : Type 0} (n : ℕ) (xs ys : List X) → n ≡ length xs → take n (xs ++ drop (length xs) ys) ≡ xs
put_back n xs ys long = ap (λ k. take k (xs ++ drop (length xs) ys)) long ∙ take-append_seam xs (drop (length xs) ys)
