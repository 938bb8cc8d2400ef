-- What stands at a place of a file.
use Rattle.std.proofs.Common.{◌≡◌, ◌∙◌, ap, ℕ, ◌+◌, ◌-◌, ◌≤◌, List, length, take, drop, arith}
use Rattle.std.proofs.lemmas.List.{drop-take, drop-drop, take-take}
use Rattle.lists_and_answers.specs.Places.{StandsAt}

-- a part of what stands in a file is a part of the file
pub stands-part : (file bytes : List ℕ) (at p n : ℕ) → p + n ≤ length bytes → StandsAt file bytes at → take n (drop p bytes) ≡ take n (drop (at + p) file)
stands-part file bytes at p n enough stands =
    let whole : length bytes ≡ p + (length bytes - p) = omega arith in
    ap (λ b. take n (drop p b)) stands
    ∙ ap (λ k. take n (drop p (take k (drop at file)))) whole
    ∙ ap (take n) (drop-take p (length bytes - p) (drop at file))
    ∙ take-take n (length bytes - p) (drop p (drop at file)) (omega arith)
    ∙ ap (take n) (drop-drop p at file)
