use Rattle.std.proofs.Common.{◌≡◌, ◌∙◌, ◌+◌, ◌*◌, ◌-◌, ◌<◌, ◌≤◌, ℕ, ℤ, pos, List, take, drop, length, length-drop, get_or, ap, arith}
use Rattle.std.proofs.Math.Nat.{mul-le-mul}
use Rattle.std.proofs.lemmas.List.{get_or-take, get_or-drop, length-take-le}
use Rattle.strip_copies.proofs.making.line_in.Goals as goal

-- the line ends within the lines
ends : (columns lines line : ℕ) → line < lines → line * columns + columns ≤ columns * lines
ends columns lines line less =
    let big : (line + 1) * columns ≤ lines * columns = mul-le-mul (omega arith) (omega arith) in
    let next : (line + 1) * columns ≡ line * columns + columns = grind arith in
    let turned : lines * columns ≡ columns * lines = grind arith in
    omega arith

pub offset_bounds-strip-at : goal.offset_bounds-strip-at
offset_bounds-strip-at c = let e = ends c.args.columns c.args.lines c.args.line c.requires.inside in omega (arith, e)

pub slice_bounds-result-end : goal.slice_bounds-result-end
slice_bounds-result-end c = let e = ends c.args.columns c.args.lines c.args.line c.requires.inside in let size = c.requires.size in let at = c.area-at.ensures.area in omega arith

part_long : (a n : ℕ) (xs : List ℤ) → a + n ≤ length xs → length (take n (drop a xs)) ≡ n
part_long a n xs fits = let d = length-drop a xs in length-take-le n (drop a xs) (omega arith)

part_has : (a n m : ℕ) (xs : List ℤ) (c : ℕ) → m ≡ n → c < n → get_or (take m (drop a xs)) c (pos 0) ≡ get_or xs (a + c) (pos 0)
part_has a n m xs c e less = get_or-take m (drop a xs) c (pos 0) (omega arith) ∙ get_or-drop a xs c (pos 0)

pub returns : goal.returns
returns c =
    let e = ends c.args.columns c.args.lines c.args.line c.requires.inside in
    let at = c.area-at.ensures.area in
    let size = c.requires.size in
    let n : c.area-at.result + c.args.columns - c.area-at.result ≡ c.args.columns = omega arith in
    record {
      size = ap (λ m. length (take m (drop c.area-at.result c.args.strip.now))) n ∙ part_long c.area-at.result c.args.columns c.args.strip.now (omega arith);
      samples = λ place less. part_has c.area-at.result c.args.columns _ c.args.strip.now place n less ∙ ap (λ m. get_or c.args.strip.now (m + place) (pos 0)) at;
    }
