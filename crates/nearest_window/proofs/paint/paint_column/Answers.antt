use Rattle.std.proofs.Common.{◌≡◌, ◌+◌, ◌-◌, ◌*◌, ◌≤◌, ◌∙◌, length, sym, ap, subst, arith}
use Rattle.std.proofs.Math.Nat.{mul-le-mul}
use Rattle.nearest_window.specs.Painted.{IsPainted, in_columns}
use Rattle.nearest_window.specs.Pictures.{from_block}
use Rattle.nearest_window.specs.Taken.{place_at, IsLongAs}
use Rattle.nearest_window.proofs.Spread.{column_painted, from_column}
use Rattle.nearest_window.proofs.paint.paint_column.Goals as goal

pub overflow_add-top : goal.overflow_add-top
overflow_add-top c =
    let some = c.requires.area.some_lines in
    let lines = c.requires.area.lines in
    let long = subst (λ q. IsLongAs q c.args.picture.now.height) c.requires.plain.0 c.requires.picture.lines in
    omega arith

pub overflow_sub-top : goal.overflow_sub-top
overflow_sub-top c =
    let some = c.requires.area.some_lines in
    let down = (c.requires.down c.args.area.line (omega arith) (omega arith)).0 in
    let first : place_at c.args.picture.now.lines c.args.area.line ≡ c.args.first + c.args.area.line = ap (λ q. place_at q c.args.area.line) c.requires.plain.0 in
    omega arith

pub copy_spread-requires-clause-some : goal.copy_spread-requires-clause-some
copy_spread-requires-clause-some c = c.requires.picture.some

pub copy_spread-requires-clause-room : goal.copy_spread-requires-clause-room
copy_spread-requires-clause-room c = λ i less.
    let columns = c.requires.area.columns in
    let some = c.requires.area.some in
    let inside = c.requires.picture.inside in
    let rows = c.requires.rows in
    let big : (i + 1) * c.args.picture.now.stride ≤ c.args.area.lines * c.args.picture.now.stride = mul-le-mul (omega arith) (omega arith) in
    omega arith

pub copy_spread-requires-clause-within : goal.copy_spread-requires-clause-within
copy_spread-requires-clause-within c =
    let some = c.requires.area.some_lines in
    let down = (c.requires.down c.args.area.line (omega arith) (omega arith)).0 in
    let first : place_at c.args.picture.now.lines c.args.area.line ≡ c.args.first + c.args.area.line = ap (λ q. place_at q c.args.area.line) c.requires.plain.0 in
    let last = (c.requires.down (c.args.area.line + c.args.area.lines - 1) (omega arith) (omega arith)).1 in
    let place : place_at c.args.picture.now.lines (c.args.area.line + c.args.area.lines - 1) ≡ c.args.first + (c.args.area.line + c.args.area.lines - 1) = ap (λ q. place_at q (c.args.area.line + c.args.area.lines - 1)) c.requires.plain.0 in
    let samples : length c.args.block.now.samples ≡ 1 * c.args.rect.h = c.requires.samples ∙ ap (λ n. n * c.args.rect.h) c.requires.wide in
    omega arith

pub returns : goal.returns
returns c =
    let p = c.args.picture.now in
    let columns = c.requires.area.columns in
    let some = c.requires.area.some in
    let inside = c.requires.picture.inside in
    let rows = c.requires.rows in
    let one = c.requires.one in
    let across = c.requires.across (c.args.area.column + 0) (omega arith) (omega arith) in
    let down = c.requires.down c.args.area.line (omega arith) (let l = c.requires.area.some_lines in omega arith) in
    let first : place_at c.args.picture.now.lines c.args.area.line ≡ c.args.first + c.args.area.line = ap (λ q. place_at q c.args.area.line) c.requires.plain.0 in
    let below : c.args.rect.y ≤ c.args.first + c.args.area.line = (let d = down.0 in omega arith) in
    record {
      painted = subst (λ n. IsPainted (in_columns c.args.picture.now.stride (c.args.picture.now.to + c.args.area.column) (c.args.picture.now.to + c.args.area.column + n) (from_block c.args.block.now c.args.rect c.args.picture.now c.args.area.column c.args.area.line)) c.args.out.now c.copy_spread.new.out) (sym one)
          (column_painted c.args.picture.now.stride (c.args.picture.now.to + c.args.area.column) c.args.area.lines (c.args.first + c.args.area.line - c.args.rect.y) (from_block c.args.block.now c.args.rect c.args.picture.now c.args.area.column c.args.area.line) c.args.block.now.samples c.args.out.now c.copy_spread.new.out
          (omega arith) (omega arith)
          (λ r less. from_column c.args.block.now c.args.rect c.args.picture.now c.args.area.column c.args.area.line c.args.first r c.requires.plain.1 c.requires.plain.0 c.requires.wide across.0 across.1 below)
          c.copy_spread.ensures.spread);
    }
