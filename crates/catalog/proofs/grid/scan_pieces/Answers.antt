use Rattle.std.proofs.Common.{◌≡◌, ◌∙◌, ◌+◌, ◌-◌, ◌/◌, ◌≤◌, ap, sym, subst, length, take, min, ℕ, List, Option, arith}
use Rattle.std.specs.Int.{div_ceil}
use Rattle.std.proofs.lemmas.List.{length-take-le}
use Rattle.catalog.specs.Scanned.{HasFed}
use Rattle.catalog.proofs.Readings.{piece_counted, piece_whole}
use Rattle.catalog.proofs.grid.scan_pieces.Goals as goal

pub loop-at-preserved : goal.loop-at-preserved
loop-at-preserved g c =
    let so_far = c.loop-at.invariant in
    let n = c.min-n.result in
    let step = length c.args.buffer.now in
    let count : length (take n c.loop-at.buffer) ≡ n = length-take-le n c.loop-at.buffer (omega (arith, c.min-n.ensures)) in
    let is : n ≡ min (c.args.len - c.loop-at.at) step = c.min-n.ensures ∙ ap (min (c.args.len - c.loop-at.at)) c.loop-at.auto.buffer in
    let before = so_far.whole c.loop-at-test.true in
    let counted : c.loop-at.at / step + 1 ≤ div_ceil (c.loop-at.at + n) step = piece_counted c.loop-at.at (c.loop-at.at + n) step c.requires.some (omega (arith, is, c.loop-at-test.true, c.requires.some)) in
    record {
      fed =
          subst (λ (bytes : Option (List ℕ)). HasFed c.scan_piece.new.scanner bytes (c.loop-at.at + n)) so_far.bytes
          (subst (λ (k : ℕ). HasFed c.scan_piece.new.scanner (g.F.Folder.file_bytes c.loop-at.file) (c.loop-at.at + k)) count
          (c.in-Ok.ensures.fed (subst (λ (bytes : Option (List ℕ)). HasFed c.loop-at.scanner bytes c.loop-at.at) (sym so_far.bytes) so_far.fed)));
      within = omega (arith, is, c.loop-at-test.true);
      bytes = c.scan_piece.ensures.bytes ∙ so_far.bytes;
      len = c.scan_piece.ensures.len ∙ so_far.len;
      names = c.scan_piece.ensures.names ∙ so_far.names;
      reads = omega (arith, c.scan_piece.ensures.reads, before, counted);
      whole = λ less.
          let full : n ≡ step = omega (arith, is, less) in
          let next : (c.loop-at.at + n) / step ≡ c.loop-at.at / step + 1 = ap (λ (k : ℕ). (c.loop-at.at + k) / step) full ∙ piece_whole c.loop-at.at step c.requires.some in
          omega (arith, c.scan_piece.ensures.reads, before, next);
      write_calls = c.scan_piece.ensures.write_calls ∙ so_far.write_calls;
      later = omega (arith, so_far.later, c.scan_piece.ensures.cause.later);
    }
