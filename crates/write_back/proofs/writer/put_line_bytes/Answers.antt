use Rattle.std.proofs.Common.{◌<◌, arith, refl, subst, sym, map}
use Rattle.std.specs.List.{range_with_len}
use Rattle.std.proofs.lemmas.List.{take_all}
use Rattle.std.proofs.lemmas.List.FromFn.{length-map-range_with_len}
use Rattle.esri_hdr.specs.Head.{IsHead}
use Rattle.interleaved_raw.specs.Raw.{strided_at}
use Rattle.outside.specs.Outside.{put_at}
use Rattle.write_back.specs.Pieces.{spots_of}
use Rattle.write_back.specs.Spots.{plain_of, IsRunWritten}
use Rattle.write_back.proofs.Runs.{on_ok, piece_written, run_within}
use Rattle.write_back.proofs.writer.put_line_bytes.Goals as goal

pub spot_place-requires-clause-spot : goal.spot_place-requires-clause-spot
spot_place-requires-clause-spot g c = subst (λ n. 0 < n) c.line_len-len.ensures.len c.line_len-len.ensures.some

pub put_bytes-requires-clause-within : goal.put_bytes-requires-clause-within
put_bytes-requires-clause-within g c =
    let h = c.args.head.now in
    let is : IsHead c.args.head.now = subst IsHead c.head.view_is c.head.invariant in
    let some : 0 < spots_of c.args.head.now = subst (λ n. 0 < n) c.line_len-len.ensures.len c.line_len-len.ensures.some in
    let within = run_within c.args.head.now c.args.row.band 0 c.args.row.y (spots_of c.args.head.now) is c.requires.band some (omega arith) c.requires.line in
    omega (arith, within, c.spot_place.ensures.place, c.requires.bytes, c.requires.long)

pub returns-clause-told : goal.returns-clause-told
returns-clause-told g c = on_ok c.put_bytes.result _ _ (λ written b told long. (
    let h = c.args.head.now in
    let is : IsHead c.args.head.now = subst IsHead c.head.view_is c.head.invariant in
    let some : 0 < spots_of c.args.head.now = subst (λ n. 0 < n) c.line_len-len.ensures.len c.line_len-len.ensures.some in
    let count = length-map-range_with_len (strided_at (plain_of c.args.head.now) c.args.bytes.now) 0 (spots_of c.args.head.now) in
    let whole = take_all (spots_of c.args.head.now) (map (strided_at (plain_of c.args.head.now) c.args.bytes.now) (range_with_len 0 (spots_of c.args.head.now))) (omega arith) in (
      put_at c.spot_place.result c.args.bytes.now b,
      written b told,
      subst (λ k. IsRunWritten h c.args.row.band c.args.row.y 0 (spots_of h) (map (strided_at (plain_of h) c.args.bytes.now) (range_with_len 0 (spots_of h))) b (put_at k c.args.bytes.now b)) (sym c.spot_place.ensures.place)
          (piece_written c.args.head.now c.args.row.band 0 c.args.row.y (spots_of c.args.head.now) b c.args.bytes.now is c.requires.band some (omega arith) c.requires.line long c.requires.bytes
          (map (strided_at (plain_of c.args.head.now) c.args.bytes.now) (range_with_len 0 (spots_of c.args.head.now))) (map (strided_at (plain_of c.args.head.now) c.args.bytes.now) (range_with_len 0 (spots_of c.args.head.now)))
          c.put_bytes.ensures.small (sym whole) refl),
    )
    )) c.put_bytes.ensures.told
