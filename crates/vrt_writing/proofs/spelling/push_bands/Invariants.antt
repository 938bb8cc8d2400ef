use Rattle.std.proofs.Common.{◌≡◌, ◌+◌, ◌++◌, take}
use Rattle.vrt_writing.specs.Appended.{bands_text}
use Rattle.vrt_writing.proofs.spelling.push_bands.Given as goal

abbrev pub invariant-loop-band : goal.invariant-loop-band
invariant-loop-band l = record { number : l.number ≡ l.band-index + 1; done : l.out.items ≡ l.fn.out.items ++ bands_text 1 (take l.band-index l.bands) }
