-- A hash of texts, by which different texts are told apart.
use Rattle.std.specs.Prelude.{ℕ, List}
use Rattle.std.specs.Int.{w64, to_le_bytes}
use Rattle.std.specs.Hash.DefaultHasher as sip

-- SipHash-1-3 of the bytes of a number and those of a text behind them
unfoldable pub text_hash : ℕ → List ℕ → ℕ
text_hash key text = sip.finish (sip.write (sip.write sip.initial (to_le_bytes w64 key)) text)
