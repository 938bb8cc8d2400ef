-- Each written value is read as the same.
use Rattle.std.proofs.Common.{◌≡◌, ℕ, ◌*◌, ◌^◌, ◌<◌, ◌≤◌, Bool, true, false, cond, List, length, Option, Some, None, Result, Ok, Err, refl, ap, ◌∙◌, sym, arith}
use Rattle.std.specs.Prelude.{nat_lt, nat_le, ◌==◌, ◌&&◌, ◌||◌, ok_or}
use Rattle.std.specs.List.{list_all}
use Rattle.std.specs.Char.{is_ascii_digit}
use Rattle.std.specs.Fmt.{decimal}
use Rattle.std.proofs.lemmas.Fmt.{digits_decimal, digits_value-decimal, decimal_nonempty, length-decimal-le}
use Rattle.std.proofs.lemmas.Bool.Decides.{nat_tests}
use Rattle.geotransform.specs.Decimal.{number, number_of}
use Rattle.geotransform.specs.Types.{is_signed}
use Rattle.geotransform.proofs.Numbers.{own}
use Rattle.geotransform.specs.declared.types.PixelType.{PixelType}
use Rattle.geotransform.specs.declared.types.PixelType.TheVariants.{Byte, Int8, UInt16, Int16, UInt32, Int32, UInt64, Int64}
use Rattle.esri_hdr.specs.declared.header_parts.HdrFault.{HdrFault}
use Rattle.esri_hdr.specs.declared.header_parts.HdrFault.TheVariants.{BadValue, Unsupported, Limit}
use Rattle.esri_hdr.specs.declared.header_parts.Layout.{Layout}
use Rattle.esri_hdr.specs.declared.header_parts.Layout.TheVariants.{Bil, Bip, Bsq}
use Rattle.lists_and_answers.specs.Answers.{◌>>=◌}
use Rattle.esri_hdr.specs.Values.{at_most, count_within, number_in, side_in, bands_in, bits_in, big_endian_in, layout_in, skip_in, signed_in, type_of_bits, row_in, band_row_in, total_row_in, gap_in, BandRowFits, TotalRowFits, GapFits}
use Rattle.esri_hdr.specs.Head.{sample_len, IsSide}
use Rattle.esri_hdr.specs.Text.{order_text, layout_text, sign_text}

tested : (b : Bool) → b ≡ true → (n : ℕ) → cond b (Some n) None ≡ Some n
tested b h n = ap (λ b. cond b (Some n) None) h

number_of_again : (n : ℕ) → n < 10 ^ 18 → number_of (decimal n) ≡ Some n
number_of_again n small =
    let less : n < 2 ^ 64 = omega arith in
    let some : nat_lt 0 (length (decimal n)) ≡ true = grind (arith, nat_tests, decimal_nonempty n less) in
    let short : nat_le (length (decimal n)) 18 ≡ true = grind (arith, nat_tests, length-decimal-le 18 n (omega arith) small less) in
    let digits : list_all is_ascii_digit (decimal n) ≡ true = digits_decimal own n less in
    let all : (nat_lt 0 (length (decimal n)) && (nat_le (length (decimal n)) 18 && list_all is_ascii_digit (decimal n))) ≡ true = ap (λ b. b && (nat_le (length (decimal n)) 18 && list_all is_ascii_digit (decimal n))) some ∙ ap (λ b. b && list_all is_ascii_digit (decimal n)) short ∙ digits in
    ap (λ b. cond b (Some (number (decimal n))) None) all ∙ ap Some (digits_value-decimal own n less)

number_again : (n : ℕ) → n < 10 ^ 18 → number_in (decimal n) ≡ Ok n
number_again n small = ap (λ o. ok_or o BadValue) (number_of_again n small)

at_most_again : (limit n : ℕ) → n ≤ limit → at_most limit n ≡ Ok n
at_most_again limit n h = let no : nat_lt limit n ≡ false = grind (arith, nat_tests) in ap (λ b. cond b (Err Limit) (Ok n)) no

counted_again : (limit n : ℕ) → 0 < n → n ≤ limit → count_within limit n ≡ Ok n
counted_again limit n some h = let no : (n == 0) ≡ false = grind (arith, nat_tests) in ap (λ b. cond b (Err BadValue) (at_most limit n)) no ∙ at_most_again limit n h

pub side_again : (n : ℕ) → IsSide n → side_in (decimal n) ≡ Ok n
unfolding side_in
side_again n h = ap (λ (x : Result ℕ HdrFault). x >>= count_within 4194304) (number_again n (omega arith)) ∙ counted_again 4194304 n h.0 h.1

pub bands_again : (n : ℕ) → (0 < n) × (n ≤ 256) → bands_in (Some (decimal n)) ≡ Ok n
unfolding bands_in
bands_again n h = ap (λ (x : Result ℕ HdrFault). x >>= count_within 256) (number_again n (omega arith)) ∙ counted_again 256 n h.0 h.1

abbrev is_bits : ℕ → Bool
is_bits n = (n == 8) || ((n == 16) || ((n == 32) || (n == 64)))

bits_read : (n : ℕ) → n < 10 ^ 18 → is_bits n ≡ true → bits_in (Some (decimal n)) ≡ Ok n
unfolding bits_in
bits_read n small is = ap (λ (x : Result ℕ HdrFault). x >>= λ m. cond (is_bits m) (Ok m) (Err Unsupported)) (number_again n small) ∙ ap (λ b. cond b (Ok n) (Err Unsupported)) is

pub bits_again : (kind : PixelType) → bits_in (Some (decimal (8 * sample_len kind))) ≡ Ok (8 * sample_len kind)
bits_again Byte = bits_read 8 (omega arith) refl
bits_again Int8 = bits_read 8 (omega arith) refl
bits_again UInt16 = bits_read 16 (omega arith) refl
bits_again Int16 = bits_read 16 (omega arith) refl
bits_again UInt32 = bits_read 32 (omega arith) refl
bits_again Int32 = bits_read 32 (omega arith) refl
bits_again UInt64 = bits_read 64 (omega arith) refl
bits_again Int64 = bits_read 64 (omega arith) refl

pub big_again : (big : Bool) → big_endian_in (Some (order_text big)) ≡ Ok big
unfolding big_endian_in
big_again true = refl
big_again false = refl

pub layout_again : (layout : Layout) → layout_in (Some (layout_text layout)) ≡ Ok layout
unfolding layout_in
layout_again Bil = refl
layout_again Bip = refl
layout_again Bsq = refl

pub skip_again : (n : ℕ) → n ≤ 2 ^ 40 → skip_in (Some (decimal n)) ≡ Ok n
unfolding skip_in
skip_again n h = ap (λ (x : Result ℕ HdrFault). x >>= at_most (2 ^ 40)) (number_again n (omega arith)) ∙ at_most_again (2 ^ 40) n h

pub signed_again : (kind : PixelType) (nodata : Option (List ℕ)) → signed_in (8 * sample_len kind) (Some (sign_text kind)) nodata ≡ Ok (is_signed kind)
unfolding signed_in
signed_again Byte nodata = refl
signed_again Int8 nodata = refl
signed_again UInt16 nodata = refl
signed_again Int16 nodata = refl
signed_again UInt32 nodata = refl
signed_again Int32 nodata = refl
signed_again UInt64 nodata = refl
signed_again Int64 nodata = refl

pub kind_again : (kind : PixelType) → type_of_bits (8 * sample_len kind) (is_signed kind) ≡ kind
unfolding type_of_bits
kind_again Byte = refl
kind_again Int8 = refl
kind_again UInt16 = refl
kind_again Int16 = refl
kind_again UInt32 = refl
kind_again Int32 = refl
kind_again UInt64 = refl
kind_again Int64 = refl

row_again : (least n : ℕ) → least ≤ n → n ≤ 2 ^ 33 → row_in least (Some (decimal n)) ≡ Ok n
unfolding row_in
row_again least n h top =
    let no : nat_lt n least ≡ false = grind (arith, nat_tests) in
    ap (λ (x : Result ℕ HdrFault). x >>= λ n. cond (nat_lt n least) (Err BadValue) (at_most (2 ^ 33) n)) (number_again n (omega arith)) ∙ ap (λ b. cond b (Err BadValue) (at_most (2 ^ 33) n)) no ∙ at_most_again (2 ^ 33) n top

pub band_row_again : (layout : Layout) (row n : ℕ) → BandRowFits layout row n → band_row_in layout row (Some (decimal n)) ≡ Ok n
unfolding band_row_in
band_row_again Bil row n h = row_again row n h.0 h.1
band_row_again Bip row n h = ap Ok (sym h)
band_row_again Bsq row n h = ap Ok (sym h)

pub total_row_again : (layout : Layout) (bands row b n : ℕ) → TotalRowFits layout bands row b n → total_row_in layout bands row b (Some (decimal n)) ≡ Ok n
unfolding total_row_in
total_row_again Bil bands row b n h = row_again (bands * b) n h.0 h.1
total_row_again Bip bands row b n h = row_again (row * bands) n h.0 h.1
total_row_again Bsq bands row b n h = ap Ok (sym h)

pub gap_again : (layout : Layout) (n : ℕ) → GapFits layout n → gap_in layout (Some (decimal n)) ≡ Ok n
unfolding gap_in
gap_again Bil n h = ap Ok (sym h)
gap_again Bip n h = ap Ok (sym h)
gap_again Bsq n h = skip_again n h
