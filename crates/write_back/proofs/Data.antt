-- The bytes of a file in which nothing but samples stands.
use Rattle.std.proofs.Common.{◌≡◌, ℕ, zero, suc, ℤ, ◌+◌, ◌-◌, ◌*◌, ◌/◌, ◌%◌, ◌<◌, List, ◌++◌, length, take, drop, sym, ap, ◌∙◌, arith}
use Rattle.std.specs.List.{flat_map, range_with_len}
use Rattle.std.proofs.lemmas.List.{take-append-drop, drop-drop, drop_all}
use Rattle.std.proofs.lemmas.Nat.{div_below, mod_below, div-add-mod'}
use Rattle.std.proofs.Math.Nat.{add-mul}
use Rattle.esri_hdr.specs.declared.header_parts.Layout.{Layout}
use Rattle.esri_hdr.specs.declared.header_parts.Layout.TheVariants.{Bil, Bip, Bsq}
use Rattle.esri_hdr.specs.Head.{Head, IsHead, sample_len}
use Rattle.interleaved_raw.specs.Raw.{position_by, position_of, sample_bytes, IsPlace}
use Rattle.write_back.specs.declared.forms.Writer.TheVariants.{Raw}
use Rattle.write_back.specs.Files.{IsTight, IsTightBy, sample_band_by, column_by, line_by, raw_bytes}
use Rattle.write_back.specs.Drafts.{HasSamples}
use Rattle.write_back.proofs.Spelled.{spelled}
use Rattle.write_back.proofs.Woven.{seen_sample}
use Rattle.interleaved_raw.proofs.Order.{ends_within}

chunks_from : (s k n : ℕ) (b : List ℕ) (f : ℕ → List ℕ) → length b ≡ (k + n) * s → ((i : ℕ) → i < k + n → take s (drop (i * s) b) ≡ f i) → drop (k * s) b ≡ flat_map f (range_with_len k n)
chunks_from s k zero b f len each = drop_all (k * s) b (let e : (k + 0) * s ≡ k * s = ap (λ m. m * s) (omega arith) in omega arith)
chunks_from s k (suc n) b f len each =
    let e : (k + 1) * s ≡ k * s + s = omega (arith, add-mul k 1 s) in
    let total : k + suc n ≡ k + 1 + n = omega arith in
    sym (take-append-drop s (drop (k * s) b))
    ∙ ap (λ l. l ++ drop s (drop (k * s) b)) (each k (omega arith))
    ∙ ap (λ l. f k ++ l) (drop-drop s (k * s) b ∙ ap (λ m. drop m b) (sym e) ∙ chunks_from s (k + 1) n b f (len ∙ ap (λ m. m * s) total) (λ i less. each i (omega arith)))

-- a list of pieces of s
pub chunks : (s n : ℕ) (b : List ℕ) (f : ℕ → List ℕ) → length b ≡ n * s → ((i : ℕ) → i < n → take s (drop (i * s) b) ≡ f i) → b ≡ flat_map f (range_with_len 0 n)
chunks s n b f len each =
    let none : 0 * s ≡ 0 = omega arith in
    let whole : 0 + n ≡ n = omega arith in
    ap (λ m. drop m b) (sym none) ∙ chunks_from s 0 n b f (len ∙ ap (λ m. m * s) (sym whole)) (λ i less. each i (omega arith))

-- the place of the sample of a number
place_by : (l : Layout) (h : Head) (i : ℕ) → h.skip ≡ 0 → IsTightBy l h → position_by l h (sample_band_by l h i) (column_by l h i) (line_by l h i) ≡ i * sample_len h.kind
place_by Bil h i skip rows =
    let a = div-add-mod' i h.size.w in
    let b = div-add-mod' (i / h.size.w) h.bands in
    put (h.skip) (h.total_row) (h.band_row) (i / h.size.w / h.bands) (i / h.size.w % h.bands) (i % h.size.w) (h.bands) (h.size.w) (sample_len h.kind) skip rows.1 rows.0
    ∙ ap (λ n. (n * h.size.w + i % h.size.w) * sample_len h.kind) b ∙ ap (λ n. n * sample_len h.kind) a
  where
    put : (skip total row y k x bands w s : ℕ) → skip ≡ 0 → total ≡ bands * (w * s) → row ≡ w * s → skip + y * total + k * row + x * s ≡ ((y * bands + k) * w + x) * s
    put skip total row y k x bands w s p q r = ap (λ n. n + y * total + k * row + x * s) p ∙ ap (λ n. 0 + y * n + k * row + x * s) q ∙ ap (λ n. 0 + y * (bands * (w * s)) + k * n + x * s) r ∙ omega arith
place_by Bip h i skip rows =
    let a = div-add-mod' i h.bands in
    let b = div-add-mod' (i / h.bands) h.size.w in
    put h.skip h.total_row (i / h.bands / h.size.w) (i / h.bands % h.size.w) (i % h.bands) h.bands h.size.w (sample_len h.kind) skip rows
    ∙ ap (λ n. (n * h.bands + i % h.bands) * sample_len h.kind) b ∙ ap (λ n. n * sample_len h.kind) a
  where
    put : (skip total y x k bands w s : ℕ) → skip ≡ 0 → total ≡ w * bands * s → skip + y * total + (x * bands + k) * s ≡ ((y * w + x) * bands + k) * s
    put skip total y x k bands w s p q = ap (λ n. n + y * total + (x * bands + k) * s) p ∙ ap (λ n. 0 + y * n + (x * bands + k) * s) q ∙ omega arith
place_by Bsq h i skip rows =
    let a = div-add-mod' i h.size.w in
    let b = div-add-mod' (i / h.size.w) h.size.h in
    put h.skip h.gap (i / h.size.w / h.size.h) (i / h.size.w % h.size.h) (i % h.size.w) h.size.h h.size.w (sample_len h.kind) skip rows
    ∙ ap (λ n. (n * h.size.w + i % h.size.w) * sample_len h.kind) b ∙ ap (λ n. n * sample_len h.kind) a
  where
    put : (skip gap k y x h w s : ℕ) → skip ≡ 0 → gap ≡ 0 → skip + k * (h * w * s + gap) + (y * w + x) * s ≡ ((k * h + y) * w + x) * s
    put skip gap k y x h w s p q = ap (λ n. n + k * (h * w * s + gap) + (y * w + x) * s) p ∙ ap (λ n. 0 + k * (h * w * s + n) + (y * w + x) * s) q ∙ omega arith

-- it is a place of the raster
is_place : (l : Layout) (h : Head) (i : ℕ) → IsHead h → i < h.bands * h.size.h * h.size.w → IsPlace h (sample_band_by l h i) (column_by l h i) (line_by l h i)
is_place Bil h i is less = let w = is.width.0 in let t = is.height.0 in let b = is.bands.0 in record {
  band = mod_below (i / h.size.w) h.bands b;
  column = mod_below i h.size.w w;
  line = div_below (i / h.size.w) h.bands h.size.h b (div_below i h.size.w (h.size.h * h.bands) w (omega arith));
}
is_place Bip h i is less = let w = is.width.0 in let t = is.height.0 in let b = is.bands.0 in record {
  band = mod_below i h.bands b;
  column = mod_below (i / h.bands) h.size.w w;
  line = div_below (i / h.bands) h.size.w h.size.h w (div_below i h.bands (h.size.h * h.size.w) b (omega arith));
}
is_place Bsq h i is less = let w = is.width.0 in let t = is.height.0 in let b = is.bands.0 in record {
  band = div_below (i / h.size.w) h.size.h h.bands t (div_below i h.size.w (h.bands * h.size.h) w (omega arith));
  column = mod_below i h.size.w w;
  line = mod_below (i / h.size.w) h.size.h t;
}

pred : (n : ℕ) → 0 < n → (m : ℕ) × (n ≡ m + 1)
pred n p = (n - 1, omega arith)

-- the length of such a file
pub len_by : (l : Layout) (h : Head) → IsHead h → h.skip ≡ 0 → IsTightBy l h → position_by l h (h.bands - 1) (h.size.w - 1) (h.size.h - 1) + sample_len h.kind ≡ h.bands * h.size.h * h.size.w * sample_len h.kind
len_by Bil h is skip rows = put h.skip h.total_row h.band_row h.bands h.size.h h.size.w (sample_len h.kind) skip rows.1 rows.0 is.bands.0 is.height.0 is.width.0
  where
    put : (skip total row bands h w s : ℕ) → skip ≡ 0 → total ≡ bands * (w * s) → row ≡ w * s → 0 < bands → 0 < h → 0 < w → skip + (h - 1) * total + (bands - 1) * row + (w - 1) * s + s ≡ bands * h * w * s
    put skip total row bands h w s p q r b c d =
        let bands' = pred bands b in let h' = pred h c in let w' = pred w d in
        ap (λ n. n + (h - 1) * total + (bands - 1) * row + (w - 1) * s + s) p ∙ ap (λ n. 0 + (h - 1) * n + (bands - 1) * row + (w - 1) * s + s) q ∙ ap (λ n. 0 + (h - 1) * (bands * (w * s)) + (bands - 1) * n + (w - 1) * s + s) r
        ∙ ap (λ n. 0 + (n - 1) * (bands * (w * s)) + (bands - 1) * (w * s) + (w - 1) * s + s) h'.1 ∙ ap (λ n. 0 + (h'.0 + 1 - 1) * (n * (w * s)) + (n - 1) * (w * s) + (w - 1) * s + s) bands'.1
        ∙ ap (λ n. 0 + (h'.0 + 1 - 1) * ((bands'.0 + 1) * (n * s)) + (bands'.0 + 1 - 1) * (n * s) + (n - 1) * s + s) w'.1
        ∙ flat bands'.0 h'.0 w'.0 s
        ∙ ap (λ n. n * (h'.0 + 1) * (w'.0 + 1) * s) (sym bands'.1) ∙ ap (λ n. bands * n * (w'.0 + 1) * s) (sym h'.1) ∙ ap (λ n. bands * h * n * s) (sym w'.1)
      where
        less : (n : ℕ) → n + 1 - 1 ≡ n
        less n = omega arith

        flat : (b h w s : ℕ) → 0 + (h + 1 - 1) * ((b + 1) * ((w + 1) * s)) + (b + 1 - 1) * ((w + 1) * s) + (w + 1 - 1) * s + s ≡ (b + 1) * (h + 1) * (w + 1) * s
        flat b h w s = ap (λ n. 0 + n * ((b + 1) * ((w + 1) * s)) + (b + 1 - 1) * ((w + 1) * s) + (w + 1 - 1) * s + s) (less h) ∙ ap (λ n. 0 + h * ((b + 1) * ((w + 1) * s)) + n * ((w + 1) * s) + (w + 1 - 1) * s + s) (less b)
            ∙ ap (λ n. 0 + h * ((b + 1) * ((w + 1) * s)) + b * ((w + 1) * s) + n * s + s) (less w) ∙ omega arith
len_by Bip h is skip rows = put h.skip h.total_row h.bands h.size.h h.size.w (sample_len h.kind) skip rows is.bands.0 is.height.0 is.width.0
  where
    put : (skip total bands h w s : ℕ) → skip ≡ 0 → total ≡ w * bands * s → 0 < bands → 0 < h → 0 < w → skip + (h - 1) * total + ((w - 1) * bands + (bands - 1)) * s + s ≡ bands * h * w * s
    put skip total bands h w s p q b c d =
        let bands' = pred bands b in let h' = pred h c in let w' = pred w d in
        ap (λ n. n + (h - 1) * total + ((w - 1) * bands + (bands - 1)) * s + s) p ∙ ap (λ n. 0 + (h - 1) * n + ((w - 1) * bands + (bands - 1)) * s + s) q
        ∙ ap (λ n. 0 + (n - 1) * (w * bands * s) + ((w - 1) * bands + (bands - 1)) * s + s) h'.1
        ∙ ap (λ n. 0 + (h'.0 + 1 - 1) * (n * bands * s) + ((n - 1) * bands + (bands - 1)) * s + s) w'.1
        ∙ ap (λ n. 0 + (h'.0 + 1 - 1) * ((w'.0 + 1) * n * s) + ((w'.0 + 1 - 1) * n + (n - 1)) * s + s) bands'.1
        ∙ flat bands'.0 h'.0 w'.0 s
        ∙ ap (λ n. n * (h'.0 + 1) * (w'.0 + 1) * s) (sym bands'.1) ∙ ap (λ n. bands * n * (w'.0 + 1) * s) (sym h'.1) ∙ ap (λ n. bands * h * n * s) (sym w'.1)
      where
        less : (n : ℕ) → n + 1 - 1 ≡ n
        less n = omega arith

        flat : (b h w s : ℕ) → 0 + (h + 1 - 1) * ((w + 1) * (b + 1) * s) + ((w + 1 - 1) * (b + 1) + (b + 1 - 1)) * s + s ≡ (b + 1) * (h + 1) * (w + 1) * s
        flat b h w s = ap (λ n. 0 + n * ((w + 1) * (b + 1) * s) + ((w + 1 - 1) * (b + 1) + (b + 1 - 1)) * s + s) (less h) ∙ ap (λ n. 0 + h * ((w + 1) * (b + 1) * s) + (n * (b + 1) + (b + 1 - 1)) * s + s) (less w)
            ∙ ap (λ n. 0 + h * ((w + 1) * (b + 1) * s) + (w * (b + 1) + n) * s + s) (less b) ∙ omega arith
len_by Bsq h is skip rows = put h.skip h.gap h.bands h.size.h h.size.w (sample_len h.kind) skip rows is.bands.0 is.height.0 is.width.0
  where
    put : (skip gap bands h w s : ℕ) → skip ≡ 0 → gap ≡ 0 → 0 < bands → 0 < h → 0 < w → skip + (bands - 1) * (h * w * s + gap) + ((h - 1) * w + (w - 1)) * s + s ≡ bands * h * w * s
    put skip gap bands h w s p q b c d =
        let bands' = pred bands b in let h' = pred h c in let w' = pred w d in
        ap (λ n. n + (bands - 1) * (h * w * s + gap) + ((h - 1) * w + (w - 1)) * s + s) p ∙ ap (λ n. 0 + (bands - 1) * (h * w * s + n) + ((h - 1) * w + (w - 1)) * s + s) q
        ∙ ap (λ n. 0 + (bands - 1) * (n * w * s + 0) + ((n - 1) * w + (w - 1)) * s + s) h'.1
        ∙ ap (λ n. 0 + (bands - 1) * ((h'.0 + 1) * n * s + 0) + ((h'.0 + 1 - 1) * n + (n - 1)) * s + s) w'.1
        ∙ ap (λ n. 0 + (n - 1) * ((h'.0 + 1) * (w'.0 + 1) * s + 0) + ((h'.0 + 1 - 1) * (w'.0 + 1) + (w'.0 + 1 - 1)) * s + s) bands'.1
        ∙ flat bands'.0 h'.0 w'.0 s
        ∙ ap (λ n. n * (h'.0 + 1) * (w'.0 + 1) * s) (sym bands'.1) ∙ ap (λ n. bands * n * (w'.0 + 1) * s) (sym h'.1) ∙ ap (λ n. bands * h * n * s) (sym w'.1)
      where
        less : (n : ℕ) → n + 1 - 1 ≡ n
        less n = omega arith

        flat : (b h w s : ℕ) → 0 + (b + 1 - 1) * ((h + 1) * (w + 1) * s + 0) + ((h + 1 - 1) * (w + 1) + (w + 1 - 1)) * s + s ≡ (b + 1) * (h + 1) * (w + 1) * s
        flat b h w s = ap (λ n. 0 + n * ((h + 1) * (w + 1) * s + 0) + ((h + 1 - 1) * (w + 1) + (w + 1 - 1)) * s + s) (less b) ∙ ap (λ n. 0 + b * ((h + 1) * (w + 1) * s + 0) + (n * (w + 1) + (w + 1 - 1)) * s + s) (less h)
            ∙ ap (λ n. 0 + b * ((h + 1) * (w + 1) * s + 0) + (h * (w + 1) + n) * s + s) (less w) ∙ omega arith

-- the bytes of the samples, in the order of the file
pub data_is : (h : Head) (samples : ℕ → ℕ → ℕ → ℤ) (met : ℕ → ℕ → Type 0) (b : List ℕ) → IsHead h → IsTight h → HasSamples (Raw h) samples met b → b ≡ raw_bytes h samples
data_is h samples met b is tight has =
    let n : ℕ = h.bands * h.size.h * h.size.w in
    chunks (sample_len h.kind) (h.bands * h.size.h * h.size.w) b (λ i. sample_bytes h (samples (sample_band_by h.layout h i) (column_by h.layout h i) (line_by h.layout h i)))
    (has.len ∙ len_by h.layout h is tight.skip tight.rows)
    (λ i less. (
    let place = is_place h.layout h i is less in
    let at = place_by h.layout h i tight.skip tight.rows in
    let last = ends_within h (sample_band_by h.layout h i) (column_by h.layout h i) (line_by h.layout h i) place in
    let len = has.len in
    ap (λ m. take (sample_len h.kind) (drop m b)) (sym at)
    ∙ spelled h b (position_of h (sample_band_by h.layout h i) (column_by h.layout h i) (line_by h.layout h i)) has.formed (omega arith)
    ∙ ap (sample_bytes h) (sym (seen_sample h b (sample_band_by h.layout h i) (column_by h.layout h i) (line_by h.layout h i)) ∙ has.each (sample_band_by h.layout h i) (column_by h.layout h i) (line_by h.layout h i) (record { band = place.band; column = place.column; line = place.line }))
    ))
