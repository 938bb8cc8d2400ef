-- Outputs with the same samples become the same files.
use Rattle.std.proofs.Common.{◌≡◌, ap, refl, ℕ, ℤ, zero, suc, ◌+◌, ◌*◌, ◌/◌, ◌<◌, ◌≤◌, arith, List, ◌∷◌, ◌++◌, map}
use Rattle.std.specs.List.{flat_map, range_with_len}
use Rattle.std.proofs.lemmas.Nat.{div_below, mod_below}
use Rattle.esri_hdr.specs.declared.header_parts.Layout.{Layout}
use Rattle.esri_hdr.specs.declared.header_parts.Layout.TheVariants.{Bil, Bip, Bsq}
use Rattle.esri_hdr.specs.Head.{Head, IsHead}
use Rattle.interleaved_raw.specs.Raw.{sample_bytes}
use Rattle.hgt_tiles.specs.Samples.{row_bytes}
use Rattle.dted_records.specs.Written.{record_bytes}
use Rattle.write_back.specs.declared.forms.Writer.TheVariants.{Raw, Hgt, Dted}
use Rattle.write_back.specs.Files.{sample_band_by, column_by, line_by, raw_bytes, line_at, column_at, bytes_of, header_file, header_in, files_of, IsForm}
use Rattle.write_back.specs.Grids.{front_of, lines_text}
use Rattle.write_back.specs.View.{Output, Blocks, Rows, IsIn}

-- lists that are made by the same values
module _ {X : Type 0} (f g : ℕ → X) where
  pub map_same : (a n : ℕ) → ((i : ℕ) → a ≤ i → i < a + n → f i ≡ g i) → map f (range_with_len a n) ≡ map g (range_with_len a n)
  map_same a zero same = refl
  map_same a (suc n) same = by (same a (omega arith) (omega arith)) (map_same (a + 1) n (λ i low high. same i (omega arith) (omega arith)))
    where
      by : f a ≡ g a → map f (range_with_len (a + 1) n) ≡ map g (range_with_len (a + 1) n) → f a ∷ map f (range_with_len (a + 1) n) ≡ g a ∷ map g (range_with_len (a + 1) n)
      by here more = cc

pub joined_same : (f g : ℕ → List ℕ) (a n : ℕ) → ((i : ℕ) → a ≤ i → i < a + n → f i ≡ g i) → flat_map f (range_with_len a n) ≡ flat_map g (range_with_len a n)
joined_same f g a zero same = refl
joined_same f g a (suc n) same = by (same a (omega arith) (omega arith)) (joined_same f g (a + 1) n (λ i low high. same i (omega arith) (omega arith)))
  where
    by : f a ≡ g a → flat_map f (range_with_len (a + 1) n) ≡ flat_map g (range_with_len (a + 1) n) → f a ++ flat_map f (range_with_len (a + 1) n) ≡ g a ++ flat_map g (range_with_len (a + 1) n)
    by here more = cc

record IsPlace (h : Head) (k x y : ℕ) : Type 0 where
  band : k < h.bands
  column : x < h.size.w
  line : y < h.size.h

-- the place of a sample of a file, by its number
sample_place : (l : Layout) (h : Head) (i : ℕ) → IsHead h → i < h.bands * h.size.h * h.size.w → IsPlace h (sample_band_by l h i) (column_by l h i) (line_by l h i)
sample_place Bil h i is less = let w = is.width.0 in let t = is.height.0 in let b = is.bands.0 in record {
  band = mod_below (i / h.size.w) h.bands b;
  column = mod_below i h.size.w w;
  line = div_below (i / h.size.w) h.bands h.size.h b (div_below i h.size.w (h.size.h * h.bands) w (omega arith));
}
sample_place Bip h i is less = let w = is.width.0 in let t = is.height.0 in let b = is.bands.0 in record {
  band = mod_below i h.bands b;
  column = mod_below (i / h.bands) h.size.w w;
  line = div_below (i / h.bands) h.size.w h.size.h w (div_below i h.bands (h.size.h * h.size.w) b (omega arith));
}
sample_place Bsq h i is less = let w = is.width.0 in let t = is.height.0 in let b = is.bands.0 in record {
  band = div_below (i / h.size.w) h.size.h h.bands t (div_below i h.size.w (h.bands * h.size.h) w (omega arith));
  column = mod_below i h.size.w w;
  line = mod_below (i / h.size.w) h.size.h t;
}

module _ (f g : ℕ → ℕ → ℕ → ℤ) where
  raw_same : (h : Head) → IsHead h → ((k x y : ℕ) → k < h.bands → x < h.size.w → y < h.size.h → f k x y ≡ g k x y) → raw_bytes h f ≡ raw_bytes h g
  raw_same h is same =
      joined_same (λ i. sample_bytes h (f (sample_band_by h.layout h i) (column_by h.layout h i) (line_by h.layout h i))) (λ i. sample_bytes h (g (sample_band_by h.layout h i) (column_by h.layout h i) (line_by h.layout h i))) 0 (h.bands * h.size.h * h.size.w)
      (λ i low high.
      let less : i < h.bands * h.size.h * h.size.w = omega arith in
      let at = sample_place h.layout h i is less in
      ap (sample_bytes h) (same (sample_band_by h.layout h i) (column_by h.layout h i) (line_by h.layout h i) at.band at.column at.line))

  line_same : (w y : ℕ) → ((x : ℕ) → x < w → f 0 x y ≡ g 0 x y) → line_at f w y ≡ line_at g w y
  line_same w y same = map_same (λ x. f 0 x y) (λ x. g 0 x y) 0 w (λ x low high. same x (omega arith))

  column_same : (h x : ℕ) → ((y : ℕ) → y < h → f 0 x y ≡ g 0 x y) → column_at f h x ≡ column_at g h x
  column_same h x same = map_same (λ y. f 0 x y) (λ y. g 0 x y) 0 h (λ y low high. same y (omega arith))

  bytes_same : (o : Output) → IsForm o → ((k x y : ℕ) → IsIn o k x y → f k x y ≡ g k x y) → bytes_of o f ≡ bytes_of o g
  bytes_same (Blocks (Raw h)) form same = raw_same h form.0 (λ k x y b c l. same k x y (record { band = b; column = c; line = l }))
  bytes_same (Blocks (Hgt side)) form same =
      joined_same (λ y. row_bytes (line_at f side y)) (λ y. row_bytes (line_at g side y)) 0 side
      (λ y low high. ap row_bytes (line_same side y (λ x less. same 0 x y (record { band = omega arith; column = less; line = omega arith }))))
  bytes_same (Blocks (Dted c)) form same =
      ap (λ (b : List ℕ). c.front ++ b)
      (joined_same (λ x. record_bytes x (column_at f c.head.points x)) (λ x. record_bytes x (column_at g c.head.points x)) 0 c.head.lines
      (λ x low high. ap (record_bytes x) (column_same c.head.points x (λ y less. same 0 x y (record { band = omega arith; column = omega arith; line = less })))))
  bytes_same (Rows r) form same =
      ap (λ (lines : List (List ℤ)). front_of r ++ lines_text lines)
      (map_same (line_at f r.size.w) (line_at g r.size.w) 0 r.size.h
      (λ y low high. line_same r.size.w y (λ x less. same 0 x y (record { band = omega arith; column = less; line = omega arith }))))

  -- the files of an output, by the samples of its pixels
  pub files_same : (o : Output) (name : List ℕ) → IsForm o → ((k x y : ℕ) → IsIn o k x y → f k x y ≡ g k x y) → files_of o name f ≡ files_of o name g
  files_same o name form same = ap (λ (b : List ℕ). (name, b) ∷ header_file (header_in o) name) (bytes_same o form same)
