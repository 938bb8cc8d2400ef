-- The head that is written is read again.
use Rattle.std.proofs.Common.{◌≡◌, ℕ, ℤ, pos, ◌*◌, ◌^◌, ◌<◌, ◌≤◌, Bool, true, false, cond, ◌++◌, length, Option, Some, None, Ok, Err, refl, ap, ◌∙◌, sym, subst, arith}
use Rattle.std.proofs.Math.Nat.{mul-div_cancel_left}
use Rattle.std.proofs.lemmas.Nat.{mul-le}
use Rattle.std.specs.Prelude.{codes, nat_lt, ◌&&◌, int_lt, IfSome, ◌+ℤ◌, ok_or}
use Rattle.std.specs.Option.{option_map}
use Rattle.std.specs.Fmt.{decimal, signed_decimal}
use mathlib.Core.Path.{fun_ext}
use Rattle.geotransform.specs.Decimal.{IsRead}
use Rattle.geotransform.specs.Print.{short_text}
use Rattle.geotransform.specs.Types.{is_in, is_signed, when_in}
use Rattle.geotransform.proofs.Ranges.{bytes_bounds, is_near}
use Rattle.geotransform.proofs.RoundTrip.{short_again, whole_again, decimal_word, signed_word, short_word}
use Rattle.std.proofs.lemmas.Bool.Decides.{nat_tests}
use Rattle.geotransform.specs.declared.types.PixelType.{PixelType}
use Rattle.esri_hdr.specs.declared.header_parts.HdrFault.TheVariants.{BadValue, Limit}
use Rattle.esri_hdr.specs.declared.header_parts.RawGeo.{RawGeo}
use Rattle.esri_hdr.specs.declared.header_parts.Shape.{Shape}
use Rattle.esri_hdr.specs.declared.header_parts.Rows.{Rows}
use Rattle.esri_hdr.specs.Keys as keys
use Rattle.esri_hdr.specs.Lines.{Values, last_in_text}
use Rattle.lists_and_answers.specs.Answers.{◌>>=◌}
use Rattle.esri_hdr.specs.Head.{place_in, step_in, is_half_near, geo_in, nodata_in, shape_of, row_len, row_keys_of, geo_of, Head, head_of, esri_head, sample_len, GeoFits, IsHead, RowsFit}
use Rattle.esri_hdr.specs.Text.{order_text, layout_text, sign_text, nodata_fields, geo_fields, fields_of, fields_from, hdr_text}
use Rattle.esri_hdr.proofs.Again.{IsKey, IsField, last_field, last_text, text_len, key_const, field_const, field_word}
use Rattle.std.specs.List.{AllByRecursion}
use Rattle.esri_hdr.specs.declared.header_parts.Layout.{Layout}
use Rattle.esri_hdr.specs.declared.header_parts.Layout.TheVariants.{Bil, Bip, Bsq}
use Rattle.esri_hdr.proofs.ValuesAgain.{side_again, bands_again, bits_again, big_again, layout_again, skip_again, signed_again, kind_again, band_row_again, total_row_again, gap_again}

place_again : (v : ℤ) → IsRead v → place_in (Some (short_text v)) ≡ Ok (Some v)
unfolding place_in
place_again v h = ap (λ (x : Option ℤ). ok_or x BadValue >>= λ v. Ok (Some v)) (short_again v h.multiple h.near)

step_again : (v : ℤ) → IsRead v → int_lt (pos 0) v ≡ true → step_in (Some (short_text v)) ≡ Ok v
unfolding step_in
step_again v h some = ap (λ (x : Option ℤ). ok_or x BadValue >>= λ v. cond (int_lt (pos 0) v) (Ok v) (Err BadValue)) (short_again v h.multiple h.near) ∙ ap (λ b. cond b (Ok v) (Err BadValue)) some

geo_again : (g : RawGeo) → GeoFits g → geo_in (Some g.ulx) (Some g.uly) g.xdim g.ydim ≡ Ok (Some g)
unfolding geo_in
geo_again g h = ap (λ b. cond (b && is_half_near (g.uly +ℤ g.uly +ℤ g.ydim)) (Ok (Some g)) (Err BadValue)) h.left ∙ ap (λ b. cond b (Ok (Some g)) (Err BadValue)) h.top

-- the values that the lines of a head give
record Written (value : Values) (h : Head) (none : Option ℤ) (geo : Option RawGeo) : Type 0 where
  nrows : value keys.nrows ≡ Some (decimal h.size.h)
  ncols : value keys.ncols ≡ Some (decimal h.size.w)
  nbands : value keys.nbands ≡ Some (decimal h.bands)
  nbits : value keys.nbits ≡ Some (decimal (8 * sample_len h.kind))
  byteorder : value keys.byteorder ≡ Some (order_text h.big)
  layout : value keys.layout ≡ Some (layout_text h.layout)
  skipbytes : value keys.skipbytes ≡ Some (decimal h.skip)
  pixeltype : value keys.pixeltype ≡ Some (sign_text h.kind)
  bandrowbytes : value keys.bandrowbytes ≡ Some (decimal h.band_row)
  totalrowbytes : value keys.totalrowbytes ≡ Some (decimal h.total_row)
  bandgapbytes : value keys.bandgapbytes ≡ Some (decimal h.gap)
  ulxmap : value keys.ulxmap ≡ option_map (λ g. short_text g.ulx) geo
  ulymap : value keys.ulymap ≡ option_map (λ g. short_text g.uly) geo
  xdim : value keys.xdim ≡ option_map (λ g. short_text g.xdim) geo
  ydim : value keys.ydim ≡ option_map (λ g. short_text g.ydim) geo
  nodata : value keys.nodata ≡ option_map signed_decimal none

written : (h : Head) (none : Option ℤ) (geo : Option RawGeo) → Written (λ key. last_field key (fields_from h none geo)) h none geo
written h None None = record { nrows = refl; ncols = refl; nbands = refl; nbits = refl; byteorder = refl; layout = refl; skipbytes = refl; pixeltype = refl; bandrowbytes = refl; totalrowbytes = refl; bandgapbytes = refl; ulxmap = refl; ulymap = refl; xdim = refl; ydim = refl; nodata = refl }
written h None (Some g) = record { nrows = refl; ncols = refl; nbands = refl; nbits = refl; byteorder = refl; layout = refl; skipbytes = refl; pixeltype = refl; bandrowbytes = refl; totalrowbytes = refl; bandgapbytes = refl; ulxmap = refl; ulymap = refl; xdim = refl; ydim = refl; nodata = refl }
written h (Some n) None = record { nrows = refl; ncols = refl; nbands = refl; nbits = refl; byteorder = refl; layout = refl; skipbytes = refl; pixeltype = refl; bandrowbytes = refl; totalrowbytes = refl; bandgapbytes = refl; ulxmap = refl; ulymap = refl; xdim = refl; ydim = refl; nodata = refl }
written h (Some n) (Some g) = record { nrows = refl; ncols = refl; nbands = refl; nbits = refl; byteorder = refl; layout = refl; skipbytes = refl; pixeltype = refl; bandrowbytes = refl; totalrowbytes = refl; bandgapbytes = refl; ulxmap = refl; ulymap = refl; xdim = refl; ydim = refl; nodata = refl }

abbrev shape_from : Head → Shape
shape_from h = record { w = h.size.w; h = h.size.h; bands = h.bands; bits = 8 * sample_len h.kind; big = h.big; layout = h.layout; skip = h.skip; signed = is_signed h.kind }

abbrev rows_from : Head → Rows
rows_from h = record { band_row = h.band_row; total_row = h.total_row; gap = h.gap }

shape_again : (h : Head) (none : Option ℤ) (geo : Option RawGeo) (value : Values) → Written value h none geo → IsHead h → shape_of value ≡ Ok (shape_from h)
unfolding shape_of
shape_again h none geo value w is = rw (w.nrows, w.ncols, side_again h.size.h is.height, side_again h.size.w is.width, w.nbands, bands_again h.bands is.bands, w.nbits, bits_again h.kind, w.byteorder, big_again h.big, w.layout, layout_again h.layout, w.skipbytes, skip_again h.skip is.skip, w.pixeltype, signed_again h.kind (value keys.nodata)) refl

row_is : (h : Head) → h.size.w * sample_len h.kind ≡ row_len (shape_from h)
row_is h = ap (λ k. h.size.w * k) (sym (mul-div_cancel_left (sample_len h.kind) (omega arith)))

rows_again : (h : Head) (none : Option ℤ) (geo : Option RawGeo) (value : Values) → Written value h none geo → IsHead h → row_keys_of (shape_from h) value ≡ Ok (rows_from h)
unfolding row_keys_of
rows_again h none geo value w is =
    let fits = subst (λ (k : ℕ). RowsFit h.layout h.bands k (rows_from h)) (row_is h) is.rows in
    rw (w.bandrowbytes, band_row_again h.layout (row_len (shape_from h)) h.band_row fits.0, w.totalrowbytes, total_row_again h.layout h.bands (row_len (shape_from h)) h.band_row h.total_row fits.1, w.bandgapbytes, gap_again h.layout h.gap fits.2) refl

geo_of_none : (h : Head) (nd : Option ℤ) (value : Values) → Written value h nd None → geo_of value ≡ Ok None
unfolding geo_of place_in step_in geo_in
geo_of_none h nd value w = rw (w.ulxmap, w.ulymap, w.xdim, w.ydim) refl

geo_of_some : (h : Head) (nd : Option ℤ) (g : RawGeo) (value : Values) → Written value h nd (Some g) → GeoFits g → geo_of value ≡ Ok (Some g)
unfolding geo_of
geo_of_some h nd g value w is = rw (w.ulxmap, place_again g.ulx is.ulx, w.ulymap, place_again g.uly is.uly, w.xdim, step_again g.xdim is.xdim is.wide, w.ydim, step_again g.ydim is.ydim is.high) (geo_again g is)

geo_of_again : (h : Head) (nd : Option ℤ) (geo : Option RawGeo) (value : Values) → Written value h nd geo → IfSome geo GeoFits → geo_of value ≡ Ok geo
geo_of_again h nd None value w is = geo_of_none h nd value w
geo_of_again h nd (Some g) value w is = geo_of_some h nd g value w is

nodata_again : (kind : PixelType) (h : Head) (nd : Option ℤ) (geo : Option RawGeo) (value : Values) → Written value h nd geo → IfSome nd (λ n. is_in kind n ≡ true) → nodata_in kind (value keys.nodata) ≡ nd
unfolding nodata_in
nodata_again kind h None geo value w is = rw w.nodata refl
nodata_again kind h (Some n) geo value w is = rw w.nodata (ap (when_in kind) (whole_again n (is_near kind n is)) ∙ ap (λ b. cond b (Some n) None) is)

head_again : (h : Head) (value : Values) → Written value h h.nodata h.geo → IsHead h → head_of value ≡ Ok h
unfolding head_of
head_again h value w is = rw (shape_again h h.nodata h.geo value w is, rows_again h h.nodata h.geo value w is, geo_of_again h h.nodata h.geo value w is.geo, kind_again h.kind, nodata_again h.kind h h.nodata h.geo value w is.nodata) refl

order_field : (big : Bool) → IsField (keys.byteorder, order_text big)
order_field true = field_const 4 (order_text true) (key_const 4 refl refl (omega arith) (omega arith)) refl (omega arith) (omega arith)
order_field false = field_const 4 (order_text false) (key_const 4 refl refl (omega arith) (omega arith)) refl (omega arith) (omega arith)

layout_field : (l : Layout) → IsField (keys.layout, layout_text l)
layout_field Bil = field_const 5 (layout_text Bil) (key_const 5 refl refl (omega arith) (omega arith)) refl (omega arith) (omega arith)
layout_field Bip = field_const 5 (layout_text Bip) (key_const 5 refl refl (omega arith) (omega arith)) refl (omega arith) (omega arith)
layout_field Bsq = field_const 5 (layout_text Bsq) (key_const 5 refl refl (omega arith) (omega arith)) refl (omega arith) (omega arith)

sign_by : (signed : Bool) → IsField (keys.pixeltype, cond signed (codes "SIGNEDINT") (codes "UNSIGNEDINT"))
sign_by true = field_const 7 (codes "SIGNEDINT") (key_const 7 refl refl (omega arith) (omega arith)) refl (omega arith) (omega arith)
sign_by false = field_const 7 (codes "UNSIGNEDINT") (key_const 7 refl refl (omega arith) (omega arith)) refl (omega arith) (omega arith)

sign_field : (kind : PixelType) → IsField (keys.pixeltype, sign_text kind)
sign_field kind = sign_by (is_signed kind)

bits_small : (kind : PixelType) → 8 * sample_len kind < 10 ^ 18
bits_small kind = omega (arith, bytes_bounds kind)

geo_all : (geo : Option RawGeo) → IfSome geo GeoFits → AllByRecursion IsField (geo_fields geo)
geo_all None h = tt
geo_all (Some g) h = (
  field_word 11 (short_text g.ulx) (key_const 11 refl refl (omega arith) (omega arith)) (short_word g.ulx h.ulx.multiple h.ulx.near),
  (
    field_word 12 (short_text g.uly) (key_const 12 refl refl (omega arith) (omega arith)) (short_word g.uly h.uly.multiple h.uly.near),
    (
      field_word 13 (short_text g.xdim) (key_const 13 refl refl (omega arith) (omega arith)) (short_word g.xdim h.xdim.multiple h.xdim.near),
      (field_word 14 (short_text g.ydim) (key_const 14 refl refl (omega arith) (omega arith)) (short_word g.ydim h.ydim.multiple h.ydim.near), tt),
    ),
  ),
)

tail_all : (kind : PixelType) (nd : Option ℤ) (geo : Option RawGeo) → IfSome nd (λ n. is_in kind n ≡ true) → IfSome geo GeoFits → AllByRecursion IsField (nodata_fields nd ++ geo_fields geo)
tail_all kind None geo n g = geo_all geo g
tail_all kind (Some m) geo n g = (field_word 15 (signed_decimal m) (key_const 15 refl refl (omega arith) (omega arith)) (signed_word m (is_near kind m n)), geo_all geo g)

number_field : (k n : ℕ) → IsKey k → n < 10 ^ 18 → IsField (k, decimal n)
number_field k n key small = field_word k (decimal n) key (decimal_word n (omega (arith, small)))

rows_bound : (layout : Layout) (bands row : ℕ) (r : Rows) → RowsFit layout bands row r → row ≤ 2 ^ 25 → (r.band_row ≤ 2 ^ 33) × (r.total_row ≤ 2 ^ 33) × (r.gap ≤ 2 ^ 40)
rows_bound Bil bands row r h small = (omega (arith, h.0), omega (arith, h.1), omega (arith, h.2))
rows_bound Bip bands row r h small = (omega (arith, h.0), omega (arith, h.1), omega (arith, h.2))
rows_bound Bsq bands row r h small = (omega (arith, h.0), omega (arith, h.1), omega (arith, h.2))

rows_small : (h : Head) → IsHead h → (h.band_row < 10 ^ 18) × (h.total_row < 10 ^ 18) × (h.gap < 10 ^ 18)
rows_small h is =
    let most : h.size.w * sample_len h.kind ≤ 4194304 * 8 = mul-le h.size.w (sample_len h.kind) 4194304 8 is.width.1 (bytes_bounds h.kind).1 in
    let b = rows_bound h.layout h.bands (h.size.w * sample_len h.kind) (rows_from h) is.rows (omega arith) in
    (omega (arith, b.0), omega (arith, b.1), omega (arith, b.2))

fields_all : (h : Head) → IsHead h → AllByRecursion IsField (fields_of h)
fields_all h is =
    let rows = rows_small h is in (
      order_field h.big,
      (
        layout_field h.layout,
        (
          number_field 0 h.size.h (key_const 0 refl refl (omega arith) (omega arith)) (omega (arith, is.height)),
          (
            number_field 1 h.size.w (key_const 1 refl refl (omega arith) (omega arith)) (omega (arith, is.width)),
            (
              number_field 2 h.bands (key_const 2 refl refl (omega arith) (omega arith)) (omega (arith, is.bands)),
              (
                number_field 3 (8 * sample_len h.kind) (key_const 3 refl refl (omega arith) (omega arith)) (bits_small h.kind),
                (
                  number_field 6 h.skip (key_const 6 refl refl (omega arith) (omega arith)) (omega (arith, is.skip)),
                  (
                    number_field 8 h.band_row (key_const 8 refl refl (omega arith) (omega arith)) rows.0,
                    (
                      number_field 9 h.total_row (key_const 9 refl refl (omega arith) (omega arith)) rows.1,
                      (
                        number_field 10 h.gap (key_const 10 refl refl (omega arith) (omega arith)) rows.2,
                        (sign_field h.kind, tail_all h.kind h.nodata h.geo is.nodata is.geo),
                      ),
                    ),
                  ),
                ),
              ),
            ),
          ),
        ),
      ),
    )

not_above : (n : ℕ) → n ≤ 1048576 → nat_lt 1048576 n ≡ false
not_above n h = grind (arith, nat_tests)

fields_count : (h : Head) (nd : Option ℤ) (geo : Option RawGeo) → length (fields_from h nd geo) ≤ 16
fields_count h None None = omega arith
fields_count h None (Some g) = omega arith
fields_count h (Some n) None = omega arith
fields_count h (Some n) (Some g) = omega arith

below_limit : (n k : ℕ) → n ≤ 64 * k → k ≤ 16 → n ≤ 1048576
below_limit n k h g = omega arith

text_short : (h : Head) → IsHead h → length (hdr_text h) ≤ 1048576
unfolding hdr_text
text_short h is = below_limit (length (hdr_text h)) (length (fields_of h)) (text_len (fields_of h) (fields_all h is)) (fields_count h h.nodata h.geo)

-- what is written of a head is read as the head
pub hdr_again : (h : Head) → IsHead h → esri_head (hdr_text h) ≡ Ok h
unfolding esri_head hdr_text
hdr_again h is =
    let short : nat_lt 1048576 (length (hdr_text h)) ≡ false = not_above (length (hdr_text h)) (text_short h is) in
    let values : (λ key. last_field key (fields_of h)) ≡ last_in_text (hdr_text h) = fun_ext (λ key. sym (last_text (fields_of h) (fields_all h is) key)) in
    ap (λ b. cond b (Err Limit) (head_of (last_in_text (hdr_text h)))) short ∙ sym (ap head_of values) ∙ head_again h (λ key. last_field key (fields_of h)) (written h h.nodata h.geo) is
