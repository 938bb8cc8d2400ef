-- Lists of elements that are written one after another.
use Rattle.std.proofs.Common.{◌≡◌, ℕ, ℤ, pos, get_or, Option, suc, ◌+◌, ◌<◌, ◌≤◌, List, [], ◌∷◌, ◌++◌, length, take, refl, ap, ◌∙◌, sym, subst, append_assoc, append-nil, arith, flat_map, codes, Bool}
use Rattle.std.proofs.lemmas.List.{length-take, take-take, take_more, take_all}
use Rattle.geotransform.specs.declared.types.PixelType.{PixelType}
use Rattle.geotransform.specs.declared.types.Size.{Size}
use Rattle.geotransform.specs.Geo.{Transform}
use Rattle.lists_and_answers.specs.Growth.{KeepsFront}
use Rattle.geotransform.proofs.Written.{keeps_append, keeps_then}
use Rattle.vrt_markup.specs.Items.{Pair}
use Rattle.vrt_profile.specs.Values.{trillion, Rectangle, SourceValue, BandValue, DocumentValue}
use Rattle.vrt_profile.specs.declared.rectangle.LutPair.{LutPair}
use Rattle.vrt_writing.specs.Spelled.{Markup, both, group, markup_text, indent, tag_text, pair_text, end_text, lut_pair_text, next_pair_text, lut_text, file_markup, source_band_markup, rectangle_markup, nodata_markup, scale_markup, lut_markup, srs_markup, geo_markup, band_pairs, source_tag, place_markup, scaling_markup, source_markup, sources_markup, band_markup, bands_markup, parts_markup, dataset_markup, size_pairs, spelled}
use Rattle.vrt_writing.specs.Appended.{source_text, band_text, bands_text, Appends, AppendsPairs, AppendsTag}
use Rattle.vrt_writing.proofs.Pieces.{two, three, appends_both, keeps_appends}

pub keeps_trans : (a b c : List ℕ) → KeepsFront a b → KeepsFront b c → KeepsFront a c
keeps_trans a b c p q =
    let less : length a ≤ length b = omega (arith, ap length p.front, length-take (length a) b) in
    record { front = sym (take-take (length a) (length b) c less) ∙ ap (take (length a)) q.front ∙ p.front }

pub keeps_append_then : (a b c e : List ℕ) → KeepsFront a b → c ≡ b ++ e → KeepsFront a c
keeps_append_then a b c e p q = keeps_trans a b c p (keeps_append b c e q)

pub keeps_appended : (a b c : List ℕ) (level : ℕ) (m : Markup) → KeepsFront a b → Appends b c level m → KeepsFront a c
keeps_appended a b c level m p q = keeps_append_then a b c (markup_text level m) p q.is

pub keeps_appends_two : (a b c d : List ℕ) (level : ℕ) (m n : Markup) → Appends a b level m → Appends b c level n → KeepsFront c d → KeepsFront a d
keeps_appends_two a b c d level m n p q h = keeps_appends a b d level m p (keeps_appends b c d level n q h)

pub keeps_appends_three : (a b c d e : List ℕ) (level : ℕ) (m n o : Markup) → Appends a b level m → Appends b c level n → Appends c d level o → KeepsFront d e → KeepsFront a e
keeps_appends_three a b c d e level m n o p q r h = keeps_appends a b e level m p (keeps_appends_two b c d e level n o q r h)

pub three_both : (a b c d : List ℕ) (level : ℕ) (m n o : Markup) → Appends a b level m → Appends b c level n → Appends c d level o → Appends a d level (both m (both n o))
three_both a b c d level m n o p q r = appends_both a b d level m (both n o) p (appends_both b c d level n o q r)

pub four_both : (a b c d e : List ℕ) (level : ℕ) (m n o p : Markup) → Appends a b level m → Appends b c level n → Appends c d level o → Appends d e level p → Appends a e level (both m (both n (both o p)))
four_both a b c d e level m n o p x y z w = appends_both a b e level m (both n (both o p)) x (three_both b c d e level n o p y z w)

-- the start line, what stands in an element, and the end line
pub bare_tag : (a b c name : List ℕ) (level : ℕ) → b ≡ a ++ (indent level ++ 60 ∷ name) → c ≡ b ++ codes ">\n" → AppendsTag a c level name []
bare_tag a b c name level p q = record { is = two a b c (indent level ++ 60 ∷ name) (codes ">\n") p q ∙ ap (λ (x : List ℕ). a ++ ((indent level ++ 60 ∷ x) ++ codes ">\n")) (sym (append-nil name)) }

pub tag_made : (a b c d name : List ℕ) (level : ℕ) (pairs : List Pair) → b ≡ a ++ (indent level ++ 60 ∷ name) → AppendsPairs b c pairs → d ≡ c ++ codes ">\n" → AppendsTag a d level name pairs
tag_made a b c d name level pairs p q r = record {
  is =
      three a b c d (indent level ++ 60 ∷ name) (flat_map pair_text pairs) (codes ">\n") p q.is r
      ∙ ap (λ (x : List ℕ). a ++ x) (sym (append_assoc (indent level ++ 60 ∷ name) (flat_map pair_text pairs) (codes ">\n")) ∙ ap (λ (x : List ℕ). x ++ codes ">\n") (append_assoc (indent level) (60 ∷ name) (flat_map pair_text pairs)));
}

pub keeps_tag : (a b c name : List ℕ) (level : ℕ) (pairs : List Pair) → AppendsTag a b level name pairs → KeepsFront b c → KeepsFront a c
keeps_tag a b c name level pairs p h = keeps_then a b c (tag_text level name pairs ++ codes ">\n") p.is h

pub keeps_tag_then : (a b c d name : List ℕ) (level next : ℕ) (pairs : List Pair) (m : Markup) → AppendsTag a b level name pairs → Appends b c next m → KeepsFront c d → KeepsFront a d
keeps_tag_then a b c d name level next pairs m p q h = keeps_tag a b d name level pairs p (keeps_appends b c d next m q h)

pub keeps_tag_two : (a b c d e name : List ℕ) (level next : ℕ) (pairs : List Pair) (m n : Markup) → AppendsTag a b level name pairs → Appends b c next m → Appends c d next n → KeepsFront d e → KeepsFront a e
keeps_tag_two a b c d e name level next pairs m n p q r h = keeps_tag_then a b c e name level next pairs m p q (keeps_appends c d e next n r h)

pub group_made : (a b c d name : List ℕ) (level : ℕ) (pairs : List Pair) (m : Markup) → AppendsTag a b level name pairs → Appends b c (suc level) m → d ≡ c ++ (indent level ++ end_text name) → Appends a d level (group name pairs m)
group_made a b c d name level pairs m p q r = record {
  is =
      three a b c d (tag_text level name pairs ++ codes ">\n") (markup_text (suc level) m) (indent level ++ end_text name) p.is q.is r
      ∙ ap (λ (x : List ℕ). a ++ x) (append_assoc (tag_text level name pairs) (codes ">\n") (markup_text (suc level) m ++ (indent level ++ end_text name)));
}

pub group_two : (a b c d e name : List ℕ) (level : ℕ) (pairs : List Pair) (m n : Markup) → AppendsTag a b level name pairs → Appends b c (suc level) m → Appends c d (suc level) n → e ≡ d ++ (indent level ++ end_text name) → Appends a e level (group name pairs (both m n))
group_two a b c d e name level pairs m n p q r s = group_made a b d e name level pairs (both m n) p (appends_both b c d (suc level) m n q r) s

pub source_made : (a b c d e name : List ℕ) (s : SourceValue) → name ≡ source_tag s.complex → AppendsTag a b 2 name [] → Appends b c 3 (place_markup s) → Appends c d 3 (scaling_markup s) → e ≡ d ++ (indent 2 ++ end_text name) → Appends a e 2 (source_markup s)
source_made a b c d e name s n p q r t = subst (λ (x : List ℕ). Appends a e 2 (group x [] (both (place_markup s) (scaling_markup s)))) n (group_two a b c d e name 2 [] (place_markup s) (scaling_markup s) p q r t)

pub dataset_made : (a b c d : List ℕ) (v : DocumentValue) → AppendsTag a b 0 (codes "VRTDataset") (size_pairs v.size) → Appends b c 1 (parts_markup v) → d ≡ c ++ (indent 0 ++ end_text (codes "VRTDataset")) → d ≡ a ++ markup_text 0 (dataset_markup v)
dataset_made a b c d v p q r = (group_made a b c d (codes "VRTDataset") 0 (size_pairs v.size) (parts_markup v) p q r).is

-- one more of a list
pub sources_text : (ss : List SourceValue) → flat_map source_text ss ≡ markup_text 2 (sources_markup ss)
unfolding source_text
sources_text [] = refl
sources_text (s ∷ ss) = ap (λ (x : List ℕ). markup_text 2 (source_markup s) ++ x) (sources_text ss)

pub sources_made : (a b : List ℕ) (ss : List SourceValue) → b ≡ a ++ flat_map source_text ss → Appends a b 2 (sources_markup ss)
sources_made a b ss p = record { is = p ∙ ap (λ (x : List ℕ). a ++ x) (sources_text ss) }

pub bands_are : (n : ℕ) (bs : List BandValue) → bands_text n bs ≡ markup_text 1 (bands_markup n bs)
unfolding band_text
bands_are n [] = refl
bands_are n (b ∷ bs) = ap (λ (x : List ℕ). markup_text 1 (band_markup n b) ++ x) (bands_are (suc n) bs)

bands_push : (n : ℕ) (bs : List BandValue) (b : BandValue) → bands_text n (bs ++ b ∷ []) ≡ bands_text n bs ++ band_text (n + length bs) b
bands_push n [] b = append-nil (band_text n b) ∙ ap (λ k. band_text k b) (omega arith)
bands_push n (x ∷ xs) b =
    ap (λ (y : List ℕ). band_text n x ++ y) (bands_push (suc n) xs b ∙ ap (λ k. bands_text (suc n) xs ++ band_text k b) (omega arith))
    ∙ sym (append_assoc (band_text n x) (bands_text (suc n) xs) (band_text (n + length (x ∷ xs)) b))

pub bands_more : (bs : List BandValue) (i : ℕ) (d : BandValue) → i < length bs → bands_text 1 (take (i + 1) bs) ≡ bands_text 1 (take i bs) ++ band_text (i + 1) (get_or bs i d)
bands_more bs i d h =
    let count : 1 + length (take i bs) ≡ i + 1 = omega (arith, length-take i bs) in
    ap (bands_text 1) (take_more bs i d h) ∙ bands_push 1 (take i bs) (get_or bs i d) ∙ ap (λ k. bands_text 1 (take i bs) ++ band_text k (get_or bs i d)) count

pub next_band : (old a b : List ℕ) (bs : List BandValue) (i n : ℕ) (d x : BandValue) → i < length bs → n ≡ i + 1 → x ≡ get_or bs i d → a ≡ old ++ bands_text 1 (take i bs) → b ≡ a ++ band_text n x → b ≡ old ++ bands_text 1 (take (i + 1) bs)
next_band old a b bs i n d x h e f p q =
    two old a b (bands_text 1 (take i bs)) (band_text n x) p q
    ∙ ap (λ (y : List ℕ). old ++ y) (ap (λ k. bands_text 1 (take i bs) ++ band_text k x) e ∙ ap (λ (y : BandValue). bands_text 1 (take i bs) ++ band_text (i + 1) y) f ∙ sym (bands_more bs i d h))

pub bands_made : (a b : List ℕ) (bs : List BandValue) (i : ℕ) → length bs ≤ i → b ≡ a ++ bands_text 1 (take i bs) → Appends a b 1 (bands_markup 1 bs)
bands_made a b bs i h p = record { is = p ∙ ap (λ (x : List ℕ). a ++ x) (ap (bands_text 1) (take_all i bs h) ∙ bands_are 1 bs) }

pub band_made : (a b c d e : List ℕ) (n : ℕ) (kind : PixelType) (nodata : Option ℤ) (ss : List SourceValue) (v : BandValue) → AppendsTag a b 1 (codes "VRTRasterBand") (band_pairs n kind) → Appends b c 2 (nodata_markup (codes "NoDataValue") nodata) → Appends c d 2 (sources_markup ss) → e ≡ d ++ (indent 1 ++ end_text (codes "VRTRasterBand")) → kind ≡ v.kind → nodata ≡ v.nodata → ss ≡ v.sources → e ≡ a ++ band_text n v
unfolding band_text
band_made a b c d e n kind nodata ss v p q r t f g h =
    let whole : Appends a e 1 (band_markup n v) = rw (sym f, sym g, sym h) (group_two a b c d e (codes "VRTRasterBand") 1 (band_pairs n kind) (nodata_markup (codes "NoDataValue") nodata) (sources_markup ss) p q r t) in
    whole.is

pub place_made : (a b : List ℕ) (s : SourceValue) (relative : Bool) (file : List ℕ) (band : ℕ) (src dst : Option Rectangle) → Appends a b 3 (both (file_markup relative file) (both (source_band_markup band) (both (rectangle_markup (codes "SrcRect") src) (rectangle_markup (codes "DstRect") dst)))) → relative ≡ s.relative → file ≡ s.file → band ≡ s.band → src ≡ s.src → dst ≡ s.dst → Appends a b 3 (place_markup s)
place_made a b s relative file band src dst p e f g h i = rw (sym e, sym f, sym g, sym h, sym i) p

pub scaling_made : (a b : List ℕ) (s : SourceValue) (nodata : Option ℤ) (offset ratio : ℤ) (lut : Option (List LutPair)) → Appends a b 3 (both (nodata_markup (codes "NODATA") nodata) (both (scale_markup (codes "ScaleOffset") (pos 0) offset) (both (scale_markup (codes "ScaleRatio") (pos trillion) ratio) (lut_markup lut)))) → nodata ≡ s.nodata → offset ≡ s.offset → ratio ≡ s.ratio → lut ≡ s.lut → Appends a b 3 (scaling_markup s)
scaling_made a b s nodata offset ratio lut p e f g h = rw (sym e, sym f, sym g, sym h) p

pub pairs_are : (p : LutPair) (ps : List LutPair) → lut_pair_text p ++ flat_map next_pair_text ps ≡ lut_text (p ∷ ps)
pairs_are p ps = refl

pub dataset_by : (a b c d : List ℕ) (v : DocumentValue) (size : Size) → AppendsTag a b 0 (codes "VRTDataset") (size_pairs size) → size ≡ v.size → Appends b c 1 (parts_markup v) → d ≡ c ++ (indent 0 ++ end_text (codes "VRTDataset")) → d ≡ a ++ spelled v
unfolding spelled
dataset_by a b c d v size p e q r = dataset_made a b c d v (subst (λ (s : Size). AppendsTag a b 0 (codes "VRTDataset") (size_pairs s)) e p) q r

pub parts_made : (a b : List ℕ) (v : DocumentValue) (srs : Option (List ℕ)) (geo : Option Transform) (bands : List BandValue) → Appends a b 1 (both (srs_markup srs) (both (geo_markup geo) (bands_markup 1 bands))) → srs ≡ v.srs → geo ≡ v.geo → bands ≡ v.bands → Appends a b 1 (parts_markup v)
parts_made a b v srs geo bands p e f g = rw (sym e, sym f, sym g) p
