-- A document that is written is read again.
use Rattle.std.proofs.Common.{◌≡◌, ℕ, ◌-◌, ◌<◌, ◌≤◌, Bool, true, false, cond, ◌==◌, List, [], ◌∷◌, ◌++◌, length, flat_map, Option, Some, None, Result, Ok, Err, refl, sym, ap, ◌∙◌, arith, append-nil, IfSome, IsUtf8, nat_lt, codes}
use Rattle.std.specs.Fmt.{decimal}
use Rattle.std.proofs.lemmas.Bool.Decides.{nat_tests}
use Rattle.lists_and_answers.specs.Answers.{◌>>=◌}
use Rattle.geotransform.specs.Geo.{Transform, IsRaster}
use Rattle.geotransform.specs.declared.types.Size.{Size}
use Rattle.vrt_markup.specs.Items.{Tag, open_tag, item_at}
use Rattle.vrt_markup.specs.Forest.{ForestRead, inner, read_as}
use Rattle.vrt_markup.specs.Kept.{seen}
use Rattle.vrt_profile.specs.Numbers.{side_by, side_in}
use Rattle.vrt_profile.specs.Values.{DocumentValue, IsDocument, IsDecimal}
use Rattle.vrt_writing.specs.Spelled.{words, markup_text, indent, pair_text, escaped, geo_text, srs_markup, geo_markup, bands_markup, size_pairs, parts_markup, dataset_markup, spelled}
use Rattle.vrt_profile.specs.Means as means_of
use Rattle.vrt_profile.specs.Means.{DatasetParts, no_dataset_parts, dataset_step, with_srs, srs_by, with_geo, geo_by, root_of}
use Rattle.vrt_profile.specs.Seen.{dataset_by, markup_means}
use Rattle.vrt_markup.specs.Tree.{Root, root_item, root_at, end_by, end_at, markup_of}
use Rattle.vrt_profile.specs.Document.{means, document_of}
use Rattle.vrt_markup.specs.declared.fault.VrtFault.{VrtFault}
use Rattle.vrt_markup.specs.declared.fault.VrtFault.TheVariants.{MissingPart, BadNumber, Limit}
use Rattle.vrt_profile.proofs.KeptTexts.{is_text}
use Rattle.vrt_markup.proofs.Utf8.{utf8_ok}
use Rattle.vrt_markup.proofs.Outside.{space_open, space_run}
use Rattle.vrt_markup.proofs.Reading.{read_then}
use Rattle.vrt_writing.proofs.Places.{count_again}
use Rattle.vrt_writing.proofs.Figures.{decimal_figures, figures_value}
use Rattle.vrt_writing.proofs.Relisted.{geo_again, geo_marks}
use Rattle.vrt_writing.proofs.Openings.{IsOpening, tag_of, opening_item, ends_open}
use Rattle.vrt_writing.proofs.Taken.{Takes, takes_nothing, takes_both, takes_words, group_inside, group_lines}
use Rattle.vrt_writing.proofs.Sources.{takes_to, takes_marks, judged}
use Rattle.vrt_writing.proofs.Valid.{spelled_utf8}
use Rattle.vrt_writing.proofs.Bands.{dataset_of, all_taken, takes_bands}

takes_srs : (o : Option (List ℕ)) → IfSome o IsUtf8 → Takes dataset_step 1 (srs_markup o) (Ok no_dataset_parts) (Ok (dataset_of o None [] 0))
takes_srs None is = takes_nothing dataset_step 1 (Ok no_dataset_parts)
takes_srs (Some t) is =
    takes_to dataset_step 1 (words (codes "SRS") [] (escaped t)) (Ok no_dataset_parts) _ _
    (takes_words dataset_step 1 (codes "SRS") [] t (Ok no_dataset_parts) (λ w. with_srs no_dataset_parts (srs_by w.0 w.1)) (omega arith)
    (record { named = record { first = refl; later = refl }; pairs = tt; distinct = refl }) (λ place f. refl))
    (ap (λ x. with_srs no_dataset_parts (judged x None)) (is_text t is))

takes_geo : (srs : Option (List ℕ)) (o : Option Transform) → IfSome o IsDecimal → Takes dataset_step 1 (geo_markup o) (Ok (dataset_of srs None [] 0)) (Ok (dataset_of srs o [] 0))
takes_geo srs None is = takes_nothing dataset_step 1 (Ok (dataset_of srs None [] 0))
takes_geo srs (Some g) is =
    let s : DatasetParts = dataset_of srs None [] 0 in
    takes_to dataset_step 1 (words (codes "GeoTransform") [] (geo_text g)) (Ok s) _ _
    (takes_marks dataset_step 1 (codes "GeoTransform") [] (geo_text g) (Ok s) (λ w. with_geo s (geo_by w.0 w.1)) (omega arith)
    (record { named = record { first = refl; later = refl }; pairs = tt; distinct = refl }) (geo_marks g is) (λ place f. refl))
    (ap (λ x. with_geo s (judged x None)) (geo_again g is))

parts_taken : (d : DocumentValue) → IsDocument d → Takes dataset_step 1 (parts_markup d) (Ok no_dataset_parts) (Ok (dataset_of d.srs d.geo d.bands (all_taken 0 d.bands)))
parts_taken d is =
    takes_both dataset_step 1 (srs_markup d.srs) _ (Ok no_dataset_parts) (Ok (dataset_of d.srs None [] 0)) _
    (takes_srs d.srs is.srs)
    (takes_both dataset_step 1 (geo_markup d.geo) (bands_markup 1 d.bands) _ (Ok (dataset_of d.srs d.geo [] 0)) _
    (takes_geo d.srs d.geo is.geo)
    (takes_bands d.srs d.geo [] d.bands 0 1 refl is.bands (omega (arith, is.few)) (omega (arith, is.sources))))

-- the root's tag, and its sides
side_again : (n : ℕ) → 0 < n → n ≤ 4194304 → side_in (Some (decimal n)) ≡ Ok n
side_again n some few =
    let not_none : (n == 0) ≡ false = grind (arith, nat_tests) in
    let low : nat_lt 4194304 n ≡ false = grind (arith, nat_tests) in
    ap side_by (count_again n (omega arith))
    ∙ ap (λ b. cond b (Err BadNumber) (cond (nat_lt 4194304 n) (Err Limit) (Ok n))) not_none
    ∙ ap (λ b. cond b (Err Limit) (Ok n)) low

root_opening : (s : Size) → IsRaster s → IsOpening (codes "VRTDataset") (size_pairs s)
root_opening s is = record {
  named = record { first = refl; later = refl };
  pairs = (
    (record { first = refl; later = refl }, figures_value (decimal s.w) (decimal_figures s.w (omega (arith, is.columns)))),
    ((record { first = refl; later = refl }, figures_value (decimal s.h) (decimal_figures s.h (omega (arith, is.lines)))), tt),
  );
  distinct = refl;
}

abbrev final : DocumentValue → DatasetParts
final d = dataset_of d.srs d.geo d.bands (all_taken 0 d.bands)

dataset_again : (d : DocumentValue) → IsDocument d → dataset_by (side_in (Some (decimal d.size.w))) (side_in (Some (decimal d.size.h))) false true (Ok (final d)) ≡ Ok d
unfolding dataset_by
dataset_again d is =
    let some : (length d.bands == 0) ≡ false = grind (arith, nat_tests, is.some) in
    ap (λ w. dataset_by w (side_in (Some (decimal d.size.h))) false true (Ok (final d))) (side_again d.size.w is.size.some_columns is.size.columns)
    ∙ ap (λ h. dataset_by (Ok d.size.w) h false true (Ok (final d))) (side_again d.size.h is.size.some_lines is.size.lines)
    ∙ ap (λ b. cond b (Err MissingPart) (Ok d)) some

-- outside the root
last_line : (total : ℕ) → end_at total (10 ∷ []) ≡ Ok []
unfolding end_at item_at
last_line total = ap (λ r. r >>= end_by total) (space_run total (10 ∷ []) (10 ∷ []) [] refl refl)

root_found : (total : ℕ) (tag : Tag) (x rest : List ℕ) → item_at (60 ∷ 86 ∷ x) ≡ open_tag tag rest → root_at total (60 ∷ 86 ∷ x) ≡ Ok (record { place = total - length (60 ∷ 86 ∷ x); tag = tag; rest = rest })
unfolding root_at
root_found total tag x rest item =
    ap (λ r. r >>= λ start. root_item total start (item_at start)) (space_open total (60 ∷ 86 ∷ x) tag rest (sym item))
    ∙ ap (root_item total (60 ∷ 86 ∷ x)) item

abbrev left_of : {A : Type 0} → A → Result (A × List ℕ) VrtFault → A
left_of a (Ok x) = x.0
left_of a (Err f) = a

abbrev right_of : {A : Type 0} → List ℕ → Result (A × List ℕ) VrtFault → List ℕ
right_of s (Ok x) = x.1
right_of s (Err f) = s

ok_left : {A : Type 0} (a b : A) (s t : List ℕ) → ◌≡◌ {A = Result (A × List ℕ) VrtFault} (Ok (a, s)) (Ok (b, t)) → (a ≡ b) × (s ≡ t)
ok_left a b s t e = (ap (left_of a) e, ap (right_of s) e)

-- what the markup means, where the inside of its root is known by what it means
abbrev behind_inside : ℕ → ℕ → Tag → ForestRead → Result DocumentValue VrtFault
behind_inside total place tag x = (x >>= λ y. end_at total y.1 >>= λ end. Ok (record { place = place; tag = tag; inside = y.0 })) >>= means

inside_means : (total place : ℕ) (tag : Tag) (d : Result DocumentValue VrtFault) (s : List ℕ) (x : ForestRead) → Ok (d, s) ≡ read_as (root_of place tag) x → end_at total s ≡ Ok [] → behind_inside total place tag x ≡ d
inside_means total place tag d s (Ok y) e end =
    let parts = ok_left d (root_of place tag y.0) s y.1 e in
    ap (λ t. (end_at total t >>= λ end. Ok (record { place = place; tag = tag; inside = y.0 })) >>= means) (sym parts.1)
    ∙ ap (λ r. (r >>= λ end. Ok (record { place = place; tag = tag; inside = y.0 })) >>= means) end
    ∙ sym parts.0
inside_means total place tag d s (Err f) e end = absurd cc

abbrev behind_root : ℕ → Result Root VrtFault → Result DocumentValue VrtFault
behind_root total r = (r >>= λ root. inner total 0 root.tag root.rest >>= λ x. end_at total x.1 >>= λ end. Ok (record { place = root.place; tag = root.tag; inside = x.0 })) >>= means

markup_starts : (bytes : List ℕ) → markup_means bytes ≡ behind_root (length bytes) (root_at (length bytes) bytes)
unfolding markup_of
markup_starts bytes = refl

abbrev body : DocumentValue → List ℕ
body d = 10 ∷ (markup_text 1 (parts_markup d) ++ (indent 0 ++ (60 ∷ 47 ∷ codes "VRTDataset" ++ 62 ∷ 10 ∷ [])))

abbrev whole : DocumentValue → List ℕ
whole d = 60 ∷ (codes "VRTDataset" ++ (flat_map pair_text (size_pairs d.size) ++ 62 ∷ body d))

abbrev root_tag : DocumentValue → Tag
root_tag d = tag_of (codes "VRTDataset") (size_pairs d.size) false

spelled_whole : (d : DocumentValue) → spelled d ≡ whole d
unfolding spelled
spelled_whole d = sym (append-nil (markup_text 0 (dataset_markup d))) ∙ group_lines 0 (codes "VRTDataset") (size_pairs d.size) (parts_markup d) []

whole_means : (d : DocumentValue) → IsDocument d → (total place : ℕ) → Ok (Ok d, 10 ∷ []) ≡ read_as (root_of place (root_tag d)) (inner total 0 (root_tag d) (body d))
unfolding means_of.dataset_of dataset_by
whole_means d is total place =
    let k : Result DatasetParts VrtFault × Bool → Result DocumentValue VrtFault = λ p. dataset_by (side_in (Some (decimal d.size.w))) (side_in (Some (decimal d.size.h))) false p.1 p.0 in
    ap (λ v. Ok (v, 10 ∷ [])) (sym (dataset_again d is))
    ∙ read_then k (seen dataset_step (Ok no_dataset_parts) true) (Ok (final d), true) (10 ∷ []) (inner total 0 (root_tag d) (body d))
    (group_inside dataset_step 0 (codes "VRTDataset") (parts_markup d) (Ok no_dataset_parts) (Ok (final d)) total [] (record { first = refl; later = refl }) (parts_taken d is))

whole_again : (d : DocumentValue) → IsDocument d → markup_means (whole d) ≡ Ok d
whole_again d is =
    let total : ℕ = length (whole d) in
    let x : List ℕ = codes "RTDataset" ++ (flat_map pair_text (size_pairs d.size) ++ 62 ∷ body d) in
    markup_starts (whole d)
    ∙ ap (behind_root total) (root_found total (root_tag d) x (body d) (opening_item (codes "VRTDataset") (size_pairs d.size) 62 (body d) false (body d) (root_opening d.size is.size) refl (ends_open (body d))))
    ∙ inside_means total (total - length (whole d)) (root_tag d) (Ok d) (10 ∷ []) (inner total 0 (root_tag d) (body d)) (whole_means d is total (total - length (whole d))) (last_line total)

pub markup_again : (d : DocumentValue) → IsDocument d → markup_means (spelled d) ≡ Ok d
markup_again d is = ap markup_means (spelled_whole d) ∙ whole_again d is

pub document_again : (d : DocumentValue) → IsDocument d → document_of (spelled d) ≡ Ok d
document_again d is =
    ap (λ (r : Result (List ℕ) VrtFault). (r >>= λ t. markup_of t) >>= means) (utf8_ok (spelled d) (spelled_utf8 d is))
    ∙ markup_again d is
