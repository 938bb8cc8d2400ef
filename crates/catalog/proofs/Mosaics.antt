-- Names without repeats, and what a document says of its dataset.
use Rattle.std.proofs.Common.{◌≡◌, ◌∙◌, ap, sym, subst, refl, true, false, cond, not, ◌||◌, ℕ, Bool, List, [], ◌∷◌, ◌++◌, length, map, bytes_eq, arith}
use Rattle.std.specs.Prelude.{All}
use Rattle.std.specs.List.{filter}
use Rattle.std.proofs.lemmas.List.{append-nil, length-map}
use Rattle.std.proofs.lemmas.List.Elements.{All-map, All-weaker, filter-append}
use Rattle.std.proofs.lemmas.Slice.Eq.{bytes_eq-Decides}
use Rattle.lists_and_answers.specs.Lists.{is_among, with_name}
use Rattle.vrt_profile.specs.Values.{DocumentValue, IsDocument, IsBand}
use Rattle.geotransform.specs.Geo.{IsRaster}
use Rattle.geotransform.specs.declared.types.Size.{Size}
use Rattle.catalog.specs.declared.kind.BandHead.{BandHead}
use Rattle.catalog.specs.declared.kind.Kind.{Kind}
use Rattle.catalog.specs.declared.kind.Kind.TheVariants.{Vrt}
use Rattle.catalog.specs.Dataset.{DatasetHead, IsDatasetHead, IsBandHead}
use Rattle.catalog.specs.Mosaics.{distinct, mosaic_band}

-- the names other than n
abbrev without : List ℕ → List (List ℕ) → List (List ℕ)
without n ns = filter (λ k. not (bytes_eq n k)) ns

-- a name that isn't n is among those other than n where it is among all
same_as_first : (n d x : List ℕ) → bytes_eq n d ≡ true → bytes_eq n x ≡ false → bytes_eq d x ≡ false
same_as_first n d x e other = ap (λ k. bytes_eq k x) (sym ((bytes_eq-Decides n d).0 e)) ∙ other

among_step : (n d x : List ℕ) (ds : List (List ℕ)) (b : Bool) → bytes_eq n d ≡ b → bytes_eq n x ≡ false → is_among (without n ds) x ≡ is_among ds x
    → is_among (cond (not b) (d ∷ without n ds) (without n ds)) x ≡ is_among (d ∷ ds) x
among_step n d x ds true e other rest = rest ∙ ap (λ c. c || is_among ds x) (sym (same_as_first n d x e other))
among_step n d x ds false e other rest = ap (λ c. bytes_eq d x || c) rest

among_others : (n x : List ℕ) (ds : List (List ℕ)) → bytes_eq n x ≡ false → is_among (without n ds) x ≡ is_among ds x
among_others n x [] other = refl
among_others n x (d ∷ ds) other = among_step n d x ds (bytes_eq n d) refl other (among_others n x ds other)

-- a name is among the distinct ones of some names where it is among these
distinct_step : (n x : List ℕ) (ns : List (List ℕ)) (same : Bool) → bytes_eq n x ≡ same → is_among (distinct ns) x ≡ is_among ns x → (same || is_among (without n (distinct ns)) x) ≡ (same || is_among ns x)
distinct_step n x ns true e rest = refl
distinct_step n x ns false e rest = among_others n x (distinct ns) e ∙ rest

pub among_distinct : (ns : List (List ℕ)) (x : List ℕ) → is_among (distinct ns) x ≡ is_among ns x
among_distinct [] x = refl
among_distinct (n ∷ ns) x = distinct_step n x ns (bytes_eq n x) refl (among_distinct ns x)

-- n and the others of some names, and of these names with one more
first_with : (n x : List ℕ) (ds : List (List ℕ)) (same among : Bool) → bytes_eq n x ≡ same → is_among ds x ≡ among
    → n ∷ without n (cond among ds (ds ++ x ∷ [])) ≡ cond (same || is_among (without n ds) x) (n ∷ without n ds) ((n ∷ without n ds) ++ x ∷ [])
first_with n x ds true true e f = refl
first_with n x ds true false e f = ap (λ l. n ∷ l) (filter-append (λ k. not (bytes_eq n k)) ds (x ∷ []) ∙ ap (λ b. without n ds ++ cond (not b) (x ∷ []) []) e ∙ append-nil (without n ds))
first_with n x ds false true e f = ap (λ b. cond b (n ∷ without n ds) ((n ∷ without n ds) ++ x ∷ [])) (sym (among_others n x ds e ∙ f))
first_with n x ds false false e f =
    ap (λ l. n ∷ l) (filter-append (λ k. not (bytes_eq n k)) ds (x ∷ []) ∙ ap (λ b. without n ds ++ cond (not b) (x ∷ []) []) e)
    ∙ ap (λ b. cond b (n ∷ without n ds) ((n ∷ without n ds) ++ x ∷ [])) (sym (among_others n x ds e ∙ f))

-- the distinct ones of some names and one more
pub distinct_with : (ns : List (List ℕ)) (x : List ℕ) → distinct (ns ++ x ∷ []) ≡ with_name (distinct ns) x
distinct_with [] x = refl
distinct_with (n ∷ ns) x = ap (λ l. n ∷ without n l) (distinct_with ns x) ∙ first_with n x (distinct ns) (bytes_eq n x) (is_among (distinct ns) x) refl refl

-- whether a name is among some names and one more
pub among_with : (ns : List (List ℕ)) (x k : List ℕ) → is_among (ns ++ x ∷ []) k ≡ cond (bytes_eq x k) true (is_among ns k)
among_with [] x k = or_false (bytes_eq x k)
  where
    or_false : (b : Bool) → (b || false) ≡ cond b true false
    or_false true = refl
    or_false false = refl
among_with (n ∷ ns) x k = ap (λ b. bytes_eq n k || b) (among_with ns x k) ∙ turn (bytes_eq n k) (bytes_eq x k) (is_among ns k)
  where
    turn : (a b c : Bool) → (a || cond b true c) ≡ cond b true (a || c)
    turn true true c = refl
    turn true false c = refl
    turn false true c = refl
    turn false false c = refl

-- what a document says of its dataset keeps the limits of a dataset
pub mosaic_valid : (head : DatasetHead) (d : DocumentValue) → IsDocument d → head.kind ≡ Vrt → head.size ≡ d.size → head.bands ≡ map (mosaic_band d.size) d.bands → IsDatasetHead head
mosaic_valid head d is kind size bands =
    let long : length head.bands ≡ length d.bands = ap length bands ∙ length-map d.bands (mosaic_band d.size) in
    let each : All (IsBandHead Vrt d.size) (map (mosaic_band d.size) d.bands) =
    All-map (IsBandHead Vrt d.size) (mosaic_band d.size) d.bands (All-weaker IsBand (λ b. IsBandHead Vrt d.size (mosaic_band d.size b)) (λ b kept. record { block = refl; nodata = kept.nodata }) d.bands is.bands) in
    let sized : All (IsBandHead Vrt head.size) (map (mosaic_band d.size) d.bands) = subst (λ (z : Size). All (IsBandHead Vrt z) (map (mosaic_band d.size) d.bands)) (sym size) each in
    let there : All (IsBandHead Vrt head.size) head.bands = subst (λ (l : List BandHead). All (IsBandHead Vrt head.size) l) (sym bands) sized in
    record {
      size = subst IsRaster (sym size) is.size;
      some_band = omega (arith, is.some, long);
      bands = omega (arith, is.few, long);
      each = subst (λ (k : Kind). All (IsBandHead k head.size) head.bands) (sym kind) there;
    }
