-- Sources that name the same file as the one before them.
use Rattle.std.proofs.Common.{◌≡◌, ◌∙◌, ap, ap₂, sym, subst, refl, true, not, ◌||◌, ◌&&◌, ◌<◌, ◌+◌, ℕ, Bool, List, [], ◌∷◌, ◌++◌, take, get_or, length, Option, Some, None, bytes_eq, IfSome, if◌then◌else◌}
use Rattle.std.specs.List.{filter_map, cons_option}
use Rattle.std.proofs.lemmas.Slice.Eq.{bytes_eq-Decides}
use Rattle.lists_and_answers.specs.Lists.{is_among}
use Rattle.outside.specs.Names.{folder_part}
use Rattle.outside.specs.Paths.{is_absolute}
use Rattle.vrt_profile.specs.Values.{SourceValue}
use Rattle.vrt_profile.specs.Resolve.{in_folder}
use Rattle.catalog.specs.declared.gathered.Gathered.{Gathered}
use Rattle.catalog.specs.Mosaics.{name_of_text, source_name, distinct}
use Rattle.catalog.specs.Gathered.{HasGathered, IsThere}
use Rattle.catalog.proofs.Mosaics.{among_distinct}
use Rattle.catalog.proofs.Listings.{named_behind, named_next, unnamed_next}
use Rattle.catalog.proofs.Gatherings.{gathered_again, or_true}

-- a name is that of the flag and the text alone
pub same_name : (base : List ℕ) (s last : SourceValue) → s.relative ≡ last.relative → s.file ≡ last.file → source_name base s ≡ source_name base last
same_name base s last relative file =
    ap₂ (λ (r : Bool) (f : List ℕ). name_of_text (in_folder (if r && not (is_absolute f) then folder_part base else None) f)) relative file

among_behind : (xs ys : List (List ℕ)) (n : List ℕ) → is_among ys n ≡ true → is_among (xs ++ ys) n ≡ true
among_behind [] ys n h = h
among_behind (x ∷ xs) ys n h = ap (λ b. bytes_eq x n || b) (among_behind xs ys n h) ∙ or_true (bytes_eq x n)

among_last : (xs : List (List ℕ)) (n : List ℕ) → is_among (xs ++ n ∷ []) n ≡ true
among_last xs n = among_behind xs (n ∷ []) n (ap (λ b. b || is_among [] n) ((bytes_eq-Decides n n).1 refl))

there_by : (xs : List (List ℕ)) (o : Option (List ℕ)) → IfSome o (λ n. is_among (xs ++ cons_option o []) n ≡ true)
there_by xs None = tt
there_by xs (Some n) = among_last xs n

-- a source that names what the last of those before it names
pub again_there : (base : List ℕ) (ss : List SourceValue) (i : ℕ) (last s : SourceValue) → i < length ss → last ≡ get_or ss i last → source_name base s ≡ source_name base last → IsThere base (take (i + 1) ss) s
again_there base ss i last s below is same =
    subst (λ (o : Option (List ℕ)). IfSome o (λ n. is_among (filter_map (source_name base) (take (i + 1) ss)) n ≡ true)) (sym same)
    (subst (λ (l : List (List ℕ)). IfSome (source_name base last) (λ n. is_among l n ≡ true)) (named_behind base ss i last below is)
    (there_by (filter_map (source_name base) (take i ss)) (source_name base last)))

next_by : (own base : List ℕ) (names : List (List ℕ)) (ss : List SourceValue) (i : ℕ) (s : SourceValue) (g : Gathered) (o : Option (List ℕ)) → source_name base s ≡ o → i < length ss → s ≡ get_or ss i s → IfSome o (λ n. is_among (filter_map (source_name base) (take i ss)) n ≡ true)
    → HasGathered own (names ++ filter_map (source_name base) (take i ss)) g → HasGathered own (names ++ filter_map (source_name base) (take (i + 1) ss)) g
next_by own base names ss i s g None e below is there h =
    subst (λ (l : List (List ℕ)). HasGathered own l g) (unnamed_next base names ss i s below is e) h
next_by own base names ss i s g (Some n) e below is there h =
    let before = names ++ filter_map (source_name base) (take i ss) in
    let among : is_among (distinct before) n ≡ true = among_distinct before n ∙ among_behind names (filter_map (source_name base) (take i ss)) n there in
    subst (λ (l : List (List ℕ)). HasGathered own l g) (named_next base names ss i s n below is e) (gathered_again own before g n among h)

-- a source whose name is there adds none
pub there_next : (own base : List ℕ) (names : List (List ℕ)) (ss : List SourceValue) (i : ℕ) (s : SourceValue) (g : Gathered) → i < length ss → s ≡ get_or ss i s → IsThere base (take i ss) s
    → HasGathered own (names ++ filter_map (source_name base) (take i ss)) g → HasGathered own (names ++ filter_map (source_name base) (take (i + 1) ss)) g
there_next own base names ss i s g below is there h = next_by own base names ss i s g (source_name base s) refl below is there h
