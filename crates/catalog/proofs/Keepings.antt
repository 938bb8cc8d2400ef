-- The names of a mosaic's sources without those that stand earlier.
use Rattle.std.proofs.Common.{◌≡◌, ◌∙◌, ap, sym, refl, true, cond, ◌||◌, ◌<◌, ◌+◌, zero, suc, ℕ, List, [], ◌∷◌, ◌++◌, take, drop, get_or, length, bytes_eq, arith}
use Rattle.std.proofs.lemmas.Slice.Eq.{bytes_eq-Decides}
use Rattle.lists_and_answers.specs.Lists.{is_among, with_name}
use Rattle.catalog.specs.Mosaics.{distinct}
use Rattle.catalog.specs.Gathered.{HasKept}
use Rattle.catalog.proofs.Mosaics.{distinct_with, among_distinct}
use Rattle.catalog.proofs.Listings.{next_item}
use Rattle.catalog.proofs.Gatherings.{or_true}

-- no name yet
pub kept_none : (own : List ℕ) (files : List (List ℕ)) → files ≡ own ∷ [] → HasKept own [] files
kept_none own files is = record { kept = []; files = is; same = refl }

-- a name that stands at an earlier place
pub among_before : (ns : List (List ℕ)) (k at : ℕ) (y x : List ℕ) → k < at → k < length ns → y ≡ get_or ns k y → y ≡ x → is_among (take at ns) x ≡ true
among_before [] k at y x before below is same = absurd (omega (arith, below))
among_before (n ∷ ns) k zero y x before below is same = absurd (omega (arith, before))
among_before (n ∷ ns) zero (suc at) y x before below is same = ap (λ b. b || is_among (take at ns) x) ((bytes_eq-Decides n x).1 (sym is ∙ same))
among_before (n ∷ ns) (suc k) (suc at) y x before below is same = ap (λ b. bytes_eq n x || b) (among_before ns k at y x (omega (arith, before)) (omega (arith, below)) is same) ∙ or_true (bytes_eq n x)

-- the distinct ones of the names up to a place
distinct_next : (names : List (List ℕ)) (at : ℕ) (name : List ℕ) → at < length names → name ≡ get_or names at name → distinct (take (at + 1) names) ≡ with_name (distinct (take at names)) name
distinct_next names at name below is = ap distinct (next_item names at name below is) ∙ distinct_with (take at names) name

-- a name that stands earlier adds none
pub kept_again : (own : List ℕ) (names : List (List ℕ)) (at : ℕ) (name : List ℕ) (files : List (List ℕ)) → at < length names → name ≡ get_or names at name → is_among (take at names) name ≡ true → HasKept own (take at names) files → HasKept own (take (at + 1) names) files
kept_again own names at name files below is among h =
    let there : is_among (distinct (take at names)) name ≡ true = among_distinct (take at names) name ∙ among in
    record {
      kept = h.kept;
      files = h.files;
      same = h.same ∙ sym (distinct_next names at name below is ∙ ap (λ b. cond b (distinct (take at names)) (distinct (take at names) ++ name ∷ [])) there);
    }

-- any other may be a new one
pub kept_more : (own : List ℕ) (names : List (List ℕ)) (at : ℕ) (name : List ℕ) (old new : List (List ℕ)) → at < length names → name ≡ get_or names at name → new ≡ old ++ name ∷ [] → HasKept own (take at names) old → HasKept own (take (at + 1) names) new
kept_more own names at name old new below is more h =
    record {
      kept = h.kept ++ name ∷ [];
      files = more ∙ ap (λ l. l ++ name ∷ []) h.files;
      same = distinct_with h.kept name ∙ ap (λ l. with_name l name) h.same ∙ sym (distinct_next names at name below is);
    }

-- those that are kept, where no two of them are the same
pub kept_apart : (own : List ℕ) (names files : List (List ℕ)) → distinct (drop 1 files) ≡ drop 1 files → HasKept own names files → files ≡ own ∷ distinct names
kept_apart own names files apart h =
    let behind : drop 1 files ≡ h.kept = ap (drop 1) h.files in
    h.files ∙ ap (λ l. own ∷ l) (sym behind ∙ sym apart ∙ ap distinct behind ∙ h.same)
