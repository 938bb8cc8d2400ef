-- The files of a mosaic while the names of its sources are gathered.
use Rattle.std.specs.Prelude.{◌≡◌, ℕ, ◌&&◌, Bool, true, List, [], ◌∷◌, IfSome}
use Rattle.std.specs.declared.cmp.Ordering.{Ordering}
use Rattle.std.specs.declared.cmp.Ordering.TheVariants.{Greater}
use Rattle.std.specs.Ordering.{is_gt, nat_cmp}
use Rattle.std.specs.Cmp.Lexicographic.{slice_cmp}
use Rattle.std.specs.List.{filter_map}
use Rattle.lists_and_answers.specs.Lists.{is_among}
use Rattle.vrt_profile.specs.Values.{SourceValue}
use Rattle.catalog.specs.declared.gathered.Gathered.{Gathered}
use Rattle.catalog.specs.Mosaics.{distinct, source_name}

-- how a name compares with the last of some names
abbrev pub last_order : List ℕ → List (List ℕ) → List ℕ → Ordering
last_order n [] x = slice_cmp nat_cmp x n
last_order n (m ∷ ms) x = last_order m ms x

-- how a name compares with the last of those behind the first one: it is greater where there is none
abbrev pub order_behind : List (List ℕ) → List ℕ → Ordering
order_behind [] x = Greater
order_behind (own ∷ []) x = Greater
order_behind (own ∷ n ∷ ns) x = last_order n ns x

-- whether each name is greater than the one before it
abbrev pub rises : List ℕ → List (List ℕ) → Bool
rises n [] = true
rises n (m ∷ ms) = is_gt (slice_cmp nat_cmp m n) && rises m ms

-- whether the names of a list rise, each greater than the one before it
abbrev pub is_rising : List (List ℕ) → Bool
is_rising [] = true
is_rising (n ∷ ns) = rises n ns

-- behind the own name there are names of which some may stand again, and it is known whether they rise
pub record HasGathered (own : List ℕ) (names : List (List ℕ)) (g : Gathered) : Type 0 where
  pub kept : List (List ℕ)
  pub files : g.files ≡ own ∷ kept
  pub rising : g.rising ≡ is_rising kept
  pub same : distinct kept ≡ distinct names

-- behind the own name some of the names stand, each of them at least once, and in the order in which it first stands
pub record HasKept (own : List ℕ) (names listed : List (List ℕ)) : Type 0 where
  pub kept : List (List ℕ)
  pub files : listed ≡ own ∷ kept
  pub same : distinct kept ≡ distinct names

-- the name of a source, if it has one, is that of one of the sources before it
abbrev pub IsThere : List ℕ → List SourceValue → SourceValue → Type 0
IsThere base before s = IfSome (source_name base s)
    (λ name. is_among (filter_map (source_name base) before) name ≡ true)
