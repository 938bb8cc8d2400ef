-- What each call keeps of a pool: no key twice, and no more entries than there may be.
use Rattle.std.proofs.Common.{◌≡◌, ℕ, zero, suc, ◌+◌, ◌-◌, true, false, Bool, List, [], ◌∷◌, length, take, Option, Some, None, refl, sym, ap, ◌∙◌, subst, arith}
use Rattle.std.specs.Prelude.{cond}
use Rattle.std.specs.List.{IsDistinct, AllByRecursion}
use Rattle.std.specs.Map.{lookup_entry, remove_entry, keys_of}
use Rattle.std.specs.Option.{option_map_or}
use Rattle.std.proofs.lemmas.List.{length-take}
use Rattle.std.proofs.lemmas.Map.{keys-set_value}
use Rattle.std.proofs.lemmas.Map.Entries.{length-keys_of}
use Rattle.std.proofs.lemmas.Map.Keys.{IsDistinct-head, IsDistinct-tail, IsDistinct-cons}
use Rattle.band_blocks.specs.declared.key.BlockKey.{BlockKey}
use Rattle.band_blocks.specs.Blocks.{BlockView}
use Rattle.band_blocks.specs.Keys.{same_key}
use Rattle.block_cache.specs.declared.pool.Entry.{Entry}
use Rattle.block_cache.specs.Entries.{IsPool, pool_view, moved_to_front, admitted, patched, entry_of}
use Rattle.block_cache.proofs.Keys.{key_laws}

none_distinct : IsDistinct same_key []
unfolding IsDistinct
none_distinct = tt

module _ {X : Type 0} where
  all_removed : (P : BlockKey → Type 0) (test : BlockKey → Bool) (es : List (BlockKey × X)) → AllByRecursion P (keys_of es) → AllByRecursion P (keys_of (remove_entry test es))
  all_removed P test [] all = all
  all_removed P test (e ∷ es) all = elim (test e.0) as (λ y. AllByRecursion P (keys_of (cond y es (e ∷ remove_entry test es)))) [
    | true ↦ all.1
    | false ↦ (all.0, all_removed P test es all.1)
  ]

  all_taken : (P : BlockKey → Type 0) (n : ℕ) (es : List (BlockKey × X)) → AllByRecursion P (keys_of es) → AllByRecursion P (keys_of (take n es))
  all_taken P zero es all = tt
  all_taken P (suc n) [] all = all
  all_taken P (suc n) (e ∷ es) all = (all.0, all_taken P n es all.1)

  all_found : (P : BlockKey → Type 0) (test : BlockKey → Bool) (es : List (BlockKey × X)) (f : BlockKey × X) → lookup_entry test es ≡ Some f → AllByRecursion P (keys_of es) → P f.0
  all_found P test [] f h all = absurd (cc)
  all_found P test (e ∷ es) f h all = (elim (test e.0) as (λ y. test e.0 ≡ y → P f.0) [
    | true ↦ λ t. let h' = rw t at h in let same : e ≡ f = cc in subst (λ g. P g.0) same all.0
    | false ↦ λ t. all_found P test es f (rw t at h) all.1
  ]) refl

  removed_distinct : (test : BlockKey → Bool) (es : List (BlockKey × X)) → IsDistinct same_key (keys_of es) → IsDistinct same_key (keys_of (remove_entry test es))
  removed_distinct test [] d = d
  removed_distinct test (e ∷ es) d = elim (test e.0) as (λ y. IsDistinct same_key (keys_of (cond y es (e ∷ remove_entry test es)))) [
    | true ↦ IsDistinct-tail same_key e.0 (keys_of es) d
    | false ↦ IsDistinct-cons same_key e.0 (keys_of (remove_entry test es)) (all_removed (λ y. same_key e.0 y ≡ false) test es (IsDistinct-head same_key e.0 (keys_of es) d)) (removed_distinct test es (IsDistinct-tail same_key e.0 (keys_of es) d))
  ]

  taken_distinct : (n : ℕ) (es : List (BlockKey × X)) → IsDistinct same_key (keys_of es) → IsDistinct same_key (keys_of (take n es))
  taken_distinct zero es d = none_distinct
  taken_distinct (suc n) [] d = d
  taken_distinct (suc n) (e ∷ es) d = IsDistinct-cons same_key e.0 (keys_of (take n es)) (all_taken (λ y. same_key e.0 y ≡ false) n es (IsDistinct-head same_key e.0 (keys_of es) d)) (taken_distinct n es (IsDistinct-tail same_key e.0 (keys_of es) d))

  -- no other entry has the key of the one that is found
  found_alone : (test : BlockKey → Bool) (es : List (BlockKey × X)) (f : BlockKey × X) → IsDistinct same_key (keys_of es) → lookup_entry test es ≡ Some f → AllByRecursion (λ y. same_key f.0 y ≡ false) (keys_of (remove_entry test es))
  found_alone test [] f d h = tt
  found_alone test (e ∷ es) f d h =
      let apart = IsDistinct-head same_key e.0 (keys_of es) d in
      (elim (test e.0) as (λ y. test e.0 ≡ y → AllByRecursion (λ k. same_key f.0 k ≡ false) (keys_of (cond y es (e ∷ remove_entry test es)))) [
        | true ↦ λ t. let h' = rw t at h in let same : e ≡ f = cc in subst (λ g. AllByRecursion (λ k. same_key g.0 k ≡ false) (keys_of es)) same apart
        | false ↦ λ t. let on : lookup_entry test es ≡ Some f = rw t at h in
            (key_laws.symm f.0 e.0 ∙ all_found (λ k. same_key e.0 k ≡ false) test es f on apart, found_alone test es f (IsDistinct-tail same_key e.0 (keys_of es) d) on)
      ]) refl

  -- a key that isn't held differs from each that is
  absent_apart : (k : BlockKey) (es : List (BlockKey × X)) → lookup_entry (same_key k) es ≡ None → AllByRecursion (λ y. same_key k y ≡ false) (keys_of es)
  absent_apart k [] h = tt
  absent_apart k (e ∷ es) h = (elim (same_key k e.0) as (λ y. same_key k e.0 ≡ y → (same_key k e.0 ≡ false) × AllByRecursion (λ y. same_key k y ≡ false) (keys_of es)) [
    | true ↦ λ t. let h' = rw t at h in absurd (cc)
    | false ↦ λ t. (t, absent_apart k es (rw t at h))
  ]) refl

  removed_length : (test : BlockKey → Bool) (es : List (BlockKey × X)) (f : BlockKey × X) → lookup_entry test es ≡ Some f → length (remove_entry test es) + 1 ≡ length es
  removed_length test [] f h = absurd (cc)
  removed_length test (e ∷ es) f h = (elim (test e.0) as (λ y. test e.0 ≡ y → length (cond y es (e ∷ remove_entry test es)) + 1 ≡ length (e ∷ es)) [
    | true ↦ λ t. omega arith
    | false ↦ λ t. let n = removed_length test es f (rw t at h) in omega arith
  ]) refl

-- some other value at the key goes to the front
front_keeps : (k : BlockKey) (es : List (BlockKey × Entry)) (capacity : ℕ) (f : BlockKey × Entry) (e : Entry) → IsPool (pool_view es capacity) → lookup_entry (same_key k) es ≡ Some f → IsPool (pool_view ((f.0, e) ∷ remove_entry (same_key k) es) capacity)
front_keeps k es capacity f e pool h = record {
  distinct = IsDistinct-cons same_key f.0 (keys_of (remove_entry (same_key k) es)) (found_alone (same_key k) es f pool.distinct h) (removed_distinct (same_key k) es pool.distinct);
  within = let n = removed_length (same_key k) es f h in let w = pool.within in omega arith;
  some = pool.some;
  few = pool.few;
}

moved_by : (k : BlockKey) (es : List (BlockKey × Entry)) (capacity : ℕ) (o : Option (BlockKey × Entry)) → IsPool (pool_view es capacity) → lookup_entry (same_key k) es ≡ o → IsPool (pool_view (option_map_or (λ e. e ∷ remove_entry (same_key k) es) o es) capacity)
moved_by k es capacity None pool h = pool
moved_by k es capacity (Some f) pool h = front_keeps k es capacity f f.1 pool h

pub moved_keeps : (k : BlockKey) (es : List (BlockKey × Entry)) (capacity : ℕ) → IsPool (pool_view es capacity) → IsPool (pool_view (moved_to_front k es) capacity)
moved_keeps k es capacity pool = moved_by k es capacity (lookup_entry (same_key k) es) pool refl

admitted_by : (k : BlockKey) (e : Entry) (es : List (BlockKey × Entry)) (capacity : ℕ) (o : Option (BlockKey × Entry)) → IsPool (pool_view es capacity) → lookup_entry (same_key k) es ≡ o
    → IsPool (pool_view (option_map_or (λ f. (f.0, e) ∷ remove_entry (same_key k) es) o ((k, e) ∷ take (capacity - 1) es)) capacity)
admitted_by k e es capacity None pool h = record {
  distinct = IsDistinct-cons same_key k (keys_of (take (capacity - 1) es)) (all_taken (λ y. same_key k y ≡ false) (capacity - 1) es (absent_apart k es h)) (taken_distinct (capacity - 1) es pool.distinct);
  within = let n = length-take (capacity - 1) es in let s = pool.some in omega arith;
  some = pool.some;
  few = pool.few;
}
admitted_by k e es capacity (Some f) pool h = front_keeps k es capacity f e pool h

pub admitted_keeps : (k : BlockKey) (e : Entry) (es : List (BlockKey × Entry)) (capacity : ℕ) → IsPool (pool_view es capacity) → IsPool (pool_view (admitted capacity k e es) capacity)
admitted_keeps k e es capacity pool = admitted_by k e es capacity (lookup_entry (same_key k) es) pool refl

pub patched_keeps : (k : BlockKey) (block : BlockView) (es : List (BlockKey × Entry)) (capacity : ℕ) → IsPool (pool_view es capacity) → IsPool (pool_view (patched k block es) capacity)
patched_keeps k block es capacity pool =
    let moved = moved_keeps k es capacity pool in
    let keys = keys-set_value (same_key k) (moved_to_front k es) (entry_of block true) in
    record {
      distinct = subst (IsDistinct same_key) (sym keys) moved.distinct;
      within = let a = length-keys_of (patched k block es) in let b = length-keys_of (moved_to_front k es) in let n = ap length keys in let w = moved.within in omega arith;
      some = pool.some;
      few = pool.few;
    }

-- the first entries alone
pub taken_keeps : (n : ℕ) (es : List (BlockKey × Entry)) (capacity : ℕ) → IsPool (pool_view es capacity) → IsPool (pool_view (take n es) capacity)
taken_keeps n es capacity pool = record {
  distinct = taken_distinct n es pool.distinct;
  within = let l = length-take n es in let w = pool.within in omega arith;
  some = pool.some;
  few = pool.few;
}
