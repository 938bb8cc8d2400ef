-- Keys that are the same, and the entries of a pool after a change.
use Rattle.std.proofs.Common.{◌≡◌, ℕ, ◌+◌, ◌-◌, ◌≤◌, ◌<◌, List, [], ◌∷◌, Option, Some, None, Bool, true, false, refl, sym, subst, inl, inr, length, take, arith}
use Rattle.std.proofs.Common.{Result, Ok, Err, OnOk}
use Rattle.std.specs.Prelude.{◌&&◌, ⊤, is_some}
use Rattle.std.specs.Map.{lookup_entry, remove_entry}
use Rattle.std.specs.Option.{option_map_or, option_or}
use Rattle.std.specs.Option.{IsSomeAnd}
use Rattle.std.proofs.lemmas.Bool.{eqb-true}
use Rattle.std.proofs.lemmas.List.{length-take}
use Rattle.lru.specs.LruCache.{lru_cache}
use Rattle.lru.proofs.CallerLemmas.{Contains-put_entries, Contains-promoted, Contains-lookup}
use Rattle.band_blocks.specs.declared.key.BlockKey.{BlockKey}
use Rattle.catalog.specs.Drivers.{Dataset}
use Rattle.band_blocks.specs.Keys.{same_key}
use Rattle.outside.specs.Outside.{Files}
use Rattle.block_cache.specs.declared.pool.Entry.{Entry}
use Rattle.block_cache.specs.Entries.{moved_to_front, admitted, held_at, pool_view}
use Rattle.std.proofs.lemmas.Bool.Decides.{nat_tests}
use Rattle.band_blocks.specs.Contents.{IsBlock}
use Rattle.nearest_window.specs.Lanes.{LaneView, lane_view}
use Rattle.nearest_window.specs.HeldBlocks.{IsHeldWith, IsKept}
use Rattle.nearest_window.specs.Right.{AreBlocks}

both_true : (a b : Bool) → (a && b) ≡ true → (a ≡ true) × (b ≡ true)
both_true true b h = (refl, h)
both_true false b h = absurd (cc)

pub same_key_true : (a b : BlockKey) → same_key a b ≡ true → a ≡ b
same_key_true a b h =
    let p = both_true _ _ h in let q = both_true _ _ p.1 in
    let f = eqb-true a.dataset b.dataset p.0 in let g = eqb-true a.band b.band q.0 in let k = eqb-true a.block b.block q.1 in
    λ i. record { dataset = f i; band = g i; block = k i }

pub length_moved : (k : BlockKey) (es : List (BlockKey × Entry)) → length (moved_to_front k es) ≡ length es
length_moved k es = on es (lookup_entry (same_key k) es) refl
  where
    removed : (es : List (BlockKey × Entry)) (e : BlockKey × Entry) → lookup_entry (same_key k) es ≡ Some e → length (remove_entry (same_key k) es) + 1 ≡ length es
    removed [] e h = cc
    removed (f ∷ es) e h = (elim (same_key k f.0) as (λ b. same_key k f.0 ≡ b → length (remove_entry (same_key k) (f ∷ es)) + 1 ≡ length (f ∷ es)) [
      | true ↦ λ t. rw t (omega arith)
      | false ↦ λ t. let r = removed es e (rw t at h) in rw t (omega arith)
    ]) refl

    on : (es : List (BlockKey × Entry)) (o : Option (BlockKey × Entry)) → lookup_entry (same_key k) es ≡ o → length (option_map_or (λ e. e ∷ remove_entry (same_key k) es) o es) ≡ length es
    on es None h = refl
    on es (Some e) h = let r = removed es e h in omega arith

pub are_blocks_moved : (told : Option Files) (cat : List Dataset) (k : BlockKey) (es : List (BlockKey × Entry)) → AreBlocks told cat es → AreBlocks told cat (moved_to_front k es)
are_blocks_moved told cat k es h j e c = h j e (Contains-promoted (same_key k) es (j, e) c)

pub are_blocks_admitted : (told : Option Files) (cat : List Dataset) (cap : ℕ) (k : BlockKey) (e : Entry) (es : List (BlockKey × Entry)) → IsBlock told cat k e.block → AreBlocks told cat es → AreBlocks told cat (admitted cap k e es)
are_blocks_admitted told cat cap k e es new h j f c = elim (Contains-put_entries same_key (lru_cache es cap) k e (j, f) c) [
  | inl was ↦ h j f was
  | inr put ↦
      let same : j ≡ k = elim put.1 [ inl a ↦ a | inr a ↦ sym (same_key_true k j a.2) ] in
      subst (λ i. IsBlock told cat i f.block) (sym same) (subst (λ g. IsBlock told cat k g.block) (sym put.0) new)
]

pub is_block_held : (told : Option Files) (cat : List Dataset) (k : BlockKey) (e : Entry) (es : List (BlockKey × Entry)) → held_at k es ≡ Some e → AreBlocks told cat es → IsBlock told cat k e.block
is_block_held told cat k e es found h =
    let c = Contains-lookup (same_key k) es e found in
    subst (λ i. IsBlock told cat i e.block) (sym (same_key_true k c.0 c.2)) (h c.0 e c.1)

-- an entry more or as many
pub length_admitted : (cap : ℕ) (k : BlockKey) (e : Entry) (es : List (BlockKey × Entry)) → length es ≤ cap → 0 < cap → length es ≤ length (admitted cap k e es)
length_admitted cap k e es p q = on (lookup_entry (same_key k) es) refl
  where
    on : (o : Option (BlockKey × Entry)) → lookup_entry (same_key k) es ≡ o → length es ≤ length (option_map_or (λ old. (old.0, e) ∷ remove_entry (same_key k) es) o ((k, e) ∷ take (cap - 1) es))
    on None h = let t = length-take (cap - 1) es in omega arith
    on (Some old) h = let m : length (old ∷ remove_entry (same_key k) es) ≡ length es = subst (λ o. length (option_map_or (λ e. e ∷ remove_entry (same_key k) es) o es) ≡ length es) h (length_moved k es) in omega arith

pub absent_moved : (k : BlockKey) (es : List (BlockKey × Entry)) → held_at k es ≡ None → held_at k (moved_to_front k es) ≡ None
absent_moved k es h = on (lookup_entry (same_key k) es) refl
  where
    none : (es : List (BlockKey × Entry)) (e : BlockKey × Entry) → held_at k es ≡ None → lookup_entry (same_key k) es ≡ Some e → ⊥
    none [] e h s = cc
    none (f ∷ es) e h s = (elim (same_key k f.0) as (λ b. same_key k f.0 ≡ b → ⊥) [
      | true ↦ λ t. let h' = rw t at h in cc
      | false ↦ λ t. none es e (rw t at h) (rw t at s)
    ]) refl

    on : (o : Option (BlockKey × Entry)) → lookup_entry (same_key k) es ≡ o → held_at k (option_map_or (λ e. e ∷ remove_entry (same_key k) es) o es) ≡ None
    on None s = h
    on (Some e) s = absurd (none es e h s)

pub entry_absent : (k : BlockKey) (es : List (BlockKey × Entry)) → held_at k es ≡ None → lookup_entry (same_key k) es ≡ None
entry_absent k [] h = refl
entry_absent k (f ∷ es) h = (elim (same_key k f.0) as (λ b. same_key k f.0 ≡ b → lookup_entry (same_key k) (f ∷ es) ≡ None) [
  | true ↦ λ t. let h' = rw t at h in cc
  | false ↦ λ t. rw t (entry_absent k es (rw t at h))
]) refl

-- a new key in a pool with room makes one entry more
pub length_admitted_new : (cap : ℕ) (k : BlockKey) (e : Entry) (es : List (BlockKey × Entry)) → held_at k es ≡ None → length es + 1 ≤ cap → length (admitted cap k e es) ≡ length es + 1
length_admitted_new cap k e es h p =
    let n = length-take (cap - 1) es in
    rw (entry_absent k es h) (omega arith)

same_key_refl : (k : BlockKey) → same_key k k ≡ true
same_key_refl k = grind (arith, nat_tests)

-- an admitted key is held
pub held_admitted : (cap : ℕ) (k : BlockKey) (e : Entry) (es : List (BlockKey × Entry)) → held_at k (admitted cap k e es) ≡ Some e
held_admitted cap k e es = on es (lookup_entry (same_key k) es) refl
  where
    found : (es : List (BlockKey × Entry)) (old : BlockKey × Entry) → lookup_entry (same_key k) es ≡ Some old → same_key k old.0 ≡ true
    found [] old h = cc
    found (f ∷ es) old h = (elim (same_key k f.0) as (λ b. same_key k f.0 ≡ b → same_key k old.0 ≡ true) [
      | true ↦ λ t. let h' = rw t at h in let s : f ≡ old = cc in subst (λ g. same_key k g.0 ≡ true) s t
      | false ↦ λ t. found es old (rw t at h)
    ]) refl

    on : (es : List (BlockKey × Entry)) (o : Option (BlockKey × Entry)) → lookup_entry (same_key k) es ≡ o → held_at k (option_map_or (λ old. (old.0, e) ∷ remove_entry (same_key k) es) o ((k, e) ∷ take (cap - 1) es)) ≡ Some e
    on es None h = rw (same_key_refl k) refl
    on es (Some old) h = rw (found es old h) refl

-- a block that one of two pools holds is found
pub found_first : (k : BlockKey) (ps ms : List (BlockKey × Entry)) → is_some (held_at k ps) ≡ true → IsSomeAnd (option_or (held_at k ps) (held_at k ms)) (λ _. ⊤)
found_first k ps ms h = on (held_at k ps) h
  where
    on : (o : Option Entry) → is_some o ≡ true → IsSomeAnd (option_or o (held_at k ms)) (λ _. ⊤)
    on None h = cc
    on (Some e) h = tt

pub found_second : (k : BlockKey) (ps ms : List (BlockKey × Entry)) → is_some (held_at k ms) ≡ true → IsSomeAnd (option_or (held_at k ps) (held_at k ms)) (λ _. ⊤)
found_second k ps ms h = on (held_at k ps) (held_at k ms) h
  where
    on : (o p : Option Entry) → is_some p ≡ true → IsSomeAnd (option_or o p) (λ _. ⊤)
    on None None h = cc
    on None (Some e) h = tt
    on (Some e) p h = tt

-- where the first of two pools holds a block, that is found, and else that of the second
pub found_there : (k : BlockKey) (ps ms : List (BlockKey × Entry)) (P : Entry → Type 0) → is_some (held_at k ps) ≡ true → IsSomeAnd (option_or (held_at k ps) (held_at k ms)) P → IsSomeAnd (held_at k ps) P
found_there k ps ms P h = on (held_at k ps) h
  where
    on : (o : Option Entry) → is_some o ≡ true → IsSomeAnd (option_or o (held_at k ms)) P → IsSomeAnd o P
    on None h found = cc
    on (Some e) h found = found

pub found_beside : (k : BlockKey) (ps ms : List (BlockKey × Entry)) (P : Entry → Type 0) → is_some (held_at k ps) ≡ false → IsSomeAnd (option_or (held_at k ps) (held_at k ms)) P → IsSomeAnd (held_at k ms) P
found_beside k ps ms P h = on (held_at k ps) h
  where
    on : (o : Option Entry) → is_some o ≡ false → IsSomeAnd (option_or o (held_at k ms)) P → IsSomeAnd (held_at k ms) P
    on None h found = found
    on (Some e) h found = cc

pub not_held : (k : BlockKey) (es : List (BlockKey × Entry)) → is_some (held_at k es) ≡ false → held_at k es ≡ None
not_held k es h = on (held_at k es) h
  where
    on : (o : Option Entry) → is_some o ≡ false → o ≡ None
    on None h = refl
    on (Some e) h = cc

held_some : (k : BlockKey) (es : List (BlockKey × Entry)) (e : Entry) → held_at k es ≡ Some e → is_some (held_at k es) ≡ true
held_some k es e h = subst (λ o. is_some o ≡ true) (sym h) refl

-- what was kept in the pool or beside it is held
pub held_made : {T E File : Type 0} (r : Result T E) (p q : LaneView File) (k : BlockKey) (e : Entry) → OnOk r (IsKept k e p q) → OnOk r (IsHeldWith k q (λ _. ⊤))
held_made (Ok x) p q k e kept = elim kept [
  | inl u ↦ subst (λ z. IsHeldWith k z (λ _. ⊤)) (sym u) (found_first k (admitted p.pool.capacity k e p.pool.entries) p.made.entries (held_some k (admitted p.pool.capacity k e p.pool.entries) e (held_admitted p.pool.capacity k e p.pool.entries)))
  | inr u ↦ subst (λ z. IsHeldWith k z (λ _. ⊤)) (sym u) (found_second k p.pool.entries (admitted p.made.capacity k e p.made.entries) (held_some k (admitted p.made.capacity k e p.made.entries) e (held_admitted p.made.capacity k e p.made.entries)))
]
held_made (Err x) p q k e kept = tt

-- the same of the pool alone
pub held_kept : {T E File : Type 0} (r : Result T E) (p q : LaneView File) (k : BlockKey) (e : Entry) → OnOk r (q ≡ lane_view (pool_view (admitted p.pool.capacity k e p.pool.entries) p.pool.capacity) p.files p.made p.indexes p.recalled) → OnOk r (IsHeldWith k q (λ _. ⊤))
held_kept {T} {E} (Ok x) p q k e kept = held_made {T = T} {E = E} (Ok x) p q k e (inl kept)
held_kept {T} {E} (Err x) p q k e kept = tt
