-- What is held after each call: the laws that callers of a pool cite.
use Rattle.std.proofs.Common.{◌≡◌, ℕ, zero, suc, ◌+◌, ◌-◌, ◌<◌, ◌≤◌, ◌⊎◌, inl, inr, true, false, Bool, List, [], ◌∷◌, length, take, Contains, Option, Some, None, refl, sym, ap, ◌∙◌, subst, arith}
use Rattle.std.specs.Prelude.{cond, slice_get, option_map, is_some}
use Rattle.std.specs.List.{IsDistinct, AllByRecursion}
use Rattle.std.specs.List.Sorted.{IsPermutation}
use Rattle.std.specs.Map.{lookup, lookup_entry, remove_entry, keys_of}
use Rattle.std.specs.Option.{option_map_or}
use Rattle.std.proofs.Common.{IsSome, IfSome}
use Rattle.std.proofs.lemmas.List.{take_all}
use Rattle.std.proofs.lemmas.Option.{slice_get_past}
use Rattle.std.proofs.lemmas.List.Sorted.{IsPermutation-refl, IsPermutation-cons, IsPermutation-trans, IsPermutation-middle, length_permutation}
use Rattle.std.proofs.lemmas.Map.{lookup-remove_entry, lookup-set_value}
use Rattle.std.proofs.lemmas.Map.Keys.{IsDistinct-head, IsDistinct-tail}
use Rattle.std.proofs.lemmas.Map.Views.{lookup-from_Contains, Contains-from_lookup}
use Rattle.lru.specs.LruCache.{lru_cache}
use Rattle.lru.proofs.CallerLemmas.{Contains-lookup_entry, Contains-promoted, Contains-put_entries}
use Rattle.band_blocks.specs.declared.key.BlockKey.{BlockKey}
use Rattle.band_blocks.specs.Blocks.{BlockView}
use Rattle.band_blocks.specs.Keys.{same_key}
use Rattle.block_cache.specs.declared.pool.Entry.{Entry}
use Rattle.block_cache.specs.Entries.{IsPool, pool_view, held_at, moved_to_front, admitted, dropped, patched, entry_of}
use Rattle.block_cache.proofs.Keys.{key_laws, key_is, key_refl}

looked_up : (k : BlockKey) (es : List (BlockKey × Entry)) (o : Option (BlockKey × Entry)) → lookup_entry (same_key k) es ≡ o → held_at k es ≡ option_map (λ e. e.1) o
looked_up k [] o h = ap (option_map (λ (e : BlockKey × Entry). e.1)) h
looked_up k (e ∷ es) o h = (elim (same_key k e.0) as (λ y. same_key k e.0 ≡ y → cond y (Some e.1) (lookup (same_key k) es) ≡ option_map (λ e. e.1) o) [
  | true ↦ λ t. ap (option_map (λ (e : BlockKey × Entry). e.1)) (rw t at h)
  | false ↦ λ t. looked_up k es o (rw t at h)
]) refl

found_key : (k : BlockKey) (es : List (BlockKey × Entry)) (f : BlockKey × Entry) → lookup_entry (same_key k) es ≡ Some f → k ≡ f.0
found_key k es f h = key_is k f.0 (Contains-lookup_entry (same_key k) es f h).1

-- the look-up of j, where the entry of k went to the front with another value
front_held : (j k : BlockKey) (es : List (BlockKey × Entry)) (f : BlockKey × Entry) (e : Entry) → IsDistinct same_key (keys_of es) → lookup_entry (same_key k) es ≡ Some f
    → held_at j ((f.0, e) ∷ remove_entry (same_key k) es) ≡ cond (same_key j k) (Some e) (held_at j es)
front_held j k es f e distinct h =
    let rest : lookup (same_key j) (remove_entry (same_key k) es) ≡ cond (same_key k j) None (held_at j es) = lookup-remove_entry key_laws (same_key k) (λ x y t. ap (λ z. same_key z y) (key_is k x t)) j es distinct in
    ap (λ x. cond (same_key j x) (Some e) (lookup (same_key j) (remove_entry (same_key k) es))) (sym (found_key k es f h))
    ∙ ap (cond (same_key j k) (Some e)) (rest ∙ ap (λ y. cond y None (held_at j es)) (key_laws.symm k j))
    ∙ (elim (same_key j k) as (λ y. cond y (Some e) (cond y None (held_at j es)) ≡ cond y (Some e) (held_at j es)) [ true ↦ refl | false ↦ refl ])

moved_held : (j k : BlockKey) (es : List (BlockKey × Entry)) (o : Option (BlockKey × Entry)) → IsDistinct same_key (keys_of es) → lookup_entry (same_key k) es ≡ o
    → held_at j (option_map_or (λ e. e ∷ remove_entry (same_key k) es) o es) ≡ held_at j es
moved_held j k es None distinct h = refl
moved_held j k es (Some f) distinct h = front_held j k es f f.1 distinct h ∙ (elim (same_key j k) as (λ y. same_key j k ≡ y → cond y (Some f.1) (held_at j es) ≡ held_at j es) [
  | true ↦ λ t. sym (ap (λ x. held_at x es) (key_is j k t) ∙ looked_up k es (Some f) h)
  | false ↦ λ t. refl
]) refl

-- a look-up that made an entry the most recent changed nothing of what is held
pub held_after_find : (j k : BlockKey) (es : List (BlockKey × Entry)) → IsDistinct same_key (keys_of es) → held_at j (moved_to_front k es) ≡ held_at j es
held_after_find j k es distinct = moved_held j k es (lookup_entry (same_key k) es) distinct refl

admitted_held : (capacity : ℕ) (k : BlockKey) (e : Entry) (es : List (BlockKey × Entry)) (o : Option (BlockKey × Entry)) → IsDistinct same_key (keys_of es) → lookup_entry (same_key k) es ≡ o
    → held_at k (option_map_or (λ f. (f.0, e) ∷ remove_entry (same_key k) es) o ((k, e) ∷ take (capacity - 1) es)) ≡ Some e
admitted_held capacity k e es None distinct h = ap (λ y. cond y (Some e) (lookup (same_key k) (take (capacity - 1) es))) (key_refl k)
admitted_held capacity k e es (Some f) distinct h = front_held k k es f e distinct h ∙ ap (λ y. cond y (Some e) (held_at k es)) (key_refl k)

-- a key is held once it was admitted
pub held_after_admit : (capacity : ℕ) (k : BlockKey) (e : Entry) (es : List (BlockKey × Entry)) → IsDistinct same_key (keys_of es) → held_at k (admitted capacity k e es) ≡ Some e
held_after_admit capacity k e es distinct = admitted_held capacity k e es (lookup_entry (same_key k) es) distinct refl

-- what is looked up among n + 1 entries is among the first n, or the last
taken_held : (j : BlockKey) (n : ℕ) (es : List (BlockKey × Entry)) (f : Entry) → length es ≤ n + 1 → held_at j es ≡ Some f
    → (held_at j (take n es) ≡ Some f) ⊎ (slice_get es n ≡ Some (j, f))
taken_held j n [] f less h = absurd (cc)
taken_held j zero (g ∷ []) f less h = (elim (same_key j g.0) as (λ y. same_key j g.0 ≡ y → (held_at j [] ≡ Some f) ⊎ (Some g ≡ Some (j, f))) [
  | true ↦ λ t. let h' = rw t at h in let v : g.1 ≡ f = cc in let k = key_is j g.0 t in inr (ap (λ x. Some (x, g.1)) (sym k) ∙ ap (λ x. Some (j, x)) v)
  | false ↦ λ t. let h' = rw t at h in absurd (cc)
]) refl
taken_held j zero (g ∷ i ∷ es) f less h = absurd (omega arith)
taken_held j (suc n) (g ∷ es) f less h = (elim (same_key j g.0) as (λ y. same_key j g.0 ≡ y → (cond y (Some g.1) (held_at j (take n es)) ≡ Some f) ⊎ (slice_get es n ≡ Some (j, f))) [
  | true ↦ λ t. inl (rw t at h)
  | false ↦ λ t. taken_held j n es f (omega arith) (rw t at h)
]) refl

taken_absent : (j : BlockKey) (n : ℕ) (es : List (BlockKey × Entry)) → held_at j es ≡ None → held_at j (take n es) ≡ None
taken_absent j zero es h = refl
taken_absent j (suc n) [] h = refl
taken_absent j (suc n) (g ∷ es) h = (elim (same_key j g.0) as (λ y. same_key j g.0 ≡ y → cond y (Some g.1) (held_at j (take n es)) ≡ None) [
  | true ↦ λ t. let h' = rw t at h in absurd (cc)
  | false ↦ λ t. taken_absent j n es (rw t at h)
]) refl

kept_by : (capacity : ℕ) (j k : BlockKey) (e f : Entry) (es : List (BlockKey × Entry)) (o : Option (BlockKey × Entry)) → IsPool (pool_view es capacity) → lookup_entry (same_key k) es ≡ o → same_key j k ≡ false → held_at j es ≡ Some f
    → (held_at j (option_map_or (λ f. (f.0, e) ∷ remove_entry (same_key k) es) o ((k, e) ∷ take (capacity - 1) es)) ≡ Some f) ⊎ (cond (is_some (option_map (λ (e : BlockKey × Entry). e.1) o)) None (slice_get es (capacity - 1)) ≡ Some (j, f))
kept_by capacity j k e f es None pool h other held =
    let w = pool.within in let s = pool.some in
    elim (taken_held j (capacity - 1) es f (omega arith) held) [
      | inl here ↦ inl (ap (λ y. cond y (Some e) (held_at j (take (capacity - 1) es))) other ∙ here)
      | inr last ↦ inr last
    ]
kept_by capacity j k e f es (Some g) pool h other held = inl (front_held j k es g e pool.distinct h ∙ ap (λ y. cond y (Some e) (held_at j es)) other ∙ held)

-- another key stays with its entry, unless the entry is the one that was dropped
pub kept_after_admit : (capacity : ℕ) (j k : BlockKey) (e f : Entry) (es : List (BlockKey × Entry)) → IsPool (pool_view es capacity) → same_key j k ≡ false → held_at j es ≡ Some f
    → (held_at j (admitted capacity k e es) ≡ Some f) ⊎ (dropped capacity k es ≡ Some (j, f))
kept_after_admit capacity j k e f es pool other held = rw (looked_up k es (lookup_entry (same_key k) es) refl) (kept_by capacity j k e f es (lookup_entry (same_key k) es) pool refl other held)

absent_by : (capacity : ℕ) (j k : BlockKey) (e : Entry) (es : List (BlockKey × Entry)) (o : Option (BlockKey × Entry)) → IsDistinct same_key (keys_of es) → lookup_entry (same_key k) es ≡ o → same_key j k ≡ false → held_at j es ≡ None
    → held_at j (option_map_or (λ f. (f.0, e) ∷ remove_entry (same_key k) es) o ((k, e) ∷ take (capacity - 1) es)) ≡ None
absent_by capacity j k e es None distinct h other held = ap (λ y. cond y (Some e) (held_at j (take (capacity - 1) es))) other ∙ taken_absent j (capacity - 1) es held
absent_by capacity j k e es (Some g) distinct h other held = front_held j k es g e distinct h ∙ ap (λ y. cond y (Some e) (held_at j es)) other ∙ held

-- no other key comes to be held
pub absent_after_admit : (capacity : ℕ) (j k : BlockKey) (e : Entry) (es : List (BlockKey × Entry)) → IsDistinct same_key (keys_of es) → same_key j k ≡ false → held_at j es ≡ None → held_at j (admitted capacity k e es) ≡ None
absent_after_admit capacity j k e es distinct other held = absent_by capacity j k e es (lookup_entry (same_key k) es) distinct refl other held

at_place : (P : BlockKey → Type 0) (n : ℕ) (es : List (BlockKey × Entry)) (x : BlockKey × Entry) → AllByRecursion P (keys_of es) → slice_get es n ≡ Some x → P x.0
at_place P n [] x all h = absurd (cc)
at_place P zero (g ∷ es) x all h = let same : g ≡ x = cc in subst (λ y. P y.0) same all.0
at_place P (suc n) (g ∷ es) x all h = at_place P n es x all.1 h

-- an entry is held, and isn't among those before it
place_held : (n : ℕ) (es : List (BlockKey × Entry)) (x : BlockKey × Entry) → IsDistinct same_key (keys_of es) → slice_get es n ≡ Some x → (held_at x.0 (take n es) ≡ None) × (held_at x.0 es ≡ Some x.1)
place_held n [] x distinct h = absurd (cc)
place_held zero (g ∷ es) x distinct h = let same : g ≡ x = cc in (refl, subst (λ y. held_at y.0 (g ∷ es) ≡ Some y.1) same (ap (λ y. cond y (Some g.1) (held_at g.0 es)) (key_refl g.0)))
place_held (suc n) (g ∷ es) x distinct h =
    let on = place_held n es x (IsDistinct-tail same_key g.0 (keys_of es) distinct) h in
    let other : same_key x.0 g.0 ≡ false = key_laws.symm x.0 g.0 ∙ at_place (λ y. same_key g.0 y ≡ false) n es x (IsDistinct-head same_key g.0 (keys_of es) distinct) h in
    (ap (λ y. cond y (Some g.1) (held_at x.0 (take n es))) other ∙ on.0, ap (λ y. cond y (Some g.1) (held_at x.0 es)) other ∙ on.1)

-- what was dropped was held, with its entry, and isn't any more
pub record IsDropped (capacity : ℕ) (k : BlockKey) (e : Entry) (es : List (BlockKey × Entry)) (x : BlockKey × Entry) : Type 0 where
  pub before : held_at x.0 es ≡ Some x.1
  pub after : held_at x.0 (admitted capacity k e es) ≡ None

dropped_by : (capacity : ℕ) (k : BlockKey) (e : Entry) (es : List (BlockKey × Entry)) (x : BlockKey × Entry) (o : Option (BlockKey × Entry)) → IsPool (pool_view es capacity) → lookup_entry (same_key k) es ≡ o
    → cond (is_some (option_map (λ (e : BlockKey × Entry). e.1) o)) None (slice_get es (capacity - 1)) ≡ Some x
    → (held_at x.0 es ≡ Some x.1) × (held_at x.0 (option_map_or (λ f. (f.0, e) ∷ remove_entry (same_key k) es) o ((k, e) ∷ take (capacity - 1) es)) ≡ None)
dropped_by capacity k e es x (Some g) pool h is = absurd (cc)
dropped_by capacity k e es x None pool h is =
    let here = place_held (capacity - 1) es x pool.distinct is in (
      here.1,
      (elim (same_key x.0 k) as (λ y. same_key x.0 k ≡ y → cond y (Some e) (held_at x.0 (take (capacity - 1) es)) ≡ None) [
        | true ↦ λ t. let clash : None ≡ Some x.1 = sym (looked_up k es None h) ∙ ap (λ y. held_at y es) (sym (key_is x.0 k t)) ∙ here.1 in absurd (cc)
        | false ↦ λ t. here.0
      ]) refl,
    )

pub dropped_is_gone : (capacity : ℕ) (k : BlockKey) (e : Entry) (es : List (BlockKey × Entry)) (x : BlockKey × Entry) → IsPool (pool_view es capacity) → dropped capacity k es ≡ Some x → IsDropped capacity k e es x
dropped_is_gone capacity k e es x pool is =
    let both = dropped_by capacity k e es x (lookup_entry (same_key k) es) pool refl (ap (λ o. cond (is_some o) None (slice_get es (capacity - 1))) (sym (looked_up k es (lookup_entry (same_key k) es) refl)) ∙ is) in
    record { before = both.0; after = both.1 }

none_either : {X : Type 0} (y : Bool) (o : Option X) → o ≡ None → cond y None o ≡ None
none_either true o h = refl
none_either false o h = h

-- nothing is dropped where there is room
pub none_dropped : (capacity : ℕ) (k : BlockKey) (es : List (BlockKey × Entry)) → length es < capacity → dropped capacity k es ≡ None
none_dropped capacity k es room = none_either (is_some (held_at k es)) (slice_get es (capacity - 1)) (slice_get_past es (capacity - 1) (omega arith))

moved_order : (k : BlockKey) (es : List (BlockKey × Entry)) (f : BlockKey × Entry) → lookup_entry (same_key k) es ≡ Some f → IsPermutation es (f ∷ remove_entry (same_key k) es)
moved_order k [] f h = absurd (cc)
moved_order k (e ∷ es) f h = (elim (same_key k e.0) as (λ y. same_key k e.0 ≡ y → IsPermutation (e ∷ es) (f ∷ cond y es (e ∷ remove_entry (same_key k) es))) [
  | true ↦ λ t. let h' = rw t at h in let same : e ≡ f = cc in subst (λ g. IsPermutation (e ∷ es) (g ∷ es)) same (IsPermutation-refl (e ∷ es))
  | false ↦ λ t. IsPermutation-trans (e ∷ es) (e ∷ f ∷ remove_entry (same_key k) es) (f ∷ e ∷ remove_entry (same_key k) es)
      (IsPermutation-cons e es (f ∷ remove_entry (same_key k) es) (moved_order k es f (rw t at h)))
      (IsPermutation-middle (e ∷ []) f (remove_entry (same_key k) es))
]) refl

order_by : (k : BlockKey) (es : List (BlockKey × Entry)) (o : Option (BlockKey × Entry)) → lookup_entry (same_key k) es ≡ o → IsPermutation es (option_map_or (λ e. e ∷ remove_entry (same_key k) es) o es)
order_by k es None h = IsPermutation-refl es
order_by k es (Some f) h = moved_order k es f h

-- a look-up changes the order alone
pub order_after_find : (k : BlockKey) (es : List (BlockKey × Entry)) → IsPermutation es (moved_to_front k es)
order_after_find k es = order_by k es (lookup_entry (same_key k) es) refl

pub length_after_find : (k : BlockKey) (es : List (BlockKey × Entry)) → length (moved_to_front k es) ≡ length es
length_after_find k es = length_permutation es (moved_to_front k es) (order_after_find k es)

length_by : (capacity : ℕ) (k : BlockKey) (e : Entry) (es : List (BlockKey × Entry)) (o : Option (BlockKey × Entry)) → lookup_entry (same_key k) es ≡ o → option_map (λ (e : BlockKey × Entry). e.1) o ≡ None → length es < capacity
    → length (option_map_or (λ f. (f.0, e) ∷ remove_entry (same_key k) es) o ((k, e) ∷ take (capacity - 1) es)) ≡ length es + 1
length_by capacity k e es (Some f) h none room = absurd (cc)
length_by capacity k e es None h none room = let all = ap length (take_all (capacity - 1) es (omega arith)) in omega arith

-- where there is room, a new key is one more
pub one_more_held : (capacity : ℕ) (k : BlockKey) (e : Entry) (es : List (BlockKey × Entry)) → held_at k es ≡ None → length es < capacity → length (admitted capacity k e es) ≡ length es + 1
one_more_held capacity k e es none room = length_by capacity k e es (lookup_entry (same_key k) es) refl (sym (looked_up k es (lookup_entry (same_key k) es) refl) ∙ none) room

pub held_after_patch : (j k : BlockKey) (block : BlockView) (es : List (BlockKey × Entry)) → IsDistinct same_key (keys_of es) → IsSome (held_at k es) → held_at j (patched k block es) ≡ cond (same_key k j) (Some (entry_of block true)) (held_at j es)
held_after_patch j k block es distinct some =
    lookup-set_value key_laws (same_key k) (λ x y t. ap (λ z. same_key z y) (key_is k x t)) j (entry_of block true) (moved_to_front k es) (subst IsSome (sym (held_after_find k k es distinct)) some)
    ∙ ap (cond (same_key k j) (Some (entry_of block true))) (held_after_find j k es distinct)

-- what is held is an entry, and each entry is held
pub entry_of_held : (k : BlockKey) (es : List (BlockKey × Entry)) (e : Entry) → held_at k es ≡ Some e → Contains es (k, e)
entry_of_held k es e h = Contains-from_lookup key_is k e es h

pub held_of_entry : (k : BlockKey) (es : List (BlockKey × Entry)) (e : Entry) → IsDistinct same_key (keys_of es) → Contains es (k, e) → held_at k es ≡ Some e
held_of_entry k es e distinct h = lookup-from_Contains key_laws k e es distinct h

-- each entry after a look-up was there
pub entry_after_find : (k : BlockKey) (es : List (BlockKey × Entry)) (x : BlockKey × Entry) → Contains (moved_to_front k es) x → Contains es x
entry_after_find k es x h = Contains-promoted (same_key k) es x h

pair_is : (x : BlockKey × Entry) (k : BlockKey) (e : Entry) → x.0 ≡ k → x.1 ≡ e → x ≡ (k, e)
pair_is x k e p q = ap (λ y. (y, x.1)) p ∙ ap (λ y. (k, y)) q

-- each entry after `admit` was there, or is the new one
pub entry_after_admit : (capacity : ℕ) (k : BlockKey) (e : Entry) (es : List (BlockKey × Entry)) (x : BlockKey × Entry) → Contains (admitted capacity k e es) x → Contains es x ⊎ (x ≡ (k, e))
entry_after_admit capacity k e es x h = elim (Contains-put_entries same_key (lru_cache es capacity) k e x h) [
  | inl old ↦ inl old
  | inr new ↦ inr (elim new.1 [
    | inl same ↦ pair_is x k e same new.0
    | inr on ↦ pair_is x k e (sym (key_is k x.0 on.2)) new.0
  ])
]

-- what is known of the block that a look-up lent is known of the block that is held
pub block_after_find : (P : BlockView → Type 0) (k : BlockKey) (es : List (BlockKey × Entry)) (b : BlockView) → IsDistinct same_key (keys_of es) → option_map (λ e. e.block) (held_at k es) ≡ Some b → P b → IfSome (held_at k (moved_to_front k es)) (λ e. P e.block)
block_after_find P k es b distinct found known = rw (held_after_find k k es distinct) (known_of (held_at k es) found)
  where
    known_of : (o : Option Entry) → option_map (λ e. e.block) o ≡ Some b → IfSome o (λ e. P e.block)
    known_of None h = absurd (cc)
    known_of (Some e) h = let same : e.block ≡ b = cc in subst P (sym same) known

pub none_after_find : (P : Entry → Type 0) (k : BlockKey) (es : List (BlockKey × Entry)) → IsDistinct same_key (keys_of es) → option_map (λ e. e.block) (held_at k es) ≡ None → IfSome (held_at k (moved_to_front k es)) P
none_after_find P k es distinct absent = rw (held_after_find k k es distinct) (none_of (held_at k es) absent)
  where
    none_of : (o : Option Entry) → option_map (λ e. e.block) o ≡ None → IfSome o P
    none_of None h = tt
    none_of (Some e) h = absurd (cc)
