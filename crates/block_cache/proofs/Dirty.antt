-- The last dirty entry of a pool, and the clean ones behind it.
use Rattle.std.proofs.Common.{◌≡◌, ℕ, suc, ◌-◌, List, [], ◌∷◌, ◌++◌, length, take, true, false, Option, Some, None, refl, sym, ap, ◌∙◌, subst, arith, append_assoc, append-nil}
use Rattle.std.specs.Prelude.{slice_get, cond, option_map}
use Rattle.std.specs.Option.{option_or}
use Rattle.band_blocks.specs.declared.key.BlockKey.{BlockKey}
use Rattle.band_blocks.specs.Blocks.{BlockView}
use Rattle.block_cache.specs.declared.pool.Entry.{Entry}
use Rattle.block_cache.specs.Entries.{Taken, last_dirty, left_by, pool_view, entry_of}

abbrev pub AllClean : List (BlockKey × Entry) → Type 0
AllClean [] = Unit {0}
AllClean (e ∷ es) = (e.1.dirty ≡ false) × AllClean es

-- the old entries are the new ones, and clean ones behind them
pub record KeepsClean (old new : List (BlockKey × Entry)) : Type 0 where
  pub clean : List (BlockKey × Entry)
  pub is : old ≡ new ++ clean
  pub all : AllClean clean

abbrev taken : List (BlockKey × Entry) → BlockKey → BlockView → Taken
taken before key block = record { before = before; key = key; block = block }

pub none_dirty : (es : List (BlockKey × Entry)) → AllClean es → last_dirty es ≡ None
none_dirty [] all = refl
none_dirty (e ∷ es) all =
    ap (λ o. option_or (option_map (λ t. taken (e ∷ t.before) t.key t.block) o) (cond e.1.dirty (Some (taken [] e.0 e.1.block)) None)) (none_dirty es all.1)
    ∙ ap (λ y. cond y (Some (taken [] e.0 e.1.block)) None) all.0

pub one_dirty : (before clean : List (BlockKey × Entry)) (x : BlockKey × Entry) → x.1.dirty ≡ true → AllClean clean → last_dirty (before ++ x ∷ clean) ≡ Some (taken before x.0 x.1.block)
one_dirty [] clean x dirty all =
    ap (λ o. option_or (option_map (λ t. taken (x ∷ t.before) t.key t.block) o) (cond x.1.dirty (Some (taken [] x.0 x.1.block)) None)) (none_dirty clean all)
    ∙ ap (λ y. cond y (Some (taken [] x.0 x.1.block)) None) dirty
one_dirty (e ∷ before) clean x dirty all =
    ap (λ o. option_or (option_map (λ t. taken (e ∷ t.before) t.key t.block) o) (cond e.1.dirty (Some (taken [] e.0 e.1.block)) None)) (one_dirty before clean x dirty all)

less_one : (n : ℕ) → suc (suc n) - 1 ≡ suc (suc n - 1)
less_one n = omega arith

last_split : {X : Type 0} (es : List X) (e : X) → slice_get es (length es - 1) ≡ Some e → es ≡ take (length es - 1) es ++ e ∷ []
last_split [] e h = cc
last_split (x ∷ []) e h = let i : x ≡ e = cc in ap (λ v. v ∷ []) i
last_split (x ∷ y ∷ ys) e h =
    let k = less_one (length ys) in
    rw k (ap (λ l. x ∷ l) (last_split (y ∷ ys) e (rw k at h)))

last_none : {X : Type 0} (es : List X) → slice_get es (length es - 1) ≡ None → es ≡ []
last_none [] h = refl
last_none (x ∷ []) h = cc
last_none (x ∷ y ∷ ys) h = let k = less_one (length ys) in let none : y ∷ ys ≡ [] = last_none (y ∷ ys) (rw k at h) in cc

split_off : (old now : List (BlockKey × Entry)) (x : BlockKey × Entry) → slice_get now (length now - 1) ≡ Some x → (keeps : KeepsClean old now) → old ≡ take (length now - 1) now ++ x ∷ keeps.clean
split_off old now x h keeps = keeps.is ∙ ap (λ l. l ++ keeps.clean) (last_split now x h) ∙ append_assoc (take (length now - 1) now) (x ∷ []) keeps.clean

-- one more clean entry was taken out
pub keeps_more : (old now : List (BlockKey × Entry)) (x : BlockKey × Entry) → slice_get now (length now - 1) ≡ Some x → x.1.dirty ≡ false → KeepsClean old now → KeepsClean old (take (length now - 1) now)
keeps_more old now x h clean keeps = record { clean = x ∷ keeps.clean; is = split_off old now x h keeps; all = (clean, keeps.all) }

-- a dirty entry was taken out
pub keeps_taken : (old now : List (BlockKey × Entry)) (x : BlockKey × Entry) → slice_get now (length now - 1) ≡ Some x → x.1.dirty ≡ true → KeepsClean old now → last_dirty old ≡ Some (taken (take (length now - 1) now) x.0 x.1.block)
keeps_taken old now x h dirty keeps = ap last_dirty (split_off old now x h keeps) ∙ one_dirty (take (length now - 1) now) keeps.clean x dirty keeps.all

-- no entry is left
pub keeps_none : (old now : List (BlockKey × Entry)) → slice_get now (length now - 1) ≡ None → KeepsClean old now → (last_dirty old ≡ None) × (take (length now - 1) now ≡ [])
keeps_none old now h keeps =
    let e = last_none now h in
    (none_dirty old (subst AllClean (sym (keeps.is ∙ ap (λ l. l ++ keeps.clean) e)) keeps.all), ap (λ l. take (length l - 1) l) e)

pub keeps_all : (es : List (BlockKey × Entry)) → KeepsClean es es
keeps_all es = record { clean = []; is = sym (append-nil es); all = tt }

pub left_is : (es old : List (BlockKey × Entry)) (now before : ℕ) (o : Option Taken) → last_dirty old ≡ o → es ≡ left_by o → now ≡ before → pool_view es now ≡ pool_view (left_by (last_dirty old)) before
left_is es old now before o is left same = ap (λ l. pool_view l now) left ∙ ap (λ p. pool_view (left_by p) now) (sym is) ∙ ap (pool_view (left_by (last_dirty old))) same

-- the entries are those before the dirty one, the dirty one, and clean ones behind it
pub record IsTakenOut (es : List (BlockKey × Entry)) (t : Taken) : Type 0 where
  pub clean : List (BlockKey × Entry)
  pub is : es ≡ t.before ++ (t.key, entry_of t.block true) ∷ clean
  pub all : AllClean clean

abbrev Found : List (BlockKey × Entry) → Option Taken → Type 0
Found es None = AllClean es
Found es (Some t) = IsTakenOut es t

found : (es : List (BlockKey × Entry)) → Found es (last_dirty es)
found [] = tt
found (e ∷ es) = (elim (last_dirty es) as (λ o. Found es o → Found (e ∷ es) (option_or (option_map (λ t. taken (e ∷ t.before) t.key t.block) o) (cond e.1.dirty (Some (taken [] e.0 e.1.block)) None))) [
  | Some t ↦ λ on. record { clean = on.clean; is = ap (λ l. e ∷ l) on.is; all = on.all }
  | None ↦ λ on. (elim e.1.dirty as (λ y. e.1.dirty ≡ y → Found (e ∷ es) (cond y (Some (taken [] e.0 e.1.block)) None)) [
    | true ↦ λ d. record { clean = es; is = ap (λ y. (e.0, entry_of e.1.block y) ∷ es) d; all = on }
    | false ↦ λ d. (d, on)
  ]) refl
]) (found es)

pub taken_is : (es : List (BlockKey × Entry)) (t : Taken) → last_dirty es ≡ Some t → IsTakenOut es t
taken_is es t h = subst (Found es) h (found es)

pub all_clean : (es : List (BlockKey × Entry)) → last_dirty es ≡ None → AllClean es
all_clean es h = subst (Found es) h (found es)
