-- Which columns of a cell are met.
use Rattle.std.proofs.Common.{◌≡◌, ℕ, ℤ, ◌+◌, ◌<◌, ◌≤◌, ◌⊎◌, inl, inr, ⊎_elim, true, false, cond, List, Some, IsSome, refl, sym, ap, ◌∙◌, subst, arith}
use Rattle.std.specs.Prelude.{Result, Ok, Err, OnOk}
use Rattle.std.proofs.lemmas.Bool.{cases_lt}
use Rattle.band_blocks.specs.declared.key.BlockKey.{BlockKey}
use Rattle.band_blocks.specs.Blocks.{BlockView}
use Rattle.block_cache.specs.declared.pool.Entry.{Entry}
use Rattle.block_cache.specs.Entries.{PoolView, IsPool, pool_view, entry_of, held_at, admitted, patched}
use Rattle.block_cache.proofs.Keys.{key_refl}
use Rattle.block_cache.proofs.Held.{held_after_admit, held_after_patch}
use Rattle.write_back.specs.declared.forms.Writer.{Writer}
use Rattle.write_back.specs.Forms.{cut_of}
use Rattle.write_back.specs.Overlay.{line_key, HoldsDirty, WasMet}
use Rattle.write_back.specs.State.{HasDraft}
use Rattle.write_back.specs.Stores.{AreMet, Changes, StoreState}

-- what holds whatever an answer is
pub ok_any : {T E : Type 0} (r : Result T E) (P : Type 0) → P → OnOk r P
ok_any (Ok v) P p = p
ok_any (Err e) P p = tt

-- a block that was admitted as dirty is held so
pub dirty_admitted : (p q : PoolView) (key : BlockKey) (e : Entry) → IsPool p → q ≡ pool_view (admitted p.capacity key e p.entries) p.capacity → e.dirty ≡ true → HoldsDirty q.entries key
dirty_admitted p q key e valid is dirty = subst (λ (r : PoolView). HoldsDirty r.entries key) (sym is) (e, held_after_admit p.capacity key e p.entries valid.distinct, dirty)

-- and so is one that was patched
pub dirty_patched : (p q : PoolView) (key : BlockKey) (e : Entry) (block : BlockView) → IsPool p → held_at key p.entries ≡ Some e → q ≡ pool_view (patched key block p.entries) p.capacity → HoldsDirty q.entries key
dirty_patched p q key e block valid held is =
    subst (λ (r : PoolView). HoldsDirty r.entries key) (sym is)
    (entry_of block true, held_after_patch key key block p.entries valid.distinct (subst IsSome (sym held) refl) ∙ ap (λ y. cond y (Some (entry_of block true)) (held_at key p.entries)) (key_refl key), refl)

module _ (w : Writer) (band x : ℕ) where
  -- no column is met
  pub met_none : (s t : StoreState) → AreMet w band x 0 s t
  met_none s t = record { each = λ b c has now i less. absurd (omega arith) }

  -- one column more
  pub met_more : (P Q : (ℕ → ℕ → ℕ → ℤ) → (ℕ → ℕ → ℕ → ℤ) → Type 0) (n : ℕ) (s t u : StoreState) → band < (cut_of w).bands → x + n < (cut_of w).blocks → AreMet w band x n s t → Changes w P s t → Changes w Q t u → HoldsDirty u.pool.entries (line_key band (x + n)) → AreMet w band x (n + 1) s u
  met_more P Q n s t u in_bands in_blocks met first second dirty = record {
    each = λ b c has now i less. (
        let mid = first.told b has in
        let last = second.told mid.0 mid.1 in
        let both : Some last.0 ≡ Some c = sym last.1.is ∙ now in
        let same : last.0 ≡ c = cc in
        ⊎_elim
        (λ (earlier : i < n). subst (λ d. WasMet w u.pool.entries d band (x + i)) same (last.3 band (x + i) in_bands (omega arith) (met.each b mid.0 has mid.1.is i earlier)))
        (λ (late : n ≤ i). let e : n ≡ i = omega arith in inr (subst (λ k. HoldsDirty u.pool.entries (line_key band (x + k))) e dirty))
        (cases_lt i n)
        );
  }

  pub met_as : (n k : ℕ) (s t : StoreState) → n ≡ k → AreMet w band x n s t → AreMet w band x k s t
  met_as n k s t same met = subst (λ m. AreMet w band x m s t) same met
