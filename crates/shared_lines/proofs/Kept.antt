-- Each event keeps what is right in every line, so each look shows what is right.
use Rattle.std.proofs.Common.{◌≡◌, ℕ, zero, suc, ◌+◌, List, [], ◌∷◌, replicate, Option, Some, refl, sym, subst, arith}
use Rattle.std.specs.List.{All}
use Rattle.std.specs.Prelude.{slice_get, slice_set}
use Rattle.std.proofs.lemmas.List.Elements.{All-nil, All-cons}
use Rattle.outside.specs.Outside.{Files}
use Rattle.catalog.specs.Drivers.{Dataset}
use Rattle.band_blocks.specs.declared.key.BlockKey.{BlockKey}
use Rattle.band_blocks.specs.Blocks.{BlockView}
use Rattle.band_blocks.specs.Contents.{IsBlock}
use Rattle.shared_lines.specs.Events.{Line, empty, taken, held, Kind, look, leave, take, put, done, Event, key_line_of, opening, IsRight, Changes, Step, Leads, IsRightLine, AreRight, IsRightKind, ShowsRight, LooksAreRight, LinesAreRight}

module _ (told : Option Files) (cat : List Dataset) (count : ℕ) where
  changed : (at : ℕ) (old : Line) (kind : Kind) (new : Line) → Changes told cat count at old kind new → IsRightLine told cat count at old → IsRightLine told cat count at new
  changed at (held k b n) (look j d) new c r = subst (IsRightLine told cat count at) (sym c.3) r
  changed at (held k b (suc n)) leave new c r = subst (IsRightLine told cat count at) (sym c) r
  changed at empty take new c r = subst (IsRightLine told cat count at) (sym c) tt
  changed at (held k b zero) take new c r = subst (IsRightLine told cat count at) (sym c) tt
  changed at taken (put k b) new c r = subst (IsRightLine told cat count at) (sym c.1) c.0
  changed at old done new c r = subst (IsRightLine told cat count at) (sym c) r
  changed at old kind new c r = absurd c

  shown : (at : ℕ) (old : Line) (kind : Kind) (new : Line) → Changes told cat count at old kind new → IsRightLine told cat count at old → IsRightKind told cat count at kind
  shown at (held k b n) (look j d) new c r = subst (λ x. IsRight told cat count at x d) (sym c.0) (subst (IsRight told cat count at k) (sym c.1) r)
  shown at empty (look j d) new c r = absurd c
  shown at taken (look j d) new c r = absurd c
  shown at old leave new c r = tt
  shown at old take new c r = tt
  shown at old (put j d) new c r = tt
  shown at old done new c r = tt

  set_right : (ls : List Line) (shift i : ℕ) (l : Line) → IsRightLine told cat count (shift + i) l → ((j : ℕ) (m : Line) → slice_get ls j ≡ Some m → IsRightLine told cat count (shift + j) m) → (j : ℕ) (m : Line) → slice_get (slice_set ls i l) j ≡ Some m → IsRightLine told cat count (shift + j) m
  set_right [] shift i l r all j m h = all j m h
  set_right (x ∷ xs) shift zero l r all zero m h = let e : l ≡ m = cc in subst (IsRightLine told cat count (shift + 0)) e r
  set_right (x ∷ xs) shift zero l r all (suc j) m h = all (suc j) m h
  set_right (x ∷ xs) shift (suc i) l r all zero m h = all zero m h
  set_right (x ∷ xs) shift (suc i) l r all (suc j) m h =
      let move : (n : ℕ) → shift + suc n ≡ suc shift + n = λ n. omega arith in
      subst (λ n. IsRightLine told cat count n m) (sym (move j))
      (set_right xs (suc shift) i l (subst (λ n. IsRightLine told cat count n l) (move i) r) (λ n o e. subst (λ p. IsRightLine told cat count p o) (move n) (all (suc n) o e)) j m h)

  kept : (old new : List Line) (e : Event) → Step told cat count old e new → AreRight told cat count old → AreRight told cat count new
  kept old new e s all i l h =
      let z : (n : ℕ) → n ≡ 0 + n = λ n. omega arith in
      let r = changed e.at s.line e.kind s.next s.changes (all e.at s.line s.here) in
      subst (λ n. IsRightLine told cat count n l) (sym (z i))
      (set_right old 0 e.at s.next (subst (λ n. IsRightLine told cat count n s.next) (z e.at) r) (λ j m g. subst (λ n. IsRightLine told cat count n m) (z j) (all j m g)) i l (subst (λ ls. slice_get ls i ≡ Some l) s.after h))

  along : (es : List Event) (old new : List Line) → Leads told cat count old es new → AreRight told cat count old → AreRight told cat count new
  along [] old new r all = subst (AreRight told cat count) r all
  along (e ∷ es) old new (mid, s, r) all = along es mid new r (kept old mid e s all)

  looks : (es : List Event) (old new : List Line) → Leads told cat count old es new → AreRight told cat count old → All (ShowsRight told cat count) es
  looks [] old new r all = All-nil (ShowsRight told cat count)
  looks (e ∷ es) old new (mid, s, r) all = All-cons (ShowsRight told cat count) e es (shown e.at s.line e.kind s.next s.changes (all e.at s.line s.here)) (looks es mid new r (kept old mid e s all))

  at_first : (n i : ℕ) (l : Line) → slice_get (replicate n empty) i ≡ Some l → l ≡ empty
  at_first zero i l h = cc
  at_first (suc n) zero l h = cc
  at_first (suc n) (suc i) l h = at_first n i l h

  opened : AreRight told cat count (opening count)
  opened i l h = subst (IsRightLine told cat count i) (sym (at_first count i l h)) tt

  pub looks_are_right : LooksAreRight told cat count
  looks_are_right es ls r = looks es (opening count) ls r opened

  pub lines_are_right : LinesAreRight told cat count
  lines_are_right es ls r = along es (opening count) ls r opened
