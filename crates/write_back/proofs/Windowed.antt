-- What a target holds after a window, by what is said of its data.
use Rattle.std.proofs.Common.{◌≡◌, ℕ, ℤ, ◌+◌, ◌-◌, ◌*◌, ◌≤◌, ◌⊎◌, List, Option, Some, None, refl, sym, ◌∙◌, subst, ⊎_elim, arith}
use Rattle.std.specs.Prelude.{Result, Ok, Err, OnOk}
use Rattle.std.specs.Result.{result_err}
use Rattle.geotransform.specs.declared.types.Rect.{Rect}
use Rattle.outside.specs.Outside.{Files}
use Rattle.write_back.specs.declared.fault.TargetFault.{TargetFault}
use Rattle.write_back.specs.Overlay.{IsOverlaid}
use Rattle.write_back.specs.View.{Output, Blocks, Rows, SheetView, window_blocks, calls_of, lines_after, shown_on, target_of, IsIn, IsNext, IsRightOn, IsSoundOn, Shows}
use Rattle.write_back.specs.Served.{Keeps, PutsWindow}
use Rattle.write_back.specs.Files.{header_in, HasHeader, IsForm, IsTarget}

pub right_after : (o : Output) (told told' : Option Files) (band : ℕ) (rect : Rect) (samples : List ℤ) (s n : SheetView) (done : Result (Unit {0}) TargetFault) → n.output ≡ s.output → OnOk done (PutsWindow band rect samples told told' s n) → result_err done ≡ None → IsRightOn n.output told' n
right_after o told told' band rect samples s n (Ok x) same put none = subst (λ u. IsRightOn u told' n) (sym same) put.right
right_after o told told' band rect samples s n (Err e) same put none = absurd (let clash : Some e ≡ None = none in cc)

-- a target whose data took a window
pub target_after : (band : ℕ) (rect : Rect) (samples : List ℤ) (told told' : Option Files) (r r' c c' w w' : ℕ) (s n : SheetView) (header : Option (Option (List ℕ) × List ℕ)) (done : Result (Unit {0}) TargetFault) (fault : Option TargetFault) → IsTarget told (target_of s header None)
    → Keeps rect s n told told' r r' c c' w w' → OnOk done (PutsWindow band rect samples told told' s n) → fault ≡ result_err done → IsTarget told' (target_of n header fault)
target_after band rect samples told told' r r' c c' w w' s n header done fault was kept put is = record {
  form = subst IsForm (sym kept.output) was.form;
  sound = subst (λ o. IsSoundOn o n) (sym kept.output) kept.sound;
  right = λ none. right_after s.output told told' band rect samples s n done kept.output put (sym is ∙ none);
  headed = subst (λ o. HasHeader (header_in o) told' n.name header) (sym kept.output)
      (subst (λ k. HasHeader (header_in s.output) told' k header) (sym kept.name) (subst (λ m. HasHeader (header_in s.output) m s.name header) (sym kept.names) was.headed));
}

-- and shows it
pub shows_after : (band : ℕ) (rect : Rect) (samples : List ℤ) (told told' : Option Files) (s n : SheetView) (header : Option (Option (List ℕ) × List ℕ)) (f g : Option TargetFault) → n.output ≡ s.output → PutsWindow band rect samples told told' s n → Shows told band rect samples (target_of s header f) (target_of n header g)
shows_after band rect samples told told' s n header f g same put = λ some.
    subst (λ o. IsOverlaid (IsIn s.output) band rect samples (shown_on s.output s.pool s.draft) (shown_on o n.pool n.draft)) (sym same) (put.overlay some)

-- an empty window does nothing
pub nothing_kept : (rect : Rect) (s n : SheetView) (told : Option Files) (r c w : ℕ) → n ≡ s → IsSoundOn s.output s → Keeps rect s n told told r r c c w w
nothing_kept rect s n told r c w same sound = subst (λ v. Keeps rect s v told told r r c c w w) (sym same) (record {
  sound = sound;
  output = refl;
  name = refl;
  capacity = refl;
  names = refl;
  reads = refl;
  counted = omega arith;
  few = more w (window_blocks s.output rect);
  none = λ pooled room. refl;
  calls = more c (calls_of s.output * (w - w));
})
  where
    more : (n k : ℕ) → n ≤ n + k
    more n k = omega arith

no_lines : (o : Output) (n : ℕ) (rect : Rect) → IsForm o → IsNext o n rect → (rect.w ≡ 0) ⊎ (rect.h ≡ 0) → n ≡ lines_after o n rect
no_lines (Blocks w) n rect form next none = refl
no_lines (Rows g) n rect form next none = ⊎_elim
    (λ (narrow : rect.w ≡ 0). absurd (let some = form.some_columns in let wide = next.1 in omega arith))
    (λ (low : rect.h ≡ 0). omega arith)
    none

pub nothing_put : (band : ℕ) (rect : Rect) (samples : List ℤ) (told : Option Files) (s n : SheetView) → n ≡ s → IsForm s.output → IsRightOn s.output told s → IsNext s.output s.lines rect → (rect.w ≡ 0) ⊎ (rect.h ≡ 0) → PutsWindow band rect samples told told s n
nothing_put band rect samples told s n same form right next none = subst (λ v. PutsWindow band rect samples told told s v) (sym same) (record {
  right = right;
  overlay = λ some. record {
    inside = λ x y across down. ⊎_elim (λ (narrow : rect.w ≡ 0). absurd (omega arith)) (λ (low : rect.h ≡ 0). absurd (omega arith)) none;
    outside = λ k x y place apart_from. refl;
  };
  met = λ some. record {
    stays = λ x column was. was;
    here = λ high x left inside. ⊎_elim (λ (narrow : rect.w ≡ 0). absurd (omega arith)) (λ (low : rect.h ≡ 0). absurd (omega arith)) none;
  };
  lines = no_lines s.output s.lines rect form next none;
})
