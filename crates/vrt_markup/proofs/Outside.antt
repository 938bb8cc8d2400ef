-- What is left behind comments and white space, whatever the fuel.
use Rattle.std.proofs.Common.{◌≡◌, ℕ, zero, suc, ◌-◌, ◌<◌, ◌≤◌, Bool, true, false, cond, List, length, Result, Ok, Err, refl, sym, ap, ◌∙◌, arith}
use Rattle.vrt_markup.specs.Items.{item_at, Item, bad, comment, run, open_tag, close_tag, Tag}
use Rattle.vrt_markup.specs.Forest.{is_all_white}
use Rattle.vrt_markup.specs.Fronts.{IsShorter, root_behind}
use Rattle.vrt_markup.specs.Tree.{space_step, space_by, space, Root, root_item}
use Rattle.vrt_markup.specs.declared.fault.VrtFault.{VrtFault}
use Rattle.vrt_markup.specs.declared.fault.VrtFault.TheVariants.{BadText}
use Rattle.lists_and_answers.specs.Answers.{◌>>=◌}
use Rattle.vrt_markup.specs.Kept.{Fails}
use Rattle.vrt_markup.proofs.Behind.{not_ok, err_same}
use Rattle.vrt_markup.proofs.Shorter.{item_short}

abbrev More : Type 0
More = List ℕ → Result (List ℕ) VrtFault

cond_same : {A : Type 0} (b : Bool) (x y z : A) → x ≡ y → cond b x z ≡ cond b y z
cond_same true x y z e = e
cond_same false x y z e = refl

step_same : (more other : More) (T : ℕ) (t : List ℕ) (i : Item) → IsShorter i t → ((r : List ℕ) → length r < length t → more r ≡ other r) → space_step more T t i ≡ space_step other T t i
step_same more other T t bad i same = refl
step_same more other T t (comment r) i same = same r i
step_same more other T t (run raw r) i same = cond_same (is_all_white raw) (more r) (other r) (Err (BadText (T - length t))) (same r i)
step_same more other T t (open_tag tag r) i same = refl
step_same more other T t (close_tag n r) i same = refl

none_left : (f T : ℕ) (t : List ℕ) (i : Item) → IsShorter i t → length t ≤ 0 → space_step (λ r. space_by f T r) T t i ≡ Ok t
none_left f T t bad i le = refl
none_left f T t (comment r) i le = absurd (omega (arith, i, le))
none_left f T t (run raw r) i le = absurd (omega (arith, i, le))
none_left f T t (open_tag tag r) i le = refl
none_left f T t (close_tag n r) i le = refl

enough : (f g T : ℕ) (t : List ℕ) → length t ≤ f → length t ≤ g → space_by f T t ≡ space_by g T t
enough zero zero T t lf lg = refl
enough zero (suc g) T t lf lg = sym (none_left g T t (item_at t) (item_short t) lf)
enough (suc f) zero T t lf lg = none_left f T t (item_at t) (item_short t) lg
enough (suc f) (suc g) T t lf lg = step_same (λ r. space_by f T r) (λ r. space_by g T r) T t (item_at t) (item_short t) (λ r less. enough f g T r (omega (arith, less, lf)) (omega (arith, less, lg)))

pub next : (T : ℕ) (t : List ℕ) (i : Item) → i ≡ item_at t → space T t ≡ space_step (space T) T t i
next T t i e =
    enough (length t) (suc (length t)) T t (omega arith) (omega arith)
    ∙ step_same (λ r. space_by (length t) T r) (space T) T t (item_at t) (item_short t) (λ r less. enough (length t) (length r) T r (omega (arith, less)) (omega arith))
    ∙ ap (space_step (space T) T t) (sym e)

pub space_bad : (T : ℕ) (t : List ℕ) → bad ≡ item_at t → space T t ≡ Ok t
space_bad T t e = next T t bad e

pub space_open : (T : ℕ) (t : List ℕ) (tag : Tag) (r : List ℕ) → open_tag tag r ≡ item_at t → space T t ≡ Ok t
space_open T t tag r e = next T t (open_tag tag r) e

pub space_close : (T : ℕ) (t n r : List ℕ) → close_tag n r ≡ item_at t → space T t ≡ Ok t
space_close T t n r e = next T t (close_tag n r) e

pub space_comment : (T : ℕ) (t r : List ℕ) → comment r ≡ item_at t → space T t ≡ space T r
space_comment T t r e = next T t (comment r) e

pub space_run : (T : ℕ) (t raw r : List ℕ) → run raw r ≡ item_at t → is_all_white raw ≡ true → space T t ≡ space T r
space_run T t raw r e white = next T t (run raw r) e ∙ ap (λ b. cond b (space T r) (Err (BadText (T - length t)))) white

pub space_text : (T : ℕ) (t raw r : List ℕ) → run raw r ≡ item_at t → is_all_white raw ≡ false → space T t ≡ Err (BadText (T - length t))
space_text T t raw r e white = next T t (run raw r) e ∙ ap (λ b. cond b (space T r) (Err (BadText (T - length t)))) white

-- the root's tag, by the item in front
abbrev from_start : (T : ℕ) → Result (List ℕ) VrtFault → Result Root VrtFault
from_start T s = s >>= λ start. root_item T start (item_at start)

pub root_bad : (T : ℕ) (t : List ℕ) → bad ≡ item_at t → root_behind T t ≡ Err (BadText (T - length t))
root_bad T t e = ap (from_start T) (space_bad T t e) ∙ ap (root_item T t) (sym e)

pub root_open : (T : ℕ) (t : List ℕ) (tag : Tag) (r : List ℕ) → open_tag tag r ≡ item_at t → root_behind T t ≡ Ok (record { place = T - length t; tag = tag; rest = r })
root_open T t tag r e = ap (from_start T) (space_open T t tag r e) ∙ ap (root_item T t) (sym e)

pub root_close : (T : ℕ) (t n r : List ℕ) → close_tag n r ≡ item_at t → root_behind T t ≡ Err (BadText (T - length t))
root_close T t n r e = ap (from_start T) (space_close T t n r e) ∙ ap (root_item T t) (sym e)

pub root_comment : (T : ℕ) (t r : List ℕ) → comment r ≡ item_at t → root_behind T t ≡ root_behind T r
root_comment T t r e = ap (from_start T) (space_comment T t r e)

pub root_run : (T : ℕ) (t raw r : List ℕ) → run raw r ≡ item_at t → is_all_white raw ≡ true → root_behind T t ≡ root_behind T r
root_run T t raw r e white = ap (from_start T) (space_run T t raw r e white)

pub root_text : (T : ℕ) (t raw r : List ℕ) → run raw r ≡ item_at t → is_all_white raw ≡ false → root_behind T t ≡ Err (BadText (T - length t))
root_text T t raw r e white = ap (from_start T) (space_text T t raw r e white)

-- a first step that fails
pub fails_bind : {A B : Type 0} (e : VrtFault) (r : Result A VrtFault) (f : A → Result B VrtFault) → Fails e r → Fails e (r >>= f)
fails_bind e (Ok x) f h = not_ok e x (f x) h
fails_bind e (Err k) f h = err_same _ _ e k h
