-- What stands behind an element, by the item in front.
use Rattle.std.proofs.Common.{◌≡◌, ℕ, ◌-◌, ◌<◌, ◌≤◌, true, false, cond, List, [], ◌∷◌, ◌++◌, length, Result, Ok, Err, refl, sym, ap, subst, ◌∙◌, arith, nat_le}
use Rattle.std.proofs.lemmas.Bool.Decides.{nat_tests}
use Rattle.vrt_markup.specs.Items.{item_at, Item, bad, comment, run, open_tag, close_tag, Tag, is_equal, is_name}
use Rattle.lists_and_answers.specs.Answers.{◌>>=◌}
use Rattle.vrt_markup.specs.Forest.{Forest, stop, ForestRead, with_text, with_element, nodes_step, nodes, inner}
use Rattle.vrt_markup.specs.Views.{past}
use Rattle.vrt_markup.specs.declared.fault.VrtFault.{VrtFault}
use Rattle.vrt_markup.specs.declared.fault.VrtFault.TheVariants.{BadText, UnknownElement, MissingPart, BadNumber, Unsupported, Limit, Memory}
use Rattle.vrt_markup.specs.Kept.{Fails}
use Rattle.vrt_markup.proofs.Next.{next}
use Rattle.vrt_markup.proofs.EndTags.{end_item, equal_itself}

-- nodes by an item that is known
pub at_item : (T d : ℕ) (n t : List ℕ) (i : Item) → i ≡ item_at t → nodes T d n t ≡ nodes_step (nodes T) T d n t i
at_item T d n t i e = next T d n t ∙ ap (nodes_step (nodes T) T d n t) (sym e)

pub leb_deep : (d : ℕ) → 64 ≤ d → nat_le 64 d ≡ true
leb_deep d h = grind (arith, nat_tests)

pub leb_not_deep : (d : ℕ) → d < 64 → nat_le 64 d ≡ false
leb_not_deep d h = grind (arith, nat_tests)

pub past_bad : (T d : ℕ) (n t : List ℕ) → bad ≡ item_at t → past (nodes T d n t) ≡ Err (BadText (T - length t))
past_bad T d n t e = ap past (at_item T d n t bad e)

pub past_comment : (T d : ℕ) (n t r : List ℕ) → comment r ≡ item_at t → past (nodes T d n t) ≡ past (nodes T d n r)
past_comment T d n t r e = ap past (at_item T d n t (comment r) e)

behind_text : (raw : List ℕ) (x : ForestRead) → past (x >>= with_text raw) ≡ past x
behind_text raw (Ok x) = refl
behind_text raw (Err e) = refl

pub past_run : (T d : ℕ) (n t raw r : List ℕ) → run raw r ≡ item_at t → past (nodes T d n t) ≡ past (nodes T d n r)
past_run T d n t raw r e = ap past (at_item T d n t (run raw r) e) ∙ behind_text raw (nodes T d n r)

pub past_close : (T d : ℕ) (n t o r : List ℕ) → close_tag o r ≡ item_at t → is_equal o n ≡ true → past (nodes T d n t) ≡ Ok r
past_close T d n t o r e same = ap past (at_item T d n t (close_tag o r) e) ∙ ap (λ b. past (cond b (Ok (stop, r)) (Err (BadText (T - length t))))) same

-- the end tag of the element's own name
pub past_end : (T d : ℕ) (n t r : List ℕ) → t ≡ 60 ∷ 47 ∷ n ++ 62 ∷ r → is_name n ≡ true → past (nodes T d n t) ≡ Ok r
past_end T d n t r e named = past_close T d n t n r (end_item t n r e named) (equal_itself n)

pub past_other : (T d : ℕ) (n t o r : List ℕ) → close_tag o r ≡ item_at t → is_equal o n ≡ false → past (nodes T d n t) ≡ Err (BadText (T - length t))
past_other T d n t o r e same = ap past (at_item T d n t (close_tag o r) e) ∙ ap (λ b. past (cond b (Ok (stop, r)) (Err (BadText (T - length t))))) same

abbrev pub opened : ℕ → ℕ → List ℕ → List ℕ → Tag → ForestRead → ForestRead
opened T d n t tag x = x >>= λ y. nodes T d n y.1 >>= with_element (T - length t) tag y.0

pub past_deep : (T d : ℕ) (n t : List ℕ) (tag : Tag) (r : List ℕ) → open_tag tag r ≡ item_at t → 64 ≤ d → past (nodes T d n t) ≡ Err Limit
past_deep T d n t tag r e deep = ap past (at_item T d n t (open_tag tag r) e) ∙ ap (λ b. past (cond b (Err Limit) (opened T d n t tag (inner T d tag r)))) (leb_deep d deep)

pub at_open : (T d : ℕ) (n t : List ℕ) (tag : Tag) (r : List ℕ) → open_tag tag r ≡ item_at t → d < 64 → nodes T d n t ≡ opened T d n t tag (inner T d tag r)
at_open T d n t tag r e less = at_item T d n t (open_tag tag r) e ∙ ap (λ b. cond b (Err Limit) (opened T d n t tag (inner T d tag r))) (leb_not_deep d less)

behind_element : (place : ℕ) (tag : Tag) (inside : Forest) (x : ForestRead) → past (x >>= with_element place tag inside) ≡ past x
behind_element place tag inside (Ok x) = refl
behind_element place tag inside (Err e) = refl

abbrev left_of : Result (List ℕ) VrtFault → List ℕ
left_of (Ok r) = r
left_of (Err e) = []

opened_past : (T d : ℕ) (n t : List ℕ) (tag : Tag) (x : ForestRead) (r : List ℕ) → Ok r ≡ past x → past (opened T d n t tag x) ≡ past (nodes T d n r)
opened_past T d n t tag (Ok y) r e = behind_element (T - length t) tag y.0 (nodes T d n y.1) ∙ ap (λ (z : Result (List ℕ) VrtFault). past (nodes T d n (left_of z))) (sym e)
opened_past T d n t tag (Err f) r e = absurd cc

-- no fault is an answer
pub not_ok : {A B : Type 0} (e : VrtFault) (x : A) (y : Result B VrtFault) → Fails e (Ok x) → Fails e y
not_ok (BadText place) x y h = absurd cc
not_ok (UnknownElement place) x y h = absurd cc
not_ok MissingPart x y h = absurd cc
not_ok BadNumber x y h = absurd cc
not_ok Unsupported x y h = absurd cc
not_ok Limit x y h = absurd cc
not_ok Memory x y h = tt

-- a fault is the same of any answer
pub err_same : (A B : Type 0) (e k : VrtFault) → Fails {Y = A} e (Err k) → Fails {Y = B} e (Err k)
err_same A B (BadText place) k h = cc
err_same A B (UnknownElement place) k h = cc
err_same A B MissingPart k h = cc
err_same A B BadNumber k h = cc
err_same A B Unsupported k h = cc
err_same A B Limit k h = cc
err_same A B Memory k h = tt

opened_fails : (T d : ℕ) (n t : List ℕ) (tag : Tag) (x : ForestRead) (e : VrtFault) → Fails e (past x) → Fails e (past (opened T d n t tag x))
opened_fails T d n t tag (Ok y) e h = not_ok e y.1 (past (opened T d n t tag (Ok y))) h
opened_fails T d n t tag (Err g) e h = h

pub past_open : (T d : ℕ) (n t : List ℕ) (tag : Tag) (r s : List ℕ) → open_tag tag r ≡ item_at t → d < 64 → Ok s ≡ past (inner T d tag r) → past (nodes T d n t) ≡ past (nodes T d n s)
past_open T d n t tag r s e less inside = ap past (at_open T d n t tag r e less) ∙ opened_past T d n t tag (inner T d tag r) s inside

pub past_fails : (T d : ℕ) (n t : List ℕ) (tag : Tag) (r : List ℕ) (y : Result (List ℕ) VrtFault) (e : VrtFault) → open_tag tag r ≡ item_at t → d < 64 → past (nodes T d n t) ≡ y → Fails e (past (inner T d tag r)) → Fails e y
past_fails T d n t tag r y e h less same inside = subst (Fails e) (ap past (sym (at_open T d n t tag r h less)) ∙ same) (opened_fails T d n t tag (inner T d tag r) e inside)
