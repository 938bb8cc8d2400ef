-- Texts of one length are the same where their first bytes are, and their last ones, if none is left between them.
use Rattle.std.proofs.Common.{◌≡◌, ℕ, ◌+◌, ◌-◌, ◌<◌, ◌≤◌, Bool, true, false, cond, ◌&&◌, List, ◌++◌, length, take, drop, Some, None, refl, sym, ap, ◌∙◌, arith, take-take, take_all}
use Rattle.std.specs.Cmp.Lexicographic.{same_text}
use Rattle.std.proofs.lemmas.List.{take-append-drop}
use Rattle.vrt_markup.specs.Items.{is_equal, strip}
use Rattle.vrt_markup.proofs.EndTags.{equal_itself}
use Rattle.vrt_markup.proofs.Fronts.{unlike}

-- a test that holds where two others do, and only there
both_ways : (p q r : Bool) → (r ≡ true → p ≡ true) → (r ≡ true → q ≡ true) → (p ≡ true → q ≡ true → r ≡ true) → (p && q) ≡ r
both_ways true true r to_p to_q from = sym (from refl refl)
both_ways true false true to_p to_q from = to_q refl
both_ways true false false to_p to_q from = refl
both_ways false q true to_p to_q from = to_p refl
both_ways false q false to_p to_q from = refl

equal_whole : (a b : List ℕ) → a ≡ b → is_equal a b ≡ true
equal_whole a b same = ap (λ t. is_equal t b) same ∙ equal_itself b

-- the same texts have the same parts
equal_part : (f : List ℕ → List ℕ) (a b : List ℕ) → is_equal a b ≡ true → is_equal (f a) (f b) ≡ true
equal_part f a b same = equal_whole (f a) (f b) (ap f (same_text a b (sym same)))

-- the whole, by a front and what is behind a part of it
whole_of : (k m : ℕ) (a b : List ℕ) → m ≤ k → take k a ≡ take k b → drop m a ≡ drop m b → a ≡ b
whole_of k m a b low front back =
    sym (take-append-drop m a)
    ∙ ap (λ t. t ++ drop m a) (sym (take-take m k a low) ∙ ap (take m) front ∙ take-take m k b low)
    ∙ ap (λ t. take m b ++ t) back
    ∙ take-append-drop m b

both_windows : (a b : List ℕ) (k m : ℕ) → m ≤ k → (is_equal (take k a) (take k b) && is_equal (drop m a) (drop m b)) ≡ is_equal a b
both_windows a b k m low =
    both_ways (is_equal (take k a) (take k b)) (is_equal (drop m a) (drop m b)) (is_equal a b)
    (equal_part (take k) a b)
    (equal_part (drop m) a b)
    (λ front back. equal_whole a b (whole_of k m a b low (same_text (take k a) (take k b) (sym front)) (same_text (drop m a) (drop m b) (sym back))))

-- by the first bytes, and then by the last ones
pub first_window : (a b : List ℕ) (k : ℕ) → is_equal (take k a) (take k b) ≡ false → false ≡ is_equal a b
first_window a b k front =
    ap (λ x. x && is_equal (drop k a) (drop k b)) (sym front) ∙ both_windows a b k k (omega arith)

pub last_window : (a b : List ℕ) (k : ℕ) (q : Bool) → length a ≡ length b → length b ≤ k + k → is_equal (take k a) (take k b) ≡ true → q ≡ is_equal (drop (length a - k) a) (drop (length b - k) b) → q ≡ is_equal a b
last_window a b k q even few front back =
    let low : length b - k ≤ k = omega (arith, few) in
    back
    ∙ ap (λ n. is_equal (drop (n - k) a) (drop (length b - k) b)) even
    ∙ ap (λ x. x && is_equal (drop (length b - k) a) (drop (length b - k) b)) (sym front)
    ∙ both_windows a b k (length b - k) low

-- the same of parts that are known
pub taken_same : (a b front other : List ℕ) (k : ℕ) (same : Bool) → front ≡ take k a → other ≡ take k b → same ≡ is_equal front other → same ≡ is_equal (take k a) (take k b)
taken_same a b front other k same one two is = is ∙ ap (λ t. is_equal t other) one ∙ ap (is_equal (take k a)) two

pub left_same : (a b back other : List ℕ) (k : ℕ) (same : Bool) → back ≡ drop (length a - k) a → other ≡ drop (length b - k) b → same ≡ is_equal back other → same ≡ is_equal (drop (length a - k) a) (drop (length b - k) b)
left_same a b back other k same one two is = is ∙ ap (λ t. is_equal t other) one ∙ ap (is_equal (drop (length a - k) a)) two

-- a text that is shorter than a name doesn't begin with it
pub short_front : (n t : List ℕ) → length t < length n → None ≡ strip n t
short_front n t short =
    ap (λ b. cond b (Some (drop (length n) t)) None) (unlike t n (λ e. omega (arith, e, short)) ∙ ap (λ x. is_equal x n) (sym (take_all (length n) t (omega (arith, short)))))

-- a text is asked for a name by as many of its bytes
pub name_some : (n t f r : List ℕ) → f ≡ take (length n) t → r ≡ drop (length n) t → is_equal f n ≡ true → Some r ≡ strip n t
name_some n t f r front rest same =
    ap (λ x. Some x) rest ∙ ap (λ b. cond b (Some (drop (length n) t)) None) (sym same ∙ ap (λ x. is_equal x n) front)

pub name_none : (n t f : List ℕ) → f ≡ take (length n) t → is_equal f n ≡ false → None ≡ strip n t
name_none n t f front other =
    ap (λ b. cond b (Some (drop (length n) t)) None) (sym other ∙ ap (λ x. is_equal x n) front)
