-- Texts of numbers hold digits, points and minus signs alone, so they stand in a document as they are.
use Rattle.std.proofs.Common.{◌≡◌, ◌≢◌, ℕ, ℤ, suc, ◌+◌, ◌-◌, ◌/◌, ◌%◌, ◌^◌, ◌<◌, ◌≤◌, Bool, true, false, cond, not, ◌==◌, ◌||◌, ◌&&◌, List, [], ◌∷◌, ◌++◌, length, take, drop, get_or, Some, None, refl, sym, ap, ◌∙◌, arith, unsigned_abs, pos, negsuc}
use Rattle.std.specs.Prelude.{◌*ℤ◌, nat_lt, int_lt}
use Rattle.std.specs.List.{list_all, prefix_len, suffix_len}
use Rattle.std.specs.Char.{is_ascii_digit}
use Rattle.std.specs.Fmt.{decimal, signed_decimal}
use Rattle.std.proofs.lemmas.List.{take_at, drop_at, take_all, drop_all}
use Rattle.std.proofs.lemmas.List.Folds.{list_all-append}
use Rattle.std.proofs.lemmas.List.Sums.{AllPass-from_list_all, suffix_len-take_no}
use Rattle.std.proofs.lemmas.Bool.{ne_eqb, eq-eqb}
use Rattle.std.proofs.lemmas.Bool.Decides.{nat_tests}
use Rattle.std.proofs.lemmas.Fmt.{decimal_by_steps_wide}
use Rattle.lists_and_answers.specs.Texts.{is_white}
use Rattle.geotransform.specs.Print.{rounded_to, minus, with_point, short_text}
use Rattle.geotransform.proofs.Numbers.{product_bound}
use Rattle.geotransform.proofs.RoundTrip.{AreDigits, digits-cons, fraction_of, fraction_digits}
use Rattle.geotransform.proofs.Written.{rounded_is}
use Rattle.vrt_markup.specs.Items.{plain_len}
use Rattle.vrt_profile.specs.Fields.{trim, trim_end, length_before, cut_by, cut_at}
use Rattle.vrt_writing.specs.Spelled.{escaped, micro_text, part_text}
use Rattle.vrt_writing.specs.Reread.{IsValue}
use Rattle.vrt_writing.proofs.Reread.{escape_plain}

abbrev pub is_figure : ℕ → Bool
is_figure c = is_ascii_digit c || ((c == 45) || (c == 46))

abbrev pub AreFigures : List ℕ → Type 0
AreFigures t = list_all is_figure t ≡ true

pub and_parts : (a b : Bool) → (a && b) ≡ true → (a ≡ true) × (b ≡ true)
and_parts true b h = (refl, h)
and_parts false b h = absurd cc

pub figures_cons : (c : ℕ) (cs : List ℕ) → AreFigures (c ∷ cs) → (is_figure c ≡ true) × AreFigures cs
figures_cons c cs h = and_parts (is_figure c) (list_all is_figure cs) h

pub figures_append : (a b : List ℕ) → AreFigures a → AreFigures b → AreFigures (a ++ b)
figures_append a b h k = list_all-append is_figure a b ∙ ap (λ x. x && list_all is_figure b) h ∙ k

pub figures_digits : (ds : List ℕ) → AreDigits ds → AreFigures ds
figures_digits [] h = refl
figures_digits (c ∷ cs) h =
    let p = digits-cons c cs h in
    ap (λ b. (b || ((c == 45) || (c == 46))) && list_all is_figure cs) p.0 ∙ figures_digits cs p.1

-- decimals
one_digit : (n : ℕ) → n < 10 → AreDigits ((48 + n) ∷ [])
one_digit n small =
    let is : is_ascii_digit (48 + n) ≡ true = grind (arith, nat_tests) in
    ap (λ b. b && true) is

digits_append : (a b : List ℕ) → AreDigits a → AreDigits b → AreDigits (a ++ b)
digits_append a b h k = list_all-append is_ascii_digit a b ∙ ap (λ x. x && list_all is_ascii_digit b) h ∙ k

pub decimal_digits : (n : ℕ) → n < 10 ^ 64 → AreDigits (decimal n)
decimal_digits n small =
    decimal_by_steps_wide (λ m ds. AreDigits ds) one_digit
    (λ m ds le h. digits_append ds ((48 + m % 10) ∷ []) h (one_digit (m % 10) (omega arith)))
    n small

pub decimal_figures : (n : ℕ) → n < 10 ^ 64 → AreFigures (decimal n)
decimal_figures n small = figures_digits (decimal n) (decimal_digits n small)

pub signed_figures : (v : ℤ) → unsigned_abs v < 10 ^ 64 → AreFigures (signed_decimal v)
signed_figures (pos n) small = decimal_figures n small
signed_figures (negsuc n) small = decimal_figures (suc n) small

minus_figures : (b : Bool) → AreFigures (cond b (45 ∷ []) [])
minus_figures true = refl
minus_figures false = refl

point_figures : (f : List ℕ) → AreDigits f → AreFigures (with_point f)
point_figures [] h = refl
point_figures (c ∷ cs) h = figures_digits (c ∷ cs) h

pub short_figures : (v : ℤ) → unsigned_abs v < 10 ^ 40 → AreFigures (short_text v)
short_figures v small =
    let q : ℕ = rounded_to 16 v in
    let fits : rounded_to 16 v / 10 ^ 16 < 10 ^ 64 = omega (arith, rounded_is v) in
    figures_append (minus v q ++ decimal (q / 10 ^ 16)) (with_point (fraction_of q))
    (figures_append (minus v q) (decimal (q / 10 ^ 16)) (minus_figures (int_lt v (pos 0) && nat_lt 0 q)) (decimal_figures (q / 10 ^ 16) fits))
    (point_figures (fraction_of q) (fraction_digits q))

times_small : (v : ℤ) (k : ℕ) → unsigned_abs v ≤ 10 ^ 24 → k ≤ 10 ^ 12 → unsigned_abs (v *ℤ pos k) < 10 ^ 40
times_small v k small few = omega (arith, product_bound v (pos k) (10 ^ 24) (10 ^ 12) small few)

pub micro_figures : (v : ℤ) → unsigned_abs v < 10 ^ 18 → AreFigures (micro_text v)
unfolding micro_text
micro_figures v small = short_figures (v *ℤ pos 180000000000) (times_small v 180000000000 (omega arith) (omega arith))

pub part_figures : (v : ℤ) → unsigned_abs v < 10 ^ 24 → AreFigures (part_text v)
unfolding part_text
part_figures v small = short_figures (v *ℤ pos 180000) (times_small v 180000 (omega arith) (omega arith))

-- what a figure is not
figure_dark : (c : ℕ) → is_figure c ≡ true → is_white c ≡ false
figure_dark c h = grind (arith, nat_tests)

pub figure_not : (c b : ℕ) → is_figure c ≡ true → is_figure b ≡ false → c ≢ b
figure_not c b h k e = let same : true ≡ false = sym h ∙ ap is_figure e ∙ k in absurd cc

-- A text of figures has no white space at its ends.
front_dark : (t : List ℕ) → AreFigures t → prefix_len is_white t ≡ 0
front_dark [] h = refl
front_dark (c ∷ cs) h = ap (λ b. cond b (1 + prefix_len is_white cs) 0) (figure_dark c (figures_cons c cs h).0)

end_dark : (t : List ℕ) → AreFigures t → suffix_len is_white t ≡ 0
end_dark [] h = refl
end_dark (c ∷ cs) h =
    let t : List ℕ = c ∷ cs in
    let last : is_figure (get_or (c ∷ cs) (length (c ∷ cs) - 1) 0) ≡ true = AllPass-from_list_all is_figure (c ∷ cs) h (length (c ∷ cs) - 1) 0 (omega arith) in
    ap (λ (x : List ℕ). suffix_len is_white x) (sym (take_all (length (c ∷ cs)) (c ∷ cs) (omega arith)))
    ∙ suffix_len-take_no is_white (c ∷ cs) (length (c ∷ cs)) 0 (omega arith) (omega arith) (figure_dark (get_or (c ∷ cs) (length (c ∷ cs) - 1) 0) last)

pub trim_same : (t : List ℕ) → AreFigures t → trim t ≡ t
trim_same t h =
    let whole : length t - 0 ≡ length t = omega arith in
    ap (λ k. trim_end (drop k t)) (front_dark t h)
    ∙ ap (λ k. take (length t - k) t) (end_dark t h)
    ∙ ap (λ k. take k t) whole
    ∙ take_all (length t) t (omega arith)

pub trim_behind : (t : List ℕ) → AreFigures t → trim (32 ∷ t) ≡ t
trim_behind t h =
    let whole : length t - 0 ≡ length t = omega arith in
    ap (λ k. trim_end (drop (1 + k) (32 ∷ t))) (front_dark t h)
    ∙ ap (λ k. take (length t - k) t) (end_dark t h)
    ∙ ap (λ k. take k t) whole
    ∙ take_all (length t) t (omega arith)

-- Figures, and what stands between them: spaces, commas and colons. They need no entities.
abbrev pub is_mark : ℕ → Bool
is_mark c = is_figure c || ((c == 32) || ((c == 44) || (c == 58)))

abbrev pub AreMarks : List ℕ → Type 0
AreMarks t = list_all is_mark t ≡ true

pub marks_append : (a b : List ℕ) → AreMarks a → AreMarks b → AreMarks (a ++ b)
marks_append a b h k = list_all-append is_mark a b ∙ ap (λ x. x && list_all is_mark b) h ∙ k

pub figures_marks : (t : List ℕ) → AreFigures t → AreMarks t
figures_marks [] h = refl
figures_marks (c ∷ cs) h =
    let p = figures_cons c cs h in
    ap (λ b. (b || ((c == 32) || ((c == 44) || (c == 58)))) && list_all is_mark cs) p.0 ∙ figures_marks cs p.1

mark_not : (c b : ℕ) → is_mark c ≡ true → is_mark b ≡ false → c ≢ b
mark_not c b h k e = let same : true ≡ false = sym h ∙ ap is_mark e ∙ k in absurd cc

pub escaped_same : (t : List ℕ) → AreMarks t → escaped t ≡ t
escaped_same [] h = refl
escaped_same (c ∷ cs) h =
    let p = and_parts (is_mark c) (list_all is_mark cs) h in
    ap (λ (x : List ℕ). x ++ escaped cs) (escape_plain c (mark_not c 38 p.0 refl) (mark_not c 60 p.0 refl) (mark_not c 62 p.0 refl) (mark_not c 34 p.0 refl) (mark_not c 39 p.0 refl))
    ∙ ap (λ (x : List ℕ). c ∷ x) (escaped_same cs p.1)

plain_figure : (c : ℕ) (cs : List ℕ) → is_figure c ≡ true → plain_len 34 (c ∷ cs) ≡ suc (plain_len 34 cs)
plain_figure c cs h = simp (ne_eqb c 60 (figure_not c 60 h refl), ne_eqb c 34 (figure_not c 34 h refl), ne_eqb c 38 (figure_not c 38 h refl)) refl

plain_value : (t r : List ℕ) → AreFigures t → plain_len 34 (t ++ 34 ∷ r) ≡ length t
plain_value [] r h = refl
plain_value (c ∷ cs) r h =
    let p = figures_cons c cs h in
    plain_figure c (cs ++ 34 ∷ r) p.0 ∙ ap suc (plain_value cs r p.1)

pub figures_value : (t : List ℕ) → AreFigures t → IsValue t
figures_value t h = record { plain = λ r. plain_value t r h }

-- A text is cut at the first such byte behind it.
abbrev pub AllOther : ℕ → List ℕ → Type 0
AllOther b t = list_all (λ c. not (c == b)) t ≡ true

pub other_append : (b : ℕ) (x y : List ℕ) → AllOther b x → AllOther b y → AllOther b (x ++ y)
other_append b x y h k = list_all-append (λ c. not (c == b)) x y ∙ ap (λ z. z && list_all (λ c. not (c == b)) y) h ∙ k

pub figures_other : (b : ℕ) (t : List ℕ) → AreFigures t → is_figure b ≡ false → AllOther b t
figures_other b [] h k = refl
figures_other b (c ∷ cs) h k =
    let p = figures_cons c cs h in
    ap (λ x. not x && list_all (λ c. not (c == b)) cs) (ne_eqb c b (figure_not c b p.0 k)) ∙ figures_other b cs p.1 k

before_other : (b : ℕ) (t r : List ℕ) → AllOther b t → length_before b (t ++ b ∷ r) ≡ length t
before_other b [] r h = ap (λ x. cond (not x) (1 + length_before b r) 0) (eq-eqb b b refl)
before_other b (c ∷ cs) r h =
    let p = and_parts (not (c == b)) (list_all (λ c. not (c == b)) cs) h in
    ap (λ x. cond x (1 + length_before b (cs ++ b ∷ r)) 0) p.0 ∙ omega (arith, before_other b cs r p.1)

pub cut_other : (b : ℕ) (t r : List ℕ) → AllOther b t → cut_at b (t ++ b ∷ r) ≡ Some (t, r)
cut_other b t r h =
    ap (λ n. cut_by (take n (t ++ b ∷ r)) (drop n (t ++ b ∷ r))) (before_other b t r h)
    ∙ ap (λ (x : List ℕ). cut_by x (drop (length t) (t ++ b ∷ r))) (take_at t (b ∷ r) (length t) refl)
    ∙ ap (λ (x : List ℕ). cut_by t x) (drop_at t (b ∷ r) (length t) refl)

all_other : (b : ℕ) (t : List ℕ) → AllOther b t → length_before b t ≡ length t
all_other b [] h = refl
all_other b (c ∷ cs) h =
    let p = and_parts (not (c == b)) (list_all (λ c. not (c == b)) cs) h in
    ap (λ x. cond x (1 + length_before b cs) 0) p.0 ∙ omega (arith, all_other b cs p.1)

pub cut_none : (b : ℕ) (t : List ℕ) → AllOther b t → cut_at b t ≡ None
cut_none b t h =
    ap (λ n. cut_by (take n t) (drop n t)) (all_other b t h)
    ∙ ap (λ (x : List ℕ). cut_by (take (length t) t) x) (drop_all (length t) t (omega arith))
