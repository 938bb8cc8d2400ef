-- Parts in front that fall away: empty ones, and points.
use Rattle.std.proofs.Common.{◌≡◌, ◌<◌, ◌≤◌, ◌-◌, ◌+◌, ℕ, zero, suc, Bool, true, false, cond, List, [], ◌∷◌, length, get_or, drop, ap, sym, subst, ◌∙◌, eqb-true, true≢false, arith, lit<, IsUtf8, IsCharBoundary}
use Rattle.std.specs.Prelude.{◌==◌, slice_index}
use Rattle.std.proofs.lemmas.List.{drop_more}
use Rattle.std.proofs.lemmas.Str.{IsCharBoundary-from_drop, IsCharBoundary-before_ascii, IsCharBoundary-after_ascii}
use Rattle.outside.specs.Paths.{kept_parts, between_slashes, is_absolute, path_of_parts, normal}
use Rattle.outside.specs.Plain.{add_the_same}

pub slash_falls : (c : ℕ) (rest : List ℕ) → (c == 47) ≡ true → add_the_same (c ∷ rest) rest
slash_falls c rest e absolute before =
    ap (λ (b : ℕ). kept_parts absolute before (between_slashes (b ∷ rest))) (eqb-true c 47 e)

pub point_falls : (c d : ℕ) (rest : List ℕ) → (c == 46) ≡ true → (d == 47) ≡ true → add_the_same (c ∷ d ∷ rest) rest
point_falls c d rest e f absolute before =
    ap (λ (b : ℕ). kept_parts absolute before (between_slashes (b ∷ d ∷ rest))) (eqb-true c 46 e)
    ∙ ap (λ (b : ℕ). kept_parts absolute before (between_slashes (46 ∷ b ∷ rest))) (eqb-true d 47 f)

pub ruleset falls = (slash_falls, point_falls)

-- the same normal form, where neither begins with a slash
same_relative : (text rest : List ℕ) → add_the_same text rest → is_absolute text ≡ false → is_absolute rest ≡ false → normal rest ≡ normal text
unfolding normal
same_relative text rest same is rest_is =
    ap (λ r. path_of_parts r (kept_parts r [] (between_slashes rest))) rest_is
    ∙ ap (path_of_parts false) (sym (same false []))
    ∙ sym (ap (λ r. path_of_parts r (kept_parts r [] (between_slashes text))) is)

-- the same where one does, and a slash is put before the other
same_absolute : (text rest : List ℕ) → add_the_same text rest → is_absolute text ≡ true → normal (47 ∷ rest) ≡ normal text
unfolding normal
same_absolute text rest same is =
    ap (path_of_parts true) (sym (same true []))
    ∙ sym (ap (λ r. path_of_parts r (kept_parts r [] (between_slashes text))) is)

-- of bytes that are the text's: what stands behind adds the same
pub same_behind : (text bytes rest : List ℕ) (n : ℕ) → bytes ≡ text → rest ≡ drop n text → add_the_same bytes (drop n bytes) → add_the_same text rest
same_behind text bytes rest n e is same = subst (add_the_same text) (sym is) (subst (λ b. add_the_same b (drop n b)) e same)

-- a path may be cut there, and what stands behind has the same normal form
pub record Trim (text : List ℕ) (at : ℕ) : Type 0 where
  pub cut : IsCharBoundary text at
  pub same : normal (drop at text) ≡ normal text

low : (text : List ℕ) (i : ℕ) → slice_index text i ≡ 47 → get_or text i 0 < 128
low text i e = subst (λ b. b < 128) (sym e) (lit< tt)

behind_slash : (text : List ℕ) (n : ℕ) → IsUtf8 text → n ≤ length text → (0 < n → slice_index text (n - 1) ≡ 47) → IsCharBoundary text n
behind_slash text zero u bound slash = IsCharBoundary-from_drop text 0 bound u
behind_slash text (suc k) u bound slash =
    let e : slice_index text k ≡ 47 = subst (λ i. slice_index text i ≡ 47) {x = suc k - 1} {y = k} (omega arith) (slash (omega arith)) in
    subst (IsCharBoundary text) {x = k + 1} {y = suc k} (omega arith) (IsCharBoundary-after_ascii text k u (omega arith) (low text k e))

-- the text may be cut behind the slash
pub cut_behind : (text bytes : List ℕ) (n : ℕ) → IsUtf8 text → bytes ≡ text → n ≤ length bytes → (0 < n → slice_index bytes (n - 1) ≡ 47) → IsCharBoundary text n
cut_behind text bytes n u e bound slash = behind_slash text n u (subst (λ (b : List ℕ). n ≤ length b) e bound) (subst (λ b. 0 < n → slice_index b (n - 1) ≡ 47) e slash)

trim_absolute : (text : List ℕ) (n : ℕ) → is_absolute text ≡ true → add_the_same text (drop n text) → n ≤ length text → (0 < n → slice_index text (n - 1) ≡ 47) → is_absolute (drop n text) ≡ false → Trim text (n - 1)
trim_absolute text zero is same bound slash none = absurd (true≢false (sym is ∙ none))
trim_absolute text (suc k) is same bound slash none =
    let e : slice_index text k ≡ 47 = subst (λ i. slice_index text i ≡ 47) {x = suc k - 1} {y = k} (omega arith) (slash (omega arith)) in
    let more : add_the_same text (drop (k + 1) text) = subst (λ i. add_the_same text (drop i text)) {x = suc k} {y = k + 1} (omega arith) same in
    let whole : drop k text ≡ 47 ∷ drop (k + 1) text = drop_more text k 0 (omega arith) ∙ ap (λ b. b ∷ drop (k + 1) text) e in
    subst (Trim text) {x = k} {y = suc k - 1} (omega arith)
    record { cut = IsCharBoundary-before_ascii text k (omega arith) (low text k e); same = ap normal whole ∙ same_absolute text (drop (k + 1) text) more is }

trim_case : (text : List ℕ) (n : ℕ) (absolute : Bool) → IsUtf8 text → is_absolute text ≡ absolute → add_the_same text (drop n text) → n ≤ length text → (0 < n → slice_index text (n - 1) ≡ 47) → is_absolute (drop n text) ≡ false → Trim text (cond absolute (n - 1) n)
trim_case text n true u is same bound slash none = trim_absolute text n is same bound slash none
trim_case text n false u is same bound slash none =
    record { cut = behind_slash text n u bound slash; same = same_relative text (drop n text) same is none }

-- the same of bytes that are the text's
pub trim : (text bytes : List ℕ) (n at : ℕ) (absolute : Bool) → IsUtf8 text → bytes ≡ text → is_absolute text ≡ absolute → add_the_same bytes (drop n bytes) → n ≤ length bytes → (0 < n → slice_index bytes (n - 1) ≡ 47) → is_absolute (drop n bytes) ≡ false → at ≡ cond absolute (n - 1) n → Trim text at
trim text bytes n at absolute u e is same bound slash none where_at =
    subst (Trim text) (sym where_at)
    (trim_case text n absolute u is (subst (λ b. add_the_same b (drop n b)) e same) (subst (λ (b : List ℕ). n ≤ length b) e bound) (subst (λ b. 0 < n → slice_index b (n - 1) ≡ 47) e slash) (subst (λ b. is_absolute (drop n b) ≡ false) e none))
