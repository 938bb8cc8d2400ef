-- The numbers of the items that pass a test.
use Rattle.std.proofs.Common.{◌≡◌, ℕ, zero, suc, ◌+◌, ◌<◌, ◌≤◌, List, [], ◌∷◌, ◌++◌, length, get_or, take, Bool, true, false, cond, refl, sym, ap, ◌∙◌, subst, arith}
use Rattle.std.specs.List.{Contains}
use Rattle.std.specs.List.Sorted.{IsStrictlyIncreasing}
use Rattle.std.proofs.lemmas.List.{take_more, length-take-le}
use Rattle.geotransform.specs.declared.types.Size.{Size}
use Rattle.vrt_profile.specs.Values.{SourceValue}
use Rattle.mosaic_sources.specs.Rows.{passing_from, covering_lines, covers_line}

-- one item more
push_cases : (t u : Bool) (number : ℕ) (xs ys zs : List ℕ) → zs ≡ cond u (xs ++ ys) xs → cond t (number ∷ zs) zs ≡ cond u (cond t (number ∷ xs) xs ++ ys) (cond t (number ∷ xs) xs)
push_cases true true number xs ys zs e = ap (λ l. number ∷ l) e
push_cases true false number xs ys zs e = ap (λ l. number ∷ l) e
push_cases false true number xs ys zs e = e
push_cases false false number xs ys zs e = e

pub passing_push : {A : Type 0} (p : A → Bool) (xs : List A) (x : A) (number : ℕ) → passing_from p (xs ++ x ∷ []) number ≡ cond (p x) (passing_from p xs number ++ (number + length xs) ∷ []) (passing_from p xs number)
passing_push p [] x number = let e : number ≡ number + 0 = omega arith in ap (λ (n : ℕ). cond (p x) (n ∷ []) []) e
passing_push p (y ∷ ys) x number =
    let n : suc number + length ys ≡ number + suc (length ys) = omega arith in
    push_cases (p y) (p x) number (passing_from p ys (suc number)) ((number + suc (length ys)) ∷ []) _ (passing_push p ys x (suc number) ∙ ap (λ (m : ℕ). cond (p x) (passing_from p ys (suc number) ++ m ∷ []) (passing_from p ys (suc number))) n)

-- one item more of a list
pub passing_more : {A : Type 0} (p : A → Bool) (xs : List A) (i : ℕ) (d : A) → i < length xs → passing_from p (take (i + 1) xs) 0 ≡ cond (p (get_or xs i d)) (passing_from p (take i xs) 0 ++ i ∷ []) (passing_from p (take i xs) 0)
passing_more p xs i d less =
    let n : 0 + length (take i xs) ≡ i = omega (arith, length-take-le i xs (omega arith)) in
    ap (λ l. passing_from p l 0) (take_more xs i d less) ∙ passing_push p (take i xs) (get_or xs i d) 0 ∙ ap (λ (m : ℕ). cond (p (get_or xs i d)) (passing_from p (take i xs) 0 ++ m ∷ []) (passing_from p (take i xs) 0)) n

-- one item more of two lists of which the same pass
pub passing_both : {A B : Type 0} (p : A → Bool) (q : B → Bool) (xs zs : List A) (ys : List B) (i : ℕ) (x : A) (d : B) → i < length ys → length xs ≡ i → passing_from p xs 0 ≡ passing_from q (take i ys) 0 → p x ≡ q (get_or ys i d) → zs ≡ xs ++ x ∷ [] → passing_from p zs 0 ≡ passing_from q (take (i + 1) ys) 0
passing_both p q xs zs ys i x d less size before same more =
    let n : 0 + length xs ≡ i = omega (arith, size) in
    ap (λ l. passing_from p l 0) more ∙ passing_push p xs x 0 ∙ ap (λ (m : ℕ). cond (p x) (passing_from p xs 0 ++ m ∷ []) (passing_from p xs 0)) n
    ∙ ap (λ t. cond t (passing_from p xs 0 ++ i ∷ []) (passing_from p xs 0)) same
    ∙ ap (λ (l : List ℕ). cond (q (get_or ys i d)) (l ++ i ∷ []) l) before
    ∙ sym (passing_more q ys i d less)

-- one item more of a list, by its number
pub passing_here : {A : Type 0} (p : A → Bool) (xs : List A) (i : ℕ) (d : A) (old new : List ℕ) → i < length xs → old ≡ passing_from p (take i xs) 0 → new ≡ cond (p (get_or xs i d)) (old ++ i ∷ []) old → new ≡ passing_from p (take (i + 1) xs) 0
passing_here p xs i d old new less before more = more ∙ ap (λ (l : List ℕ). cond (p (get_or xs i d)) (l ++ i ∷ []) l) before ∙ sym (passing_more p xs i d less)

-- two tests that pass the same items agree at each
head_above_if : (t : Bool) (number m : ℕ) (rest zs : List ℕ) → (m ∷ rest ≡ zs → suc number ≤ m) → m ∷ rest ≡ cond t (number ∷ zs) zs → number ≤ m
head_above_if true number m rest zs high e = let f : m ≡ number = cc in omega (arith, f)
head_above_if false number m rest zs high e = omega (arith, high e)

head_above : {A : Type 0} (p : A → Bool) (xs : List A) (number m : ℕ) (rest : List ℕ) → m ∷ rest ≡ passing_from p xs number → number ≤ m
head_above p [] number m rest e = cc
head_above p (x ∷ xs) number m rest e = head_above_if (p x) number m rest (passing_from p xs (suc number)) (head_above p xs (suc number) m rest) e

agree_here : (t u : Bool) (number : ℕ) (xs ys : List ℕ) → ((rest : List ℕ) → number ∷ rest ≡ xs → suc number ≤ number) → ((rest : List ℕ) → number ∷ rest ≡ ys → suc number ≤ number) → cond t (number ∷ xs) xs ≡ cond u (number ∷ ys) ys → (t ≡ u) × (xs ≡ ys)
agree_here true true number xs ys h k e = (refl, cc)
agree_here false false number xs ys h k e = (refl, e)
agree_here true false number xs ys h k e = absurd (omega (arith, k xs e))
agree_here false true number xs ys h k e = absurd (omega (arith, h ys (sym e)))

agree_first : {A : Type 0} (p q : A → Bool) (x : A) (xs : List A) (number : ℕ) → passing_from p (x ∷ xs) number ≡ passing_from q (x ∷ xs) number → (p x ≡ q x) × (passing_from p xs (suc number) ≡ passing_from q xs (suc number))
agree_first p q x xs number e = agree_here (p x) (q x) number (passing_from p xs (suc number)) (passing_from q xs (suc number)) (head_above p xs (suc number) number) (head_above q xs (suc number) number) e

pub tests_agree : {A : Type 0} (p q : A → Bool) (xs : List A) (number : ℕ) → passing_from p xs number ≡ passing_from q xs number → (k : ℕ) (d : A) → k < length xs → p (get_or xs k d) ≡ q (get_or xs k d)
tests_agree p q [] number e k d less = absurd (omega arith)
tests_agree p q (x ∷ xs) number e zero d less = (agree_first p q x xs number e).0
tests_agree p q (x ∷ xs) number e (suc k) d less = tests_agree p q xs (suc number) (agree_first p q x xs number e).1 k d (omega arith)

-- an item whose number isn't listed doesn't pass
first_unlisted : (t : Bool) (number v : ℕ) (rest : List ℕ) → v ≡ number → (Contains (cond t (number ∷ rest) rest) v → ⊥) → t ≡ false
first_unlisted true number v rest e other = absurd (other (0, omega arith, sym e))
first_unlisted false number v rest e other = refl

rest_unlisted : (t : Bool) (number v : ℕ) (rest : List ℕ) → (Contains (cond t (number ∷ rest) rest) v → ⊥) → Contains rest v → ⊥
rest_unlisted true number v rest other there = other (suc there.0, omega (arith, there.1), there.2)
rest_unlisted false number v rest other there = other there

pub unlisted : {A : Type 0} (p : A → Bool) (xs : List A) (number v k : ℕ) (d : A) → v ≡ number + k → k < length xs → (Contains (passing_from p xs number) v → ⊥) → p (get_or xs k d) ≡ false
unlisted p [] number v k d e less other = absurd (omega arith)
unlisted p (x ∷ xs) number v zero d e less other = first_unlisted (p x) number v (passing_from p xs (suc number)) (omega (arith, e)) other
unlisted p (x ∷ xs) number v (suc k) d e less other = unlisted p xs (suc number) v k d (omega (arith, e)) (omega arith) (rest_unlisted (p x) number v (passing_from p xs (suc number)) other)

-- each number that is listed is that of an item
below_at : (number v end : ℕ) (rest : List ℕ) (k : ℕ) → number < end → (Contains rest v → v < end) → k < length (number ∷ rest) → get_or (number ∷ rest) k v ≡ v → v < end
below_at number v end rest zero low rest_low less is = omega (arith, is, low)
below_at number v end rest (suc k) low rest_low less is = rest_low (k, omega (arith, less), is)

below_if : (t : Bool) (number v end : ℕ) (rest : List ℕ) → number < end → (Contains rest v → v < end) → Contains (cond t (number ∷ rest) rest) v → v < end
below_if true number v end rest low rest_low there = below_at number v end rest there.0 low rest_low there.1 there.2
below_if false number v end rest low rest_low there = rest_low there

pub listed_below : {A : Type 0} (p : A → Bool) (xs : List A) (number v : ℕ) → Contains (passing_from p xs number) v → v < number + length xs
listed_below p [] number v there = absurd (omega (arith, there.1))
listed_below p (x ∷ xs) number v there = below_if (p x) number v (number + suc (length xs)) (passing_from p xs (suc number)) (omega arith) (λ h. let e = listed_below p xs (suc number) v h in omega (arith, e)) there

-- the numbers rise
rises_on : (number m : ℕ) (more : List ℕ) → suc number ≤ m → IsStrictlyIncreasing (m ∷ more) → IsStrictlyIncreasing (number ∷ m ∷ more)
rises_on number m more low h zero less = omega (arith, low)
rises_on number m more low h (suc k) less =
    let here : k + 1 ≡ suc k = omega arith in
    let next : suc k + 1 ≡ suc (suc k) = omega arith in
    let e : get_or (m ∷ more) k 0 < get_or (m ∷ more) (k + 1) 0 = h k (omega (arith, less)) in
    subst (λ (i : ℕ). get_or (m ∷ more) k 0 < get_or (number ∷ m ∷ more) i 0) (sym next) (subst (λ (i : ℕ). get_or (m ∷ more) k 0 < get_or (m ∷ more) i 0) here e)

rises_if : (t : Bool) (number : ℕ) (rest : List ℕ) → ((m : ℕ) (more : List ℕ) → m ∷ more ≡ rest → suc number ≤ m) → IsStrictlyIncreasing rest → IsStrictlyIncreasing (cond t (number ∷ rest) rest)
rises_if false number rest high h = h
rises_if true number [] high h = λ k less. absurd (omega (arith, less))
rises_if true number (m ∷ more) high h = rises_on number m more (high m more refl) h

rises_from : {A : Type 0} (p : A → Bool) (xs : List A) (number : ℕ) → IsStrictlyIncreasing (passing_from p xs number)
rises_from p [] number = λ k less. absurd (omega (arith, less))
rises_from p (x ∷ xs) number = rises_if (p x) number (passing_from p xs (suc number)) (λ m more e. head_above p xs (suc number) m more e) (rises_from p xs (suc number))

pub rises : (sources : List SourceValue) → (mosaic : Size) → (y : ℕ) → IsStrictlyIncreasing (covering_lines sources mosaic y)
rises sources mosaic y = rises_from (λ s. covers_line s mosaic y) sources 0
