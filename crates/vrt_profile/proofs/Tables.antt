-- Lookup tables, pair by pair, and the rules that they keep.
use Rattle.std.proofs.Common.{◌≡◌, ℕ, ℤ, suc, ◌+◌, ◌*◌, ◌<◌, ◌≤◌, Bool, true, false, cond, not, ◌==◌, ◌&&◌, List, [], ◌∷◌, ◌++◌, length, take, drop, Option, Some, None, Result, Ok, Err, refl, sym, ap, ◌∙◌, arith, subst, nat_le, nat_lt, unsigned_abs, append_assoc, ok_or}
use Rattle.std.specs.List.{All}
use Rattle.std.proofs.lemmas.Bool.Decides.{nat_tests}
use Rattle.std.proofs.lemmas.List.Elements.{All-nil, All-cons}
use Rattle.lists_and_answers.specs.Answers.{◌>>=◌}
use Rattle.vrt_markup.specs.Items.{option_case}
use Rattle.vrt_profile.specs.Fields.{length_before, cut_by, cut_at, pieces, onto, trim, near_by, near_number, pair_of}
use Rattle.vrt_profile.specs.Fronts.{first_piece, lut_behind}
use Rattle.geotransform.specs.Decimal.{places_of}
use Rattle.vrt_markup.proofs.Shorter.{bind_some}
use Rattle.vrt_profile.proofs.Rules.{guard_true}
use Rattle.vrt_profile.specs.Numbers.{is_above, rising_pair, next_pair, lut_from, lut_of}
use Rattle.vrt_profile.specs.Values.{million, is_below, is_rising, IsPair, IsLut}
use Rattle.vrt_profile.specs.declared.rectangle.LutPair.{LutPair}
use Rattle.vrt_markup.specs.declared.fault.VrtFault.{VrtFault}
use Rattle.vrt_markup.specs.declared.fault.VrtFault.TheVariants.{BadNumber, Limit}

cut_none : (t f d : List ℕ) → cut_by f d ≡ None → d ≡ []
cut_none t f [] h = refl
cut_none t f (c ∷ cs) h = absurd cc

both : {A B : Type 0} {a c : A} {b d : B} → ◌≡◌ {A = Option (A × B)} (Some (a, b)) (Some (c, d)) → (a ≡ c) × (b ≡ d)
both {a = a} {b = b} h = (ap (λ y. option_case y a (λ z. z.0)) h, ap (λ y. option_case y b (λ z. z.1)) h)

one_more : (n : ℕ) → 1 + n ≡ suc n
one_more n = omega arith

abbrev pub Cuts : ℕ → List ℕ → Type 0
Cuts b t = (f r : List ℕ) → cut_at b t ≡ Some (f, r) → pieces b t ≡ f ∷ pieces b r

cut_rest : (b c : ℕ) (cs f r d : List ℕ) → d ≡ drop (length_before b cs) cs → Cuts b cs → cut_by (c ∷ take (length_before b cs) cs) d ≡ Some (f, r) → onto c (pieces b cs) ≡ f ∷ pieces b r
cut_rest b c cs f r [] e ih h = absurd cc
cut_rest b c cs f r (x ∷ xs) e ih h =
    let mine : (c ∷ take (length_before b cs) cs ≡ f) × (xs ≡ r) = both h in
    let below : cut_at b cs ≡ Some (take (length_before b cs) cs, xs) = ap (λ y. cut_by (take (length_before b cs) cs) y) (sym e) in
    ap (onto c) (ih (take (length_before b cs) cs) xs below) ∙ ap (λ y. y ∷ pieces b xs) mine.0 ∙ ap (λ y. f ∷ pieces b y) mine.1

cut_case : (b c : ℕ) (cs f r : List ℕ) (x : Bool) → Cuts b cs → cut_by (take (cond (not x) (suc (length_before b cs)) 0) (c ∷ cs)) (drop (cond (not x) (suc (length_before b cs)) 0) (c ∷ cs)) ≡ Some (f, r) → cond x ([] ∷ pieces b cs) (onto c (pieces b cs)) ≡ f ∷ pieces b r
cut_case b c cs f r true ih h =
    let mine : ([] ≡ f) × (cs ≡ r) = both h in
    ap (λ y. y ∷ pieces b cs) mine.0 ∙ ap (λ y. f ∷ pieces b y) mine.1
cut_case b c cs f r false ih h = cut_rest b c cs f r (drop (length_before b cs) cs) refl ih h

pub pieces_cut : (b : ℕ) (t : List ℕ) → Cuts b t
pieces_cut b [] f r h = absurd cc
pieces_cut b (c ∷ cs) f r h = cut_case b c cs f r (c == b) (pieces_cut b cs) (subst (λ m. cut_by (take (cond (not (c == b)) m 0) (c ∷ cs)) (drop (cond (not (c == b)) m 0) (c ∷ cs)) ≡ Some (f, r)) (one_more (length_before b cs)) h)

whole_rest : (b c : ℕ) (cs d : List ℕ) → d ≡ drop (length_before b cs) cs → (cut_at b cs ≡ None → pieces b cs ≡ cs ∷ []) → cut_by (c ∷ take (length_before b cs) cs) d ≡ None → onto c (pieces b cs) ≡ (c ∷ cs) ∷ []
whole_rest b c cs [] e ih h = ap (onto c) (ih (ap (λ y. cut_by (take (length_before b cs) cs) y) (sym e)))
whole_rest b c cs (x ∷ xs) e ih h = absurd cc

whole_case : (b c : ℕ) (cs : List ℕ) (x : Bool) → (cut_at b cs ≡ None → pieces b cs ≡ cs ∷ []) → cut_by (take (cond (not x) (suc (length_before b cs)) 0) (c ∷ cs)) (drop (cond (not x) (suc (length_before b cs)) 0) (c ∷ cs)) ≡ None → cond x ([] ∷ pieces b cs) (onto c (pieces b cs)) ≡ (c ∷ cs) ∷ []
whole_case b c cs true ih h = absurd cc
whole_case b c cs false ih h = whole_rest b c cs (drop (length_before b cs) cs) refl ih h

pub pieces_whole : (b : ℕ) (t : List ℕ) → cut_at b t ≡ None → pieces b t ≡ t ∷ []
pieces_whole b [] h = refl
pieces_whole b (c ∷ cs) h = whole_case b c cs (c == b) (pieces_whole b cs) (subst (λ m. cut_by (take (cond (not (c == b)) m 0) (c ∷ cs)) (drop (cond (not (c == b)) m 0) (c ∷ cs)) ≡ None) (one_more (length_before b cs)) h)

none_some : (r : List ℕ) → ◌≡◌ {A = Option (List ℕ)} (Some r) None → ⊥
none_some r h = absurd cc

first_more : (t p r : List ℕ) (o : Option (List ℕ × List ℕ)) → cut_at 44 t ≡ o → ◌≡◌ {A = List ℕ × Option (List ℕ)} (p, Some r) (option_case o (t, None) (λ x. (x.0, Some x.1))) → pieces 44 t ≡ p ∷ pieces 44 r
first_more t p r None e h = absurd (none_some r (ap (λ (y : List ℕ × Option (List ℕ)). y.1) h))
first_more t p r (Some x) e h =
    let same : (x.0 ≡ p) × (x.1 ≡ r) = (sym (ap (λ (y : List ℕ × Option (List ℕ)). y.0) h), sym (ap (λ (y : List ℕ × Option (List ℕ)). option_case y.1 r (λ z. z)) h)) in
    pieces_cut 44 t x.0 x.1 e ∙ ap (λ y. y ∷ pieces 44 x.1) same.0 ∙ ap (λ y. p ∷ pieces 44 y) same.1

first_last : (t p : List ℕ) (o : Option (List ℕ × List ℕ)) → cut_at 44 t ≡ o → ◌≡◌ {A = List ℕ × Option (List ℕ)} (p, None) (option_case o (t, None) (λ x. (x.0, Some x.1))) → pieces 44 t ≡ p ∷ []
first_last t p None e h =
    let same : t ≡ p = sym (ap (λ (y : List ℕ × Option (List ℕ)). y.0) h) in
    pieces_whole 44 t e ∙ ap (λ y. y ∷ []) same
first_last t p (Some x) e h = absurd (none_some x.1 (sym (ap (λ (y : List ℕ × Option (List ℕ)). y.1) h)))

abbrev Left : ℕ → Option LutPair → List (List ℕ) → List LutPair → Result (List LutPair) VrtFault
Left n last ps pairs = lut_from n last ps >>= λ more. Ok (pairs ++ more)

abbrev After : List LutPair → Option LutPair → List (List ℕ) → Result LutPair VrtFault → Result (List LutPair) VrtFault
After pairs last ps found = (found >>= λ pair. lut_from (suc (length pairs)) (Some pair) ps >>= λ more. Ok (pair ∷ more)) >>= λ more. Ok (pairs ++ more)

pushed : (pairs : List LutPair) (pair : LutPair) (x : Result (List LutPair) VrtFault) → ((x >>= λ more. Ok (pair ∷ more)) >>= λ more. Ok (pairs ++ more)) ≡ (x >>= λ more. Ok ((pairs ++ pair ∷ []) ++ more))
pushed pairs pair (Ok more) = ap Ok (sym (append_assoc pairs (pair ∷ []) more))
pushed pairs pair (Err e) = refl

length_snoc : (pairs : List LutPair) (pair : LutPair) → suc (length pairs) ≡ length (pairs ++ pair ∷ [])
length_snoc [] pair = refl
length_snoc (x ∷ xs) pair = ap suc (length_snoc xs pair)

-- one pair more
pub table_more : (pairs : List LutPair) (last : Option LutPair) (t p r : List ℕ) (pair : LutPair) → ◌≡◌ {A = List ℕ × Option (List ℕ)} (p, Some r) (first_piece t) → Ok pair ≡ next_pair (length pairs) last p → Left (length pairs) last (pieces 44 t) pairs ≡ Left (length (pairs ++ pair ∷ [])) (Some pair) (pieces 44 r) (pairs ++ pair ∷ [])
table_more pairs last t p r pair h found =
    ap (λ ps. Left (length pairs) last ps pairs) (first_more t p r (cut_at 44 t) refl h)
    ∙ ap (After pairs last (pieces 44 r)) (sym found)
    ∙ pushed pairs pair (lut_from (suc (length pairs)) (Some pair) (pieces 44 r))
    ∙ ap (λ n. Left n (Some pair) (pieces 44 r) (pairs ++ pair ∷ [])) (length_snoc pairs pair)

pub table_last : (pairs : List LutPair) (last : Option LutPair) (t p : List ℕ) (pair : LutPair) → ◌≡◌ {A = List ℕ × Option (List ℕ)} (p, None) (first_piece t) → Ok pair ≡ next_pair (length pairs) last p → Left (length pairs) last (pieces 44 t) pairs ≡ Ok (pairs ++ pair ∷ [])
table_last pairs last t p pair h found =
    ap (λ ps. Left (length pairs) last ps pairs) (first_last t p (cut_at 44 t) refl h)
    ∙ ap (After pairs last []) (sym found)

ok_end : {A : Type 0} (x : Result A VrtFault) → (x >>= λ a. Ok a) ≡ x
ok_end (Ok a) = refl
ok_end (Err e) = refl

-- a table that is one piece
pub one_pair : (t : List ℕ) (pair : LutPair) → pair_of (first_piece t).0 ≡ Some pair → None ≡ (first_piece t).1 → Ok (pair ∷ []) ≡ lut_of t
one_pair t pair is last =
    let whole : ◌≡◌ {A = List ℕ × Option (List ℕ)} ((first_piece t).0, None) (first_piece t) = ap (λ o. ((first_piece t).0, o)) last in
    let found : Ok pair ≡ next_pair 0 None (first_piece t).0 = ap (λ o. ok_or o BadNumber >>= rising_pair None) (sym is) in
    sym (table_last [] None t (first_piece t).0 pair whole found) ∙ ok_end (lut_of t)

-- a table by its pairs of whole numbers in front, and by what stands behind them
pub whole_table : (first mid : List LutPair) (last : Option LutPair) (t rest : List ℕ) (kept pairs : Result (List LutPair) VrtFault) → first ≡ [] → lut_behind mid last rest ≡ lut_behind first None t → kept ≡ lut_behind mid last rest → pairs ≡ kept → ◌≡◌ {A = Result (Result (List LutPair) VrtFault) VrtFault} (Ok pairs) (Ok (lut_of t))
whole_table first mid last t rest kept pairs none front behind is =
    ap Ok (is ∙ behind ∙ front ∙ ap (λ xs. lut_behind xs None t) none ∙ ok_end (lut_of t))

abbrev pub left_after : List LutPair → LutPair → List ℕ → Result (List LutPair) VrtFault
left_after xs pair rest = Left (length xs) (Some pair) (pieces 44 rest) xs

table_fault : (pairs : List LutPair) (last : Option LutPair) (p : List ℕ) (ps : List (List ℕ)) (e : VrtFault) → Err e ≡ next_pair (length pairs) last p → Left (length pairs) last (p ∷ ps) pairs ≡ Err e
table_fault pairs last p ps e found = ap (After pairs last ps) (sym found)

-- a pair that is refused
pub table_err : (pairs : List LutPair) (last : Option LutPair) (t p : List ℕ) (o : Option (List ℕ)) (e : VrtFault) → ◌≡◌ {A = List ℕ × Option (List ℕ)} (p, o) (first_piece t) → Err e ≡ next_pair (length pairs) last p → Left (length pairs) last (pieces 44 t) pairs ≡ Err e
table_err pairs last t p None e h found = ap (λ ps. Left (length pairs) last ps pairs) (first_last t p (cut_at 44 t) refl h) ∙ table_fault pairs last p [] e found
table_err pairs last t p (Some r) e h found = ap (λ ps. Left (length pairs) last ps pairs) (first_more t p r (cut_at 44 t) refl h) ∙ table_fault pairs last p (pieces 44 r) e found

near_small : (o : Option ℤ) (v : ℤ) → near_by o ≡ Some v → unsigned_abs v < 5000000000 * million
near_small None v h = absurd cc
near_small (Some u) v h =
    let g = guard_true (nat_lt (unsigned_abs u) (5000000000 * million)) u v h in
    subst (λ z. unsigned_abs z < 5000000000 * million) g.1 (grind (arith, nat_tests, g.0))

some_same : {A : Type 0} (x y : A) → ◌≡◌ {A = Option A} (Some x) (Some y) → x ≡ y
some_same x y h = cc

pair_rules : (p : List ℕ) (x : LutPair) → Some x ≡ pair_of p → IsPair x
unfolding pair_of
pair_rules p x h =
    let c = bind_some (cut_at 58 p) _ x (sym h) in
    let i = bind_some (near_number c.0.0) _ x c.2 in
    let o = bind_some (near_number c.0.1) _ x i.2 in
    subst IsPair (some_same (record { input = i.0; output = o.0 }) x o.2)
    (record { input = near_small (places_of 6 (trim c.0.0)) i.0 i.1; output = near_small (places_of 6 (trim c.0.1)) o.0 o.1 })

-- What is read keeps the rules of a table: the inputs above the last, the rest by the same.
pub bind_ok : {A B : Type 0} (r : Result A VrtFault) (f : A → Result B VrtFault) (y : B) → (r >>= f) ≡ Ok y → (x : A) × (r ≡ Ok x) × (f x ≡ Ok y)
bind_ok (Ok x) f y h = (x, refl, h)
bind_ok (Err e) f y h = absurd cc

pub ok_same : {A : Type 0} (x y : A) → ◌≡◌ {A = Result A VrtFault} (Ok x) (Ok y) → x ≡ y
ok_same x y h = cc

pub cond_ok : {A : Type 0} (b : Bool) (x y : A) (e : VrtFault) → cond b (Ok x) (Err e) ≡ Ok y → (b ≡ true) × (x ≡ y)
cond_ok true x y e h = (refl, cc)
cond_ok false x y e h = absurd cc

pub cond_err : {A : Type 0} (b : Bool) (e : VrtFault) (r : Result A VrtFault) (y : A) → cond b (Err e) r ≡ Ok y → (b ≡ false) × (r ≡ Ok y)
cond_err true e r y h = absurd cc
cond_err false e r y h = (refl, h)

or_ok : {A : Type 0} (e : VrtFault) (o : Option A) (y : A) → ok_or o e ≡ Ok y → Some y ≡ o
or_ok e None y h = absurd cc
or_ok e (Some x) y h = cc

pub record Next (n : ℕ) (last : Option LutPair) (pair : LutPair) : Type 0 where
  pub few : n < 65536
  pub above : is_above last pair ≡ true
  pub near : IsPair pair

next_rules : (n : ℕ) (last : Option LutPair) (p : List ℕ) (pair : LutPair) → ((x : LutPair) → Some x ≡ pair_of p → IsPair x) → next_pair n last p ≡ Ok pair → Next n last pair
next_rules n last p pair near h =
    let a = cond_err (nat_le 65536 n) Limit (ok_or (pair_of p) BadNumber >>= rising_pair last) pair h in
    let b = bind_ok (ok_or (pair_of p) BadNumber) (rising_pair last) pair a.1 in
    let c = cond_ok (is_above last b.0) b.0 pair BadNumber b.2 in
    record {
      few = grind (arith, nat_tests, a.0);
      above = ap (λ (x : LutPair). is_above last x) (sym c.1) ∙ c.0;
      near = subst IsPair c.1 (near b.0 (or_ok BadNumber (pair_of p) b.0 b.1));
    }

-- the last pair is below them
abbrev pub Follows : Option LutPair → List LutPair → Type 0
Follows None pairs = Unit {0}
Follows (Some p) pairs = is_below p.input pairs ≡ true

pub record From (n : ℕ) (last : Option LutPair) (pairs : List LutPair) : Type 0 where
  pub few : n + length pairs ≤ 65536
  pub follows : Follows last pairs
  pub rising : is_rising pairs ≡ true
  pub near : All IsPair pairs

follows_none : (last : Option LutPair) → Follows last []
follows_none None = tt
follows_none (Some p) = refl

follows_one : (last : Option LutPair) (pair : LutPair) (pairs : List LutPair) → is_above last pair ≡ true → Follows last (pair ∷ pairs)
follows_one None pair pairs h = tt
follows_one (Some p) pair pairs h = h

and_true : (a b : Bool) → a ≡ true → b ≡ true → a && b ≡ true
and_true true b h e = e
and_true false b h e = absurd cc

from_rules : (n : ℕ) (last : Option LutPair) (ps : List (List ℕ)) (pairs : List LutPair) → n ≤ 65536 → lut_from n last ps ≡ Ok pairs → From n last pairs
from_rules n last [] pairs le h =
    subst (From n last) (ok_same [] pairs h) (record { few = omega (arith, le); follows = follows_none last; rising = refl; near = All-nil IsPair })
from_rules n last (p ∷ ps) pairs le h =
    let a = bind_ok (next_pair n last p) _ pairs h in
    let b = bind_ok (lut_from (suc n) (Some a.0) ps) _ pairs a.2 in
    let first = next_rules n last p a.0 (pair_rules p) a.1 in
    let rest = from_rules (suc n) (Some a.0) ps b.0 (omega (arith, first.few)) b.1 in
    subst (From n last) (ok_same (a.0 ∷ b.0) pairs b.2) (record {
      few = omega (arith, rest.few);
      follows = follows_one last a.0 b.0 first.above;
      rising = and_true (is_below a.0.input b.0) (is_rising b.0) rest.follows rest.rising;
      near = All-cons IsPair a.0 b.0 first.near rest.near;
    })

-- there is a first piece
onto_some : (c : ℕ) (ps : List (List ℕ)) → 0 < length (onto c ps)
onto_some c [] = omega arith
onto_some c (p ∷ ps) = omega arith

cond_some : (x : Bool) (ps qs : List (List ℕ)) → 0 < length qs → 0 < length (cond x ([] ∷ ps) qs)
cond_some true ps qs h = omega arith
cond_some false ps qs h = h

some_pieces : (b : ℕ) (t : List ℕ) → 0 < length (pieces b t)
some_pieces b [] = omega arith
some_pieces b (c ∷ cs) = cond_some (c == b) (pieces b cs) (onto c (pieces b cs)) (onto_some c (pieces b cs))

some_pairs : (n : ℕ) (last : Option LutPair) (ps : List (List ℕ)) (pairs : List LutPair) → 0 < length ps → lut_from n last ps ≡ Ok pairs → 0 < length pairs
some_pairs n last [] pairs some h = absurd (omega (arith, some))
some_pairs n last (p ∷ ps) pairs some h =
    let a = bind_ok (next_pair n last p) _ pairs h in
    let b = bind_ok (lut_from (suc n) (Some a.0) ps) _ pairs a.2 in
    subst (λ (xs : List LutPair). 0 < length xs) (ok_same (a.0 ∷ b.0) pairs b.2) (omega arith)

pub lut_rules : (t : List ℕ) (pairs : List LutPair) → Ok pairs ≡ lut_of t → IsLut pairs
lut_rules t pairs h =
    let r = from_rules 0 None (pieces 44 t) pairs (omega arith) (sym h) in
    record { some = some_pairs 0 None (pieces 44 t) pairs (some_pieces 44 t) (sym h); few = omega (arith, r.few); rising = r.rising; near = r.near }
