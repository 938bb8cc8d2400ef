-- Each item takes a byte at least; so all pairs in front are the first, and those behind it.
use Rattle.std.proofs.Common.{◌≡◌, ℕ, zero, suc, ◌+◌, ◌<◌, ◌≤◌, Bool, true, false, cond, ◌||◌, List, [], ◌∷◌, length, drop, take, codes, Option, Some, None, refl, sym, ap, ◌∙◌, arith, ◌==◌}
use Rattle.std.specs.List.{prefix_len}
use Rattle.std.proofs.lemmas.List.{length-drop}
use Rattle.std.proofs.lemmas.List.Sums.{prefix_len-le-length}
use Rattle.std.proofs.lemmas.Bool.Decides.{nat_tests}
use Rattle.lists_and_answers.specs.Options.{◌>>=◌}
use Rattle.lists_and_answers.specs.Texts.{is_white}
use Rattle.vrt_markup.specs.Items.{option_case, is_later, has_first, trim_front, name_at, byte_at, spaces_at, quote_at, plain_len, value_at, pair_at, Pair, with_pair, pairs_by, pairs, Tag, tag_end, tag_front, tag_at, is_distinct, close_at, strip, begins, after_comment, ends_at, run_at, item_at, bad, comment, run, open_tag, close_tag}
use Rattle.vrt_markup.specs.Fronts.{IsShorter}

pub bind_some : {A B : Type 0} (o : Option A) (f : A → Option B) (y : B) → (o >>= f) ≡ Some y → (x : A) × (o ≡ Some x) × (f x ≡ Some y)
bind_some None f y h = absurd cc
bind_some (Some x) f y h = (x, refl, h)

pub guard_some : {A : Type 0} (b : Bool) (u y : A) → cond b (Some u) None ≡ Some y → u ≡ y
guard_some true u y h = cc
guard_some false u y h = absurd cc

pub trim_short : (t : List ℕ) → length (trim_front t) ≤ length t
trim_short t = omega (arith, length-drop (prefix_len is_white t) t)

pub name_short : (t : List ℕ) (x : List ℕ × List ℕ) → name_at t ≡ Some x → length x.1 ≤ length t
name_short t x h =
    let e : drop (prefix_len is_later t) t ≡ x.1 = ap (λ (p : List ℕ × List ℕ). p.1) (guard_some (has_first t) (take (prefix_len is_later t) t, drop (prefix_len is_later t) t) x h) in
    omega (arith, length-drop (prefix_len is_later t) t, ap length e)

pub byte_short : (b : ℕ) (t r : List ℕ) → byte_at b t ≡ Some r → length r < length t
byte_short b [] r h = absurd cc
byte_short b (c ∷ cs) r h = omega (arith, ap length (guard_some (c == b) cs r h))

guard_none : {A : Type 0} (b : Bool) (u y : A) → cond b None (Some u) ≡ Some y → (b ≡ false) × (u ≡ y)
guard_none true u y h = absurd cc
guard_none false u y h = (refl, cc)

pub spaces_short : (t r : List ℕ) → spaces_at t ≡ Some r → length r < length t
spaces_short t r h =
    let g = guard_none (prefix_len is_white t == 0) (trim_front t) r h in
    grind (arith, nat_tests, g.0, prefix_len-le-length is_white t, length-drop (prefix_len is_white t) t, ap length g.1)

pub quote_short : (t : List ℕ) (x : ℕ × List ℕ) → quote_at t ≡ Some x → length x.1 < length t
quote_short [] x h = absurd cc
quote_short (c ∷ cs) x h = omega (arith, ap (λ (p : ℕ × List ℕ). length p.1) (guard_some ((c == 34) || (c == 39)) (c, cs) x h))

pub value_short : (t : List ℕ) (x : List ℕ × List ℕ) → value_at t ≡ Some x → length x.1 < length t
unfolding value_at
value_short t x h =
    let q = bind_some (quote_at t) _ x h in
    let e = bind_some (byte_at q.0.0 (drop (plain_len q.0.0 q.0.1) q.0.1)) _ x q.2 in
    let last : e.0 ≡ x.1 = ap (λ (p : Option (List ℕ × List ℕ)). option_case p [] (λ y. y.1)) e.2 in
    omega (arith, quote_short t q.0 q.1, byte_short q.0.0 (drop (plain_len q.0.0 q.0.1) q.0.1) e.0 e.1, length-drop (plain_len q.0.0 q.0.1) q.0.1, ap length last)

pub pair_short : (t : List ℕ) (x : Pair × List ℕ) → pair_at t ≡ Some x → length x.1 < length t
unfolding pair_at
pair_short t x h =
    let s = bind_some (spaces_at t) _ x h in
    let n = bind_some (name_at s.0) _ x s.2 in
    let e = bind_some (byte_at 61 (trim_front n.0.1)) _ x n.2 in
    let v = bind_some (value_at (trim_front e.0)) _ x e.2 in
    let last : v.0.1 ≡ x.1 = ap (λ (p : Option (Pair × List ℕ)). option_case p [] (λ y. y.1)) v.2 in
    omega (arith, spaces_short t s.0 s.1, name_short s.0 n.0 n.1, trim_short n.0.1, byte_short 61 (trim_front n.0.1) e.0 e.1, trim_short e.0, value_short (trim_front e.0) v.0 v.1, ap length last)

none_case : (g : ℕ) (t : List ℕ) (o : Option (Pair × List ℕ)) → pair_at t ≡ o → length t ≤ 0 → option_case o ([], t) (λ p. with_pair p.0 (pairs_by g p.1)) ≡ ([], t)
none_case g t None e le = refl
none_case g t (Some p) e le = absurd (omega (arith, pair_short t p e, le))

more_case : (f g : ℕ) (t : List ℕ) (o : Option (Pair × List ℕ)) → pair_at t ≡ o → ((r : List ℕ) → length r < length t → pairs_by f r ≡ pairs_by g r) → option_case o ([], t) (λ p. with_pair p.0 (pairs_by f p.1)) ≡ option_case o ([], t) (λ p. with_pair p.0 (pairs_by g p.1))
more_case f g t None e ih = refl
more_case f g t (Some p) e ih = ap (with_pair p.0) (ih p.1 (pair_short t p e))

-- More fuel than bytes changes nothing.
pub enough : (f g : ℕ) (t : List ℕ) → length t ≤ f → length t ≤ g → pairs_by f t ≡ pairs_by g t
enough zero zero t lf lg = refl
enough zero (suc g) t lf lg = sym (none_case g t (pair_at t) refl lf)
enough (suc f) zero t lf lg = none_case f t (pair_at t) refl lg
enough (suc f) (suc g) t lf lg = more_case f g t (pair_at t) refl (λ r less. enough f g r (omega (arith, less, lf)) (omega (arith, less, lg)))

pub pairs_next : (t : List ℕ) (p : Pair) (r : List ℕ) → pair_at t ≡ Some (p, r) → pairs t ≡ with_pair p (pairs r)
pairs_next t p r e =
    enough (length t) (suc (length t)) t (omega arith) (omega arith)
    ∙ ap (λ (o : Option (Pair × List ℕ)). option_case o ([], t) (λ p. with_pair p.0 (pairs_by (length t) p.1))) e
    ∙ ap (with_pair p) (enough (length t) (length r) r (omega (arith, pair_short t (p, r) e)) (omega arith))

pub pairs_none : (t : List ℕ) → pair_at t ≡ None → pairs t ≡ ([], t)
pairs_none t e =
    enough (length t) (suc (length t)) t (omega arith) (omega arith)
    ∙ ap (λ (o : Option (Pair × List ℕ)). option_case o ([], t) (λ p. with_pair p.0 (pairs_by (length t) p.1))) e

pairs_short_case : (f : ℕ) (t : List ℕ) (o : Option (Pair × List ℕ)) → pair_at t ≡ o → ((r : List ℕ) → length (pairs_by f r).1 ≤ length r) → length (option_case o ([], t) (λ p. with_pair p.0 (pairs_by f p.1))).1 ≤ length t
pairs_short_case f t None e ih = omega arith
pairs_short_case f t (Some p) e ih = omega (arith, ih p.1, pair_short t p e)

pub pairs_short : (f : ℕ) (t : List ℕ) → length (pairs_by f t).1 ≤ length t
pairs_short zero t = omega arith
pairs_short (suc f) t = pairs_short_case f t (pair_at t) refl (pairs_short f)

tag_end_rest : (cs : List ℕ) (o : Option (List ℕ)) (x : Bool × List ℕ) → byte_at 62 cs ≡ o → option_case o None (λ rest. Some (true, rest)) ≡ Some x → length x.1 < length cs
tag_end_rest cs None x e h = absurd cc
tag_end_rest cs (Some rest) x e h = omega (arith, byte_short 62 cs rest e, ap (λ (p : Option (Bool × List ℕ)). length (option_case p [] (λ y. y.1))) h)

tag_end_case : (a b : Bool) (cs : List ℕ) (x : Bool × List ℕ) → cond a (Some (false, cs)) (cond b (option_case (byte_at 62 cs) None (λ rest. Some (true, rest))) None) ≡ Some x → length x.1 ≤ length cs
tag_end_case true b cs x h = omega (arith, ap (λ (p : Option (Bool × List ℕ)). length (option_case p [] (λ y. y.1))) h)
tag_end_case false true cs x h = omega (arith, tag_end_rest cs (byte_at 62 cs) x refl h)
tag_end_case false false cs x h = absurd cc

tag_end_short : (t : List ℕ) (x : Bool × List ℕ) → tag_end t ≡ Some x → length x.1 < length t
tag_end_short [] x h = absurd cc
tag_end_short (c ∷ cs) x h = omega (arith, tag_end_case (c == 62) (c == 47) cs x h)

front_short : (t : List ℕ) (x : Tag × List ℕ) → tag_front t ≡ Some x → length x.1 < length t
unfolding tag_front
front_short t x h =
    let n = bind_some (name_at t) _ x h in
    let e = bind_some (tag_end (trim_front (pairs n.0.1).1)) _ x n.2 in
    let last : e.0.1 ≡ x.1 = ap (λ (p : Option (Tag × List ℕ)). option_case p [] (λ y. y.1)) e.2 in
    omega (arith, name_short t n.0 n.1, pairs_short (length n.0.1) n.0.1, trim_short (pairs n.0.1).1, tag_end_short (trim_front (pairs n.0.1).1) e.0 e.1, ap length last)

pub tag_short : (t : List ℕ) (x : Tag × List ℕ) → tag_at t ≡ Some x → length x.1 < length t
unfolding tag_at
tag_short t x h =
    let y = bind_some (tag_front t) _ x h in
    let last = guard_some (is_distinct y.0.0.pairs) y.0 x y.2 in
    omega (arith, front_short t y.0 y.1, ap (λ (p : Tag × List ℕ). length p.1) last)

pub close_short : (t : List ℕ) (x : List ℕ × List ℕ) → close_at t ≡ Some x → length x.1 < length t
unfolding close_at
close_short t x h =
    let n = bind_some (name_at t) _ x h in
    let e = bind_some (byte_at 62 (trim_front n.0.1)) _ x n.2 in
    let last : e.0 ≡ x.1 = ap (λ (p : Option (List ℕ × List ℕ)). option_case p [] (λ y. y.1)) e.2 in
    omega (arith, name_short t n.0 n.1, trim_short n.0.1, byte_short 62 (trim_front n.0.1) e.0 e.1, ap length last)

-- a front of at least a byte
strip_shorter : (c : ℕ) (cs t r : List ℕ) → strip (c ∷ cs) t ≡ Some r → length r < length t
strip_shorter c cs [] r h = absurd cc
strip_shorter c cs (d ∷ ds) r h = omega (arith, ap length (guard_some (begins (c ∷ cs) (d ∷ ds)) (drop (length (c ∷ cs)) (d ∷ ds)) r h), length-drop (length (c ∷ cs)) (d ∷ ds))

comment_case : (b : Bool) (t cs r : List ℕ) → length cs ≤ length t → cond b (Some (drop 3 t)) (after_comment cs) ≡ Some r → ((r : List ℕ) → after_comment cs ≡ Some r → length r ≤ length cs) → length r ≤ length t
comment_case true t cs r le h ih = let e : drop 3 t ≡ r = cc in omega (arith, length-drop 3 t, ap length e)
comment_case false t cs r le h ih = omega (arith, ih r h, le)

comment_short : (t r : List ℕ) → after_comment t ≡ Some r → length r ≤ length t
comment_short [] r h = absurd cc
comment_short (c ∷ cs) r h = comment_case (begins (codes "-->") (c ∷ cs)) (c ∷ cs) cs r (omega arith) h (comment_short cs)

run_by : (b : Bool) (n : ℕ) (t : List ℕ) → (n == 0) ≡ b → n ≤ length t → IsShorter (cond b bad (run (take n t) (drop n t))) t
run_by true n t e le = tt
run_by false n t e le = grind (arith, nat_tests, length-drop n t)

run_case : (n : ℕ) (t : List ℕ) → n ≤ length t → IsShorter (cond (n == 0) bad (run (take n t) (drop n t))) t
run_case n t le = run_by (n == 0) n t refl le

plain_case : (b : Bool) (n m : ℕ) → n ≤ m → cond b 0 (suc n) ≤ m + 1
plain_case true n m le = omega arith
plain_case false n m le = omega arith

plain_len-le : (q : ℕ) (t : List ℕ) → plain_len q t ≤ length t
plain_len-le q [] = omega arith
plain_len-le q (c ∷ cs) = omega (arith, plain_case (ends_at q c cs) (plain_len q cs) (length cs) (plain_len-le q cs))

-- the cases of an item, with the tests that lead to them
comment_item : (t r : List ℕ) (o : Option (List ℕ)) → after_comment r ≡ o → length r < length t → IsShorter (option_case o bad comment) t
comment_item t r None e le = tt
comment_item t r (Some x) e le = omega (arith, comment_short r x e, le)

close_item : (t r : List ℕ) (o : Option (List ℕ × List ℕ)) → close_at r ≡ o → length r < length t → IsShorter (option_case o bad (λ x. close_tag x.0 x.1)) t
close_item t r None e le = tt
close_item t r (Some x) e le = omega (arith, close_short r x e, le)

tag_item : (t r : List ℕ) (o : Option (Tag × List ℕ)) → tag_at r ≡ o → length r < length t → IsShorter (option_case o bad (λ x. open_tag x.0 x.1)) t
tag_item t r None e le = tt
tag_item t r (Some x) e le = omega (arith, tag_short r x e, le)

third : (t : List ℕ) (o : Option (List ℕ)) → byte_at 60 t ≡ o → IsShorter (option_case o (run_at t) (λ rest. option_case (tag_at rest) bad (λ x. open_tag x.0 x.1))) t
third t None e = run_case (plain_len 60 t) t (plain_len-le 60 t)
third t (Some r) e = tag_item t r (tag_at r) refl (byte_short 60 t r e)

second : (t : List ℕ) (o : Option (List ℕ)) → strip (codes "</") t ≡ o → IsShorter (option_case o (option_case (byte_at 60 t) (run_at t) (λ rest. option_case (tag_at rest) bad (λ x. open_tag x.0 x.1))) (λ rest. option_case (close_at rest) bad (λ x. close_tag x.0 x.1))) t
second t None e = third t (byte_at 60 t) refl
second t (Some r) e = close_item t r (close_at r) refl (strip_shorter 60 (codes "/") t r e)

first : (t : List ℕ) (o : Option (List ℕ)) → strip (codes "<!--") t ≡ o → IsShorter (option_case o (option_case (strip (codes "</") t) (option_case (byte_at 60 t) (run_at t) (λ rest. option_case (tag_at rest) bad (λ x. open_tag x.0 x.1))) (λ rest. option_case (close_at rest) bad (λ x. close_tag x.0 x.1))) (λ rest. option_case (after_comment rest) bad comment)) t
first t None e = second t (strip (codes "</") t) refl
first t (Some r) e = comment_item t r (after_comment r) refl (strip_shorter 60 (codes "!--") t r e)

pub item_short : (t : List ℕ) → IsShorter (item_at t) t
unfolding item_at
item_short t = first t (strip (codes "<!--") t) refl
