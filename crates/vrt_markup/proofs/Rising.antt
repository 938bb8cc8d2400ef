-- Attributes the numbers of whose names rise, in one stretch or in a few, each below the earlier ones.
use Rattle.std.proofs.Common.{◌≡◌, ℕ, ◌<◌, ◌≤◌, Bool, true, false, cond, not, ◌||◌, ◌&&◌, List, [], ◌∷◌, map, Option, Some, None, ◌⊎◌, inl, inr, subst, refl, sym, ap, ◌∙◌, arith, ◌==◌, nat_lt}
use Rattle.std.proofs.lemmas.Bool.Decides.{nat_tests}
use Rattle.std.specs.List.{list_any}
use Rattle.lists_and_answers.specs.Options.{◌>>=◌}
use Rattle.vrt_markup.specs.Items.{Pair, option_case, is_distinct, pair_at, pairs, name_at, trim_front, tag_end, tag_at, tag_item, bad, open_tag}
use Rattle.vrt_markup.specs.Keys.{last_bytes, last_number_of, apart, Spread, spread_with, spreads}
use Rattle.vrt_markup.proofs.Shorter.{pairs_next}
use Rattle.vrt_markup.proofs.EndTags.{and_both}
use Rattle.vrt_markup.proofs.Names.{numbers_differ, tag_endless, front_by, by_tag, tag_by}

-- What a number is that is among the numbers so far.
abbrev IsAmong : Spread → ℕ → Type 0
IsAmong s k = (s.low ≤ k) × ((k ≤ s.last) ⊎ (s.top ≤ k))

-- One more differs from each of them, is among them from then on, and so are they.
with_one : (s : Spread) (n : ℕ) (t : Spread) (k : ℕ) → spread_with s n ≡ Some t → IsAmong s k → ((k == n) ≡ false) × IsAmong t k
with_one s n t k e among = by_case (nat_lt n s.low) (nat_lt s.last n && nat_lt n s.top) refl refl e
  where
    by_case : (a b : Bool) → nat_lt n s.low ≡ a → (nat_lt s.last n && nat_lt n s.top) ≡ b → cond a (Some (record { low = n; last = n; top = s.low })) (cond b (Some (record { low = s.low; last = n; top = s.top })) None) ≡ Some t → ((k == n) ≡ false) × IsAmong t k
    by_case true b below mid e =
        let same : t ≡ record { low = n; last = n; top = s.low } = cc in
        let less : n < s.low = grind (arith, nat_tests, below) in
        let first : s.low ≤ k = among.0 in
        (grind (arith, nat_tests, less, first), subst (λ u. IsAmong u k) (sym same) (omega (arith, less, first), inr first))
    by_case false true below mid e =
        let same : t ≡ record { low = s.low; last = n; top = s.top } = cc in
        let both = and_both (nat_lt s.last n) (nat_lt n s.top) mid in
        let past : s.last < n = grind (arith, nat_tests, both.0) in
        let under : n < s.top = grind (arith, nat_tests, both.1) in
        elim among.1 [
          | inl in_front ↦ (grind (arith, nat_tests, past, in_front), subst (λ u. IsAmong u k) (sym same) (among.0, inl (omega (arith, past, in_front))))
          | inr behind ↦ (grind (arith, nat_tests, under, behind), subst (λ u. IsAmong u k) (sym same) (among.0, inr behind))
        ]
    by_case false false below mid e = absurd cc

one_among : (s : Spread) (n : ℕ) (t : Spread) → spread_with s n ≡ Some t → IsAmong t n
one_among s n t e = by_case (nat_lt n s.low) (nat_lt s.last n && nat_lt n s.top) refl e
  where
    by_case : (a b : Bool) → nat_lt n s.low ≡ a → cond a (Some (record { low = n; last = n; top = s.low })) (cond b (Some (record { low = s.low; last = n; top = s.top })) None) ≡ Some t → IsAmong t n
    by_case true b below e =
        let same : t ≡ record { low = n; last = n; top = s.low } = cc in
        subst (λ u. IsAmong u n) (sym same) (omega arith, inl (omega arith))
    by_case false true below e =
        let same : t ≡ record { low = s.low; last = n; top = s.top } = cc in
        let over : s.low ≤ n = grind (arith, nat_tests, below) in
        subst (λ u. IsAmong u n) (sym same) (over, inl (omega arith))
    by_case false false below e = absurd cc

spread_case : (o : Option Spread) (ns : List ℕ) → option_case o false (λ t. spreads t ns) ≡ true → (t : Spread) × (o ≡ Some t) × (spreads t ns ≡ true)
spread_case None ns h = absurd cc
spread_case (Some t) ns h = (t, refl, h)

past_all : (s : Spread) (k : ℕ) (ns : List ℕ) → IsAmong s k → spreads s ns ≡ true → list_any (λ n. k == n) ns ≡ false
past_all s k [] among h = refl
past_all s k (n ∷ ns) among h =
    let next = spread_case (spread_with s n) ns h in
    let more = with_one s n next.0 k next.1 among in
    ap (λ b. b || list_any (λ n. k == n) ns) more.0 ∙ past_all next.0 k ns more.1 next.2

spread_apart : (s : Spread) (ns : List ℕ) → spreads s ns ≡ true → apart (λ x y. x == y) ns ≡ true
spread_apart s [] h = refl
spread_apart s (n ∷ ns) h =
    let next = spread_case (spread_with s n) ns h in
    ap (λ b. not b && apart (λ x y. x == y) ns) (past_all next.0 n ns (one_among s n next.0 next.1) next.2) ∙ spread_apart next.0 ns next.2

pub spread_differ : (s : Spread) (ps : List Pair) → spreads s (map last_number_of ps) ≡ true → is_distinct ps ≡ true
spread_differ s ps h = numbers_differ last_bytes ps (spread_apart s (map last_number_of ps) h)

-- One attribute more.
pub spreads_more : (s u : Spread) (n : ℕ) (t : List ℕ) (p : Pair) (r : List ℕ) → Some u ≡ spread_with s n → n ≡ last_number_of p → pair_at t ≡ Some (p, r) → spreads u (map last_number_of (pairs r).0) ≡ spreads s (map last_number_of (pairs t).0)
spreads_more s u n t p r more same e =
    ap (λ o. option_case o false (λ v. spreads v (map last_number_of (pairs r).0))) (more ∙ ap (spread_with s) same)
    ∙ ap (λ (x : List Pair × List ℕ). spreads s (map last_number_of x.0)) (sym (pairs_next t p r e))

tag_whole : (t n a r : List ℕ) (e : Bool) → Some (n, a) ≡ name_at t → is_distinct (pairs a).0 ≡ true → Some (e, r) ≡ tag_end (trim_front (pairs a).1) → tag_at t ≡ Some (record { name = n; pairs = (pairs a).0; empty = e }, r)
tag_whole t n a r e name distinct end =
    by_tag t ∙ ap tag_by (sym name)
    ∙ ap (λ o. front_by (n, a) o >>= λ x. cond (is_distinct x.0.pairs) (Some x) None) (sym end)
    ∙ ap (λ b. cond b (Some (record { name = n; pairs = (pairs a).0; empty = e }, r)) None) distinct

pub ended_tag : (t n a b r : List ℕ) (e : Bool) → Some (n, a) ≡ name_at t → b ≡ (pairs a).1 → is_distinct (pairs a).0 ≡ true → Some (e, r) ≡ tag_end (trim_front b) → open_tag (record { name = n; pairs = (pairs a).0; empty = e }) r ≡ tag_item t
ended_tag t n a b r e name rest distinct end = sym (ap (λ o. option_case o bad (λ x. open_tag x.0 x.1)) (tag_whole t n a r e name distinct (end ∙ ap (λ x. tag_end (trim_front x)) rest)))

pub ended_none : (t n a b : List ℕ) → Some (n, a) ≡ name_at t → b ≡ (pairs a).1 → None ≡ tag_end (trim_front b) → bad ≡ tag_item t
ended_none t n a b name rest end = sym (ap (λ o. option_case o bad (λ x. open_tag x.0 x.1)) (tag_endless t n a (sym name) (ap (λ x. tag_end (trim_front x)) (sym rest) ∙ sym end)))
