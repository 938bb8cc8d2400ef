-- Tags without attributes.
use Rattle.std.proofs.Common.{◌≡◌, ℕ, zero, suc, Bool, true, false, cond, List, [], ◌∷◌, drop, Some, None, refl, sym, ap, ◌∙◌, ◌==◌, true≢false, arith}
use Rattle.std.proofs.lemmas.Bool.Decides.{nat_tests}
use Rattle.std.specs.List.{prefix_len}
use Rattle.lists_and_answers.specs.Options.{◌>>=◌}
use Rattle.lists_and_answers.specs.Texts.{is_white}
use Rattle.vrt_markup.specs.Items.{Pair, is_some, option_case, spaces_at, trim_front, byte_at, name_at, pairs, is_distinct, tag_end, tag_at, tag_item, bad, open_tag}
use Rattle.vrt_markup.proofs.Names.{spaceless, space_tells, tag_nameless, front_by, tag_by, by_tag}

-- what has no white space in front stays
pub untrimmed : (a : List ℕ) → is_some (spaces_at a) ≡ false → trim_front a ≡ a
untrimmed a h = by_count (prefix_len is_white a) h
  where
    by_count : (n : ℕ) → is_some (cond (n == 0) None (Some (trim_front a))) ≡ false → drop n a ≡ a
    by_count zero h = refl
    by_count (suc n) h =
        let some : (suc n == 0) ≡ false = grind (arith, nat_tests) in
        absurd (true≢false (sym (ap (λ b. is_some (cond b None (Some (trim_front a)))) some) ∙ h))

end_bare : (a : List ℕ) → is_some (spaces_at a) ≡ false → tag_end (trim_front (pairs a).1) ≡ tag_end a
end_bare a h = ap (λ (x : List Pair × List ℕ). tag_end (trim_front x.1)) (spaceless a h) ∙ ap tag_end (untrimmed a h)

tag_whole : (t n a r : List ℕ) (e : Bool) → Some (n, a) ≡ name_at t → is_some (spaces_at a) ≡ false → Some (e, r) ≡ tag_end a → tag_at t ≡ Some (record { name = n; pairs = (pairs a).0; empty = e }, r)
tag_whole t n a r e name bare end =
    by_tag t ∙ ap tag_by (sym name)
    ∙ ap (λ o. front_by (n, a) o >>= λ x. cond (is_distinct x.0.pairs) (Some x) None) (end_bare a bare ∙ sym end)
    ∙ ap (λ (x : List Pair × List ℕ). cond (is_distinct x.0) (Some (record { name = n; pairs = (pairs a).0; empty = e }, r)) None) (spaceless a bare)

pub bare_tag : (t n a r : List ℕ) (e : Bool) → Some (n, a) ≡ name_at t → is_some (spaces_at a) ≡ false → Some (e, r) ≡ tag_end a → open_tag (record { name = n; pairs = (pairs a).0; empty = e }) r ≡ tag_item t
bare_tag t n a r e name bare end = sym (ap (λ o. option_case o bad (λ x. open_tag x.0 x.1)) (tag_whole t n a r e name bare end))

-- what ends a tag is no white space
ended : (a : List ℕ) (x : Bool × List ℕ) → Some x ≡ tag_end a → is_some (spaces_at a) ≡ false
ended [] x h = refl
ended (c ∷ cs) x h = sym (space_tells c cs) ∙ by_case (c == 62) (c == 47) refl refl h
  where
    by_case : (a b : Bool) → (c == 62) ≡ a → (c == 47) ≡ b → Some x ≡ cond a (Some (false, cs)) (cond b (option_case (byte_at 62 cs) None (λ rest. Some (true, rest))) None) → is_white c ≡ false
    by_case true b e f h =
        let same : c ≡ 62 = grind (arith, nat_tests, e) in
        ap is_white same
    by_case false true e f h =
        let same : c ≡ 47 = grind (arith, nat_tests, f) in
        ap is_white same
    by_case false false e f h = absurd cc

pub whole_tag : (t n a r : List ℕ) (e : Bool) → Some (n, a) ≡ name_at t → Some (e, r) ≡ tag_end a → open_tag (record { name = n; pairs = (pairs a).0; empty = e }) r ≡ tag_item t
whole_tag t n a r e name end = bare_tag t n a r e name (ended a (e, r) end) end

pub no_tag : (t : List ℕ) → None ≡ name_at t → bad ≡ tag_item t
no_tag t name = sym (ap (λ o. option_case o bad (λ x. open_tag x.0 x.1)) (tag_nameless t (sym name)))
