-- Start tags that are written are read again, with their attributes.
use Rattle.std.proofs.Common.{◌≡◌, ℕ, ◌+◌, true, false, cond, ◌==◌, List, [], ◌∷◌, ◌++◌, length, take, drop, Option, Some, None, refl, ap, ◌∙◌, arith}
use Rattle.std.specs.List.{prefix_len}
use Rattle.std.proofs.lemmas.Bool.Decides.{nat_tests}
use Rattle.std.proofs.lemmas.List.{take_at, drop_at}
use Rattle.lists_and_answers.specs.Options.{◌>>=◌}
use Rattle.lists_and_answers.specs.Texts.{is_white}
use Rattle.vrt_markup.specs.Items.{is_first, has_first, name_at, byte_at, trim_front, spaces_at, value_at, Pair, pair_at}
use Rattle.vrt_writing.specs.Reread.{IsTagName, IsValue}
use Rattle.vrt_writing.proofs.Reread.{name_again}

first_dark : (c : ℕ) → is_first c ≡ true → is_white c ≡ false
first_dark c h = grind (arith, nat_tests)

dark_front : (name rest : List ℕ) → has_first name ≡ true → prefix_len is_white (name ++ rest) ≡ 0
dark_front [] rest h = absurd cc
dark_front (c ∷ cs) rest h = ap (λ b. cond b (1 + prefix_len is_white (cs ++ rest)) 0) (first_dark c h)

space_again : (x : List ℕ) → prefix_len is_white x ≡ 0 → spaces_at (32 ∷ x) ≡ Some x
space_again x e = ap (λ k. cond (1 + k == 0) None (Some (drop (1 + k) (32 ∷ x)))) e

value_again : (value r : List ℕ) → IsValue value → value_at (34 ∷ value ++ 34 ∷ r) ≡ Some (value, r)
unfolding value_at
value_again value r is =
    ap (λ k. byte_at 34 (drop k (value ++ 34 ∷ r)) >>= λ e. Some (take k (value ++ 34 ∷ r), e)) (is.plain r)
    ∙ ap (λ (x : List ℕ). byte_at 34 x >>= λ e. Some (take (length value) (value ++ 34 ∷ r), e)) (drop_at value (34 ∷ r) (length value) refl)
    ∙ ap (λ (x : List ℕ). Some (x, r)) (take_at value (34 ∷ r) (length value) refl)

abbrev behind_value : List ℕ → Option (List ℕ × List ℕ) → Option (Pair × List ℕ)
behind_value name o = o >>= λ v. Some (record { name = name; value = v.0 }, v.1)

abbrev behind_name : Option (List ℕ × List ℕ) → Option (Pair × List ℕ)
behind_name o = o >>= λ n. byte_at 61 (trim_front n.1) >>= λ equals. behind_value n.0 (value_at (trim_front equals))

pub pair_again : (p : Pair) (r : List ℕ) → IsTagName p.name → IsValue p.value → pair_at (32 ∷ p.name ++ (61 ∷ 34 ∷ p.value ++ 34 ∷ r)) ≡ Some (p, r)
unfolding pair_at
pair_again p r is v =
    ap (λ (o : Option (List ℕ)). o >>= λ front. behind_name (name_at front)) (space_again (p.name ++ (61 ∷ 34 ∷ p.value ++ 34 ∷ r)) (dark_front p.name (61 ∷ 34 ∷ p.value ++ 34 ∷ r) is.first))
    ∙ ap behind_name (name_again p.name (34 ∷ p.value ++ 34 ∷ r) 61 is refl)
    ∙ ap (behind_value p.name) (value_again p.value r v)
