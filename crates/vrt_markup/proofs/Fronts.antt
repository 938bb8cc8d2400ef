-- The first byte that begins a tag or an entity, and fronts of two bytes and of four.
use Rattle.std.proofs.Common.{◌≡◌, ◌≤◌, ◌∙◌, ℕ, Bool, true, false, cond, not, ◌||◌, ◌&&◌, List, [], ◌∷◌, length, drop, Option, Some, None, get_or, refl, sym, ap, arith, ◌==◌}
use Rattle.std.specs.Option.{unwrap_or}
use Rattle.std.specs.List.{prefix_len}
use Rattle.std.proofs.lemmas.List.Sums.{prefix_len_is}
use Rattle.memchr.specs.Find.{IsFirstByte, is_byte2}
use Rattle.vrt_markup.specs.Keys.{is_plain}
use Rattle.vrt_markup.specs.Items.{begins, byte_at, is_equal, strip}
use Rattle.lists_and_answers.specs.Options.{◌>>=◌}

neither : (a b : Bool) → not (a || b) ≡ (not a && not b)
neither true b = refl
neither false b = refl

other_byte : (c : ℕ) → (is_byte2 60 38 c ≡ true → ⊥) → is_plain c ≡ true
other_byte c other = by_case (is_byte2 60 38 c) refl
  where
    by_case : (t : Bool) → is_byte2 60 38 c ≡ t → is_plain c ≡ true
    by_case true e = absurd (other e)
    by_case false e = sym (neither (c == 60) (c == 38)) ∙ ap not e

this_byte : (c : ℕ) → is_byte2 60 38 c ≡ true → is_plain c ≡ false
this_byte c e = sym (neither (c == 60) (c == 38)) ∙ ap not e

pub first_place : (bytes : List ℕ) (place : Option ℕ) → IsFirstByte (is_byte2 60 38) bytes place → unwrap_or place (length bytes) ≡ prefix_len is_plain bytes
first_place bytes None h = sym (prefix_len_is is_plain bytes (length bytes) 0 (omega arith) (λ k below. other_byte (get_or bytes k 0) (h k (omega arith) below)) (λ past. absurd (omega (arith, past))))
first_place bytes (Some i) h = sym (prefix_len_is is_plain bytes i 0 (omega (arith, h.0.high)) (λ k below. other_byte (get_or bytes k 0) (h.0.before k (omega arith) below)) (λ past. this_byte (get_or bytes i 0) h.1))

pub place_within : (bytes : List ℕ) (place : Option ℕ) → IsFirstByte (is_byte2 60 38) bytes place → unwrap_or place (length bytes) ≤ length bytes
place_within bytes None h = omega arith
place_within bytes (Some i) h = omega (arith, h.0.high)

-- A front is its first byte and what is left of it.
one_front : (a : ℕ) (front t : List ℕ) → (byte_at a t >>= strip front) ≡ strip (a ∷ front) t
one_front a front [] = refl
one_front a front (c ∷ cs) = by_case (c == a)
  where
    by_case : (b : Bool) → (cond b (Some cs) None >>= strip front) ≡ cond (b && begins front cs) (Some (drop (length front) cs)) None
    by_case true = refl
    by_case false = refl

byte_front : (a : ℕ) (t : List ℕ) → byte_at a t ≡ strip (a ∷ []) t
byte_front a [] = refl
byte_front a (c ∷ cs) = by_case (c == a)
  where
    by_case : (b : Bool) → cond b (Some cs) None ≡ cond (b && begins [] cs) (Some cs) None
    by_case true = refl
    by_case false = refl

pub two_none : (a b : ℕ) (t : List ℕ) → None ≡ byte_at a t → None ≡ strip (a ∷ b ∷ []) t
two_none a b t h = ap (λ o. o >>= strip (b ∷ [])) h ∙ one_front a (b ∷ []) t

pub two_some : (a b : ℕ) (t r : List ℕ) → Some r ≡ byte_at a t → byte_at b r ≡ strip (a ∷ b ∷ []) t
two_some a b t r h = byte_front b r ∙ ap (λ o. o >>= strip (b ∷ [])) h ∙ one_front a (b ∷ []) t

two_front : (a b : ℕ) (front t : List ℕ) → (strip (a ∷ b ∷ []) t >>= strip front) ≡ strip (a ∷ b ∷ front) t
two_front a b front [] = refl
two_front a b front (c ∷ []) = by_case (c == a)
  where
    by_case : (x : Bool) → (cond (x && false) (Some (drop 2 (c ∷ []))) None >>= strip front) ≡ cond (x && false) (Some (drop (length (a ∷ b ∷ front)) (c ∷ []))) None
    by_case true = refl
    by_case false = refl
two_front a b front (c ∷ d ∷ ds) = by_case (c == a) (d == b)
  where
    by_case : (x y : Bool) → (cond (x && (y && true)) (Some ds) None >>= strip front) ≡ cond (x && (y && begins front ds)) (Some (drop (length front) ds)) None
    by_case true true = refl
    by_case true false = refl
    by_case false y = refl

pub four_none : (a b c d : ℕ) (t : List ℕ) → None ≡ strip (a ∷ b ∷ []) t → None ≡ strip (a ∷ b ∷ c ∷ d ∷ []) t
four_none a b c d t h = ap (λ o. o >>= strip (c ∷ d ∷ [])) h ∙ two_front a b (c ∷ d ∷ []) t

pub four_some : (a b c d : ℕ) (t r : List ℕ) → Some r ≡ strip (a ∷ b ∷ []) t → strip (c ∷ d ∷ []) r ≡ strip (a ∷ b ∷ c ∷ d ∷ []) t
four_some a b c d t r h = ap (λ o. o >>= strip (c ∷ d ∷ [])) h ∙ two_front a b (c ∷ d ∷ []) t

-- Texts of other lengths aren't the same.
none_and : (a : Bool) → (a && false) ≡ false
none_and true = refl
none_and false = refl

pub unlike : (a b : List ℕ) → (length a ≡ length b → ⊥) → false ≡ is_equal a b
unlike [] [] h = absurd (h refl)
unlike [] (y ∷ ys) h = refl
unlike (x ∷ xs) [] h = refl
unlike (x ∷ xs) (y ∷ ys) h = sym (ap (λ b. (x == y) && b) (sym (unlike xs ys (λ e. h (omega (arith, e))))) ∙ none_and (x == y))
