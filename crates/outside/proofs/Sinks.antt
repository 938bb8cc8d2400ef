-- What a sink gets by two calls, one after the other.
use Rattle.std.proofs.Common.{◌≡◌, ℕ, ◌+◌, min, List, [], ◌++◌, length, take, ap, sym, ◌∙◌, Option, Some, Bool, true, false, inl, inr, append_assoc, arith}
use Rattle.std.proofs.lemmas.List.{take_min, append-nil, take-append-le}
use Rattle.std.proofs.Math.Seq.{take-append-add, take-length}
use Rattle.std.specs.Prelude.{if◌then◌else◌}
use Rattle.outside.specs.Streams.{Gets, GetsPart, GetsFront}

-- nothing was put
pub gets-none : (old : Option (List ℕ)) → Gets [] old old
gets-none old = λ g is. is ∙ ap Some (sym (append-nil g))

-- two whole texts
pub gets-then : (a b : List ℕ) (old mid new : Option (List ℕ)) → Gets a old mid → Gets b mid new → Gets (a ++ b) old new
gets-then a b old mid new first second = λ g is.
    second (g ++ a) (first g is) ∙ ap Some (append_assoc g a b)

-- a whole text, and a part of the next
pub gets-then-part : (a b : List ℕ) (old mid new : Option (List ℕ)) → Gets a old mid → GetsPart b mid new → GetsPart (a ++ b) old new
gets-then-part a b old mid new first second = λ g is.
    let found = second (g ++ a) (first g is) in
    (length a + found.0, found.1 ∙ ap Some (append_assoc g a (take found.0 b) ∙ ap (λ t. g ++ t) (sym (take-append-add a b found.0))))

-- a part of the first text is a part of both
pub part-first : (a b : List ℕ) (old new : Option (List ℕ)) → GetsPart a old new → GetsPart (a ++ b) old new
part-first a b old new first = λ g is.
    let found = first g is in
    let n = min found.0 (length a) in
    (n, found.1 ∙ ap (λ t. Some (g ++ t)) (sym (take-append-le n a b (omega arith) ∙ take_min found.0 a)))

-- a whole text is a part of itself
pub gets-whole : (a : List ℕ) (old new : Option (List ℕ)) → Gets a old new → GetsPart a old new
gets-whole a old new whole = λ g is. (length a, whole g is ∙ ap (λ t. Some (g ++ t)) (sym (take-length a)))

-- a first part is put where there is room for it
pub front-or-none : (r : Bool) (old new bytes : List ℕ) (m n : ℕ) → m ≡ min n (length bytes) → new ≡ (if r then old ++ take m bytes else old) → GetsFront n bytes (Some old) (Some new)
front-or-none true old new bytes m n is put = λ g same.
    let e : take m bytes ≡ take n bytes = ap (λ k. take k bytes) is ∙ take_min n bytes in
    inl (cc (put, e, same))
front-or-none false old new bytes m n is put = λ g same. inr (ap Some put)
