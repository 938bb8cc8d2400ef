-- What a reader and a writer of std do to the bytes that they tell.
use Rattle.std.proofs.Common.{◌≡◌, ◌+◌, ◌<◌, ◌≤◌, ℕ, List, [], ◌++◌, length, take, drop, Option, Some, None, Result, Ok, Err, refl, sym, ap, ◌∙◌, subst, arith, append_assoc, append-nil, length-append, length-take-le, take-append-drop, take_at, drop_at}
use Rattle.std.proofs.lemmas.List.{nil_from_length}
use Rattle.std.specs.Io.KnownBytes.{Keeps, Appends, Consumes, IsAtEnd, WriteAppends}
use Rattle.outside.specs.Streams.{TakenFrom, Gets, GetsPart}
use Rattle.outside.proofs.Sinks.{gets-none, gets-then, gets-whole, part-first}

-- told bytes stay
pub record Stays (old new : Option (List ℕ)) : Type 0 where
  pub kept : (b : List ℕ) → old ≡ Some b → new ≡ Some b

pub keeps-told : (mid new : Option (List ℕ)) (b : List ℕ) → Keeps mid new → mid ≡ Some b → new ≡ Some b
keeps-told None new b kept is = absurd cc
keeps-told (Some x) None b kept is = absurd kept
keeps-told (Some x) (Some y) b kept is = cc

pub stays-none : (old : Option (List ℕ)) → Stays old old
stays-none old = record { kept = λ b is. is }

-- a read that failed
pub stays-more : (old mid new : Option (List ℕ)) → Stays old mid → Keeps mid new → Stays old new
stays-more old mid new s kept = record { kept = λ b is. keeps-told mid new b kept (s.kept b is) }

-- a read of n bytes
taken : (mid new : Option (List ℕ)) (out : List ℕ) (n : ℕ) (b : List ℕ) → n ≤ length out → 0 < length out
    → Consumes mid new (take n out) → (n ≡ 0 → 0 < length out → IsAtEnd new) → mid ≡ Some b → TakenFrom b out new n
taken None new out n b within some eats end is = absurd cc
taken (Some x) None out n b within some eats end is = absurd eats
taken (Some x) (Some y) out n b within some eats end is =
    let here : x ≡ b = cc in
    let whole : b ≡ take n out ++ y = sym here ∙ eats in
    let long : length (take n out) ≡ n = length-take-le n out within in
    let both : length b ≡ length (take n out) + length y = ap length whole ∙ length-append (take n out) y in
    record {
      within = omega arith;
      bytes = sym (ap (take n) whole ∙ take_at (take n out) y n long);
      rest = ap Some (sym (ap (drop n) whole ∙ drop_at (take n out) y n long));
      at_end = λ none. let gone : length y ≡ 0 = ap length (end none some) in nil_from_length b (omega arith);
    }

pub told-read : (old mid new : Option (List ℕ)) (out : List ℕ) (n : ℕ) → Stays old mid → n ≤ length out → 0 < length out
    → Consumes mid new (take n out) × (n ≡ 0 → 0 < length out → IsAtEnd new) → (b : List ℕ) → old ≡ Some b → TakenFrom b out new n
told-read old mid new out n s within some read = λ b is. taken mid new out n b within some read.0 read.1 (s.kept b is)

-- a first part of the bytes was written, and the rest is left
pub record Wrote (bytes rest : List ℕ) (old new : Option (List ℕ)) : Type 0 where
  pub front : List ℕ
  pub is : bytes ≡ front ++ rest
  pub got : Gets front old new

gets-appended : (mid new : Option (List ℕ)) (bs : List ℕ) → Appends mid new bs → Gets bs mid new
gets-appended None new bs more = λ g is. absurd cc
gets-appended (Some x) None bs more = absurd more
gets-appended (Some x) (Some y) bs more = λ g is. cc

-- nothing was written
pub wrote-none : (bytes : List ℕ) (old : Option (List ℕ)) → Wrote bytes bytes old old
wrote-none bytes old = record { front = []; is = refl; got = gets-none old }

-- n bytes more
pub wrote-more : (bytes rest more : List ℕ) (n : ℕ) (old mid new : Option (List ℕ)) → Wrote bytes rest old mid → Appends mid new (take n rest) → more ≡ drop n rest → Wrote bytes more old new
wrote-more bytes rest more n old mid new w took left =
    record {
      front = w.front ++ take n rest;
      is = w.is ∙ ap (λ t. w.front ++ t) (sym (take-append-drop n rest)) ∙ sym (append_assoc w.front (take n rest) (drop n rest)) ∙ ap (λ t. (w.front ++ take n rest) ++ t) (sym left);
      got = gets-then w.front (take n rest) old mid new w.got (gets-appended mid new (take n rest) took);
    }

-- a write that failed
pub wrote-kept : (bytes rest : List ℕ) (old mid new : Option (List ℕ)) → Wrote bytes rest old mid → Keeps mid new → Wrote bytes rest old new
wrote-kept bytes rest old mid new w kept =
    record { front = w.front; is = w.is; got = λ g is. keeps-told mid new (g ++ w.front) kept (w.got g is) }

-- all of them were written
pub wrote-all : (bytes rest : List ℕ) (old new : Option (List ℕ)) → length rest ≡ 0 → Wrote bytes rest old new → Gets bytes old new
wrote-all bytes rest old new none w =
    let whole : bytes ≡ w.front = w.is ∙ ap (λ t. w.front ++ t) (nil_from_length rest none) ∙ append-nil w.front in
    subst (λ b. Gets b old new) (sym whole) w.got

-- what was written so far
pub wrote-part : (bytes rest : List ℕ) (old new : Option (List ℕ)) → Wrote bytes rest old new → GetsPart bytes old new
wrote-part bytes rest old new w =
    subst (λ b. GetsPart b old new) (sym w.is) (part-first w.front rest old new (gets-whole w.front old new w.got))

-- a write that ended the work
pub wrote-ended : {E : Type 0} (bytes rest : List ℕ) (old mid new : Option (List ℕ)) (r : Result ℕ E) → Wrote bytes rest old mid → WriteAppends mid new r rest → GetsPart bytes old new
wrote-ended bytes rest old mid new (Ok n) w took =
    wrote-part bytes (drop n rest) old new (wrote-more bytes rest (drop n rest) n old mid new w took refl)
wrote-ended bytes rest old mid new (Err e) w kept = wrote-part bytes rest old new (wrote-kept bytes rest old mid new w kept)
