-- What the calls of a walk ensure, one behind the other.
use Rattle.std.proofs.Common.{◌≡◌, ◌∙◌, ◌⊎◌, inl, ◌+◌, ◌≤◌, ap, sym, subst, refl, ℕ, List, [], ◌++◌, length, Bool, Result, Ok, Err, arith, length-append}
use Rattle.std.specs.Prelude.{OnOk}
use Rattle.lists_and_answers.specs.Answers.{◌>>=◌}
use Rattle.outside.specs.Causes.{Rose}
use Rattle.vrt_profile.specs.Values.{SourceValue}
use Rattle.catalog.specs.declared.faults.Bad.{Bad}
use Rattle.catalog.specs.declared.faults.WalkFault.{WalkFault}
use Rattle.catalog.specs.declared.faults.WalkFault.TheVariants.{NotRecognized, Malformed, FolderFault, Memory}
use Rattle.catalog.specs.Heads.{IsOwnFault}
use Rattle.catalog.specs.Outcomes.{IsOutside}
use Rattle.catalog.specs.Walk.{Met, visit, visit_sources}
use Rattle.catalog.specs.Linked.{State, met_of, IsLinked, Grows, Goes}
use Rattle.catalog.specs.Walking.{Seen, IsOrdinaryFault, WalksOn, Passes}
use Rattle.catalog.proofs.States.{grows_refl, grows_trans, goes_trans, goes_none}
use Rattle.catalog.proofs.Readings.{read_then}
use Rattle.catalog.proofs.Visits.{sources_append, still_refused}

abbrev pub failed : (T : Type 0) → WalkFault → Result T WalkFault
failed T fault = Err fault

pub fault_is : (T : Type 0) (f g : WalkFault) → failed T f ≡ failed T g → f ≡ g
fault_is T f g is = cc

pub ok≢err : {T : Type 0} {x : T} {f : WalkFault} → Ok x ≡ Err f → ⊥
ok≢err is = cc

pub plain_known : (f : WalkFault) (n : List ℕ) → IsOrdinaryFault f → f ≡ NotRecognized n → ⊥
plain_known f n plain is = subst IsOrdinaryFault is plain

pub plain_own : (f : WalkFault) (n : List ℕ) (b : Bad) → IsOrdinaryFault f → f ≡ Malformed n b → IsOwnFault b
plain_own f n b plain is = subst IsOrdinaryFault is plain

pub plain_inside : (f : WalkFault) → IsOrdinaryFault f → f ≡ FolderFault → ⊥
plain_inside f plain is = subst IsOrdinaryFault is plain

-- walks

pub walks_none : {T : Type 0} (a : Seen) (st : State) (x : T) → IsLinked st → WalksOn 0 a a st st (Ok x)
walks_none a st x linked = record {
  grows = grows_refl st;
  goes = goes_none st linked;
  read = λ m told walked. walked;
  known = λ n is. absurd (ok≢err is);
  own = λ n b is. absurd (ok≢err is);
  names = refl;
  writes = refl;
  cause = record { later = omega arith; failed = λ is. absurd (ok≢err is) };
}

-- a plain refusal, where what was met stays
pub walks_plain : (T : Type 0) (n : ℕ) (a : Seen) (old new : State) (f : WalkFault) → Grows old new → IsOrdinaryFault f → WalksOn n a a old new (failed T f)
walks_plain T n a old new f grows plain = record {
  grows = grows;
  goes = tt;
  read = λ m told walked. tt;
  known = λ k is. absurd (plain_known f k plain (fault_is T f (NotRecognized k) is));
  own = λ k b is. plain_own f k b plain (fault_is T f (Malformed k b) is);
  names = refl;
  writes = refl;
  cause = record { later = omega arith; failed = λ is. absurd (plain_inside f plain (fault_is T f FolderFault is)) };
}

-- the same refusal of another answer, and after other counts of sources
pub walks_err : (A B : Type 0) (n k : ℕ) (a b : Seen) (old new : State) (f : WalkFault) → WalksOn n a b old new (failed A f) → WalksOn k a b old new (failed B f)
walks_err A B n k a b old new f s = record {
  grows = s.grows;
  goes = tt;
  read = λ m told walked. tt;
  known = λ x is. s.known x (ap (failed A) (fault_is B f (NotRecognized x) is));
  own = λ x y is. s.own x y (ap (failed A) (fault_is B f (Malformed x y) is));
  names = s.names;
  writes = s.writes;
  cause = record { later = s.cause.later; failed = λ is. s.cause.failed (ap (failed A) (fault_is B f FolderFault is)) };
}

rose_later : (a b c : ℕ) → a ≤ b → Rose b c → Rose a c
rose_later a b c later rose = omega arith

pub walks_then : (A B : Type 0) (n m k : ℕ) (a b c : Seen) (old mid new : State) (x : A) (r : Result B WalkFault) → n + m ≡ k → WalksOn n a b old mid (Ok x) → WalksOn m b c mid new r → WalksOn k a c old new r
walks_then A B n m k a b c old mid new x r sum before next = record {
  grows = grows_trans old mid new before.grows next.grows;
  goes = goes_on r next.goes;
  read = λ f told walked. next.read f (before.names ∙ told) (before.read f told walked);
  known = next.known;
  own = next.own;
  names = next.names ∙ before.names;
  writes = next.writes ∙ before.writes;
  cause = record {
    later = (let x = before.cause.later in let y = next.cause.later in omega arith);
    failed = λ is. rose_later a.faults b.faults c.faults before.cause.later (next.cause.failed is);
  };
}
  where
    goes_on : (r : Result B WalkFault) → OnOk r (Goes m mid new) → OnOk r (Goes k old new)
    goes_on (Ok y) goes = goes_trans n m k old mid new sum before.goes goes
    goes_on (Err f) goes = goes

-- passes

module _ (verify : Bool) (room : ℕ) (base : List ℕ) where
  pub passes_none : {T : Type 0} (a : Seen) (st : State) (P : T → Type 0) (x : T) → IsLinked st → P x → Passes verify room base [] a a st st P (Ok x)
  passes_none a st P x linked reached = record { walks = walks_none a st x linked; told = λ m told path is. refl; reads = omega arith; reached = reached }

  -- where the walk stopped, the sources behind don't count
  pub passes_stop : (A B : Type 0) (xs ys : List SourceValue) (a b : Seen) (old new : State) (P : A → Type 0) (Q : B → Type 0) (f : WalkFault) → Passes verify room base xs a b old new P (Err f) → Passes verify room base (xs ++ ys) a b old new Q (Err f)
  passes_stop A B xs ys a b old new P Q f p = record {
    walks = walks_err A B (length xs) (length (xs ++ ys)) a b old new f p.walks;
    told = λ m told path is.
        subst (λ (r : Result Met WalkFault). IsOutside f ⊎ (r ≡ Err f)) (sym (sources_append (λ e n. visit m verify room path e n) base (met_of old) xs ys))
        (still_refused (visit_sources (λ e n. visit m verify room path e n) base (met_of old) xs) (λ e. visit_sources (λ e n. visit m verify room path e n) base e ys) f (p.told m told path is));
    reads = tt;
    reached = tt;
  }

  -- one walk behind the other
  pub passes_then : (A B C : Type 0) (xs ys : List SourceValue) (a b c : Seen) (old mid new : State) (P : A → Type 0) (Q : B → Type 0) (R : C → Type 0) (x : A) (y : B) (z : C) → Passes verify room base xs a b old mid P (Ok x) → Passes verify room base ys b c mid new Q (Ok y) → R z → Passes verify room base (xs ++ ys) a c old new R (Ok z)
  passes_then A B C xs ys a b c old mid new P Q R x y z before next reached = record {
    walks = turned (walks_then A B (length xs) (length ys) (length (xs ++ ys)) a b c old mid new x (Ok y) (sym (length-append xs ys)) before.walks next.walks);
    told = λ m told path is.
        sources_append (λ e n. visit m verify room path e n) base (met_of old) xs ys
        ∙ ap (λ r. r >>= λ e. visit_sources (λ e n. visit m verify room path e n) base e ys) (before.told m told path is)
        ∙ next.told m (before.walks.names ∙ told) path (λ name. is name ∙ before.walks.goes.same_open name);
    reads = read_then verify a.reads b.reads c.reads old.datasets mid.datasets new.datasets before.reads next.reads;
    reached = reached;
  }
    where
      turned : WalksOn (length (xs ++ ys)) a c old new (Ok y) → WalksOn (length (xs ++ ys)) a c old new (Ok z)
      turned s = record { grows = s.grows; goes = s.goes; read = s.read; known = λ n is. absurd (ok≢err is); own = λ n b is. absurd (ok≢err is); names = s.names; writes = s.writes; cause = record { later = s.cause.later; failed = λ is. absurd (ok≢err is) } }

  pub passes_refused : (A B C : Type 0) (xs ys : List SourceValue) (a b c : Seen) (old mid new : State) (P : A → Type 0) (Q : B → Type 0) (R : C → Type 0) (x : A) (f : WalkFault) → Passes verify room base xs a b old mid P (Ok x) → Passes verify room base ys b c mid new Q (Err f) → Passes verify room base (xs ++ ys) a c old new R (Err f)
  passes_refused A B C xs ys a b c old mid new P Q R x f before next = record {
    walks = walks_err B C (length (xs ++ ys)) (length (xs ++ ys)) a c old new f (walks_then A B (length xs) (length ys) (length (xs ++ ys)) a b c old mid new x (Err f) (sym (length-append xs ys)) before.walks next.walks);
    told = λ m told path is.
        subst (λ (r : Result Met WalkFault). IsOutside f ⊎ (r ≡ Err f))
        (sym (sources_append (λ e n. visit m verify room path e n) base (met_of old) xs ys ∙ ap (λ r. r >>= λ e. visit_sources (λ e n. visit m verify room path e n) base e ys) (before.told m told path is)))
        (next.told m (before.walks.names ∙ told) path (λ name. is name ∙ before.walks.goes.same_open name));
    reads = tt;
    reached = tt;
  }

  -- memory may be refused at any time
  pub passes_memory : (A B : Type 0) (xs ys : List SourceValue) (a b : Seen) (old new : State) (P : A → Type 0) (Q : B → Type 0) (x : A) (f : WalkFault) → f ≡ Memory → Passes verify room base xs a b old new P (Ok x) → Passes verify room base ys a b old new Q (Err f)
  passes_memory A B xs ys a b old new P Q x f free p = record {
    walks = record {
      grows = p.walks.grows;
      goes = tt;
      read = λ m told walked. tt;
      known = λ n is. absurd (plain_known f n plain (fault_is B f (NotRecognized n) is));
      own = λ n y is. plain_own f n y plain (fault_is B f (Malformed n y) is);
      names = p.walks.names;
      writes = p.walks.writes;
      cause = record { later = p.walks.cause.later; failed = λ is. absurd (plain_inside f plain (fault_is B f FolderFault is)) };
    };
    told = λ m told path is. inl (subst IsOutside (sym free) tt);
    reads = tt;
    reached = tt;
  }
    where
      plain : IsOrdinaryFault f
      plain = subst IsOrdinaryFault (sym free) tt
