-- What the error stream gets of steps that are done one after another.
use Rattle.std.proofs.Common.{◌≡◌, ◌∙◌, refl, sym, ap, subst, ℕ, ◌+◌, ◌≤◌, min, List, [], ◌∷◌, ◌++◌, Option, Bool, true, false, Result, Ok, Err, append_assoc, arith}
use Rattle.std.proofs.lemmas.List.{append-nil}
use Rattle.std.specs.Prelude.{is_err, OnOk, OnErr}
use Rattle.outside.specs.Causes.{Rose, FailsWith}
use Rattle.outside.specs.declared.folder.Failed.{Failed}
use Rattle.outside.specs.Streams.{Gets, GetsPart}
use Rattle.outside.proofs.Sinks.{gets-none, gets-then, gets-then-part, part-first, gets-whole}
use Rattle.error_lines.specs.Steps.{Step, Prints, Warns, Publishes, AreWarned, warned}

-- the warnings of two lists of steps are those of the first and those of the second
pub warned_both : (a b : List Step) → warned (a ++ b) ≡ warned a ++ warned b
warned_both [] b = refl
warned_both (Prints text ∷ a) b = warned_both a b
warned_both (Warns line ∷ a) b = ap (λ t. line ++ t) (warned_both a b) ∙ sym (append_assoc line (warned a) (warned b))
warned_both (Publishes name bytes ∷ a) b = warned_both a b

-- one more warning
warned_last : (steps : List Step) (line : List ℕ) → warned (steps ++ Warns line ∷ []) ≡ warned steps ++ line
warned_last steps line = warned_both steps (Warns line ∷ []) ∙ ap (λ t. warned steps ++ t) (append-nil line)

-- nothing was warned of
pub none_warned : (steps : List Step) (faults : ℕ) (got : Option (List ℕ)) → warned steps ≡ [] → AreWarned steps false faults faults got got
none_warned steps faults got none = record {
  whole = λ is. subst (λ (t : List ℕ). Gets t got got) (sym none) (gets-none got);
  part = subst (λ (t : List ℕ). GetsPart t got got) (sym none) (gets-whole [] got got (gets-none got));
  rose = λ is. let no : ⊥ = cc in absurd no;
  later = omega arith;
}

-- one more warning, on a stream that may have failed before
pub record Adds (line : List ℕ) (failed failed_now : Bool) (faults faults_now : ℕ) (before after : Option (List ℕ)) : Type 0 where
  pub whole : failed_now ≡ false → Gets line before after
  pub part : failed ≡ false → GetsPart line before after
  pub same : failed ≡ true → after ≡ before
  pub stays : failed ≡ true → failed_now ≡ true
  pub rose : failed ≡ false → failed_now ≡ true → Rose faults faults_now
  pub later : faults ≤ faults_now

rose_first : (first faults now : ℕ) → Rose first faults → faults ≤ now → Rose first now
rose_first first faults now rose later = omega arith

rose_then : (first faults now : ℕ) → first ≤ faults → Rose faults now → Rose first now
rose_then first faults now later rose = omega arith

pub warned_next : (steps : List Step) (line : List ℕ) (failed failed_now : Bool) (first faults now : ℕ) (start old new : Option (List ℕ)) → AreWarned steps failed first faults start old → Adds line failed failed_now faults now old new → AreWarned (steps ++ Warns line ∷ []) failed_now first now start new
warned_next steps line false failed_now first faults now start old new w a = record {
  whole = λ is. subst (λ (t : List ℕ). Gets t start new) (sym (warned_last steps line)) (gets-then (warned steps) line start old new (w.whole refl) (a.whole is));
  part = subst (λ (t : List ℕ). GetsPart t start new) (sym (warned_last steps line)) (gets-then-part (warned steps) line start old new (w.whole refl) (a.part refl));
  rose = λ is. rose_then first faults now w.later (a.rose refl is);
  later = omega (arith, w.later, a.later);
}
warned_next steps line true failed_now first faults now start old new w a = record {
  whole = λ is. let stays : failed_now ≡ true = a.stays refl in let no : ⊥ = cc in absurd no;
  part = subst (λ (t : List ℕ). GetsPart t start new) (sym (warned_last steps line)) (part-first (warned steps) line start new (subst (λ (o : Option (List ℕ)). GetsPart (warned steps) start o) (sym (a.same refl)) w.part));
  rose = λ is. rose_first first faults now (w.rose refl) a.later;
  later = omega (arith, w.later, a.later);
}

-- the call that puts it, on a stream that hasn't failed
pub adds_put : (r : Result (Unit {0}) Failed) (line : List ℕ) (failed failed_now : Bool) (faults now : ℕ) (old new : Option (List ℕ)) → failed ≡ false → failed_now ≡ is_err r → OnOk r (Gets line old new) → OnErr r (GetsPart line old new) → FailsWith faults now r → Adds line failed failed_now faults now old new
adds_put r line true failed_now faults now old new calm is ok err cause = absurd cc
adds_put (Ok x) line false failed_now faults now old new calm is ok err cause = record {
  whole = λ on. ok;
  part = λ on. gets-whole line old new ok;
  same = λ on. let no : ⊥ = cc in absurd no;
  stays = λ on. let no : ⊥ = cc in absurd no;
  rose = λ on off. let no : ⊥ = cc in absurd no;
  later = cause.later;
}
adds_put (Err f) line false failed_now faults now old new calm is ok err cause = record {
  whole = λ on. let no : ⊥ = cc in absurd no;
  part = λ on. err;
  same = λ on. let no : ⊥ = cc in absurd no;
  stays = λ on. let no : ⊥ = cc in absurd no;
  rose = λ on off. cause.failed;
  later = cause.later;
}

-- none on one that has
pub adds_nothing : (line : List ℕ) (failed : Bool) (faults : ℕ) (got : Option (List ℕ)) → failed ≡ true → Adds line failed failed faults faults got got
adds_nothing line false faults got is = absurd cc
adds_nothing line true faults got is = record {
  whole = λ on. let no : ⊥ = cc in absurd no;
  part = λ on. let no : ⊥ = cc in absurd no;
  same = λ on. refl;
  stays = λ on. refl;
  rose = λ on off. let no : ⊥ = cc in absurd no;
  later = omega arith;
}
