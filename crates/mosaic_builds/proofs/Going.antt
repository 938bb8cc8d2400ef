-- How far the making of a mosaic goes.
use Rattle.std.proofs.Common.{◌≡◌, ◌∙◌, ◌⊎◌, ap, sym, subst, refl, inl, inr, ℕ, suc, Bool, true, false, List, [], ◌∷◌, ◌++◌, map, take, length, get_or, ◌+◌, ◌<◌, Result, Ok, Err, Option, Some, None}
use Rattle.std.proofs.lemmas.List.{append-nil, take_more}
use Rattle.std.specs.FinMap.{insert}
use Rattle.outside.specs.Outside.{Files}
use Rattle.outside.specs.Streams.{Gets, GetsPart}
use Rattle.outside.proofs.Sinks.{gets-none}
use Rattle.error_lines.specs.declared.faults.Fault.{Fault}
use Rattle.error_lines.specs.Faults.{IsOutside}
use Rattle.error_lines.specs.Steps.{Step, Prints, Warns, Publishes, printed, published, warned, cut_short, applied, all_done, refused, IsFirstPart, AreDone, AreWarned, Goes, GoesWarning}
use Rattle.error_lines.proofs.Warned.{warned_both, none_warned}
use Rattle.error_lines.proofs.Silent.{part_silent}
use Rattle.mosaic_builds.specs.Steps.{progress_line, progress_steps, publishing_steps, mosaic_done, warns}
use Rattle.vrt_writing.specs.Spelled.{spelled}
use Rattle.vrt_profile.specs.Values.{DocumentValue}
use Rattle.mosaic_builds.specs.Built.{Built}

-- behind warnings the texts and the files are those of the steps that follow
printed_behind : (lines : List (List ℕ)) (steps : List Step) → printed (warns lines ++ steps) ≡ printed steps
printed_behind [] steps = refl
printed_behind (line ∷ lines) steps = printed_behind lines steps

published_behind : (lines : List (List ℕ)) (steps : List Step) → published (warns lines ++ steps) ≡ published steps
published_behind [] steps = refl
published_behind (line ∷ lines) steps = published_behind lines steps

done_behind : (lines : List (List ℕ)) (steps : List Step) (m : Files) (names : Option Files) (before after : Option (List ℕ)) → AreDone steps m names before after → AreDone (warns lines ++ steps) m names before after
done_behind lines steps m names before after done = record {
  printed = subst (λ (t : List ℕ). Gets t before after) (sym (printed_behind lines steps)) done.printed;
  published = done.published ∙ ap (λ (files : List (List ℕ × List ℕ)). Some (applied files m)) (sym (published_behind lines steps));
}

-- so many steps behind warnings
count_behind : List (List ℕ) → ℕ → ℕ
count_behind [] n = n
count_behind (line ∷ lines) n = suc (count_behind lines n)

cut_behind : (lines : List (List ℕ)) (steps : List Step) (n k : ℕ) → cut_short (count_behind lines n) k (warns lines ++ steps) ≡ warns lines ++ cut_short n k steps
unfolding count_behind
cut_behind [] steps n k = refl
cut_behind (line ∷ lines) steps n k = ap (λ (s : List Step). Warns line ∷ s) (cut_behind lines steps n k)

part_behind : (lines : List (List ℕ)) (steps part : List Step) → IsFirstPart part steps → IsFirstPart (warns lines ++ part) (warns lines ++ steps)
part_behind lines steps part first = (count_behind lines first.0, first.1, ap (λ (s : List Step). warns lines ++ s) first.2 ∙ sym (cut_behind lines steps first.0 first.1))

-- the warnings of a silent end
warned_before : (lines : List (List ℕ)) (steps : List Step) → warned steps ≡ [] → warned (warns lines) ≡ warned (warns lines ++ steps)
warned_before lines steps none = sym (append-nil (warned (warns lines))) ∙ ap (λ (t : List ℕ). warned (warns lines) ++ t) (sym none) ∙ sym (warned_both (warns lines) steps)

warned_so : (a b : List Step) (failed : Bool) (faults now : ℕ) (before after : Option (List ℕ)) → warned a ≡ warned b → AreWarned a failed faults now before after → AreWarned b failed faults now before after
warned_so a b failed faults now before after same w = record {
  whole = λ is. subst (λ (t : List ℕ). Gets t before after) same (w.whole is);
  part = subst (λ (t : List ℕ). GetsPart t before after) same w.part;
  rose = w.rose;
  later = w.later;
}

-- steps without warnings behind warnings that were put
pub goes_behind : (lines : List (List ℕ)) (steps : List Step) (m : Files) (result : Result (Unit {0}) Fault) (names : Option Files) (before after : Option (List ℕ)) (failed : Bool) (faults now : ℕ) (start end : Option (List ℕ)) → warned steps ≡ [] → AreWarned (warns lines) failed faults now start end → Goes (all_done steps) m result names before after → GoesWarning (all_done (warns lines ++ steps)) m result names before after (λ s. AreWarned s failed faults now start end)
goes_behind lines steps m (Ok done) names before after failed faults now start end none w goes = (refl, done_behind lines steps m names before after goes.1, warned_so (warns lines) (warns lines ++ steps) failed faults now start end (warned_before lines steps none) w)
goes_behind lines steps m (Err fault) names before after failed faults now start end none w (inl ended) = absurd cc
goes_behind lines steps m (Err fault) names before after failed faults now start end none w (inr stopped) =
    let far = stopped.1 in
    inr (stopped.0, (warns lines ++ far.0, part_behind lines steps far.0 far.1, done_behind lines far.0 m names before after far.2, warned_so (warns lines) (warns lines ++ far.0) failed faults now start end (warned_before lines far.0 (part_silent far.0 steps far.1 none)) w))

-- what is told at the end
pub progress_silent : (quiet : Bool) → warned (progress_steps quiet) ≡ []
progress_silent true = refl
progress_silent false = refl

pub quiet_goes : (m : Files) (names : Option Files) (got : Option (List ℕ)) → names ≡ Some m → Goes (all_done (progress_steps true)) m (Ok tt) names got got
quiet_goes m names got is = (refl, record { printed = gets-none got; published = is })

pub told_goes : (m : Files) (names : Option Files) (before after : Option (List ℕ)) → names ≡ Some m → Gets progress_line before after → Goes (all_done (progress_steps false)) m (Ok tt) names before after
told_goes m names before after is got = (refl, record { printed = subst (λ (t : List ℕ). Gets t before after) (sym (append-nil progress_line)) got; published = is })

pub told_stops : (m : Files) (fault : Fault) (names : Option Files) (before after : Option (List ℕ)) → names ≡ Some m → IsOutside fault → GetsPart progress_line before after → Goes (all_done (progress_steps false)) m (Err fault) names before after
told_stops m fault names None after is out part = inr (
  out,
  (
    Prints (take 0 progress_line) ∷ [],
    (0, 0, refl),
    record {
      printed = λ g at. let no : ⊥ = cc in absurd no;
      published = is;
    },
  ),
)
told_stops m fault names (Some old) after is out part =
    let here = part old refl in
    inr (
      out,
      (
        Prints (take here.0 progress_line) ∷ [],
        (0, here.0, refl),
        record {
          printed = λ g at. let one : old ≡ g = cc in here.1 ∙ ap (λ (o : List ℕ). Some (o ++ take here.0 progress_line)) one ∙ ap (λ (t : List ℕ). Some (g ++ t)) (sym (append-nil (take here.0 progress_line)));
          published = is;
        },
      ),
    )

-- a document under its name
pub publishing_silent : (quiet : Bool) (name : List ℕ) (document : DocumentValue) → warned (publishing_steps quiet name document) ≡ []
publishing_silent quiet name document = progress_silent quiet

behind_document : (quiet : Bool) (name : List ℕ) (document : DocumentValue) (m : Files) (part : List Step) (names : Option Files) (before after : Option (List ℕ)) → AreDone part (insert m name (spelled document)) names before after → AreDone (Publishes name (spelled document) ∷ part) m names before after
behind_document quiet name document m part names before after done = record { printed = done.printed; published = done.published }

pub document_goes : (quiet : Bool) (name : List ℕ) (document : DocumentValue) (m : Files) (result : Result (Unit {0}) Fault) (names : Option Files) (before after : Option (List ℕ)) → Goes (all_done (Publishes name (spelled document) ∷ [])) m (Ok tt) names before before → ((n : Files) → names ≡ Some n → Goes (all_done (progress_steps quiet)) n result names before after) → Goes (all_done (publishing_steps quiet name document)) m result names before after
document_goes quiet name document m (Ok done) names before after first next = (refl, behind_document quiet name document m (progress_steps quiet) names before after (next (insert m name (spelled document)) first.1.published).1)
document_goes quiet name document m (Err fault) names before after first next = stopped (next (insert m name (spelled document)) first.1.published)
  where
    stopped : Goes (all_done (progress_steps quiet)) (insert m name (spelled document)) (Err fault) names before after → Goes (all_done (publishing_steps quiet name document)) m (Err fault) names before after
    stopped (inl ended) = absurd cc
    stopped (inr cut) =
        let far = cut.1 in
        inr (cut.0, (Publishes name (spelled document) ∷ far.0, (suc far.1.0, far.1.1, ap (λ (s : List Step). Publishes name (spelled document) ∷ s) far.1.2), behind_document quiet name document m far.0 names before after far.2))

pub document_stops : (quiet : Bool) (name : List ℕ) (document : DocumentValue) (m : Files) (fault : Fault) (names : Option Files) (got : Option (List ℕ)) → names ≡ Some m → IsOutside fault → Goes (all_done (publishing_steps quiet name document)) m (Err fault) names got got
document_stops quiet name document m fault names got is out = inr (out, ([], (0, 0, refl), record { printed = gets-none got; published = is }))

-- a mosaic that was refused, or that the outside ended so before its first step
none_begun : (quiet : Bool) (name : List ℕ) (document : DocumentValue) (lines : List (List ℕ)) → [] ≡ cut_short 0 0 (warns lines ++ publishing_steps quiet name document)
none_begun quiet name document [] = refl
none_begun quiet name document (line ∷ lines) = refl

none_done : (quiet : Bool) (name : List ℕ) (d : Result Built Fault) → IsFirstPart [] (mosaic_done quiet name d).steps
none_done quiet name (Ok built) = (0, 0, none_begun quiet name built.document built.warnings)
none_done quiet name (Err fault) = (0, 0, refl)

pub unwarned : (failed : Bool) (faults : ℕ) (got : Option (List ℕ)) → failed ≡ false → AreWarned [] failed faults faults got got
unwarned failed faults got is = subst (λ (b : Bool). AreWarned [] b faults faults got got) (sym is) (none_warned [] faults got refl)

pub refused_goes : (quiet : Bool) (name : List ℕ) (d : Result Built Fault) (m : Files) (fault : Fault) (names : Option Files) (out : Option (List ℕ)) (failed : Bool) (faults : ℕ) (err : Option (List ℕ)) → failed ≡ false → names ≡ Some m → IsOutside fault ⊎ (d ≡ Err fault) → GoesWarning (mosaic_done quiet name d) m (Err fault) names out out (λ s. AreWarned s failed faults faults err err)
refused_goes quiet name d m fault names out failed faults err calm is (inl outside) =
    inr (outside, ([], none_done quiet name d, record { printed = gets-none out; published = is }, unwarned failed faults err calm))
refused_goes quiet name d m fault names out failed faults err calm is (inr refused) =
    subst (λ (e : Result Built Fault). GoesWarning (mosaic_done quiet name e) m (Err fault) names out out (λ s. AreWarned s failed faults faults err err)) (sym refused)
    (inl (refl, record { printed = gets-none out; published = is }, unwarned failed faults err calm))

-- one warning more
warns_last : {A : Type 0} (line : A → List ℕ) (xs : List A) (x : A) → warns (map line (xs ++ x ∷ [])) ≡ warns (map line xs) ++ Warns (line x) ∷ []
warns_last line [] x = refl
warns_last line (y ∷ xs) x = ap (λ (s : List Step). Warns (line y) ∷ s) (warns_last line xs x)

warns_next : {A : Type 0} (line : A → List ℕ) (xs : List A) (i : ℕ) (d : A) → i < length xs → warns (map line (take i xs)) ++ Warns (line (get_or xs i d)) ∷ [] ≡ warns (map line (take (i + 1) xs))
warns_next {A} line xs i d less = sym (ap (λ (l : List A). warns (map line l)) (take_more xs i d less) ∙ warns_last line (take i xs) (get_or xs i d))

pub warned_more : {A : Type 0} (line : A → List ℕ) (xs ys : List A) (i : ℕ) (d : A) (failed : Bool) (faults now : ℕ) (start end : Option (List ℕ)) → xs ≡ ys → i < length xs → AreWarned (warns (map line (take i ys)) ++ Warns (line (get_or xs i d)) ∷ []) failed faults now start end → AreWarned (warns (map line (take (i + 1) ys))) failed faults now start end
warned_more {A} line xs ys i d failed faults now start end is less w =
    subst (λ (s : List Step). AreWarned s failed faults now start end)
    (ap (λ (l : List A). warns (map line (take i ys)) ++ Warns (line (get_or l i d)) ∷ []) is ∙ warns_next line ys i d (subst (λ (l : List A). i < length l) is less)) w
