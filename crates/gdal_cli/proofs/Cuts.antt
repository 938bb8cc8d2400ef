-- First parts of steps.
use Rattle.std.proofs.Common.{◌≡◌, ◌∙◌, ap, sym, refl, ◌⊎◌, inl, inr, ℕ, zero, suc, ◌+◌, ◌≤◌, arith, List, [], ◌∷◌, ◌++◌, length, map, take, flat_map, Option, Some, None}
use Rattle.std.proofs.lemmas.List.{append-nil, take-append-le}
use Rattle.std.proofs.Math.Seq.{take-append-add}
use Rattle.outside.specs.Outside.{Files}
use Rattle.outside.specs.Streams.{Gets, GetsPart}
use Rattle.error_lines.specs.Steps.{Step, Prints, Warns, Publishes, prints, printed, warned, published, cut_short, applied, AreDone}

-- texts that are put one after another
pub printed_prints : {T : Type 0} (f : T → List ℕ) (xs : List T) → printed (prints (map f xs)) ≡ flat_map f xs
printed_prints f [] = refl
printed_prints f (x ∷ xs) = ap (λ (t : List ℕ). f x ++ t) (printed_prints f xs)

pub printed_one : (text : List ℕ) → printed (prints (text ∷ [])) ≡ text
printed_one text = append-nil text

pub prints_published : (texts : List (List ℕ)) → published (prints texts) ≡ []
prints_published [] = refl
prints_published (text ∷ texts) = prints_published texts

cut_published : (n k : ℕ) (texts : List (List ℕ)) → published (cut_short n k (prints texts)) ≡ []
cut_published zero k [] = refl
cut_published zero k (text ∷ texts) = refl
cut_published (suc n) k [] = refl
cut_published (suc n) k (text ∷ texts) = cut_published n k texts

-- nothing is begun
pub cut_none : (steps : List Step) → (printed (cut_short 0 0 steps) ≡ []) × (published (cut_short 0 0 steps) ≡ [])
cut_none [] = (refl, refl)
cut_none (Prints text ∷ steps) = (refl, refl)
cut_none (Warns line ∷ steps) = (refl, refl)
cut_none (Publishes name bytes ∷ steps) = (refl, refl)

pub cut_silent : (steps : List Step) → warned (cut_short 0 0 steps) ≡ []
cut_silent [] = refl
cut_silent (Prints text ∷ steps) = refl
cut_silent (Warns line ∷ steps) = refl
cut_silent (Publishes name bytes ∷ steps) = refl

abbrev Cuts : ℕ → List (List ℕ) → Type 0
Cuts j texts = (n : ℕ) × (k : ℕ) × (take j (printed (prints texts)) ≡ printed (cut_short n k (prints texts)))

take_none : (j : ℕ) → take {A = ℕ} j [] ≡ []
take_none zero = refl
take_none (suc j) = refl

-- a first part of texts is the first of them whole, and a first part of the next
first_part : (j : ℕ) (texts : List (List ℕ)) → Cuts j texts
first_part j [] = (0, 0, take_none j)
first_part j (text ∷ texts) = by (split (length text) j) (λ i. first_part i texts)
  where
    split : (a b : ℕ) → (b ≤ a) ⊎ ((c : ℕ) × (b ≡ a + c))
    split zero b = inr (b, omega arith)
    split (suc a) zero = inl (omega arith)
    split (suc a) (suc b) = more (split a b)
      where
        more : (b ≤ a) ⊎ ((c : ℕ) × (b ≡ a + c)) → (suc b ≤ suc a) ⊎ ((c : ℕ) × (suc b ≡ suc a + c))
        more (inl few) = inl (omega (arith, few))
        more (inr rest) = inr (rest.0, omega (arith, rest.1))

    by : (j ≤ length text) ⊎ ((c : ℕ) × (j ≡ length text + c)) → ((i : ℕ) → Cuts i texts) → Cuts j (text ∷ texts)
    by (inl few) later = (0, j, take-append-le j text (printed (prints texts)) few ∙ sym (append-nil (take j text)))
    by (inr rest) later =
        let more = later rest.0 in
        (suc more.0, more.1, ap (λ (n : ℕ). take n (text ++ printed (prints texts))) rest.1 ∙ take-append-add text (printed (prints texts)) rest.0 ∙ ap (λ (t : List ℕ). text ++ t) more.2)

-- a whole list of steps is its own first part
pub cut_whole : (k : ℕ) (steps : List Step) → cut_short (length steps) k steps ≡ steps
cut_whole k [] = refl
cut_whole k (step ∷ steps) = ap (λ (s : List Step). step ∷ s) (cut_whole k steps)

-- all the texts were put, or a first part of them
pub prints_done : (texts : List (List ℕ)) (m : Files) (names : Option Files) (before after : Option (List ℕ)) → names ≡ Some m → Gets (printed (prints texts)) before after → AreDone (prints texts) m names before after
prints_done texts m names before after same got = record {
  printed = got;
  published = same ∙ ap (λ (files : List (List ℕ × List ℕ)). Some (applied files m)) (sym (prints_published texts));
}

pub prints_cut : (texts : List (List ℕ)) (m : Files) (names : Option Files) (before after : Option (List ℕ)) → names ≡ Some m → GetsPart (printed (prints texts)) before after → (n : ℕ) × (k : ℕ) × AreDone (cut_short n k (prints texts)) m names before after
prints_cut texts m names None after same got = (
  0,
  0,
  record {
    printed = λ g is. let no : ⊥ = cc in absurd no;
    published = same ∙ ap (λ (files : List (List ℕ × List ℕ)). Some (applied files m)) (sym (cut_published 0 0 texts));
  },
)
prints_cut texts m names (Some old) after same got =
    let part = got old refl in
    let at = first_part part.0 texts in (
      at.0,
      at.1,
      record {
        printed = λ g is. let one : old ≡ g = cc in part.1 ∙ ap (λ (t : List ℕ). Some (old ++ t)) at.2 ∙ ap (λ (o : List ℕ). Some (o ++ printed (cut_short at.0 at.1 (prints texts)))) one;
        published = same ∙ ap (λ (files : List (List ℕ × List ℕ)). Some (applied files m)) (sym (cut_published at.0 at.1 texts));
      },
    )
