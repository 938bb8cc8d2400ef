-- A part that is put in its place, among the parts of which it is one, and a child that is read past.
use Rattle.std.proofs.Common.{◌≡◌, ℕ, List, Option, Some, None, Result, Ok, Err, OnErr, IfOk, IfSome, subst, sym, ap}
use Rattle.vrt_markup.specs.Forest.{Forest, ForestRead, read_as}
use Rattle.vrt_markup.specs.Kept.{Gives, kept_of}
use Rattle.vrt_markup.specs.declared.fault.VrtFault.{VrtFault}
use Rattle.vrt_markup.proofs.Reading.{ok_value, gives_then}
use Rattle.vrt_profile.specs.Means.{once}

abbrev Done : Type 0
Done = Result (Unit {0}) VrtFault

pub once_put : {A B : Type 0} (all : Option A → B) (old new : Option A) (part : Result A VrtFault) (kept : Result (Unit {0}) VrtFault) → kept_of new kept ≡ once old part Some → kept_of (all new) kept ≡ once old part (λ x. all (Some x))
once_put all (Some x) new part (Ok u) h = absurd cc
once_put all (Some x) new part (Err e) h = cc
once_put all None new (Ok x) (Ok u) h = cc
once_put all None new (Ok x) (Err e) h = absurd cc
once_put all None new (Err f) (Ok u) h = absurd cc
once_put all None new (Err f) (Err e) h = cc

-- a child that is put in its place is put among the parts
pub put_gives : {A B X : Type 0} (rest : X → List ℕ) (all : Option A → B) (old new : Option A) (m : Forest → Result A VrtFault) (r : Result (Result (Unit {0}) VrtFault × X) VrtFault) (x : ForestRead) → Gives (λ y. (kept_of new y.0, rest y.1)) r (read_as (λ f. once old (m f) Some) x) → Gives (λ y. (kept_of (all new) y.0, rest y.1)) r (read_as (λ f. once old (m f) (λ v. all (Some v))) x)
put_gives rest all old new m r x h = gives_then rest (kept_of new) (kept_of (all new)) (λ f. once old (m f) Some) (λ f. once old (m f) (λ v. all (Some v))) r x (λ k f e. once_put all old new (m f) k e) h

-- a child that is read past leaves the parts as they are, or is a fault
pub past_gives : {B X : Type 0} (rest : X → List ℕ) (s : B) (kept : Result (Unit {0}) VrtFault) (r : Result (Result (Unit {0}) VrtFault × X) VrtFault) (x : ForestRead) → Gives (λ y. (y.0, rest y.1)) r (read_as (λ f. kept) x) → Gives (λ y. (kept_of s y.0, rest y.1)) r (read_as (λ f. kept_of s kept) x)
past_gives rest s kept r x h = gives_then rest (λ (k : Done). k) (kept_of s) (λ f. kept) (λ f. kept_of s kept) r x (λ k f e. ap (kept_of s) e) h

-- a rule that the part in its place keeps
pub put_keeps : {A : Type 0} (P : A → Type 0) (old new : Option A) (part : Result A VrtFault) (kept : Result (Unit {0}) VrtFault) → kept_of new kept ≡ once old part Some → OnErr kept (new ≡ old) → IfSome old P → IfOk part P → IfSome new P
put_keeps P (Some x) new part (Ok u) h same was is = absurd cc
put_keeps P None new (Ok x) (Ok u) h same was is = subst (λ o. IfSome o P) (sym (ok_value new (Some x) h)) is
put_keeps P None new (Err f) (Ok u) h same was is = absurd cc
put_keeps P old new part (Err e) h same was is = subst (λ o. IfSome o P) (sym same) was
