use Rattle.std.proofs.Common.{◌≡◌, ◌≤◌, ◌∙◌, sym, subst, List, ℕ, None}
use Rattle.std.specs.Prelude.{All, nat_lt}
use Rattle.std.specs.List.{find}
use Rattle.std.proofs.lemmas.Result.{IfOk-weaker}
use Rattle.gdal_cli.proofs.Listed.{all_found, all_range, both}
use Rattle.gdal_cli.proofs.asked.chosen.Goals as goal

pub returns-then-is_empty-clause-within : goal.returns-then-is_empty-clause-within
returns-then-is_empty-clause-within c =
    IfOk-weaker c.all_bands.result _ _ (λ bands is. subst (λ (xs : List ℕ). All (λ band. (1 ≤ band) × (band ≤ c.args.count)) xs) (sym is) (all_range c.args.count)) c.all_bands.ensures.ok

pub returns-else-is_empty-clause-within : goal.returns-else-is_empty-clause-within
returns-else-is_empty-clause-within c =
    let none : find (λ band. nat_lt c.args.count band) c.args.bands.now ≡ None = sym c.lacking.ensures ∙ c.in_default.is in
    IfOk-weaker c.numbers_of.result _ _ (λ numbers is. both (λ band. 1 ≤ band) (λ band. band ≤ c.args.count) numbers is.1 (subst (λ (xs : List ℕ). All (λ band. band ≤ c.args.count) xs) (sym is.0) (all_found c.args.count c.args.bands.now none))) c.numbers_of.ensures.ok
