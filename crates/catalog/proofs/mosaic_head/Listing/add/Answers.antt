use Rattle.std.proofs.Common.{◌≡◌, ◌∙◌, ◌++◌, ◌∷◌, [], List, ℕ, ap, refl, sym, true, false, string_bytes}
use Rattle.std.proofs.lemmas.Map.Text.{btree_set_updates_text}
use Rattle.catalog.proofs.Listings.{listed_text}
use Rattle.catalog.proofs.mosaic_head.Listing.add.Goals as goal

pub returns-in_ok-push : goal.returns-in_ok-push
returns-in_ok-push c =
    let key : string_bytes c.in_ok-from_str.field-0 ≡ c.args.name.now = c.in_ok-from_str.ensures.ok ∙ c.as_str.ensures.name in
    let files = c.in_ok-push.ensures.ok ∙ ap (λ (x : List ℕ). c.args.self.now.files ++ x ∷ []) c.in_ok-try_clone.ensures.same in
    record {
      listed = λ own names listed.
          listed_text own names c.args.self.now _ _ c.args.name.now true key (sym c.if-branch.true ∙ c.in_ok-insert.ensures.added) files (btree_set_updates_text _ _ _ true c.in_ok-insert.ensures.updates) listed;
    }

pub returns-else-branch : goal.returns-else-branch
returns-else-branch c =
    let key : string_bytes c.in_ok-from_str.field-0 ≡ c.args.name.now = c.in_ok-from_str.ensures.ok ∙ c.as_str.ensures.name in
    record {
      listed = λ own names listed.
          listed_text own names c.args.self.now _ _ c.args.name.now false key (sym c.if-branch.false ∙ c.in_ok-insert.ensures.added) refl (btree_set_updates_text _ _ _ true c.in_ok-insert.ensures.updates) listed;
    }
