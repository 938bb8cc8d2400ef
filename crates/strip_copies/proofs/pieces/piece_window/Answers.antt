use Rattle.std.proofs.Common.{◌≡◌, ◌∙◌, ◌+◌, ◌-◌, ◌≤◌, ap, sym, subst, FitsSigned, rules}
use Rattle.std.specs.Int.{w64}
use Rattle.std.specs.Prelude.{unsigned_abs}
use Rattle.std.proofs.lemmas.Int.{to_z-of_z}
use Rattle.catalog.specs.Dataset.{band_count}
use Rattle.translate_plan.specs.Plan.{Planned}
use Rattle.strip_copies.proofs.Copied.{piece_across, piece_down, placed, source_known}
use Rattle.strip_copies.proofs.pieces.piece_window.Goals as goal

pub returns-clause-window : goal.returns-clause-window
returns-clause-window c =
    let p = c.args.translation.now.plan in
    let piece = c.args.piece in
    let x-fits : FitsSigned w64 c.plan.inside.x = search rules in
    let y-fits : FitsSigned w64 c.plan.inside.y = search rules in
    let t = c.requires.translation in
    let copied = c.requires.copied t.dataset t.at in
    let x : c.place_behind-x.result ≡ unsigned_abs p.x + piece.left = c.place_behind-x.ensures.place ∙ (ap (λ n. unsigned_abs n + piece.left) (to_z-of_z w64 c.plan.inside.x x-fits) ∙ ap (λ (q : Planned). unsigned_abs q.x + piece.left) c.plan.view_is) in
    let y : c.place_behind-y.result ≡ unsigned_abs p.y + piece.first = c.place_behind-y.ensures.place ∙ (ap (λ n. unsigned_abs n + piece.first) (to_z-of_z w64 c.plan.inside.y y-fits) ∙ ap (λ (q : Planned). unsigned_abs q.y + piece.first) c.plan.view_is) in
    record {
      dataset = t.dataset;
      at = t.at;
      has_band = source_known p.bands piece.band (band_count t.dataset.head) c.source-band.result c.requires.piece.band t.sources c.source-band.ensures.source;
      across = subst (λ n. n + (piece.right - piece.left) ≤ t.dataset.head.size.w) (sym x) (piece_across p t.dataset.head.size copied piece c.requires.piece);
      down = subst (λ n. n + (piece.end - piece.first) ≤ t.dataset.head.size.h) (sym y) (piece_down p t.dataset.head.size copied piece c.requires.piece);
    }

pub returns-clause-rect : goal.returns-clause-rect
returns-clause-rect c =
    let p = c.args.translation.now.plan in
    let piece = c.args.piece in
    let x-fits : FitsSigned w64 c.plan.inside.x = search rules in
    let y-fits : FitsSigned w64 c.plan.inside.y = search rules in
    placed p piece c.place_behind-x.result c.place_behind-y.result
    (c.place_behind-x.ensures.place ∙ (ap (λ n. unsigned_abs n + piece.left) (to_z-of_z w64 c.plan.inside.x x-fits) ∙ ap (λ (q : Planned). unsigned_abs q.x + piece.left) c.plan.view_is))
    (c.place_behind-y.ensures.place ∙ (ap (λ n. unsigned_abs n + piece.first) (to_z-of_z w64 c.plan.inside.y y-fits) ∙ ap (λ (q : Planned). unsigned_abs q.y + piece.first) c.plan.view_is))
