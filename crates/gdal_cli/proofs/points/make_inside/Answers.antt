use Rattle.std.proofs.Common.{◌≡◌, ◌∙◌, ap, rules, to_z, of_z, pos, ℤ}
use mir.Syntax.{w128}
use Rattle.gdal_cli.proofs.Told.{files_told, values_told, not_files, written_back}
use Rattle.gdal_cli.proofs.Untold.{files_place, values_place}
use Rattle.gdal_cli.proofs.points.make_inside.Goals as goal
use Rattle.gdal_cli.proofs.points.make_inside.Goals.{in-FilesOnly+in_ok-files-in-FilesOnly+in_ok-push_location-in-FilesOnly, in-Report+in_ok-read_values-in-Report+in_ok-push_location-in-Report}

pub returns-clause-text : goal.returns-clause-text
returns-clause-text g c m told d at =
    let x : to_z w128 (of_z w128 (pos c.args.x)) ≡ pos c.args.x = search rules in
    let y : to_z w128 (of_z w128 (pos c.args.y)) ≡ pos c.args.y = search rules in
    let column = ap (λ (k : ℤ). to_z w128 (of_z w128 k)) c.from-column.ensures ∙ x in
    let line = ap (λ (k : ℤ). to_z w128 (of_z w128 k)) c.from-line.ensures ∙ y in
    elim c.match-form.branch [
      | in-FilesOnly+in_ok-files-in-FilesOnly+in_ok-push_location-in-FilesOnly w ↦
          rw w.room-is (files_told m c.args.question.now.cat d c.args.question.now.asked c.args.question.now.id c.args.x c.args.y _ _ _ _ _ _ c.requires.pixel at w.in-FilesOnly.is w.in_ok-push_location-in-FilesOnly.ensures.ok c.requires.empty column line c.as_slice-bands.ensures.items (w.in_ok-files-in-FilesOnly.ensures.files d at))
      | in-Report+in_ok-read_values-in-Report+in_ok-push_location-in-Report w ↦
          rw w.room-is (values_told m c.args.question.now.cat d c.args.question.now.asked c.args.question.now.id c.args.x c.args.y _ _ _ _ _ _ _ c.count-count.ensures.valid (c.requires.ready.ready.walked m told) c.requires.pixel at (not_files c.args.question.now.asked.form w.in-Report.is) w.in_ok-push_location-in-Report.ensures.ok c.requires.empty column line c.as_slice-bands.ensures.items w.new-none.ensures.empty (written_back c.args.room.now.values.len w.as_slice-values.result.now w.read_values.new.values _ w.as_slice-values.ensures.value (w.in_ok-read_values-in-Report.ensures.room ∙ w.as_mut_slice-values.ensures.len) ∙ w.in_ok-read_values-in-Report.ensures.values m told))
    ]

pub returns-clause-ready : goal.returns-clause-ready
returns-clause-ready g c =
    elim c.match-form.branch [
      | in-FilesOnly+in_ok-files-in-FilesOnly+in_ok-push_location-in-FilesOnly w ↦ rw (w.folder-is, w.pixels-is) c.requires.ready
      | in-Report+in_ok-read_values-in-Report+in_ok-push_location-in-Report w ↦ rw (w.folder-is, w.pixels-is) w.in_ok-read_values-in-Report.ensures.ready
    ]

pub returns-clause-place : goal.returns-clause-place
returns-clause-place g c =
    let x : to_z w128 (of_z w128 (pos c.args.x)) ≡ pos c.args.x = search rules in
    let y : to_z w128 (of_z w128 (pos c.args.y)) ≡ pos c.args.y = search rules in
    let column = ap (λ (k : ℤ). to_z w128 (of_z w128 k)) c.from-column.ensures ∙ x in
    let line = ap (λ (k : ℤ). to_z w128 (of_z w128 k)) c.from-line.ensures ∙ y in
    let question = c.args.question.now in
    let p = c.requires.pixel in
    elim c.match-form.branch [
      | in-FilesOnly+in_ok-files-in-FilesOnly+in_ok-push_location-in-FilesOnly w ↦
          rw w.room-is (files_place question.cat question.id question.asked c.args.x c.args.y _ _ _ _ _ _ p w.in-FilesOnly.is w.in_ok-push_location-in-FilesOnly.ensures.ok c.requires.empty column line c.as_slice-bands.ensures.items (w.in_ok-files-in-FilesOnly.ensures.files p.dataset p.at))
      | in-Report+in_ok-read_values-in-Report+in_ok-push_location-in-Report w ↦
          rw w.room-is (values_place question.cat question.id question.asked c.args.x c.args.y _ _ _ _ _ _ w.read_values.new.values _ p (not_files question.asked.form w.in-Report.is) w.in_ok-push_location-in-Report.ensures.ok c.requires.empty column line c.as_slice-bands.ensures.items w.new-none.ensures.empty (written_back c.args.room.now.values.len w.as_slice-values.result.now w.read_values.new.values _ w.as_slice-values.ensures.value (w.in_ok-read_values-in-Report.ensures.room ∙ w.as_mut_slice-values.ensures.len)) w.in_ok-read_values-in-Report.ensures.typed)
    ]
