use Rattle.std.proofs.Common.{Ok, Err, sym, subst, ◌∙◌}
use Rattle.std.specs.Rc.{rc_slice_items}
use Rattle.std.proofs.lemmas.Option.{slice_get_within}
use Rattle.nj_scope.specs.Readings.{EachPathOnce}
use Rattle.nj_statements.specs.EdgeList.{Pending}
use Rattle.nj_statements.specs.Answers.{Checks}
use Rattle.nj_statements.specs.Joining.{lacking_fault}
use Rattle.nj_graph.specs.Inside.ReaderContracts.{ReturnsText}
use Rattle.nj_graph.specs.Joining.{statement_place}
use Rattle.nj_graph.specs.Inside.JoiningContracts.{JoinsText, JoinsFile}
use Rattle.nj_graph.proofs.Found.{found-text, unfound}
use Rattle.nj_manifest.proofs.Handed.{handed}
use Rattle.nj_graph.proofs.JoiningTables.{for-ok, get-prefix, path-is, some-is}
use Rattle.nj_graph.proofs.JoiningFiles.{is-place, stops-name, stops-unfound, stops-text, ends-file}
use Rattle.nj_graph.proofs.dyndep_files.join_file.Goals as goal

pub returns-in_err-path-clause-joins : goal.returns-in_err-path-clause-joins
returns-in_err-path-clause-joins g c = λ stated joined p has at.
    let reported = g.S.FileSource.state c.args.source.now in
    let q : Pending = record { edge = c.file.result.edge.0; file = c.file.result.path.now } in
    let place = is-place stated joined q c.args.joining.now.details c.edge_place-place.result.file.now
    c.edge_place-place.result.spot has.stated_details c.edge_place-place.ensures.file
    c.edge_place-place.ensures.spot in
    rw (handed c.in_err-path.field-0.0 c.from_residual.result c.from_residual.ensures)
    (subst (λ x. JoinsFile stated joined x reported reported c.args.files.now c.args.files.now
    c.args.joining.now (Err c.in_err-path.field-0.0)) (some-is q p (sym c.file.ensures.is ∙ at))
    (stops-name stated joined q reported c.args.files.now c.requires.once c.in_err-path.field-0.0
    (record { file = c.edge_place-place.result.file.now; spot = c.edge_place-place.result.spot }) place
    c.in_err-path.ensures))

pub returns-in_err-text-clause-joins : goal.returns-in_err-text-clause-joins
returns-in_err-text-clause-joins g c = λ stated joined p has at.
    let before = g.S.FileSource.state c.args.source.now in
    let after = g.S.FileSource.state c.text_at.new.source in
    let old = c.args.files.now in
    let table = c.text_at.new.files in
    let fault = c.in_err-text.field-0.0 in
    let q : Pending = record { edge = c.file.result.edge.0; file = c.file.result.path.now } in
    let there = statement_place stated q.edge in
    let place = is-place stated joined q c.args.joining.now.details c.edge_place-place.result.file.now
    c.edge_place-place.result.spot has.stated_details c.edge_place-place.ensures.file
    c.edge_place-place.ensures.spot in
    let outcomes = subst (λ path. ReturnsText before after old table there path (Err fault))
    (c.deref.ensures ∙ c.in_ok-path.ensures.1)
    (subst (λ x. ReturnsText before after old table x c.deref.result.now (Err fault)) place
    c.in_err-text.ensures) in
    rw (handed fault c.from_residual-in_err-text.result c.from_residual-in_err-text.ensures)
    (subst (λ x. JoinsFile stated joined x before after old table c.args.joining.now (Err fault))
    (some-is q p (sym c.file.ensures.is ∙ at))
    (stops-unfound stated joined q before after old c.in_ok-path.ensures.0 fault
    (unfound before after old table q.file c.requires.once there fault outcomes)))

pub returns-in_err-join_text-clause-joins : goal.returns-in_err-join_text-clause-joins
returns-in_err-join_text-clause-joins g c = λ stated joined p has at.
    let before = g.S.FileSource.state c.args.source.now in
    let after = g.S.FileSource.state c.text_at.new.source in
    let old = c.args.files.now in
    let table = c.text_at.new.files in
    let fault = c.in_err-join_text.field-0.0 in
    let q : Pending = record { edge = c.file.result.edge.0; file = c.file.result.path.now } in
    let there = statement_place stated q.edge in
    let place = is-place stated joined q c.args.joining.now.details c.edge_place-place.result.file.now
    c.edge_place-place.result.spot has.stated_details c.edge_place-place.ensures.file
    c.edge_place-place.ensures.spot in
    let text = c.in_ok-text.text in
    let outcomes = subst (λ path. ReturnsText before after old table there path (Ok text))
    (c.deref.ensures ∙ c.in_ok-path.ensures.1)
    (subst (λ x. ReturnsText before after old table x c.deref.result.now (Ok text)) place
    c.in_ok-text.ensures) in
    let found = found-text before after old table q.file c.requires.once there text outcomes in
    let joins = subst (λ name. JoinsText name stated (rc_slice_items text) joined c.join_text.new.joining
    (Err fault)) (c.deref-2.ensures ∙ c.in_ok-path.ensures.1)
    (subst (λ t. JoinsText c.deref-2.result.now stated t joined c.join_text.new.joining (Err fault))
    c.deref-3.ensures.value (c.in_err-join_text.ensures.joins stated joined has)) in
    rw (handed fault c.from_residual-in_err-join_text.result c.from_residual-in_err-join_text.ensures)
    (subst (λ x. JoinsFile stated joined x before after old table c.join_text.new.joining (Err fault))
    (some-is q p (sym c.file.ensures.is ∙ at))
    (stops-text stated joined q before after old c.in_ok-path.ensures.0 table (rc_slice_items text) found
    fault joins))

pub end_file-requires : goal.end_file-requires
end_file-requires g c =
    slice_get_within c.join_text.new.joining.table.files c.file.result.number.0 c.file.result.path.now
    (get-prefix c.args.joining.now.table.files c.join_text.new.joining.table.files c.file.result.number.0
    c.file.result.path.now c.in_ok-join_text.ensures.files c.file.ensures.number)

pub returns-clause-joins : goal.returns-clause-joins
returns-clause-joins g c = λ stated joined p has at.
    let before = g.S.FileSource.state c.args.source.now in
    let after = g.S.FileSource.state c.text_at.new.source in
    let old = c.args.files.now in
    let table = c.text_at.new.files in
    let held = c.join_text.new.joining in
    let q : Pending = record { edge = c.file.result.edge.0; file = c.file.result.path.now } in
    let there = statement_place stated q.edge in
    let place = is-place stated joined q c.args.joining.now.details c.edge_place-place.result.file.now
    c.edge_place-place.result.spot has.stated_details c.edge_place-place.ensures.file
    c.edge_place-place.ensures.spot in
    let text = c.in_ok-text.text in
    let outcomes = subst (λ path. ReturnsText before after old table there path (Ok text))
    (c.deref.ensures ∙ c.in_ok-path.ensures.1)
    (subst (λ x. ReturnsText before after old table x c.deref.result.now (Ok text)) place
    c.in_ok-text.ensures) in
    let found = found-text before after old table q.file c.requires.once there text outcomes in
    let joins = subst (λ name. JoinsText name stated (rc_slice_items text) joined held
    (Ok c.in_ok-join_text.field-0)) (c.deref-2.ensures ∙ c.in_ok-path.ensures.1)
    (subst (λ t. JoinsText c.deref-2.result.now stated t joined held (Ok c.in_ok-join_text.field-0))
    c.deref-3.ensures.value (c.in_ok-join_text.ensures.joins stated joined has)) in
    let named = path-is held.table.files c.file.result.number q.file
    (get-prefix c.args.joining.now.table.files held.table.files c.file.result.number.0 q.file
    c.in_ok-join_text.ensures.files c.file.ensures.number) in
    let checks = subst (λ path. Checks (lacking_fault path joins.now) c.end_file.result) named
    (c.end_file.ensures stated joins.now joins.has) in
    subst (λ x. JoinsFile stated joined x before after old table held c.end_file.result)
    (some-is q p (sym c.file.ensures.is ∙ at))
    (ends-file stated joined q before after old c.in_ok-path.ensures.0 table (rc_slice_items text) found held
    joins c.end_file.result checks)

pub returns-clause-once : goal.returns-clause-once
returns-clause-once g c =
    let before = g.S.FileSource.state c.args.source.now in
    let after = g.S.FileSource.state c.text_at.new.source in
    let found = found-text before after c.args.files.now c.text_at.new.files c.deref.result.now
    c.requires.once (record {
      file = c.edge_place-place.result.file.now;
      spot =
          c.edge_place-place.result.spot;
    }) c.in_ok-text.text c.in_ok-text.ensures in
    for-ok c.end_file.result (subst EachPathOnce (sym found.reads.held_is) found.reads.reads.once)
