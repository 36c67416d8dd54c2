use Rattle.std.proofs.Common.{subst, ◌∙◌, arith}
use Rattle.nj_scope.specs.Scopes.{first_given}
use Rattle.std.proofs.lemmas.List.{take_all}
use Rattle.nj_manifest.specs.Contents.{words_model}
use Rattle.nj_statements.specs.BuildFaults.{target_fault}
use Rattle.nj_statements.specs.EdgeList.{paths_given}
use Rattle.nj_statements.specs.Inside.EdgeSteps.{AddsTargets}
use Rattle.nj_statements.proofs.Tables.{prefix_push}
use Rattle.nj_statements.proofs.AddedLemmas.{no-fault-turn}
use Rattle.nj_statements.proofs.Holding.{targets-turn}
use Rattle.nj_statements.proofs.Faults.{next-fault, err-checks}
use Rattle.nj_statements.proofs.building.add_targets.Goals as goal

pub returns-in_err-file-clause-fault : goal.returns-in_err-file-clause-fault
returns-in_err-file-clause-fault c = λ values sees none.
    let of = target_fault c.args.context.place.file.now values c.args.edges.now.edges in
    err-checks c.from_residual.result c.in_err-file.field-0.0 (first_given of (words_model c.args.words.now))
    c.from_residual.ensures.1
    (next-fault of c.args.words.now c.words.word-index c.word-item.result c.in_err-file.field-0.0
    c.words-test.true c.word-item.is (c.words.invariant.fault values sees none)
    (c.in_err-file.ensures.fault values sees none))

pub words-preserved : goal.words-preserved
words-preserved c =
    let words = c.args.words.now in
    let i = c.words.word-index in
    let word = c.word-item.result in
    let file = c.in_ok-file.file in
    record {
      kept = prefix_push c.args.targets.now.items c.words.targets.items c.push.new.self.items file
          c.words.invariant.kept c.in_ok-push.ensures.items;
      added = λ values sees.
          targets-turn values c.args.edges.now.files c.args.targets.now.items c.words.targets.items
          c.push.new.self.items file words i word c.words-test.true c.word-item.is
          (c.words.invariant.added values sees) c.in_ok-push.ensures.items
          (c.in_ok-file.ensures.file values sees);
      fault = λ values sees none.
          no-fault-turn (target_fault c.args.context.place.file.now values c.args.edges.now.edges) words i
          word c.words-test.true c.word-item.is (c.in_ok-file.ensures.fault values sees none)
          ∙ c.words.invariant.fault values sees none;
    }

pub returns-clause-added : goal.returns-clause-added
returns-clause-added c = λ values sees.
    let ends = c.words-test.false in
    subst (λ ws. AddsTargets c.args.edges.now.files c.args.targets.now.items c.words.targets.items
    (paths_given values (words_model ws)))
    (take_all c.words.word-index c.args.words.now (omega (arith, ends)))
    (c.words.invariant.added values sees)
