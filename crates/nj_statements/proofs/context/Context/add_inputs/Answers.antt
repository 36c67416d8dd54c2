use Rattle.std.proofs.Common.{List, ◌+◌, drop, sym, ap, ◌∙◌}
use Rattle.nj_text.specs.declared.word.Word.{Word}
use Rattle.nj_manifest.specs.Contents.{words_model}
use Rattle.nj_statements.specs.EdgeList.{paths_given}
use Rattle.nj_statements.specs.BuildFaults.{empty_path}
use Rattle.nj_statements.specs.Inside.EdgeSteps.{with_inputs}
use Rattle.nj_statements.proofs.Lists.{at-next}
use Rattle.nj_statements.proofs.Keeps.{keeps_input}
use Rattle.nj_statements.proofs.Tables.{grows-input}
use Rattle.nj_statements.proofs.AddedLemmas.{no-fault-turn}
use Rattle.nj_statements.proofs.context.Context.add_inputs.Goals as goal

pub add_input-requires : goal.add_input-requires
add_input-requires c = c.words.invariant.keeps.clean c.requires

pub words-preserved : goal.words-preserved
words-preserved c =
    let words = c.args.words.now in
    let i = c.words.word-index in
    let word = c.word-item.result in
    let loses = c.args.loses_own in
    let t = c.words.edges in
    let new = c.add_input.new.edges in
    let one = c.in_ok-add_input.ensures.named in
    record {
      grows = grows-input c.args.edges.now t new one.0 loses c.words.invariant.grows one.2;
      keeps = keeps_input c.args.edges.now t new one.0 loses c.words.invariant.keeps one.1 one.2;
      added = λ values sees.
          ap (λ u. with_inputs loses u (paths_given values (words_model (drop (i + 1) words))))
          (c.in_ok-add_input.ensures.added values sees)
          ∙ sym (at-next (λ (ws : List Word). with_inputs loses t (paths_given values (words_model ws))) words
          i word c.words-test.true c.word-item.is)
          ∙ c.words.invariant.added values sees;
      fault = λ values sees.
          no-fault-turn (empty_path c.args.self.place.file.now values) words i word c.words-test.true
          c.word-item.is (c.in_ok-add_input.ensures.fault values sees)
          ∙ c.words.invariant.fault values sees;
    }
