use Rattle.std.proofs.Common.{◌≡◌, Bool, true, false, not, if◌then◌else◌, refl, sym, ap, ◌∙◌}
use Rattle.nj_edges.specs.Joining.{is_made_so_far, with_added_output}
use Rattle.nj_statements.proofs.AddedLemmas.{keeps-trans, keeps-output, outputs-turn, new-output-turn}
use Rattle.nj_statements.proofs.dyndep_entries.DyndepLine.add_outputs.Goals as goal

is-false : (b : Bool) → true ≡ not b → b ≡ false
is-false true h = h
is-false false h = refl

pub words-preserved : goal.words-preserved
words-preserved c =
    let words = c.args.words.now in
    let i = c.words.word-index in
    let word = c.word-item.result in
    let path = c.in_ok-path.path.now in
    let new = c.add_output.new.self in
    let fresh : is_made_so_far c.words.edges path ≡ false =
    is-false (is_made_so_far c.words.edges path)
    (sym c.if-not-branch.false ∙ c.in_ok-add_output.ensures.is_new) in
    let adds : new ≡ with_added_output c.words.edges path =
    c.in_ok-add_output.ensures.added ∙ ap
    (λ b. if b then with_added_output c.words.edges path else c.words.edges) c.if-not-branch.false in
    record {
      added = outputs-turn c.words.edges new path words i word c.words-test.true c.word-item.is
          c.in_ok-path.ensures.path adds ∙ c.words.invariant.added;
      fault = new-output-turn c.args.self.name.now c.words.edges new path words i word c.words-test.true
          c.word-item.is c.in_ok-path.ensures.path c.in_ok-path.ensures.fault fresh adds
          ∙ c.words.invariant.fault;
      keeps = keeps-trans c.args.edges.now c.words.edges new c.words.invariant.keeps
          (keeps-output c.words.edges new path adds);
    }
