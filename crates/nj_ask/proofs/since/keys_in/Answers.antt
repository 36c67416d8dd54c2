use Rattle.std.proofs.Common.{Bor, List, ℕ, [], sym, ap, ◌∙◌}
use Rattle.std.proofs.lemmas.List.{take_all}
use Rattle.nj_graph.specs.Edges.{is_among}
use Rattle.nj_ask.specs.Inside.Lent.{texts}
use Rattle.nj_ask.specs.Since.{keys_in}
use Rattle.nj_ask.proofs.SinceLemmas.{key-added, key-none}
use Rattle.nj_ask.proofs.since.keys_in.Goals as goal
use Rattle.nj_ask.proofs.since.keys_in.Goals.{in-Some+in_ok-add-in-Some, in-None}

pub lines-preserved : goal.lines-preserved
lines-preserved c name =
    let lines = c.args.lines.now in
    let i = c.lines.line-index in
    let none : Bor (List ℕ) = record { ref_ptr = (0, 0); now = [] } in
    elim c.match-key_of.branch [
      | in-Some+in_ok-add-in-Some w ↦
          key-added c.lines.names lines i none c.lines-test.true c.lines.invariant w.in-Some.key _
          (sym w.in-Some.ensures) (w.names-is ∙ w.in_ok-add-in-Some.ensures.added) name
      | in-None w ↦
          key-none c.lines.names lines i none c.lines-test.true c.lines.invariant _ (sym w.in-None.ensures)
          w.names-is name
    ]

pub returns : goal.returns
returns c name =
    c.lines.invariant name
    ∙ ap (λ (lines : List (Bor (List ℕ))). is_among (keys_in (texts lines)) name)
    (take_all c.lines.line-index c.args.lines.now c.lines-test.false)
