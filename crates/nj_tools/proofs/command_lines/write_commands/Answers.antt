use Rattle.std.proofs.Common.{[], ◌∷◌, ◌++◌, refl, sym, subst, rules}
use Rattle.std.proofs.lemmas.Result.{err_from_is_err_and}
use Rattle.nj_scope.specs.Readings.{IsPrefix}
use Rattle.nj_needs.specs.PageWalks.{written}
use Rattle.nj_tools.specs.CommandStrings.{command_lines}
use Rattle.nj_tools.proofs.OutputLemmas.{adds-next, adds_block, sink-fails, sink-takes, stops-front}
use Rattle.nj_tools.proofs.OutputLemmas.{stops-here}
use Rattle.nj_tools.proofs.OutputLemmas.{stops-next, stops_block, text-stopped}
use Rattle.nj_tools.proofs.CommandLemmas.{lines-last, lines-front, of_edge}
use Rattle.nj_tools.proofs.command_lines.write_commands.Goals as goal

pub returns-in_err-append_command-clause-writes : goal.returns-in_err-append_command-clause-writes
returns-in_err-append_command-clause-writes g c entries graph =
    let i = c.commands.invariant in
    text-stopped c.args.out.now _ c.from_residual.result (search rules) c.from_residual.ensures.1
    (stops-here {new = c.commands.output} _ (lines-front entries i.edges _ _ i.page.written)
    (i.text entries graph))

pub returns-in_err-write_block-clause-writes : goal.returns-in_err-write_block-clause-writes
returns-in_err-write_block-clause-writes g c entries graph =
    let i = c.commands.invariant in
    let e = c.in-Some.edge.0 in
    let page = c.in-Some.ensures.goes_on c.args.needs.now c.args.take i.edges i.page in
    let front = subst (λ t. IsPrefix t (command_lines entries (written c.args.take c.args.needs.now.left)))
    (lines-last entries i.edges e) (lines-front entries (i.edges ++ e ∷ []) _ _ page.written) in
    text-stopped c.args.out.now _ c.from_residual-in_err-write_block.result (search rules)
    c.from_residual-in_err-write_block.ensures.1
    (stops-next _ front (i.text entries graph)
    (stops_block _ refl (of_edge _ c.edge_at.ensures (c.in_ok-append_command.ensures entries) graph)
    c.in_err-write_block.ensures.text))

pub commands-preserved : goal.commands-preserved
commands-preserved g c =
    let i = c.commands.invariant in
    let e = c.in-Some.edge.0 in
    record {
      edges = i.edges ++ e ∷ [];
      page = c.in-Some.ensures.goes_on c.args.needs.now c.args.take i.edges i.page;
      same = search rules;
      text = λ entries graph. adds-next _ (sym (lines-last entries i.edges e)) (i.text entries graph)
          (adds_block _ refl (of_edge _ c.edge_at.ensures (c.in_ok-append_command.ensures entries) graph)
          c.in_ok-write_block.ensures.text);
    }

pub returns-in_err-flush-clause-writes : goal.returns-in_err-flush-clause-writes
returns-in_err-flush-clause-writes g c entries graph =
    let i = c.commands.invariant in
    let (e, was, what) = err_from_is_err_and c.from_residual-in_err-flush.result
    c.from_residual-in_err-flush.ensures.1 in
    rw (was, what) (stops-front _ _ _ _ c.in_err-flush.field-0.0
    (lines-front entries i.edges _ _ i.page.written)
    (sink-fails c.args.out.now _ _ c.in_err-flush.field-0.0 (search rules) (i.text entries graph)
    c.in_err-flush.ensures.writes))

pub returns-in_err-mark_after_page-clause-writes : goal.returns-in_err-mark_after_page-clause-writes
returns-in_err-mark_after_page-clause-writes g c entries graph =
    let i = c.commands.invariant in
    let (e, was, what) = err_from_is_err_and c.from_residual-in_err-mark_after_page.result
    c.from_residual-in_err-mark_after_page.ensures.1 in
    rw (was, what) (
      command_lines entries i.edges,
      lines-front entries i.edges _ _ i.page.written,
      sink-takes c.args.out.now _ _ (search rules) (i.text entries graph) c.in_ok-flush.ensures.writes,
    )

pub returns-clause-writes : goal.returns-clause-writes
returns-clause-writes g c entries graph =
    let i = c.commands.invariant in
    let all = (c.in_default.ensures.goes_on c.args.needs.now c.args.take i.edges i.page).1 in
    rw all (sink-takes c.args.out.now _ _ (search rules) (i.text entries graph) c.in_ok-flush.ensures.writes)

pub returns-clause-mark : goal.returns-clause-mark
returns-clause-mark g c =
    let i = c.commands.invariant in
    let (page, all) = c.in_default.ensures.goes_on c.args.needs.now c.args.take i.edges i.page in
    c.in_ok-mark_after_page.ensures c.args.needs.now c.args.take i.edges page all
