use Rattle.std.proofs.Common.{Err, option_map, subst}
use Rattle.nj_tools.specs.Compdb.{WritesCompdb, text_fault}
use Rattle.nj_tools.specs.EdgeObjects.{edge_lines, unwritable_edge}
use Rattle.nj_ask.proofs.JsonLemmas.{returns-stopped, returns-told, returns-untold}
use Rattle.nj_ask.proofs.json.answer_json.Goals as goal

pub returns-in-Err : goal.returns-in-Err
returns-in-Err g c entries graph =
    let stopped = subst (λ found. WritesCompdb (g.O.Sink.state c.args.out.now)
    (g.O.Sink.state c.write_edge_objects.new.out) (edge_lines entries found)
    (option_map (text_fault entries) (unwritable_edge entries found)) (Err c.in-Err.fault))
    c.deref.ensures.value
    (c.in-Err.ensures entries graph) in
    returns-stopped c.args.known.now entries _ _ c.in-Err.fault c.stopped.result stopped
    c.stopped.ensures

pub returns-in_err-told_about : goal.returns-in_err-told_about
returns-in_err-told_about g c entries graph =
    let wrote = rw c.deref.ensures.value at (c.in-Ok.ensures entries graph) in
    returns-untold c.args.known.now entries _ _ c.from_residual.result c.from_residual.ensures.1 wrote.1

pub returns : goal.returns
returns g c entries graph =
    let wrote = rw c.deref.ensures.value at (c.in-Ok.ensures entries graph) in
    returns-told c.args.known.now entries _ _ c.in_ok-told_about.field-0 wrote.0 wrote.1
    (c.in_ok-told_about.ensures.warnings entries graph) c.in_ok-told_about.ensures.looks
