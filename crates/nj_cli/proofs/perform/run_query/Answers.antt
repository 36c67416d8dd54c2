use Rattle.std.proofs.Common.{map, string_bytes, All, length, subst, sym, ◌<◌}
use Rattle.nj_names.specs.Files.{AreFiles}
use Rattle.nj_graph.specs.Graph.{files_of}
use Rattle.nj_edges.proofs.GraphLemmas.{files-known}
use Rattle.nj_requests.specs.Actions as ask
use Rattle.nj_tools.specs.Errors.{error_of_tool}
use Rattle.nj_cli.proofs.ReturnLemmas.{ReturnsFor-err, query-failed, query-answered}
use Rattle.nj_cli.proofs.perform.run_query.Goals as goal

pub write_query-requires : goal.write_query-requires
write_query-requires g c =
    let files = files_of c.args.graph.now in
    let picked = c.in_ok-files.ensures in
    subst (λ ns. All (λ f. f.0 < length files) ns) (sym c.deref.ensures.value)
    (files-known files c.in_ok-files.files.items picked.0 picked.2)

pub returns-in_err-write_query : goal.returns-in_err-write_query
returns-in_err-write_query g c = λ entries is.
    let picked = c.in_ok-files.ensures in
    let are = subst (λ ns. AreFiles (files_of c.args.graph.now) ns picked.0) (sym c.deref.ensures.value)
    picked.2 in
    ReturnsFor-err entries (ask.query (map string_bytes c.args.words.now)) (g.O.Sink.state c.args.out.now)
    (g.O.Sink.state c.write_query.new.out) c.from_residual-in_err-write_query.result
    (error_of_tool c.in_err-write_query.field-0.0) c.from_residual-in_err-write_query.ensures.1
    (query-failed entries c.args.graph.now is (map string_bytes c.args.words.now) picked.0 picked.1
    c.deref.result.now are (g.O.Sink.state c.args.out.now) (g.O.Sink.state c.write_query.new.out)
    c.in_err-write_query.field-0.0 (c.in_err-write_query.ensures entries is))

pub returns : goal.returns
returns g c = λ entries is.
    let picked = c.in_ok-files.ensures in
    let are = subst (λ ns. AreFiles (files_of c.args.graph.now) ns picked.0) (sym c.deref.ensures.value)
    picked.2 in
    query-answered entries c.args.graph.now is (map string_bytes c.args.words.now) picked.0 picked.1
    c.deref.result.now are (g.O.Sink.state c.args.out.now) (g.O.Sink.state c.write_query.new.out)
    (c.in_ok-write_query.ensures entries is)
