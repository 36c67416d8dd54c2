use Rattle.std.proofs.Common.{map, sym, subst}
use Rattle.nj_names.specs.Files.{path_at}
use Rattle.nj_graph.specs.Graph.{files_of}
use Rattle.nj_tools.specs.Queries.{query_text}
use Rattle.nj_tools.specs.Texts.{WritesText}
use Rattle.nj_one_answer.proofs.ToolAnswers.{texts-agree, text-sinks-agree, both-done}
use Rattle.nj_one_answer.proofs.tools.write_query.Goals as goal

pub returns-clause-agree : goal.returns-clause-agree
returns-clause-agree g c = λ entries is. let state = g.S.Sink.state in
    texts-agree (state c.args.one.now) (state c.write_query.new.out) (state c.write_query-2.new.out)
    (query_text entries (map (path_at (files_of c.args.graph.now)) c.args.files.now)) c.write_query.result
    c.write_query-2.result (both-done c.write_query.result c.write_query-2.result)
    (c.write_query.ensures entries is) (subst
    (λ s. WritesText s (state c.write_query-2.new.out)
    (query_text entries (map (path_at (files_of c.args.graph.now)) c.args.files.now))
    c.write_query-2.result)
    (sym c.requires.sink) (c.write_query-2.ensures entries is))

pub returns-clause-sinks : goal.returns-clause-sinks
returns-clause-sinks g c = λ entries is. let state = g.S.Sink.state in
    text-sinks-agree (state c.args.one.now) (state c.write_query.new.out) (state c.write_query-2.new.out)
    (query_text entries (map (path_at (files_of c.args.graph.now)) c.args.files.now)) c.write_query.result
    c.write_query-2.result
    (c.write_query.ensures entries is) (subst
    (λ s. WritesText s (state c.write_query-2.new.out)
    (query_text entries (map (path_at (files_of c.args.graph.now)) c.args.files.now))
    c.write_query-2.result)
    (sym c.requires.sink) (c.write_query-2.ensures entries is))
