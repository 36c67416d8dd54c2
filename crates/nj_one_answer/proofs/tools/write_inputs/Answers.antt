use Rattle.std.proofs.Common.{map, sym, subst}
use Rattle.nj_names.specs.Files.{path_at}
use Rattle.nj_graph.specs.Graph.{edges_of, files_of}
use Rattle.nj_tools.specs.Listings.{inputs_text}
use Rattle.nj_tools.specs.Texts.{WritesText}
use Rattle.nj_one_answer.proofs.ToolAnswers.{texts-agree, text-sinks-agree, both-done}
use Rattle.nj_one_answer.proofs.tools.write_inputs.Goals as goal

pub returns-clause-agree : goal.returns-clause-agree
returns-clause-agree g c = let state = g.S.Sink.state in
    texts-agree (state c.args.one.now) (state c.write_inputs.new.out) (state c.write_inputs-2.new.out)
    (inputs_text c.args.style (edges_of c.args.graph.now)
    (map (path_at (files_of c.args.graph.now)) c.args.targets.now)) c.write_inputs.result
    c.write_inputs-2.result (both-done c.write_inputs.result c.write_inputs-2.result)
    c.write_inputs.ensures (subst (λ s. WritesText s (state c.write_inputs-2.new.out)
    (inputs_text c.args.style (edges_of c.args.graph.now)
    (map (path_at (files_of c.args.graph.now)) c.args.targets.now)) c.write_inputs-2.result)
    (sym c.requires.sink) c.write_inputs-2.ensures)

pub returns-clause-sinks : goal.returns-clause-sinks
returns-clause-sinks g c = let state = g.S.Sink.state in
    text-sinks-agree (state c.args.one.now) (state c.write_inputs.new.out) (state c.write_inputs-2.new.out)
    (inputs_text c.args.style (edges_of c.args.graph.now)
    (map (path_at (files_of c.args.graph.now)) c.args.targets.now)) c.write_inputs.result
    c.write_inputs-2.result
    c.write_inputs.ensures (subst (λ s. WritesText s (state c.write_inputs-2.new.out)
    (inputs_text c.args.style (edges_of c.args.graph.now)
    (map (path_at (files_of c.args.graph.now)) c.args.targets.now)) c.write_inputs-2.result)
    (sym c.requires.sink) c.write_inputs-2.ensures)
