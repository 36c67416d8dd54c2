use Rattle.std.proofs.Common.{ap, flat_map, map, rules, ◌∙◌}
use Rattle.nj_names.specs.Files.{path_at}
use Rattle.nj_graph.specs.Graph.{edges_of, files_of}
use Rattle.nj_tools.specs.Inside.Collections.{inputs_of_all}
use Rattle.nj_tools.specs.Listings.{printed_strings, terminated}
use Rattle.nj_tools.proofs.ListingLemmas.{inputs-are}
use Rattle.nj_tools.proofs.OutputLemmas.{adds-is, front-is, stops-before, text-stopped, text-written}
use Rattle.nj_tools.proofs.input_lists.write_inputs.Goals as goal

pub returns-in_err-write_arranged : goal.returns-in_err-write_arranged
returns-in_err-write_arranged g c =
    let edges = edges_of c.args.graph.now in
    let is = ap (λ es. flat_map (terminated c.args.style)
    (printed_strings c.args.style (inputs_of_all edges es)))
    (rw c.deref.ensures at c.in_ok-needs.ensures.commands)
    ∙ inputs-are c.args.style edges (map (path_at (files_of c.args.graph.now)) c.args.targets.now) in
    text-stopped c.args.out.now _ c.from_residual-in_err-write_arranged.result (search rules)
    c.from_residual-in_err-write_arranged.ensures.1
    (stops-before _ (front-is _ is) c.in_err-write_arranged.ensures.text)

pub returns : goal.returns
returns g c =
    let edges = edges_of c.args.graph.now in
    let is = ap (λ es. flat_map (terminated c.args.style)
    (printed_strings c.args.style (inputs_of_all edges es)))
    (rw c.deref.ensures at c.in_ok-needs.ensures.commands)
    ∙ inputs-are c.args.style edges (map (path_at (files_of c.args.graph.now)) c.args.targets.now) in
    text-written c.args.out.now _ _ c.flush.result (search rules)
    (adds-is _ is c.in_ok-write_arranged.ensures.text) c.flush.ensures.writes
