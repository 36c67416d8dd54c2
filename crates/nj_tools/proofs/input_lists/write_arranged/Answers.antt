use Rattle.std.proofs.Common.{ap, flat_map, map, subst, ◌∙◌}
use Rattle.nj_graph.specs.Graph.{edges_of}
use Rattle.nj_tools.specs.Inside.Collections.{inputs_of_all}
use Rattle.nj_tools.specs.Inside.Outputs.{PutsText}
use Rattle.nj_tools.specs.Listings.{printed, sorted, terminated}
use Rattle.nj_tools.proofs.EdgeLists.{are-paths}
use Rattle.nj_tools.proofs.ListingLemmas.{inputs-as_needed, inputs-sorted}
use Rattle.nj_tools.proofs.input_lists.write_arranged.Goals as goal

pub returns-then-style-clause-text : goal.returns-then-style-clause-text
returns-then-style-clause-text g c =
    let inputs = inputs_of_all (edges_of c.args.graph.now) c.args.needs.left in
    subst (λ t. PutsText g.S.Sink.state c.args.out.now c.write_as_needed.new.out t c.write_as_needed.result)
    (inputs-as_needed c.args.style inputs c.if-style.true) c.write_as_needed.ensures.text

pub returns-in_ok-inputs-clause-text : goal.returns-in_ok-inputs-clause-text
returns-in_ok-inputs-clause-text g c =
    let inputs = inputs_of_all (edges_of c.args.graph.now) c.args.needs.left in
    subst (λ t. PutsText g.S.Sink.state c.args.out.now c.write_sorted.new.out t c.write_sorted.result)
    (ap (λ ps. flat_map (terminated c.args.style) (sorted (map (printed c.args.style) ps)))
    (are-paths _ _ _ c.files.ensures ∙ c.in_ok-inputs.ensures.paths)
    ∙ inputs-sorted c.args.style inputs c.if-style.false) c.write_sorted.ensures.text
