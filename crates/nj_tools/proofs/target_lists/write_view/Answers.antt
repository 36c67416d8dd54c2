use Rattle.std.proofs.Common.{◌∙◌, List, ap, bytes_eq, map, rules, subst, sym}
use Rattle.nj_edges.specs.Repeats.{each_once}
use Rattle.nj_graph.specs.Handles.{GraphFile}
use Rattle.nj_graph.proofs.Stated.{graph-edges}
use Rattle.nj_tools.specs.Inside.Outputs.{PutsText}
use Rattle.nj_tools.specs.Lines.{lines}
use Rattle.nj_tools.specs.Listings.{sorted, sources_in, targets_text}
use Rattle.nj_tools.proofs.EdgeLists.{paths-in}
use Rattle.nj_tools.proofs.target_lists.write_view.Goals as goal

pub returns-in_ok-outputs-in-OfRule-clause-text : goal.returns-in_ok-outputs-in-OfRule-clause-text
returns-in_ok-outputs-in-OfRule-clause-text g c entries graph =
    subst (λ t. PutsText g.S.Sink.state c.args.out.now c.write_sorted.new.out t c.write_sorted.result)
    (ap (λ (files : List GraphFile). lines (sorted (map (λ file. file.path) files))) c.files.ensures
    ∙ ap (λ ps. lines (sorted ps)) (paths-in _ _ ∙ c.in_ok-outputs-in-OfRule.ensures.paths entries graph)
    ∙ (search rules))
    c.write_sorted.ensures.text

pub returns-in_ok-sources-in-Sources-clause-text : goal.returns-in_ok-sources-in-Sources-clause-text
returns-in_ok-sources-in-Sources-clause-text g c entries graph =
    subst (λ t. PutsText g.S.Sink.state c.args.out.now c.write_sorted-in-Sources.new.out t
    c.write_sorted-in-Sources.result)
    (ap (λ (files : List GraphFile). lines (sorted (map (λ file. file.path) files)))
    c.files-in-Sources.ensures
    ∙ ap (λ ps. lines (sorted ps)) (paths-in _ _ ∙ c.in_ok-sources-in-Sources.ensures.paths)
    ∙ ap (λ edges. lines (sorted (each_once bytes_eq (sources_in edges)))) (graph-edges graph)
    ∙ ap (targets_text entries) (sym c.in-Sources.is))
    c.write_sorted-in-Sources.ensures.text
