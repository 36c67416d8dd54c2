use Rattle.std.proofs.Common.{ℕ, List, map, sym, ap, subst, ◌∙◌}
use Rattle.std.specs.Prelude.{Contains}
use Rattle.nj_graph.specs.Handles.{edge_of, file_of}
use Rattle.nj_audit.specs.UnorderedFiles.{files_named}
use Rattle.nj_audit.proofs.HandleLemmas.{paths-numbered}
use Rattle.nj_audit.proofs.logged_inputs.names_file.Goals as goal

pub returns : goal.returns
returns c entries graph =
    let edge = edge_of c.args.edge in
    let path = (file_of c.args.file).path in
    let same = ap (map (λ other. (file_of other).path)) c.deref.ensures.value
    ∙ paths-numbered edge.graph c.in_ok-files.files.items
    (files_named edge.graph entries c.args.folder.now edge.number)
    (c.in_ok-files.ensures.named entries graph) in (
      λ is. subst (λ (ps : List (List ℕ)). Contains ps path) same (c.has_file.ensures.0 is),
      λ has. c.has_file.ensures.1 (subst (λ (ps : List (List ℕ)). Contains ps path) (sym same) has),
    )
