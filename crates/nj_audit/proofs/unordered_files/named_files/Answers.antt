use Rattle.std.proofs.Common.{[], ◌++◌, cond, map, sym, ap, subst, ◌∙◌}
use Rattle.std.specs.List.{filter_map}
use Rattle.nj_graph.specs.Graph.{GraphModel}
use Rattle.nj_graph.specs.Handles.{file_of}
use Rattle.nj_audit.specs.Audit.{command_of}
use Rattle.nj_audit.specs.Inside.FilesNamed.{AddsFiles}
use Rattle.nj_audit.specs.Inside.Handles.{AreIn, files_numbered}
use Rattle.nj_audit.specs.ReadWords.{command_names}
use Rattle.nj_audit.specs.UnorderedFiles.{file_named, response_of}
use Rattle.nj_audit.proofs.FileLemmas.{adds-then, files_at}
use Rattle.nj_audit.proofs.HandleLemmas.{numbered-in}
use Rattle.nj_audit.proofs.unordered_files.named_files.Goals as goal

pub returns-clause-named : goal.returns-clause-named
returns-clause-named c entries graph =
    let g = c.args.edge.graph.now in
    let folder = c.args.folder.now in
    let edge = c.args.edge.number.0 in
    let command = command_names (command_of entries edge) in
    let response = command_names (response_of entries edge) in
    let first = map file_of c.new-files.result.items in
    let middle = map file_of c.add_named_files.new.files.items in
    let last = map file_of c.add_named_files-2.new.files.items in
    let one = subst (λ t. AddsFiles g folder (command_names t) first middle)
    (c.deref.ensures.value ∙ c.in_ok-command.ensures entries graph)
    (subst (λ (h : GraphModel). AddsFiles h folder (command_names c.deref.result.now) first middle)
    c.graph-graph.ensures c.in_ok-add_named_files.ensures) in
    let two = subst (λ t. AddsFiles g folder (command_names t) middle last)
    (c.deref-2.ensures.value ∙ c.in_ok-response.ensures entries graph)
    (subst (λ (h : GraphModel). AddsFiles h folder (command_names c.deref-2.result.now) middle last)
    c.graph-graph.ensures c.in_ok-add_named_files-2.ensures) in
    adds-then g folder command response first middle last one two
    ∙ ap (λ fs. map file_of fs ++ files_at g folder (command ++ response)) c.new-files.ensures.items
    ∙ ap (λ b. files_numbered g (cond b (filter_map (file_named g folder) (command ++ response)) []))
    (sym (sym (c.in_ok-is_looked_at.ensures entries graph) ∙ c.if-not-branch.false))

pub returns-clause-graph : goal.returns-clause-graph
returns-clause-graph c =
    let g = c.args.edge.graph.now in
    let folder = c.args.folder.now in
    let command = command_names c.deref.result.now in
    let response = command_names c.deref-2.result.now in
    let first = map file_of c.new-files.result.items in
    let middle = map file_of c.add_named_files.new.files.items in
    let last = map file_of c.add_named_files-2.new.files.items in
    let all = adds-then g folder command response first middle last
    (subst (λ (h : GraphModel). AddsFiles h folder command first middle) c.graph-graph.ensures
    c.in_ok-add_named_files.ensures)
    (subst (λ (h : GraphModel). AddsFiles h folder response middle last) c.graph-graph.ensures
    c.in_ok-add_named_files-2.ensures)
    ∙ ap (λ fs. map file_of fs ++ files_at g folder (command ++ response)) c.new-files.ensures.items in
    subst (AreIn g) (sym all) (numbered-in g (filter_map (file_named g folder) (command ++ response)))
