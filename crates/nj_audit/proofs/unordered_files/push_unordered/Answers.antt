use Rattle.std.proofs.Common.{[], get_or, rules, take, true≢false, sym, ap, subst, ◌∙◌}
use Rattle.std.proofs.lemmas.List.{take_more}
use Rattle.nj_graph.specs.Handles.{edge_of}
use Rattle.nj_audit.specs.UnorderedFiles.{IsUnordered}
use Rattle.nj_audit.specs.Inside.FileSets.{FileSetModel}
use Rattle.nj_audit.specs.Inside.UnorderedFound.{AddsOnce, KnowsUnordered}
use Rattle.nj_audit.proofs.HandleLemmas.{graph-at, path-at}
use Rattle.nj_audit.proofs.UnorderedLemmas.{unordered-begins, unordered-more, unordered-none}
use Rattle.nj_audit.proofs.unordered_files.push_unordered.Goals as goal
use Rattle.nj_audit.proofs.unordered_files.push_unordered.Goals.{then-branch+in_ok-push_once, else-branch}

pub files-init : goal.files-init
files-init c = record {
  graph = ap (λ (s : FileSetModel). s.graph) c.clear.ensures ∙ c.requires.seen;
  makers = search rules;
  users = search rules;
  knows = λ numbers are. subst (λ (s : FileSetModel). KnowsUnordered (edge_of c.args.edge) [] s.paths
      c.args.found.now c.args.found.now) (sym c.clear.ensures)
      (unordered-begins (edge_of c.args.edge) c.args.found.now);
}

pub is_unordered-requires-clause-graph : goal.is_unordered-requires-clause-graph
is_unordered-requires-clause-graph c = graph-at c.args.edge.graph.now c.args.files.now c.files.file-index
    c.file-item.result c.file-item.is c.files-test.true c.requires.files

pub push_once-requires : goal.push_once-requires
push_once-requires c = c.files.invariant.graph
    ∙ sym (graph-at c.args.edge.graph.now c.args.files.now c.files.file-index c.file-item.result
    c.file-item.is
    c.files-test.true c.requires.files)

pub files-preserved : goal.files-preserved
files-preserved c =
    let edge = edge_of c.args.edge in
    let i = c.files.file-index in
    let file = c.file-item.result in
    let base = c.args.found.now in
    record {
      graph = elim c.if-branch.branch [
        | then-branch+in_ok-push_once w ↦
            ap (λ (s : FileSetModel). s.graph) (w.seen-is ∙ w.in_ok-push_once.ensures.seen_now)
            ∙ c.files.invariant.graph
        | else-branch w ↦ ap (λ (s : FileSetModel). s.graph) w.seen-is ∙ c.files.invariant.graph
      ];
      makers = c.in_ok-is_unordered.ensures.makers ∙ c.files.invariant.makers;
      users = c.in_ok-is_unordered.ensures.users ∙ c.files.invariant.users;
      knows = λ numbers are.
          let at = path-at edge.graph c.args.files.now i file c.file-item.is c.files-test.true numbers are in
          let number = get_or numbers i 0 in
          let knows = c.files.invariant.knows numbers are in
          elim c.if-branch.branch [
            | then-branch+in_ok-push_once w ↦
                rw (take_more numbers i 0 at.0, w.seen-is, w.found-is)
                (unordered-more edge (take i numbers) number c.files.seen base c.files.found knows
                w.push_once.new.seen w.push_once.new.found
                (subst (IsUnordered edge.graph edge.number) at.1
                (c.in_ok-is_unordered.ensures.unordered.0 w.if-branch.true))
                (subst (λ p. AddsOnce edge p c.files.seen w.push_once.new.seen c.files.found
                w.push_once.new.found) at.1 w.in_ok-push_once.ensures))
            | else-branch w ↦
                rw (take_more numbers i 0 at.0, w.seen-is, w.found-is)
                (unordered-none edge (take i numbers) number c.files.seen base c.files.found knows
                (λ unordered. true≢false (sym (c.in_ok-is_unordered.ensures.unordered.1
                (subst (IsUnordered edge.graph edge.number) (sym at.1) unordered)) ∙ w.if-branch.false)))
          ];
    }
