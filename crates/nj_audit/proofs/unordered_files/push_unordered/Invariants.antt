use Rattle.std.proofs.Common.{◌≡◌, ℕ, List, map, take}
use Rattle.nj_graph.specs.Handles.{edge_of, file_of}
use Rattle.nj_audit.specs.Inside.Handles.{HaveNumbers}
use Rattle.nj_audit.specs.Inside.UnorderedFound.{KnowsUnordered}
use Rattle.nj_audit.proofs.unordered_files.push_unordered.Given as goal

abbrev pub invariant-files : goal.invariant-files
invariant-files l =
    let edge = edge_of l.edge in
    record {
      graph : l.seen.graph ≡ edge.graph;
      makers : l.makers ≡ l.fn.makers;
      users : l.users ≡ l.fn.users;
      knows : (numbers : List ℕ) → HaveNumbers edge.graph (map file_of l.files) numbers
          → KnowsUnordered edge (take l.file-index numbers) l.seen.paths l.fn.found l.found;
    }
