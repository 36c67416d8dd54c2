use Rattle.std.proofs.Common.{map, refl, rules}
use Rattle.nj_names.specs.Files.{path_at}
use Rattle.nj_graph.specs.Graph.{files_of}
use Rattle.nj_tools.proofs.EdgeLists.{graphs-of_files}
use Rattle.nj_tools.proofs.OutputLemmas.{each_done, each_first, each_memory, each_next, each_stops}
use Rattle.nj_tools.proofs.OutputLemmas.{text-stopped}
use Rattle.nj_tools.proofs.OutputLemmas.{text-written}
use Rattle.nj_tools.proofs.QueryLemmas.{queries_in}
use Rattle.nj_tools.proofs.queries.write_query.Goals as goal

pub files-init : goal.files-init
files-init g c = record {
  same = search rules;
  left = λ entries graph.
      let paths = map (path_at (files_of c.args.graph.now)) c.args.files.now in
      rw (c.into_iter-file-iterator.ensures.into_iter_gives, c.files_at-file-items.ensures)
      (each_first _ _ _ (graphs-of_files entries c.args.graph.now paths graph)
      (queries_in entries c.args.graph.now paths graph));
}

pub returns-in_err-append_file : goal.returns-in_err-append_file
returns-in_err-append_file g c entries graph =
    text-stopped c.args.out.now _ c.from_residual.result (search rules) c.from_residual.ensures.1
    (each_memory (c.files.invariant.left entries graph) c.files.output refl)

pub files-preserved : goal.files-preserved
files-preserved g c = record {
  same = search rules;
  left = λ entries graph.
      each_next (c.files.invariant.left entries graph) c.in-Some.ensures.steps refl
      (c.in_ok-append_file.ensures entries) c.in_ok-write_block.ensures.text;
}

pub returns-in_err-write_block : goal.returns-in_err-write_block
returns-in_err-write_block g c entries graph =
    text-stopped c.args.out.now _ c.from_residual-in_err-write_block.result (search rules)
    c.from_residual-in_err-write_block.ensures.1
    (each_stops (c.files.invariant.left entries graph) c.in-Some.ensures.steps refl
    (c.in_ok-append_file.ensures entries) c.in_err-write_block.ensures.text)

pub returns : goal.returns
returns g c entries graph =
    text-written c.args.out.now _ _ c.flush.result (search rules)
    (each_done (c.files.invariant.left entries graph) c.in-None.ensures.steps.0) c.flush.ensures.writes
