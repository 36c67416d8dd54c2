use Rattle.std.proofs.Common.{◌≡◌, ◌∙◌, map}
use Rattle.std.proofs.lemmas.List.Concat.{flat_map-append}
use Rattle.std.proofs.lemmas.List.Elements.{All-tail}
use Rattle.nj_names.specs.NameTables.{with_name}
use Rattle.nj_graph.specs.Handles.{GraphFile, file_of}
use Rattle.nj_tools.specs.Inside.Collections.{new_path, new_paths}
use Rattle.nj_tools.specs.Inside.Pieces.{printed_text}
use Rattle.nj_tools.specs.Listings.{printed, terminated}
use Rattle.nj_tools.proofs.TextLemmas.{left_less}
use Rattle.nj_tools.proofs.input_lists.append_new_files.Goals as goal

pub files-preserved : goal.files-preserved
files-preserved c = record {
  graph = c.in_ok-append_new_file.ensures.graph ∙ c.files.invariant.graph;
  all = All-tail (λ (file : GraphFile). file.graph ≡ c.args.written.now.graph) _ _
      (rw c.in-Some.ensures.steps at c.files.invariant.all);
  left = λ earlier has.
      let (now, held, paths, text) = c.files.invariant.left earlier has in
      let path = (file_of c.in-Some.file).path in
      let left = new_paths (with_name now path) (map (λ (file : GraphFile). file.path) c.next.new.self) in (
        with_name now path,
        c.in_ok-append_new_file.ensures.more now held,
        rw c.in-Some.ensures.steps at paths,
        left_less c.files.text.items _ (printed_text c.args.style left) (rw c.in-Some.ensures.steps at text)
            (flat_map-append (λ p. terminated c.args.style (printed c.args.style p)) (new_path now path) left)
            (c.in_ok-append_new_file.ensures.text now held),
      );
}
