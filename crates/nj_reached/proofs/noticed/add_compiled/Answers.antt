use Rattle.std.proofs.Common.{◌∷◌, [], ◌++◌, map, ap, subst, sym, ◌∙◌}
use Rattle.std.specs.List.{filter}
use Rattle.nj_names.specs.NameTables.{is_among}
use Rattle.nj_changes.specs.Tables.{HasMore}
use Rattle.nj_graph.specs.Files.{path_at}
use Rattle.nj_graph.specs.Graph.{GraphModel, IsGraphOf, edges_of, files_of}
use Rattle.nj_graph.specs.Handles.{file_of}
use Rattle.nj_reached.specs.GraphChanges.{full_paths, is_compiled}
use Rattle.nj_reached.specs.Inside.Handles.{full_compiled}
use Rattle.nj_reached.proofs.HandleLemmas.{are-in, compiled-full, first-in, others-in}
use Rattle.nj_reached.proofs.NoticedLemmas.{compiled-first}
use Rattle.nj_reached.proofs.TableLemmas.{all-added, step}
use Rattle.nj_reached.proofs.noticed.add_compiled.Goals as goal

pub files-init : goal.files-init
files-init c =
    let g = c.args.graph.now in
    let folder = c.args.folder.now in
    let paths = map (path_at (files_of g)) c.args.files.now in
    let all = c.into_iter-file-iterator.ensures.into_iter_gives ∙ c.files_at-file-items.ensures in
    record {
      of = are-in g c.into_iter-file-iterator.result paths all;
      names = λ entries is name. ap (λ more. is_among (c.args.names.now ++ more) name)
          (ap (full_compiled g entries folder) all ∙ compiled-full folder g entries paths);
    }

pub files-preserved : goal.files-preserved
files-preserved c =
    let g = c.args.graph.now in
    let folder = c.args.folder.now in
    let file = file_of c.in-Some.file in
    let left = c.files.file-iterator in
    let others = c.next.new.self in
    let next = c.in-Some.ensures.steps in
    let of = c.files.invariant.of in
    let same = first-in g file left others next of in
    record {
      of = others-in g file left others next of;
      names = λ entries is. step c.files.names c.add_if_compiled.new.names
          (full_paths folder (filter (is_compiled entries (edges_of g)) (file.path ∷ [])))
          (full_compiled g entries folder left) (full_compiled g entries folder others)
          (c.args.names.now ++ full_paths folder (filter (is_compiled entries (edges_of g))
          (map (path_at (files_of g)) c.args.files.now)))
          (compiled-first folder file left others next g entries)
          (subst (λ (h : GraphModel). HasMore c.files.names
          (full_paths folder (filter (is_compiled entries (edges_of h)) (file.path ∷ [])))
          c.add_if_compiled.new.names) same
          (c.in_ok-add_if_compiled.ensures entries (subst (λ h. IsGraphOf h entries) (sym same) is)))
          (c.files.invariant.names entries is);
    }

pub returns : goal.returns
returns c entries is =
    let g = c.args.graph.now in
    let folder = c.args.folder.now in
    all-added c.args.names.now c.files.names
    (full_paths folder (filter (is_compiled entries (edges_of g))
    (map (path_at (files_of g)) c.args.files.now)))
    (full_compiled g entries folder c.files.file-iterator)
    (ap (full_compiled g entries folder) c.in-None.ensures.steps.0) (c.files.invariant.names entries is)
