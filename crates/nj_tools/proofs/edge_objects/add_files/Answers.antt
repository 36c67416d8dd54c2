use Rattle.std.proofs.Common.{List, ap, map, ◌∙◌}
use Rattle.std.proofs.lemmas.Result.{on_ok_weaker}
use Rattle.nj_graph.specs.Handles.{GraphFile, edge_of, paths_of}
use Rattle.nj_tools.specs.EdgeObjects.{stated_count}
use Rattle.nj_tools.proofs.EdgeLists.{are-paths, counts-in, drops-paths, takes-paths}
use Rattle.nj_tools.proofs.EdgeObjectLemmas.{files-added}
use Rattle.nj_tools.proofs.edge_objects.add_files.Goals as goal

pub returns : goal.returns
returns c =
    let e = paths_of (edge_of c.args.edge) in
    let paths = λ (files : List GraphFile). map (λ file. file.path) files in
    let n = c.stated_count.result in
    on_ok_weaker c.add_string.result
    (λ is.
    files-added e c.args.discovery n c.args.object.now c.add_paths.new.self c.add_paths-2.new.self
    c.add_paths-3.new.self c.add_paths-4.new.self c.add_paths-5.new.self c.add_paths-6.new.self
    c.add_paths-7.new.self c.add_string.new.self
    (paths c.explicit_outputs.result) (paths c.implicit_outputs.result) (paths c.explicit_inputs.result)
    (paths c.split_at-stated.result.0) (paths c.split_at-stated.result.1)
    (paths c.order_only_inputs.result) (paths c.validations.result) c.discovery_word.result.now
    (c.stated_count.ensures ∙ ap (stated_count c.args.discovery)
    (c.len.ensures ∙ counts-in _ _ _ c.implicit_inputs-implicit.ensures))
    (are-paths _ _ _ c.explicit_outputs.ensures) (are-paths _ _ _ c.implicit_outputs.ensures)
    (are-paths _ _ _ c.explicit_inputs.ensures)
    (takes-paths _ _ _ _ n c.implicit_inputs-implicit.ensures c.split_at-stated.ensures.first)
    (drops-paths _ _ _ _ n c.implicit_inputs-implicit.ensures c.split_at-stated.ensures.others)
    (are-paths _ _ _ c.order_only_inputs.ensures) (are-paths _ _ _ c.validations.ensures)
    c.discovery_word.ensures
    c.in_ok-add_paths.ensures c.in_ok-add_paths-2.ensures c.in_ok-add_paths-3.ensures
    c.in_ok-add_paths-4.ensures c.in_ok-add_paths-5.ensures c.in_ok-add_paths-6.ensures
    c.in_ok-add_paths-7.ensures is)
    c.add_string.ensures
