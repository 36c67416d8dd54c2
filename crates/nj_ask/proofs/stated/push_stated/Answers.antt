use Rattle.std.proofs.Common.{◌++◌, ◌<◌, length, map, ap, ap₂, ◌∙◌, sym, subst, All}
use Rattle.std.proofs.lemmas.List.{map-append}
use Rattle.std.proofs.lemmas.List.Elements.{All-append}
use Rattle.nj_edges.specs.Edges.{edge_at, outputs_of}
use Rattle.nj_graph.specs.declared.FileNo.{FileNo}
use Rattle.nj_names.specs.Files.{path_at}
use Rattle.nj_ask.specs.MissingSources.{stated_edge}
use Rattle.nj_ask.proofs.StatedLemmas.{parts-more, paths-are}
use Rattle.nj_ask.proofs.stated.push_stated.Goals as goal

pub returns-clause-paths : goal.returns-clause-paths
returns-clause-paths c =
    let g = c.args.graph.now in
    let e = edge_at g.edges c.args.edge.0 in
    let at = path_at g.files in
    let old = c.args.files.now.items in
    let a = c.outputs.result.now in
    let b = c.explicit_input_files.result.now in
    let i = c.stated_inputs.result.now in
    let d = c.order_only_input_files.result.now in
    let v = c.validations.result.now in
    let stated = (stated_edge g.edges c.args.stated.now c.args.edge.0).implicit_inputs in
    ap (map at) c.in_ok-extend_from_slice-5.ensures.items
    ∙ map-append at c.extend_from_slice-4.new.self.items v
    ∙ ap₂ (λ x y. x ++ y)
    (ap (map at) c.in_ok-extend_from_slice-4.ensures.items
    ∙ map-append at c.extend_from_slice-3.new.self.items d
    ∙ ap₂ (λ x y. x ++ y)
    (ap (map at) c.in_ok-extend_from_slice-3.ensures.items
    ∙ map-append at c.extend_from_slice-2.new.self.items i
    ∙ ap₂ (λ x y. x ++ y)
    (ap (map at) c.in_ok-extend_from_slice-2.ensures.items
    ∙ map-append at c.extend_from_slice.new.self.items b
    ∙ ap₂ (λ x y. x ++ y)
    (ap (map at) c.in_ok-extend_from_slice.ensures.items ∙ map-append at old a
    ∙ ap (λ ps. map at old ++ ps) (paths-are g.files a (outputs_of e) c.outputs.ensures.files))
    (paths-are g.files b e.explicit_inputs c.explicit_input_files.ensures.files))
    c.stated_inputs.ensures.paths)
    (paths-are g.files d e.order_only_inputs c.order_only_input_files.ensures.files))
    (paths-are g.files v e.validations c.validations.ensures.files)
    ∙ parts-more (map at old) (outputs_of e) e.explicit_inputs stated e.order_only_inputs e.validations

pub returns-clause-known : goal.returns-clause-known
returns-clause-known c =
    let Below = λ (f : FileNo). f.0 < length c.args.graph.now.files in
    let a = subst (All Below) (sym c.in_ok-extend_from_slice.ensures.items)
    (All-append Below c.args.files.now.items c.outputs.result.now c.requires.files c.outputs.ensures.known) in
    let b = subst (All Below) (sym c.in_ok-extend_from_slice-2.ensures.items)
    (All-append Below c.extend_from_slice.new.self.items c.explicit_input_files.result.now a
    c.explicit_input_files.ensures.known) in
    let d = subst (All Below) (sym c.in_ok-extend_from_slice-3.ensures.items)
    (All-append Below c.extend_from_slice-2.new.self.items c.stated_inputs.result.now b
    c.stated_inputs.ensures.known) in
    let e = subst (All Below) (sym c.in_ok-extend_from_slice-4.ensures.items)
    (All-append Below c.extend_from_slice-3.new.self.items c.order_only_input_files.result.now d
    c.order_only_input_files.ensures.known) in
    subst (All Below) (sym c.in_ok-extend_from_slice-5.ensures.items)
    (All-append Below c.extend_from_slice-4.new.self.items c.validations.result.now e
    c.validations.ensures.known)
