use Rattle.std.proofs.Common.{List, [], map, ap, sym, subst, ◌∙◌}
use Rattle.std.specs.Prelude.{◌↔◌, Contains}
use Rattle.nj_graph.specs.declared.EdgeNo.{EdgeNo}
use Rattle.nj_graph.specs.Changes.{IsAffected}
use Rattle.nj_graph.specs.declared.FileNo.{FileNo}
use Rattle.nj_graph.specs.Files.{path_at}
use Rattle.nj_graph.specs.Graph.{edges_of, files_of}
use Rattle.std.proofs.lemmas.List.{take_all}
use Rattle.nj_ask.proofs.ManifestLemmas.{can-tell}
use Rattle.nj_ask.specs.Inside.Reached.{numbers_of, IsReached}
use Rattle.nj_ask.specs.Manifest.{opened_files}
use Rattle.nj_ask.specs.MadeFrom.{TellMadeFrom}
use Rattle.nj_ask.proofs.MadeLemmas.{among-numbers, made-more, same-paths}
use Rattle.nj_ask.proofs.made_files.made_from.Goals as goal

abbrev first : FileNo
first = record { 0 = 0 }

pub files-preserved : goal.files-preserved
files-preserved c =
    let g = c.args.graph.now in let files = c.args.files.now in let i = c.files.file-index in
    let numbers = λ (edges : List EdgeNo). map (λ (e : EdgeNo). e.0) edges in
    let changed = map (λ (f : FileNo). f.0) files in
    let opened = ap numbers_of c.deref-2.ensures.value ∙ c.in_ok-opened.ensures.numbers in
    let edges = c.deref-3.result.now in
    made-more g files i first c.files.made.items c.push.new.self.items c.is_made_from.result c.files-test.true
    c.files.invariant
    (λ stated graph. c.is_made_from.ensures (opened_files g []) stated graph
    (can-tell g (opened_files g []) stated c.in_ok-manifest.manifest (numbers edges) changed
    (subst (λ ns. IsReached g ns stated (numbers edges) c.in_ok-manifest.manifest) opened
    (c.in_ok-manifest.ensures stated graph))
    (λ edge.
    (subst (λ paths. Contains (numbers edges) edge ↔ IsAffected (edges_of g) paths edge)
    (same-paths g files)
    (subst (λ es. Contains (numbers es) edge
    ↔ IsAffected (edges_of g) (map (path_at (files_of g)) files) edge) (sym c.deref-3.ensures.value)
    (rw c.deref.ensures at (c.in_ok-affected.ensures.affected edge)))).1)
    _ (c.requires i first c.files-test.true) (among-numbers files i first c.files-test.true)))
    c.in_ok-push.ensures.items

pub returns : goal.returns
returns c =
    subst (λ fs. TellMadeFrom c.args.graph.now (map (λ (f : FileNo). f.0) fs) c.files.made.items)
    (take_all c.files.file-index c.args.files.now c.files-test.false) c.files.invariant
