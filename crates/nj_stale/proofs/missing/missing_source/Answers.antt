use Rattle.std.proofs.Common.{Bool, List, ap, length, map, subst, sym, ◌∙◌}
use Rattle.std.specs.Prelude.{option_map}
use Rattle.nj_names.specs.Files.{path_at}
use Rattle.nj_edges.specs.declared.edges.EdgeNo.{EdgeNo}
use Rattle.nj_stale.specs.Inside.MissingHeld.{AreFlags}
use Rattle.nj_stale.specs.Numbered.{evidence_of}
use Rattle.nj_stale.specs.Work.{AreWorkFlags}
use Rattle.nj_stale.proofs.MissingLemmas.{found_lost, first_missing, target_files}
use Rattle.nj_stale.proofs.missing.missing_source.Goals as goal

pub returns-in-Some : goal.returns-in-Some
returns-in-Some c = λ facts lines is_stated s has are.
    let g = c.args.graph.now in
    let targets = c.args.targets.now in
    sym (found_lost g facts c.args.times.now lines c.args.stated.now is_stated
    c.file_count-file_count.ensures.each_path_once c.requires.times are targets
    (map (path_at g.files) targets) (target_files g.files targets c.requires.targets))
    ∙ ap (option_map (path_at g.files)) (sym c.first_lost.ensures ∙ c.in-Some.is)

pub returns : goal.returns
returns c = λ facts lines is_stated s has are.
    let g = c.args.graph.now in
    let targets = c.args.targets.now in
    let paths = map (path_at g.files) targets in
    let reasons = c.args.reasons.now in
    let works = c.deref-2.result.now in
    let needed = c.deref-3.result.now in
    let numbers = map (λ (e : EdgeNo). e.0) c.in_ok-needed.needed.items in
    let are_works = subst (λ (fs : List Bool). AreWorkFlags g.edges reasons fs) (sym c.deref-2.ensures.value)
    c.in_ok-works.ensures in
    let are_needed : AreFlags (length g.edges) numbers needed =
    subst (λ n. AreFlags n numbers needed) c.edge_count.ensures.count
    (subst (λ (es : List EdgeNo). AreFlags c.edge_count.result (map (λ (e : EdgeNo). e.0) es) needed)
    c.deref.ensures.value
    (subst (λ (fs : List Bool). AreFlags c.edge_count.result
    (map (λ (e : EdgeNo). e.0) c.deref.result.now) fs) (sym c.deref-3.ensures.value)
    c.in_ok-needed-2.ensures)) in
    first_missing (evidence_of g facts c.args.times.now lines) is_stated s paths reasons works needed numbers
    are_works has are_needed c.in_ok-needed.ensures.needed g.files c.first_input.result
    (sym (found_lost g facts c.args.times.now lines c.args.stated.now is_stated
    c.file_count-file_count.ensures.each_path_once c.requires.times are targets paths
    (target_files g.files targets c.requires.targets))
    ∙ ap (option_map (path_at g.files)) (sym c.first_lost.ensures ∙ c.in_default.is))
    (c.first_input.ensures facts lines is_stated are)
