use Rattle.std.proofs.Common.{◌+◌, get_or, slice_get, drop, refl, ap, subst, ◌∙◌}
use Rattle.std.proofs.lemmas.Option.{slice_get_within}
use Rattle.nj_manifest.proofs.Handed.{handed}
use Rattle.nj_graph.specs.Inside.JoiningContracts.{chosen_files}
use Rattle.nj_graph.proofs.ChoosingLemmas.{next-chosen, none-chosen}
use Rattle.nj_graph.proofs.JoiningRuns.{FilesUnderway, files-at-first, files-turn, files-stop, files-end}
use Rattle.nj_graph.proofs.dyndep_files.join_files.Goals as goal

pub files-init : goal.files-init
files-init g c = (
  refl,
  c.requires.once,
  λ stated has.
      let reported = g.S.FileSource.state c.args.source.now in
      let chosen = chosen_files c.args.joining.now.dyndep_files c.args.chosen.now in
      files-at-first chosen stated reported c.args.files.now c.args.joining.now c.requires.once has,
)

pub join_file-requires-clause-there : goal.join_file-requires-clause-there
join_file-requires-clause-there g c =
    let files = c.args.joining.now.dyndep_files in
    let index = get_or c.args.chosen.now c.files.index-index 0 in
    let next = next-chosen files c.args.chosen.now c.files.index-index 0 c.files-test.true c.requires.there in
    slice_get_within c.files.joining.dyndep_files index next.0
    (ap (λ fs. slice_get fs index) c.files.invariant.0 ∙ next.1)

pub join_file-requires-clause-once : goal.join_file-requires-clause-once
join_file-requires-clause-once g c = c.files.invariant.1

pub returns-in_err-join_file : goal.returns-in_err-join_file
returns-in_err-join_file g c = record {
  joins = λ stated has.
      let before = g.S.FileSource.state c.args.source.now in
      let mid = g.S.FileSource.state c.files.source in
      let after = g.S.FileSource.state c.join_file.new.source in
      let fault = c.in_err-join_file.field-0.0 in
      let files = c.args.joining.now.dyndep_files in
      let indices = c.args.chosen.now in
      let i = c.files.index-index in
      let index = get_or indices i 0 in
      let next = next-chosen files indices i 0 c.files-test.true c.requires.there in
      let u = subst (FilesUnderway (chosen_files files indices) stated before mid c.args.files.now
      c.files.files c.files.joining) next.2
      (c.files.invariant.2 stated has) in
      let at = ap (λ fs. slice_get fs index) c.files.invariant.0 ∙ next.1 in
      rw (handed fault c.from_residual.result c.from_residual.ensures)
      (files-stop (chosen_files files indices) stated before c.args.files.now mid c.files.files
      c.files.joining next.0
      (chosen_files files (drop (i + 1) indices)) u after fault
      (c.in_err-join_file.ensures.joins stated u.now next.0 u.has at));
}

pub files-preserved : goal.files-preserved
files-preserved g c = (
  c.in_ok-join_file.ensures.dyndeps ∙ c.files.invariant.0,
  c.in_ok-join_file.ensures.once,
  λ stated has.
      let before = g.S.FileSource.state c.args.source.now in
      let mid = g.S.FileSource.state c.files.source in
      let after = g.S.FileSource.state c.join_file.new.source in
      let files = c.args.joining.now.dyndep_files in
      let indices = c.args.chosen.now in
      let i = c.files.index-index in
      let index = get_or indices i 0 in
      let next = next-chosen files indices i 0 c.files-test.true c.requires.there in
      let u = subst (FilesUnderway (chosen_files files indices) stated before mid c.args.files.now
      c.files.files c.files.joining) next.2
      (c.files.invariant.2 stated has) in
      let at = ap (λ fs. slice_get fs index) c.files.invariant.0 ∙ next.1 in
      files-turn (chosen_files files indices) stated before c.args.files.now mid c.files.files c.files.joining
      next.0
      (chosen_files files (drop (i + 1) indices)) u after c.join_file.new.files c.join_file.new.joining
      (c.in_ok-join_file.ensures.joins stated u.now next.0 u.has at),
)

pub returns : goal.returns
returns g c = record {
  joins = λ stated has.
      let before = g.S.FileSource.state c.args.source.now in
      let mid = g.S.FileSource.state c.files.source in
      let files = c.args.joining.now.dyndep_files in
      let indices = c.args.chosen.now in
      let none = none-chosen files indices c.files.index-index c.files-test.false in
      files-end (chosen_files files indices) stated before c.args.files.now mid c.files.files c.files.joining
      (subst (FilesUnderway (chosen_files files indices) stated before mid c.args.files.now c.files.files
      c.files.joining) none
      (c.files.invariant.2 stated has));
}
