use Rattle.std.proofs.Common.{◌<◌, ◌+◌, ◌++◌, true, [], length, take, set, option_map, ap, sym, subst, ◌∙◌}
use Rattle.std.specs.Prelude.{IfSome}
use Rattle.std.specs.List.{cons_option, filter_map}
use Rattle.std.proofs.lemmas.List.{append-nil, take_all}
use Rattle.nj_graph.specs.declared.FileNo.{FileNo}
use Rattle.nj_graph.specs.Edges.{maker_of}
use Rattle.nj_graph.specs.Files.{path_at}
use Rattle.nj_graph.specs.Graph.{edges_of, files_of}
use Rattle.nj_ask.specs.Inside.Flags.{AreFlags}
use Rattle.nj_ask.proofs.FlagLemmas.{flags-more}
use Rattle.nj_ask.proofs.LineLemmas.{filter-more}
use Rattle.nj_ask.proofs.manifest.maker_flags.Goals as goal
use Rattle.nj_ask.proofs.manifest.maker_flags.Goals.{in-Some, in-None}

pub files-preserved : goal.files-preserved
files-preserved c =
    let g = c.args.graph.now in
    let count = length (edges_of g) in
    let files = c.args.files.now in
    let i = c.files.file-index in
    let none : FileNo = record { 0 = 0 } in
    let h = λ (file : FileNo). maker_of (edges_of g) (path_at (files_of g) file) in
    let made = rw c.deref-in-files.ensures at c.maker.ensures.maker in
    let more = filter-more h files i none c.files-test.true in
    elim c.match-maker.branch [
      | in-Some w ↦
          let is = sym made ∙ ap (option_map (λ e. e.0)) w.in-Some.is in
          let known : w.in-Some.edge.0 < count =
          rw c.deref-in-files.ensures at (subst
          (λ o. IfSome o (λ e. e.0 < length c.deref-in-files.result.now.edges)) w.in-Some.is
          c.maker.ensures.known) in
          subst (λ v. AreFlags count (filter_map h (take (i + 1) files)) v.items) (sym w.flags-is)
          (subst (λ numbers. AreFlags count numbers (set c.files.flags.items w.in-Some.edge.0 true))
          (sym (more ∙ ap (λ o. filter_map h (take i files) ++ cons_option o []) is))
          (flags-more count (filter_map h (take i files)) c.files.flags.items w.in-Some.edge.0 known
          c.files.invariant))
      | in-None w ↦
          let is = sym made ∙ ap (option_map (λ e. e.0)) w.in-None.is in
          subst (λ v. AreFlags count (filter_map h (take (i + 1) files)) v.items) (sym w.flags-is)
          (subst (λ numbers. AreFlags count numbers c.files.flags.items)
          (sym (more ∙ ap (λ o. filter_map h (take i files) ++ cons_option o []) is
          ∙ append-nil (filter_map h (take i files)))) c.files.invariant)
    ]

pub returns : goal.returns
returns c =
    let g = c.args.graph.now in
    subst (λ files. AreFlags (length (edges_of g))
    (filter_map (λ (file : FileNo). maker_of (edges_of g) (path_at (files_of g) file)) files)
    c.files.flags.items)
    (take_all c.files.file-index c.args.files.now c.files-test.false) c.files.invariant
