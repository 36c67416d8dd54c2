use Rattle.std.proofs.Common.{ℕ, List, take, get_or, map, sym, ap, ◌∙◌}
use Rattle.std.proofs.lemmas.List.{map_more, map_push, take_all}
use Rattle.nj_names.specs.NameTables.{with_name}
use Rattle.nj_graph.specs.Edges.{is_among}
use Rattle.nj_graph.specs.declared.FileNo.{FileNo}
use Rattle.nj_ask.specs.Inside.Reached.{numbers_of}
use Rattle.nj_ask.specs.SameFiles.{full_path_of}
use Rattle.nj_ask.proofs.OpenedLemmas.{among-more}
use Rattle.nj_ask.proofs.changes.full_paths.Goals as goal

abbrev first : FileNo
first = record { 0 = 0 }

pub files-preserved : goal.files-preserved
files-preserved c path =
    let g = c.args.graph.now in
    let files = c.args.files.now in
    let i = c.files.file-index in
    let full = λ (n : ℕ). full_path_of g c.args.working.now n in
    let next = (get_or files i first).0 in
    let before = numbers_of (take i files) in
    ap (λ names. is_among names path)
    (c.in_ok-add.ensures.added
    ∙ ap (with_name c.files.names) (c.deref.ensures.value ∙ c.in_ok-full.ensures))
    ∙ among-more c.files.names (map full before) (full next) path c.files.invariant
    ∙ ap (λ names. is_among names path)
    (sym (ap (map full) (map_more (λ (f : FileNo). f.0) files i first c.files-test.true)
    ∙ map_push full before next))

pub returns : goal.returns
returns c path =
    c.files.invariant path
    ∙ ap (λ (files : List FileNo). is_among
    (map (λ (n : ℕ). full_path_of c.args.graph.now c.args.working.now n) (numbers_of files)) path)
    (take_all c.files.file-index c.args.files.now c.files-test.false)
