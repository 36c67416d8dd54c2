use Rattle.std.proofs.Common.{true, map, take, get_or, set, subst}
use Rattle.std.proofs.lemmas.List.{take_all}
use Rattle.nj_graph.specs.declared.FileNo.{FileNo}
use Rattle.nj_ask.specs.Inside.Flags.{AreFlags}
use Rattle.nj_ask.proofs.FlagLemmas.{flags-more}
use Rattle.nj_ask.proofs.LineLemmas.{mapped-more}
use Rattle.nj_ask.proofs.manifest.file_flags.Goals as goal

pub files-preserved : goal.files-preserved
files-preserved c =
    let files = c.args.files.now in
    let i = c.files.file-index in
    let none : FileNo = record { 0 = 0 } in
    let file = get_or files i none in
    subst (λ numbers. AreFlags c.args.count numbers (set c.files.flags.items file.0 true))
    (mapped-more (λ f. f.0) files i none c.files-test.true)
    (flags-more c.args.count (map (λ f. f.0) (take i files)) c.files.flags.items file.0
    (c.requires i none c.files-test.true) c.files.invariant)

pub returns : goal.returns
returns c =
    subst (λ files. AreFlags c.args.count (map (λ f. f.0) files) c.files.flags.items)
    (take_all c.files.file-index c.args.files.now c.files-test.false) c.files.invariant
