use Rattle.std.proofs.Common.{rules, subst, sym, w32, bytes_eq, ◌∙◌}
use Rattle.std.specs.List.{IsDistinct}
use Rattle.nj_graph.specs.Graph.{IsGraphOf, files_of}
use mir.Val.{SFits}
use Rattle.nj_c.proofs.OneAnswerCalls.{at-known-stated}
use Rattle.nj_c.proofs.OneAnswerGraphs.{graph_in}
use Rattle.nj_c.proofs.OneAnswerLemmas.{passed, refused-buffer}
use Rattle.nj_c.proofs.OneAnswerUndeclared.{undeclared-agree}
use Rattle.nj_c.specs.OneAnswer.{IfStated, InMemory, SameBuffer}
use Rattle.nj_c.specs.UndeclaredInputs.{GivesUndeclared}
use Rattle.nj_c.proofs.one_answer.logs.undeclared_twice.Goals as goal

pub returns-clause-same : goal.returns-clause-same
returns-clause-same c =
    let r = c.nx_undeclared.result in
    let s = c.nx_undeclared-2.result in
    let fits : SFits w32 c.nx_undeclared.result = search rules in
    let fits2 : SFits w32 c.nx_undeclared-2.result = search rules in
    let known = c.graph_is_sound.ensures in
    let after = c.nx_undeclared.new.inputs in
    let after2 = c.nx_undeclared-2.new.inputs in
    let count = c.nx_undeclared.new.count in
    let count2 = c.nx_undeclared-2.new.count in
    passed (λ r s. IfStated c.args.one.now.kept (InMemory r s (SameBuffer r s c.nx_undeclared.new.inputs
    c.nx_undeclared-2.new.inputs c.nx_undeclared.new.count c.nx_undeclared-2.new.count))) fits fits2
    (subst (λ k. IfStated k (InMemory r s (SameBuffer r s after after2 count count2))) known.kept
    (at-known-stated
    (λ status none a b _ _. refused-buffer r s c.args.inputs.now c.args.inputs_other.now after after2 count
    count2
    c.requires.inputs c.nx_undeclared.ensures.buffer c.nx_undeclared-2.ensures.buffer status none a b)
    graph_in IsGraphOf c.graph_is_sound.new.session.kept c.args.other.now.kept
    (known.kept ∙ c.requires.kept) (λ g. IsDistinct bytes_eq (files_of g))
    (λ g. GivesUndeclared g c.args.log.now c.args.inputs.now after count r)
    (λ g. GivesUndeclared g c.args.log.now c.args.inputs_other.now after2 count2 s)
    (λ g entries are distinct a b. undeclared-agree g entries are distinct c.args.log.now r s
    c.args.inputs.now c.args.inputs_other.now after after2 count count2 c.requires.inputs
    c.nx_undeclared.ensures.buffer c.nx_undeclared-2.ensures.buffer a b) known.files
    c.nx_undeclared.ensures.inputs c.nx_undeclared-2.ensures.inputs))

pub returns-clause-kept : goal.returns-clause-kept
returns-clause-kept c =
    c.nx_undeclared.ensures.kept ∙ c.graph_is_sound.ensures.kept ∙ c.requires.kept
    ∙ sym c.nx_undeclared-2.ensures.kept
