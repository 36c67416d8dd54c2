use Rattle.std.proofs.Common.{rules, sym, w32, ◌≡◌, ◌∙◌}
use Rattle.nj_graph.specs.Graph.{IsGraphOf}
use mir.Val.{SFits}
use Rattle.nj_c.proofs.OneAnswerCalls.{at-stated}
use Rattle.nj_c.proofs.OneAnswerGraphs.{graph_in}
use Rattle.nj_c.proofs.OneAnswerLemmas.{passed}
use Rattle.nj_c.proofs.OneAnswerUndeclared.{made-agree, refused-flags}
use Rattle.nj_c.specs.MadeFrom.{GivesMadeFrom}
use Rattle.nj_c.specs.OneAnswer.{IfStated, InMemory}
use Rattle.nj_c.proofs.one_answer.targets.made_from_twice.Goals as goal

pub returns-clause-same : goal.returns-clause-same
returns-clause-same c =
    let r = c.nx_made_from.result in
    let s = c.nx_made_from-2.result in
    let fits : SFits w32 c.nx_made_from.result = search rules in
    let fits2 : SFits w32 c.nx_made_from-2.result = search rules in
    let before = c.args.flags.now in
    let before2 = c.args.flags_other.now in
    let after = c.nx_made_from.new.flags in
    let after2 = c.nx_made_from-2.new.flags in
    let kept = c.nx_made_from.ensures.buffer in
    let kept2 = c.nx_made_from-2.ensures.buffer in
    passed (λ r s. IfStated c.args.one.now.kept (InMemory r s ((r ≡ s)
    × (c.nx_made_from.new.flags ≡ c.nx_made_from-2.new.flags)))) fits fits2
    (at-stated (λ status none a b _ _. refused-flags r s before before2 after after2 c.requires.flags kept
    kept2 status none a b) graph_in IsGraphOf c.args.one.now.kept c.args.other.now.kept
    c.requires.kept (λ g. GivesMadeFrom g c.args.files.now before after r)
    (λ g. GivesMadeFrom g c.args.files.now before2 after2 s)
    (λ g entries are a b. made-agree g entries are c.args.files.now r s before before2 after after2
    c.requires.flags kept kept2 a b) c.nx_made_from.ensures.flags c.nx_made_from-2.ensures.flags)

pub returns-clause-kept : goal.returns-clause-kept
returns-clause-kept c =
    c.nx_made_from.ensures.kept ∙ c.requires.kept ∙ sym c.nx_made_from-2.ensures.kept
