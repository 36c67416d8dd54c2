use Rattle.std.proofs.Common.{rules, w32, ◌≡◌, ◌∙◌}
use mir.Val.{SFits}
use Rattle.nj_c.proofs.OneAnswerLemmas.{passed}
use Rattle.nj_c.proofs.OneAnswerTargets.{targets-agree}
use Rattle.nj_c.specs.OneAnswer.{InMemory, SameAnswer}
use Rattle.nj_c.proofs.one_answer.targets.pick_target_twice.Goals as goal

pub returns : goal.returns
returns c =
    let fits : SFits w32 c.nx_pick_target.result = search rules in
    let fits2 : SFits w32 c.nx_pick_target-2.result = search rules in
    let one = c.nx_pick_target.new in
    let other = c.nx_pick_target-2.new in
    passed (λ r s. InMemory r s (SameAnswer r s (c.nx_pick_target.new.file ≡ c.nx_pick_target-2.new.file)
    × (c.nx_pick_target.new.session.kept ≡ c.nx_pick_target-2.new.session.kept))) fits fits2
    (targets-agree c.graph_is_sound.new.session.kept c.args.other.now.kept one.session.kept
    other.session.kept c.nx_pick_target.result c.nx_pick_target-2.result
    (c.graph_is_sound.ensures.kept ∙ c.requires) c.graph_is_sound.ensures.files c.args.word.now
    c.args.file.now c.args.file_other.now one.file other.file c.nx_pick_target.ensures
    c.nx_pick_target-2.ensures)
