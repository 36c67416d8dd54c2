use Rattle.std.proofs.Common.{rules, sym, w32, not, nat_eq, length, bytes_eq, ◌∙◌}
use Rattle.std.specs.List.{IsDistinct}
use Rattle.nj_graph.specs.Graph.{files_of}
use mir.Val.{SFits}
use Rattle.nj_c.proofs.OneAnswerCalls.{at-known}
use Rattle.nj_c.proofs.OneAnswerGraphs.{graph_in}
use Rattle.nj_c.proofs.OneAnswerLemmas.{at-number, passed, refused-buffer, Refuses}
use Rattle.nj_c.proofs.OneAnswerPaths.{paths-agree}
use Rattle.nj_c.specs.Asking.{IfNumber}
use Rattle.nj_c.specs.OneAnswer.{InMemory, SameBuffer}
use Rattle.nj_c.specs.Paths.{GivesPath}
use Rattle.nj_c.proofs.one_answer.paths.path_between_twice.Goals as goal

pub returns-clause-same : goal.returns-clause-same
returns-clause-same c =
    let r = c.nx_path_between.result in
    let s = c.nx_path_between-2.result in
    let fits : SFits w32 c.nx_path_between.result = search rules in
    let fits2 : SFits w32 c.nx_path_between-2.result = search rules in
    let before = c.args.steps.now in
    let before2 = c.args.steps_other.now in
    let after = c.nx_path_between.new.steps in
    let after2 = c.nx_path_between-2.new.steps in
    let count = c.nx_path_between.new.count in
    let count2 = c.nx_path_between-2.new.count in
    let kept = c.nx_path_between.ensures.buffer in
    let kept2 = c.nx_path_between-2.ensures.buffer in
    let validations = not (nat_eq c.args.with_validations 0) in
    let refuse : Refuses r s (InMemory r s (SameBuffer r s after after2 count count2)) =
    λ status none a b memory memory2. refused-buffer r s before before2 after after2 count count2
    c.requires.steps kept kept2 status none a b in
    passed (λ r s. InMemory r s (SameBuffer r s c.nx_path_between.new.steps c.nx_path_between-2.new.steps
    c.nx_path_between.new.count c.nx_path_between-2.new.count)) fits fits2
    (at-known refuse graph_in c.graph_is_sound.new.session.kept c.args.other.now.kept
    (c.graph_is_sound.ensures.kept ∙ c.requires.kept) (λ g. IsDistinct bytes_eq (files_of g))
    (λ g. IfNumber c.args.from (length (files_of g)) r (IfNumber c.args.to (length (files_of g)) r
    (GivesPath g.built.graph validations c.args.from c.args.to before after count r)))
    (λ g. IfNumber c.args.from (length (files_of g)) s (IfNumber c.args.to (length (files_of g)) s
    (GivesPath g.built.graph validations c.args.from c.args.to before2 after2 count2 s)))
    (λ g distinct a b. at-number refuse c.args.from (length (files_of g))
    (IfNumber c.args.to (length (files_of g)) r
    (GivesPath g.built.graph validations c.args.from c.args.to before after count r))
    (IfNumber c.args.to (length (files_of g)) s
    (GivesPath g.built.graph validations c.args.from c.args.to before2 after2 count2 s))
    (λ _ v w. at-number refuse c.args.to (length (files_of g))
    (GivesPath g.built.graph validations c.args.from c.args.to before after count r)
    (GivesPath g.built.graph validations c.args.from c.args.to before2 after2 count2 s)
    (λ _ p q. paths-agree r s before before2 after after2 count count2 c.requires.steps kept kept2
    c.path_law.ensures g.built.graph distinct validations c.args.from c.args.to p q) v w) a b)
    c.graph_is_sound.ensures.files c.nx_path_between.ensures.path c.nx_path_between-2.ensures.path)

pub returns-clause-kept : goal.returns-clause-kept
returns-clause-kept c =
    c.nx_path_between.ensures.kept ∙ c.graph_is_sound.ensures.kept ∙ c.requires.kept
    ∙ sym c.nx_path_between-2.ensures.kept
