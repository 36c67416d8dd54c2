use Rattle.nj_questions.specs.Questions.{subject_model}
use Rattle.nj_ask.specs.declared.status.Status.TheVariants.{Fault}
use Rattle.nj_ask.specs.OptionFiles.{LacksAdditions, LacksNamedFiles, LacksNamedText, since_path}
use Rattle.nj_ask.specs.OptionFiles.LacksNamedFiles.{no_content, no_keys}
use Rattle.nj_ask.proofs.FailureLemmas.{fails-as}
use Rattle.nj_ask.proofs.option_files.read_option_files.Goals as goal

pub returns-in-Err-read_additions-clause-lacks : goal.returns-in-Err-read_additions-clause-lacks
returns-in-Err-read_additions-clause-lacks g c =
    let subject = subject_model c.args.subject.now in
    let before = g.S.FileSource.state c.args.files.now in
    let between = g.S.FileSource.state c.read_tests.new.files in
    let after = g.S.FileSource.state c.read_additions.new.files in
    fails-as Fault (LacksAdditions subject between after)
    (LacksNamedFiles subject c.args.folder.now before after) c.in-Err-read_additions.failure
    (λ line lacks. no_content between _ c.in-Ok.ensures.read lacks) c.in-Err-read_additions.ensures.lacks

pub returns-in-Err-read_since-clause-lacks : goal.returns-in-Err-read_since-clause-lacks
returns-in-Err-read_since-clause-lacks g c =
    let subject = subject_model c.args.subject.now in
    let before = g.S.FileSource.state c.args.files.now in
    let listed = g.S.FileSource.state c.read_tests.new.files in
    let between = g.S.FileSource.state c.read_additions.new.files in
    let after = g.S.FileSource.state c.read_since.new.files in
    fails-as Fault (LacksNamedText (since_path subject) between after)
    (LacksNamedFiles subject c.args.folder.now before after) c.in-Err-read_since.failure
    (λ line lacks. no_keys listed between _ _ c.in-Ok.ensures.read c.in-Ok-read_additions.ensures.read lacks)
    c.in-Err-read_since.ensures.lacks
