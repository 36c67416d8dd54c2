use Rattle.std.proofs.Common.{Err, refl, subst, sym, ◌∙◌}
use Rattle.nj_ask.specs.Asks.Asks.{lists}
use Rattle.nj_ask.specs.Inside.GraphSteps.{HasStatements}
use Rattle.nj_ask.specs.Inside.Asking.{named_files}
use Rattle.nj_ask.specs.Asks.{ReadsFiles}
use Rattle.nj_ask.specs.KnownGraphs.{sources_of}
use Rattle.nj_questions.specs.Questions.{question_model}
use Rattle.nj_ask.proofs.AskingLemmas.{asks-misused, asks-told, listed-kinds, none-listed}
use Rattle.nj_ask.proofs.AskingLemmas.{task-taken, task-unlisted, tells-answer, tells-lacking}
use Rattle.nj_ask.proofs.asking.ask.Goals as goal

pub returns-then-reads_nothing : goal.returns-then-reads_nothing
returns-then-reads_nothing g c =
    let there = listed-kinds _ (sym c.reads_nothing.ensures ∙ c.if-reads_nothing.true) in
    rw c.without_graph.ensures (lists there refl c.write_kinds.ensures)

pub task_of-requires : goal.task_of-requires
task_of-requires g c = none-listed _ (sym c.reads_nothing.ensures ∙ c.if-reads_nothing.false)

pub returns-in-Err : goal.returns-in-Err
returns-in-Err g c =
    rw c.without_graph-in-Err.ensures
    (asks-misused _ _ _ _ _ _ c.in-Err.failure _ c.in-Err.ensures.refused refl refl c.conclude.ensures)

pub answer_by-told-requires-clause-given : goal.answer_by-told-requires-clause-given
answer_by-told-requires-clause-given g c = (_, c.in-Ok.ensures.taken)

pub read_files-requires : goal.read_files-requires
read_files-requires g c = c.seeks_undeclared-seeks.ensures _ c.in-Ok.ensures.taken

pub returns-in-Ok-read_files : goal.returns-in-Ok-read_files
returns-in-Ok-read_files g c =
    let same = sym c.deref.ensures in
    let task = c.in-Ok.task in
    let asks = c.in-Ok.ensures.taken in
    let question = question_model c.args.question.now in
    let times = g.T.FileTimes.times c.args.times.now in
    let old = sources_of (g.S.FileSource.state c.args.files.now) (g.B.FileSource.state c.args.built.now) in
    let new = sources_of (g.S.FileSource.state c.read_files.new.files)
    (g.B.FileSource.state c.read_files.new.built) in
    let named = named_files c.in-Ok-read_files.field-0.named in
    let reads = subst (λ known. ReadsFiles question times c.args.folder.now old new known named) same
    c.in-Ok-read_files.ensures.read in
    let stated = subst (λ known. HasStatements known.graph) same c.in-Ok-read_files.ensures.stated in
    asks-told _ _ _ _ _ _ c.answer_by-told.result _ (task-taken _ task asks) (task-unlisted _ task asks)
    (tells-answer _ _ _ _ _ _ _ _ _ c.deref.result.now stated.0
    named c.answer_by-told.result reads stated.1
    (c.answer_by-told.ensures stated.0 stated.1 _ asks))
    c.conclude-in-Ok-read_files.ensures

pub returns-in-Err-read_files : goal.returns-in-Err-read_files
returns-in-Err-read_files g c =
    let task = c.in-Ok.task in
    let asks = c.in-Ok.ensures.taken in
    let failure = c.in-Err-read_files.failure in
    rw c.without_graph-in-Err-read_files.ensures
    (asks-told _ _ _ _ _ _ (Err failure) _ (task-taken _ task asks) (task-unlisted _ task asks)
    (tells-lacking _ _ _ _ _ _ _ failure c.in-Err-read_files.ensures.lacks)
    c.conclude-in-Err-read_files.ensures)
