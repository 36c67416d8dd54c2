use Rattle.std.proofs.Common.{List, ℕ, Option, false, None, Some, map, option_map}
use Rattle.std.proofs.Common.{subst, sym}
use Rattle.std.specs.Global.{Vec}
use Rattle.nj_graph.specs.declared.EdgeNo.{EdgeNo}
use Rattle.nj_questions.specs.Questions.{affected_model}
use Rattle.nj_ask.specs.declared.status.Status.TheVariants.{Fault}
use Rattle.nj_ask.specs.Answers.{manifest_edges}
use Rattle.nj_ask.specs.Manifest.{opened_files}
use Rattle.nj_ask.specs.Settled.{Settles}
use Rattle.nj_ask.specs.Inside.Failures.{FailsBy}
use Rattle.nj_ask.specs.Inside.Lent.{new_model}
use Rattle.nj_ask.specs.Since.{IsNewSince, LacksKeys}
use Rattle.nj_ask.specs.Since.IsNewSince.{none, some}
use Rattle.nj_ask.proofs.SinceLemmas.{lacks-keys}
use Rattle.nj_ask.proofs.since.new_since.Goals as goal

pub returns-in_default-clause-new : goal.returns-in_default-clause-new
returns-in_default-clause-new g c entries graph =
    let known = c.args.known.now in
    let bases = (affected_model c.args.options.now).bases in
    subst (λ (o : Option (Vec ℕ)). IsNewSince known (manifest_edges known) entries
    (g.T.FileTimes.times c.args.times.now)
    c.args.folder.now bases
    (option_map (λ text. text.items) o) (new_model (record { commands = c.new.result; is_settled = false })))
    (sym c.in_default.is)
    (subst (λ (es : List EdgeNo). IsNewSince known (manifest_edges known) entries
    (g.T.FileTimes.times c.args.times.now)
    c.args.folder.now bases None
    (record { commands = map (λ (e : EdgeNo). e.0) es; is_settled = false })) (sym c.new.ensures.items) none)

pub returns-clause-new : goal.returns-clause-new
returns-clause-new g c entries graph =
    let known = c.args.known.now in
    let times = g.T.FileTimes.times c.args.times.now in
    let folder = c.args.folder.now in
    let bases = (affected_model c.args.options.now).bases in
    let is = c.in_ok-is_settled.is_settled in
    let new = new_model (record { commands = c.in-Ok.commands; is_settled = is }) in
    let settles = subst (λ es. Settles known (opened_files known.graph folder) entries times
    (map (λ (e : EdgeNo). e.0) es) is) c.deref-2.ensures.value (c.in_ok-is_settled.ensures entries graph) in
    subst (λ (o : Option (Vec ℕ)). IsNewSince known (manifest_edges known) entries times folder bases
    (option_map (λ text. text.items) o) new) (sym c.in-Some.is)
    (subst (λ text. IsNewSince known (manifest_edges known) entries times folder bases (Some text) new)
    c.deref.ensures.value
    (some c.in-Ok.ensures.right (c.in-Ok.ensures.new entries graph) settles))

pub returns-in-Err-clause-wrong : goal.returns-in-Err-clause-wrong
returns-in-Err-clause-wrong g c =
    let path = (affected_model c.args.options.now).since in
    subst (λ (o : Option (Vec ℕ)). FailsBy Fault (LacksKeys path (option_map (λ text. text.items) o))
    c.in-Err.failure) (sym c.in-Some.is)
    (subst (λ text. FailsBy Fault (LacksKeys path (Some text)) c.in-Err.failure) c.deref.ensures.value
    (lacks-keys path c.deref.result.now c.in-Err.failure c.in-Err.ensures.wrong))
