use Rattle.std.proofs.Common.{◌≡◌, Some, None, true, false, true≢false, refl, sym, ap, subst, ◌∙◌, codes}
use Rattle.std.proofs.Common.{string_bytes, option_copied, is_some}
use Rattle.std.specs.Str.{IsUtf8}
use Rattle.std.proofs.lemmas.Str.{IsUtf8-string_bytes}
use Rattle.nj_ask.specs.declared.status.Status.TheVariants.{Fault}
use Rattle.nj_ask.specs.Endings.{program_line}
use Rattle.nj_ask.specs.LogsRead.{LacksLog, ReadsLog, log_path}
use Rattle.nj_ask.specs.LogsRead.LacksLog.{no_path}
use Rattle.nj_ask.specs.Inside.Failures.{FailsBy}
use Rattle.nj_ask.specs.Inside.LogSteps.{LacksAt, ReadsAt}
use Rattle.nj_ask.proofs.FailureLemmas.{err-as, fails-as, ok-as}
use Rattle.nj_ask.proofs.LogLemmas.{fails-log, reads-log}
use Rattle.nj_ask.proofs.deps_log.read_log.Goals as goal

pub returns-in-Some-clause-lacks : goal.returns-in-Some-clause-lacks
returns-in-Some-clause-lacks g c = λ entries is.
    let named = option_copied c.args.named in
    let before = g.S.FileSource.state c.args.built.now in
    let after = g.S.FileSource.state c.named_log.new.built in
    let path = c.in-Some.path.now in
    let named_is : Some path ≡ named = sym (ap option_copied c.in-Some.is) in
    err-as (FailsBy Fault (LacksAt true path before after))
    (FailsBy Fault (LacksLog named entries before after))
    c.named_log.result
    (λ failure. fails-log named entries before after failure true path (ap is_some named_is)
    (ap (λ n. log_path n entries) named_is))
    c.named_log.ensures.lacks

pub returns-in-Ok-clause-read : goal.returns-in-Ok-clause-read
returns-in-Ok-clause-read g c = λ entries is.
    let named = option_copied c.args.named in
    let before = g.S.FileSource.state c.args.built.now in
    let after = g.S.FileSource.state c.own_log.new.built in
    let path = string_bytes c.in-Ok.path in
    let named_is : None ≡ named = sym (ap option_copied c.in_default.is) in
    ok-as (ReadsAt false path before after)
    (λ read. ReadsLog named entries before after read.log read.caveat.items)
    c.own_log.result
    (λ read. reads-log named entries before after read false path (ap is_some named_is)
    (ap (λ v. v.items) c.in-Ok.ensures.ok ∙ c.in_ok-own_path.ensures entries is
    ∙ ap (λ n. log_path n entries) named_is)
    (IsUtf8-string_bytes c.in-Ok.path))
    c.own_log.ensures.read

pub returns-in-Ok-clause-lacks : goal.returns-in-Ok-clause-lacks
returns-in-Ok-clause-lacks g c = λ entries is.
    let named = option_copied c.args.named in
    let before = g.S.FileSource.state c.args.built.now in
    let after = g.S.FileSource.state c.own_log.new.built in
    let path = string_bytes c.in-Ok.path in
    let named_is : None ≡ named = sym (ap option_copied c.in_default.is) in
    err-as (FailsBy Fault (LacksAt false path before after))
    (FailsBy Fault (LacksLog named entries before after))
    c.own_log.result
    (λ failure. fails-log named entries before after failure false path (ap is_some named_is)
    (ap (λ v. v.items) c.in-Ok.ensures.ok ∙ c.in_ok-own_path.ensures entries is
    ∙ ap (λ n. log_path n entries) named_is))
    c.own_log.ensures.lacks

pub returns-clause-lacks : goal.returns-clause-lacks
returns-clause-lacks g c = λ entries is.
    let named = option_copied c.args.named in
    let state = g.S.FileSource.state c.args.built.now in
    let named_is : None ≡ named = sym (ap option_copied c.in_default.is) in
    let path_is = c.in_ok-own_path.ensures entries is ∙ ap (λ n. log_path n entries) named_is in
    fails-as Fault (λ line. line ≡ program_line (codes "the path of the deps log is not UTF-8"))
    (LacksLog named entries state state) c.not_text.result
    (λ line said. subst (λ l. LacksLog named entries state state l) (sym said)
    (no_path (λ good. true≢false (sym (c.in-Err.ensures.succeeds (subst IsUtf8 (sym path_is) good)))) refl))
    c.not_text.ensures
