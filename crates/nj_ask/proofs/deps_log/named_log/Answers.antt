use Rattle.std.proofs.Common.{◌≡◌, ◌≢◌, ◌++◌, true, refl, sym, ap, subst, ◌∙◌, codes, length, string_bytes}
use Rattle.nj_scope.specs.Sources.{outcome_bytes}
use Rattle.nj_deps.specs.Faults.{fault_text}
use Rattle.nj_deps.specs.Logs.{IsLogFault, IsLogOf}
use Rattle.nj_deps.specs.declared.log_fault.DepsLogFault.TheVariants.{OutOfMemory}
use Rattle.nj_ask.specs.declared.status.Status.TheVariants.{Fault}
use Rattle.nj_ask.specs.Endings.{program_line}
use Rattle.nj_ask.specs.LogsRead.{cut_line}
use Rattle.nj_ask.specs.Inside.LogSteps.{LacksAt}
use Rattle.nj_ask.proofs.FailureLemmas.{fails-as}
use Rattle.nj_ask.proofs.LogLemmas.{lacks-file, lacks-records, reads-whole}
use Rattle.nj_ask.proofs.deps_log.named_log.Goals as goal

pub returns-in-Ok-None-clause-lacks : goal.returns-in-Ok-None-clause-lacks
returns-in-Ok-None-clause-lacks g c =
    let path = c.args.path.now in
    let before = g.S.FileSource.state c.args.built.now in
    let after = g.S.FileSource.state c.bytes_at.new.built in
    fails-as Fault (λ line. line ≡ program_line (path ++ codes ": there is no such file"))
    (LacksAt true path before after)
    c.of_path.result
    (λ line is. lacks-file true path before after (outcome_bytes c.in-Ok-None.field-0)
    c.in-Ok-None.ensures.read line refl
    (ap outcome_bytes c.in-Ok-None.field-0-is) is)
    c.of_path.ensures

pub returns-in-Ok-clause-read : goal.returns-in-Ok-clause-read
returns-in-Ok-clause-read g c =
    let path = c.args.path.now in
    let bytes = c.in-Ok-Some.bytes.items in
    let made = c.in_ok-whole_or_cut-in-Ok.ensures in
    reads-whole true path (g.S.FileSource.state c.args.built.now) (g.S.FileSource.state c.bytes_at.new.built)
    (outcome_bytes c.in-Ok-Some.field-0) c.in-Ok-Some.ensures.read bytes c.in_ok-whole_or_cut-in-Ok.field-0
    c.in-Ok.log
    c.len.result
    (ap outcome_bytes c.in-Ok-Some.field-0-is) (ap string_bytes made.path ∙ c.in_ok-from_str-in-Ok.ensures.ok)
    made.log
    (made.caveat ∙ ap (λ at. cut_line at c.in-Ok.log.is_whole c.in-Ok.log.size c.len.result)
    c.in_ok-from_str-in-Ok.ensures.ok)
    (c.len.ensures ∙ sym c.deref.ensures.len ∙ ap length c.deref.ensures.value)
    (subst (λ b. IsLogOf b c.in-Ok.log) c.deref.ensures.value c.in-Ok.ensures.log)

pub returns-clause-lacks : goal.returns-clause-lacks
returns-clause-lacks g c =
    let path = c.args.path.now in
    let before = g.S.FileSource.state c.args.built.now in
    let after = g.S.FileSource.state c.bytes_at.new.built in
    let fault = c.in-Err-read_with_keys.fault in
    let bytes = c.in-Ok-Some.bytes.items in
    fails-as Fault
    (λ line. (line ≡ program_line (path ++ codes ": " ++ fault_text fault)) × (fault ≢ OutOfMemory))
    (LacksAt true path before after) c.of_log.result
    (λ line is. lacks-records true path before after (outcome_bytes c.in-Ok-Some.field-0)
    c.in-Ok-Some.ensures.read bytes
    fault line refl (ap outcome_bytes c.in-Ok-Some.field-0-is) is.0
    (subst (λ b. IsLogFault b fault) c.deref.ensures.value c.in-Err-read_with_keys.ensures.fault) is.1)
    c.of_log.ensures
