use Rattle.std.proofs.Common.{◌++◌, false, refl, sym, ap, subst, ◌∙◌, codes, length, string_bytes}
use Rattle.nj_scope.specs.Sources.{outcome_bytes}
use Rattle.nj_deps.specs.Faults.{fault_text}
use Rattle.nj_deps.specs.Logs.{IsLogFault, IsLogOf}
use Rattle.nj_ask.specs.Affected.{line}
use Rattle.nj_ask.specs.LogsRead.{ReadsBytes}
use Rattle.nj_ask.proofs.LogLemmas.{reads-none, reads-over, reads-whole}
use Rattle.nj_ask.proofs.deps_log.own_log.Goals as goal

pub returns-in-Ok-None-clause-read : goal.returns-in-Ok-None-clause-read
returns-in-Ok-None-clause-read g c =
    let made = c.in_ok-without_records-in-Ok-None.ensures in
    reads-none false (string_bytes c.args.path) (g.S.FileSource.state c.args.built.now)
    (g.S.FileSource.state c.bytes_at.new.built) (outcome_bytes c.in-Ok-None.field-0)
    (subst (λ at. ReadsBytes (g.S.FileSource.state c.args.built.now)
    (g.S.FileSource.state c.bytes_at.new.built) at
    (outcome_bytes c.in-Ok-None.field-0)) c.deref.ensures c.in-Ok-None.ensures.read)
    c.in_ok-without_records-in-Ok-None.field-0
    refl (ap outcome_bytes c.in-Ok-None.field-0-is) (ap string_bytes made.path) made.log
    (ap (λ v. v.items) made.caveat ∙ c.new.ensures.items)

pub returns-in-Ok-clause-read : goal.returns-in-Ok-clause-read
returns-in-Ok-clause-read g c =
    let made = c.in_ok-whole_or_cut-in-Ok.ensures in
    reads-whole false (string_bytes c.args.path) (g.S.FileSource.state c.args.built.now)
    (g.S.FileSource.state c.bytes_at.new.built) (outcome_bytes c.in-Ok-Some.field-0)
    (subst (λ at. ReadsBytes (g.S.FileSource.state c.args.built.now)
    (g.S.FileSource.state c.bytes_at.new.built) at
    (outcome_bytes c.in-Ok-Some.field-0)) c.deref.ensures c.in-Ok-Some.ensures.read)
    c.in-Ok-Some.bytes.items c.in_ok-whole_or_cut-in-Ok.field-0 c.in-Ok.log c.len.result
    (ap outcome_bytes c.in-Ok-Some.field-0-is) (ap string_bytes made.path) made.log made.caveat
    (c.len.ensures ∙ sym c.deref-2.ensures.len ∙ ap length c.deref-2.ensures.value)
    (subst (λ b. IsLogOf b c.in-Ok.log) c.deref-2.ensures.value c.in-Ok.ensures.log)

pub returns-clause-read : goal.returns-clause-read
returns-clause-read g c =
    let path = string_bytes c.args.path in
    let fault = c.in-Err-read_with_keys.fault in
    let made = c.in_ok-without_records-in-Err-read_with_keys.ensures in
    let said = c.in_ok-caveat-in-Err-read_with_keys.ensures in
    reads-over false path (g.S.FileSource.state c.args.built.now)
    (g.S.FileSource.state c.bytes_at.new.built) (outcome_bytes c.in-Ok-Some.field-0)
    (subst (λ at. ReadsBytes (g.S.FileSource.state c.args.built.now)
    (g.S.FileSource.state c.bytes_at.new.built) at
    (outcome_bytes c.in-Ok-Some.field-0)) c.deref.ensures c.in-Ok-Some.ensures.read)
    c.in-Ok-Some.bytes.items fault c.in_ok-without_records-in-Err-read_with_keys.field-0
    refl (ap outcome_bytes c.in-Ok-Some.field-0-is) (ap string_bytes made.path) made.log
    (ap (λ v. v.items) made.caveat ∙ said.line
    ∙ ap (λ at. line (at ++ codes ": " ++ fault_text fault)) c.deref-in-Err-read_with_keys.ensures)
    (subst (λ b. IsLogFault b fault) c.deref-2.ensures.value c.in-Err-read_with_keys.ensures.fault)
    said.reason
