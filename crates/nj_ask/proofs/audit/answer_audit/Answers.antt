use Rattle.std.proofs.Common.{ap, not, subst, ◌∙◌}
use Rattle.nj_text.specs.Calls.{is_empty}
use Rattle.nj_audit.specs.Audits.{IsAudit}
use Rattle.nj_audit.specs.Findings.{finding_model}
use Rattle.nj_audit.specs.LoggedInputs.{inputs_in}
use Rattle.nj_audit.specs.declared.kinds.Kind.TheVariants.{MissingSource}
use Rattle.nj_ask.specs.Audits.{LookUpIf}
use Rattle.nj_ask.specs.Endings.{answered}
use Rattle.nj_ask.proofs.AuditLemmas.{same-empty}
use Rattle.nj_ask.proofs.audit.answer_audit.Goals as goal

pub returns : goal.returns
returns g c entries is =
    let known = c.args.known.now in
    let sources = c.in_ok-sources.sources in
    let found = c.in_ok-found.found in
    let warns = c.in_ok-warnings.ensures entries is in
    let warned = rw c.deref-3.ensures.value at warns in
    let looks = ap not (c.is_empty.ensures
    ∙ same-empty finding_model c.as_slice.result.now found c.as_slice.ensures) in
    record {
      kinds = c.args.kinds;
      asked = c.requires;
      missing = sources.missing.items;
      unknown = sources.unknown.items;
      look_up = subst (λ asked. LookUpIf asked known.graph (g.T.FileTimes.times c.args.times.now)
          sources.missing.items sources.unknown.items) (c.requires MissingSource) c.in_ok-sources.ensures;
      found = found;
      finds = subst (λ missing. IsAudit known.graph entries missing c.args.folder.now
          (inputs_in known.graph known.undeclared.items) c.args.kinds found) c.deref.ensures.value
          (subst (λ inputs. IsAudit known.graph entries c.deref.result.now c.args.folder.now
          (inputs_in known.graph inputs) c.args.kinds found) c.deref-2.ensures.value
          (c.in_ok-found.ensures entries is));
      lookups = warned.0;
      would_be_missing = warned.1;
      output_is = c.in_ok-output.ensures;
      ending_is = ap (λ looks. answered looks c.in_ok-warnings.warnings.items) looks
          ∙ ap (answered (not (is_empty found))) warned.2;
    }
