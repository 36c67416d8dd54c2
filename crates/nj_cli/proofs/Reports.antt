-- The report where the arguments are not a valid request.
use Rattle.std.proofs.Common.{◌≡◌, ◌≢◌, ◌⊎◌, inl, inr, ℕ, None, Result, Err, List, refl, sym, subst}
use Rattle.nj_args.specs.FaultLines as lines
use Rattle.nj_args.specs.declared.usage_fault.UsageFault.{UsageFault}
use Rattle.nj_args.specs.declared.usage_fault.UsageFault.TheVariants as usage
use Rattle.nj_tools.specs.Lines.{line}
use Rattle.nj_tools.specs.Sinks.{SinkState}
use Rattle.nj_cli.specs.Reported.{Reported}
use Rattle.nj_cli.specs.Inside.RunSteps.{ReportsMisuse}
use Rattle.nj_requests.specs.Actions.{RequestModel}
use Rattle.nj_args.specs.Requests.{request_of}
use Rattle.nj_cli.specs.Runs.{Around, out_of_memory, RunsAndKeepsWith, RunsAndKeeps}
use Rattle.nj_cli.specs.declared.status.Status.{Status}
use Rattle.nj_cli.specs.declared.status.Status.TheVariants.{Fault, Usage}

-- a fault other than out of memory has a line of its own
pub ReportsMisuse-other : (old new : SinkState) (fault : UsageFault) (status : Status)
    → fault ≢ usage.OutOfMemory
    → (Reported old new (line (lines.fault_line fault)) × (status ≡ Usage))
    ⊎ (Reported old new (line out_of_memory) × (status ≡ Fault))
    → ReportsMisuse old new fault status
ReportsMisuse-other old new usage.OutOfMemory status other known = absurd (other refl)
ReportsMisuse-other old new usage.Unparsed status other known = known
ReportsMisuse-other old new (usage.UnknownTool tool) status other known = known
ReportsMisuse-other old new (usage.ForeignOption option tool) status other known = known
ReportsMisuse-other old new (usage.BadNumber text) status other known = known
ReportsMisuse-other old new (usage.BadMark text) status other known = known
ReportsMisuse-other old new (usage.BadWords tool) status other known = known

module _ (words : List (List ℕ)) (old new : Around) (source : new.source ≡ old.source)
    (output : new.output ≡ old.output) where
  early : (status : Status) → Reported old.error new.error (line out_of_memory) → status ≡ Fault
      → RunsAndKeeps words old new status None
  early status reported is = inr (record { source = source; output = output; error = reported }, is, refl)

  misused : (fault : UsageFault) (status : Status) → request_of words ≡ Err fault
      → (Reported old.error new.error (line (lines.fault_line fault)) × (status ≡ Usage))
      ⊎ (Reported old.error new.error (line out_of_memory) × (status ≡ Fault))
      → RunsAndKeeps words old new status None
  misused fault status why (inl known) =
      inl (subst (λ (r : Result RequestModel UsageFault). RunsAndKeepsWith r old new status None) (sym why)
      (record { source = source; output = output; error = known.0 }, known.1, refl))
  misused fault status why (inr known) = early status known.0 known.1

  by_fault : (fault : UsageFault) (status : Status) → request_of words ≡ Err fault
      → ReportsMisuse old.error new.error fault status
      → RunsAndKeeps words old new status None
  by_fault usage.OutOfMemory status why known = early status known.0 known.1
  by_fault usage.Unparsed status why known = misused usage.Unparsed status why known
  by_fault (usage.UnknownTool tool) status why known = misused (usage.UnknownTool tool) status why known
  by_fault (usage.ForeignOption option tool) status why known =
      misused (usage.ForeignOption option tool) status why known
  by_fault (usage.BadNumber text) status why known = misused (usage.BadNumber text) status why known
  by_fault (usage.BadMark text) status why known = misused (usage.BadMark text) status why known
  by_fault (usage.BadWords tool) status why known = misused (usage.BadWords tool) status why known

-- a run whose arguments are not a valid request
pub RunsAndKeeps-misused : (words : List (List ℕ)) (old new : Around) (fault : UsageFault) (status : Status)
    → (fault ≡ usage.OutOfMemory) ⊎ (request_of words ≡ Err fault) → new.source ≡ old.source
    → new.output ≡ old.output
    → ReportsMisuse old.error new.error fault status → RunsAndKeeps words old new status None
RunsAndKeeps-misused words old new fault status (inl is) source output known =
    let lacks = subst (λ (f : UsageFault). ReportsMisuse old.error new.error f status) is known in
    early words old new source output status lacks.0 lacks.1
RunsAndKeeps-misused words old new fault status (inr why) source output known =
    by_fault words old new source output fault status why known
