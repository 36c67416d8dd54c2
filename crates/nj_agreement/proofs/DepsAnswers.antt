-- Two readings of a deps log.
use Rattle.std.proofs.Common.{◌≡◌, ◌⊎◌, inl, inr, ℕ, List, Result, Ok, Err, IfOk, IfErr, refl, sym, ap}
use Rattle.std.proofs.Common.{◌∙◌}
use Rattle.nj_deps.specs.Logs.{LogModel, IsLogOf, IsLogFault}
use Rattle.nj_deps.specs.declared.log_fault.DepsLogFault.{DepsLogFault}
use Rattle.nj_deps.specs.declared.log_fault.DepsLogFault.TheVariants.{NoDepsLog, OtherVersion, OutOfMemory}
use Rattle.nj_deps.proofs.LawLemmas.{says_one_thing, read_unless_no_memory}
use Rattle.nj_deps.proofs.WordLemmas.{version_is}
use Rattle.nj_agreement.specs.Agreement.{AgreeBut}
use Rattle.nj_agreement.specs.Memory.{IsLogOutOfMemory}

faults-agree : (bytes : List ℕ) (one other : DepsLogFault) → IsLogFault bytes one → IsLogFault bytes other
    → (one ≡ other) ⊎ (IsLogOutOfMemory one ⊎ IsLogOutOfMemory other)
faults-agree bytes OutOfMemory other _ _ = inr (inl refl)
faults-agree bytes one OutOfMemory _ _ = inr (inr refl)
faults-agree bytes NoDepsLog NoDepsLog _ _ = inl refl
faults-agree bytes NoDepsLog (OtherVersion v) none (small, old, rest, cut) = absurd (none v rest cut)
faults-agree bytes (OtherVersion v) NoDepsLog (small, old, rest, cut) none = absurd (none v rest cut)
faults-agree bytes (OtherVersion v) (OtherVersion w) (small, old, rest, cut) (little, old2, more, cut2) =
    inl (ap OtherVersion (version_is v w rest more small little (sym cut ∙ cut2)))

pub logs-agree : (bytes : List ℕ) (one other : Result LogModel DepsLogFault)
    → IfOk one (λ log. IsLogOf bytes log) → IfErr one (λ fault. IsLogFault bytes fault)
    → IfOk other (λ log. IsLogOf bytes log) → IfErr other (λ fault. IsLogFault bytes fault)
    → AgreeBut IsLogOutOfMemory one other
logs-agree bytes (Ok a) (Ok b) is _ also _ = says_one_thing bytes a b is also
logs-agree bytes (Ok a) (Err f) is _ _ wrong = read_unless_no_memory bytes a f is wrong
logs-agree bytes (Err e) (Ok b) _ wrong is _ = read_unless_no_memory bytes b e is wrong
logs-agree bytes (Err e) (Err f) _ wrong _ also = faults-agree bytes e f wrong also
