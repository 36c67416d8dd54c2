-- Two sinks that receive the same text.
use Rattle.std.proofs.Common.{◌≡◌, inl, inr, ℕ, Option, Some, None, IfSome, Result, Ok, Err, IfOk, OnOk, List}
use Rattle.std.proofs.Common.{refl, sym, ap, ◌∙◌}
use Rattle.std.specs.Io.KnownBytes.{Appends}
use Rattle.nj_cycles.specs.Cycles.{IsAcyclic}
use Rattle.nj_faults.specs.declared.fault.GraphFault.{GraphFault}
use Rattle.nj_needs.specs.Graphs.{count_of, makers_of}
use Rattle.nj_needs.specs.PageWalks.{StopsAt}
use Rattle.nj_needs.specs.Walks.{WalkState}
use Rattle.nj_tools.specs.Compdb.{WritesCompdb}
use Rattle.nj_tools.specs.Sinks.{SinkState, Takes, Writes}
use Rattle.nj_tools.specs.Texts.{StopsWithin, WritesText}
use Rattle.nj_tools.specs.declared.sinks.SinkFault.{SinkFault}
use Rattle.nj_tools.specs.declared.tool_fault.ToolFault.{ToolFault}
use Rattle.nj_tools.specs.declared.tool_fault.ToolFault.TheVariants.{TextNotUtf8, Write, OutOfMemory}
use Rattle.nj_agreement.specs.Agreement.{AgreeBut}
use Rattle.nj_one_answer.specs.Sinks.{IsCut, SameSinks, UnlessCut}
use Rattle.nj_agreement.specs.Walks.{SameWalk}
use Rattle.nj_agreement.proofs.MarkAnswers.{same-stops, stops-agree}

-- ---- sinks

taken-same : (old one other : Option (List ℕ)) (text : List ℕ) → Appends old one text → Appends old other text
    → IfSome old (λ bytes. one ≡ other)
taken-same None one other text is also = tt
taken-same (Some bytes) None other text is also = absurd is
taken-same (Some bytes) (Some a) None text is also = absurd also
taken-same (Some bytes) (Some a) (Some b) text is also = ap Some (is ∙ sym also)

pub sinks-agree : (old one other : SinkState) (text : List ℕ) → Takes old one text → Takes old other text
    → SameSinks old one other
sinks-agree old one other text is also = record {
  taken = taken-same old.taken one.taken other.taken text is.taken also.taken;
  failures = is.failures ∙ sym also.failures;
  took_since_failure = is.took_since_failure ∙ sym also.took_since_failure;
}

pub wholes-agree : (old one other : SinkState) (text : List ℕ) (a b : Result Unit SinkFault)
    → Writes old one text a
    → Writes old other text b → OnOk a (OnOk b (SameSinks old one other))
wholes-agree old one other text (Ok a) (Ok b) is also = sinks-agree old one other text is also
wholes-agree old one other text (Ok a) (Err f) is also = tt
wholes-agree old one other text (Err e) b is also = tt

-- ---- texts

stop-is-cut : (old new : SinkState) (text : List ℕ) (fault : ToolFault) → StopsWithin old new text fault
    → IsCut fault
stop-is-cut old new text Write is = inl refl
stop-is-cut old new text OutOfMemory is = inr refl
stop-is-cut old new text (TextNotUtf8 fault) is = absurd is

pub texts-agree : {X : Type 0} (old one other : SinkState) (text : List ℕ) (a b : Result X ToolFault)
    → IfOk a (λ x. IfOk b (λ y. x ≡ y)) → WritesText old one text a → WritesText old other text b
    → AgreeBut IsCut a b
texts-agree old one other text (Ok a) (Ok b) same is also = same
texts-agree old one other text (Ok a) (Err f) same is also = stop-is-cut old other text f also
texts-agree old one other text (Err e) (Ok b) same is also = stop-is-cut old one text e is
texts-agree old one other text (Err e) (Err f) same is also = inr (inl (stop-is-cut old one text e is))

pub text-sinks-agree : {X : Type 0} (old one other : SinkState) (text : List ℕ) (a b : Result X ToolFault)
    → WritesText old one text a → WritesText old other text b
    → UnlessCut a (UnlessCut b (SameSinks old one other))
text-sinks-agree old one other text (Ok a) (Ok b) is also = sinks-agree old one other text is also
text-sinks-agree old one other text (Ok a) (Err Write) is also = tt
text-sinks-agree old one other text (Ok a) (Err OutOfMemory) is also = tt
text-sinks-agree old one other text (Ok a) (Err (TextNotUtf8 f)) is also = absurd also
text-sinks-agree old one other text (Err Write) b is also = tt
text-sinks-agree old one other text (Err OutOfMemory) b is also = tt
text-sinks-agree old one other text (Err (TextNotUtf8 f)) b is also = absurd is

-- ---- databases

pub databases-agree : (old one other : SinkState) (text : List ℕ) (refused : Option GraphFault)
    → (a b : Result Unit ToolFault) → WritesCompdb old one text refused a
    → WritesCompdb old other text refused b
    → AgreeBut IsCut a b
databases-agree old one other text refused (Ok a) (Ok b) is also = refl
databases-agree old one other text refused (Ok a) (Err Write) is also = inl refl
databases-agree old one other text refused (Ok a) (Err OutOfMemory) is also = inr refl
databases-agree old one other text refused (Ok a) (Err (TextNotUtf8 f)) is also =
    absurd (let e = sym is.0 ∙ also.0 in cc)
databases-agree old one other text refused (Err Write) (Ok b) is also = inl refl
databases-agree old one other text refused (Err OutOfMemory) (Ok b) is also = inr refl
databases-agree old one other text refused (Err (TextNotUtf8 e)) (Ok b) is also =
    absurd (let f = sym also.0 ∙ is.0 in cc)
databases-agree old one other text refused (Err Write) (Err f) is also = inr (inl (inl refl))
databases-agree old one other text refused (Err OutOfMemory) (Err f) is also = inr (inl (inr refl))
databases-agree old one other text refused (Err (TextNotUtf8 e)) (Err Write) is also = inr (inr (inl refl))
databases-agree old one other text refused (Err (TextNotUtf8 e)) (Err OutOfMemory) is also =
    inr (inr (inr refl))
databases-agree old one other text refused (Err (TextNotUtf8 e)) (Err (TextNotUtf8 f)) is also =
    inl (ap TextNotUtf8 (let faults : Some e ≡ Some f = sym is.0 ∙ also.0 in let same : e ≡ f = cc in same))

pub database-sinks-agree : (old one other : SinkState) (text : List ℕ) (refused : Option GraphFault)
    → (a b : Result Unit ToolFault) → WritesCompdb old one text refused a
    → WritesCompdb old other text refused b
    → UnlessCut a (UnlessCut b (SameSinks old one other))
database-sinks-agree old one other text refused (Ok a) (Ok b) is also =
    sinks-agree old one other text is.1 also.1
database-sinks-agree old one other text refused (Ok a) (Err Write) is also = tt
database-sinks-agree old one other text refused (Ok a) (Err OutOfMemory) is also = tt
database-sinks-agree old one other text refused (Ok a) (Err (TextNotUtf8 f)) is also =
    sinks-agree old one other text is.1 also.1
database-sinks-agree old one other text refused (Err Write) b is also = tt
database-sinks-agree old one other text refused (Err OutOfMemory) b is also = tt
database-sinks-agree old one other text refused (Err (TextNotUtf8 e)) (Ok b) is also =
    sinks-agree old one other text is.1 also.1
database-sinks-agree old one other text refused (Err (TextNotUtf8 e)) (Err Write) is also = tt
database-sinks-agree old one other text refused (Err (TextNotUtf8 e)) (Err OutOfMemory) is also = tt
database-sinks-agree old one other text refused (Err (TextNotUtf8 e)) (Err (TextNotUtf8 f)) is also =
    sinks-agree old one other text is.1 also.1

-- nothing is answered but that all was written
pub both-done : (a b : Result Unit ToolFault) → IfOk a (λ x. IfOk b (λ y. x ≡ y))
both-done (Ok a) (Ok b) = refl
both-done (Ok a) (Err f) = tt
both-done (Err e) b = tt

-- the marks at which walks stop that are the same
pub marks-done : (walk other : WalkState) → SameWalk walk other
    → IsAcyclic (makers_of walk.graph) (count_of walk.graph)
    → (take : Option ℕ) (a b : Result (Option (List ℕ)) ToolFault) → IfOk a (λ mark. StopsAt walk take mark)
    → IfOk b (λ mark. StopsAt other take mark) → IfOk a (λ x. IfOk b (λ y. x ≡ y))
marks-done walk other same acyclic take (Ok a) (Ok b) is also =
    stops-agree walk acyclic take a b is (same-stops walk other same take b also)
marks-done walk other same acyclic take (Ok a) (Err f) is also = tt
marks-done walk other same acyclic take (Err e) b is also = tt
