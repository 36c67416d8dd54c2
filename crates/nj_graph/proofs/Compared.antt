-- The faults that the parser of a file reports, as faults of that file.
use Rattle.std.specs.Prelude.{◌≡◌, ◌⊎◌, ℕ, Result, Err, List}
use Rattle.std.proofs.Common.{inl, inr}
use Rattle.nj_text.specs.declared.fault.LexFault.TheVariants as lex
use Rattle.nj_manifest.specs.declared.parse_fault.ParseFault.{ParseFault}
use Rattle.nj_manifest.specs.declared.parse_fault.ParseFault.TheVariants as parse
use Rattle.nj_manifest.specs.Faults.{Fault, fault_text}
use Rattle.nj_manifest.specs.Parsers.{Fails, IsNext}
use Rattle.nj_manifest.specs.DyndepParsers.{IsNextEntry}
use Rattle.nj_manifest.specs.Dyndeps.{DyndepLeft, WholeFile, Entries, Refusing}
use Rattle.nj_manifest.specs.Statements.{Left, Lines, Refused, next_statement}
use Rattle.nj_faults.specs.declared.fault.GraphFault.{GraphFault}
use Rattle.nj_faults.specs.Faults.{fault_in, no_memory}
use Rattle.nj_graph.specs.Inside.ReaderContracts.{NextIs}
use Rattle.nj_graph.specs.Inside.JoiningContracts.{NextEntryIs}

-- out of memory; or the fault that is expected
reported : {Y : Type 0} (file : List ℕ) (f : ParseFault) (expected : Result Y Fault) (fault : GraphFault)
    → Fails f expected → fault ≡ fault_in file (fault_text f)
    → (fault ≡ no_memory) ⊎ ((found : Fault) × (expected ≡ Err found) × (fault ≡ fault_in file found))
reported file (parse.Lex (lex.BadByte spot)) expected fault fails is =
    inr (fault_text (parse.Lex (lex.BadByte spot)), fails, is)
reported file (parse.Lex (lex.Tab spot)) expected fault fails is =
    inr (fault_text (parse.Lex (lex.Tab spot)), fails, is)
reported file (parse.Lex (lex.BadEscape spot)) expected fault fails is =
    inr (fault_text (parse.Lex (lex.BadEscape spot)), fails, is)
reported file (parse.Lex lex.OutOfMemory) expected fault fails is = inl is
reported file (parse.Expected spot wanted) expected fault fails is =
    inr (fault_text (parse.Expected spot wanted), fails, is)
reported file (parse.UnexpectedIndent spot) expected fault fails is =
    inr (fault_text (parse.UnexpectedIndent spot), fails, is)
reported file (parse.MissingCommand spot) expected fault fails is =
    inr (fault_text (parse.MissingCommand spot), fails, is)
reported file (parse.RspPair spot) expected fault fails is = inr (fault_text (parse.RspPair spot), fails, is)
reported file (parse.UnknownKey spot key) expected fault fails is =
    inr (fault_text (parse.UnknownKey spot key), fails, is)
reported file (parse.MissingDepth spot) expected fault fails is =
    inr (fault_text (parse.MissingDepth spot), fails, is)
reported file (parse.DyndepVersion spot) expected fault fails is =
    inr (fault_text (parse.DyndepVersion spot), fails, is)
reported file (parse.DyndepShape spot) expected fault fails is =
    inr (fault_text (parse.DyndepShape spot), fails, is)

pub statement-reported : (file : List ℕ) (before after : Left) (f : ParseFault) (fault : GraphFault)
    → IsNext before after (Err f) → fault ≡ fault_in file (fault_text f)
    → NextIs file before after (Err fault)
statement-reported file (Lines ls) after f fault next is = reported file f (next_statement ls) fault next.0 is
statement-reported file (Refused found) after f fault next is = tt

pub entry-reported : (file : List ℕ) (before after : DyndepLeft) (f : ParseFault) (fault : GraphFault)
    → IsNextEntry before after (Err f) → fault ≡ fault_in file (fault_text f)
    → NextEntryIs file before after (Err fault)
entry-reported file (WholeFile ls) after f fault next is = reported file f _ fault next.0 is
entry-reported file (Entries ls) after f fault next is = reported file f _ fault next.0 is
entry-reported file (Refusing found) after f fault next is = tt
