-- The results of a parser of dyndep files.
use Rattle.std.specs.Prelude.{◌≡◌, Option, option_map, Result, Ok, Err, List}
use Rattle.nj_text.specs.Lines as lines
use Rattle.nj_text.specs.Words.{word_model}
use Rattle.nj_manifest.specs.declared.parse_fault.ParseFault.{ParseFault}
use Rattle.nj_manifest.specs.declared.entries.Entry.{Entry}
use Rattle.nj_manifest.specs.Faults.{Fault, fault_text}
use Rattle.nj_manifest.specs.Parsers.{Fails}
use Rattle.nj_manifest.specs.Contents.{words_model}
use Rattle.nj_manifest.specs.Dyndeps.{EntryModel, DyndepLeft, Entries, Refusing, entry_of}
use Rattle.nj_manifest.specs.Openings.{Parse}

-- an entry
abbrev pub entry_model : Entry → EntryModel
entry_model e = record { out = word_model e.out; outs = words_model e.outs.items; ins = words_model e.ins.items; restat = e.restat }

-- the result of a parser if this is read from the rest
abbrev pub ReturnsEntry : Parse (Option EntryModel) → (after : DyndepLeft) → Result (Option Entry) ParseFault → Type 0
ReturnsEntry expected after (Ok found) =
    (rest : List lines.Line) × (expected ≡ Ok (option_map entry_model found, rest)) × (after ≡ Entries rest)
ReturnsEntry expected after (Err f) = Fails f expected × (after ≡ Refusing (fault_text f))

-- the call returns this fault again
abbrev pub RefusesAgain : Fault → Result (Option Entry) ParseFault → Type 0
RefusesAgain fault (Ok found) = ⊥
RefusesAgain fault (Err f) = fault_text f ≡ fault

-- It returns the next entry, and leaves the lines after it; or the first fault, and from then on that fault.
abbrev pub IsNextEntry : (before after : DyndepLeft) → Result (Option Entry) ParseFault → Type 0
IsNextEntry (Refusing fault) after result = RefusesAgain fault result × (after ≡ Refusing fault)
IsNextEntry before after result = ReturnsEntry (entry_of before) after result
