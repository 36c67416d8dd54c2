-- The calls of a parser of dyndep files, by the lines that they read.
use Rattle.std.proofs.Common.{arith, ◌≡◌, Bool, true, false, Option, Some, option_map, Result, Ok, Err, List}
use Rattle.std.proofs.Common.{refl}
use Rattle.nj_text.specs.declared.spot.Spot.{Spot}
use Rattle.nj_text.specs.Lines.{Line}
use Rattle.nj_text.specs.Calls.{State, Inside, spot_of}
use Rattle.nj_manifest.specs.declared.cause.SyntaxCause.TheVariants as cause
use Rattle.nj_manifest.specs.declared.parse_fault.ParseFault.{ParseFault}
use Rattle.nj_manifest.specs.declared.entries.Entry.{Entry}
use Rattle.nj_manifest.specs.Faults.{Placed}
use Rattle.nj_manifest.specs.LineSteps.{◌>>=◌}
use Rattle.nj_manifest.specs.Statements.{lines_from}
use Rattle.nj_manifest.specs.Openings.{Parse, opening}
use Rattle.nj_manifest.specs.Parsers.{Fails}
use Rattle.nj_manifest.specs.Inside.ParserContracts.{LeadsTo, ParsesAt, FindsOpening}
use Rattle.nj_manifest.specs.Inside.ParserContracts.{entry_here}
use Rattle.nj_manifest.specs.Dyndeps.{EntryModel, version_line, version_from, version_next, entry_line}
use Rattle.nj_manifest.specs.Dyndeps.{restat_block, entry_from, next_entry}
use Rattle.nj_manifest.specs.DyndepParsers.{entry_model}
use Rattle.nj_manifest.specs.Inside.ParserContracts.{ReadsVersion}
use Rattle.nj_manifest.proofs.Heres.{fails-on}
use Rattle.nj_manifest.proofs.DyndepEnds.{entry-ends, version-ends, block-ends}

-- ---- the version

version-is : (ls : List Line) → version_next ls ≡ (opening ls >>= version_from)
unfolding version_next
version-is ls = refl

pub version-no_opening : (f : ParseFault) (before after : State) → FindsOpening before after (Err f)
    → ReadsVersion before after (Err f)
version-no_opening f before after h = grind (arith, version-is, fails-on)

pub version-at_end : (before after : State) (spot : Spot) → FindsOpening before after (Ok false)
    → spot ≡ spot_of after → version_next (lines_from before) ≡ Err (Placed spot cause.DyndepVersion)
version-at_end before after spot h s = grind (arith, version-is)

pub version-read : (before middle after : State) (result : Result (Unit {0}) ParseFault)
    → FindsOpening before middle (Ok true) → LeadsTo result after (version_line middle)
    → ReadsVersion before after result
version-read before middle after result h p = grind (arith, version-is, version-ends, fails-on)

-- ---- an entry

pub entry-is : (ls : List Line) → next_entry ls ≡ (opening ls >>= entry_from)
unfolding next_entry
entry-is ls = refl

-- the entry with its block
abbrev with_block : EntryModel × State → Parse (Option EntryModel)
with_block entry = restat_block entry.1 >>=
    λ block. Ok (Some (record entry.0 { restat = block.0 }), lines_from block.1)

at-is : (l : Line) (ls : List Line) → entry_here l ls ≡ (entry_line (Inside l ls) >>= with_block)
at-is l ls = refl

pub entry-no_line : (before after : State) (f : ParseFault) → Fails f (entry_line before)
    → ParsesAt (option_map entry_model) before after entry_here (Err f)
entry-no_line before after f h = grind arith

pub entry-no_block : (before middle after : State) (e : Entry) (f : ParseFault)
    → entry_line before ≡ Ok (entry_model e, middle)
    → Fails f (restat_block middle) → ParsesAt (option_map entry_model) before after entry_here (Err f)
entry-no_block before middle after e f h p = grind arith

pub entry-read : (before middle after : State) (e : Entry) (restat : Bool)
    → entry_line before ≡ Ok (entry_model e, middle)
    → restat_block middle ≡ Ok (restat, after)
    → ParsesAt (option_map entry_model) before after entry_here (Ok (Some (record e { restat = restat })))
entry-read before middle after e restat h p = grind (arith, at-is, entry-ends, block-ends)
