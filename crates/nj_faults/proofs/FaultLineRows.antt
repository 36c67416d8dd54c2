-- Worked rows, computed on the definitions: the lines that report faults.
use Rattle.std.proofs.Common.{◌≡◌, ℕ, refl}
use Rattle.std.specs.Prelude.{codes}
use Rattle.std.specs.Fmt.{digits}
use Rattle.nj_text.specs.declared.spot.Spot.{Spot}
use Rattle.nj_manifest.specs.declared.cause.SyntaxCause.TheVariants as cause
use Rattle.nj_manifest.specs.Faults.{Fault, Placed, OutOfMemory}
use Rattle.nj_manifest.specs.declared.cause.Wanted.TheVariants as wanted
use Rattle.nj_faults.specs.declared.fault.Cause.{Cause}
use Rattle.nj_faults.specs.declared.fault.GraphFault.{GraphFault}
use Rattle.nj_faults.specs.declared.fault.Cause.TheVariants.{BadDepth, DuplicateRule, VersionTooNew, Missing}
use Rattle.nj_faults.specs.declared.fault.Cause.TheVariants.{TooManyOpenings, Io, UnknownRule, TwoMakers}
use Rattle.nj_faults.specs.declared.fault.Cause.TheVariants.{UnknownTarget, RuleVariableCycle, UnknownPool}
use Rattle.nj_faults.specs.declared.fault.Cause.TheVariants.{DyndepNotInput, DyndepNoStatement, DyndepTwice}
use Rattle.nj_faults.specs.declared.fault.Cause.TheVariants.{DyndepExtra, Cycle, NoOutEdge, TextNotUtf8}
use Rattle.nj_faults.specs.Faults.{fault_at, fault_in, unplaced, no_memory}
use Rattle.nj_faults.specs.FaultLines.{fault_line, fault_line_for, bare_line}

abbrev spot : (line column : ℕ) → Spot
spot line column = record { line = line; column = column }

-- at a place of the file `build.ninja`
abbrev at : (line column : ℕ) → Cause → GraphFault
at line column cause = fault_at (codes "build.ninja") (spot line column) cause

-- the fault that the parser reports in the file `build.ninja`
abbrev reported : Fault → GraphFault
reported fault = fault_in (codes "build.ninja") fault

byte_row : fault_line (reported (Placed (spot 1 3) cause.Tab))
    ≡ codes "build.ninja:1:3: tabs are not allowed, use spaces"
unfolding digits
byte_row = refl

wanted_row : fault_line (reported (Placed (spot 1 2) (cause.Expected wanted.Equals)))
    ≡ codes "build.ninja:1:2: expected '='"
unfolding digits
wanted_row = refl

key_row : fault_line (reported (Placed (spot 3 3) (cause.UnknownKey (codes "depth"))))
    ≡ codes "build.ninja:3:3: unexpected variable 'depth'"
unfolding digits
key_row = refl

depth_row : fault_line (at 2 3 BadDepth) ≡ codes "build.ninja:2:3: invalid pool depth"
unfolding digits
depth_row = refl

rule_row : fault_line (at 1 6 (DuplicateRule (codes "phony")))
    ≡ codes "build.ninja:1:6: duplicate rule 'phony'"
unfolding digits
rule_row = refl

version_row : fault_line (at 1 1 (VersionTooNew (codes "1.13")))
    ≡ codes "build.ninja:1:1: ninja_required_version 1.13 is newer than 1.12"
unfolding digits
version_row = refl

find_row : fault_line (at 2 9 (Missing (codes "s"))) ≡ codes "build.ninja:2:9: cannot find 's'"
unfolding digits
find_row = refl

read_row : fault_line (at 1 1 (Io (codes "build.ninja"))) ≡ codes "build.ninja:1:1: cannot read 'build.ninja'"
unfolding digits
read_row = refl

-- numbers are decimal, from their first digit that is not 0
place_row : fault_line (at 65536 10 TooManyOpenings)
    ≡ codes "build.ninja:65536:10: more than 65536 files opened"
unfolding digits
place_row = refl

build_rule_row : fault_line (at 3 10 (UnknownRule (codes "cc")))
    ≡ codes "build.ninja:3:10: unknown build rule 'cc'"
unfolding digits
build_rule_row = refl

makers_row : fault_line (at 4 7 (TwoMakers (codes "a.o")))
    ≡ codes "build.ninja:4:7: multiple rules generate a.o"
unfolding digits
makers_row = refl

default_row : fault_line (at 5 9 (UnknownTarget (codes "all")))
    ≡ codes "build.ninja:5:9: unknown target 'all'"
unfolding digits
default_row = refl

variables_row : fault_line (at 6 1 (RuleVariableCycle (codes "command")))
    ≡ codes "build.ninja:6:1: cycle in rule variables at 'command'"
unfolding digits
variables_row = refl

pool_row : fault_line (at 7 1 (UnknownPool (codes "link")))
    ≡ codes "build.ninja:7:1: unknown pool name 'link'"
unfolding digits
pool_row = refl

dyndep_row : fault_line (at 8 1 (DyndepNotInput (codes "a.dd")))
    ≡ codes "build.ninja:8:1: dyndep 'a.dd' is not an input"
unfolding digits
dyndep_row = refl

-- at a place of the dyndep file `dd`
abbrev at_dyndep : (line column : ℕ) → Cause → GraphFault
at_dyndep line column cause = fault_at (codes "dd") (spot line column) cause

statement_row : fault_line (at 3 1 (DyndepNoStatement (codes "o") (codes "dd")))
    ≡ codes "build.ninja:3:1: 'o' not mentioned in its dyndep file 'dd'"
unfolding digits
statement_row = refl

twice_row : fault_line (at_dyndep 3 7 (DyndepTwice (codes "o"))) ≡ codes "dd:3:7: multiple statements for 'o'"
unfolding digits
twice_row = refl

extra_row : fault_line (at_dyndep 2 7 (DyndepExtra (codes "g")))
    ≡ codes "dd:2:7: 'g' has no dyndep binding for this file"
unfolding digits
extra_row = refl

cycle_row : fault_line (at 9 1 (Cycle (codes "a"))) ≡ codes "build.ninja:9:1: dependency cycle through 'a'"
unfolding digits
cycle_row = refl

text_row : fault_line (at 10 1 TextNotUtf8) ≡ codes "build.ninja:10:1: text is not UTF-8"
unfolding digits
text_row = refl

-- no place
target_row : fault_line (unplaced (UnknownTarget (codes "all"))) ≡ codes "ninja-explain: unknown target 'all'"
target_row = refl

use_row : fault_line (unplaced (NoOutEdge (codes "a"))) ≡ codes "ninja-explain: 'a' has no out edge"
use_row = refl

memory_row : fault_line no_memory ≡ codes "ninja-explain: out of memory"
memory_row = refl

reported_memory_row : reported OutOfMemory ≡ no_memory
reported_memory_row = refl

-- for another program, and without a program
program_row : fault_line_for (codes "audit") (unplaced (NoOutEdge (codes "a")))
    ≡ codes "audit: 'a' has no out edge"
program_row = refl

placed_row : fault_line_for (codes "audit") (at 2 3 BadDepth) ≡ codes "build.ninja:2:3: invalid pool depth"
unfolding digits
placed_row = refl

bare_row : bare_line (unplaced (UnknownTarget (codes "all"))) ≡ codes "unknown target 'all'"
bare_row = refl
