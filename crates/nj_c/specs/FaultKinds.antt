-- The numbers of the kinds of faults.
use Rattle.std.specs.Prelude.{ℤ, pos}
use Rattle.nj_manifest.specs.declared.cause.SyntaxCause.{SyntaxCause}
use Rattle.nj_manifest.specs.declared.cause.SyntaxCause.TheVariants.{BadByte, Tab, BadEscape, Expected, UnexpectedIndent, MissingCommand, RspPair, UnknownKey, MissingDepth, DyndepVersion, DyndepShape}
use Rattle.nj_faults.specs.declared.fault.Cause.{Cause}
use Rattle.nj_faults.specs.declared.fault.Cause.TheVariants.{Syntax, EmptyPath, BadDepth, DuplicateRule, DuplicatePool, VersionTooNew, Missing, PathNotText, TooDeep, TooManyOpenings, Io, UnknownRule, TwoMakers, UnknownTarget, RuleVariableCycle, UnknownPool, DyndepNotInput, DyndepNoStatement, DyndepTwice, DyndepExtra, Cycle, NoOutEdge, TextNotUtf8, OutOfMemory}

-- the number of a syntax fault
abbrev pub kind_of_syntax : {N : Type 0} → SyntaxCause N → ℤ
kind_of_syntax BadByte = pos 1
kind_of_syntax Tab = pos 2
kind_of_syntax BadEscape = pos 3
kind_of_syntax (Expected x) = pos 4
kind_of_syntax UnexpectedIndent = pos 5
kind_of_syntax MissingCommand = pos 6
kind_of_syntax RspPair = pos 7
kind_of_syntax (UnknownKey x) = pos 8
kind_of_syntax MissingDepth = pos 9
kind_of_syntax DyndepVersion = pos 10
kind_of_syntax DyndepShape = pos 11

-- the number of a fault
abbrev pub kind_of : Cause → ℤ
kind_of (Syntax x) = kind_of_syntax x
kind_of EmptyPath = pos 12
kind_of BadDepth = pos 13
kind_of (DuplicateRule x) = pos 14
kind_of (DuplicatePool x) = pos 15
kind_of (VersionTooNew x) = pos 16
kind_of (Missing x) = pos 17
kind_of PathNotText = pos 18
kind_of TooDeep = pos 19
kind_of TooManyOpenings = pos 20
kind_of (Io x) = pos 21
kind_of (UnknownRule x) = pos 22
kind_of (TwoMakers x) = pos 23
kind_of (UnknownTarget x) = pos 24
kind_of (RuleVariableCycle x) = pos 25
kind_of (UnknownPool x) = pos 26
kind_of (DyndepNotInput x) = pos 27
kind_of (DyndepNoStatement x y) = pos 28
kind_of (DyndepTwice x) = pos 29
kind_of (DyndepExtra x) = pos 30
kind_of (Cycle x) = pos 31
kind_of (NoOutEdge x) = pos 32
kind_of TextNotUtf8 = pos 33
kind_of OutOfMemory = pos 34
