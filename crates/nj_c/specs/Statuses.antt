-- The numbers of statuses.
use Rattle.std.specs.Prelude.{ℤ, pos}
use Rattle.nj_c.specs.declared.status.Status.{Status}
use Rattle.nj_c.specs.declared.status.Status.TheVariants.{Done, Nothing, Short, Fault, Wanted, NotLoaded, BadNumber, BadMark, NotUtf8, NotOpen, OutOfMemory, BadLog}

-- the number of a status
abbrev pub code_of : Status → ℤ
code_of Done = pos 0
code_of Nothing = pos 1
code_of Short = pos 2
code_of Fault = pos 3
code_of Wanted = pos 4
code_of NotLoaded = pos 5
code_of BadNumber = pos 6
code_of BadMark = pos 7
code_of NotUtf8 = pos 8
code_of NotOpen = pos 9
code_of OutOfMemory = pos 10
code_of BadLog = pos 11
