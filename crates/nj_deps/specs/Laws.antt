-- Laws of deps logs.
use Rattle.std.specs.Prelude.{◌≡◌, ℕ, ◌+◌, ◌-◌, ◌*◌, ◌^◌, if◌then◌else◌, nat_eq, Option, Some, None, List, length, map, slice_get}
use Rattle.std.specs.List.{IsDistinct, filter_map}
use Rattle.nj_deps.specs.LogRecords.{LogRecord}
use Rattle.nj_deps.specs.LogRecords.LogRecord.{path, dependencies}
use Rattle.nj_deps.specs.Logs.{LogModel, OutputModel, IsLogOf, IsLogFault, outputs_of, output_of}
use Rattle.nj_deps.specs.declared.log_fault.DepsLogFault.{DepsLogFault}
use Rattle.nj_deps.specs.declared.log_fault.DepsLogFault.TheVariants.{OutOfMemory}

-- bytes are cut into records that count and a rest in one way, so they have one meaning
abbrev pub BytesSayOneThing : Type 0
BytesSayOneThing = (bytes : List ℕ) (one other : LogModel)
    → IsLogOf bytes one → IsLogOf bytes other → one ≡ other

-- a log of version 4 is not refused, unless memory runs out
abbrev pub GoodLogsAreRead : Type 0
GoodLogsAreRead = (bytes : List ℕ) (log : LogModel) (fault : DepsLogFault)
    → IsLogOf bytes log → IsLogFault bytes fault → fault ≡ OutOfMemory

-- the entry of a record for an output
abbrev pub said_of : (number : ℕ) → LogRecord → Option OutputModel
said_of number (path padded complement) = None
said_of number (dependencies output low high inputs) =
    if nat_eq output number
    then Some (record { output = output; time = low + 2 ^ 32 * high; inputs = inputs }) else None

-- of the records of an output the last one wins
abbrev pub LastRecordCounts : Type 0
LastRecordCounts = (records : List LogRecord) (number : ℕ)
    → output_of (outputs_of records) number
    ≡ (let said = filter_map (said_of number) records in slice_get said (length said - 1))

-- no output is repeated
abbrev pub EachOutputOnce : Type 0
EachOutputOnce = (records : List LogRecord)
    → IsDistinct nat_eq (map (λ o. o.output) (outputs_of records))
