use Rattle.std.proofs.Common.{◌≡◌, ◌≤◌, ◌+◌, ◌-◌, Option, List, ℕ, MatchOption, Bor, length, arith, subst}
use Rattle.std.proofs.Common.{sym}
use Rattle.nj_deps.specs.Logs.{EndsBefore}
use Rattle.nj_deps.specs.Inside.RecordsRead.{IsRead, TableModel, TakesNone, TakesRecord}
use Rattle.nj_deps.proofs.RecordLemmas.{shorter}
use Rattle.nj_deps.proofs.TableLemmas.{log-read, one-taken, rest-within}
use Rattle.nj_deps.proofs.log.DepsLog.read_with_keys.Goals as goal

-- the result of reading a record
Gave : (rest : List ℕ) (old new : TableModel) → Option (Bor (List ℕ)) → Type 0
Gave rest old new found = MatchOption found (TakesNone rest old new)
    (λ after. TakesRecord rest after.now old new)

pub records-smaller : goal.records-smaller
unfolding Gave
records-smaller c =
    let taken = subst (Gave c.records.rest.now c.records.table c.read_record.new.self) c.in-Some.is
    c.in_ok-after.ensures in
    shorter taken.0 c.records.rest.now c.in-Some.after.now taken.2

pub records-preserved : goal.records-preserved
unfolding Gave
records-preserved c =
    one-taken c.in_ok-rest.rest.now c.records.rest.now c.in-Some.after.now c.records.table
    c.read_record.new.self c.records.invariant
    (subst (Gave c.records.rest.now c.records.table c.read_record.new.self) c.in-Some.is
    c.in_ok-after.ensures)

pub returns-clause-log : goal.returns-clause-log
unfolding Gave
returns-clause-log c =
    let bytes = c.args.bytes.now in
    let rest = c.records.rest.now in
    let new = c.read_record.new.self in
    let none = subst (Gave rest c.records.table new) c.in_default.is c.in_ok-after.ensures in
    let within : length rest ≤ length bytes =
    rest-within bytes c.in_ok-rest.rest.now rest c.records.table c.in_ok-rest.ensures.records
    c.records.invariant in
    let size : length bytes - length rest + length rest ≡ length bytes = omega arith in
    log-read bytes c.in_ok-rest.rest.now rest new (length bytes - length rest) c.is_empty.result
    c.in_ok-rest.ensures.records
    (subst (IsRead c.in_ok-rest.rest.now rest) (sym none.1) c.records.invariant)
    (subst (λ (t : TableModel). EndsBefore t.paths rest) (sym none.1) none.0) size c.is_empty.ensures
