use Rattle.std.proofs.Common.{subst, ℕ, List, Some, sym, ap, ◌∙◌, codes}
use Rattle.nj_scope.specs.Pools.{is_pool}
use Rattle.nj_scope.specs.ReadingList.{pools}
use Rattle.nj_edge_env.specs.LateStrings.{asked_text}
use Rattle.nj_faults.specs.declared.fault.Cause.TheVariants.{UnknownPool}
use Rattle.nj_faults.specs.Faults.{IsFault, fault_at}
use Rattle.nj_statements.proofs.LateFaults.{pool-empty, pool-known, pool-unknown, name-empty, name-some}
use Rattle.nj_statements.proofs.context.Context.check_pool.Goals as goal

pub returns-then-is_empty-clause-fault : goal.returns-then-is_empty-clause-fault
returns-then-is_empty-clause-fault c = λ entries n sees.
    let gives = c.as_slice-pool.ensures.value ∙ c.in_ok-give.ensures entries n sees in
    pool-empty c.args.self.place.file.now c.args.self.place.spot (pools entries) c.as_slice-pool.result.now
    (asked_text n (codes "pool")) gives (sym c.if-is_empty.ensures)

pub returns-then-is_empty-clause-number : goal.returns-then-is_empty-clause-number
returns-then-is_empty-clause-number c = λ entries n sees.
    let gives = c.as_slice-pool.ensures.value ∙ c.in_ok-give.ensures entries n sees in
    ap Some (sym (name-empty c.args.self.place.file.now c.args.self.place.spot (pools entries)
    c.as_slice-pool.result.now (asked_text n (codes "pool")) gives (sym c.if-is_empty.ensures)))

pub returns-then-has_pool-clause-fault : goal.returns-then-has_pool-clause-fault
returns-then-has_pool-clause-fault c = λ entries n sees.
    let gives = c.as_slice-pool.ensures.value ∙ c.in_ok-give.ensures entries n sees in
    pool-known c.args.self.place.file.now c.args.self.place.spot (pools entries) c.as_slice-pool.result.now
    (asked_text n (codes "pool")) gives (sym
    (c.if-has_pool.ensures ∙ ap (λ declared. is_pool declared c.as_slice-pool.result.now)
    sees.declared.pools))

pub returns-then-has_pool-clause-number : goal.returns-then-has_pool-clause-number
returns-then-has_pool-clause-number c = λ entries n sees.
    let gives = c.as_slice-pool.ensures.value ∙ c.in_ok-give.ensures entries n sees in
    c.in_ok-number.ensures.number ∙ ap Some
    (sym (name-some c.args.self.place.file.now c.args.self.place.spot (pools entries)
    c.as_slice-pool.result.now (asked_text n (codes "pool")) gives (sym c.if-is_empty.ensures)))

pub returns-clause-fault : goal.returns-clause-fault
returns-clause-fault c = λ entries n sees.
    let file = c.args.self.place.file.now in
    let spot = c.args.self.place.spot in
    let gives = c.as_slice-pool.ensures.value ∙ c.in_ok-give.ensures entries n sees in
    pool-unknown file spot (pools entries) c.as_slice-pool.result.now (asked_text n (codes "pool")) gives
    c.fault.result (sym c.if-is_empty.ensures)
    (sym (c.if-has_pool.ensures ∙ ap (λ declared. is_pool declared c.as_slice-pool.result.now)
    sees.declared.pools))
    (subst (λ (name : List ℕ). IsFault (Some (fault_at file spot (UnknownPool name))) c.fault.result)
    c.in_ok-new.ensures c.fault.ensures)
