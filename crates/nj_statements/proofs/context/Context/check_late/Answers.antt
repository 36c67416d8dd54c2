use Rattle.std.proofs.Common.{Some, option_map, codes, ap, ◌∙◌}
use Rattle.std.specs.Option.{option_or}
use Rattle.nj_scope.specs.ReadingList.{pools}
use Rattle.nj_edge_env.specs.LateStrings.{asked_text}
use Rattle.nj_names.specs.Files.{path_at}
use Rattle.nj_statements.specs.EdgeList.{file_given}
use Rattle.nj_statements.specs.BuildFaults.{variable_cycle_fault, unknown_pool, dyndep_not_input}
use Rattle.nj_statements.proofs.AssignedLemmas.{path-meant, numbered-longer}
use Rattle.nj_statements.proofs.Faults.{fault-first, fault-second, both-none, err-checks}
use Rattle.nj_statements.proofs.context.Context.check_late.Goals as goal

pub returns-in_err-check_cycle-clause-fault : goal.returns-in_err-check_cycle-clause-fault
returns-in_err-check_cycle-clause-fault c = λ entries n sees tells.
    let file = c.args.self.place.file.now in
    let spot = c.args.self.place.spot in
    let f = c.in_err-check_cycle.field-0.0 in
    let cycle = variable_cycle_fault file spot n in
    let pool = unknown_pool file spot (pools entries) (asked_text n (codes "pool")) in
    let dyndep = dyndep_not_input file spot c.args.edges.now.«open».inputs (asked_text n (codes "dyndep")) in
    err-checks c.from_residual.result f (option_or cycle (option_or pool dyndep)) c.from_residual.ensures.1
    (fault-first cycle (option_or pool dyndep) f (c.in_err-check_cycle.ensures entries n sees tells))

pub returns-in_err-pool-clause-fault : goal.returns-in_err-pool-clause-fault
returns-in_err-pool-clause-fault c = λ entries n sees tells.
    let file = c.args.self.place.file.now in
    let spot = c.args.self.place.spot in
    let f = c.in_err-pool.field-0.0 in
    let cycle = variable_cycle_fault file spot n in
    let pool = unknown_pool file spot (pools entries) (asked_text n (codes "pool")) in
    let dyndep = dyndep_not_input file spot c.args.edges.now.«open».inputs (asked_text n (codes "dyndep")) in
    err-checks c.from_residual-in_err-pool.result f (option_or cycle (option_or pool dyndep))
    c.from_residual-in_err-pool.ensures.1
    (fault-second cycle (option_or pool dyndep) f (c.in_ok-check_cycle.ensures entries n sees tells)
    (fault-first pool dyndep f (c.in_err-pool.ensures.fault entries n sees)))

pub returns-in_err-file-clause-fault : goal.returns-in_err-file-clause-fault
returns-in_err-file-clause-fault c = λ entries n sees tells.
    let file = c.args.self.place.file.now in
    let spot = c.args.self.place.spot in
    let f = c.in_err-file.field-0.0 in
    let cycle = variable_cycle_fault file spot n in
    let pool = unknown_pool file spot (pools entries) (asked_text n (codes "pool")) in
    let dyndep = dyndep_not_input file spot c.args.edges.now.«open».inputs (asked_text n (codes "dyndep")) in
    err-checks c.from_residual-in_err-file.result f (option_or cycle (option_or pool dyndep))
    c.from_residual-in_err-file.ensures.1
    (fault-second cycle (option_or pool dyndep) f (c.in_ok-check_cycle.ensures entries n sees tells)
    (fault-second pool dyndep f (c.in_ok-pool.ensures.fault entries n sees)
    (c.in_err-file.ensures.fault entries n sees)))

pub returns-clause-fault : goal.returns-clause-fault
returns-clause-fault c = λ entries n sees tells.
    let file = c.args.self.place.file.now in
    let spot = c.args.self.place.spot in
    let cycle = variable_cycle_fault file spot n in
    let pool = unknown_pool file spot (pools entries) (asked_text n (codes "pool")) in
    let dyndep = dyndep_not_input file spot c.args.edges.now.«open».inputs (asked_text n (codes "dyndep")) in
    both-none cycle (option_or pool dyndep) (c.in_ok-check_cycle.ensures entries n sees tells)
    (both-none pool dyndep (c.in_ok-pool.ensures.fault entries n sees)
    (c.in_ok-file.ensures.fault entries n sees))

pub returns-clause-assigned : goal.returns-clause-assigned
returns-clause-assigned c = λ entries n sees. record {
  pool = numbered-longer c.check_pool.new.strings c.path_number.new.strings c.in_ok-pool.pool _
      c.in_ok-dyndep.ensures.grows (c.in_ok-pool.ensures.number entries n sees);
  dyndep =
      c.in_ok-dyndep.ensures.number ∙ ap (λ files. Some (option_map (path_at files) c.in_ok-file.file))
      c.files.ensures.files
      ∙ ap Some (path-meant c.args.edges.now.files c.in_ok-file.file
      (file_given (asked_text n (codes "dyndep"))) (c.in_ok-file.ensures.file entries n sees));
}
