-- Two graphs of the same statements.
use Rattle.std.proofs.Common.{◌≡◌, ◌⊎◌, inl, inr, ℕ, ◌<◌, Option, Result, Ok, Err, IfOk, List, length}
use Rattle.std.proofs.Common.{slice_get}
use Rattle.std.proofs.Common.{sym, ap, subst, ◌∙◌}
use Rattle.std.proofs.lemmas.Bool.{cases_order}
use Rattle.std.proofs.lemmas.Option.{same_Some}
use Rattle.nj_scope.specs.ReadingList.{ReadStatement}
use Rattle.nj_cycles.specs.Cycles.{IsAcyclic, IsLeastOnCycle}
use Rattle.nj_cycles.proofs.Ranks.{falling_ranks_leave_no_cycle}
use Rattle.nj_edges.specs.Edges.{EdgePaths, first_output}
use Rattle.nj_edges.specs.Needs.{makers_of_inputs}
use Rattle.nj_faults.specs.declared.fault.GraphFault.{GraphFault}
use Rattle.nj_faults.specs.declared.fault.Cause.TheVariants.{Cycle}
use Rattle.nj_faults.specs.Faults.{fault_at}
use Rattle.nj_statements.specs.EdgeList.{EdgeModel, edges_read, paths_of_edges}
use Rattle.nj_statements.specs.Built.{IsCycleFault}
use Rattle.nj_graph.specs.Graph.{GraphModel, IsGraphOf}
use Rattle.nj_graph.specs.Origins.{OriginsModel, origins_read, main_of}
use Rattle.nj_graph.specs.DepsLogs.{JoinsNamed, with_named}
use Rattle.nj_agreement.specs.Agreement.{AgreeUpTo}
use Rattle.nj_agreement.specs.Graphs.{SameGraph, SameStated}
use Rattle.nj_agreement.specs.Memory.{IsGraphOutOfMemory}

-- ---- graphs

pub same-stated : (one other : GraphModel) (entries : List ReadStatement) → IsGraphOf one entries
    → IsGraphOf other entries → SameStated one other
same-stated one other entries is also = record {
  declarations = record {
    bound = λ number name. is.declares.bound number name ∙ sym (also.declares.bound number name);
    declared = λ number name. is.declares.declared number name ∙ sym (also.declares.declared number name);
    scopes = is.declares.scopes ∙ sym also.declares.scopes;
    rules = is.declares.rules ∙ sym also.declares.rules;
    pools = is.declares.pools ∙ sym also.declares.pools;
  };
  built = record {
    edges = is.built.paths ∙ sym also.built.paths;
    details = is.built.details ∙ sym also.built.details;
    blocks = λ number name. is.built.blocks number name ∙ sym (also.built.blocks number name);
    block_names = λ number. is.built.block_names number ∙ sym (also.built.block_names number);
    defaults = is.built.defaults ∙ sym also.built.defaults;
    pending = is.built.pending ∙ sym also.built.pending;
    assigned = is.built.assigned ∙ sym also.built.assigned;
    restats = is.built.restats ∙ sym also.built.restats;
  };
}

pub same-graph : (one other : GraphModel) (entries : List ReadStatement) → IsGraphOf one entries
    → IsGraphOf other entries → one.origins ≡ other.origins → SameGraph one other
same-graph one other entries is also origins =
    record { stated = same-stated one other entries is also; origins = origins }

-- where the main file is the same, so is all that comes from the statements' places
pub same-origins : (one other : GraphModel) (entries : List ReadStatement) → IsGraphOf one entries
    → IsGraphOf other entries → main_of one.origins ≡ main_of other.origins → one.origins ≡ other.origins
same-origins one other entries is also main =
    is.origins ∙ ap (λ m. origins_read m entries) main ∙ sym also.origins

-- ---- cycles

least-is-one : (makers : ℕ → List (Option ℕ)) (e f : ℕ) → IsLeastOnCycle makers e → IsLeastOnCycle makers f
    → e ≡ f
least-is-one makers e f is also = by (cases_order e f)
  where
    by : (e ≡ f) ⊎ ((e < f) ⊎ (f < e)) → e ≡ f
    by (inl same) = same
    by (inr (inl below)) = absurd (also.1 e below is.0)
    by (inr (inr above)) = absurd (is.1 f above also.0)

pub one-cycle : (edges : List EdgeModel) (one other : GraphFault) → IsCycleFault edges one
    → IsCycleFault edges other → one ≡ other
one-cycle edges one other is also =
    let number =
    least-is-one (makers_of_inputs (paths_of_edges edges)) is.number also.number is.least also.least in
    let edge : is.edge ≡ also.edge =
    same_Some is.edge also.edge (sym is.edge_is ∙ ap (slice_get edges) number ∙ also.edge_is) in
    let output : is.output ≡ also.output = same_Some is.output also.output
    (sym is.output_is ∙ ap (λ (e : EdgeModel). first_output e.paths) edge ∙ also.output_is) in
    is.fault_is ∙ ap (λ (e : EdgeModel). fault_at e.file e.spot (Cycle is.output)) edge
    ∙ ap (λ o. fault_at also.edge.file also.edge.spot (Cycle o)) output ∙ sym also.fault_is

-- edges of statements cannot both be free of cycles and have the fault of a cycle
pub acyclic-or-cycle : (entries : List ReadStatement) (fault : GraphFault)
    → IsAcyclic (makers_of_inputs (paths_of_edges (edges_read entries)))
    (length (paths_of_edges (edges_read entries)))
    → IsCycleFault (edges_read entries) fault → ⊥
acyclic-or-cycle entries fault acyclic cycle =
    falling_ranks_leave_no_cycle (makers_of_inputs (paths_of_edges (edges_read entries))) acyclic.0
    acyclic.1.falls cycle.number cycle.least.0

pub no-cycle : (g : GraphModel) (entries : List ReadStatement) (fault : GraphFault) → IsGraphOf g entries
    → IsCycleFault (edges_read entries) fault → ⊥
no-cycle g entries fault is cycle = acyclic-or-cycle entries fault
    (subst (λ (es : List EdgePaths). IsAcyclic (makers_of_inputs es) (length es)) is.built.paths is.acyclic)
    cycle

-- ---- joined inputs

pub joined-or-none : (named : (edge : ℕ) → List (List ℕ)) (stated : List ReadStatement) (g : GraphModel)
    (fault : GraphFault) → JoinsNamed named stated (Ok g) → JoinsNamed named stated (Err fault)
    → IsGraphOutOfMemory fault
joined-or-none named stated g fault is (inl none) = none
joined-or-none named stated g fault is (inr cycle) =
    absurd (no-cycle g (with_named named stated) fault is cycle)

pub join-faults : (named : (edge : ℕ) → List (List ℕ)) (stated : List ReadStatement) (one other : GraphFault)
    → JoinsNamed named stated (Err one) → JoinsNamed named stated (Err other)
    → (one ≡ other) ⊎ (IsGraphOutOfMemory one ⊎ IsGraphOutOfMemory other)
join-faults named stated one other (inl none) _ = inr (inl none)
join-faults named stated one other (inr cycle) (inl none) = inr (inr none)
join-faults named stated one other (inr cycle) (inr more) =
    inl (one-cycle (edges_read (with_named named stated)) one other cycle more)

pub joins-agree : (named : (edge : ℕ) → List (List ℕ)) (stated : List ReadStatement) (origins : OriginsModel)
    → (one other : Result GraphModel GraphFault) → JoinsNamed named stated one → JoinsNamed named stated other
    → IfOk one (λ g. g.origins ≡ origins) → IfOk other (λ g. g.origins ≡ origins)
    → AgreeUpTo SameGraph IsGraphOutOfMemory one other
joins-agree named stated origins (Ok a) (Ok b) is also from from2 =
    same-graph a b (with_named named stated) is also (from ∙ sym from2)
joins-agree named stated origins (Ok a) (Err f) is bad _ _ = joined-or-none named stated a f is bad
joins-agree named stated origins (Err e) (Ok b) bad is _ _ = joined-or-none named stated b e is bad
joins-agree named stated origins (Err e) (Err f) bad bad2 _ _ = join-faults named stated e f bad bad2

-- the origins are those of the same graph
pub same-from : (one other : GraphModel) → one ≡ other → (result : Result GraphModel GraphFault)
    → IfOk result (λ g. g.origins ≡ other.origins) → IfOk result (λ g. g.origins ≡ one.origins)
same-from one other same (Ok g) is = is ∙ ap (λ (k : GraphModel). k.origins) (sym same)
same-from one other same (Err fault) is = tt
