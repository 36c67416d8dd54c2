use Rattle.std.proofs.Common.{◌≡◌, ◌⊎◌, inl, ◌<◌, ◌==◌, ◌≢◌, true, false, true≢false, ℕ, Option, Some}
use Rattle.std.proofs.Common.{option_map, length, get_or, slice_get, inr, sym, ap, subst, ◌∙◌}
use Rattle.std.proofs.lemmas.Bool.Decides.{eqb_tells}
use Rattle.nj_edges.specs.declared.edges.EdgeNo.{EdgeNo}
use Rattle.nj_statements.specs.declared.records.DyndepEdge.{DyndepEdge}
use Rattle.nj_edges.specs.Edges.{edge_at, first_edge}
use Rattle.nj_names.specs.Files.{path_at}
use Rattle.nj_faults.specs.declared.fault.GraphFault.{GraphFault}
use Rattle.nj_faults.specs.Faults.{IsFault}
use Rattle.nj_statements.specs.Built.{detail_at}
use Rattle.nj_statements.specs.Joining.{lacking_fault}
use Rattle.nj_statements.specs.JoiningHeld.{JoiningModel, HasJoined, still_pending}
use Rattle.nj_statements.specs.Inside.JoiningFields.{fields_of}
use Rattle.nj_statements.specs.Inside.JoiningSteps.{fault_of_pending, is_bound_to}
use Rattle.nj_statements.proofs.JoiningLemmas.{path-there, unjoined-known, none-lacks, zero-lacks, one-lacks}
use Rattle.nj_statements.proofs.dyndep_entries.Joining.end_file.Goals as goal

is-zero : (n : ℕ) → true ≡ (n == 0) → n ≡ 0
is-zero n h = by (eqb_tells n 0)
  where
    by : ((n == 0) ≡ true × (n ≡ 0)) ⊎ ((n == 0) ≡ false × (n ≢ 0)) → n ≡ 0
    by (inl (same, is)) = is
    by (inr (other, apart)) = absurd (true≢false (h ∙ other))

pub returns-then-is_zero : goal.returns-then-is_zero
returns-then-is_zero c = λ stated joined has'.
    let t = c.self.inside.edges in
    let has = subst (λ (h : JoiningModel). HasJoined h stated joined) (sym c.self.view_is) has' in
    let below : c.args.file.0 < length t.files =
    subst (λ (h : JoiningModel). c.args.file.0 < length h.table.files) (sym c.self.view_is) c.requires in
    let name = path_at t.files c.args.file in
    let here : slice_get t.files c.args.file.0 ≡ Some name = path-there t.files c.args.file below in
    let path : name ≡ path_at c.args.self.now.table.files c.args.file =
    ap (λ (h : JoiningModel). path_at h.table.files c.args.file) c.self.view_is in
    ap (λ p. lacking_fault p joined) (sym path)
    ∙ zero-lacks (fields_of c.self.inside) c.self.invariant stated joined has c.args.file name here
    (subst (λ ws. get_or ws c.args.file.0 0 ≡ 0) c.deref.ensures.value
    (is-zero (get_or c.deref.result.now c.args.file.0 0) c.if-is_zero.ensures))

pub returns-in-None : goal.returns-in-None
returns-in-None c = λ stated joined has'.
    let t = c.self.inside.edges in
    let has = subst (λ (h : JoiningModel). HasJoined h stated joined) (sym c.self.view_is) has' in
    let below : c.args.file.0 < length t.files =
    subst (λ (h : JoiningModel). c.args.file.0 < length h.table.files) (sym c.self.view_is) c.requires in
    let name = path_at t.files c.args.file in
    let here : slice_get t.files c.args.file.0 ≡ Some name = path-there t.files c.args.file below in
    let path : name ≡ path_at c.args.self.now.table.files c.args.file =
    ap (λ (h : JoiningModel). path_at h.table.files c.args.file) c.self.view_is in
    let first : option_map (λ (e : EdgeNo). e.0) c.pending_edge.result
    ≡ first_edge (λ w. is_bound_to w c.args.file) (still_pending c.self.inside.bound.items t.was_joined) =
    c.pending_edge.ensures ∙ ap (λ bs. first_edge (λ (w : Option DyndepEdge). is_bound_to w c.args.file)
    (still_pending bs t.was_joined)) c.deref-2.ensures.value in
    ap (λ p. lacking_fault p joined) (sym path)
    ∙ none-lacks (fields_of c.self.inside) c.self.invariant stated joined has c.args.file name here
    (sym first ∙ ap (option_map (λ (e : EdgeNo). e.0)) c.in-None.is)

pub no_statement-requires-clause-edge : goal.no_statement-requires-clause-edge
no_statement-requires-clause-edge c =
    subst (λ (h : JoiningModel). c.in-Some.edge.0 < length h.table.stated) c.self.view_is
    (unjoined-known (fields_of c.self.inside) c.self.invariant c.args.file c.in-Some.edge.0
    (subst (λ bs. first_edge (λ (w : Option DyndepEdge). is_bound_to w c.args.file)
    (still_pending bs c.self.inside.edges.was_joined) ≡ Some c.in-Some.edge.0) c.deref-2.ensures.value
    (sym c.pending_edge.ensures ∙ ap (option_map (λ (e : EdgeNo). e.0)) c.in-Some.is)))

pub returns-in_ok-no_statement-in-Some : goal.returns-in_ok-no_statement-in-Some
returns-in_ok-no_statement-in-Some c = λ stated joined has'.
    let t = c.self.inside.edges in
    let has = subst (λ (h : JoiningModel). HasJoined h stated joined) (sym c.self.view_is) has' in
    let below : c.args.file.0 < length t.files =
    subst (λ (h : JoiningModel). c.args.file.0 < length h.table.files) (sym c.self.view_is) c.requires in
    let name = path_at t.files c.args.file in
    let here : slice_get t.files c.args.file.0 ≡ Some name = path-there t.files c.args.file below in
    let path : name ≡ path_at c.args.self.now.table.files c.args.file =
    ap (λ (h : JoiningModel). path_at h.table.files c.args.file) c.self.view_is in
    let first : option_map (λ (e : EdgeNo). e.0) c.pending_edge.result
    ≡ first_edge (λ w. is_bound_to w c.args.file) (still_pending c.self.inside.bound.items t.was_joined) =
    c.pending_edge.ensures ∙ ap (λ bs. first_edge (λ (w : Option DyndepEdge). is_bound_to w c.args.file)
    (still_pending bs t.was_joined)) c.deref-2.ensures.value in
    let is = one-lacks (fields_of c.self.inside) c.self.invariant stated joined has c.args.file
    name here c.in-Some.edge.0 (sym first ∙ ap (option_map (λ (e : EdgeNo). e.0)) c.in-Some.is) in
    let lacks = ap (λ p. lacking_fault p joined) (sym path) ∙ is
    ∙ ap (λ (h : JoiningModel). Some (fault_of_pending (path_at h.table.files c.args.file)
    (detail_at h.details c.in-Some.edge.0) (edge_at h.table.stated c.in-Some.edge.0))) c.self.view_is in
    subst (λ (o : Option GraphFault). IsFault o c.in_ok-no_statement-in-Some.field-0) (sym lacks)
    c.in_ok-no_statement-in-Some.ensures
