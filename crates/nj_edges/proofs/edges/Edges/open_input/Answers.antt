use Rattle.std.proofs.Common.{◌∙◌, drop, slice_get, ap, sym}
use Rattle.nj_names.proofs.NameLemmas.{found-at}
use Rattle.nj_edges.specs.Edges.{is_among}
use Rattle.nj_edges.specs.Inside.EdgesHeld.{has_number}
use Rattle.nj_edges.proofs.NamedLemmas.{open-none, open-has}
use Rattle.nj_edges.proofs.edges.Edges.open_input.Goals as goal

pub returns-in_err-file-clause-input : goal.returns-in_err-file-clause-input
returns-in_err-file-clause-input c =
    let inside = c.self.inside in
    rw (c.from_residual.ensures)
    (sym (open-none inside.files inside.lists.inputs.items inside.lists.starts.inputs
    c.self.invariant.edges_are.inputs.are c.args.path.now (sym c.in_err-file.ensures.known))
    ∙ ap (λ t. is_among t.«open».inputs c.args.path.now) c.self.view_is)

pub returns-then-has_file-clause-input : goal.returns-then-has_file-clause-input
returns-then-has_file-clause-input c =
    let inside = c.self.inside in
    let here = found-at c.args.path.now inside.files c.in_ok-file.file.0 (sym c.in_ok-file.ensures.index) in
    let has = open-has inside.files inside.lists.inputs.items inside.lists.starts.inputs
    c.self.invariant.edges_are.distinct c.self.invariant.edges_are.inputs.are c.in_ok-file.file.0
    c.args.path.now here in
    c.if-has_file.ensures
    ∙ ap (λ ns. has_number c.in_ok-file.file.0 ns)
    (c.after.ensures ∙ ap (drop inside.lists.starts.inputs) c.deref.ensures.value)
    ∙ has ∙ ap (λ t. is_among t.«open».inputs c.args.path.now) c.self.view_is

pub returns-then-has_file-clause-file : goal.returns-then-has_file-clause-file
returns-then-has_file-clause-file c =
    let inside = c.self.inside in
    let here = found-at c.args.path.now inside.files c.in_ok-file.file.0 (sym c.in_ok-file.ensures.index) in
    ap (λ t. slice_get t.files c.in_ok-file.file.0) (sym c.self.view_is) ∙ here

pub returns-clause-input : goal.returns-clause-input
returns-clause-input c =
    let inside = c.self.inside in
    let here = found-at c.args.path.now inside.files c.in_ok-file.file.0 (sym c.in_ok-file.ensures.index) in
    let has = open-has inside.files inside.lists.inputs.items inside.lists.starts.inputs
    c.self.invariant.edges_are.distinct c.self.invariant.edges_are.inputs.are c.in_ok-file.file.0
    c.args.path.now here in
    c.if-has_file.ensures
    ∙ ap (λ ns. has_number c.in_ok-file.file.0 ns)
    (c.after.ensures ∙ ap (drop inside.lists.starts.inputs) c.deref.ensures.value)
    ∙ has ∙ ap (λ t. is_among t.«open».inputs c.args.path.now) c.self.view_is
