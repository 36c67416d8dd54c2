use Rattle.std.proofs.Common.{◌<◌, All, Bool, List, ap, false, map, sym, subst, ◌∙◌}
use Rattle.std.specs.Prelude.{find, slice_index_or}
use Rattle.nj_graph.specs.declared.EdgeNo.{EdgeNo}
use Rattle.nj_ask.specs.declared.doubts.EdgeFault.{EdgeFault}
use Rattle.nj_ask.specs.Manifest.{is_one_of}
use Rattle.nj_ask.specs.Inside.Flags.{AreFlags}
use Rattle.nj_ask.proofs.FaultLemmas.{find-same, tell-all}
use Rattle.nj_ask.proofs.needed_faults.needed_fault.Goals as goal

pub edge_flags-requires : goal.edge_flags-requires
edge_flags-requires c =
    let count = rw c.deref-2.ensures at c.edge_count.ensures.count in
    subst (All (λ (e : EdgeNo). e.0 < c.edge_count.result)) (sym c.deref-3.ensures.value)
    (subst (λ n. All (λ (e : EdgeNo). e.0 < n) c.in_ok-needed.needed.items) (sym count)
    (rw c.deref.ensures at c.in_ok-needed.ensures.known))

pub returns : goal.returns
returns c =
    let count = rw c.deref-2.ensures at c.edge_count.ensures.count in
    let edges = c.in_ok-needed.needed.items in
    let numbers = map (λ (e : EdgeNo). e.0) edges in
    let flags = c.in_ok-flags.flags.items in
    let below = subst (λ n. All (λ (e : EdgeNo). e.0 < n) edges) (sym count)
    (rw c.deref.ensures at c.in_ok-needed.ensures.known) in
    let are = subst (λ (es : List EdgeNo). AreFlags c.edge_count.result (map (λ (e : EdgeNo). e.0) es) flags)
    c.deref-3.ensures.value c.in_ok-flags.ensures in
    record {
      needed = numbers;
      are_needed = λ e. rw c.deref.ensures at (c.in_ok-needed.ensures.needed e);
      first = c.first_flagged.ensures
          ∙ ap (find (λ (f : EdgeFault). slice_index_or c.deref-5.result.now f.edge.0 false))
          c.deref-4.ensures.value
          ∙ ap (λ (bs : List Bool). find (λ (f : EdgeFault). slice_index_or bs f.edge.0 false)
          c.args.known.now.faults.items) c.deref-5.ensures.value
          ∙ find-same (λ (f : EdgeFault). slice_index_or flags f.edge.0 false)
          (λ (f : EdgeFault). is_one_of numbers f.edge.0) c.args.known.now.faults.items
          (λ f. tell-all c.edge_count.result edges flags below are f.edge.0);
    }
