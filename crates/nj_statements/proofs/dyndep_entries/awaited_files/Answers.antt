use Rattle.std.proofs.Common.{Vec, ap, ◌≡◌, ◌<◌, ◌+◌, inl, inr, length, take, get_or, arith, refl, sym, subst}
use Rattle.std.proofs.Common.{◌∙◌}
use Rattle.std.proofs.lemmas.List.{length-set, length-take, get_or_read}
use Rattle.std.specs.Global.{Global}
use Rattle.nj_names.specs.declared.files.FileNo.{FileNo}
use Rattle.nj_statements.specs.declared.records.DyndepEdge.{DyndepEdge}
use Rattle.nj_statements.proofs.PendingLemmas.{count-most, default-edge, first-next, counts-next, rest-known}
use Rattle.nj_statements.proofs.dyndep_entries.awaited_files.Goals as goal
use Rattle.nj_statements.proofs.dyndep_entries.awaited_files.Goals.{then-index-eq0+in_ok-push, else-index-eq0}

pub overflow_add-index_mut : goal.overflow_add-index_mut
overflow_add-index_mut c =
    let ds = c.args.dyndeps.now in
    let i = c.dyndeps.dyndep-index in
    let file : FileNo = (get_or ds i default-edge).file in
    let below = c.dyndeps-test.true in
    let rest = rest-known (λ (e : DyndepEdge). e.file.0 < c.args.file_count) ds i default-edge below
    c.dyndeps.invariant.known in
    let inside : file.0 < length c.dyndeps.unjoined.items =
    subst (λ n. file.0 < n) (sym c.dyndeps.invariant.count) rest.0 in
    let is : c.index_mut.result.now ≡ get_or c.dyndeps.unjoined.items file.0 0 =
    get_or_read c.dyndeps.unjoined.items file.0 c.index_mut.result.now inside c.index_mut.ensures.value 0
    in
    let count = c.dyndeps.invariant.unjoined file in
    let most = count-most file (take i ds) in
    let seen = length-take i ds in
    omega (arith, is, count, most, seen, below)

pub dyndeps-preserved : goal.dyndeps-preserved
dyndeps-preserved c =
    let ds = c.args.dyndeps.now in
    let i = c.dyndeps.dyndep-index in
    let d : DyndepEdge = get_or ds i default-edge in
    let below = c.dyndeps-test.true in
    let seen = c.dyndeps.invariant.unjoined d.file in
    let rest = rest-known (λ (e : DyndepEdge). e.file.0 < c.args.file_count) ds i default-edge below
    c.dyndeps.invariant.known in
    let inside : d.file.0 < length c.dyndeps.unjoined.items =
    subst (λ n. d.file.0 < n) (sym c.dyndeps.invariant.count) rest.0 in
    let was : c.index.result.now ≡ get_or c.dyndeps.unjoined.items d.file.0 0 =
    get_or_read c.dyndeps.unjoined.items d.file.0 c.index.result.now inside c.index.ensures 0 in
    let is : c.index_mut.result.now ≡ get_or c.dyndeps.unjoined.items d.file.0 0 =
    get_or_read c.dyndeps.unjoined.items d.file.0 c.index_mut.result.now inside c.index_mut.ensures.value
    0 in
    record {
      firsts = first-next ds i c.index.result.now c.dyndeps.dyndep_files.items
          c.if-index-eq0.dyndep_files.items below (was ∙ seen) c.dyndeps.invariant.firsts
          (elim c.if-index-eq0.branch [
            | then-index-eq0+in_ok-push w ↦ inl (
              w.if-index-eq0.true,
              ap (λ (v : Vec DyndepEdge Global). v.items) w.dyndep_files-is
                  ∙ w.in_ok-push.ensures.items,
            )
            | else-index-eq0 w ↦ inr (
              w.if-index-eq0.false,
              ap (λ (v : Vec DyndepEdge Global). v.items) w.dyndep_files-is,
            )
          ]);
      count = length-set c.dyndeps.unjoined.items d.file.0 (c.index_mut.result.now + 1)
          ∙ c.dyndeps.invariant.count;
      unjoined = counts-next ds i d.file.0 c.index_mut.result.now c.dyndeps.unjoined.items below refl inside
          is c.dyndeps.invariant.unjoined;
      known = rest.1;
    }
