use Rattle.std.proofs.Common.{◌≡◌, ◌<◌, Some, List, [], ◌∷◌, length, set, reverse, refl, ap, sym, ◌∙◌, subst}
use Rattle.std.proofs.Common.{arith}
use Rattle.std.proofs.lemmas.List.{length_push, length-reverse}
use Rattle.nj_graph.specs.Graph.{edges_of, GraphModel, IsGraphOf}
use Rattle.nj_graph.specs.ReadingList.{ReadStatement}
use Rattle.nj_graph.specs.Handles.{edge_of}
use Rattle.nj_keys.specs.declared.keys.Frame.{Frame}
use Rattle.nj_keys.specs.Keys.{IsKey, edges_stated}
use Rattle.nj_keys.specs.Inside.Keeping.{AreOpen, BeganWith, IsMissing, KeepsKeys}
use Rattle.nj_keys.proofs.MakerLemmas.{kept-at, missing-at}
use Rattle.nj_keys.proofs.OpenLemmas.{began-closed, began-next, keys-set, makers-kept, missing-set}
use Rattle.nj_keys.proofs.OpenLemmas.{open-closed}
use Rattle.nj_keys.proofs.OpenLemmas.{open-first, open-length, open-next, reverse-last}
use Rattle.nj_keys.proofs.keys.keep_key.Goals as goal

pub returns-then-is_some-clause-kept : goal.returns-then-is_some-clause-kept
returns-then-is_some-clause-kept c =
    kept-at c.args.keys.now c.number.result.0 (edge_of c.args.edge).number c.number.ensures.number
    (omega (arith, c.number.ensures.known, c.requires.count)) (sym c.if-is_some.ensures)

pub open-init : goal.open-init
open-init c =
    let edge = edge_of c.args.edge in
    let keys = c.args.keys.now in
    let rank = c.requires.acyclic.0 in
    let ranked = c.requires.acyclic.1 in
    let first = c.opened.result in
    let pushed : reverse c.push.new.self.items ≡ first ∷ [] =
    reverse-last c.new-open.result.items c.push.new.self.items first c.in_ok-push.ensures.items
    ∙ ap (λ frames. first ∷ reverse frames) c.new-open.ensures.items in
    let missing = missing-at keys c.number.result.0 edge.number c.number.ensures.number
    (omega (arith, c.number.ensures.known, c.requires.count)) (sym c.if-is_some.ensures) in
    record {
      rank = rank;
      ranked = ranked;
      frames = subst (AreOpen edge.graph keys rank 0) (sym pushed)
          (open-first edge.graph rank ranked keys first edge refl missing c.opened.ensures.edge
          c.opened.ensures.inputs);
      began = subst (BeganWith keys edge.number) (sym pushed) (ap (λ e. e.number) c.opened.ensures.edge);
      keys = λ entries graph keeps. keeps;
    }

pub open-smaller-in_ok-push-in-Some-missing_maker-2 : goal.open-smaller-in_ok-push-in-Some-missing_maker-2
open-smaller-in_ok-push-in-Some-missing_maker-2 c =
    let i = c.open.invariant in
    let g = (edge_of c.args.edge).graph in
    let frame = c.in-Some.frame in
    let here : Frame = record { edge = frame.edge; inputs = c.missing_maker.new.files } in
    let bound = open-length g i.rank i.ranked c.open.keys (c.open.auto.keys ∙ c.requires.count) 0
    (reverse c.open.open.items) (omega arith) i.frames in
    omega (
      arith,
      bound,
      length-reverse c.open.open.items,
      ap length c.in-Some.ensures.items,
      ap length c.in_ok-push-in-Some-missing_maker.ensures.items,
      ap length c.in_ok-push-in-Some-missing_maker-2.ensures.items,
      length_push c.pop.new.self.items frame,
      length_push c.pop.new.self.items here,
      length_push c.push-in-Some-missing_maker.new.self.items c.opened-in-Some-missing_maker.result,
    )

pub open-preserved-in_ok-push-in-Some-missing_maker-2 : goal.open-preserved-in_ok-push-in-Some-missing_maker-2
open-preserved-in_ok-push-in-Some-missing_maker-2 c =
    let i = c.open.invariant in
    let edge = edge_of c.args.edge in
    let keys = c.open.keys in
    let frame = c.in-Some.frame in
    let found = c.in-Some-missing_maker in
    let here : Frame = record { edge = frame.edge; inputs = c.missing_maker.new.files } in
    let next = c.opened-in-Some-missing_maker.result in
    let next-is = c.opened-in-Some-missing_maker.ensures in
    let below = reverse c.pop.new.self.items in
    let popped : reverse c.open.open.items ≡ frame ∷ below =
    reverse-last c.pop.new.self.items c.open.open.items frame c.in-Some.ensures.items in
    let pushed : reverse c.push-in-Some-missing_maker-2.new.self.items ≡ next ∷ here ∷ below =
    reverse-last c.push-in-Some-missing_maker.new.self.items c.push-in-Some-missing_maker-2.new.self.items
    next c.in_ok-push-in-Some-missing_maker-2.ensures.items
    ∙ ap (λ fs. next ∷ fs) (reverse-last c.pop.new.self.items c.push-in-Some-missing_maker.new.self.items here
    c.in_ok-push-in-Some-missing_maker.ensures.items)
    in
    let are = subst (AreOpen edge.graph keys i.rank 0) popped i.frames in
    record {
      rank = i.rank;
      ranked = i.ranked;
      frames = subst (AreOpen edge.graph keys i.rank 0) (sym pushed)
          (open-next edge.graph i.rank i.ranked keys frame here next below (edge_of found.maker) are refl
          found.ensures.fewer found.ensures.left found.ensures.found found.ensures.missing next-is.edge
          next-is.inputs);
      began = subst (BeganWith keys edge.number) (sym pushed)
          (began-next keys edge.number frame here next below refl
          (subst (BeganWith keys edge.number) popped i.began));
      keys = i.keys;
    }

pub key_of-requires : goal.key_of-requires
key_of-requires c =
    let i = c.open.invariant in
    let g = (edge_of c.args.edge).graph in
    let frame = c.in-Some.frame in
    let popped : reverse c.open.open.items ≡ frame ∷ reverse c.pop.new.self.items =
    reverse-last c.pop.new.self.items c.open.open.items frame c.in-Some.ensures.items in
    let are = subst (AreOpen g c.open.keys i.rank 0) popped i.frames in
    makers-kept g i.rank i.ranked c.open.keys (c.open.auto.keys ∙ c.requires.count) 0 (edge_of frame.edge)
    frame.inputs are.0 c.in-None.ensures.none

pub open-smaller : goal.open-smaller
open-smaller c =
    let i = c.open.invariant in
    let keys = c.open.keys in
    let frame = c.in-Some.frame in
    let popped : reverse c.open.open.items ≡ frame ∷ reverse c.pop.new.self.items =
    reverse-last c.pop.new.self.items c.open.open.items frame c.in-Some.ensures.items in
    let are = subst (AreOpen (edge_of c.args.edge).graph keys i.rank 0) popped i.frames in
    let missing = subst (IsMissing keys) (sym c.number-in-None.ensures.number) are.0.missing in
    let fewer = missing-set keys c.number-in-None.result.0 c.in_ok-key_of-in-None.field-0 missing in
    omega (arith, fewer, ap length c.in-Some.ensures.items, length_push c.pop.new.self.items frame)

pub open-preserved : goal.open-preserved
open-preserved c =
    let i = c.open.invariant in
    let edge = edge_of c.args.edge in
    let bases = c.args.bases.now in
    let counts = c.args.counts.now in
    let stated = edges_stated counts (edges_of edge.graph) in
    let keys = c.open.keys in
    let frame = c.in-Some.frame in
    let user = edge_of frame.edge in
    let key = c.in_ok-key_of-in-None.field-0 in
    let below = reverse c.pop.new.self.items in
    let popped : reverse c.open.open.items ≡ frame ∷ below =
    reverse-last c.pop.new.self.items c.open.open.items frame c.in-Some.ensures.items in
    let are = subst (AreOpen edge.graph keys i.rank 0) popped i.frames in
    let place : user.number ≡ c.number-in-None.result.0 = sym c.number-in-None.ensures.number in
    let known = ap (λ (g : GraphModel). length (edges_of g)) are.0.graph in
    let within : user.number < length keys =
    omega (arith, place, known, c.number-in-None.ensures.known, c.requires.count, c.open.auto.keys) in
    let is_key = subst (λ (g : GraphModel). (entries : List ReadStatement) → IsGraphOf g entries
    → KeepsKeys bases (edges_stated counts (edges_of g)) entries keys
    → IsKey bases (edges_stated counts (edges_of g)) entries user.number key)
    are.0.graph c.in_ok-key_of-in-None.ensures in
    record {
      rank = i.rank;
      ranked = i.ranked;
      frames = subst (λ n. AreOpen edge.graph (set keys n (Some key)) i.rank 0 below) place
          (open-closed edge.graph i.rank i.ranked keys key frame below are);
      began = subst (λ n. BeganWith (set keys n (Some key)) edge.number below) place
          (began-closed keys edge.number key frame below within
          (subst (BeganWith keys edge.number) popped i.began));
      keys = λ entries graph kept.
          let so_far = i.keys entries graph kept in
          subst (λ n. KeepsKeys bases stated entries (set keys n (Some key))) place
          (keys-set keys user.number key bases stated entries (is_key entries graph so_far) so_far);
    }
