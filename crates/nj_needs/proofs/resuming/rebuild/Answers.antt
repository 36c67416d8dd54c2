use Rattle.std.proofs.Common.{◌≡◌, ◌<◌, ◌⊎◌, inl, inr, ℕ, List, [], length, get_or, sym, ap, ◌∙◌, arith}
use Rattle.std.proofs.lemmas.List.{take_all, get_or_default, append-nil}
use Rattle.nj_needs.specs.Inside.Standing.{IsWalk, TurnIs}
use Rattle.nj_needs.specs.declared.walk.Walk.{Walk}
use Rattle.nj_needs.specs.declared.walk.Turn.{Turn}
use Rattle.nj_needs.proofs.RebuildLemmas.{IsOnWay, IsCut, IsOpened, way-step, way-place_in, way-heading}
use Rattle.nj_needs.proofs.RebuildLemmas.{way-last_in, way-rest}
use Rattle.nj_needs.proofs.resuming.rebuild.Goals as goal

-- the walk after it reached the place of a number
reached : (u r : Walk) (graph : r.turns.graph ≡ u.turns.graph) (targets : r.turns.targets ≡ u.turns.targets)
    (numbers : List ℕ) (i : ℕ) → IsOnWay u numbers i → IsWalk r → r.path.items ≡ u.path.items
    → IsOnWay r numbers i
reached u r graph targets numbers i h walk path =
    record { walk = walk; path = rw path h.path; valid = rw (graph, targets, path) h.valid }

-- one step of the way
stepped : (u r v : Walk) (t : Turn) (numbers : List ℕ) (i : ℕ) → i < length numbers → IsOnWay u numbers i
    → r.turns.graph ≡ u.turns.graph → r.turns.targets ≡ u.turns.targets → IsWalk r
    → r.path.items ≡ u.path.items
    → r.place ≡ get_or numbers i 0 → v.turns.graph ≡ r.turns.graph → v.turns.targets ≡ r.turns.targets
    → IsWalk v → TurnIs r t v → IsCut r v numbers ⊎ IsOpened r v numbers i
stepped u r v t numbers i lt on graph targets walk path place graph' targets' after turn =
    way-step r v graph' targets' numbers i (get_or numbers i 0) lt
    (get_or_default numbers i 0 (get_or numbers i 0) lt)
    (reached u r graph targets numbers i on walk path) place after t turn

-- the walk stays where it is: the edge was done
pub returns-then-len-before-clause-rest : goal.returns-then-len-before-clause-rest
returns-then-len-before-clause-rest c =
    let u = c.steps.walk in
    let i = c.steps.invariant in
    let r = c.reach.ensures in
    let e = c.take_turn.ensures in
    let path : c.reach.new.walk.path.items ≡ u.path.items =
    r.path ∙ take_all c.len-before.result u.path.items (omega (arith, c.len-before.ensures)) in
    elim (stepped u c.reach.new.walk c.take_turn.new.self c.take_turn.result c.args.numbers.now
    c.steps.number-index c.steps-test.true (record { walk = i.walk; path = i.path; valid = i.valid })
    r.graph r.targets r.walk_after path r.place e.graph e.targets e.walk e.turn) [
      | inl cut ↦ cut.1
      | inr opened ↦ absurd (let one = opened.0 in let same = ap length path in
          omega (arith, one, same, c.if-len-before.true, c.len.ensures, c.len-before.ensures))
    ]

pub steps-preserved : goal.steps-preserved
steps-preserved c =
    let u = c.steps.walk in
    let i = c.steps.invariant in
    let r = c.reach.ensures in
    let e = c.take_turn.ensures in
    let path : c.reach.new.walk.path.items ≡ u.path.items =
    r.path ∙ take_all c.len-before.result u.path.items (omega (arith, c.len-before.ensures)) in
    let opened : IsOpened c.reach.new.walk c.take_turn.new.self c.args.numbers.now c.steps.number-index =
    elim (stepped u c.reach.new.walk c.take_turn.new.self c.take_turn.result c.args.numbers.now
    c.steps.number-index c.steps-test.true (record { walk = i.walk; path = i.path; valid = i.valid })
    r.graph r.targets r.walk_after path r.place e.graph e.targets e.walk e.turn) [
      | inl cut ↦ absurd (let same = ap length (cut.0 ∙ path) in
          omega (arith, same, c.len.ensures, c.len-before.ensures, c.if-len-before.false))
      | inr o ↦ o
    ] in
    record {
      walk = e.walk;
      path = opened.2.path;
      place = opened.1;
      valid = opened.2.valid;
      graph = e.graph ∙ r.graph ∙ i.graph;
      targets = e.targets ∙ r.targets ∙ i.targets;
      begun = e.begun ∙ r.begun ∙ i.begun;
    }

pub reach-requires-clause-heading : goal.reach-requires-clause-heading
reach-requires-clause-heading c =
    let u = c.steps.walk in
    rw (
      take_all c.len-before.result u.path.items (omega (arith, c.len-before.ensures)),
      c.steps.invariant.place,
    )
    (record { more = []; is = sym (append-nil u.path.items); ahead = omega arith })

pub reach-requires-clause-place_in : goal.reach-requires-clause-place_in
reach-requires-clause-place_in c =
    let u = c.steps.walk in
    let numbers = c.args.numbers.now in
    let i = c.steps.number-index in
    let v = c.steps.invariant in
    rw (take_all c.len-before.result u.path.items (omega (arith, c.len-before.ensures)))
    (way-place_in u numbers i (get_or numbers i 0) c.steps-test.true
    (get_or_default numbers i 0 (get_or numbers i 0) c.steps-test.true)
    (record { walk = v.walk; path = v.path; valid = v.valid }))

-- ---- at the end of the mark

pub reach-requires-2-clause-heading : goal.reach-requires-2-clause-heading
reach-requires-2-clause-heading c =
    let v = c.steps.invariant in
    let numbers = c.args.numbers.now in
    way-heading c.steps.walk numbers c.steps.number-index c.steps-test.false
    (record { walk = v.walk; path = v.path; valid = v.valid }) c.get-after.result c.get-after.ensures

pub reach-requires-2-clause-place_in : goal.reach-requires-2-clause-place_in
reach-requires-2-clause-place_in c =
    let v = c.steps.invariant in
    let numbers = c.args.numbers.now in
    way-last_in c.steps.walk numbers c.steps.number-index c.steps-test.false
    (record { walk = v.walk; path = v.path; valid = v.valid }) c.get-after.result c.get-after.ensures

pub returns-clause-rest : goal.returns-clause-rest
returns-clause-rest c =
    let v = c.steps.invariant in
    let r = c.reach-2.ensures in
    let numbers = c.args.numbers.now in
    let rest = way-rest c.steps.walk numbers c.steps.number-index c.steps-test.false
    (record { walk = v.walk; path = v.path; valid = v.valid }) c.get-after.result c.get-after.ensures in
    rw (r.graph, r.targets, r.path, r.place) rest
