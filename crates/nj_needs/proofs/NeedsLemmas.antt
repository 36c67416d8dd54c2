-- The state of a walk and its saved address, at the start and after each turn.
use Rattle.std.proofs.lemmas.Grind.{common_steps}
use Rattle.std.proofs.Common.{◌≡◌, ℕ, ◌+◌, ◌-◌, ◌<◌, ◌≤◌, min, Bool, true, false, cond, List, [], ◌∷◌, ◌++◌}
use Rattle.std.proofs.Common.{length, get_or, take, sym, ap, subst, ◌∙◌, inl, inr, arith}
use Rattle.std.proofs.lemmas.List.{take-take, take-append-le, map_push, length-map}
use Rattle.nj_cycles.specs.Cycles.{IsAcyclic}
use Rattle.nj_names.specs.declared.files.FileNo.{FileNo}
use Rattle.nj_edges.specs.EdgeGraphs.{EdgeGraph}
use Rattle.nj_needs.specs.Counts.{saturated}
use Rattle.nj_needs.specs.Graphs.{row_of, makers_of, count_of}
use Rattle.nj_needs.specs.Needs.{AreWithin}
use Rattle.nj_needs.specs.Inside.Paths.{places}
use Rattle.nj_needs.specs.Inside.Reserved.{Reserved}
use Rattle.nj_needs.specs.Inside.Saved.{KeepsFront}
use Rattle.nj_needs.specs.Inside.Standing.{IsWalkAt, IsWalk, left_of, turns_left_of, HasLooked, HasClosed}
use Rattle.nj_needs.specs.Inside.Standing.{HasEnded}
use Rattle.nj_needs.specs.Walks.{IsSound, IsSameWalk, rest_of, IsFirstPlaceOf}
use Rattle.nj_needs.specs.Inside.Views.{state_of, IsNeeds}
use Rattle.nj_needs.specs.declared.frame.Frame.{Frame}
use Rattle.nj_needs.specs.declared.resume_point.Saved.{Saved}
use Rattle.nj_needs.specs.declared.walk.Walk.{Walk}
use Rattle.nj_needs.proofs.Turning.{turns_left-start}

-- a walk that begins
pub IsWalkAt-start : (g : EdgeGraph) (targets : List FileNo) (turns : ℕ) (path : Reserved Frame)
    (flags : List Bool) (begun : ℕ)
    → IsAcyclic (makers_of g) (count_of g) → AreWithin (row_of g targets) (count_of g)
    → turns ≡ saturated begun → path.items ≡ [] → count_of g ≤ path.capacity
    → length flags ≡ count_of g → ((e : ℕ) → e < count_of g → get_or flags e false ≡ false)
    → IsWalkAt g targets turns path 0 flags begun
IsWalkAt-start g targets turns path flags begun acyclic inside count empty wide len clear = grind (
  arith,
  turns_left-start (makers_of g) (count_of g) (row_of g targets),
)

-- every walk is sound
pub IsSound-from : (w : Walk) (s : Saved) → IsNeeds w s → IsSound (state_of w s)
IsSound-from w s h = record { left = h.rest; turns = omega arith }

-- the count is the number of turns that were taken
pub turns-are : (w : Walk) (s : Saved) → IsNeeds w s → w.turns.taken ≡ saturated (state_of w s).turns
turns-are w s h = grind arith

-- a walk that went on
pub IsSameWalk-from : (w v : Walk) (s r : Saved) → v.turns.graph ≡ w.turns.graph
    → v.turns.targets ≡ w.turns.targets → v.begun ≡ w.begun
    → turns_left_of v.turns.graph.now v.turns.targets.now v.path.items v.place ≤ turns_left_of
    w.turns.graph.now w.turns.targets.now w.path.items w.place
    → IsNeeds v r → IsSameWalk (state_of w s) (state_of v r)
IsSameWalk-from w v s r graph targets begun fewer h = grind arith

-- ---- the front that is kept

pub front-looked : (s : Saved) (path after : List Frame) (f : Frame) → after ≡ path ++ f ∷ []
    → KeepsFront s path → KeepsFront s after
front-looked s path after f grown h = grind (arith, common_steps)

pub front-closed : (s t : Saved) (path after : List Frame) (f : Frame) → path ≡ after ++ f ∷ []
    → t.numbers ≡ s.numbers → t.kept ≡ min s.kept (length after) → KeepsFront s path → KeepsFront t after
front-closed s t path after f shrunk numbers kept h =
    let is : places path ≡ places after ++ f.at ∷ [] =
    ap places shrunk ∙ map_push (λ (g : Frame). g.at) after f in
    let long : length (places after) ≡ length after = length-map after (λ (g : Frame). g.at) in
    let le : t.kept ≤ s.kept = omega (arith, kept) in
    record {
      within = omega (arith, kept, h.within, ap (λ (v : Reserved ℕ). length v.items) numbers);
      short = omega (arith, kept);
      same = ap (λ (v : Reserved ℕ). take t.kept v.items) numbers
          ∙ sym (take-take t.kept s.kept s.numbers.items le) ∙ ap (take t.kept) h.same
          ∙ take-take t.kept s.kept (places path) le
          ∙ ap (take t.kept) is ∙ take-append-le t.kept (places after) (f.at ∷ [])
          (omega (arith, kept, long));
    }

-- the address of an edge that was closed
pub closed-places : (path after : List Frame) (f : Frame) (next : ℕ) → path ≡ after ++ f ∷ []
    → next ≡ f.at + 1 → places after ++ (next - 1) ∷ [] ≡ places path
closed-places path after f next shrunk is = grind (arith, common_steps)

-- ---- the turns

-- w is the walk before a turn, and v after it
module _ (w v : Walk) (graph : v.turns.graph ≡ w.turns.graph) (targets : v.turns.targets ≡ w.turns.targets)
  where
    module _ (t : HasLooked w.turns.graph.now w.turns.targets.now w.path.items w.place v.path.items v.place)
      where
        pub looked-left : left_of v.turns.graph.now v.turns.targets.now v.path.items v.place
            ≡ left_of w.turns.graph.now w.turns.targets.now w.path.items w.place
        looked-left = rw (graph, targets) t.left

        pub looked-less : turns_left_of v.turns.graph.now v.turns.targets.now v.path.items v.place <
            turns_left_of
            w.turns.graph.now w.turns.targets.now w.path.items w.place
        looked-less = rw (graph, targets) (omega (arith, t.turn))

        pub looked-front : (s : Saved) → KeepsFront s w.path.items → KeepsFront s v.path.items
        looked-front s h = elim t.moved [
          | inl same ↦ subst (KeepsFront s) (sym same.0) h
          | inr more ↦ front-looked s w.path.items v.path.items more.0 more.1 h
        ]

        pub looked-needs : (s : Saved) → IsNeeds w s → IsWalk v → IsNeeds v s
        looked-needs s h walk = record {
          walk = walk;
          front = looked-front s h.front;
          capacity = rw graph h.capacity;
          rest = rw (graph, targets) (t.left ∙ h.rest);
        }

    module _ (e : ℕ) (phony : Bool) (t : HasClosed w.turns.graph.now w.turns.targets.now w.path.items w.place
        v.path.items v.place e phony) where
      pub closed-less : turns_left_of v.turns.graph.now v.turns.targets.now v.path.items v.place <
          turns_left_of
          w.turns.graph.now w.turns.targets.now w.path.items w.place
      closed-less = rw (graph, targets) (omega (arith, t.turn))

      pub closed-front : (s r : Saved) → r.numbers ≡ s.numbers → r.kept ≡ min s.kept (length v.path.items)
          → KeepsFront s w.path.items → KeepsFront r v.path.items
      closed-front s r numbers kept h = front-closed s r w.path.items v.path.items t.popped.0 t.popped.1
          numbers
          kept h

      -- a phony edge
      pub closed-left : phony ≡ true → left_of v.turns.graph.now v.turns.targets.now v.path.items v.place
          ≡ left_of w.turns.graph.now w.turns.targets.now w.path.items w.place
      closed-left is =
          let N = left_of w.turns.graph.now w.turns.targets.now v.path.items v.place in
          let same : left_of w.turns.graph.now w.turns.targets.now w.path.items w.place ≡ N =
          t.left ∙ ap (λ b. cond b N (e ∷ N)) is in
          rw (graph, targets) (sym same)

      pub closed-needs : (s r : Saved) → r.numbers ≡ s.numbers → r.kept ≡ min s.kept (length v.path.items)
          → phony ≡ true → IsNeeds w s → IsWalk v → IsNeeds v r
      closed-needs s r numbers kept is h walk =
          let N = left_of w.turns.graph.now w.turns.targets.now v.path.items v.place in
          let same : left_of w.turns.graph.now w.turns.targets.now w.path.items w.place ≡ N =
          t.left ∙ ap (λ b. cond b N (e ∷ N)) is in
          record {
            walk = walk;
            front = closed-front s r numbers kept h.front;
            capacity = rw (graph, numbers) h.capacity;
            rest = rw (graph, targets, numbers) (sym same ∙ h.rest);
          }

      -- an edge that is returned
      pub returned-capacity : (s r : Saved) → r.numbers ≡ s.numbers → IsNeeds w s
          → length v.path.items < r.numbers.capacity
      returned-capacity s r numbers h =
          let wide : count_of w.turns.graph.now ≤ r.numbers.capacity = rw numbers h.capacity in
          omega (arith, wide, t.short)

      address : (s : Saved) → s.numbers.items ≡ places v.path.items ++ (v.place - 1) ∷ []
          → s.numbers.items ≡ places w.path.items
      address s is = is ∙ closed-places w.path.items v.path.items t.popped.0 v.place t.popped.1 t.popped.3

      pub returned-needs : (s r q : Saved) → r.numbers ≡ s.numbers → q.numbers.capacity ≡ r.numbers.capacity
          → KeepsFront q v.path.items → q.numbers.items ≡ places v.path.items ++ (v.place - 1) ∷ []
          → IsNeeds w s → IsWalk v → IsNeeds v q
      returned-needs s r q numbers same_capacity front is h walk =
          let capacity : count_of w.turns.graph.now ≤ r.numbers.capacity = rw numbers h.capacity in
          let rest : rest_of w.turns.graph.now w.turns.targets.now q.numbers.items
          ≡ left_of w.turns.graph.now w.turns.targets.now v.path.items v.place = rw (address q is) t.rest in
          record {
            walk = walk;
            front = front;
            capacity = rw graph (omega (arith, capacity, same_capacity));
            rest = rw (graph, targets) (sym rest);
          }

      pub returned-first : (q : Saved) → q.numbers.items ≡ places v.path.items ++ (v.place - 1) ∷ []
          → IsFirstPlaceOf v.turns.graph.now v.turns.targets.now q.numbers.items e
      returned-first q is = rw (graph, targets, address q is) t.first

      pub returned-left : phony ≡ false → left_of w.turns.graph.now w.turns.targets.now w.path.items w.place
          ≡ e ∷ left_of v.turns.graph.now v.turns.targets.now v.path.items v.place
      returned-left is =
          let N = left_of w.turns.graph.now w.turns.targets.now v.path.items v.place in
          rw (graph, targets) (t.left ∙ ap (λ b. cond b N (e ∷ N)) is)

    module _ (t : HasEnded w.turns.graph.now w.turns.targets.now w.path.items w.place v.path.items v.place)
      where
        pub ended-needs : (s : Saved) → IsNeeds w s → IsWalk v → IsNeeds v s
        ended-needs s h walk = record {
          walk = walk;
          front = rw t.path_stays h.front;
          capacity = rw graph h.capacity;
          rest = rw (graph, targets, t.path_stays, t.place_stays) h.rest;
        }

        pub ended-left : left_of v.turns.graph.now v.turns.targets.now v.path.items v.place ≡ []
        ended-left = rw (graph, targets, t.path_stays, t.place_stays) t.left

        pub ended-turns : turns_left_of v.turns.graph.now v.turns.targets.now v.path.items v.place ≡ 0
        ended-turns = rw (graph, targets, t.path_stays, t.place_stays) t.turns
