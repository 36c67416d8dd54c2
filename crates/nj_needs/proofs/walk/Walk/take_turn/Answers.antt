use Rattle.std.proofs.Common.{◌≡◌, ℕ, ◌+◌, ◌<◌, Bool, true, false, Option, Some, None, List, length, get_or}
use Rattle.std.proofs.Common.{refl, sym, ap, subst, ◌∙◌, arith}
use Rattle.std.specs.Prelude.{slice_get, option_map}
use Rattle.std.proofs.lemmas.Option.{same_Some, get_or_from_slice_get}
use Rattle.nj_edges.specs.declared.edges.EdgeNo.{EdgeNo}
use Rattle.nj_needs.specs.Inside.Tops.{row_in}
use Rattle.nj_needs.specs.Inside.Tops.{counted}
use Rattle.nj_needs.specs.Inside.Standing.{IsWalkAt, top_of, done_of}
use Rattle.nj_needs.specs.Inside.Tops.{IsTop}
use Rattle.nj_needs.specs.declared.frame.Frame.{Frame}
use Rattle.nj_needs.specs.Walks.{number_of}
use Rattle.nj_needs.specs.declared.walk.Walk.{Walk}
use Rattle.nj_needs.proofs.Members.{In}
use Rattle.nj_needs.proofs.TurnLemmas.{walk-pass, turn-pass, walk-open, turn-open, capacity-open, row-top}
use Rattle.nj_needs.proofs.TurnLemmas.{top-is_edge, top-edge_within, numbered}
use Rattle.nj_needs.proofs.walk.Walk.take_turn.Goals as goal

-- the place found is in the row on top
comes : (w : Walk) (path : List Frame) (edge : Option EdgeNo) (found : Option (Option EdgeNo))
    → path ≡ w.path.items → IsTop path edge
    → option_map number_of found ≡ slice_get (row_in w.turns.graph.now w.turns.targets.now edge) w.place
    → slice_get (top_of w.turns.graph.now w.turns.targets.now w.path.items) w.place
    ≡ option_map number_of found
comes w path edge found same top is =
    ap (λ (r : List (Option ℕ)). slice_get r w.place)
    (sym (row-top w.turns.graph.now w.turns.targets.now w.path.items edge
    (subst (λ p. IsTop p edge) same top))) ∙ sym is

pub look-requires : goal.look-requires
look-requires c =
    let w = c.args.self.now in
    top-is_edge w.turns.graph.now w.turns.targets.now w.turns.taken w.path w.place w.flags.items w.begun
    c.requires c.top_edge-edge.result
    (subst (λ p. IsTop p c.top_edge-edge.result) c.as_slice.ensures c.top_edge-edge.ensures)

pub close-requires-clause-past : goal.close-requires-clause-past
close-requires-clause-past c =
    let w = c.args.self.now in
    rw (c.look.ensures.graph, c.look.ensures.targets)
    (comes w c.as_slice.result.now c.top_edge-edge.result None c.as_slice.ensures c.top_edge-edge.ensures
    c.in_default.ensures.found)

-- a source is not an edge
source : (found : Option EdgeNo) → ((e : EdgeNo) → found ≡ Some e → ⊥) → (m : ℕ) → number_of found ≡ Some m
    → ⊥
source found none m is = let e = numbered found m is in none e.0 e.1

pub returns-in_default-found-clause-walk : goal.returns-in_default-found-clause-walk
returns-in_default-found-clause-walk c =
    let w = c.args.self.now in
    let at = comes w c.as_slice.result.now c.top_edge-edge.result (Some c.in-Some.found) c.as_slice.ensures
    c.top_edge-edge.ensures c.in-Some.ensures.found in
    let base : IsWalkAt w.turns.graph.now w.turns.targets.now (counted w.turns.taken) w.path (w.place + 1)
    w.flags.items w.begun =
    walk-pass w.turns.graph.now w.turns.targets.now w.turns.taken w.path w.place w.flags.items w.begun
    c.requires (number_of c.in-Some.found) at
    (λ m is. absurd (source c.in-Some.found c.in_default-found.not-Some m is)) in
    rw (c.look.ensures.graph, c.look.ensures.targets, c.in-Some.ensures.turn) base

pub returns-in_default-found-clause-turn : goal.returns-in_default-found-clause-turn
returns-in_default-found-clause-turn c =
    let w = c.args.self.now in
    let at = comes w c.as_slice.result.now c.top_edge-edge.result (Some c.in-Some.found) c.as_slice.ensures
    c.top_edge-edge.ensures c.in-Some.ensures.found in
    turn-pass w.turns.graph.now w.turns.targets.now w.turns.taken w.path w.place w.flags.items w.begun
    c.requires (number_of c.in-Some.found) at
    (λ m is. absurd (source c.in-Some.found c.in_default-found.not-Some m is))

-- a maker
maker_at : (w : Walk) (path : List Frame) (edge : Option EdgeNo) (found : Option EdgeNo) (maker : EdgeNo)
    → path ≡ w.path.items → IsTop path edge
    → Some (number_of found) ≡ slice_get (row_in w.turns.graph.now w.turns.targets.now edge) w.place
    → found ≡ Some maker
    → slice_get (top_of w.turns.graph.now w.turns.targets.now w.path.items) w.place ≡ Some (Some maker.0)
maker_at w path edge found maker same top is made = comes w path edge (Some found) same top is
    ∙ ap (λ (o : Option EdgeNo). Some (number_of o)) made

maker_in : (w : Walk) → IsWalkAt w.turns.graph.now w.turns.targets.now w.turns.taken w.path w.place
    w.flags.items w.begun → (maker : ℕ)
    → slice_get (top_of w.turns.graph.now w.turns.targets.now w.path.items) w.place ≡ Some (Some maker)
    → maker < length w.flags.items
maker_in w h maker at =
    let low = top-edge_within w.turns.graph.now w.turns.targets.now w.turns.taken w.path w.place w.flags.items
    w.begun h w.place maker at in
    omega (arith, low, h.standing.flags_len)

pub get-requires : goal.get-requires
get-requires c =
    let w = c.args.self.now in
    let low = maker_in w c.requires c.in-Some-found.maker.0
    (maker_at w c.as_slice.result.now c.top_edge-edge.result c.in-Some.found c.in-Some-found.maker
    c.as_slice.ensures c.top_edge-edge.ensures c.in-Some.ensures.found c.in-Some-found.is) in
    omega (arith, low)

-- the flag of the maker is set exactly if the maker is done
is_done : (w : Walk) (maker : ℕ) (flag : Bool) → slice_get w.flags.items maker ≡ Some flag
    → get_or w.flags.items maker false ≡ flag
is_done w maker flag is = get_or_from_slice_get w.flags.items maker flag false is

-- a maker whose flag is set is done
all_done : (w : Walk) (h : IsWalkAt w.turns.graph.now w.turns.targets.now w.turns.taken w.path w.place
    w.flags.items w.begun) (maker : ℕ)
    → slice_get (top_of w.turns.graph.now w.turns.targets.now w.path.items) w.place ≡ Some (Some maker)
    → get_or w.flags.items maker false ≡ true
    → (m : ℕ) → Some maker ≡ Some m → In (done_of w.turns.graph.now w.turns.targets.now w.path.items w.place)
    m
all_done w h maker at done m is =
    let low = top-edge_within w.turns.graph.now w.turns.targets.now w.turns.taken w.path w.place w.flags.items
    w.begun h w.place maker at in
    subst (In (done_of w.turns.graph.now w.turns.targets.now w.path.items w.place)) (same_Some maker m is)
    (sym (h.standing.flagged maker low) ∙ done)

-- a maker that is done
pub returns-then-get-clause-walk : goal.returns-then-get-clause-walk
returns-then-get-clause-walk c =
    let w = c.args.self.now in
    let m = c.in-Some-found.maker.0 in
    let at = maker_at w c.as_slice.result.now c.top_edge-edge.result c.in-Some.found c.in-Some-found.maker
    c.as_slice.ensures c.top_edge-edge.ensures c.in-Some.ensures.found c.in-Some-found.is in
    let done : get_or w.flags.items m false ≡ true = is_done w m c.get.result c.get.ensures ∙ c.if-get.true in
    let base : IsWalkAt w.turns.graph.now w.turns.targets.now (counted w.turns.taken) w.path (w.place + 1)
    w.flags.items w.begun =
    walk-pass w.turns.graph.now w.turns.targets.now w.turns.taken w.path w.place w.flags.items w.begun
    c.requires (Some m) at
    (all_done w c.requires m at done) in
    rw (c.look.ensures.graph, c.look.ensures.targets, c.in-Some.ensures.turn) base

pub returns-then-get-clause-turn : goal.returns-then-get-clause-turn
returns-then-get-clause-turn c =
    let w = c.args.self.now in
    let m = c.in-Some-found.maker.0 in
    let at = maker_at w c.as_slice.result.now c.top_edge-edge.result c.in-Some.found c.in-Some-found.maker
    c.as_slice.ensures c.top_edge-edge.ensures c.in-Some.ensures.found c.in-Some-found.is in
    let done : get_or w.flags.items m false ≡ true = is_done w m c.get.result c.get.ensures ∙ c.if-get.true in
    turn-pass w.turns.graph.now w.turns.targets.now w.turns.taken w.path w.place w.flags.items w.begun
    c.requires (Some m) at (all_done w c.requires m at done)

-- a maker that is not done
pub push-requires : goal.push-requires
push-requires c =
    let w = c.args.self.now in
    let m = c.in-Some-found.maker.0 in
    let at = maker_at w c.as_slice.result.now c.top_edge-edge.result c.in-Some.found c.in-Some-found.maker
    c.as_slice.ensures c.top_edge-edge.ensures c.in-Some.ensures.found c.in-Some-found.is in
    capacity-open w.turns.graph.now w.turns.targets.now w.turns.taken w.path w.place w.flags.items w.begun
    c.requires w.place m at

pub returns-clause-walk : goal.returns-clause-walk
returns-clause-walk c =
    let w = c.args.self.now in
    let m = c.in-Some-found.maker.0 in
    let at = maker_at w c.as_slice.result.now c.top_edge-edge.result c.in-Some.found c.in-Some-found.maker
    c.as_slice.ensures c.top_edge-edge.ensures c.in-Some.ensures.found c.in-Some-found.is in
    let fresh : get_or w.flags.items m false ≡ false = is_done w m c.get.result c.get.ensures ∙ c.if-get.false
    in
    let base : IsWalkAt w.turns.graph.now w.turns.targets.now (counted w.turns.taken) c.push.new.self 0
    w.flags.items w.begun =
    walk-open w.turns.graph.now w.turns.targets.now w.turns.taken w.path w.place w.flags.items w.begun
    c.requires _ c.push.new.self
    c.push.ensures.items c.push.ensures.capacity refl at fresh in
    rw (c.look.ensures.graph, c.look.ensures.targets, c.in-Some.ensures.turn) base

pub returns-clause-turn : goal.returns-clause-turn
returns-clause-turn c =
    let w = c.args.self.now in
    let m = c.in-Some-found.maker.0 in
    let at = maker_at w c.as_slice.result.now c.top_edge-edge.result c.in-Some.found c.in-Some-found.maker
    c.as_slice.ensures c.top_edge-edge.ensures c.in-Some.ensures.found c.in-Some-found.is in
    let fresh : get_or w.flags.items m false ≡ false = is_done w m c.get.result c.get.ensures ∙ c.if-get.false
    in
    turn-open w.turns.graph.now w.turns.targets.now w.turns.taken w.path w.place w.flags.items w.begun
    c.requires _ c.push.new.self
    c.push.ensures.items c.push.ensures.capacity refl at fresh
