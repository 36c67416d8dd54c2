use Rattle.std.proofs.Common.{◌≡◌, ◌&&◌, ◌+◌, ℕ, List, [], ◌∷◌, ◌++◌, Bool, true, false, cond, length, map}
use Rattle.std.proofs.Common.{append-nil, append_assoc, refl, sym, ap, subst, ◌∙◌}
use Rattle.std.specs.List.{filter, flat_map, range_with_len}
use Rattle.std.proofs.lemmas.Grind.{flat_map-append}
use Rattle.nj_scope.specs.ReadingList.{ReadStatement}
use Rattle.nj_graph.specs.Edges.{is_among}
use Rattle.nj_graph.specs.Graph.{GraphModel, IsGraphOf}
use Rattle.nj_graph.specs.Handles.{GraphEdge, edge_in, edge_of}
use Rattle.nj_audit.specs.Findings.{FindingModel, edge_finding}
use Rattle.nj_audit.specs.declared.kinds.Kind.TheVariants.{RepeatedCommand}
use Rattle.nj_audit.specs.Audit.{command_of, commands_at, commands_before, first_output_at, has_command}
use Rattle.nj_audit.specs.Audit.{repeats_command}
use Rattle.nj_audit.specs.Inside.Handles.{repeated_among}
use Rattle.nj_audit.proofs.HandleLemmas.{all-from, next-from}
use Rattle.nj_audit.proofs.ListLemmas.{numbers-append}
use Rattle.nj_audit.proofs.NameLemmas.{AreNames, all-more}
use Rattle.nj_audit.proofs.commands.find_repeated_commands.Goals as goal

-- the findings about some edges
abbrev found_at : GraphModel → List ReadStatement → List ℕ → List FindingModel
found_at g entries edges = map (λ edge. edge_finding g edge RepeatedCommand (first_output_at g edge))
    (filter (repeats_command g entries) edges)

module _ (g : GraphModel) (entries : List ReadStatement) (n : ℕ) (old : List (List ℕ))
    (are : AreNames old (commands_before g entries n)) where
  commands-more : (new : List (List ℕ)) → ((command : List ℕ)
      → is_among new command ≡ is_among (old ++ commands_at g entries n) command)
      → AreNames new (commands_before g entries (n + 1))
  commands-more new adds =
      subst (AreNames new) (ap (λ t. commands_before g entries n ++ t)
      (sym (append-nil (commands_at g entries n)))
      ∙ numbers-append (flat_map (commands_at g entries)) (flat_map-append (commands_at g entries)) n)
      (all-more old new (commands_before g entries n) (commands_at g entries n) adds are)

  found-more : (others : List ℕ) (text after : List FindingModel)
      → after ≡ text ++ repeated_among (edge_in g n) entries old
      → after ++ found_at g entries others ≡ text ++ found_at g entries (n ∷ others)
  found-more others text after is =
      ap (λ t. t ++ found_at g entries others) (is ∙ ap (λ b. text ++ cond (has_command g n && b)
      (found ∷ []) []) (are (command_of entries n)))
      ∙ append_assoc text (cond (repeats_command g entries n) (found ∷ []) []) (found_at g entries others)
      ∙ ap (λ t. text ++ t) (put (repeats_command g entries n))
    where
      found : FindingModel
      found = edge_finding g n RepeatedCommand (first_output_at g n)

      put : (b : Bool) → cond b (found ∷ []) [] ++ found_at g entries others
          ≡ map (λ edge. edge_finding g edge RepeatedCommand (first_output_at g edge))
          (cond b (n ∷ filter (repeats_command g entries) others) (filter (repeats_command g entries) others))
      put true = refl
      put false = refl

pub edges-init : goal.edges-init
edges-init c =
    let g = c.args.graph.now in
    let all = all-from g c.into_iter-edge-iterator.result
    (c.into_iter-edge-iterator.ensures.into_iter_gives ∙ c.edges-edge-items.ensures) in
    record {
      place = 0;
      of = all.1;
      commands = λ entries graph name. ap (λ (ns : List (List ℕ)). is_among ns name) c.new-commands.ensures;
      found = λ entries graph. ap (λ n. c.args.found.now ++ found_at g entries (range_with_len 0 n)) all.0;
    }

pub edges-preserved : goal.edges-preserved
edges-preserved c =
    let g = c.args.graph.now in
    let held = c.edges.invariant in
    let place = held.place in
    let left = c.next.new.self in
    let next = next-from g (edge_of c.in-Some.edge) c.edges.edge-iterator left c.in-Some.ensures.steps place
    held.of in
    let told = c.in_ok-push_if_repeated.ensures in
    let new = c.push_if_repeated.new in
    record {
      place = place + 1;
      of = next.1;
      commands = λ entries graph. commands-more g entries place c.edges.commands (held.commands entries graph)
          new.commands (λ command. subst (λ (e : GraphEdge). IsGraphOf e.graph entries
          → is_among new.commands command
          ≡ is_among (c.edges.commands ++ commands_at e.graph entries e.number) command) next.0
          (told.added entries command) graph);
      found = λ entries graph.
          found-more g entries place c.edges.commands (held.commands entries graph)
          (range_with_len (place + 1) (length left)) c.edges.found new.found
          (subst (λ (e : GraphEdge). IsGraphOf e.graph entries
          → new.found ≡ c.edges.found ++ repeated_among e entries c.edges.commands) next.0
          (told.found entries) graph)
          ∙ ap (λ (es : List GraphEdge). c.edges.found
          ++ found_at g entries (range_with_len place (length es)))
          (sym c.in-Some.ensures.steps) ∙ held.found entries graph;
    }

pub returns : goal.returns
returns c entries graph =
    sym (append-nil c.edges.found)
    ∙ ap (λ (es : List GraphEdge). c.edges.found ++ found_at c.args.graph.now entries
    (range_with_len c.edges.invariant.place (length es))) (sym c.in-None.ensures.steps.0)
    ∙ c.edges.invariant.found entries graph
