-- How the answer to `json` returns.
use Rattle.std.proofs.Common.{◌≡◌, ℕ, false, Option, Some, None, option_map, List, [], Result, Ok, Err, inr}
use Rattle.std.proofs.Common.{refl}
use Rattle.std.proofs.Common.{sym, subst, append-nil}
use Rattle.std.proofs.lemmas.Result.{err_from_is_err_and}
use Rattle.std.specs.Result.{IsErrAnd}
use Rattle.nj_faults.specs.declared.fault.GraphFault.{GraphFault}
use Rattle.nj_graph.specs.ReadingList.{ReadStatement}
use Rattle.nj_tools.specs.Compdb.{text_fault, WritesCompdb}
use Rattle.nj_tools.specs.EdgeObjects.{edge_lines, unwritable_edge}
use Rattle.nj_tools.specs.Sinks.{SinkState, Takes}
use Rattle.nj_tools.specs.declared.tool_fault.ToolFault.{ToolFault}
use Rattle.nj_tools.specs.declared.tool_fault.ToolFault.TheVariants as tool
use Rattle.nj_ask.specs.declared.answer.Told.{Told}
use Rattle.nj_ask.specs.declared.discovered.DiscoveredGraph.{DiscoveredGraph}
use Rattle.nj_ask.specs.declared.failure.Failure.{Failure}
use Rattle.nj_ask.specs.declared.failure.Failure.TheVariants.{Refused, Write, OutOfMemory}
use Rattle.nj_ask.specs.Answers.{AnswersJson}
use Rattle.nj_ask.specs.Answers.AnswersJson.{all, not_text}
use Rattle.nj_ask.specs.declared.status.Status.TheVariants.{Fault}
use Rattle.nj_ask.specs.Endings.{Ending, IsFront, fault_line, refused}
use Rattle.nj_ask.specs.Inside.Failures.{Returns, Stops}
use Rattle.nj_ask.specs.Shape.{caveat_text}

-- what is there, of a value that is made of it
made-of : {X Y : Type 0} (f : X → Y) (o : Option X) (y : Y) → option_map f o ≡ Some y
    → (x : X) × (o ≡ Some x) × (f x ≡ y)
made-of f None y is = absurd cc
made-of f (Some x) y is = (x, refl, cc)

none-of : {X Y : Type 0} (f : X → Y) (o : Option X) → option_map f o ≡ None → o ≡ None
none-of f None is = refl
none-of f (Some x) is = absurd cc

module _ (known : DiscoveredGraph) (entries : List ReadStatement) where
  -- the objects that are written are those of some answer
  some-ending : (ending : Ending) × AnswersJson known entries (edge_lines entries known.discoveries.items)
      ending
  some-ending = by (unwritable_edge entries known.discoveries.items) refl
    where
      by : (o : Option ℕ) → unwritable_edge entries known.discoveries.items ≡ o
          → (ending : Ending) × AnswersJson known entries (edge_lines entries known.discoveries.items) ending
      by None is = (_, all is)
      by (Some edge) is = (_, not_text is)

  -- the refusal of the edge that JSON cannot contain
  refuses : (fault : GraphFault) → option_map (text_fault entries)
      (unwritable_edge entries known.discoveries.items) ≡ Some fault
      → AnswersJson known entries (edge_lines entries known.discoveries.items)
      (refused (fault_line fault) Fault)
  refuses fault is =
      let (edge, there, same) = made-of (text_fault entries) (unwritable_edge entries known.discoveries.items)
      fault is in
      subst (λ f. AnswersJson known entries (edge_lines entries known.discoveries.items)
      (refused (fault_line f) Fault)) same
      (not_text there)

  pub all-front : IsFront (AnswersJson known entries) (edge_lines entries known.discoveries.items)
  all-front = inr (
    edge_lines entries known.discoveries.items,
    some-ending.0,
    some-ending.1,
    ([], sym (append-nil (edge_lines entries known.discoveries.items))),
  )

  module _ (old new : SinkState) where
    -- all was written
    pub returns-told : (told : Told) → option_map (text_fault entries)
        (unwritable_edge entries known.discoveries.items) ≡ None
        → Takes old new (edge_lines entries known.discoveries.items)
        → told.warnings.items ≡ caveat_text known entries
        → told.looks ≡ false → Returns (AnswersJson known entries) old new (Ok told)
    returns-told told none took warnings looks = (
      edge_lines entries known.discoveries.items,
      rw (warnings, looks) (all (none-of (text_fault entries)
          (unwritable_edge entries known.discoveries.items) none)),
      took,
    )

    -- memory ran out for the warnings
    pub returns-untold : (result : Result Told Failure) → IsErrAnd result (λ failure. failure ≡ OutOfMemory)
        → Takes old new (edge_lines entries known.discoveries.items)
        → Returns (AnswersJson known entries) old new result
    returns-untold result is took =
        let (failure, was, same) = err_from_is_err_and result is in
        rw (was, same) (edge_lines entries known.discoveries.items, all-front, took)

    -- the tool stopped
    pub returns-stopped : (fault : ToolFault) (failure : Failure)
        → WritesCompdb old new (edge_lines entries known.discoveries.items)
        (option_map (text_fault entries) (unwritable_edge entries known.discoveries.items))
        (Err fault) → Stops fault failure → Returns (AnswersJson known entries) old new (Err failure)
    returns-stopped (tool.TextNotUtf8 fault) (Refused line status) wrote stops =
        (edge_lines entries known.discoveries.items, rw (stops.0.0, stops.1) (refuses fault wrote.0), wrote.1)
    returns-stopped (tool.TextNotUtf8 fault) Write wrote stops = absurd stops
    returns-stopped (tool.TextNotUtf8 fault) OutOfMemory wrote stops =
        (edge_lines entries known.discoveries.items, all-front, wrote.1)
    returns-stopped tool.Write (Refused line status) wrote stops = absurd cc
    returns-stopped tool.Write Write wrote stops =
        (edge_lines entries known.discoveries.items, some-ending.0, some-ending.1, wrote)
    returns-stopped tool.Write OutOfMemory wrote stops = absurd cc
    returns-stopped tool.OutOfMemory (Refused line status) wrote stops = absurd cc
    returns-stopped tool.OutOfMemory Write wrote stops = absurd cc
    returns-stopped tool.OutOfMemory OutOfMemory wrote stops = (
      wrote.0,
      inr (edge_lines entries known.discoveries.items, some-ending.0, some-ending.1, wrote.1),
      wrote.2,
    )
