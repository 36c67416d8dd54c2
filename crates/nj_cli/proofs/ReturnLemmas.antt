-- The outcome of a run, by the graph of its files.
use Rattle.std.proofs.Common.{◌≡◌, ◌≢◌, ◌⊎◌, inl, inr, ℕ, Bool, true, false, if◌then◌else◌, Option, Some}
use Rattle.std.proofs.Common.{None, option_map, Result, Ok, Err, IsErrAnd, List, [], length, map, filter, not}
use Rattle.std.proofs.Common.{refl, sym}
use Rattle.std.proofs.Common.{ap, subst, ◌∙◌}
use Rattle.std.specs.Prelude.{nat_eq}
use Rattle.std.specs.List.{flat_map}
use Rattle.std.specs.Option.{option_map_or}
use Rattle.nj_manifest.specs.LineSteps.{◌>>=◌}
use Rattle.nj_scope.specs.ReadingList.{ReadStatement}
use Rattle.nj_names.specs.declared.files.FileNo.{FileNo}
use Rattle.nj_edges.specs.EdgeGraphs.{EdgeGraph}
use Rattle.nj_edges.specs.Edges.{EdgePaths}
use Rattle.nj_names.specs.Files.{AreFiles, path_at}
use Rattle.nj_statements.specs.Built.{defaults_in_force}
use Rattle.nj_statements.specs.EdgeList.{defaults_read}
use Rattle.nj_faults.specs.declared.fault.GraphFault.{GraphFault}
use Rattle.nj_faults.specs.FaultLines.{fault_line}
use Rattle.nj_faults.specs.Faults.{no_memory}
use Rattle.nj_graph.specs.Graph.{GraphModel, edges_of, files_of, IsGraphOf}
use Rattle.nj_edges.specs.Needs.{makers_of_inputs}
use Rattle.nj_needs.specs.Growing.{grown_targets}
use Rattle.nj_needs.specs.Graphs.{row_of_paths, is_phony_in, row_of, makers_of, count_of}
use Rattle.nj_needs.specs.Marks.{is_valid, rest}
use Rattle.nj_needs.specs.Order.{made_by}
use Rattle.nj_edges.specs.Repeats.{each_once}
use Rattle.nj_needs.specs.Pages.{IsMarkAfter}
use Rattle.nj_needs.specs.Resuming.{ResumeIs}
use Rattle.nj_needs.specs.declared.mark_fault.MarkFault.{MarkFault}
use Rattle.nj_needs.specs.declared.mark_fault.MarkFault.TheVariants as mark
use Rattle.nj_needs.specs.Walks.{WalkState, BeginsAt, rest_of}
use Rattle.nj_needs.proofs.Bridges.{paths-at, row-paths}
use Rattle.nj_requests.specs.Actions.{ActionModel, commands, single_commands}
use Rattle.nj_requests.specs.Actions as ask
use Rattle.nj_args.specs.RunMarks.{run_mark_text}
use Rattle.nj_needs.specs.PageWalks.{written, left_after, StopsAt}
use Rattle.nj_tools.specs.CommandStrings.{command_lines, own_commands_in, own_commands}
use Rattle.nj_tools.specs.Inside.Seen.{single}
use Rattle.nj_tools.specs.Sinks.{SinkState, Takes}
use Rattle.nj_tools.specs.Compdb.{compdb_text, text_fault, unheld_edge, WritesCompdb}
use Rattle.nj_tools.specs.Listings.{inputs_text}
use Rattle.nj_tools.specs.Queries.{query_text}
use Rattle.nj_tools.specs.Texts.{StopsWithin, TakesFront}
use Rattle.nj_tools.specs.Errors.{TakesGraphFault, error_of_mark, error_of_tool}
use Rattle.nj_tools.specs.declared.error.Error.{Error}
use Rattle.nj_tools.specs.declared.error.Error.TheVariants as error
use Rattle.nj_tools.specs.declared.tool_fault.ToolFault.{ToolFault}
use Rattle.nj_requests.specs.declared.style.InputsStyle.{InputsStyle}
use Rattle.nj_tools.specs.declared.tool_fault.ToolFault.TheVariants as tool
use Rattle.nj_tools.proofs.SinkLemmas.{Takes-nil}
use Rattle.nj_graph.specs.Targets.{targets_named, targets_or}
use Rattle.nj_cli.specs.Targets.{edges_by_path, NoEdgeNeedsItself, targets_of}
use Rattle.nj_cli.specs.Answers.{leads, commands_left, IsMarkOf, output_for, output_of, Ending, finished}
use Rattle.nj_cli.specs.Answers.{stopped, faulty, PageEnds, asked_targets, EndsFor, EndsWith}
use Rattle.nj_cli.specs.Inside.RunSteps.{with_validations, for_targets, EndsOr, Finishes, out_of_range}
use Rattle.nj_cli.specs.Inside.RunSteps.{ReturnsFor}

-- the targets of a run, by the targets that its arguments name
abbrev targets_from : List ReadStatement → (validations : Bool) → Result (List (List ℕ)) GraphFault
    → Result (List (List ℕ)) GraphFault
targets_from entries validations named =
    named >>= (λ targets. Ok (with_validations validations (edges_by_path entries) targets))

-- how `compdb` ends, by the fault of the first edge that JSON cannot contain
abbrev compdb_ending : (refused : Option GraphFault) → Ending
compdb_ending refused = option_map_or (λ f. faulty (fault_line f)) refused finished

-- nothing was taken yet
pub TakesFront-none : (s : SinkState) (text : List ℕ) → TakesFront s s text
TakesFront-none s text = ([], (text, refl), Takes-nil s)

-- the outcome is a fault
pub ReturnsFor-err : (entries : List ReadStatement) (action : ActionModel) (old new : SinkState)
    (result : Result (Option (List ℕ)) Error) (f : Error)
    → IsErrAnd result (λ e. e ≡ f) → ReturnsFor entries action old new (Err f)
    → ReturnsFor entries action old new result
ReturnsFor-err entries action old new (Ok mark) f is outcomes = absurd is
ReturnsFor-err entries action old new (Err e) f is outcomes =
    subst (λ (r : Error). ReturnsFor entries action old new (Err r)) (sym is) outcomes

module _ (entries : List ReadStatement) (g : GraphModel) (is : IsGraphOf g entries) where
  edges-are : edges_of g ≡ edges_by_path entries
  edges-are = is.built.paths

  -- no edge of the statements needs itself
  pub NoEdgeNeedsItself-stated : NoEdgeNeedsItself (edges_by_path entries)
  NoEdgeNeedsItself-stated = subst NoEdgeNeedsItself edges-are is.acyclic

  -- ---- targets

  -- the defaults of the graph are the defaults of the statements
  defaults-are : defaults_in_force g.built.defaults (edges_of g)
      ≡ defaults_in_force (defaults_read entries) (edges_by_path entries)
  defaults-are =
      ap (λ (ds : List (List ℕ)). defaults_in_force ds (edges_of g)) is.built.defaults
      ∙ ap (λ (es : List EdgePaths). defaults_in_force (defaults_read entries) es) edges-are

  -- the targets of the graph, or its defaults
  abbrev targets_of_graph : (words : List (List ℕ)) → Result (List (List ℕ)) GraphFault
  targets_of_graph words = targets_or (defaults_in_force g.built.defaults (edges_of g)) (edges_of g) words

  targets-are : (validations : Bool) (words : List (List ℕ)) (outcome : Result (List (List ℕ)) GraphFault)
      → targets_of_graph words ≡ outcome
      → targets_of entries validations words ≡ targets_from entries validations outcome
  targets-are validations words outcome named =
      ap (targets_from entries validations)
      (ap (λ (ds : List (List ℕ)). targets_or ds (edges_by_path entries) words) (sym defaults-are)
      ∙ ap (λ (es : List EdgePaths). targets_or (defaults_in_force g.built.defaults (edges_of g)) es words)
      (sym edges-are) ∙ named)

  -- an argument that does not name a target
  pub targets-refused : (validations : Bool) (words : List (List ℕ)) (f : GraphFault)
      → (f ≡ no_memory) ⊎ (targets_of_graph words ≡ Err f)
      → (f ≡ no_memory) ⊎ (targets_of entries validations words ≡ Err f)
  targets-refused validations words f (inl none) = inl none
  targets-refused validations words f (inr named) = inr (targets-are validations words (Err f) named)

  -- all arguments name targets
  pub targets-picked : (validations : Bool) (words paths : List (List ℕ)) (numbers : List FileNo)
      → targets_of_graph words ≡ Ok paths
      → AreFiles (files_of g) numbers (with_validations validations (edges_by_path entries) paths)
      → (targets : List (List ℕ)) × (targets_of entries validations words ≡ Ok targets)
      × AreFiles (files_of g) numbers targets
  targets-picked validations words paths numbers named are = (
    with_validations validations (edges_by_path entries) paths,
    targets-are validations words (Ok paths) named,
    are,
  )

  -- validations come after them
  pub grown-are : (targets : List (List ℕ)) (numbers grown : List FileNo)
      → AreFiles (files_of g) numbers targets
      → AreFiles (files_of g) grown (grown_targets (edges_of g) (map (path_at (files_of g)) numbers))
      → AreFiles (files_of g) grown (with_validations true (edges_by_path entries) targets)
  grown-are targets numbers grown are is_grown =
      let paths : grown_targets (edges_of g) (map (path_at (files_of g)) numbers)
      ≡ grown_targets (edges_by_path entries) targets =
      ap (grown_targets (edges_of g)) (paths-at (files_of g) numbers targets are)
      ∙ ap (λ (es : List EdgePaths). grown_targets es targets) edges-are in
      subst (AreFiles (files_of g) grown) paths is_grown

  -- no target: the outcome is the fault
  refused-by : (action : ActionModel) (f : GraphFault) (s : SinkState) (e : Error) → TakesGraphFault f e
      → (f ≡ no_memory) ⊎ (asked_targets entries action ≡ Err f)
      → ReturnsFor entries action s s (Err e)
  refused-by action f s e (taken, inl (lack, was), is) why =
      rw (is, was) (TakesFront-none s (output_of entries action))
  refused-by action f s e (taken, inr (other, was), is) (inl none) =
      absurd (other (ap (λ (g : GraphFault). g.cause) none))
  refused-by action f s e (taken, inr (other, was), is) (inr named) =
      rw (is, was)
      (subst (λ (ts : Result (List (List ℕ)) GraphFault). EndsOr
      (λ targets ending. EndsFor entries action targets ending)
      ts (faulty (fault_line f)) × Takes s s (for_targets (output_for entries action) ts))
      (sym named) (refl, Takes-nil s))

  pub refused : (action : ActionModel) (f : GraphFault) (s : SinkState)
      (result : Result (Option (List ℕ)) Error) → IsErrAnd result (TakesGraphFault f)
      → (f ≡ no_memory) ⊎ (asked_targets entries action ≡ Err f)
      → ReturnsFor entries action s s result
  refused action f s (Ok mark) takes why = absurd takes
  refused action f s (Err e) takes why = refused-by action f s e takes why

  files-are : (words : List (List ℕ)) (outcome : Result (List (List ℕ)) GraphFault)
      → targets_named (edges_of g) words ≡ outcome
      → targets_named (edges_by_path entries) words ≡ outcome
  files-are words outcome named = ap (λ (es : List EdgePaths). targets_named es words) (sym edges-are) ∙ named

  pub query-refused : (words : List (List ℕ)) (f : GraphFault)
      → (f ≡ no_memory) ⊎ (targets_named (edges_of g) words ≡ Err f)
      → (f ≡ no_memory) ⊎ (targets_named (edges_by_path entries) words ≡ Err f)
  query-refused words f (inl none) = inl none
  query-refused words f (inr named) = inr (files-are words (Err f) named)

  -- ---- tools without targets

  -- a tool and its sink
  finishes : (action : ActionModel) (old new : SinkState) → EndsWith entries action finished
      → Takes old new (output_of entries action)
      → ReturnsFor entries action old new (Ok None)
  finishes action old new ends took = (ends, took)

  -- a tool that does not finish
  pub stops : (action : ActionModel) (old new : SinkState) (f : ToolFault)
      → StopsWithin old new (output_of entries action) f
      → ReturnsFor entries action old new (Err (error_of_tool f))
  stops action old new tool.Write stopped_so = stopped_so
  stops action old new tool.OutOfMemory stopped_so = stopped_so
  stops action old new (tool.TextNotUtf8 f) stopped_so = absurd stopped_so

  -- ---- queried files

  module _ (words paths : List (List ℕ)) (named : targets_named (edges_of g) words ≡ Ok paths)
      (numbers : List FileNo) (are : AreFiles (files_of g) numbers paths) where
    query-text : query_text entries (map (path_at (files_of g)) numbers) ≡ output_of entries (ask.query words)
    query-text =
        ap (query_text entries) (paths-at (files_of g) numbers paths are)
        ∙ ap (for_targets (output_for entries (ask.query words))) (sym (files-are words (Ok paths) named))

    pub query-answered : (old new : SinkState)
        → Takes old new (query_text entries (map (path_at (files_of g)) numbers))
        → ReturnsFor entries (ask.query words) old new (Ok None)
    query-answered old new took = (
      subst (λ (ts : Result (List (List ℕ)) GraphFault). EndsOr Finishes ts finished)
          (sym (files-are words (Ok paths) named)) refl,
      subst (Takes old new) query-text took,
    )

    pub query-failed : (old new : SinkState) (f : ToolFault)
        → StopsWithin old new (query_text entries (map (path_at (files_of g)) numbers)) f
        → ReturnsFor entries (ask.query words) old new (Err (error_of_tool f))
    query-failed old new f stopped_so = stops (ask.query words) old new f
        (subst (λ t. StopsWithin old new t f) query-text stopped_so)

  -- ---- a string that JSON cannot contain

  module _ (names : List (List ℕ)) (directory : List ℕ) (expand : Bool) (old new : SinkState) where
    pub compdb-failed : (f : ToolFault)
        → WritesCompdb old new (compdb_text entries directory names expand)
        (option_map (text_fault entries) (unheld_edge entries names expand)) (Err f)
        → ReturnsFor entries (ask.compdb names directory expand) old new (Err (error_of_tool f))
    compdb-failed (tool.TextNotUtf8 f) (some, took) =
        (subst (λ r. faulty (fault_line f) ≡ compdb_ending r) (sym some) refl, took)
    compdb-failed tool.Write stopped_so = stopped_so
    compdb-failed tool.OutOfMemory stopped_so = stopped_so

    pub compdb-answered : option_map (text_fault entries) (unheld_edge entries names expand) ≡ None
        → Takes old new (compdb_text entries directory names expand)
        → ReturnsFor entries (ask.compdb names directory expand) old new (Ok None)
    compdb-answered none took = (subst (λ r. finished ≡ compdb_ending r) (sym none) refl, took)

  module _ (targets : List (List ℕ)) (numbers : List FileNo) (are : AreFiles (files_of g) numbers targets)
    where
      row-is : row_of g.built.graph numbers ≡ row_of_paths (edges_by_path entries) targets
      row-is = row-paths g.built.graph numbers targets are
          ∙ ap (λ (es : List EdgePaths). row_of_paths es targets) edges-are

      -- ---- the targets' own makers

      own-are : own_commands g.built.graph numbers ≡ own_commands_in (edges_by_path entries) targets
      own-are =
          ap (λ (row : List (Option ℕ)). filter (λ e. not (is_phony_in (edges_of g) e))
          (each_once nat_eq (flat_map (made_by single) row))) row-is
          ∙ ap (λ (es : List EdgePaths). filter (λ e. not (is_phony_in es e))
          (each_once nat_eq (flat_map (made_by single) (row_of_paths (edges_by_path entries) targets))))
          edges-are

      module _ (words : List (List ℕ)) (named : targets_of entries false words ≡ Ok targets) where
        singles-text : command_lines entries (own_commands g.built.graph numbers)
            ≡ output_of entries (single_commands words)
        singles-text = ap (command_lines entries) own-are
            ∙ ap (for_targets (output_for entries (single_commands words))) (sym named)

        pub singles-answered : (old new : SinkState)
            → Takes old new (command_lines entries (own_commands g.built.graph numbers))
            → ReturnsFor entries (single_commands words) old new (Ok None)
        singles-answered old new took = (
          subst (λ (ts : Result (List (List ℕ)) GraphFault). EndsOr Finishes ts finished) (sym named) refl,
          subst (Takes old new) singles-text took,
        )

        pub singles-failed : (old new : SinkState) (f : ToolFault)
            → StopsWithin old new (command_lines entries (own_commands g.built.graph numbers)) f
            → ReturnsFor entries (single_commands words) old new (Err (error_of_tool f))
        singles-failed old new f stopped_so =
            stops (single_commands words) old new f
            (subst (λ t. StopsWithin old new t f) singles-text stopped_so)

      module _ (words : List (List ℕ)) (validations : Bool)
          (named : targets_of entries validations words ≡ Ok targets) where
        -- ---- the inputs that they need

        module _ (style : InputsStyle) where
          inputs-are : inputs_text style (edges_of g) (map (path_at (files_of g)) numbers)
              ≡ output_of entries (ask.inputs words validations style)
          inputs-are =
              ap (inputs_text style (edges_of g)) (paths-at (files_of g) numbers targets are)
              ∙ ap (λ (es : List EdgePaths). inputs_text style es targets) edges-are
              ∙ ap (for_targets (output_for entries (ask.inputs words validations style))) (sym named)

          pub inputs-answered : (old new : SinkState)
              → Takes old new (inputs_text style (edges_of g) (map (path_at (files_of g)) numbers))
              → ReturnsFor entries (ask.inputs words validations style) old new (Ok None)
          inputs-answered old new took = (
            subst (λ (ts : Result (List (List ℕ)) GraphFault). EndsOr Finishes ts finished) (sym named) refl,
            subst (Takes old new) inputs-are took,
          )

          pub inputs-failed : (old new : SinkState) (f : ToolFault)
              → StopsWithin old new (inputs_text style (edges_of g) (map (path_at (files_of g)) numbers)) f
              → ReturnsFor entries (ask.inputs words validations style) old new (Err (error_of_tool f))
          inputs-failed old new f stopped_so =
              stops (ask.inputs words validations style) old new f
              (subst (λ t. StopsWithin old new t f) inputs-are stopped_so)

        -- ---- the needed commands, from a mark

        module _ (take : Option ℕ) (start : List ℕ) where
          leads-is : is_valid (makers_of g.built.graph) (row_of g.built.graph numbers) start
              ≡ leads entries targets start
          leads-is =
              ap (λ (row : List (Option ℕ)). is_valid (makers_of_inputs (edges_of g)) row start) row-is
              ∙ ap (λ (es : List EdgePaths). is_valid (makers_of_inputs es)
              (row_of_paths (edges_by_path entries) targets) start) edges-are

          left-is : rest_of g.built.graph numbers start ≡ commands_left entries targets start
          left-is =
              ap (λ (row : List (Option ℕ)). rest (makers_of_inputs (edges_of g)) (length (edges_of g))
              (is_phony_in (edges_of g)) row start) row-is
              ∙ ap (λ (es : List EdgePaths). rest (makers_of_inputs es) (length es) (is_phony_in es)
              (row_of_paths (edges_by_path entries) targets) start) edges-are

          mark-is : (edges mark : List ℕ) → IsMarkAfter (makers_of g.built.graph) (count_of g.built.graph)
              (row_of g.built.graph numbers) start edges mark → IsMarkOf entries targets start edges mark
          mark-is edges mark after =
              subst (λ (es : List EdgePaths). IsMarkAfter (makers_of_inputs es) (length es)
              (row_of_paths (edges_by_path entries) targets) start edges mark) edges-are
              (subst (λ (row : List (Option ℕ)). IsMarkAfter (makers_of_inputs (edges_of g))
              (length (edges_of g)) row start edges mark) row-is after)

          ends-so : (ending : Ending) → PageEnds entries validations take start targets ending
              → EndsWith entries (commands words validations take start) ending
          ends-so ending ends = subst (λ (ts : Result (List (List ℕ)) GraphFault). EndsOr
              (PageEnds entries validations take start) ts ending) (sym named) ends

          -- the mark does not lead to an edge
          commands-out_of_range : (s : SinkState)
              → is_valid (makers_of g.built.graph) (row_of g.built.graph numbers) start ≡ false
              → ReturnsFor entries (commands words validations take start) s s (Err error.MarkOutOfRange)
          commands-out_of_range s invalid =
              let misled : leads entries targets start ≡ false = sym leads-is ∙ invalid in (
                ends-so (faulty out_of_range) (misled, refl),
                subst (Takes s s)
                    (ap (λ (b : Bool). if b then command_lines entries
                    (written take (commands_left entries targets start)) else []) (sym misled)
                    ∙ ap (for_targets (output_for entries (commands words validations take start)))
                    (sym named))
                    (Takes-nil s),
              )

          pub commands-not_resumed : (s : SinkState) (f : MarkFault)
              → ResumeIs g.built.graph numbers start (Err f)
              → ReturnsFor entries (commands words validations take start) s s (Err (error_of_mark f))
          commands-not_resumed s mark.BadMark never = absurd never
          commands-not_resumed s mark.MarkOutOfRange invalid = commands-out_of_range s invalid
          commands-not_resumed s mark.OutOfMemory valid =
              TakesFront-none s (output_of entries (commands words validations take start))

          module _ (valid : is_valid (makers_of g.built.graph) (row_of g.built.graph numbers) start ≡ true)
              (w : WalkState) (begins : BeginsAt g.built.graph numbers start w) where
            walk-left : w.left ≡ commands_left entries targets start
            walk-left =
                begins.sound.left
                ∙ ap (λ (h : EdgeGraph). rest_of h w.targets w.mark) begins.graph
                ∙ ap (λ (ns : List FileNo). rest_of g.built.graph ns w.mark) begins.targets
                ∙ ap (λ (m : List ℕ). rest_of g.built.graph numbers m) begins.mark
                ∙ left-is

            text-is : command_lines entries (written take w.left)
                ≡ output_of entries (commands words validations take start)
            text-is =
                ap (λ (es : List ℕ). command_lines entries (written take es)) walk-left
                ∙ ap (λ (b : Bool). if b then command_lines entries
                (written take (commands_left entries targets start)) else []) (sym valid ∙ leads-is)
                ∙ ap (for_targets (output_for entries (commands words validations take start))) (sym named)

            leads-so : leads entries targets start ≡ true
            leads-so = sym leads-is ∙ valid

            walk-mark : (edges mark : List ℕ) → IsMarkAfter (makers_of w.graph) (count_of w.graph)
                (row_of w.graph w.targets) w.mark edges mark → IsMarkOf entries targets start edges mark
            walk-mark edges mark after =
                mark-is edges mark
                (subst (λ (m : List ℕ). IsMarkAfter (makers_of g.built.graph) (count_of g.built.graph)
                (row_of g.built.graph numbers) m edges mark) begins.mark
                (subst (λ (ns : List FileNo). IsMarkAfter (makers_of g.built.graph) (count_of g.built.graph)
                (row_of g.built.graph ns) w.mark edges mark) begins.targets
                (subst (λ (h : EdgeGraph). IsMarkAfter (makers_of h) (count_of h) (row_of h w.targets) w.mark
                edges mark) begins.graph after)))

            -- the rest was written, up to the limit
            pub commands-answered : (old new : SinkState) (mark : Option (List ℕ))
                → Takes old new (command_lines entries (written take w.left)) → StopsAt w take mark
                → ReturnsFor entries (commands words validations take start) old new (Ok mark)
            commands-answered old new None took stops = (
              ends-so finished (leads-so, subst (λ (es : List ℕ). left_after take es ≡ []) walk-left stops),
              subst (Takes old new) text-is took,
            )
            commands-answered old new (Some mark) took stops = (
              ends-so (stopped (run_mark_text validations mark)) (
                leads-so,
                subst (λ (es : List ℕ). left_after take es ≢ []) walk-left stops.0,
                mark,
                subst (λ (es : List ℕ). IsMarkOf entries targets start (written take es) mark) walk-left
                    (walk-mark (written take w.left) mark stops.1),
                stops.2,
                refl,
              ),
              subst (Takes old new) text-is took,
            )

            pub commands-failed : (old new : SinkState) (f : ToolFault)
                → StopsWithin old new (command_lines entries (written take w.left)) f
                → ReturnsFor entries (commands words validations take start) old new (Err (error_of_tool f))
            commands-failed old new f stopped_so =
                stops (commands words validations take start) old new f
                (subst (λ t. StopsWithin old new t f) text-is stopped_so)
