-- Laws of the runs of `commands`.
use Rattle.std.proofs.Common.{◌≡◌, ℕ, Bool, true, false, if◌then◌else◌, Option, Some, None, Result, Ok, Err}
use Rattle.std.proofs.Common.{List, [], ◌++◌, length, take, drop, refl, sym, ap, subst, ◌∙◌, append_assoc}
use Rattle.std.proofs.Common.{take-append-drop, true≢false}
use Rattle.std.specs.Prelude.{MatchOption, ok_or}
use Rattle.std.specs.List.{concat, last_or}
use Rattle.std.proofs.lemmas.List.{append-nil}
use Rattle.std.proofs.lemmas.List.Concat.{flat_map-append}
use Rattle.nj_scope.specs.ReadingList.{ReadStatement}
use Rattle.nj_cycles.specs.Cycles.{IsAcyclic}
use Rattle.nj_edges.specs.Edges.{EdgePaths}
use Rattle.nj_faults.specs.declared.fault.GraphFault.{GraphFault}
use Rattle.nj_faults.specs.FaultLines.{fault_line}
use Rattle.nj_needs.specs.MarkTexts.{ReadsBack}
use Rattle.nj_edges.specs.Needs.{makers_of_inputs}
use Rattle.nj_needs.specs.Graphs.{row_of_paths, is_phony_in}
use Rattle.nj_needs.specs.Marks.{rest, IsFirstPlace}
use Rattle.nj_needs.specs.Needs.{AreWithin}
use Rattle.nj_needs.specs.Order.{needed_commands}
use Rattle.nj_needs.proofs.Bridges.{AreWithin-paths}
use Rattle.nj_needs.proofs.OrderLaws.{commands-reached, commands-once, commands-after_needs}
use Rattle.nj_needs.proofs.PageLaws.{mark-keeps_the_rest}
use Rattle.nj_needs.proofs.PlaceLaws.{first-places_are_one}
use Rattle.nj_needs.proofs.Striking.{without-none}
use Rattle.nj_requests.specs.Actions.{ActionModel, commands, single_commands}
use Rattle.nj_args.specs.Requests.{start_of}
use Rattle.nj_requests.specs.Actions as ask
use Rattle.nj_args.specs.RunMarks.{run_mark_text}
use Rattle.nj_args.proofs.RunMarks.{run-mark_reads_back}
use Rattle.nj_args.specs.declared.usage_fault.UsageFault.TheVariants.{BadMark}
use Rattle.nj_needs.specs.PageWalks.{written}
use Rattle.nj_tools.specs.CommandStrings.{command_lines}
use Rattle.nj_tools.specs.Inside.Commands.{command_line}
use Rattle.nj_cli.specs.Answers.{leads, commands_left, IsMarkOf, output_for, output_of, Ending, finished}
use Rattle.nj_cli.specs.Answers.{stopped, faulty, PageEnds, EndsWith}
use Rattle.nj_cli.specs.Inside.RunSteps.{for_targets, EndsOr, Finishes}
use Rattle.nj_cli.specs.Headline.{AreNeeded, WritesTheNeeded, IsRun, ArePageStrings, PageStringsJoin}
use Rattle.nj_cli.specs.Headline.{StoppedRunsContinue, OneEnding}
use Rattle.nj_cli.specs.Headline.ArePageStrings.{no_runs, finishes, stops}
use Rattle.nj_graph.specs.Targets.{targets_named}
use Rattle.nj_cli.specs.Targets.{edges_by_path, NoEdgeNeedsItself, targets_of}

-- ---- the targets and the mark of a run that is not refused

-- how a run that is not refused ends
abbrev Goes : Ending → Type 0
Goes finished = Unit {0}
Goes (stopped mark) = Unit {0}
Goes (faulty text) = ⊥

pub record Page (entries : List ReadStatement) (take : Option ℕ) (start : List ℕ) (words : List (List ℕ))
    (validations : Bool) (ending : Ending) : Type 0 where
  pub targets : List (List ℕ)
  pub named : targets_of entries validations words ≡ Ok targets
  pub leads_so : leads entries targets start ≡ true
  pub ends_so : PageEnds entries validations take start targets ending

not-faulty : (ending : Ending) (text : List ℕ) → Goes ending → ending ≡ faulty text → ⊥
not-faulty finished text goes is = absurd cc
not-faulty (stopped mark) text goes is = absurd cc
not-faulty (faulty other) text goes is = goes

leading : (entries : List ReadStatement) (validations : Bool) (take : Option ℕ) (start : List ℕ)
    (targets : List (List ℕ)) (ending : Ending) → Goes ending
    → PageEnds entries validations take start targets ending → leads entries targets start ≡ true
leading entries validations take start targets finished goes ends_so = ends_so.0
leading entries validations take start targets (stopped mark) goes ends_so = ends_so.0
leading entries validations take start targets (faulty text) goes ends_so = absurd goes

module _ (entries : List ReadStatement) (take : Option ℕ) (start : List ℕ) (words : List (List ℕ))
    (validations : Bool) (ending : Ending) (goes : Goes ending) where
  page-of : (ts : Result (List (List ℕ)) GraphFault) → targets_of entries validations words ≡ ts
      → EndsOr (PageEnds entries validations take start) ts ending
      → Page entries take start words validations ending
  page-of (Ok targets) named ends_so =
      record {
        targets = targets;
        named = named;
        leads_so =
            leading entries validations take start targets ending goes ends_so;
        ends_so = ends_so;
      }
  page-of (Err f) named refused = absurd (not-faulty ending (fault_line f) goes refused)

  pub page : EndsWith entries (commands words validations take start) ending
      → Page entries take start words validations ending
  page ends_so = page-of (targets_of entries validations words) refl ends_so

-- its output
pub output-is : (entries : List ReadStatement) (take : Option ℕ) (start : List ℕ) (words : List (List ℕ))
    (validations : Bool) (targets : List (List ℕ)) → targets_of entries validations words ≡ Ok targets
    → leads entries targets start ≡ true
    → output_of entries (commands words validations take start)
    ≡ command_lines entries (written take (commands_left entries targets start))
output-is entries take start words validations targets named leads_so =
    ap (for_targets (output_for entries (commands words validations take start))) named
    ∙ ap (λ (b : Bool). if b then command_lines entries (written take (commands_left entries targets start))
    else []) leads_so

-- a run with a mark that leads to an edge finishes, if nothing limits it
finishes-unlimited : (entries : List ReadStatement) (start : List ℕ) (words : List (List ℕ))
    (validations : Bool) (targets : List (List ℕ)) → targets_of entries validations words ≡ Ok targets
    → leads entries targets start ≡ true
    → EndsWith entries (commands words validations None start) finished
finishes-unlimited entries start words validations targets named leads_so =
    subst (λ (ts : Result (List (List ℕ)) GraphFault). EndsOr (PageEnds entries validations None start) ts
    finished) (sym named) (leads_so, refl)

-- ---- the needed commands

module _ (edges : List EdgePaths) (targets : List (List ℕ)) (none : NoEdgeNeedsItself edges) where
  acyclic : IsAcyclic (makers_of_inputs edges) (length edges)
  acyclic = none

  within : AreWithin (row_of_paths edges targets) (length edges)
  within = AreWithin-paths edges targets

  needed : AreNeeded edges targets (needed_commands (makers_of_inputs edges) (length edges)
      (is_phony_in edges) (row_of_paths edges targets))
  needed = record {
    reached = commands-reached (makers_of_inputs edges) (length edges) (is_phony_in edges)
        (row_of_paths edges targets) acyclic within;
    once = commands-once (makers_of_inputs edges) (length edges) (is_phony_in edges)
        (row_of_paths edges targets);
    after = commands-after_needs (makers_of_inputs edges) (length edges) (is_phony_in edges)
        (row_of_paths edges targets) acyclic within;
    order = refl;
  }

pub writes-the_needed : WritesTheNeeded
writes-the_needed entries words validations none ends_so =
    let p = page entries None [] words validations finished tt ends_so in
    let edges = edges_by_path entries in
    let numbers = needed_commands (makers_of_inputs edges) (length edges) (is_phony_in edges)
    (row_of_paths edges p.targets) in (
      p.targets,
      p.named,
      numbers,
      needed edges p.targets none,
      output-is entries None [] words validations p.targets p.named p.leads_so
          ∙ ap (command_lines entries) (without-none numbers),
    )

-- ---- pages

-- the targets of the arguments are the given targets alone
same-targets : (entries : List ReadStatement) (words : List (List ℕ)) (validations : Bool)
    (targets others : List (List ℕ)) → targets_of entries validations words ≡ Ok targets
    → targets_of entries validations words ≡ Ok others → others ≡ targets
same-targets entries words validations targets others one other = let e : Ok others ≡ Ok targets =
    sym other ∙ one in cc

-- the request is one run
run-is : (words : List (List ℕ)) (validations : Bool) (limit : Option ℕ) (resume : Option (List ℕ))
    (run : ActionModel) (start : List ℕ) → start_of validations resume ≡ Ok start
    → IsRun words validations limit resume run
    → run ≡ commands words validations limit start
run-is words validations limit resume run start meant (other, given_too, is) =
    let e : Ok other ≡ Ok start = sym given_too ∙ meant in
    let same : other ≡ start = cc in is ∙ ap (commands words validations limit) same

-- a mark that reads back is the mark of its text
start-meant : (validations : Bool) (text mark : List ℕ) → ReadsBack mark
    → text ≡ run_mark_text validations mark → start_of validations (Some text) ≡ Ok mark
start-meant validations text mark back text_is =
    ap (λ (t : List ℕ). start_of validations (Some t)) text_is
    ∙ ap (λ (meant : Option (List ℕ)). ok_or meant (BadMark (run_mark_text validations mark)))
    (run-mark_reads_back validations mark back)

module _ (entries : List ReadStatement) (words : List (List ℕ)) (validations : Bool) (targets : List (List ℕ))
    (named : targets_of entries validations words ≡ Ok targets)
    (none : NoEdgeNeedsItself (edges_by_path entries)) where
  -- after a page: the mark leads to an edge, and the rest is left there
  after-page : (start : List ℕ) (take : ℕ) (mark : List ℕ) → leads entries targets start ≡ true
      → IsMarkOf entries targets start (written (Some take) (commands_left entries targets start)) mark
      → (leads entries targets mark ≡ true)
      × (commands_left entries targets mark ≡ drop take (commands_left entries targets start))
  after-page start count mark leads_so is =
      let edges = edges_by_path entries in
      mark-keeps_the_rest (makers_of_inputs edges) (length edges) (is_phony_in edges)
      (row_of_paths edges targets) (acyclic edges targets none) (within edges targets none)
      start (take count (commands_left entries targets start))
      (drop count (commands_left entries targets start)) mark leads_so
      (sym (take-append-drop count (commands_left entries targets start))) is

  lines-split : (count : ℕ) (numbers : List ℕ)
      → command_lines entries numbers ≡ command_lines entries (take count numbers)
      ++ command_lines entries (drop count numbers)
  lines-split count numbers =
      ap (command_lines entries) (sym (take-append-drop count numbers))
      ∙ flat_map-append (command_line entries) (take count numbers) (drop count numbers)

  join : (resume : Option (List ℕ)) (start : List ℕ) → start_of validations resume ≡ Ok start
      → (takes : List ℕ) (outputs : List (List ℕ)) (rest : List ℕ) → leads entries targets start ≡ true
      → ArePageStrings entries words validations resume takes outputs rest
      → output_of entries (commands words validations None start) ≡ concat outputs ++ rest
  join resume start meant _ _ rest leads_so (no_runs run asked is) =
      ap (output_of entries) (sym (run-is words validations None resume run start meant asked)) ∙ is
  join resume start meant _ _ _ leads_so (finishes {take = count} {output = output} run asked ends_so is) =
      let run_is = run-is words validations (Some count) resume run start meant asked in
      let p = page entries (Some count) start words validations finished tt
      (subst (λ (a : ActionModel). EndsWith entries a finished) run_is ends_so) in
      let left = commands_left entries targets start in
      let none_left : drop count left ≡ [] =
      subst (λ (ts : List (List ℕ)). drop count (commands_left entries ts start) ≡ [])
      (same-targets entries words validations targets p.targets named p.named) p.ends_so.1 in
      output-is entries None start words validations targets named leads_so
      ∙ lines-split count left
      ∙ ap (λ (es : List ℕ). command_lines entries (take count left) ++ command_lines entries es) none_left
      ∙ ap (λ (t : List ℕ). t ++ []) (sym (output-is entries (Some count) start words validations targets
      named leads_so) ∙ ap (output_of entries) (sym run_is) ∙ is)
      ∙ ap (λ (t : List ℕ). t ++ []) (sym (append-nil output))
  join resume start meant _ _ rest leads_so
      (stops {takes = takes} {output = output} {take = count} {outputs = outputs} run text asked ends_so is
      more) =
      let run_is = run-is words validations (Some count) resume run start meant asked in
      let p = page entries (Some count) start words validations (stopped text) tt
      (subst (λ (a : ActionModel). EndsWith entries a (stopped text)) run_is ends_so) in
      let (led, some, mark, is_mark, back, text_is) = p.ends_so in
      let left = commands_left entries targets start in
      let marked : IsMarkOf entries targets start (written (Some count) left) mark =
      subst (λ (ts : List (List ℕ)). IsMarkOf entries ts start
      (written (Some count) (commands_left entries ts start)) mark)
      (same-targets entries words validations targets p.targets named p.named) is_mark in
      let (leads_on, left_on) = after-page start count mark leads_so marked in
      let on : command_lines entries (drop count left) ≡ concat outputs ++ rest =
      ap (command_lines entries) (sym left_on)
      ∙ sym (output-is entries None mark words validations targets named leads_on)
      ∙ join (Some text) mark (start-meant validations text mark back text_is) takes outputs rest leads_on
      more in
      output-is entries None start words validations targets named leads_so
      ∙ lines-split count left
      ∙ ap (λ (t : List ℕ). t ++ command_lines entries (drop count left))
      (sym (output-is entries (Some count) start words validations targets named leads_so)
      ∙ ap (output_of entries) (sym run_is) ∙ is)
      ∙ ap (λ (t : List ℕ). output ++ t) on
      ∙ sym (append_assoc output (concat outputs) rest)

pub pages-join : PageStringsJoin
pages-join entries words validations none resume whole (start, meant, whole_is) ends_so takes outputs rest
    pages =
    let p = page entries None start words validations finished tt
    (subst (λ (a : ActionModel). EndsWith entries a finished) whole_is ends_so) in
    ap (output_of entries) whole_is ∙ join entries words validations p.targets p.named none resume start meant
    takes outputs rest p.leads_so pages

pub stopped-continued : StoppedRunsContinue
stopped-continued entries words validations none None start text ends_so = let p =
    page entries None start words validations (stopped text) tt ends_so in absurd (p.ends_so.1 refl)
stopped-continued entries words validations none (Some count) start text ends_so =
    let p = page entries (Some count) start words validations (stopped text) tt ends_so in
    let (led, some, mark, is_mark, back, text_is) = p.ends_so in
    let leads_on = (after-page entries words validations p.targets p.named none start count mark p.leads_so
    is_mark).0 in (
      commands words validations None mark,
      (mark, start-meant validations text mark back text_is, refl),
      finishes-unlimited entries mark words validations p.targets p.named leads_on,
    )

-- ---- one ending

module _ (entries : List ReadStatement) (validations : Bool) (take : Option ℕ) (start : List ℕ)
    (targets : List (List ℕ)) (none : NoEdgeNeedsItself (edges_by_path entries)) where
  -- an edge has one first place
  one-mark : (last : Option ℕ) (mark other : List ℕ)
      → MatchOption last (mark ≡ start) (λ e. IsFirstPlace (makers_of_inputs (edges_by_path entries))
      (length (edges_by_path entries)) (row_of_paths (edges_by_path entries) targets) mark e)
      → MatchOption last (other ≡ start) (λ e. IsFirstPlace (makers_of_inputs (edges_by_path entries))
      (length (edges_by_path entries)) (row_of_paths (edges_by_path entries) targets) other e)
      → mark ≡ other
  one-mark None mark other is so = is ∙ sym so
  one-mark (Some e) mark other is so =
      let edges = edges_by_path entries in
      first-places_are_one (makers_of_inputs edges) (length edges) (row_of_paths edges targets)
      (acyclic edges targets none) (within edges targets none) mark other e is so

  one-page : (ending other : Ending) → PageEnds entries validations take start targets ending
      → PageEnds entries validations take start targets other → ending ≡ other
  one-page finished finished is so = refl
  one-page finished (stopped mark) is so = absurd (so.1 is.1)
  one-page finished (faulty text) is so = absurd (true≢false (sym is.0 ∙ so.0))
  one-page (stopped mark) finished is so = absurd (is.1 so.1)
  one-page (stopped text) (stopped other) (led, some, mark, is_mark, back, text_is)
      (led_too, some_too, another, is_another, back_too, other_is) =
      let same = one-mark (last_or None (written take (commands_left entries targets start))) mark another
      is_mark is_another in
      ap stopped (text_is ∙ ap (run_mark_text validations) same ∙ sym other_is)
  one-page (stopped mark) (faulty text) is so = absurd (true≢false (sym is.0 ∙ so.0))
  one-page (faulty text) finished is so = absurd (true≢false (sym so.0 ∙ is.0))
  one-page (faulty text) (stopped mark) is so = absurd (true≢false (sym so.0 ∙ is.0))
  one-page (faulty text) (faulty other) is so = ap faulty (is.1 ∙ sym so.1)

one-commands : (entries : List ReadStatement) (validations : Bool) (take : Option ℕ) (start : List ℕ)
    (targets : Result (List (List ℕ)) GraphFault) (ending other : Ending)
    → NoEdgeNeedsItself (edges_by_path entries)
    → EndsOr (PageEnds entries validations take start) targets ending
    → EndsOr (PageEnds entries validations take start) targets other → ending ≡ other
one-commands entries validations take start (Ok targets) ending other none is so =
    one-page entries validations take start targets none ending other is so
one-commands entries validations take start (Err f) ending other none is so = is ∙ sym so

one-for_targets : (targets : Result (List (List ℕ)) GraphFault) (ending other : Ending)
    → EndsOr Finishes targets ending → EndsOr Finishes targets other → ending ≡ other
one-for_targets (Ok targets) ending other is so = is ∙ sym so
one-for_targets (Err f) ending other is so = is ∙ sym so

pub one-ending : OneEnding
one-ending entries (commands words validations take start) ending other none is so =
    one-commands entries validations take start (targets_of entries validations words) ending other none is so
one-ending entries (single_commands words) ending other none is so =
    one-for_targets (targets_of entries false words) ending other is so
one-ending entries (ask.inputs words validations style) ending other none is so =
    one-for_targets (targets_of entries validations words) ending other is so
one-ending entries (ask.targets view) ending other none is so = is ∙ sym so
one-ending entries (ask.query words) ending other none is so =
    one-for_targets (targets_named (edges_by_path entries) words) ending other is so
one-ending entries (ask.rules descriptions) ending other none is so = is ∙ sym so
one-ending entries (ask.compdb names directory expand) ending other none is so = is ∙ sym so
