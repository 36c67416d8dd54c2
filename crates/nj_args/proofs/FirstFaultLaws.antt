-- The reading of a request ends with the fault of the first mistake.
use Rattle.std.proofs.Common.{◌≡◌, ℕ, Bool, true, false, List, [], ◌∷◌, ◌++◌, map, take, Option, Some, None}
use Rattle.std.proofs.Common.{Result, Ok, Err, MatchOption, refl, sym, ap, subst, ◌∙◌}
use Rattle.std.specs.Prelude.{codes, ok_or, option_map, unwrap_or, ◌↔◌, if◌then◌else◌, IsOk}
use Rattle.std.specs.Option.{option_map_or}
use Rattle.nj_manifest.specs.LineSteps.{◌>>=◌}
use Rattle.clap.specs.Words.{Row, first_of}
use Rattle.nj_args.specs.Fields.{given_rows, is_on, words_in}
use Rattle.nj_args.specs.FirstFaults.{Mistake, no_tool, unknown_tool, foreign_option, bad_take, bad_mark}
use Rattle.nj_args.specs.FirstFaults.{bad_words, bad_depth, all_mistakes, NamesTool, HasMistake, toolless}
use Rattle.nj_args.specs.FirstFaults.{unknown, no_number, no_mark, Lacks, HasNoMistake, IsFirstOf, first}
use Rattle.nj_args.specs.FirstFaults.{later, FirstFaultIsReported, FaultlessWordsAreRequests}
use Rattle.nj_args.specs.Inside.Held.{first_foreign, goes_with, query_of, rules_of}
use Rattle.nj_args.specs.Numbers.{given_number}
use Rattle.nj_requests.specs.Actions.{ActionModel, commands, single_commands, inputs, targets, query, rules}
use Rattle.nj_requests.specs.Actions.{compdb, RequestModel}
use Rattle.nj_args.specs.Requests.{style_of, request_of, request_in, action_of, asked_of, commands_of}
use Rattle.nj_args.specs.Requests.{take_of, start_of}
use Rattle.nj_args.specs.RunMarks.{given_run_mark}
use Rattle.nj_args.specs.Tools.{tool_named, all_options}
use Rattle.nj_args.specs.declared.usage_fault.ToolOption.{ToolOption}
use Rattle.nj_args.specs.declared.usage_fault.ToolOption.TheVariants as option
use Rattle.nj_args.specs.declared.usage_fault.UsageFault.{UsageFault}
use Rattle.nj_args.specs.declared.usage_fault.UsageFault.TheVariants.{Unparsed, UnknownTool, ForeignOption}
use Rattle.nj_args.specs.declared.usage_fault.UsageFault.TheVariants.{BadNumber, BadMark}
use Rattle.nj_args.specs.declared.tools.Tool.{Tool}
use Rattle.nj_args.specs.declared.tools.Tool.TheVariants.{Commands, Inputs, Targets, Query, Rules, Compdb}
use Rattle.nj_args.proofs.Mistakes.{LacksAll, Ends, in_value, in_fault, skip, mapped, bound, reported, found}
use Rattle.nj_args.proofs.Mistakes.{none_found, NotForeign, not_foreign, not_given, lacks_bad_take}
use Rattle.nj_args.proofs.Mistakes.{lacks_bad_mark, takes_all, refuses}
use Rattle.nj_args.proofs.ViewMistakes.{view_ends}

-- ---- the tools

abbrev last_mistakes : List Mistake
last_mistakes = bad_take ∷ bad_mark ∷ bad_words ∷ bad_depth ∷ []

-- a tool that `--take` and `--resume` do not go with
takes_no_pages : {A : Type 0} {result : Result A UsageFault} (tool : Tool) (rows : List Row)
    → NotForeign tool rows
    → goes_with tool (is_on (codes "-s") rows) option.Take ≡ false
    → goes_with tool (is_on (codes "-s") rows) option.Resume ≡ false
    → Ends rows (bad_words ∷ bad_depth ∷ []) result → Ends rows last_mistakes result
takes_no_pages tool rows none take resume ends =
    let no_take = not_given (first_of (codes "--take") rows)
    (goes_with tool (is_on (codes "-s") rows) option.Take) none.take take in
    let no_resume = not_given (first_of (codes "--resume") rows)
    (goes_with tool (is_on (codes "-s") rows) option.Resume) none.resume resume in
    skip (lacks_bad_take rows no_take) (skip (lacks_bad_mark rows no_resume) ends)

module _ (rows : List Row) where
  take_ends : (take : Option (List ℕ)) → first_of (codes "--take") rows ≡ take
      → Ends rows (bad_take ∷ []) (take_of take)
  take_ends None e = in_value (lacks_bad_take rows e, tt)
  take_ends (Some text) e = by_number (given_number text) refl
    where
      meant : (number : ℕ) → given_number text ≡ Some number → Lacks rows bad_take
      meant number k fault (no_number other f none) =
          let strings : Some text ≡ Some other = sym e ∙ f in
          let same : text ≡ other = cc in
          let both : Some number ≡ None = sym k ∙ ap given_number same ∙ none in
          absurd (cc)

      by_number : (number : Option ℕ) → given_number text ≡ number
          → Ends rows (bad_take ∷ []) (ok_or (option_map Some number) (BadNumber text))
      by_number None k = in_fault (first (no_number text e k))
      by_number (Some number) k = in_value (meant number k, tt)

  mark_ends : (resume : Option (List ℕ)) → first_of (codes "--resume") rows ≡ resume
      → Ends rows (bad_mark ∷ []) (start_of (is_on (codes "--validations") rows) resume)
  mark_ends None e = in_value (lacks_bad_mark rows e, tt)
  mark_ends (Some text) e = by_mark (given_run_mark (is_on (codes "--validations") rows) text) refl
    where
      meant : (mark : List ℕ) → given_run_mark (is_on (codes "--validations") rows) text ≡ Some mark
          → Lacks rows bad_mark
      meant mark k fault (no_mark other f none) =
          let strings : Some text ≡ Some other = sym e ∙ f in
          let same : text ≡ other = cc in
          let both : Some mark ≡ None = sym k ∙ ap (given_run_mark (is_on (codes "--validations") rows)) same
          ∙ none in
          absurd (cc)

      by_mark : (mark : Option (List ℕ)) → given_run_mark (is_on (codes "--validations") rows) text ≡ mark
          → Ends rows (bad_mark ∷ []) (ok_or mark (BadMark text))
      by_mark None k = in_fault (first (no_mark text e k))
      by_mark (Some mark) k = in_value (meant mark k, tt)

  commands_end : (name : List ℕ) → NamesTool rows name Commands → NotForeign Commands rows
      → Ends rows last_mistakes (commands_of rows)
  commands_end name names none = by_single (is_on (codes "-s") rows) refl
    where
      any : {A : Type 0} (x : A) → Ends rows (bad_words ∷ bad_depth ∷ []) (Ok x)
      any x = takes_all rows name Commands names x (λ e. cc) tt

      by_single : (single : Bool) → is_on (codes "-s") rows ≡ single
          → Ends rows last_mistakes (if single then Ok (single_commands (words_in rows)) else
          (take_of (first_of (codes "--take") rows) >>= (λ take.
          start_of (is_on (codes "--validations") rows) (first_of (codes "--resume") rows) >>=
          (λ start. Ok (commands (words_in rows) (is_on (codes "--validations") rows) take start)))))
      by_single true e = takes_no_pages Commands rows none (ap (λ s. goes_with Commands s option.Take) e)
          (ap (λ s. goes_with Commands s option.Resume) e) (any (single_commands (words_in rows)))
      by_single false e =
          bound (λ take. start_of (is_on (codes "--validations") rows) (first_of (codes "--resume") rows) >>=
          (λ start. Ok (commands (words_in rows) (is_on (codes "--validations") rows) take start)))
          (take_ends (first_of (codes "--take") rows) refl)
          (λ take. bound (λ start. Ok (commands (words_in rows) (is_on (codes "--validations") rows) take
          start)) (mark_ends (first_of (codes "--resume") rows) refl)
          (λ start. any (commands (words_in rows) (is_on (codes "--validations") rows) take start)))

-- ---- the request

module _ (rows : List Row) (name : List ℕ) where
  query_ends : NamesTool rows name Query → (words : List (List ℕ)) → words_in rows ≡ words
      → Ends rows (bad_words ∷ bad_depth ∷ []) (query_of name words)
  query_ends names [] e = refuses rows name Query names ActionModel (λ some. some e)
  query_ends names (word ∷ words) e =
      takes_all rows name Query names (query (word ∷ words)) (λ e. cc)
      (λ f. let both : word ∷ words ≡ [] = sym e ∙ f in cc)

  rules_end : NamesTool rows name Rules → (words : List (List ℕ)) → words_in rows ≡ words
      → Ends rows (bad_words ∷ bad_depth ∷ []) (rules_of name (is_on (codes "-d") rows) words)
  rules_end names [] e = takes_all rows name Rules names (rules (is_on (codes "-d") rows)) (λ e. cc) e
  rules_end names (word ∷ words) e =
      refuses rows name Rules names ActionModel (λ none. let both : word ∷ words ≡ [] = sym e ∙ none in cc)

  asked_ends : (tool : Tool) → NamesTool rows name tool → NotForeign tool rows
      → Ends rows last_mistakes (asked_of tool name rows)
  asked_ends Commands names none = commands_end rows name names none
  asked_ends Inputs names none =
      takes_no_pages Inputs rows none refl refl
      (takes_all rows name Inputs names (inputs (words_in rows) (is_on (codes "--validations") rows)
      (style_of rows)) (λ e. cc) tt)
  asked_ends Targets names none =
      takes_no_pages Targets rows none refl refl
      (mapped targets (view_ends rows name names (words_in rows) refl))
  asked_ends Query names none = takes_no_pages Query rows none refl refl
      (query_ends names (words_in rows) refl)
  asked_ends Rules names none = takes_no_pages Rules rows none refl refl
      (rules_end names (words_in rows) refl)
  asked_ends Compdb names none =
      takes_no_pages Compdb rows none refl refl
      (takes_all rows name Compdb names (compdb (words_in rows)
      (unwrap_or (first_of (codes "--directory") rows) (codes ".")) (is_on (codes "-x") rows)) (λ e. cc)
      tt)

  -- the options that do not go with the tool come first
  tool_ends : (tool : Tool) (foreign : Option ToolOption) → NamesTool rows name tool
      → first_foreign tool rows ≡ foreign
      → Ends rows (map foreign_option all_options ++ last_mistakes)
      (option_map_or (λ option. Err (ForeignOption option name)) foreign (asked_of tool name rows))
  tool_ends tool None names e =
      none_found rows name tool names all_options last_mistakes (asked_of tool name rows) e
      (asked_ends tool names (not_foreign tool rows e))
  tool_ends tool (Some option) names e =
      in_fault (found rows name tool names all_options last_mistakes option e)

  named_ends : (known : Option Tool) → first_of (codes "-t") rows ≡ Some name → tool_named name ≡ known
      → Ends rows (unknown_tool ∷ (map foreign_option all_options ++ last_mistakes))
      (ok_or known (UnknownTool name) >>= (λ tool.
      option_map_or (λ option. Err (ForeignOption option name)) (first_foreign tool rows)
      (asked_of tool name rows)))
  named_ends None e k = in_fault (first (unknown name e k))
  named_ends (Some tool) e k = skip is_known
      (tool_ends tool (first_foreign tool rows) (record { asked = e; known = k }) refl)
    where
      is_known : Lacks rows unknown_tool
      is_known fault (unknown other f none) =
          let names : Some name ≡ Some other = sym e ∙ f in
          let same : name ≡ other = cc in
          let both : Some tool ≡ None = sym k ∙ ap tool_named same ∙ none in
          absurd (cc)

abbrev request_for : List Row → ActionModel → RequestModel
request_for rows action = record {
  file = unwrap_or (first_of (codes "-f") rows) (codes "build.ninja");
  from_stdin = is_on (codes "--stdin") rows;
  dyndep = is_on (codes "--dyndep") rows;
  action = action;
}

request_ends : (rows : List Row) → Ends rows all_mistakes (request_in rows)
request_ends rows = by_tool (first_of (codes "-t") rows) refl
  where
    has_tool : (name : List ℕ) → first_of (codes "-t") rows ≡ Some name → Lacks rows no_tool
    has_tool name e fault (toolless f) = let both : Some name ≡ None = sym e ∙ f in absurd (cc)

    by_tool : (tool : Option (List ℕ)) → first_of (codes "-t") rows ≡ tool
        → Ends rows all_mistakes (ok_or tool Unparsed >>=
        (λ name. action_of name rows >>= (λ action. Ok (request_for rows action))))
    by_tool None e = in_fault (first (toolless e))
    by_tool (Some name) e = skip (has_tool name e)
        (mapped (request_for rows) (named_ends rows name (tool_named name) e refl))

-- ---- the laws

its_first : {A : Type 0} {rows : List Row} {mistakes : List Mistake} {fault : UsageFault}
    → Ends {A = A} rows mistakes (Err fault)
    → IsFirstOf rows mistakes fault
its_first (in_fault h) = h

first_reported : (rows : Option (List Row)) (fault : UsageFault)
    → ((ok_or rows Unparsed >>= request_in) ≡ Err fault)
    ↔ MatchOption rows (fault ≡ Unparsed) (λ rows. IsFirstOf rows all_mistakes fault)
first_reported None fault = (λ e. cc, λ e. ap Err (sym e))
first_reported (Some rows) fault = (
  λ e. its_first (subst (λ result. Ends rows all_mistakes result) e (request_ends rows)),
  λ h. reported (request_ends rows) h,
)

pub first_fault-is_reported : FirstFaultIsReported
unfolding request_of
first_fault-is_reported [] some fault = absurd (some refl)
first_fault-is_reported (word ∷ words) some fault = first_reported (given_rows (word ∷ words)) fault

-- there is a value exactly if there is no mistake
lacks_all : {A : Type 0} {rows : List Row} {mistakes : List Mistake} {result : Result A UsageFault}
    → Ends rows mistakes result
    → IsOk result → LacksAll rows mistakes
lacks_all (in_value none) ok = none
lacks_all (in_fault h) ok = absurd (cc)

lacks_each : (rows : List Row) → LacksAll rows all_mistakes → HasNoMistake rows
lacks_each rows none no_tool = none.0
lacks_each rows none unknown_tool = none.1.0
lacks_each rows none (foreign_option option.Single) = none.1.1.0
lacks_each rows none (foreign_option option.Descriptions) = none.1.1.1.0
lacks_each rows none (foreign_option option.Expand) = none.1.1.1.1.0
lacks_each rows none (foreign_option option.Directory) = none.1.1.1.1.1.0
lacks_each rows none (foreign_option option.Take) = none.1.1.1.1.1.1.0
lacks_each rows none (foreign_option option.Resume) = none.1.1.1.1.1.1.1.0
lacks_each rows none (foreign_option option.Validations) = none.1.1.1.1.1.1.1.1.0
lacks_each rows none (foreign_option option.DependencyOrder) = none.1.1.1.1.1.1.1.1.1.0
lacks_each rows none (foreign_option option.NoShellEscape) = none.1.1.1.1.1.1.1.1.1.1.0
lacks_each rows none (foreign_option option.Print0) = none.1.1.1.1.1.1.1.1.1.1.1.0
lacks_each rows none bad_take = none.1.1.1.1.1.1.1.1.1.1.1.1.0
lacks_each rows none bad_mark = none.1.1.1.1.1.1.1.1.1.1.1.1.1.0
lacks_each rows none bad_words = none.1.1.1.1.1.1.1.1.1.1.1.1.1.1.0
lacks_each rows none bad_depth = none.1.1.1.1.1.1.1.1.1.1.1.1.1.1.1.0

has_mistake : {rows : List Row} {mistakes : List Mistake} {fault : UsageFault} → IsFirstOf rows mistakes fault
    → (mistake : Mistake) × HasMistake rows mistake fault
has_mistake (first {mistake} h) = (mistake, h)
has_mistake (later lacks h) = has_mistake h

is_value : {A : Type 0} {rows : List Row} {mistakes : List Mistake} {result : Result A UsageFault}
    → Ends rows mistakes result
    → HasNoMistake rows → IsOk result
is_value (in_value none) faultless = refl
is_value (in_fault h) faultless = let had = has_mistake h in absurd (faultless had.0 _ had.1)

faultless_asks : (rows : Option (List Row))
    → IsOk (ok_or rows Unparsed >>= request_in) ↔ MatchOption rows ⊥ HasNoMistake
faultless_asks None = (λ ok. cc, λ none. absurd none)
faultless_asks (Some rows) = (
  λ ok. lacks_each rows (lacks_all (request_ends rows) ok),
  λ faultless. is_value (request_ends rows) faultless,
)

pub faultless_words-are_requests : FaultlessWordsAreRequests
unfolding request_of
faultless_words-are_requests [] some = absurd (some refl)
faultless_words-are_requests (word ∷ words) some = faultless_asks (given_rows (word ∷ words))
