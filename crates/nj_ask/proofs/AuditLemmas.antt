-- The answer to `audit`, by its parts.
use Rattle.std.proofs.Common.{◌≡◌, ℕ, zero, suc, Bool, true, false, cond, Option, Some, None}
use Rattle.std.proofs.Common.{option_map, is_some, List, [], ◌∷◌, map, drop, get_or}
use Rattle.std.proofs.Common.{refl, sym, ap, ◌∙◌, append-nil}
use Rattle.std.specs.Prelude.{◌==◌, slice_index_or, length}
use Rattle.std.specs.List.{filter_map, list_any}
use Rattle.std.proofs.lemmas.Option.{none-some}
use Rattle.nj_text.specs.Calls.{is_empty}
use Rattle.nj_discovered.specs.Times.{DeclaredTimes, IsTimeOf}
use Rattle.nj_discovered.specs.declared.times.TimeFound.{TimeFound}
use Rattle.nj_graph.specs.ReadingList.{ReadStatement}
use Rattle.nj_graph.specs.Edges.{maker_of}
use Rattle.nj_graph.specs.Graph.{GraphModel, edges_of, files_of}
use Rattle.nj_graph.specs.Handles.{GraphFile, file_in, files_in}
use Rattle.nj_audit.specs.Audit.{all_findings, findings_asked_for, missing_source, missing_sources, numbers}
use Rattle.nj_audit.specs.Audits.{IsAudit}
use Rattle.nj_audit.specs.Findings.{FindingModel}
use Rattle.nj_audit.specs.Kinds.{first_unknown}
use Rattle.nj_audit.specs.declared.kinds.Kinds.{Kinds}
use Rattle.nj_audit.proofs.KindLemmas.{asked-law, of-none}
use Rattle.nj_questions.specs.Questions.{AuditModel}
use Rattle.nj_ask.specs.Audits.{LooksUp, WouldBeMissing, audit_misuse, is_absent, is_unanswered}
use Rattle.nj_ask.specs.Audits.{kind_lines, kinds_listed, selection_in}
use Rattle.nj_ask.specs.Audits.{unknown_kind_line}
use Rattle.nj_ask.specs.Audits.LooksUp.{made, source}
use Rattle.nj_ask.specs.Inside.AuditParts.{HasServing, SaysUnknown}
use Rattle.nj_ask.proofs.InputLemmas.{not-none}

-- ---- the options

-- words that name kinds are accepted
pub kinds-allowed : (options : AuditModel) → first_unknown (selection_in options) ≡ None
    → audit_misuse options ≡ None
kinds-allowed options known = by options.list
  where
    by : (b : Bool) → cond b None (option_map unknown_kind_line (first_unknown (selection_in options)))
        ≡ None
    by true = refl
    by false = ap (option_map unknown_kind_line) known

-- others are not, unless the kinds are listed
pub kinds-refused : (options : AuditModel) (line : List ℕ) → kinds_listed options ≡ None
    → SaysUnknown (first_unknown (selection_in options)) line → audit_misuse options ≡ Some line
kinds-refused options line unlisted says = by options.list unlisted
  where
    by : (b : Bool) → cond b (Some kind_lines) None ≡ None
        → cond b None (option_map unknown_kind_line (first_unknown (selection_in options))) ≡ Some line
    by true none = absurd (none-some kind_lines (sym none))
    by false none = says

-- ---- findings

-- whether a list is empty, by the list that stands for it
pub same-empty : {X Y : Type 0} (f : X → Y) (xs : List X) (ys : List Y) → map f xs ≡ ys
    → (length xs == 0) ≡ is_empty ys
same-empty f [] ys is = ap is_empty is
same-empty f (x ∷ xs) ys is = not-none x xs ∙ ap is_empty is

-- ---- sources

-- there is a value where what it is mapped to is a value mapped
pub mapped-is : {X Y Z : Type 0} (f : X → Z) (h : Y → Z) (o : Option X) (p : Option Y)
    → option_map f o ≡ option_map h p → is_some p ≡ is_some o
mapped-is f h None None same = refl
mapped-is f h None (Some y) same = absurd cc
mapped-is f h (Some x) None same = absurd cc
mapped-is f h (Some x) (Some y) same = refl

module _ (g : GraphModel) (times : DeclaredTimes) (path : List ℕ) where
  pub looks-made : is_some (maker_of (edges_of g) path) ≡ true → LooksUp g times path false false
  looks-made is = by (maker_of (edges_of g) path) refl is
    where
      by : (o : Option ℕ) → maker_of (edges_of g) path ≡ o → is_some o ≡ true
          → LooksUp g times path false false
      by None same is = absurd cc
      by (Some maker) same is = made same

  pub looks-source : is_some (maker_of (edges_of g) path) ≡ false → (found : TimeFound)
      → IsTimeOf times path found
      → LooksUp g times path (is_absent found) (is_unanswered found)
  looks-source is found are = source (by (maker_of (edges_of g) path) is) are
    where
      by : (o : Option ℕ) → is_some o ≡ false → o ≡ None
      by None is = refl
      by (Some maker) is = absurd cc

-- the files that are left, from one on
pub left-files : (g : GraphModel) (paths : List (List ℕ)) (file : GraphFile) (rest : List GraphFile)
    → files_in g paths ≡ file ∷ rest
    → (left : List (List ℕ)) × (paths ≡ file.path ∷ left) × (rest ≡ files_in g left) × (file.graph ≡ g)
left-files g [] file rest is = absurd cc
left-files g (path ∷ paths) file rest is =
    let first = ap (λ fs. get_or fs 0 (file_in g path)) is in (
      paths,
      ap (λ (f : GraphFile). f.path ∷ paths) first,
      sym (ap (λ fs. drop 1 fs) is),
      sym (ap (λ (f : GraphFile). f.graph) first),
    )

pub left-none : (g : GraphModel) (paths : List (List ℕ)) → files_in g paths ≡ [] → paths ≡ []
left-none g [] is = refl
left-none g (path ∷ paths) is = absurd cc

-- ---- sources that cannot be looked up

unset : (flags : List Bool) (i : ℕ) → list_any (λ flag. flag) flags ≡ false
    → slice_index_or flags i false ≡ false
unset [] i none = refl
unset (true ∷ flags) i none = absurd cc
unset (false ∷ flags) zero none = refl
unset (false ∷ flags) (suc i) none = unset flags i none

none-found : {X Y : Type 0} (h : X → Option Y) → ((x : X) → h x ≡ None) → (xs : List X) → filter_map h xs ≡ []
none-found h none [] = refl
none-found h none (x ∷ xs) = rw (none x) (none-found h none xs)

-- of all kinds missing sources alone
abbrev only_sources : Kinds
only_sources = record {
  unused_output = false;
  missing_source = true;
  unused_rule = false;
  unused_pool = false;
  unused_variable = false;
  repeated_command = false;
  depfile_without_deps = false;
  repeated_input = false;
  undeclared_input = false;
}

-- the findings of an audit for missing sources alone
pub would-be-missing : (g : GraphModel) (entries : List ReadStatement) (unknown : List Bool)
    (found : List FindingModel) → IsAudit g entries unknown [] [] only_sources found
    → WouldBeMissing g unknown found
would-be-missing g entries unknown found is = record {
  serving = is.serving;
  are_serving = is.are_serving;
  found_is = is.finds ∙ ap (λ others. findings_asked_for only_sources
      (all_findings g entries unknown is.serving others))
      is.are_undeclared
      ∙ sym (asked-law g entries unknown is.serving [] of-none only_sources)
      ∙ append-nil (missing_sources g unknown is.serving);
}

-- where each source can be looked up, none would be missing
pub none-missing : (g : GraphModel) (unknown : List Bool) → HasServing g
    → list_any (λ flag. flag) unknown ≡ false
    → WouldBeMissing g unknown []
none-missing g unknown has none = record {
  serving = has.0;
  are_serving = has.1;
  found_is = sym (none-found (missing_source g unknown has.0)
      (λ file. rw (unset unknown file none) refl) (numbers (length (files_of g))));
}
