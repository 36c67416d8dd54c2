-- The findings that `audit` lists, and what its status 0 means.
use Rattle.std.proofs.Common.{◌≡◌, ◌≢◌, ◌⊎◌, ℕ, zero, suc, Bool, true, false, not, cond, List, [], ◌∷◌, ◌++◌}
use Rattle.std.proofs.Common.{refl, sym, ap, subst, ◌∙◌, arith, codes, inl, inr}
use Rattle.std.specs.Prelude.{Contains}
use Rattle.std.specs.List.{filter}
use Rattle.std.proofs.lemmas.List.Elements.{Contains-append_cases, Contains-append_left}
use Rattle.std.proofs.lemmas.List.Elements.{Contains-append_right}
use Rattle.nj_text.specs.Calls.{is_empty}
use Rattle.nj_discovered.specs.Times.{DeclaredTimes}
use Rattle.nj_graph.specs.ReadingList.{ReadStatement}
use Rattle.nj_audit.specs.Audit.{all_findings}
use Rattle.nj_audit.specs.Findings.{FindingModel}
use Rattle.nj_audit.specs.Kinds.{contains}
use Rattle.nj_audit.specs.LoggedInputs.{AreFoundIf}
use Rattle.nj_audit.specs.declared.kinds.Kind.TheVariants.{UndeclaredInput}
use Rattle.nj_questions.specs.Questions.{AuditModel}
use Rattle.nj_tools.specs.Sinks.{Takes}
use Rattle.nj_ask.specs.declared.discovered.DiscoveredGraph.{DiscoveredGraph}
use Rattle.nj_ask.specs.declared.status.Status.{Status}
use Rattle.nj_ask.specs.declared.status.Status.TheVariants.{Done}
use Rattle.nj_ask.specs.Affected.{line}
use Rattle.nj_ask.specs.Audits.{AnswersAudit, WouldBeMissing, finding_lines, line_about}
use Rattle.nj_ask.specs.Audits.{lookup_lines}
use Rattle.nj_ask.specs.Endings.{Concludes, Ending, Ends, Sinks, answered, answered_status}
use Rattle.nj_ask.specs.Endings.Ends.{ended, memory_fails, output_fails}
use Rattle.nj_ask.specs.KnownGraphs.{undeclared_in}
use Rattle.nj_ask.specs.AuditLaws.{AuditListsFindings, DoneFindsNothing, FindsNothing, ListsFindings}
use Rattle.nj_ask.specs.Shape.{caveat_text}

-- ---- a filter

one-is : {X : Type 0} (x y : X) → Contains (x ∷ []) y → x ≡ y
one-is x y (zero, below, is) = is
one-is x y (suc k, below, is) = absurd (omega (arith, below))

none-there : {X : Type 0} (y : X) → ¬ Contains [] y
none-there y has = let below = has.1 in omega (arith, below)

module _ {X : Type 0} (p : X → Bool) where
  -- what it keeps passes
  kept : (xs : List X) (y : X) → Contains (filter p xs) y → Contains xs y × (p y ≡ true)
  kept [] y has = absurd (none-there y has)
  kept (x ∷ xs) y has = by (p x) refl (kept xs y) has
    where
      by : (b : Bool) → p x ≡ b → (Contains (filter p xs) y → Contains xs y × (p y ≡ true))
          → Contains (cond b (x ∷ filter p xs) (filter p xs)) y → Contains (x ∷ xs) y × (p y ≡ true)
      by true is others has = elim (Contains-append_cases (x ∷ []) (filter p xs) y has) [
        | inl one ↦ (
          Contains-append_left (x ∷ []) xs y one,
          subst (λ z. p z ≡ true) (one-is x y one) is,
        )
        | inr rest ↦ (Contains-append_right (x ∷ []) xs y (others rest).0, (others rest).1)
      ]
      by false is others has = (Contains-append_right (x ∷ []) xs y (others has).0, (others has).1)

  -- and what passes is kept
  passes : (xs : List X) (y : X) → Contains xs y → p y ≡ true → Contains (filter p xs) y
  passes [] y has is = absurd (none-there y has)
  passes (x ∷ xs) y has is = by (p x) refl (λ rest. passes xs y rest is)
      (Contains-append_cases (x ∷ []) xs y has)
    where
      by : (b : Bool) → p x ≡ b → (Contains xs y → Contains (filter p xs) y)
          → Contains (x ∷ []) y ⊎ Contains xs y → Contains (cond b (x ∷ filter p xs) (filter p xs)) y
      by true same others (inl one) = Contains-append_left (x ∷ []) (filter p xs) y one
      by true same others (inr rest) = Contains-append_right (x ∷ []) (filter p xs) y (others rest)
      by false same others (inl one) =
          let no : false ≡ true = sym same ∙ ap p (one-is x y one) ∙ is in absurd cc
      by false same others (inr rest) = others rest

-- ---- what is listed

module _ (known : DiscoveredGraph) (entries : List ReadStatement) (times : DeclaredTimes) (folder : List ℕ)
    (options : AuditModel) where
  pub lists-findings : (output : List ℕ) (ending : Ending)
      → AnswersAudit known entries times folder options output ending
      → ListsFindings known entries times folder options output
  lists-findings output ending is =
      let audit = is.finds in
      let all = all_findings known.graph entries is.missing audit.serving audit.undeclared in
      let asked = λ (f : FindingModel). contains is.kinds f.kind in
      record {
        missing = is.missing;
        unknown = is.unknown;
        look_up = is.look_up;
        serving = audit.serving;
        are_serving = audit.are_serving;
        undeclared = audit.undeclared;
        are_undeclared = subst (λ asks. AreFoundIf asks known.graph entries folder (undeclared_in known)
            audit.undeclared) (is.asked UndeclaredInput) audit.are_undeclared;
        found = is.found;
        lines = is.output_is;
        lists = λ finding. (
          λ has. let there = kept asked all finding (subst (λ fs. Contains fs finding) audit.finds has) in
              (there.0, sym (is.asked finding.kind) ∙ there.1),
          λ there. subst (λ fs. Contains fs finding) (sym audit.finds)
              (passes asked all finding there.0 (is.asked finding.kind ∙ there.1)),
        );
      }

pub listed : AuditListsFindings
listed = lists-findings

-- ---- status 0

-- it has neither something to look at nor a warning
nothing-said : (looks : Bool) (warnings : List ℕ) → Done ≡ answered_status looks warnings
    → (looks ≡ false) × (warnings ≡ [])
nothing-said true warnings is = absurd cc
nothing-said false [] is = (refl, refl)
nothing-said false (b ∷ warnings) is = absurd cc

none-found : (found : List FindingModel) → not (is_empty found) ≡ false → found ≡ []
none-found [] is = refl
none-found (f ∷ found) is = absurd cc

two-empty : (xs ys : List ℕ) → xs ++ ys ≡ [] → (xs ≡ []) × (ys ≡ [])
two-empty [] ys is = (refl, is)
two-empty (x ∷ xs) ys is = absurd cc

no-line : (text : List ℕ) → line text ≢ []
no-line [] is = absurd cc
no-line (b ∷ text) is = absurd cc

none-unknown : (found : List FindingModel) → lookup_lines found ≡ [] → found ≡ []
none-unknown [] is = refl
none-unknown (f ∷ found) is =
    let first = (two-empty (line_about (codes "cannot look up source") f) (lookup_lines found) is).0 in
    absurd (no-line _ first)

module _ (known : DiscoveredGraph) (entries : List ReadStatement) (times : DeclaredTimes) (folder : List ℕ)
    (options : AuditModel) (old new : Sinks) where
  abbrev Nothing : Type 0
  Nothing = FindsNothing known entries times folder options old.output new.output

  nothing-listed : (output : List ℕ) → Takes old.output new.output output
      → (lists : ListsFindings known entries times folder options output) → lists.found ≡ [] → output ≡ []
      → WouldBeMissing known.graph lists.unknown [] → caveat_text known entries ≡ [] → Nothing
  nothing-listed output took lists none empty looked_up clear =
      record {
        lists = record {
          missing = lists.missing;
          unknown = lists.unknown;
          look_up = lists.look_up;
          serving = lists.serving;
          are_serving = lists.are_serving;
          undeclared = lists.undeclared;
          are_undeclared = lists.are_undeclared;
          found = lists.found;
          lines = sym empty ∙ lists.lines;
          lists = lists.lists;
        };
        none = none;
        looked_up = looked_up;
        clear = clear;
        took = subst (Takes old.output new.output) empty took;
      }

  answer-nothing : (output : List ℕ) (ending : Ending)
      → AnswersAudit known entries times folder options output ending
      → Takes old.output new.output output → Concludes ending old.error new.error Done → Nothing
  unfolding lists-findings
  answer-nothing output ending is took concludes =
      by (subst (λ e. Concludes e old.error new.error Done) is.ending_is concludes)
    where
      by : Concludes (answered (not (is_empty is.found))
          (lookup_lines is.lookups ++ caveat_text known entries))
          old.error new.error Done → Nothing
      by (inl told) =
          let said = nothing-said (not (is_empty is.found))
          (lookup_lines is.lookups ++ caveat_text known entries) told.1 in
          let none = none-found is.found said.0 in
          let texts = two-empty (lookup_lines is.lookups) (caveat_text known entries) said.1 in
          nothing-listed output took (lists-findings known entries times folder options output ending is) none
          (is.output_is ∙ ap (finding_lines options.json) none)
          (subst (WouldBeMissing known.graph is.unknown) (none-unknown is.lookups texts.0)
          is.would_be_missing)
          texts.1
      by (inr fails) = let is-failed = fails.1 in absurd cc

  done-nothing : (status : Status) → status ≡ Done
      → Ends (AnswersAudit known entries times folder options) old new status → Nothing
  done-nothing _ is (ended {output = output} {ending = ending} answers took concludes) =
      answer-nothing output ending answers took (subst (Concludes ending old.error new.error) is concludes)
  done-nothing _ is (output_fails answers fails same) = absurd cc
  done-nothing _ is (memory_fails front took told) = absurd cc

pub done : DoneFindsNothing
done known entries times folder options old new ends =
    done-nothing known entries times folder options old new Done refl ends
