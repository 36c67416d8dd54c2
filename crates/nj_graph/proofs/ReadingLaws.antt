-- Laws of readings, by going along their statements.
use Rattle.std.proofs.Common.{◌≡◌, ℕ, zero, suc, ◌+◌, ◌≤◌, Bool, true, false, nat_lt, Option, Some, None}
use Rattle.std.proofs.Common.{List, [], ◌∷◌, refl, sym, ap, subst, ◌∙◌, arith}
use Rattle.nj_scope.proofs.Gathering.{opens_file, files-more}
use Rattle.nj_graph.proofs.Continuing.{unless_fault}
use Rattle.std.specs.Bool.{then_some}
use Rattle.std.specs.List.{AllByRecursion}
use Rattle.std.proofs.lemmas.Bool.{ltb-true}
use Rattle.nj_manifest.specs.Faults.{Fault}
use Rattle.nj_manifest.specs.Statements.{StatementModel, BindingModel, RuleModel, PoolModel, BuildModel}
use Rattle.nj_manifest.specs.Statements.{DefaultModel, IncludeModel, SubninjaModel, PlacedModel}
use Rattle.nj_scope.specs.Readings as table
use Rattle.nj_scope.specs.Readings.{reading_of}
use Rattle.nj_scope.specs.ReadingList.{ReadStatement, rules, is_declared, files_opened}
use Rattle.nj_scope.proofs.NewRules.{RuleIsNew, EachRuleIsNew}
use Rattle.nj_faults.specs.declared.fault.Place.{Place}
use Rattle.nj_faults.specs.declared.fault.GraphFault.{GraphFault}
use Rattle.nj_faults.specs.declared.fault.Cause.TheVariants.{DuplicateRule}
use Rattle.nj_faults.specs.Faults.{fault_at}
use Rattle.nj_graph.specs.Parsed.{parsed}
use Rattle.nj_faults.specs.Limits.{most_within, most_opened}
use Rattle.nj_graph.specs.Reading.{Site, entry_at, item_fault, own_fault, End, Whole, Refused, Lacking}
use Rattle.nj_graph.specs.Reading.{ReadingModel, continued, and_then, Opens, item_read, statement_read}
use Rattle.nj_graph.specs.Reading.{statements_read, text_read, outcome_read, opened_in, main_site, main_read}
use Rattle.nj_graph.specs.Inside.Outcomes.{found_read, if_capacity}
use Rattle.nj_graph.specs.Laws.{Faultless, ReadIsFaultless, OpenFilesAreBounded, OpeningsAreBounded}
use Rattle.nj_graph.specs.Laws.{MainRulesRise}
use Rattle.nj_graph.proofs.NameLemmas.{names_rise-read}

-- there is capacity for a file that the statement names
abbrev pub HasCapacity : StatementModel → (before : List ReadStatement) → Type 0
HasCapacity item before = opens_file item ≡ 1 → nat_lt (files_opened before) most_opened ≡ true

opens-none : ◌≡◌ {A = ℕ} 0 1 → ⊥
opens-none e = omega (arith, e)

-- A property that holds of no statement, and stays true with one more statement that is read, holds of all
-- that are read.
module _ (P : List ReadStatement → Type 0)
    (next : (e : ReadStatement) (before : List ReadStatement) → P before → own_fault e before ≡ None
    → HasCapacity e.item before → e.depth ≤ most_within → P (e ∷ before)) where
  -- it is true where a file is opened within which a given number of files may be open, if it is true with
  -- the
  -- statement that opens it wherever one more file may be opened
  abbrev OpensKeep : (left : ℕ) → Opens → Type 0
  OpensKeep left opens = (site : Site) (place : Place) (e : ReadStatement) (before : List ReadStatement)
      → site.depth + left ≡ suc most_within → P before
      → (nat_lt (files_opened before) most_opened ≡ true → P (e ∷ before))
      → P (opens site place e before).entries

  module _ (left : ℕ) (opens : Opens) (keeps : OpensKeep left opens) where
    statement-keeps : (e : ReadStatement) (before : List ReadStatement) → e.depth + left ≡ most_within
        → P before → P (statement_read opens e before).entries
    statement-keeps e before depth p = by (own_fault e before) refl
      where
        deeper : suc e.depth + left ≡ suc most_within
        deeper = omega (arith, depth)

        within : e.depth ≤ most_within
        within = omega (arith, depth)

        by_item : (item : StatementModel) → e.item ≡ item → own_fault e before ≡ None
            → P (item_read opens e before item).entries
        by_item (BindingModel name value) is none =
            next e before p none (λ one. absurd (opens-none (ap opens_file (sym is) ∙ one))) within
        by_item (RuleModel name lines) is none =
            next e before p none (λ one. absurd (opens-none (ap opens_file (sym is) ∙ one))) within
        by_item (PoolModel name lines) is none =
            next e before p none (λ one. absurd (opens-none (ap opens_file (sym is) ∙ one))) within
        by_item (BuildModel outputs rule inputs lines) is none =
            next e before p none (λ one. absurd (opens-none (ap opens_file (sym is) ∙ one))) within
        by_item (DefaultModel words) is none =
            next e before p none (λ one. absurd (opens-none (ap opens_file (sym is) ∙ one))) within
        by_item (IncludeModel word) is none =
            keeps _ _ e before deeper p (λ capacity. next e before p none (λ one. capacity) within)
        by_item (SubninjaModel word) is none =
            keeps _ _ e before deeper p (λ capacity. next e before p none (λ one. capacity) within)

        by : (f : Option GraphFault) → own_fault e before ≡ f
            → P (unless_fault f before (item_read opens e before e.item)).entries
        by (Some fault) is = p
        by None is = by_item e.item refl is

    statements-keep : (site : Site) (statements : List PlacedModel) (fault : Option Fault)
        (before : List ReadStatement) → site.depth + left ≡ most_within → P before
        → P (statements_read opens site statements fault before).entries
    unfolding statements_read
    statements-keep site [] fault before depth p = p
    statements-keep site (s ∷ others) fault before depth p =
        by (statement_read opens (entry_at site s) before) (statement-keeps (entry_at site s) before depth p)
        (λ entries q. statements-keep site others fault entries depth q)
      where
        by : (r : ReadingModel) → P r.entries
            → ((before : List ReadStatement) → P before
            → P (statements_read opens site others fault before).entries)
            → P (and_then r (λ entries. statements_read opens site others fault entries)).entries
        by r q rest = by_end r.end
          where
            by_end : (end : End) → P (continued end r.entries
                (λ entries. statements_read opens site others fault entries)).entries
            by_end Whole = rest r.entries q
            by_end (Refused f) = q
            by_end (Lacking path place) = q

    outcome-keeps : (site : Site) (place : Place) (entries before : List ReadStatement)
        (r : Option table.Reading) → site.depth + left ≡ most_within → P entries → P before
        → P (outcome_read site.file place before (λ t. text_read opens site t entries) r).entries
    outcome-keeps site place entries before None depth p q = q
    outcome-keeps site place entries before (Some r) depth p q = by r.bytes
      where
        by : (text : Option (List ℕ)) → P (found_read site.file place before
            (λ t. text_read opens site t entries) text).entries
        by None = q
        by (Some text) = statements-keep site (parsed text).items (parsed text).fault entries depth p

  opened-keeps : (files : List table.Reading) (left : ℕ) → OpensKeep left (opened_in files left)
  unfolding opened_in
  opened-keeps files zero = λ site place e before depth p q. p
  opened-keeps files (suc left) = λ site place e before depth p q. by site place e before
      (omega (arith, depth)) p (nat_lt (files_opened before) most_opened) q (opened-keeps files left)
    where
      by : (site : Site) (place : Place) (e : ReadStatement) (before : List ReadStatement)
          → site.depth + left ≡ most_within → P before → (capacity : Bool)
          → (capacity ≡ true → P (e ∷ before)) → OpensKeep left (opened_in files left)
          → P (if_capacity capacity (opened_in files left) files site place e before).entries
      by site place e before depth p false q keeps = p
      by site place e before depth p true q keeps =
          outcome-keeps left (opened_in files left) keeps site place (e ∷ before) before
          (reading_of files site.file) depth (q refl) p

  pub reading-keeps : P [] → (files : List table.Reading) (main : List ℕ) → P (main_read files main).entries
  unfolding main_read
  reading-keeps none files main = outcome-keeps most_within (opened_in files most_within)
      (opened-keeps files most_within) (main_site main) _ [] [] (reading_of files main) refl none none

pub read_is_faultless : ReadIsFaultless
read_is_faultless files main = reading-keeps Faultless (λ e before p none capacity depth. (none, p)) tt files
    main

pub open_files_are_bounded : OpenFilesAreBounded
open_files_are_bounded files main = reading-keeps
    (λ entries. AllByRecursion (λ e. e.depth ≤ most_within) entries)
    (λ e before p none capacity depth. (depth, p)) tt files main

pub openings_are_bounded : OpeningsAreBounded
openings_are_bounded files main = reading-keeps (λ entries. files_opened entries ≤ most_opened)
    (λ e before p none capacity depth. subst (λ n. n ≤ most_opened) (sym (files-more e before))
    (by before e.item p capacity (opens_file e.item) refl (opens_one e.item))) (omega arith) files main
  where
    opens_one : (item : StatementModel) → opens_file item ≤ 1
    opens_one (BindingModel name value) = omega arith
    opens_one (RuleModel name lines) = omega arith
    opens_one (PoolModel name lines) = omega arith
    opens_one (BuildModel outputs rule inputs lines) = omega arith
    opens_one (DefaultModel words) = omega arith
    opens_one (IncludeModel word) = omega arith
    opens_one (SubninjaModel word) = omega arith

    by : (before : List ReadStatement) (item : StatementModel) → files_opened before ≤ most_opened
        → HasCapacity item before → (n : ℕ) → opens_file item ≡ n → n ≤ 1
        → files_opened before + n ≤ most_opened
    by before item p capacity zero e less = omega (arith, p)
    by before item p capacity (suc zero) e less =
        omega (arith, ltb-true (files_opened before) most_opened (capacity e))
    by before item p capacity (suc (suc n)) e less = absurd (omega (arith, less))

-- ---- rules

-- a rule that has no fault is new
rule-is-new : (e : ReadStatement) (before : List ReadStatement) (item : StatementModel)
    → item_fault e before item ≡ None → RuleIsNew before e.scope item
rule-is-new e before (RuleModel name lines) none =
    by (is_declared (rules before e.scope name.name) name.name) refl none
  where
    by : (b : Bool) → is_declared (rules before e.scope name.name) name.name ≡ b
        → then_some b (fault_at e.file name.spot (DuplicateRule name.name)) ≡ None
        → is_declared (rules before e.scope name.name) name.name ≡ false
    by true e h = absurd cc
    by false e h = e
rule-is-new e before (BindingModel name value) none = tt
rule-is-new e before (PoolModel name lines) none = tt
rule-is-new e before (BuildModel outputs rule inputs lines) none = tt
rule-is-new e before (DefaultModel words) none = tt
rule-is-new e before (IncludeModel word) none = tt
rule-is-new e before (SubninjaModel word) none = tt

pub main_rules_rise : MainRulesRise
main_rules_rise files main =
    names_rise-read (main_read files main).entries
    (reading-keeps EachRuleIsNew (λ e before p none capacity depth. (rule-is-new e before e.item none, p))
    tt files main)
