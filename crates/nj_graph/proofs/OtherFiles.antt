-- Files to which a reading does not come count for nothing.
use Rattle.std.proofs.Common.{◌≡◌, ℕ, zero, suc, Bool, true, false, nat_lt, Option, Some, None, is_some, List}
use Rattle.std.proofs.Common.{[], ◌∷◌, refl, sym, ap, subst, ◌∙◌, true≢false}
use Rattle.nj_graph.proofs.Continuing.{unless_fault}
use Rattle.nj_manifest.specs.Faults.{Fault}
use Rattle.nj_manifest.specs.Statements.{StatementModel, BindingModel, RuleModel, PoolModel, BuildModel}
use Rattle.nj_manifest.specs.Statements.{DefaultModel, IncludeModel, SubninjaModel, PlacedModel}
use Rattle.nj_scope.specs.Readings as table
use Rattle.nj_scope.specs.Readings.{reading_of, IsPrefix}
use Rattle.nj_scope.specs.ReadingList.{ReadStatement, files_opened}
use Rattle.nj_faults.specs.declared.fault.Place.{Place}
use Rattle.nj_faults.specs.declared.fault.GraphFault.{GraphFault}
use Rattle.nj_graph.specs.Parsed.{parsed}
use Rattle.nj_faults.specs.Limits.{most_within, most_opened}
use Rattle.nj_graph.specs.Reading.{Site, entry_at, own_fault, End, Whole, Refused, Lacking, ReadingModel}
use Rattle.nj_graph.specs.Reading.{and_then, Opens, item_read, statement_read, statements_read, text_read}
use Rattle.nj_graph.specs.Reading.{outcome_read, opened_in, main_site, main_read}
use Rattle.nj_graph.specs.Inside.Outcomes.{found_read, if_capacity}
use Rattle.nj_graph.specs.Runs.{IsLacking}
use Rattle.nj_graph.specs.Laws.{OthersAreNotRead}
use Rattle.nj_graph.proofs.Tables.{reading-kept}

-- both readings are the same, where that by fewer files lacks nothing that the others have
abbrev SameReading : (all : List table.Reading) → ReadingModel → ReadingModel → Type 0
SameReading all few more = IsLacking few.end all → more ≡ few

abbrev SameOpens : (all : List table.Reading) → Opens → Opens → Type 0
SameOpens all few more = (site : Site) (place : Place) (e : ReadStatement) (before : List ReadStatement)
    → SameReading all (few site place e before) (more site place e before)

and_then-same : (all : List table.Reading) (few more : ReadingModel) (k l : List ReadStatement → ReadingModel)
    → SameReading all few more → ((entries : List ReadStatement) → SameReading all (k entries) (l entries))
    → SameReading all (and_then few k) (and_then more l)
and_then-same all few more k l first others lacks = by few.end refl
  where
    by : (end : End) → few.end ≡ end → and_then more l ≡ and_then few k
    by Whole is =
        let whole : few ≡ record { entries = few.entries; end = Whole } =
        ap (λ e. record { entries = few.entries; end = e }) is in
        let same = first (subst (λ e. IsLacking e all) (sym is) tt) in
        ap (λ r. and_then r l) (same ∙ whole)
        ∙ others few.entries (subst (λ r. IsLacking (and_then r k).end all) whole lacks)
        ∙ ap (λ r. and_then r k) (sym whole)
    by (Refused fault) is =
        let refused : few ≡ record { entries = few.entries; end = Refused fault } =
        ap (λ e. record { entries = few.entries; end = e }) is in
        ap (λ r. and_then r l) (first (subst (λ e. IsLacking e all) (sym is) tt) ∙ refused)
        ∙ ap (λ r. and_then r k) (sym refused)
    by (Lacking path place) is =
        let lacking : few ≡ record { entries = few.entries; end = Lacking path place } =
        ap (λ e. record { entries = few.entries; end = e }) is in
        ap (λ r. and_then r l) (first (subst (λ e. IsLacking e all) (sym is)
        (subst (λ r. IsLacking (and_then r k).end all) lacking lacks)) ∙ lacking)
        ∙ ap (λ r. and_then r k) (sym lacking)

item-same : (all : List table.Reading) (few more : Opens) → SameOpens all few more
    → (e : ReadStatement) (before : List ReadStatement) (item : StatementModel)
    → SameReading all (item_read few e before item) (item_read more e before item)
item-same all few more same e before (BindingModel name value) = λ lacks. refl
item-same all few more same e before (RuleModel name lines) = λ lacks. refl
item-same all few more same e before (PoolModel name lines) = λ lacks. refl
item-same all few more same e before (BuildModel outputs rule inputs lines) = λ lacks. refl
item-same all few more same e before (DefaultModel words) = λ lacks. refl
item-same all few more same e before (IncludeModel word) = same _ _ _ before
item-same all few more same e before (SubninjaModel word) = same _ _ _ before

statement-same : (all : List table.Reading) (few more : Opens) → SameOpens all few more
    → (e : ReadStatement) (before : List ReadStatement)
    → SameReading all (statement_read few e before) (statement_read more e before)
statement-same all few more same e before = by (own_fault e before)
  where
    by : (f : Option GraphFault) → SameReading all (unless_fault f before (item_read few e before e.item))
        (unless_fault f before (item_read more e before e.item))
    by (Some fault) = λ lacks. refl
    by None = item-same all few more same e before e.item

statements-same : (all : List table.Reading) (few more : Opens) → SameOpens all few more
    → (site : Site) (statements : List PlacedModel) (fault : Option Fault) (before : List ReadStatement)
    → SameReading all (statements_read few site statements fault before)
    (statements_read more site statements fault before)
unfolding statements_read
statements-same all few more same site [] fault before = λ lacks. refl
statements-same all few more same site (s ∷ others) fault before =
    and_then-same all (statement_read few (entry_at site s) before)
    (statement_read more (entry_at site s) before)
    (λ entries. statements_read few site others fault entries)
    (λ entries. statements_read more site others fault entries)
    (statement-same all few more same (entry_at site s) before)
    (statements-same all few more same site others fault)

outcome-same : (files all : List table.Reading) (few more : Opens) → IsPrefix files all
    → SameOpens all few more → (site : Site) (place : Place) (entries before : List ReadStatement)
    → SameReading all (outcome_read site.file place before (λ t. text_read few site t entries)
    (reading_of files site.file)) (outcome_read site.file place before (λ t. text_read more site t entries)
    (reading_of all site.file))
outcome-same files all few more extends same site place entries before = by (reading_of files site.file) refl
  where
    none : (r : Option table.Reading) → is_some r ≡ false → r ≡ None
    none None e = refl
    none (Some r) e = absurd (true≢false e)

    found : (text : Option (List ℕ)) → SameReading all
        (found_read site.file place before (λ t. text_read few site t entries) text)
        (found_read site.file place before (λ t. text_read more site t entries) text)
    found None = λ lacks. refl
    found (Some text) = statements-same all few more same site (parsed text).items (parsed text).fault entries

    by : (r : Option table.Reading) → reading_of files site.file ≡ r
        → SameReading all (outcome_read site.file place before (λ t. text_read few site t entries) r)
        (outcome_read site.file place before (λ t. text_read more site t entries) (reading_of all site.file))
    by None is = λ lacks. ap (λ r. outcome_read site.file place before (λ t. text_read more site t entries) r)
        (none (reading_of all site.file) lacks)
    by (Some r) is = λ lacks. ap (λ r. outcome_read site.file place before
        (λ t. text_read more site t entries) r) (reading-kept site.file r all files extends is)
        ∙ found r.bytes lacks

opened-same : (files all : List table.Reading) → IsPrefix files all → (left : ℕ)
    → SameOpens all (opened_in files left) (opened_in all left)
unfolding opened_in
opened-same files all extends zero = λ site place e before lacks. refl
opened-same files all extends (suc left) =
    λ site place e before. by site place e before (nat_lt (files_opened before) most_opened)
    (opened-same files all extends left)
  where
    by : (site : Site) (place : Place) (e : ReadStatement) (before : List ReadStatement) (capacity : Bool)
        → SameOpens all (opened_in files left) (opened_in all left)
        → SameReading all (if_capacity capacity (opened_in files left) files site place e before)
        (if_capacity capacity (opened_in all left) all site place e before)
    by site place e before false same = λ lacks. refl
    by site place e before true same = outcome-same files all (opened_in files left) (opened_in all left)
        extends same site place (e ∷ before) before

pub others_are_not_read : OthersAreNotRead
unfolding main_read
others_are_not_read files all main extends =
    outcome-same files all (opened_in files most_within) (opened_in all most_within) extends
    (opened-same files all extends most_within) (main_site main) _ [] []
