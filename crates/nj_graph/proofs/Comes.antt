-- A reading comes to all paths to which the statements before it come, in their order.
use Rattle.std.proofs.Common.{arith}
use Rattle.std.proofs.lemmas.Grind.{common_steps}
use Rattle.std.proofs.Common.{◌≡◌, ℕ, zero, suc, Bool, true, false, cond, Option, option_map, Some, None}
use Rattle.std.proofs.Common.{List, [], ◌∷◌, ◌++◌, nat_lt, bytes_eq, refl, sym, ap, subst}
use Rattle.nj_graph.specs.Inside.PathsReached.{with_news, with_new, paths_read, come_to}
use Rattle.std.specs.Option.{option_to_list}
use Rattle.nj_graph.proofs.Continuing.{unless_fault}
use Rattle.std.specs.List.{list_any}
use Rattle.std.proofs.lemmas.List.{append-nil}
use Rattle.nj_manifest.specs.Faults.{Fault}
use Rattle.nj_manifest.specs.Statements.{StatementModel, BindingModel, RuleModel, PoolModel, BuildModel}
use Rattle.nj_manifest.specs.Statements.{DefaultModel, IncludeModel, SubninjaModel, PlacedModel}
use Rattle.nj_scope.specs.Readings as table
use Rattle.nj_scope.specs.Readings.{reading_of, IsPrefix}
use Rattle.nj_scope.specs.ReadingList.{ReadStatement, files_opened, path_named}
use Rattle.nj_faults.specs.declared.fault.Place.{Place}
use Rattle.nj_faults.specs.declared.fault.GraphFault.{GraphFault}
use Rattle.nj_faults.specs.Faults.{fault_in}
use Rattle.nj_graph.specs.Parsed.{parsed}
use Rattle.nj_faults.specs.Limits.{most_within, most_opened}
use Rattle.nj_graph.specs.Reading.{Site, entry_at, own_fault, End, Whole, Refused, Lacking, ReadingModel}
use Rattle.nj_graph.specs.Reading.{continued, and_then, Opens, item_read, statement_read, end_by}
use Rattle.nj_graph.specs.Reading.{statements_read, text_read, outcome_read, opened_in, main_site, main_read}
use Rattle.nj_graph.specs.Reading.{path_at_end}
use Rattle.nj_graph.specs.Inside.Outcomes.{found_read, if_capacity}

-- ---- paths before others

pub prefix-self : (front : List (List ℕ)) → IsPrefix front front
prefix-self front = ([], sym (append-nil front))

pub prefix-then : (front middle whole : List (List ℕ)) → IsPrefix front middle → IsPrefix middle whole
    → IsPrefix front whole
prefix-then front middle whole p q = grind (arith, common_steps)

pub prefix-new : (before : List (List ℕ)) (path : List ℕ) → IsPrefix before (with_new before path)
prefix-new before path = by_there (list_any (bytes_eq path) before)
  where
    by_there : (t : Bool) → IsPrefix before (cond t before (before ++ path ∷ []))
    by_there true = prefix-self before
    by_there false = (path ∷ [], refl)

pub prefix-named : (before paths : List (List ℕ)) → IsPrefix before (with_news before paths)
prefix-named before [] = prefix-self before
prefix-named before (path ∷ paths) =
    prefix-then before (with_new before path) (with_news (with_new before path) paths)
    (prefix-new before path) (prefix-named (with_new before path) paths)

-- ---- one reading after the other

pub and_then-comes : (main : List ℕ) (front : List (List ℕ)) (r : ReadingModel)
    (k : List ReadStatement → ReadingModel)
    → IsPrefix front (come_to main r)
    → ((entries : List ReadStatement) → IsPrefix (paths_read main entries) (come_to main (k entries)))
    → IsPrefix front (come_to main (and_then r k))
and_then-comes main front r k comes others = by_end r.end comes
  where
    by_end : (end : End) → IsPrefix front (with_news (paths_read main r.entries) (path_at_end end))
        → IsPrefix front (come_to main (continued end r.entries k))
    by_end Whole p = prefix-then front (paths_read main r.entries) (come_to main (k r.entries)) p
        (others r.entries)
    by_end (Refused fault) p = p
    by_end (Lacking path place) p = p

-- a reading, by the statements before it
abbrev pub ComesTo : (main : List ℕ) → List ReadStatement → ReadingModel → Type 0
ComesTo main before r = IsPrefix (paths_read main before) (come_to main r)

abbrev pub OpensCome : (main : List ℕ) → Opens → Type 0
OpensCome main opens = (site : Site) (place : Place) (e : ReadStatement) (before : List ReadStatement)
    → ComesTo main before (opens site place e before)

-- a reading that ends before the next statement
ends-there : (main : List ℕ) (before : List ReadStatement) (end : End)
    → ComesTo main before (record { entries = before; end = end })
ends-there main before end = prefix-named (paths_read main before) (path_at_end end)

item_read-comes : (main : List ℕ) (opens : Opens) → OpensCome main opens
    → (e : ReadStatement) (before : List ReadStatement) (item : StatementModel)
    → ComesTo main before (item_read opens e before item)
item_read-comes main opens comes e before (BindingModel name value) =
    prefix-named (paths_read main before) (option_to_list (path_named e before e.item))
item_read-comes main opens comes e before (RuleModel name lines) =
    prefix-named (paths_read main before) (option_to_list (path_named e before e.item))
item_read-comes main opens comes e before (PoolModel name lines) =
    prefix-named (paths_read main before) (option_to_list (path_named e before e.item))
item_read-comes main opens comes e before (BuildModel outputs rule inputs lines) =
    prefix-named (paths_read main before) (option_to_list (path_named e before e.item))
item_read-comes main opens comes e before (DefaultModel words) =
    prefix-named (paths_read main before) (option_to_list (path_named e before e.item))
item_read-comes main opens comes e before (IncludeModel word) = comes _ _ _ before
item_read-comes main opens comes e before (SubninjaModel word) = comes _ _ _ before

statement_read-comes : (main : List ℕ) (opens : Opens) → OpensCome main opens
    → (e : ReadStatement) (before : List ReadStatement) → ComesTo main before (statement_read opens e before)
statement_read-comes main opens comes e before = by_fault (own_fault e before)
  where
    by_fault : (f : Option GraphFault) → ComesTo main before
        (unless_fault f before (item_read opens e before e.item))
    by_fault (Some fault) = ends-there main before (Refused fault)
    by_fault None = item_read-comes main opens comes e before e.item

statements_read-come : (main : List ℕ) (opens : Opens) → OpensCome main opens
    → (site : Site) (statements : List PlacedModel) (fault : Option Fault) (before : List ReadStatement)
    → ComesTo main before (statements_read opens site statements fault before)
unfolding statements_read
statements_read-come main opens comes site [] fault before =
    ends-there main before (end_by (option_map (fault_in site.file) fault))
statements_read-come main opens comes site (s ∷ others) fault before =
    and_then-comes main (paths_read main before) (statement_read opens (entry_at site s) before)
    (λ entries. statements_read opens site others fault entries)
    (statement_read-comes main opens comes (entry_at site s) before)
    (statements_read-come main opens comes site others fault)

-- ---- a file

found_read-comes : (main : List ℕ) (within : Opens) → OpensCome main within
    → (site : Site) (place : Place) (entries before : List ReadStatement)
    → IsPrefix (paths_read main before) (paths_read main entries) → (text : Option (List ℕ))
    → ComesTo main before (found_read site.file place before (λ t. text_read within site t entries) text)
found_read-comes main within comes site place entries before more None =
    prefix-new (paths_read main before) site.file
found_read-comes main within comes site place entries before more (Some text) =
    prefix-then (paths_read main before) (paths_read main entries) _ more
    (statements_read-come main within comes site (parsed text).items (parsed text).fault entries)

outcome_read-comes : (main : List ℕ) (within : Opens) → OpensCome main within
    → (site : Site) (place : Place) (entries before : List ReadStatement)
    → IsPrefix (paths_read main before) (paths_read main entries) → (r : Option table.Reading)
    → ComesTo main before (outcome_read site.file place before (λ t. text_read within site t entries) r)
outcome_read-comes main within comes site place entries before more None =
    prefix-new (paths_read main before) site.file
outcome_read-comes main within comes site place entries before more (Some r) =
    found_read-comes main within comes site place entries before more r.bytes

pub opened-comes : (main : List ℕ) (files : List table.Reading) (left : ℕ) (site : Site) (place : Place)
    (e : ReadStatement) (before : List ReadStatement)
    → IsPrefix (paths_read main before) (come_to main (opened_in files left site place e before))
unfolding opened_in
opened-comes main files zero site place e before = prefix-self (paths_read main before)
opened-comes main files (suc left) site place e before =
    by_capacity (nat_lt (files_opened before) most_opened) (opened-comes main files left)
  where
    by_capacity : (capacity : Bool) → OpensCome main (opened_in files left)
        → ComesTo main before (if_capacity capacity (opened_in files left) files site place e before)
    by_capacity false comes = prefix-self (paths_read main before)
    by_capacity true comes = outcome_read-comes main (opened_in files left) comes site place (e ∷ before)
        before (prefix-named (paths_read main before) (option_to_list (path_named e before e.item)))
        (reading_of files site.file)

pub item-comes : (main : List ℕ) (files : List table.Reading) (left : ℕ) (e : ReadStatement)
    (before : List ReadStatement) → IsPrefix (paths_read main before)
    (come_to main (statement_read (opened_in files left) e before))
item-comes main files left = statement_read-comes main (opened_in files left) (opened-comes main files left)

pub statements-come : (main : List ℕ) (files : List table.Reading) (left : ℕ) (site : Site)
    (statements : List PlacedModel) (fault : Option Fault) (before : List ReadStatement)
    → IsPrefix (paths_read main before) (come_to main
    (statements_read (opened_in files left) site statements fault before))
statements-come main files left = statements_read-come main (opened_in files left)
    (opened-comes main files left)

-- ---- the path of a file

-- The path that a statement names comes next, whatever is found there.
pub opened-names : (main : List ℕ) (files : List table.Reading) (left : ℕ) (site : Site) (place : Place)
    (e : ReadStatement) (before : List ReadStatement)
    → path_named e before e.item ≡ Some site.file
    → nat_lt (files_opened before) most_opened ≡ true
    → IsPrefix (with_new (paths_read main before) site.file)
    (come_to main (opened_in files (suc left) site place e before))
unfolding opened_in
opened-names main files left site place e before names capacity =
    subst (λ t. Front (if_capacity t (opened_in files left) files site place e before)) (sym capacity)
    (by_outcome (reading_of files site.file))
  where
    front : List (List ℕ)
    front = with_new (paths_read main before) site.file

    Front : ReadingModel → Type 0
    Front r = IsPrefix front (come_to main r)

    named : paths_read main (e ∷ before) ≡ front
    named = ap (λ o. with_news (paths_read main before) (option_to_list o)) names

    reads : List ℕ → ReadingModel
    reads t = text_read (opened_in files left) site t (e ∷ before)

    by_text : (text : Option (List ℕ)) → Front (found_read site.file place before reads text)
    by_text None = prefix-self front
    by_text (Some text) = subst (λ paths. IsPrefix paths
        (come_to main (found_read site.file place before reads (Some text)))) named
        (statements-come main files left site (parsed text).items (parsed text).fault (e ∷ before))

    by_outcome : (r : Option table.Reading) → Front (outcome_read site.file place before reads r)
    by_outcome None = prefix-self front
    by_outcome (Some r) = by_text r.bytes

-- The main file comes first.
pub main-comes : (main : List ℕ) (files : List table.Reading)
    → IsPrefix (main ∷ []) (come_to main (main_read files main))
unfolding main_read
main-comes main files = outcome_read-comes main (opened_in files most_within)
    (opened-comes main files most_within) (main_site main) _ [] [] (prefix-self (main ∷ []))
    (reading_of files main)
