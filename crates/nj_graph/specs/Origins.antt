-- Where rules and pools are declared, and which statements open which files.
use Rattle.std.specs.Prelude.{ℕ, ◌-◌, Option, Some, None, option_map, option_and_then, unwrap_or, List, [], ◌∷◌, length, slice_get, slice_index_or}
use Rattle.nj_text.specs.Numbers.{leading_number_of}
use Rattle.nj_text.specs.Words.{WordModel}
use Rattle.nj_manifest.specs.Statements.{LineModel, StatementModel, RuleModel, PoolModel, IncludeModel, SubninjaModel}
use Rattle.nj_scope.specs.ReadingList.{ReadStatement, scope_of, expanded_in, gathered, scopes_opened}
use Rattle.nj_faults.specs.declared.fault.Place.{Place}
use Rattle.nj_faults.specs.declared.fault.PlaceRef.{PlaceRef}
use Rattle.nj_graph.specs.declared.origins.Opening.{Opening}
use Rattle.nj_graph.specs.Reading.{place_at}

-- the place of a statement: the place of its first byte
abbrev pub place_of : ReadStatement → Place
place_of e = place_at e e.spot

-- a place whose file name is borrowed
abbrev pub place_text : PlaceRef → Place
place_text p = record { file = p.file.now; spot = p.spot }

-- ---- rules

-- the place of the rule that a statement declares, if any
abbrev pub rule_place_given : ReadStatement → (before : List ReadStatement) → StatementModel → Option (Option Place)
rule_place_given e before (RuleModel name lines) = Some (Some (place_of e))
rule_place_given e before item = None

-- the place of the statement that declares each rule, by number; no statement declares `phony`
abbrev pub rule_places : List ReadStatement → List (Option Place)
rule_places entries = None ∷ gathered rule_place_given entries

-- the place of the rule with the given number; none past the last rule
abbrev pub rule_place_at : (places : List (Option Place)) → (number : ℕ) → Option Place
rule_place_at places number = slice_index_or places number None

-- ---- pools

-- the place of its statement, and its depth
pub record PoolDetail : Type 0 where
  pub place : Place
  pub depth : ℕ

-- The depth of a pool: the number at the front of the last value in its block. Each line there is a `depth` line, and a
-- pool has at least one.
abbrev pub depth_of : (scope : List ℕ) → (before : List ReadStatement) → List LineModel → ℕ
depth_of scope before lines =
    unwrap_or (option_and_then (λ l. leading_number_of (expanded_in scope before l.value)) (slice_get lines (length lines - 1))) 0

-- the place and the depth of the pool that a statement declares, if any
abbrev pub pool_detail_given : ReadStatement → (before : List ReadStatement) → StatementModel → Option PoolDetail
pool_detail_given e before (PoolModel name lines) = Some (record { place = place_of e; depth = depth_of (scope_of e) before lines })
pool_detail_given e before item = None

-- the details of the pools in the order in which they were declared
abbrev pub pool_details : List ReadStatement → List PoolDetail
pool_details entries = gathered pool_detail_given entries

-- ---- openings

-- A file that was opened.
pub record OpeningModel : Type 0 where
  -- the path as it was opened
  pub path : List ℕ
  -- the place of the statement that names it; no statement names the main file
  pub named_at : Option Place
  -- the number of the scope of its statements
  pub scope : ℕ

-- an opening whose strings are borrowed
abbrev pub opening_model : Opening → OpeningModel
opening_model o = record { path = o.path.now; named_at = option_map place_text o.named_at; scope = o.scope.0 }

-- the opening of a file by a statement
abbrev pub opening_by : ReadStatement → (before : List ReadStatement) → WordModel → (scope : ℕ) → OpeningModel
opening_by e before word scope = record { path = expanded_in (scope_of e) before word; named_at = Some (place_of e); scope = scope }

-- the opening that a statement causes, if any
abbrev pub opening_given : ReadStatement → (before : List ReadStatement) → StatementModel → Option OpeningModel
opening_given e before (IncludeModel word) = Some (opening_by e before word e.scope)
opening_given e before (SubninjaModel word) = Some (opening_by e before word (scopes_opened before))
opening_given e before item = None

-- the opening of the main file
abbrev pub main_opening : (main : List ℕ) → OpeningModel
main_opening main = record { path = main; named_at = None; scope = 0 }

-- the main file, and each file that a statement opens, in reading order; a file that is opened again is listed again
abbrev pub openings_read : (main : List ℕ) → List ReadStatement → List OpeningModel
openings_read main entries = main_opening main ∷ gathered opening_given entries

-- ---- all origins

-- where rules and pools were declared, and how files were opened
pub record OriginsModel : Type 0 where
  pub rules : List (Option Place)
  pub pools : List PoolDetail
  pub openings : List OpeningModel

-- what the given statements declared and opened, and where
abbrev pub origins_read : (main : List ℕ) → List ReadStatement → OriginsModel
origins_read main entries =
    record { rules = rule_places entries; pools = pool_details entries; openings = openings_read main entries }

-- the path of an opening, if any
abbrev pub path_opened : Option OpeningModel → List ℕ
path_opened (Some opening) = opening.path
path_opened None = []

-- the main file: the file that is opened first
abbrev pub main_of : OriginsModel → List ℕ
main_of origins = path_opened (slice_get origins.openings 0)
