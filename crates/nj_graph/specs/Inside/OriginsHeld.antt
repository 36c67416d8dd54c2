-- How the places of declarations and the openings of files are held: by the numbers of file names.
use Rattle.std.specs.Prelude.{ℕ, ◌<◌, Some, None, option_map, List, ◌∷◌, map, length, IfSome}
use Rattle.std.specs.List.{AllByRecursion}
use Rattle.nj_scope.specs.ReadingList.{ReadStatement}
use Rattle.nj_names.specs.NameTables.{name_at}
use Rattle.nj_faults.specs.declared.fault.Place.{Place}
use Rattle.nj_graph.specs.declared.origins.HeldPlace.{HeldPlace}
use Rattle.nj_graph.specs.declared.origins.HeldPool.{HeldPool}
use Rattle.nj_graph.specs.declared.origins.HeldOpening.{HeldOpening}
use Rattle.nj_graph.specs.Origins.{PoolDetail, OpeningModel, OriginsModel, rule_place_given, pool_detail_given, opening_given}
use Rattle.std.specs.List.{push}
use Rattle.std.specs.Option.{option_map_or}

-- by the given names of files

abbrev pub place_held : (names : List (List ℕ)) → HeldPlace → Place
place_held names p = record { file = name_at names p.file; spot = p.spot }

abbrev pub pool_held : (names : List (List ℕ)) → HeldPool → PoolDetail
pool_held names p = record { place = place_held names p.place; depth = p.depth }

abbrev pub opening_held : (names : List (List ℕ)) → HeldOpening → OpeningModel
opening_held names o = record { path = name_at names o.file; named_at = option_map (place_held names) o.named_at; scope = o.scope.0 }

abbrev pub origins_held : (names : List (List ℕ)) → List HeldPlace → List HeldPool → List HeldOpening → OriginsModel
origins_held names rules pools openings = record {
  rules = None ∷ map (λ p. Some (place_held names p)) rules;
  pools = map (pool_held names) pools;
  openings = map (opening_held names) openings;
}

abbrev pub IsNamed : (names : List (List ℕ)) → HeldPlace → Type 0
IsNamed names p = p.file < length names

-- all names exist
pub record AreNamed (names : List (List ℕ)) (rules : List HeldPlace) (pools : List HeldPool) (openings : List HeldOpening)
    : Type 0 where
  pub rules_named : AllByRecursion (IsNamed names) rules
  pub pools_named : AllByRecursion (λ (p : HeldPool). IsNamed names p.place) pools
  pub openings_named : AllByRecursion (λ (o : HeldOpening). (o.file < length names) × IfSome o.named_at (IsNamed names)) openings

-- the origins after one more statement
abbrev pub origins_with : ReadStatement → (before : List ReadStatement) → OriginsModel → OriginsModel
origins_with e before o = record {
  rules = option_map_or (push o.rules) (rule_place_given e before e.item) o.rules;
  pools = option_map_or (push o.pools) (pool_detail_given e before e.item) o.pools;
  openings = option_map_or (push o.openings) (opening_given e before e.item) o.openings;
}
