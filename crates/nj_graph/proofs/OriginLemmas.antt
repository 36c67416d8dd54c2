-- Where rules, pools and files come from: how that is represented, and which part comes from the statements.
use Rattle.std.proofs.lemmas.Grind.{common_steps}
use Rattle.std.proofs.Common.{◌≡◌, ℕ, suc, ◌+◌, ◌-◌, ◌<◌, ◌&&◌, ◌==◌, Bool, true, false, if◌then◌else◌}
use Rattle.std.proofs.Common.{Option, Some, None, option_map, option_and_then, unwrap_or, IfSome, List, []}
use Rattle.std.proofs.Common.{◌∷◌, ◌++◌, length, map, slice_get, refl, sym, ap, ◌∙◌, arith, add-zero}
use Rattle.std.proofs.Common.{length-append}
use Rattle.nj_scope.proofs.Gathering.{with_given, opens_file, files-more}
use Rattle.std.specs.Prelude.{is_some}
use Rattle.std.specs.List.{AllByRecursion}
use Rattle.std.proofs.lemmas.List.{map-append}
use Rattle.std.proofs.lemmas.Option.{slice_get-get_or}
use Rattle.nj_text.specs.Numbers.{leading_number_of}
use Rattle.nj_manifest.specs.Statements.{LineModel, StatementModel, BindingModel, RuleModel, PoolModel}
use Rattle.nj_manifest.specs.Statements.{BuildModel, DefaultModel, IncludeModel, SubninjaModel}
use Rattle.nj_scope.specs.Readings.{IsPrefix}
use Rattle.nj_scope.specs.Scopes.{expanded, value_in}
use Rattle.nj_scope.specs.ReadingList.{Discovered, ReadStatement, scope_of, value_after, scopes_opened}
use Rattle.nj_scope.specs.ReadingList.{files_opened, gathered}
use Rattle.nj_names.specs.NameTables.{name_at}
use Rattle.nj_faults.specs.declared.fault.Place.{Place}
use Rattle.nj_statements.specs.EdgeList.{edges_read, edge_given}
use Rattle.nj_statements.specs.Joining.{also_discovered, discover}
use Rattle.nj_statements.specs.Logged.{with_inputs_named}
use Rattle.nj_statements.proofs.DiscoverLemmas.{bounds-same, value_after-discover, scopes_opened-discover}
use Rattle.nj_statements.proofs.DiscoverLemmas.{scopes_opened-same}
use Rattle.nj_statements.proofs.LoggedLemmas.{as_read-named}
use Rattle.nj_graph.specs.declared.origins.HeldPlace.{HeldPlace}
use Rattle.nj_graph.specs.declared.origins.HeldPool.{HeldPool}
use Rattle.nj_scope.specs.declared.scopes.ScopeNo.{ScopeNo}
use Rattle.nj_graph.specs.declared.origins.HeldOpening.{HeldOpening}
use Rattle.nj_graph.specs.Origins.{place_of, PoolDetail, OpeningModel, OriginsModel, rule_place_given}
use Rattle.nj_graph.specs.Origins.{rule_places, pool_detail_given, pool_details, opening_given}
use Rattle.nj_graph.specs.Origins.{openings_read, origins_read, main_of}
use Rattle.nj_graph.specs.Inside.OriginsHeld.{place_held, pool_held, opening_held, origins_held, AreNamed}
use Rattle.nj_graph.specs.Inside.OriginsHeld.{origins_with}
use Rattle.nj_graph.proofs.JoiningTables.{get-prefix}

-- ---- names of files are added

pub name-is : (names : List (List ℕ)) (number : ℕ) (name : List ℕ) → slice_get names number ≡ Some name
    → name_at names number ≡ name
name-is names number name h = ap (λ o. unwrap_or o []) h

module _ (names later : List (List ℕ)) (grows : IsPrefix names later) where
  name-grown : (number : ℕ) → number < length names → name_at later number ≡ name_at names number
  name-grown number below =
      let at = slice_get-get_or names number [] below in
      name-is later number _ (get-prefix names later number _ grows at) ∙ sym (name-is names number _ at)

  pub place-grown : (p : HeldPlace) → p.file < length names → place_held later p ≡ place_held names p
  place-grown p below = ap (λ (f : List ℕ). record { file = f; spot = p.spot }) (name-grown p.file below)

  pub below-grown : (n : ℕ) → n < length names → n < length later
  below-grown n below = grind (arith, common_steps)

map-same : {A B : Type 0} (f g : A → B) (P : A → Type 0) → ((x : A) → P x → f x ≡ g x) → (xs : List A)
    → AllByRecursion P xs → map f xs ≡ map g xs
map-same f g P same [] all = refl
map-same f g P same (x ∷ xs) all = ap (λ y. y ∷ map f xs) (same x all.0)
    ∙ ap (λ ys. g x ∷ ys) (map-same f g P same xs all.1)

all-then : {A : Type 0} (P Q : A → Type 0) → ((x : A) → P x → Q x) → (xs : List A) → AllByRecursion P xs
    → AllByRecursion Q xs
all-then P Q so [] all = tt
all-then P Q so (x ∷ xs) all = (so x all.0, all-then P Q so xs all.1)

all-more : {A : Type 0} (P : A → Type 0) (xs : List A) (y : A) → AllByRecursion P xs → P y
    → AllByRecursion P (xs ++ y ∷ [])
all-more P [] y all last = (last, tt)
all-more P (x ∷ xs) y all last = (all.0, all-more P xs y all.1 last)

abbrev Below : (count : ℕ) → HeldPlace → Type 0
Below count p = p.file < count

abbrev PoolBelow : (count : ℕ) → HeldPool → Type 0
PoolBelow count p = p.place.file < count

abbrev OpeningBelow : (count : ℕ) → HeldOpening → Type 0
OpeningBelow count o = (o.file < count) × IfSome o.named_at (λ (p : HeldPlace). p.file < count)

module _ (names later : List (List ℕ)) (grows : IsPrefix names later) (rules : List HeldPlace)
    (pools : List HeldPool) (openings : List HeldOpening) (named : AreNamed names rules pools openings) where
  some-named : (o : Option HeldPlace) → IfSome o (λ (p : HeldPlace). p.file < length names)
      → IfSome o (λ (p : HeldPlace). p.file < length later)
  some-named None is = tt
  some-named (Some p) is = below-grown names later grows p.file is

  some-same : (o : Option HeldPlace) → IfSome o (λ (p : HeldPlace). p.file < length names)
      → option_map (place_held later) o ≡ option_map (place_held names) o
  some-same None is = refl
  some-same (Some p) is = ap Some (place-grown names later grows p is)

  pub named-grown : AreNamed later rules pools openings
  named-grown = record {
    rules_named = all-then (Below (length names)) (Below (length later))
        (λ p is. below-grown names later grows p.file is) rules named.rules_named;
    pools_named = all-then (PoolBelow (length names)) (PoolBelow (length later))
        (λ p is. below-grown names later grows p.place.file is) pools named.pools_named;
    openings_named = all-then (OpeningBelow (length names)) (OpeningBelow (length later))
        (λ o is. (below-grown names later grows o.file is.0, some-named o.named_at is.1)) openings
        named.openings_named;
  }

  opening-same : (o : HeldOpening) → OpeningBelow (length names) o
      → opening_held later o ≡ opening_held names o
  opening-same o is =
      ap (λ (path : List ℕ). record {
        path = path;
        named_at = option_map (place_held later) o.named_at;
        scope = o.scope.0;
      }) (name-grown names later grows o.file is.0)
      ∙ ap (λ (at : Option Place). record { path = name_at names o.file; named_at = at; scope = o.scope.0 })
      (some-same o.named_at is.1)

  pub origins-grown : origins_held later rules pools openings ≡ origins_held names rules pools openings
  origins-grown =
      ap (λ (rs : List (Option Place)). record {
        rules = None ∷ rs;
        pools = map (pool_held later) pools;
        openings =
            map (opening_held later) openings;
      })
      (map-same (λ p. Some (place_held later p)) (λ p. Some (place_held names p)) (Below (length names))
      (λ p is. ap Some (place-grown names later grows p is)) rules named.rules_named)
      ∙ ap (λ (ps : List PoolDetail). record {
        rules = None ∷ map (λ p. Some (place_held names p)) rules;
        pools = ps;
        openings =
            map (opening_held later) openings;
      })
      (map-same (pool_held later) (pool_held names) (PoolBelow (length names))
      (λ p is. ap (λ (at : Place). record { place = at; depth = p.depth })
      (place-grown names later grows p.place is)) pools named.pools_named)
      ∙ ap (λ (os : List OpeningModel). record {
        rules = None ∷ map (λ p. Some (place_held names p)) rules;
        pools = map (pool_held names) pools;
        openings = os;
      })
      (map-same (opening_held later) (opening_held names) (OpeningBelow (length names)) opening-same openings
      named.openings_named)

  -- ---- one more

  module _ (p : HeldPlace) (place : Place) (is : place_held later p ≡ place) (below : p.file < length later)
    where
      abbrev held : OriginsModel
      held = origins_held names rules pools openings

      pub rule-added : origins_held later (rules ++ p ∷ []) pools openings
          ≡ record held { rules = held.rules ++ Some place ∷ [] }
      rule-added =
          ap (λ (rs : List (Option Place)). record {
            rules = None ∷ rs;
            pools = map (pool_held later) pools;
            openings =
                map (opening_held later) openings;
          }) (map-append (λ q. Some (place_held later q)) rules (p ∷ []))
          ∙ ap (λ (o : OriginsModel). record o { rules = o.rules ++ Some (place_held later p) ∷ [] })
          origins-grown
          ∙ ap (λ (at : Place). record held { rules = held.rules ++ Some at ∷ [] }) is

      pub rule-named : AreNamed later (rules ++ p ∷ []) pools openings
      rule-named = record {
        rules_named = all-more (Below (length later)) rules p named-grown.rules_named below;
        pools_named = named-grown.pools_named;
        openings_named = named-grown.openings_named;
      }

      pub pool-added : (depth : ℕ) → origins_held later rules
          (pools ++ record { place = p; depth = depth } ∷ []) openings
          ≡ record held { pools = held.pools ++ record { place = place; depth = depth } ∷ [] }
      pool-added depth =
          ap (λ (ps : List PoolDetail). record {
            rules = None ∷ map (λ q. Some (place_held later q)) rules;
            pools = ps;
            openings =
                map (opening_held later) openings;
          })
          (map-append (pool_held later) pools (record { place = p; depth = depth } ∷ []))
          ∙ ap (λ (o : OriginsModel). record o
          { pools = o.pools ++ record { place = place_held later p; depth = depth } ∷ [] }) origins-grown
          ∙ ap (λ (at : Place). record held {
            pools =
                held.pools ++ record { place = at; depth = depth } ∷ [];
          })
          is

      pub pool-named : (depth : ℕ) → AreNamed later rules (pools ++ record { place = p; depth = depth } ∷ [])
          openings
      pool-named depth = record {
        rules_named = named-grown.rules_named;
        pools_named = all-more (PoolBelow (length later)) pools (record { place = p; depth = depth })
            named-grown.pools_named below;
        openings_named = named-grown.openings_named;
      }

      module _ (file : ℕ) (path : List ℕ) (gives : name_at later file ≡ path) (there : file < length later)
          (scope : ScopeNo) where
        abbrev opened : HeldOpening
        opened = record { file = file; named_at = Some p; scope = scope }

        pub opening-added : origins_held later rules pools (openings ++ opened ∷ [])
            ≡ record held {
              openings = held.openings
                  ++ record { path = path; named_at = Some place; scope = scope.0 } ∷ [];
            }
        opening-added =
            ap (λ (os : List OpeningModel). record {
              rules = None ∷ map (λ q. Some (place_held later q)) rules;
              pools =
                  map (pool_held later) pools;
              openings = os;
            })
            (map-append (opening_held later) openings (opened ∷ []))
            ∙ ap (λ (o : OriginsModel). record o {
              openings = o.openings ++ record {
                path = name_at later file;
                named_at = Some (place_held later p);
                scope = scope.0;
              } ∷ [];
            }) origins-grown
            ∙ ap (λ (at : Place). record held {
              openings =
                  held.openings ++ record { path = name_at later file; named_at = Some at; scope = scope.0 } ∷
                  [];
            })
            is
            ∙ ap (λ (text : List ℕ). record held {
              openings = held.openings ++ record { path = text; named_at = Some place; scope = scope.0 } ∷ [];
            })
            gives

        pub opening-named : AreNamed later rules pools (openings ++ opened ∷ [])
        opening-named = record {
          rules_named = named-grown.rules_named;
          pools_named = named-grown.pools_named;
          openings_named = all-more (OpeningBelow (length later)) openings opened named-grown.openings_named
              (there, below);
        }

-- ---- by the statements

-- as many files are opened as the statements open
counted : (e : ReadStatement) (before : List ReadStatement) (item : StatementModel)
    (others : List OpeningModel) → length (with_given others (opening_given e before item))
    ≡ length others + opens_file item
counted e before (IncludeModel word) others = length-append others _
counted e before (SubninjaModel word) others = length-append others _
counted e before (BindingModel name word) others = sym (add-zero (length others))
counted e before (RuleModel name lines) others = sym (add-zero (length others))
counted e before (PoolModel name lines) others = sym (add-zero (length others))
counted e before (BuildModel outputs rule inputs lines) others = sym (add-zero (length others))
counted e before (DefaultModel words) others = sym (add-zero (length others))

suc-more : (n k : ℕ) → suc (n + k) ≡ suc n + k
suc-more n k = omega arith

pub openings-count : (main : List ℕ) (entries : List ReadStatement)
    → length (openings_read main entries) ≡ files_opened entries
openings-count main [] = refl
openings-count main (e ∷ before) =
    ap suc (counted e before e.item (gathered opening_given before))
    ∙ suc-more (length (gathered opening_given before)) (opens_file e.item)
    ∙ ap (λ n. n + opens_file e.item) (openings-count main before) ∙ sym (files-more e before)

-- the main file is opened first
pub main-named : (main : List ℕ) (entries : List ReadStatement) → main_of (origins_read main entries) ≡ main
main-named main entries = refl

-- ---- one more statement

pub origins-more : (main : List ℕ) (e : ReadStatement) (before : List ReadStatement)
    → origins_with e before (origins_read main before) ≡ origins_read main (e ∷ before)
origins-more main e before = grind (arith, common_steps)

-- the origins of statements after a main file include that file
pub origins-of_main : (o : OriginsModel) (main : List ℕ) (entries : List ReadStatement)
    → o ≡ origins_read main entries → o ≡ origins_read (main_of o) entries
origins-of_main o main entries is = grind (arith, common_steps)

-- ---- discoveries change nothing of it

rule-by : (e : ReadStatement) (before other : List ReadStatement) (item : StatementModel)
    → rule_place_given e other item ≡ rule_place_given e before item
rule-by e before other (RuleModel name lines) = refl
rule-by e before other (BindingModel name word) = refl
rule-by e before other (PoolModel name lines) = refl
rule-by e before other (BuildModel outputs rule inputs lines) = refl
rule-by e before other (DefaultModel words) = refl
rule-by e before other (IncludeModel word) = refl
rule-by e before other (SubninjaModel word) = refl

pool-by : (e : ReadStatement) (before other : List ReadStatement) → value_after other ≡ value_after before
    → (item : StatementModel) → pool_detail_given e other item ≡ pool_detail_given e before item
pool-by e before other same (PoolModel name lines) =
    ap (λ (values : List ℕ → List ℕ → List ℕ). Some
    (record {
      place = place_of e;
      depth =
          unwrap_or (option_and_then (λ (l : LineModel). leading_number_of
          (expanded (values (scope_of e)) l.value.parts)) (slice_get lines (length lines - 1))) 0;
    })) same
pool-by e before other same (BindingModel name word) = refl
pool-by e before other same (RuleModel name lines) = refl
pool-by e before other same (BuildModel outputs rule inputs lines) = refl
pool-by e before other same (DefaultModel words) = refl
pool-by e before other same (IncludeModel word) = refl
pool-by e before other same (SubninjaModel word) = refl

opening-by : (e : ReadStatement) (before other : List ReadStatement) → value_after other ≡ value_after before
    → scopes_opened other ≡ scopes_opened before → (item : StatementModel)
    → opening_given e other item ≡ opening_given e before item
opening-by e before other same count (IncludeModel word) =
    ap (λ (values : List ℕ → List ℕ → List ℕ). Some
    (record {
      path = expanded (values (scope_of e)) word.parts;
      named_at = Some (place_of e);
      scope =
          e.scope;
    })) same
opening-by e before other same count (SubninjaModel word) =
    ap (λ (values : List ℕ → List ℕ → List ℕ). Some
    (record {
      path = expanded (values (scope_of e)) word.parts;
      named_at = Some (place_of e);
      scope =
          scopes_opened other;
    })) same
    ∙ ap (λ (n : ℕ). Some (record {
      path = expanded (value_after before (scope_of e)) word.parts;
      named_at =
          Some (place_of e);
      scope = n;
    })) count
opening-by e before other same count (BindingModel name word) = refl
opening-by e before other same count (RuleModel name lines) = refl
opening-by e before other same count (PoolModel name lines) = refl
opening-by e before other same count (BuildModel outputs rule inputs lines) = refl
opening-by e before other same count (DefaultModel words) = refl

-- one more statement, after statements with the same values and scopes
origins-step : (main : List ℕ) (e : ReadStatement) (before others : List ReadStatement)
    → value_after others ≡ value_after before → scopes_opened others ≡ scopes_opened before
    → origins_read main others ≡ origins_read main before
    → origins_read main (e ∷ others) ≡ origins_read main (e ∷ before)
origins-step main e before others values count rest =
    sym (origins-more main e others)
    ∙ ap (λ (o : Option (Option Place)). record (origins_with e others (origins_read main others))
    { rules = with_given (rule_places others) o }) (rule-by e before others e.item)
    ∙ ap (λ (o : Option PoolDetail). record (origins_with e others (origins_read main others)) {
      rules = with_given (rule_places others) (rule_place_given e before e.item);
      pools =
          with_given (pool_details others) o;
    })
    (pool-by e before others values e.item)
    ∙ ap (λ (o : Option OpeningModel). record (origins_with e before (origins_read main others))
    { openings = with_given (openings_read main others) o })
    (opening-by e before others values count e.item)
    ∙ ap (origins_with e before) rest ∙ origins-more main e before

-- inputs named for edges change nothing of it either
pub origins-named : (main : List ℕ) (named : ℕ → List (List ℕ)) (entries : List ReadStatement)
    → origins_read main (with_inputs_named named entries) ≡ origins_read main entries
unfolding with_inputs_named
origins-named main named [] = refl
origins-named main named (e ∷ before) =
    let same = as_read-named named before in
    origins-step main e before (with_inputs_named named before)
    (ap value_in (bounds-same before (with_inputs_named named before) same))
    (scopes_opened-same before (with_inputs_named named before) same) (origins-named main named before)

module _ (main : List ℕ) (edge : ℕ) (found : Discovered) where
  pub origins-discover : (entries : List ReadStatement)
      → origins_read main (discover edge found entries) ≡ origins_read main entries
  unfolding discover
  origins-discover [] = refl
  origins-discover (e ∷ before) = by (is_some (edge_given e before e.item) && length (edges_read before) ==
      edge) (origins-discover before)
    where
      others : List ReadStatement
      others = discover edge found before

      by : (b : Bool) → origins_read main others ≡ origins_read main before
          → origins_read main (if b then record (also_discovered found e) { was_joined = true } ∷ before else
          e ∷ others) ≡ origins_read main (e ∷ before)
      by true rest = refl
      by false rest = origins-step main e before others (value_after-discover edge found before)
          (scopes_opened-discover edge found before) rest
