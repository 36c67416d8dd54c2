-- A reader after one more statement.
use Rattle.std.proofs.lemmas.Grind.{common_steps}
use Rattle.std.proofs.Common.{◌≡◌, ℕ, ◌==◌, ◌&&◌, if◌then◌else◌, Bool, true, false, not, cond, Some, None}
use Rattle.std.proofs.Common.{option_map, option_and_then, unwrap_or, Result, Ok, Err, Option, List, [], ◌∷◌}
use Rattle.std.proofs.Common.{◌++◌, drop, take, get_or, length, length-append, slice_get, ◌+◌, ◌-◌, ◌<◌, find}
use Rattle.std.proofs.Common.{refl, sym, ap, subst, ◌∙◌, true≢false, arith}
use Rattle.nj_graph.specs.Inside.PathsReached.{with_news, paths_read}
use Rattle.nj_graph.proofs.OriginLemmas.{origins-more}
use Rattle.std.specs.Bool.{then_some}
use Rattle.std.specs.Option.{option_or, option_to_list}
use Rattle.std.proofs.lemmas.List.{map_push, take_more}
use mathlib.Core.Path.{fun_ext}
use Rattle.nj_text.specs.declared.spot.Spot.{Spot}
use Rattle.nj_text.specs.Numbers.{leading_number_of}
use Rattle.nj_text.specs.Words.{WordModel, word_model}
use Rattle.nj_manifest.specs.declared.statement.Line.{Line}
use Rattle.nj_manifest.specs.Contents.{line_model, lines_model}
use Rattle.nj_manifest.specs.LineSteps.{NameModel}
use Rattle.nj_manifest.specs.Statements.{LineModel, StatementModel}
use Rattle.nj_scope.specs.Readings.{EachPathOnce, paths_of}
use Rattle.nj_scope.specs.Scopes.{Bounds, value_in, expanded, rule_at}
use Rattle.nj_scope.specs.Declarations.{DeclarationsModel, DeclaredBy, SameScopes}
use Rattle.nj_scope.specs.Limits.{is_depth}
use Rattle.nj_scope.specs.Pools.{is_pool}
use Rattle.nj_scope.proofs.Gathering.{get-last}
use Rattle.nj_scope.specs.ReadingList.{ReadStatement, scope_of, binds, bounds, is_declared}
use Rattle.nj_scope.specs.ReadingList.{path_named}
use Rattle.nj_faults.specs.declared.fault.GraphFault.{GraphFault}
use Rattle.nj_faults.specs.declared.fault.PlaceRef.{PlaceRef}
use Rattle.nj_graph.specs.declared.reader.OpenFile.{OpenFile}
use Rattle.nj_graph.specs.declared.reader.Reader.{Reader}
use Rattle.nj_faults.specs.declared.fault.Cause.TheVariants.{BadDepth}
use Rattle.nj_faults.specs.Faults.{fault_at}
use Rattle.nj_graph.specs.Reading.{entry_at, expanded_in, rule_fault, depth_fault, pool_fault, own_fault}
use Rattle.nj_statements.specs.Answers.{HasEdges, ReadsStatement, entry_at_place}
use Rattle.nj_graph.specs.Graph.{IsOpenScope}
use Rattle.nj_graph.specs.Origins.{place_text, depth_of}
use Rattle.nj_graph.specs.Inside.OriginsHeld.{origins_with}
use Rattle.nj_graph.proofs.OpenScopes.{open-next}
use Rattle.nj_graph.specs.Inside.ReaderContracts.{Has, Grows, Declares, site_of}

-- a statement that names no file
pub has-next : (main : List ℕ) (old held : Reader) (entries : List ReadStatement) (e : ReadStatement)
    → Has main old entries → DeclaredBy held.declarations (e ∷ entries)
    → held.origins ≡ origins_with e entries old.origins → held.files ≡ old.files
    → path_named e entries e.item ≡ None → HasEdges held.building (e ∷ entries)
    → Grows old.declarations.scopes held.declarations.scopes
    → IsOpenScope old.declarations.scopes e.scope e.around → Has main held (e ∷ entries)
has-next main old held entries e has follows origins files names edges grows inside = record {
  declares = follows;
  edges = edges;
  scopes = open-next old.declarations.scopes held.declarations.scopes e entries grows inside has.scopes;
  origins = origins ∙ ap (origins_with e entries) has.origins ∙ origins-more main e entries;
  paths_are = ap paths_of files ∙ has.paths_are
      ∙ ap (λ o. with_news (paths_read main entries) (option_to_list o)) (sym names);
  once = subst EachPathOnce (sym files) has.once;
}

-- a version that is not newer, and a name that is another
pub version-accepted : (named newer : Bool) (fault : GraphFault) → newer ≡ false
    → then_some (named && newer) fault ≡ None
version-accepted true true fault h = absurd (true≢false h)
version-accepted true false fault h = refl
version-accepted false newer fault h = refl

pub name-is-other : (named newer : Bool) (fault : GraphFault) → named ≡ false
    → then_some (named && newer) fault ≡ None
name-is-other true newer fault h = absurd (true≢false h)
name-is-other false newer fault h = refl

pub version-refused : (named newer : Bool) (fault : GraphFault) → named ≡ true → newer ≡ true
    → then_some (named && newer) fault ≡ Some fault
version-refused true true fault is new = refl
version-refused true false fault is new = absurd (true≢false (sym new))
version-refused false newer fault is new = absurd (true≢false (sym is))

-- a rule that is new
pub rule-new : (main : List ℕ) (held : Reader) (entries : List ReadStatement) (file : List ℕ) (number : ℕ)
    (name : NameModel) → Has main held entries
    → true ≡ not (is_declared (rule_at held.declarations.scopes number name.name) name.name)
    → rule_fault file number entries name ≡ None
rule-new main held entries file number name has new = grind (arith, common_steps)

-- a pool that is new
pub pool-new : (main : List ℕ) (held : Reader) (entries : List ReadStatement) (file scope : List ℕ)
    (name : NameModel) (lines : List LineModel) → Has main held entries
    → true ≡ not (is_pool held.declarations.pools name.name)
    → pool_fault file scope entries name lines ≡ depth_fault file scope entries lines
pool-new main held entries file scope name lines has new = grind (arith, common_steps)

-- ---- depths

-- after a statement that binds nothing each scope binds the same
bounds-same : (e : ReadStatement) (entries : List ReadStatement)
    → ((value : List ℕ → List ℕ) (x : List ℕ) → binds value e.item x ≡ None) → (n : ℕ) (x : List ℕ)
    → bounds (e ∷ entries) n x ≡ bounds entries n x
unfolding bounds
bounds-same e entries nothing n x = by (n == e.scope)
  where
    by : (a : Bool) → option_or (if a then binds (value_in (bounds entries) (scope_of e)) e.item x else None)
        (bounds entries n x) ≡ bounds entries n x
    by true = ap (λ o. option_or o (bounds entries n x)) (nothing (value_in (bounds entries) (scope_of e)) x)
    by false = refl

expanded-kept : (e : ReadStatement) (entries : List ReadStatement)
    → ((value : List ℕ → List ℕ) (x : List ℕ) → binds value e.item x ≡ None)
    → (scope : List ℕ) (word : WordModel) → expanded_in scope (e ∷ entries) word
    ≡ expanded_in scope entries word
expanded-kept e entries nothing scope word =
    ap (λ (bound : Bounds). expanded (value_in bound scope) word.parts)
    (fun_ext (λ n. fun_ext (λ x. bounds-same e entries nothing n x)))

pub depths-same : (file : List ℕ) (e : ReadStatement) (entries : List ReadStatement)
    → ((value : List ℕ → List ℕ) (x : List ℕ) → binds value e.item x ≡ None)
    → (scope : List ℕ) (lines : List LineModel)
    → depth_fault file scope (e ∷ entries) lines ≡ depth_fault file scope entries lines
depths-same file e entries nothing scope [] = refl
depths-same file e entries nothing scope (l ∷ lines) =
    ap (λ gives. option_map reported (cond (not (is_depth gives)) (Some l)
    (find (λ m. not (is_depth (expanded_in scope (e ∷ entries) m.value))) lines)))
    (expanded-kept e entries nothing scope l.value)
    ∙ by (not (is_depth (expanded_in scope entries l.value))) (depths-same file e entries nothing scope lines)
  where
    reported : LineModel → GraphFault
    reported m = fault_at file m.spot BadDepth

    by : (b : Bool) → depth_fault file scope (e ∷ entries) lines ≡ depth_fault file scope entries lines
        → option_map reported (cond b (Some l)
        (find (λ m. not (is_depth (expanded_in scope (e ∷ entries) m.value))) lines))
        ≡ option_map reported (cond b (Some l)
        (find (λ m. not (is_depth (expanded_in scope entries m.value))) lines))
    by true others = refl
    by false others = others

-- the depth of a pool
pub depth-same : (e : ReadStatement) (entries : List ReadStatement)
    → ((value : List ℕ → List ℕ) (x : List ℕ) → binds value e.item x ≡ None)
    → (scope : List ℕ) (lines : List LineModel)
    → depth_of scope (e ∷ entries) lines ≡ depth_of scope entries lines
depth-same e entries nothing scope lines =
    ap (λ (bound : Bounds). unwrap_or (option_and_then
    (λ (l : LineModel). leading_number_of (expanded (value_in bound scope) l.value.parts))
    (slice_get lines (length lines - 1))) 0)
    (fun_ext (λ n. fun_ext (λ x. bounds-same e entries nothing n x)))

-- a line that has a depth is not a fault
pub depths-next : (file scope : List ℕ) (entries : List ReadStatement) (lines : List Line) (i : ℕ)
    (line : Line) → i < length lines → line ≡ get_or lines i line
    → is_depth (expanded_in scope entries (word_model line.value)) ≡ true
    → depth_fault file scope entries (lines_model (drop i lines))
    ≡ depth_fault file scope entries (lines_model (drop (i + 1) lines))
depths-next file scope entries lines i line lt at is = grind (arith, common_steps)

-- the depth after one more line is the number of that line
pub depth-next : (scope : List ℕ) (entries : List ReadStatement) (lines : List Line) (i : ℕ) (line : Line)
    → i < length lines → line ≡ get_or lines i line
    → depth_of scope entries (lines_model (take (i + 1) lines))
    ≡ unwrap_or (leading_number_of (expanded_in scope entries (word_model line.value))) 0
depth-next scope entries lines i line lt at =
    ap (depth_of scope entries) (ap lines_model
    (take_more lines i line lt ∙ ap (λ (l : Line). take i lines ++ l ∷ []) (sym at))
    ∙ map_push line_model (take i lines) line)
    ∙ last-counts (lines_model (take i lines)) (line_model line)
  where
    last-counts : (front : List LineModel) (l : LineModel)
        → depth_of scope entries (front ++ l ∷ [])
        ≡ unwrap_or (leading_number_of (expanded_in scope entries l.value)) 0
    last-counts front l =
        let n : length (front ++ l ∷ []) - 1 ≡ length front = simp length-append (omega arith) in
        ap (λ (o : Option LineModel). unwrap_or
        (option_and_then (λ m. leading_number_of (expanded_in scope entries m.value)) o) 0)
        (ap (slice_get (front ++ l ∷ [])) n ∙ get-last front l)

-- ---- scopes that stay

pub same-grows : (before after : DeclarationsModel) → SameScopes before after
    → Grows before.scopes after.scopes
same-grows before after same = grind (arith, common_steps)

-- ---- `build` and `default` statements

-- a statement at a place of an open file
pub placed-entry : (file : OpenFile) (place : PlaceRef) (spot : Spot) (around : List ℕ) (depth : ℕ)
    (item : StatementModel)
    → place.file.now ≡ file.name.now → place.spot ≡ spot
    → entry_at_place place file.scope.0 around depth item
    ≡ entry_at (site_of file around depth) (record { spot = spot; item = item })
placed-entry file place spot around depth item file_is spot_is = grind (arith, common_steps)

-- and the place itself
pub placed-text : (place : PlaceRef) (file : List ℕ) (spot : Spot) → place.file.now ≡ file → place.spot ≡ spot
    → place_text place ≡ record { file = file; spot = spot }
placed-text place file spot file_is spot_is = grind (arith, common_steps)

-- a statement that leaves the declarations unchanged and adds the edges of one statement
pub built-declares : (main : List ℕ) (old held : Reader) (entries : List ReadStatement) (e : ReadStatement)
    (result : Result (Unit {0}) GraphFault) → Has main old entries
    → DeclaredBy held.declarations (e ∷ entries) → held.origins ≡ origins_with e entries old.origins
    → held.files ≡ old.files → path_named e entries e.item ≡ None
    → Grows old.declarations.scopes held.declarations.scopes
    → IsOpenScope old.declarations.scopes e.scope e.around
    → ReadsStatement held.building (own_fault e entries) e entries result
    → Declares main held e entries result
built-declares main old held entries e (Ok done) has follows origins files names grows inside reads =
    (reads.0, has-next main old held entries e has follows origins files names reads.1 grows inside)
built-declares main old held entries e (Err fault) has follows origins files names grows inside reads = reads
