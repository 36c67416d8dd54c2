-- The commands of targets' own makers, one target after another.
use Rattle.std.proofs.Common.{◌≡◌, ℕ, Bool, true, false, not, ◌&&◌, ◌||◌, cond, if◌then◌else◌, Option, Some}
use Rattle.std.proofs.Common.{None}
use Rattle.std.proofs.Common.{List, [], ◌∷◌, ◌++◌, refl, sym, ap, ◌∙◌}
use Rattle.std.proofs.Common.{append-nil}
use Rattle.std.specs.Prelude.{nat_eq, filter}
use Rattle.std.specs.List.{list_any, flat_map}
use Rattle.std.proofs.lemmas.List.Elements.{filter_agree}
use Rattle.std.proofs.lemmas.List.Folds.{list_any-append}
use Rattle.nj_edges.specs.Edges.{maker_of}
use Rattle.nj_edges.specs.Repeats.{each_once}
use Rattle.nj_needs.specs.Graphs.{row_of_paths, is_phony_in}
use Rattle.nj_needs.specs.Marks.{without}
use Rattle.nj_needs.specs.Order.{made_by}
use Rattle.nj_needs.proofs.Striking.{filter-filter, without-none}
use Rattle.nj_graph.specs.Graph.{GraphModel, edges_of}
use Rattle.nj_graph.specs.Handles.{GraphFile, files_in}
use Rattle.nj_tools.specs.CommandStrings.{own_commands_in}
use Rattle.nj_tools.specs.Inside.Seen.{makers_of_file, new_command, new_of, single}

-- the commands that are left of the given targets
abbrev pub own_left : (earlier : List ℕ) → List GraphFile → List ℕ
own_left earlier [] = []
own_left earlier (file ∷ files) =
    made_by single (new_command file earlier) ++ own_left (earlier ++ makers_of_file file) files

module _ (g : GraphModel) where
  has_command : ℕ → Bool
  has_command e = not (is_phony_in (edges_of g) e)

  -- the given edges that have a command and were not met earlier
  new_among : (earlier edges : List ℕ) → List ℕ
  new_among earlier edges = filter has_command (without earlier (each_once nat_eq edges))

  not_more : (a c : Bool) → (not c && not a) ≡ not (a || (c || false))
  not_more true true = refl
  not_more true false = refl
  not_more false true = refl
  not_more false false = refl

  -- with one more edge in front
  first-new : (earlier : List ℕ) (e : ℕ) (edges : List ℕ)
      → new_among earlier (e ∷ edges)
      ≡ made_by single (new_of g earlier (Some e)) ++ new_among (earlier ++ single e) edges
  unfolding new_among has_command
  first-new earlier e edges =
      by (list_any (nat_eq e) earlier)
      ∙ ap (λ es. made_by single (new_of g earlier (Some e)) ++ filter has_command es)
      (filter-filter unseen other once ∙ filter_agree (λ y. other y && unseen y)
      (λ y. not (list_any (nat_eq y) (earlier ++ single e)))
      (λ y. not_more (list_any (nat_eq y) earlier) (nat_eq y e)
      ∙ ap not (sym (list_any-append (nat_eq y) earlier (e ∷ [])))) once)
    where
      unseen : ℕ → Bool
      unseen y = not (list_any (nat_eq y) earlier)

      other : ℕ → Bool
      other y = not (nat_eq y e)

      once : List ℕ
      once = each_once nat_eq edges

      others : List ℕ
      others = filter unseen (filter other once)

      with_command : (h : Bool) → cond h (e ∷ filter has_command others) (filter has_command others)
          ≡ made_by single (if h then Some e else None) ++ filter has_command others
      with_command true = refl
      with_command false = refl

      by : (b : Bool) → filter has_command (cond (not b) (e ∷ others) others)
          ≡ made_by single (if not b && has_command e then Some e else None) ++ filter has_command others
      by true = refl
      by false = with_command (has_command e)

  own-is : (earlier : List ℕ) (paths : List (List ℕ))
      → own_left earlier (files_in g paths)
      ≡ new_among earlier (flat_map (made_by single) (row_of_paths (edges_of g) paths))
  unfolding new_among
  own-is earlier [] = refl
  own-is earlier (path ∷ paths) = by (λ es. own-is es paths) (maker_of (edges_of g) path)
    where
      rest : List ℕ
      rest = flat_map (made_by single) (row_of_paths (edges_of g) paths)

      by : ((es : List ℕ) → own_left es (files_in g paths) ≡ new_among es rest)
          → (m : Option ℕ) → made_by single (new_of g earlier m)
          ++ own_left (earlier ++ made_by single m) (files_in g paths)
          ≡ new_among earlier (made_by single m ++ rest)
      by others None = ap (λ es. own_left es (files_in g paths)) (append-nil earlier) ∙ others earlier
      by others (Some e) = ap (λ es. made_by single (new_of g earlier (Some e)) ++ es)
          (others (earlier ++ single e))
          ∙ sym (first-new earlier e rest)

  pub own-all : (paths : List (List ℕ)) → own_left [] (files_in g paths) ≡ own_commands_in (edges_of g) paths
  unfolding new_among has_command
  own-all paths = own-is [] paths
      ∙ ap (filter has_command) (without-none (each_once nat_eq
      (flat_map (made_by single) (row_of_paths (edges_of g) paths))))
