-- What is noticed is affected or changed.
use Rattle.std.proofs.Common.{◌≡◌, ◌⊎◌, inl, inr, ℕ, ◌||◌, Bool, true, false, not, cond, List, [], ◌∷◌}
use Rattle.std.proofs.Common.{refl, sym, ap, ◌∙◌}
use Rattle.std.specs.Prelude.{bytes_eq}
use Rattle.std.specs.List.{filter, flat_map, list_any}
use Rattle.std.proofs.lemmas.List.Folds.{list_any-append}
use Rattle.nj_names.specs.NameTables.{is_among}
use Rattle.nj_changes.specs.FullPaths.{full_path}
use Rattle.nj_graph.specs.Edges.{EdgePaths, edge_at, outputs_of}
use Rattle.nj_graph.specs.Graph.{edges_of}
use Rattle.nj_graph.specs.ReadingList.{ReadStatement}
use Rattle.nj_reached.specs.GraphChanges.{full_paths, is_compiled, is_object, noticed_affected}
use Rattle.nj_reached.specs.GraphChanges.{noticed_changed}
use Rattle.nj_reached.specs.GraphChanges.{noticed_outputs, outputs_made}
use Rattle.nj_reached.specs.Laws.{GraphsNoticeTheChange}

either : (a b : Bool) → (a || b) ≡ true → (a ≡ true) ⊎ (b ≡ true)
either true b is = inl refl
either false b is = inr is

or-first : (a b : Bool) → a ≡ true → (a || b) ≡ true
or-first true b is = refl
or-first false b is = absurd (cc)

or-later : (a b : Bool) → b ≡ true → (a || b) ≡ true
or-later true b is = refl
or-later false b is = is

-- ---- some items and more

-- one of some items passes if one of those that are left of them does
any-left : {X : Type 0} (Q P : X → Bool) (xs : List X) → list_any Q (filter P xs) ≡ true
    → list_any Q xs ≡ true
any-left Q P [] is = is
any-left Q P (x ∷ xs) is = by (P x) (any-left Q P xs) is
  where
    one : (Q x ≡ true) ⊎ (list_any Q (filter P xs) ≡ true)
        → (list_any Q (filter P xs) ≡ true → list_any Q xs ≡ true) → (Q x || list_any Q xs) ≡ true
    one (inl first) rest = or-first (Q x) (list_any Q xs) first
    one (inr later) rest = or-later (Q x) (list_any Q xs) (rest later)

    by : (b : Bool) → (list_any Q (filter P xs) ≡ true → list_any Q xs ≡ true)
        → list_any Q (cond b (x ∷ filter P xs) (filter P xs)) ≡ true → (Q x || list_any Q xs) ≡ true
    by true rest is = one (either (Q x) (list_any Q (filter P xs)) is) rest
    by false rest is = or-later (Q x) (list_any Q xs) (rest is)

any-flat : {X Y : Type 0} (Q : Y → Bool) (f g : X → List Y)
    → ((x : X) → list_any Q (f x) ≡ true → list_any Q (g x) ≡ true) → (xs : List X)
    → list_any Q (flat_map f xs) ≡ true → list_any Q (flat_map g xs) ≡ true
any-flat Q f g more [] is = is
any-flat Q f g more (x ∷ xs) is =
    list_any-append Q (g x) (flat_map g xs)
    ∙ by (either (list_any Q (f x)) (list_any Q (flat_map f xs))
    (sym (list_any-append Q (f x) (flat_map f xs)) ∙ is))
    (any-flat Q f g more xs)
  where
    by : (list_any Q (f x) ≡ true) ⊎ (list_any Q (flat_map f xs) ≡ true)
        → (list_any Q (flat_map f xs) ≡ true → list_any Q (flat_map g xs) ≡ true)
        → (list_any Q (g x) || list_any Q (flat_map g xs)) ≡ true
    by (inl first) rest = or-first (list_any Q (g x)) (list_any Q (flat_map g xs)) (more x first)
    by (inr later) rest = or-later (list_any Q (g x)) (list_any Q (flat_map g xs)) (rest later)

any-full : (name folder : List ℕ) (paths : List (List ℕ))
    → is_among (full_paths folder paths) name ≡ list_any (λ path. bytes_eq name (full_path folder path)) paths
any-full name folder [] = refl
any-full name folder (p ∷ ps) = ap (λ b. bytes_eq name (full_path folder p) || b) (any-full name folder ps)

-- ---- outputs

-- what is noticed of an edge is among its outputs
any-noticed : (Q : List ℕ → Bool) (entries : List ReadStatement) (edges : List EdgePaths) (edge : ℕ)
    → list_any Q (noticed_outputs entries edges edge) ≡ true
    → list_any Q (outputs_of (edge_at edges edge)) ≡ true
any-noticed Q entries edges edge is =
    by (edge_at edges edge).is_phony
    (any-left Q (λ output. not (is_object entries edges edge output)) (outputs_made (edge_at edges edge)) is)
  where
    by : (phony : Bool) → list_any Q (cond phony [] (outputs_of (edge_at edges edge))) ≡ true
        → list_any Q (outputs_of (edge_at edges edge)) ≡ true
    by true none = absurd (cc)
    by false some = some

pub graphs-notice-the-change : GraphsNoticeTheChange
graphs-notice-the-change g entries q c is path noticed =
    by (either (is_among outputs path) (is_among files path)
    (sym (list_any-append (bytes_eq path) outputs files) ∙ sym (is.noticed path) ∙ noticed))
  where
    outputs : List (List ℕ)
    outputs = noticed_affected entries (edges_of g) q

    files : List (List ℕ)
    files = noticed_changed entries (edges_of g) q

    compiled : List (List ℕ)
    compiled = full_paths q.folder (filter (is_compiled entries (edges_of g)) q.files)

    names : List ℕ → Bool
    names output = bytes_eq path (full_path q.folder output)

    notices : ℕ → List (List ℕ)
    notices = noticed_outputs entries (edges_of g)

    makes : ℕ → List (List ℕ)
    makes edge = outputs_of (edge_at (edges_of g) edge)

    by : (is_among outputs path ≡ true) ⊎ (is_among files path ≡ true)
        → (is_among c.affected path ≡ true) ⊎ (is_among c.changed path ≡ true)
    by (inl affected) = inl (is.affected path ∙ any-full path q.folder (flat_map makes q.touched)
        ∙ any-flat names notices makes (any-noticed names entries (edges_of g)) q.touched
        (sym (any-full path q.folder (flat_map notices q.touched)) ∙ affected))
    by (inr changed) = inr (ap (λ paths. is_among paths path) is.changed
        ∙ any-left (bytes_eq path) (λ p. not (is_among compiled p)) q.changed changed)
