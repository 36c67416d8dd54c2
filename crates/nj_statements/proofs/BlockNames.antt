-- Lemmas on the names that a block binds.
use Rattle.std.proofs.Common.{◌≡◌, ◌≢◌, ℕ, ◌+◌, ◌<◌, ◌==◌, Bool, true, false, cond, not, ◌&&◌, ◌||◌, ◌⊎◌, inl}
use Rattle.std.proofs.Common.{inr, Some, None, is_some, List, [], ◌∷◌, ◌++◌, map, take, length, get_or}
use Rattle.std.proofs.Common.{bytes_eq, refl, sym, ap, ◌∙◌}
use Rattle.std.proofs.lemmas.Bool.Decides.{eqb_tells}
use Rattle.std.proofs.lemmas.List.{map-append, take_more}
use Rattle.std.proofs.lemmas.List.Folds.{list_any-append}
use Rattle.nj_manifest.specs.declared.statement.Line.{Line}
use Rattle.nj_manifest.specs.Statements.{LineModel}
use Rattle.nj_manifest.specs.Contents.{line_model, lines_model}
use Rattle.nj_edges.specs.Edges.{is_among}
use Rattle.nj_edge_env.specs.Blocks.{BlocksModel, bound_in, names_in}
use Rattle.nj_edges.specs.Repeats.{each_once}
use Rattle.nj_statements.proofs.OnceLemmas.{once-known, once-new}

abbrev pub line_names : List Line → List (List ℕ)
line_names ls = map (λ (l : LineModel). l.name) (lines_model ls)

-- the block of the edge binds exactly the names of its lines so far
pub record AreNamesSoFar (blocks : BlocksModel) (edge : ℕ) (names : List (List ℕ)) : Type 0 where
  pub are : names_in blocks edge ≡ each_once bytes_eq names
  pub bound : (x : List ℕ) → is_some (bound_in blocks edge x) ≡ is_among names x

pub names-none : (blocks : BlocksModel) (edge : ℕ) → ((x : List ℕ) → bound_in blocks edge x ≡ None)
    → names_in blocks edge ≡ [] → AreNamesSoFar blocks edge []
names-none blocks edge none empty = record { are = empty; bound = λ x. ap is_some (none x) }

own : (edge : ℕ) → (edge == edge) ≡ true
own edge = by (eqb_tells edge edge)
  where
    by : ((edge == edge) ≡ true × (edge ≡ edge)) ⊎ ((edge == edge) ≡ false × (edge ≢ edge))
        → (edge == edge) ≡ true
    by (inl (same, h)) = same
    by (inr (other, apart)) = absurd (apart refl)

pub names-turn : (old new : BlocksModel) (edge : ℕ) (names : List (List ℕ)) (name value : List ℕ)
    → AreNamesSoFar old edge names
    → ((e : ℕ) (x : List ℕ) → bound_in new e x
    ≡ cond ((e == edge) && bytes_eq x name) (Some value) (bound_in old e x))
    → ((e : ℕ) → names_in new e ≡ cond ((e == edge) && not (is_some (bound_in old edge name)))
    (names_in old e ++ name ∷ []) (names_in old e))
    → AreNamesSoFar new edge (names ++ name ∷ [])
names-turn old new edge names name value so_far binds lists = record {
  are =
      lists edge
      ∙ ap (λ b. cond (b && not (is_some (bound_in old edge name))) (names_in old edge ++ name ∷ [])
      (names_in old edge)) (own edge)
      ∙ ap (λ b. cond (not b) (names_in old edge ++ name ∷ []) (names_in old edge)) (so_far.bound name)
      ∙ ap (λ xs. cond (not (is_among names name)) (xs ++ name ∷ []) xs) so_far.are
      ∙ listed (is_among names name) refl;
  bound = λ x.
      ap is_some (binds edge x ∙ ap (λ b. cond (b && bytes_eq x name) (Some value) (bound_in old edge x))
      (own edge))
      ∙ by x (bytes_eq x name)
      ∙ ap (λ b. b || (bytes_eq x name || false)) (so_far.bound x)
      ∙ sym (list_any-append (bytes_eq x) names (name ∷ []));
}
  where
    listed : (b : Bool) → is_among names name ≡ b
        → cond (not b) (each_once bytes_eq names ++ name ∷ []) (each_once bytes_eq names)
        ≡ each_once bytes_eq (names ++ name ∷ [])
    listed true h = sym (once-known names name h)
    listed false h = sym (once-new names name h)

    or-true : (b : Bool) → true ≡ (b || true)
    or-true true = refl
    or-true false = refl

    or-false : (b : Bool) → b ≡ (b || false)
    or-false true = refl
    or-false false = refl

    by : (x : List ℕ) (b : Bool) → is_some (cond b (Some value) (bound_in old edge x))
        ≡ (is_some (bound_in old edge x) || (b || false))
    by x true = or-true (is_some (bound_in old edge x))
    by x false = or-false (is_some (bound_in old edge x))

-- the names of one more line
pub names-next : (lines : List Line) (i : ℕ) (l : Line) → i < length lines → l ≡ get_or lines i l
    → line_names (take (i + 1) lines) ≡ line_names (take i lines) ++ l.name.now ∷ []
names-next lines i l below is =
    ap line_names (take_more lines i l below ∙ ap (λ x. take i lines ++ x ∷ []) (sym is))
    ∙ ap (map (λ (l : LineModel). l.name)) (map-append line_model (take i lines) (l ∷ []))
    ∙ map-append (λ (l : LineModel). l.name) (lines_model (take i lines)) (line_model l ∷ [])
