-- A command that is not new has an older key.
use Rattle.std.proofs.Common.{◌≡◌, ◌<◌, ◌⊎◌, inl, inr, ℕ, zero, suc, Bool, true, false, cond, List, []}
use Rattle.std.proofs.Common.{◌∷◌, ◌++◌}
use Rattle.std.proofs.Common.{length, map, get_or, refl, sym, ap, subst, ◌∙◌, arith}
use Rattle.std.specs.Prelude.{Contains, not}
use Rattle.std.specs.List.{filter}
use Rattle.std.proofs.lemmas.List.Elements.{Contains-append_cases, Contains-append_left}
use Rattle.std.proofs.lemmas.List.Elements.{Contains-append_right}
use Rattle.nj_text.specs.Paths.{clean_path_of}
use Rattle.nj_graph.specs.ReadingList.{ReadStatement}
use Rattle.nj_graph.specs.Edges.{EdgePaths, is_among}
use Rattle.nj_keys.specs.Keys.{HaveKeys, IsKey, all_commands}
use Rattle.nj_keys.specs.Keys.HaveKeys.{last, none}
use Rattle.nj_keys.specs.declared.pages.EdgeKey.{EdgeKey}
use Rattle.nj_ask.specs.Laws.{OtherCommandsAreOld}
use Rattle.nj_ask.specs.Since.{keys_in, lines_in, new_edges}
use Rattle.nj_ask.specs.Since.IsNewSince.{some}

one-is : {X : Type 0} (x y : X) → Contains (x ∷ []) y → x ≡ y
one-is x y (zero, below, is) = is
one-is x y (suc k, below, is) = absurd (omega (arith, below))

-- ---- the key of an edge among some keys

module _ (folders : List (List ℕ)) (edges : List EdgePaths) (entries : List ReadStatement) (edge : ℕ) where
  abbrev HasKey : List EdgeKey → Type 0
  HasKey keys = (next : EdgeKey) × Contains keys next × (next.edge.0 ≡ edge)
      × IsKey folders edges entries edge next.key

  key-there : (numbers : List ℕ) (keys : List EdgeKey) → HaveKeys [] folders edges entries numbers keys
      → Contains numbers edge → HasKey keys
  key-there _ _ none has = let below = has.1 in absurd (omega (arith, below))
  key-there _ _ (last {numbers = numbers} {keys = keys} {e = e} {key = key} {next = next} have is at key-is)
      has = by (key-there numbers keys have) (Contains-append_cases numbers (e ∷ []) edge has)
    where
      by : (Contains numbers edge → HasKey keys) → Contains numbers edge ⊎ Contains (e ∷ []) edge
          → HasKey (keys ++ next ∷ [])
      by earlier (inl before) =
          let (one, there, same, is-key) = earlier before in
          (one, Contains-append_left keys (next ∷ []) one there, same, is-key)
      by earlier (inr here) =
          let same : e ≡ edge = one-is e edge here in (
            next,
            Contains-append_right keys (next ∷ []) next (0, omega arith, refl),
            at ∙ same,
            subst (IsKey folders edges entries edge) (sym key-is)
                (subst (λ n. IsKey folders edges entries n key) same is),
          )

-- ---- keys that are not among the older ones

module _ (old : List (List ℕ)) where
  abbrev passes : EdgeKey → Bool
  passes next = not (is_among old next.key)

  abbrev numbers : List EdgeKey → List ℕ
  numbers keys = map (λ edge. edge.0) (new_edges old keys)

  new-there : (keys : List EdgeKey) (next : EdgeKey) (k : ℕ) → k < length keys → get_or keys k next ≡ next
      → is_among old next.key ≡ false → Contains (numbers keys) next.edge.0
  new-there [] next k below at is = absurd (omega arith)
  new-there (one ∷ keys) next zero below at is = by (is_among old one.key) refl
    where
      by : (b : Bool) → is_among old one.key ≡ b
          → Contains (map (λ edge. edge.0) (map (λ n. n.edge) (cond (not b) (one ∷ filter passes keys)
          (filter passes keys)))) next.edge.0
      by false same = (0, omega arith, ap (λ (n : EdgeKey). n.edge.0) at)
      by true same = let both = sym same ∙ ap (λ (n : EdgeKey). is_among old n.key) at ∙ is in absurd cc
  new-there (one ∷ keys) next (suc k) below at is =
      by (is_among old one.key) (new-there keys next k (omega arith) at is)
    where
      by : (b : Bool) → Contains (numbers keys) next.edge.0
          → Contains (map (λ edge. edge.0) (map (λ n. n.edge) (cond (not b) (one ∷ filter passes keys)
          (filter passes keys)))) next.edge.0
      by false (j, under, same) = (suc j, omega (arith, under), same)
      by true has = has

pub other-commands : OtherCommandsAreOld
other-commands known edges entries times folder bases text new (some right are settles) edge has not-new =
    let folders = map clean_path_of bases in
    let (next, there, same, is) = key-there folders edges entries edge (all_commands known.graph) are.keys
    are.have has
    in
    (next.key, is, by next there same (is_among (keys-of text) next.key) refl)
  where
    keys-of : List ℕ → List (List ℕ)
    keys-of text = keys_in (lines_in text)

    by : (next : EdgeKey) → Contains are.keys next → next.edge.0 ≡ edge → (b : Bool)
        → is_among (keys-of text) next.key ≡ b → is_among (keys-of text) next.key ≡ true
    by next there same true is = is
    by next there same false is = absurd (not-new (subst (λ ns. Contains ns edge) (sym are.new)
        (subst (Contains (numbers (keys-of text) are.keys)) same
        (new-there (keys-of text) are.keys next there.0 there.1 there.2 is))))
