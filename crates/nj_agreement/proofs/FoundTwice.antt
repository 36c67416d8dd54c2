-- Two models of what was discovered for the same edges.
use Rattle.std.proofs.Common.{◌≡◌, ◌⊎◌, inl, inr, ℕ, suc, ◌<◌, ◌≤◌, List, [], ◌∷◌, map, length}
use Rattle.std.proofs.Common.{get_or, refl, sym, ap, ◌∙◌, arith}
use Rattle.std.proofs.Math.Path.{fun_ext}
use Rattle.std.proofs.lemmas.Bool.{cases_lt}
use Rattle.std.proofs.lemmas.List.{get_or_past}
use Rattle.nj_names.specs.NameTables.{name_at}
use Rattle.nj_discovered.specs.Discovered.{Discovery}
use Rattle.nj_discovered.specs.Discoveries.{DiscoveriesModel, FoundModel, discovery_at, found_at}
use Rattle.nj_discovered.specs.declared.verdict.Verdict.{Verdict}
use Rattle.nj_discovered.specs.declared.verdict.Verdict.TheVariants.{Known}
use Rattle.nj_agreement.specs.Graphs.{SameDiscoveries}

abbrev nothing : FoundModel
nothing = record { verdict = Known; inputs = [] }

abbrev as_paths : DiscoveriesModel → FoundModel → Discovery
as_paths found edge = record { verdict = edge.verdict; inputs = map (name_at found.names) edge.inputs }

-- the verdicts on edges
abbrev pub verdicts : DiscoveriesModel → ℕ → Verdict
verdicts found edge = (found_at found edge).verdict

-- the inputs that edges discovered
abbrev pub inputs : DiscoveriesModel → ℕ → List (List ℕ)
inputs found edge = (discovery_at found edge).inputs

module _ (one other : DiscoveriesModel) (same : SameDiscoveries one other) where
  discovered-same : (edge : ℕ) → discovery_at one edge ≡ discovery_at other edge
  discovered-same edge = by (cases_lt edge (length one.edges))
    where
      by : (edge < length one.edges) ⊎ (length one.edges ≤ edge)
          → discovery_at one edge ≡ discovery_at other edge
      by (inl below) = same.each edge below
      by (inr past) =
          let count = same.count in
          let here : found_at one edge ≡ nothing = get_or_past one.edges edge nothing past in
          let there : found_at other edge ≡ nothing =
          get_or_past other.edges edge nothing (omega (arith, past, count)) in
          ap (as_paths one) here ∙ sym (ap (as_paths other) there)

  pub verdicts-same : (edge : ℕ) → (found_at one edge).verdict ≡ (found_at other edge).verdict
  verdicts-same edge = ap (λ (d : Discovery). d.verdict) (discovered-same edge)

  pub all-verdicts : verdicts one ≡ verdicts other
  all-verdicts = fun_ext verdicts-same

  pub all-inputs : inputs one ≡ inputs other
  all-inputs = fun_ext (λ edge. ap (λ (d : Discovery). d.inputs) (discovered-same edge))

  tests-from : {A : Type 0} (test : Verdict → A) (xs ys : List FoundModel) → length xs ≡ length ys
      → ((edge : ℕ) → edge < length xs → (get_or xs edge nothing).verdict ≡ (get_or ys edge nothing).verdict)
      → map (λ (f : FoundModel). test f.verdict) xs ≡ map (λ (f : FoundModel). test f.verdict) ys
  tests-from test [] [] count are = refl
  tests-from test [] (y ∷ ys) count are = absurd (omega (arith, count))
  tests-from test (x ∷ xs) [] count are = absurd (omega (arith, count))
  tests-from test (x ∷ xs) (y ∷ ys) count are =
      let first : x.verdict ≡ y.verdict = are 0 (omega arith) in
      let rest = tests-from test xs ys (omega (arith, count))
      (λ edge below. are (suc edge) (omega (arith, below)))
      in
      ap (λ v. test v ∷ map (λ (f : FoundModel). test f.verdict) xs) first
      ∙ ap (λ vs. test y.verdict ∷ vs) rest

  -- what is said of all verdicts, one edge after another
  pub tests-same : {A : Type 0} (test : Verdict → A)
      → map (λ (f : FoundModel). test f.verdict) one.edges
      ≡ map (λ (f : FoundModel). test f.verdict) other.edges
  tests-same test = tests-from test one.edges other.edges same.count (λ edge below. verdicts-same edge)
