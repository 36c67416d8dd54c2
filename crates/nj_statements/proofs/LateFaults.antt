-- Lemmas on the faults of a rule's variables.
use Rattle.std.proofs.Common.{◌≡◌, ℕ, ◌==◌, ◌||◌, Bool, true, false, not, if◌then◌else◌, List, [], ◌∷◌}
use Rattle.std.proofs.Common.{length, Some, None, refl, sym, ap, subst, ◌∙◌, arith, true≢false}
use Rattle.std.specs.Bool.{then_some}
use Rattle.std.proofs.lemmas.Bool.{ne_eqb}
use Rattle.nj_text.specs.declared.spot.Spot.{Spot}
use Rattle.nj_text.specs.Calls.{is_empty}
use Rattle.nj_text.specs.Paths.{clean_path_of}
use Rattle.nj_scope.specs.Pools.{is_pool}
use Rattle.nj_faults.specs.declared.fault.GraphFault.{GraphFault}
use Rattle.nj_faults.specs.declared.fault.Cause.TheVariants.{UnknownPool, DyndepNotInput}
use Rattle.nj_faults.specs.Faults.{IsFault, fault_at}
use Rattle.nj_edges.specs.Edges.{is_among}
use Rattle.nj_statements.specs.EdgeList.{name_given}
use Rattle.nj_statements.specs.BuildFaults.{unknown_pool, dyndep_not_input}

-- ---- the pool

nothing-meant : (meant : List ℕ) → (length meant == 0) ≡ true → is_empty meant ≡ true
nothing-meant [] h = refl
nothing-meant (x ∷ xs) h = absurd (true≢false (sym h ∙ ne_eqb (length (x ∷ xs)) 0 (λ is. omega (arith, is))))

something-meant : (meant : List ℕ) → (length meant == 0) ≡ false → is_empty meant ≡ false
something-meant [] h = absurd (true≢false h)
something-meant (x ∷ xs) h = refl

module _ (file : List ℕ) (spot : Spot) (declared : List (List ℕ)) (meant text : List ℕ) (gives : meant ≡ text)
  where
    abbrev fault : GraphFault
    fault = fault_at file spot (UnknownPool meant)

    or-true : (a : Bool) → (a || true) ≡ true
    or-true true = refl
    or-true false = refl

    pub pool-empty : (length meant == 0) ≡ true → unknown_pool file spot declared text ≡ None
    pool-empty h = ap (unknown_pool file spot declared) (sym gives)
        ∙ ap (λ b. then_some (not (b || is_pool declared meant)) fault) (nothing-meant meant h)

    pub pool-known : is_pool declared meant ≡ true → unknown_pool file spot declared text ≡ None
    pool-known h = ap (unknown_pool file spot declared) (sym gives)
        ∙ ap (λ b. then_some (not (is_empty meant || b)) fault) h
        ∙ ap (λ b. then_some (not b) fault) (or-true (is_empty meant))

    pub pool-unknown : (f : GraphFault) → (length meant == 0) ≡ false → is_pool declared meant ≡ false
        → IsFault (Some fault) f → IsFault (unknown_pool file spot declared text) f
    pool-unknown f some unknown h =
        subst (λ o. IsFault o f) (sym (ap (unknown_pool file spot declared) (sym gives)
        ∙ ap (λ b. then_some (not (b || is_pool declared meant)) fault) (something-meant meant some)
        ∙ ap (λ b. then_some (not b) fault) unknown)) h

    -- if the text is empty, no pool is named
    pub name-empty : (length meant == 0) ≡ true → name_given text ≡ None
    name-empty h = ap name_given (sym gives)
        ∙ ap (λ b. if b then None else Some meant) (nothing-meant meant h)

    pub name-some : (length meant == 0) ≡ false → name_given text ≡ Some meant
    name-some h = ap name_given (sym gives)
        ∙ ap (λ b. if b then None else Some meant) (something-meant meant h)

-- ---- the dyndep file

module _ (file : List ℕ) (spot : Spot) (inputs : List (List ℕ)) (meant text : List ℕ) (gives : meant ≡ text)
  where
    abbrev path : List ℕ
    path = clean_path_of meant

    abbrev no_input : (path : List ℕ) → GraphFault
    no_input path = fault_at file spot (DyndepNotInput path)

    pub dyndep-empty : meant ≡ [] → dyndep_not_input file spot inputs text ≡ None
    dyndep-empty h = ap (dyndep_not_input file spot inputs) (sym gives)
        ∙ ap (λ (l : List ℕ). then_some (not (is_empty l || is_among inputs path)) (no_input path)) h

    or-true' : (a : Bool) → (a || true) ≡ true
    or-true' true = refl
    or-true' false = refl

    pub dyndep-input : is_among inputs path ≡ true → dyndep_not_input file spot inputs text ≡ None
    dyndep-input h = ap (dyndep_not_input file spot inputs) (sym gives)
        ∙ ap (λ b. then_some (not (is_empty meant || b)) (no_input path)) h
        ∙ ap (λ b. then_some (not b) (no_input path)) (or-true' (is_empty meant))

    pub dyndep-other : (f : GraphFault) → is_empty meant ≡ false → is_among inputs path ≡ false
        → IsFault (Some (no_input path)) f → IsFault (dyndep_not_input file spot inputs text) f
    dyndep-other f some other h =
        subst (λ o. IsFault o f) (sym (ap (dyndep_not_input file spot inputs) (sym gives)
        ∙ ap (λ b. then_some (not (b || is_among inputs path)) (no_input path)) some
        ∙ ap (λ b. then_some (not b) (no_input path)) other)) h
