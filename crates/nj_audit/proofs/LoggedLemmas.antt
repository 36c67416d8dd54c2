-- Inputs that a deps log names, one by one.
use Rattle.std.proofs.Common.{◌≡◌, ◌&&◌, ◌++◌, ◌∷◌, ◌↔◌, Bool, true, false, cond, Option, Some, None, List}
use Rattle.std.proofs.Common.{[], ℕ, length, map, refl, sym, ap, subst, ◌∙◌, append-nil, append_assoc}
use Rattle.std.proofs.Common.{true≢false}
use Rattle.std.specs.Prelude.{nat_lt, not}
use Rattle.std.specs.List.{cons_option}
use Rattle.nj_scope.specs.ReadingList.{ReadStatement}
use Rattle.nj_graph.specs.Edges.{maker_of}
use Rattle.nj_graph.specs.Graph.{GraphModel, edges_of, files_of}
use Rattle.nj_graph.specs.Undeclared.{AreThose, InputOfEdge, input_of_edge}
use Rattle.nj_graph.specs.Undeclared.AreThose.{none, has_it, lacks_it}
use Rattle.nj_graph.specs.declared.undeclared.UndeclaredInput.{UndeclaredInput as LoggedInput}
use Rattle.nj_audit.specs.Findings.{FindingModel}
use Rattle.nj_audit.specs.LoggedInputs.{AreFoundIf, IsLoggedAlone, IsNamedUnordered, finding_of_input}
use Rattle.nj_audit.specs.LoggedInputs.{input_in}
use Rattle.nj_audit.specs.Roles.{makes_opened}
use Rattle.nj_audit.specs.UnorderedFiles.{is_looked_at}
use Rattle.nj_audit.specs.Inside.LoggedFound.{AddsLogged}
use Rattle.nj_audit.specs.declared.kinds.Kind.TheVariants.{UndeclaredInput}
use Rattle.nj_audit.proofs.KindLemmas.{AreOf, of-none, of-undeclared}
use Rattle.nj_audit.proofs.ListLemmas.{map-append}

module _ (g : GraphModel) (entries : List ReadStatement) (folder : List ℕ) where
  abbrev IsNew : InputOfEdge → Type 0
  IsNew input = IsLoggedAlone g entries folder input

  pub logged-none : (base : List FindingModel) → AddsLogged g entries folder [] base base
  logged-none base = record { others = []; are_others = none; found = sym (append-nil base) }

  module _ (input : InputOfEdge) (old new : List FindingModel) where
    pub logged-one : (b : Bool) → (b ≡ true) ↔ IsLoggedAlone g entries folder input
        → new ≡ old ++ cond b (finding_of_input g input ∷ []) []
        → AddsLogged g entries folder (input ∷ []) old new
    logged-one true alone is = record {
      others = input ∷ [];
      are_others = has_it (alone.0 refl) none;
      found = is;
    }
    logged-one false alone is = record {
      others = [];
      are_others = lacks_it (λ was. true≢false (sym (alone.1 was))) none;
      found = is;
    }

  module _ (more others : List InputOfEdge) (are : AreThose IsNew more others) where
    those-then : (items those : List InputOfEdge) → AreThose IsNew items those
        → AreThose IsNew (items ++ more) (those ++ others)
    those-then _ _ none = are
    those-then _ _ (has_it is rest) = has_it is (those-then _ _ rest)
    those-then _ _ (lacks_it is rest) = lacks_it is (those-then _ _ rest)

  -- the findings of some inputs, and then those of more
  module _ (logged more : List InputOfEdge) (base old new : List FindingModel) where
    pub logged-then : AddsLogged g entries folder logged base old → AddsLogged g entries folder more old new
        → AddsLogged g entries folder (logged ++ more) base new
    logged-then first then = record {
      others = first.others ++ then.others;
      are_others = those-then more then.others then.are_others logged first.others first.are_others;
      found = then.found
          ∙ ap (λ (t : List FindingModel). t ++ map (finding_of_input g) then.others) first.found
          ∙ append_assoc base (map (finding_of_input g) first.others)
          (map (finding_of_input g) then.others)
          ∙ ap (λ (t : List FindingModel). base ++ t)
          (sym (map-append (finding_of_input g) first.others then.others));
    }

-- ---- whether a log alone names an input

module _ (g : GraphModel) (entries : List ReadStatement) (folder : List ℕ) (input : InputOfEdge) where
  abbrev TellsAlone : Bool → Type 0
  TellsAlone b = (b ≡ true) ↔ IsLoggedAlone g entries folder input

  pub alone-unlooked : is_looked_at g entries input.edge ≡ false → TellsAlone false
  alone-unlooked unlooked = (
    λ is. absurd (true≢false (sym is)),
    λ alone. absurd (true≢false (sym alone.is_looked_at ∙ unlooked)),
  )

  pub alone-in-manifest : makes_opened g (maker_of (edges_of g) input.path) ≡ true → TellsAlone false
  alone-in-manifest made = (
    λ is. absurd (true≢false (sym is)),
    λ alone. absurd (true≢false (sym made ∙ alone.is_no_manifest)),
  )

  pub alone-tells : is_looked_at g entries input.edge ≡ true
      → makes_opened g (maker_of (edges_of g) input.path) ≡ false → (named : Bool)
      → (named ≡ true) ↔ IsNamedUnordered g entries folder input → TellsAlone (not named)
  alone-tells looked other true named = (
    λ is. absurd (true≢false (sym is)),
    λ alone. absurd (alone.is_new (named.0 refl)),
  )
  alone-tells looked other false named = (
    λ is. record {
      is_looked_at = looked;
      is_no_manifest = other;
      is_new = λ was. true≢false (sym (named.1 was));
    },
    λ alone. refl,
  )

-- ---- whether an input is in the graph

same-some : {X : Type 0} (y x : X) → Some y ≡ Some x → y ≡ x
same-some y x is = cc

pub is-there : {X : Type 0} (b : Bool) (x y : X) → Some y ≡ cond b (Some x) None → (b ≡ true) × (y ≡ x)
is-there true x y is = (refl, same-some y x is)
is-there false x y is = absurd cc

pub is-missing : {X : Type 0} (b : Bool) (x : X) → None ≡ cond b (Some x) None → b ≡ false
is-missing true x is = absurd cc
is-missing false x is = refl

module _ (g : GraphModel) (input : LoggedInput) where
  abbrev has-edge : Bool
  has-edge = nat_lt input.edge.0 (length (edges_of g))

  abbrev has-file : Bool
  has-file = nat_lt input.file.0 (length (files_of g))

  in-both : (edge file : Bool) → has-edge ≡ edge → has-file ≡ file
      → input_in g input ≡ cond (edge && file) (Some (input_of_edge (files_of g) input)) None
  in-both edge file edge-is file-is =
      ap (λ b. cond (b && has-file) (Some (input_of_edge (files_of g) input)) None) edge-is
      ∙ ap (λ b. cond (edge && b) (Some (input_of_edge (files_of g) input)) None) file-is

  module _ (entries : List ReadStatement) (folder : List ℕ) (old new : List FindingModel) where
    abbrev Adds : Option InputOfEdge → List FindingModel → Type 0
    Adds found now = AddsLogged g entries folder (cons_option found []) old now

    pub edge-missing : has-edge ≡ false → Adds (input_in g input) old
    edge-missing edge = subst (λ found. Adds found old) (sym (in-both false has-file edge refl))
        (logged-none g entries folder old)

    pub file-missing : has-edge ≡ true → has-file ≡ false → Adds (input_in g input) old
    file-missing edge file = subst (λ found. Adds found old) (sym (in-both true false edge file))
        (logged-none g entries folder old)

    pub both-there : has-edge ≡ true → has-file ≡ true → (b : Bool)
        → (b ≡ true) ↔ IsLoggedAlone g entries folder (input_of_edge (files_of g) input)
        → new ≡ old ++ cond b (finding_of_input g (input_of_edge (files_of g) input) ∷ []) []
        → Adds (input_in g input) new
    both-there edge file b alone is = subst (λ found. Adds found new) (sym (in-both true true edge file))
        (logged-one g entries folder (input_of_edge (files_of g) input) old new b alone is)

-- ---- inputs that are searched for

pub of-undeclared-if : (asked : Bool) (g : GraphModel) (entries : List ReadStatement) (folder : List ℕ)
    (logged : List InputOfEdge)
    (found : List FindingModel) → AreFoundIf asked g entries folder logged found → AreOf UndeclaredInput found
of-undeclared-if true g entries folder logged found are = of-undeclared g entries folder logged found are
of-undeclared-if false g entries folder logged found are = subst (AreOf UndeclaredInput) (sym are) of-none
