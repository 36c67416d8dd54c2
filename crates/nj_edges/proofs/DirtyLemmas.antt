-- How the edges that are to be built again are found.
use Rattle.std.proofs.Common.{◌≡◌, ◌<◌, ◌≤◌, ◌+◌, ◌↔◌, inl, inr, ℕ, Bool, true, false, List, []}
use Rattle.std.proofs.Common.{length, refl, sym, ap, subst, ◌∙◌, arith}
use Rattle.std.specs.Prelude.{Contains, slice_index}
use Rattle.std.proofs.lemmas.Bool.{cases_lt}
use Rattle.nj_names.specs.NumberSets.{NumberSetModel}
use Rattle.nj_cycles.proofs.Places.{contains_at, index_of}
use Rattle.nj_edges.specs.declared.users.RowPart.{RowPart}
use Rattle.nj_edges.specs.declared.users.RowPart.TheVariants.{CountedInputs, Inputs, Outputs, Validations}
use Rattle.nj_edges.specs.Dirty.{IsDirty, OtherEdgesAreUntouched, has_counted_input_of, has_output_of}
use Rattle.nj_edges.specs.Dirty.IsDirty.{by_edge, by_input, by_itself, by_output}
use Rattle.nj_edges.specs.Edges.{EdgePaths, edge_at, outputs_of}
use Rattle.nj_edges.specs.Inside.ChangesHeld.{FindsMore}
use Rattle.nj_edges.specs.Inside.DirtyHeld.{FindsDirty, HasOneIn, paths_in}

-- ---- the law

unless-true : (b : Bool) → (b ≡ true → ⊥) → b ≡ false
unless-true true never = absurd (never refl)
unless-true false never = refl

pub other-edges-are-untouched : OtherEdgesAreUntouched
other-edges-are-untouched edges files dirty edge clean = record {
  not_by_itself = λ has. clean (by_itself has);
  outputs = unless-true (has_output_of files (edge_at edges edge)) (λ has. clean (by_output has));
  inputs = unless-true (has_counted_input_of files (edge_at edges edge)) (λ has. clean (by_input has));
  inputs_of_dirty = λ f is. unless-true (has_counted_input_of (outputs_of (edge_at edges f))
      (edge_at edges edge)) (λ has. clean (by_edge has is));
}

-- ---- a part of an edge

-- the inputs that are not order-only come first
pub none-in : (part : RowPart) → paths_in part (edge_at [] 0) ≡ []
none-in Inputs = refl
none-in CountedInputs = refl
none-in Outputs = refl
none-in Validations = refl

-- ---- turn by turn

module _ (edges : List EdgePaths) (files : List (List ℕ)) (dirty : List ℕ) where
  pub finding-begins : (none given made new : NumberSetModel)
      → none ≡ record { limit = length edges; numbers = [] } → FindsMore (Contains dirty) none given
      → FindsMore (HasOneIn Outputs edges files) given made
      → FindsMore (HasOneIn CountedInputs edges files) made new → FindsDirty edges files dirty new 0
  finding-begins none given made new empty a b c = record {
    limit = c.limit ∙ b.limit ∙ a.limit ∙ ap (λ s. s.limit) empty;
    within = omega arith;
    sound = λ e is. elim (c.fresh e is) [
      | inl before ↦ elim (b.fresh e before) [
        | inl first ↦ elim (a.fresh e first) [
          | inl start ↦ absurd (contains-none e
              (subst (λ (ns : List ℕ). Contains ns e) (ap (λ (s : NumberSetModel). s.numbers) empty) start))
          | inr listed ↦ by_itself listed
        ]
        | inr makes ↦ by_output makes
      ]
      | inr has ↦ by_input has
    ];
    listed = λ e is. c.kept e (b.kept e (a.all e is));
    makers = λ e is. c.kept e (b.all e is);
    users = c.all;
    closed = λ i e below. absurd (omega (arith, below));
  }
    where
      contains-none : (e : ℕ) → Contains [] e → ⊥
      contains-none e is = absurd (omega (arith, is.1))

  pub finding-continues : (old new : NumberSetModel) (place : ℕ) → place < length old.numbers
      → FindsDirty edges files dirty old place
      → FindsMore (HasOneIn CountedInputs edges (outputs_of (edge_at edges (slice_index old.numbers place))))
      old new → FindsDirty edges files dirty new (place + 1)
  finding-continues old new place below held finds = record {
    limit = finds.limit ∙ held.limit;
    within = omega (arith, below, finds.longer);
    sound = λ e is. elim (finds.fresh e is) [
      | inl before ↦ held.sound e before
      | inr has ↦ by_edge has (held.sound (slice_index old.numbers place)
          (contains_at old.numbers place (slice_index old.numbers place) below refl))
    ];
    listed = λ e is. finds.kept e (held.listed e is);
    makers = λ e is. finds.kept e (held.makers e is);
    users = λ e is. finds.kept e (held.users e is);
    closed = λ i e within has. elim (cases_lt i place) [
      | inl before ↦ finds.kept e (held.closed i e before
          (subst (λ n. HasOneIn CountedInputs edges (outputs_of (edge_at edges n)) e)
          (finds.stays i (omega (arith, before, held.within))) has))
      | inr after ↦
          let same : i ≡ place = omega (arith, within, after) in
          finds.all e (subst (λ n. HasOneIn CountedInputs edges (outputs_of (edge_at edges n)) e)
          (ap (slice_index new.numbers) same ∙ finds.stays place below) has)
    ];
  }

  -- at the end nothing is missing
  module _ (found : NumberSetModel) (place : ℕ) (past : length found.numbers ≤ place)
      (held : FindsDirty edges files dirty found place) where
    all-found : (e : ℕ) → IsDirty edges files dirty e → Contains found.numbers e
    all-found _ (by_itself {e = e} is) = held.listed e is
    all-found _ (by_output {e = e} has) = held.makers e has
    all-found _ (by_input {e = e} has) = held.users e has
    all-found _ (by_edge {e = e} {f = f} has is) =
        let at = index_of found.numbers f (all-found f is) in
        held.closed at.0 e (omega (arith, at.1, past))
        (subst (λ n. HasOneIn CountedInputs edges (outputs_of (edge_at edges n)) e) (sym at.2) has)

    pub finding-ends : (e : ℕ) → Contains found.numbers e ↔ IsDirty edges files dirty e
    finding-ends e = (held.sound e, all-found e)
