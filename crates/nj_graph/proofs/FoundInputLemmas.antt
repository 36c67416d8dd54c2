-- Lemmas on the joining of inputs that were discovered.
use Rattle.std.proofs.lemmas.Grind.{common_steps}
use Rattle.std.proofs.Common.{◌≡◌, ◌≢◌, ◌<◌, ◌⊎◌, inl, inr, ℕ, true, false, nat_eq, Option, Some, None, List}
use Rattle.std.proofs.Common.{◌++◌, drop, length, take, option_map, set, slice_get}
use Rattle.std.proofs.Common.{slice_index_or, sym, ap, subst, ◌∙◌, arith}
use Rattle.std.proofs.lemmas.Bool.Decides.{eqb_tells}
use Rattle.std.proofs.lemmas.Grind.{get_or-set_at}
use Rattle.std.proofs.lemmas.List.{get_or-set_other, length-map, length-set}
use Rattle.std.proofs.lemmas.Option.{same_Some, slice_get-get_or, slice_get-map}
use Rattle.nj_names.specs.NameTables.{name_at}
use Rattle.nj_discovered.specs.Discoveries.{DiscoveriesModel, discovery_at}
use Rattle.nj_edges.specs.MoreInputs.{InputTable, with_new_input}
use Rattle.nj_graph.specs.Inside.InputSteps.{AreFilesOf, AreNamed, inputs_found, paths_found}
use Rattle.nj_graph.proofs.InputLemmas.{files-kept}

-- ---- named inputs

pub found-named : (d : DiscoveriesModel) → AreNamed (λ edge. (discovery_at d edge).inputs) (inputs_found d)
found-named d n below =
    slice_get-map (paths_found d) d.edges n
    ∙ ap (option_map (paths_found d)) (slice_get-get_or d.edges n _
    (subst (λ k. n < k) (length-map d.edges (paths_found d)) below))

-- ---- the files of paths

module _ (paths : List (List ℕ)) (t : InputTable) (numbers : List (Option ℕ))
    (are : AreFilesOf paths t.table.files numbers) (path : List ℕ) where
  pub files-later : AreFilesOf paths (with_new_input t path).table.files numbers
  files-later = record {
    count = are.count;
    each =
        λ n file at. files-kept t path file (name_at paths n) (are.each n file at);
  }

  pub files-more : (number file : ℕ) → number < length paths
      → slice_get (with_new_input t path).table.files file ≡ Some path → path ≡ name_at paths number
      → AreFilesOf paths (with_new_input t path).table.files (set numbers number (Some file))
  files-more number file below at is = record
      { count = length-set numbers number (Some file) ∙ are.count; each = each }
    where
      each : (n f : ℕ) → slice_index_or (set numbers number (Some file)) n None ≡ Some f
          → slice_get (with_new_input t path).table.files f ≡ Some (name_at paths n)
      each n f here = by (eqb_tells n number)
        where
          by : (nat_eq n number ≡ true × (n ≡ number)) ⊎ (nat_eq n number ≡ false × (n ≢ number))
              → slice_get (with_new_input t path).table.files f ≡ Some (name_at paths n)
          by (inl same) =
              let own : Some file ≡ Some f = sym
              (get_or-set_at numbers number n (Some file) None same.1
              (subst (λ k. number < k) (sym are.count) below)) ∙ here in
              subst (λ k. slice_get (with_new_input t path).table.files k ≡ Some (name_at paths n))
              (same_Some file f own) (at ∙ ap Some is ∙ ap (λ k. Some (name_at paths k)) (sym same.1))
          by (inr apart) = files-later.each n f
              (sym (get_or-set_other numbers number n (Some file) None apart.1) ∙ here)

-- ---- a vector whose items were lent

pub written-back : {A : Type 0} (n : ℕ) (new old : List A) → length old ≡ length new → n ≡ length new
    → take n (new ++ drop (length new) old) ≡ new
written-back n new old same is = grind (arith, common_steps)
