-- Facts of edges, and flags of numbers.
use Rattle.std.proofs.Common.{◌≡◌, ◌<◌, ℕ, ◌+◌, ◌==◌, ◌||◌, Bool, true, false}
use Rattle.std.proofs.Common.{List, [], ◌∷◌, ◌++◌, map, take, length, get_or, set, sym, ap, ap₂, ◌∙◌, arith}
use Rattle.std.specs.List.{list_any, range_with_len}
use Rattle.std.proofs.lemmas.Grind.{common_steps}
use Rattle.std.proofs.lemmas.List.{length-set, map_push, take_more}
use Rattle.std.proofs.lemmas.List.Folds.{list_any-append}
use Rattle.std.proofs.lemmas.List.FromFn.{map-range_with_len_more}
use Rattle.nj_build_log.specs.declared.log_version.LogVersion.{LogVersion}
use Rattle.nj_graph.specs.ReadingList.{ReadStatement}
use Rattle.nj_stale.specs.declared.evidence.EdgeFacts.{EdgeFacts}
use Rattle.nj_state.specs.Facts.{edge_facts, facts_by}
use Rattle.nj_state.specs.Inside.Flags.{AreFlags}

-- a flag after one was set
set-one : (flags : List Bool) (b : Bool) (m n : ℕ) → m < length flags → get_or flags n false ≡ b
    → get_or (set flags m true) n false ≡ (b || (n == m || false))
set-one flags b m n below is = grind (arith, common_steps, is)

-- one more number
pub flags-more : (count : ℕ) (numbers : List ℕ) (flags : List Bool) (m : ℕ) → m < count
    → AreFlags count numbers flags → AreFlags count (numbers ++ m ∷ []) (set flags m true)
flags-more count numbers flags m below held = record {
  count_is = length-set flags m true ∙ held.count_is;
  are = λ n within.
      let counted = held.count_is in
      set-one flags (list_any (λ other. n == other) numbers) m n (omega (arith, counted)) (held.are n within)
      ∙ sym (list_any-append (λ other. n == other) numbers (m ∷ []));
}

pub mapped-more : {X Y : Type 0} (f : X → Y) (items : List X) (i : ℕ) (d : X) → i < length items
    → map f (take i items) ++ f (get_or items i d) ∷ [] ≡ map f (take (i + 1) items)
mapped-more f items i d below = sym (ap (map f) (take_more items i d below)
    ∙ map_push f (take i items) (get_or items i d))

-- the facts of one more edge
pub facts-more : (entries : List ReadStatement) (unknown : List ℕ) (version : LogVersion)
    (facts : List EdgeFacts)
    (number : ℕ) (is_unknown : Bool) (fact : EdgeFacts)
    → is_unknown ≡ list_any (λ other. number == other) unknown
    → fact ≡ facts_by entries version is_unknown number
    → facts ≡ map (edge_facts entries unknown version) (range_with_len 0 number)
    → facts ++ fact ∷ [] ≡ map (edge_facts entries unknown version) (range_with_len 0 (number + 1))
facts-more entries unknown version facts number is_unknown fact same is so_far =
    ap₂ (λ (fs : List EdgeFacts) (f : EdgeFacts). fs ++ f ∷ []) so_far
    (is ∙ ap (λ b. facts_by entries version b number) same)
    ∙ sym (map-range_with_len_more (edge_facts entries unknown version) 0 number number (omega arith))
