-- The definitions, computed on two small graphs.
use Rattle.std.proofs.Common.{◌≡◌, ℕ, Bool, false, Option, Some, None, List, [], ◌∷◌, refl, arith}
use Rattle.std.specs.Prelude.{slice_index_or}
use Rattle.nj_needs.specs.Order.{unfolded_row, order, needed_commands}
use Rattle.nj_needs.specs.Marks.{is_valid, edge_at, rest}
use Rattle.nj_needs.specs.Pages.{ArePages}
use Rattle.nj_needs.specs.Pages.ArePages.{no_runs, ends, stops}
use Rattle.nj_needs.specs.Turns.{turn_bound}

-- edge 0 makes the input of 1 and of 2, and edges 1 and 2 make the inputs of 3
abbrev diamond : ℕ → List (Option ℕ)
diamond e = slice_index_or (([]) ∷ (Some 0 ∷ []) ∷ (Some 0 ∷ []) ∷ (Some 1 ∷ Some 2 ∷ []) ∷ []) e []

abbrev none_phony : ℕ → Bool
none_phony e = false

abbrev last : List (Option ℕ)
last = Some 3 ∷ []

diamond-unfolded : unfolded_row diamond 4 last ≡ 0 ∷ 1 ∷ 0 ∷ 2 ∷ 3 ∷ []
diamond-unfolded = refl

diamond-order : order diamond 4 last ≡ 0 ∷ 1 ∷ 2 ∷ 3 ∷ []
diamond-order = refl

diamond-twice : needed_commands diamond 4 none_phony (Some 3 ∷ None ∷ Some 3 ∷ []) ≡ 0 ∷ 1 ∷ 2 ∷ 3 ∷ []
diamond-twice = refl

diamond-turns : turn_bound diamond 4 last ≡ 9
diamond-turns = refl

at-start : rest diamond 4 none_phony last [] ≡ 0 ∷ 1 ∷ 2 ∷ 3 ∷ []
at-start = refl

at_0_0 : rest diamond 4 none_phony last (0 ∷ 0 ∷ []) ≡ 2 ∷ 3 ∷ []
at_0_0 = refl

at_0 : rest diamond 4 none_phony last (0 ∷ []) ≡ []
at_0 = refl

at_0_1_0 : rest diamond 4 none_phony last (0 ∷ 1 ∷ 0 ∷ []) ≡ 2 ∷ 3 ∷ []
at_0_1_0 = refl

leads_0_1_0 : edge_at diamond last (0 ∷ 1 ∷ 0 ∷ []) ≡ Some 0
leads_0_1_0 = refl

not_0_2 : is_valid diamond last (0 ∷ 2 ∷ []) ≡ false
not_0_2 = refl

not_0_0_0_0 : is_valid diamond last (0 ∷ 0 ∷ 0 ∷ 0 ∷ []) ≡ false
not_0_0_0_0 = refl

not_1 : is_valid diamond last (1 ∷ []) ≡ false
not_1 = refl

-- a run of two edges, then a run of one
two-one : ArePages diamond 4 none_phony last [] (2 ∷ 1 ∷ []) ((0 ∷ 1 ∷ []) ∷ (2 ∷ []) ∷ []) (3 ∷ [])
two-one = stops 2 (3 ∷ []) (0 ∷ 0 ∷ []) refl refl (refl, (0 ∷ [], refl, refl))
    (stops 3 [] (0 ∷ 1 ∷ []) refl refl (refl, (0 ∷ 1 ∷ 0 ∷ [], refl, refl)) (no_runs refl))

-- and a run that ends, though it would take three edges
two-all : ArePages diamond 4 none_phony last [] (2 ∷ 3 ∷ []) ((0 ∷ 1 ∷ []) ∷ (2 ∷ 3 ∷ []) ∷ []) []
two-all = stops 2 (3 ∷ []) (0 ∷ 0 ∷ []) refl refl (refl, (0 ∷ [], refl, refl)) (ends refl (omega arith))

-- `a`; `c: a`; `b1: c`; `b2: c a`; `d: b1 b2`
abbrev five : ℕ → List (Option ℕ)
five e = slice_index_or (([]) ∷ (Some 0 ∷ []) ∷ (Some 1 ∷ []) ∷ (Some 1 ∷ Some 0 ∷ []) ∷
    (Some 2 ∷ Some 3 ∷ []) ∷ []) e []

five-order : order five 5 (Some 4 ∷ []) ≡ 0 ∷ 1 ∷ 2 ∷ 3 ∷ 4 ∷ []
five-order = refl

five-turns : turn_bound five 5 (Some 4 ∷ []) ≡ 12
five-turns = refl

five_0_1_0_0 : rest five 5 none_phony (Some 4 ∷ []) (0 ∷ 1 ∷ 0 ∷ 0 ∷ []) ≡ 3 ∷ 4 ∷ []
five_0_1_0_0 = refl

five_0_1_1 : rest five 5 none_phony (Some 4 ∷ []) (0 ∷ 1 ∷ 1 ∷ []) ≡ 3 ∷ 4 ∷ []
five_0_1_1 = refl

five-past : is_valid five (Some 4 ∷ []) (0 ∷ 1 ∷ 0 ∷ 0 ∷ 0 ∷ []) ≡ false
five-past = refl
