-- Lemmas on parts of lists.
use Rattle.std.proofs.Common.{◌≡◌, ◌≤◌, ◌-◌, ℕ, List, [], ◌++◌, length, take, drop, slice_range, ap, ◌∙◌}
use Rattle.std.proofs.Common.{arith, append-nil, length-take, length-drop}
use Rattle.std.proofs.Math.ListN.{drop_of_length-le}
use Rattle.std.proofs.lemmas.List.{take_all}

pub length-range : {A : Type 0} (items : List A) (start end : ℕ) → start ≤ end → end ≤ length items
    → length (slice_range items start end) ≡ end - start
length-range items start end rise within = simp (length-take, length-drop) (omega arith)

-- the contents of a vector after it was borrowed as a slice
pub lent-back : {A : Type 0} (len : ℕ) (new old : List A) → len ≡ length old → length new ≡ length old
    → take len (new ++ drop (length new) old) ≡ new
lent-back len new old is same =
    let rest : drop (length new) old ≡ [] = drop_of_length-le old (omega arith) in
    ap (λ xs. take len (new ++ xs)) rest ∙ ap (take len) (append-nil new) ∙ take_all len new (omega arith)
