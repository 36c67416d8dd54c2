-- Lemmas on the properties of a test of CTest.
use Rattle.std.proofs.Common.{◌≡◌, ◌≤◌, List, [], ◌∷◌, map, length, get_or, sym, ap, arith}
use Rattle.std.specs.Prelude.{Option, Some, None, String, string_bytes, bytes_eq, codes, not}
use Rattle.std.specs.declared.alloc.Global.{Global}
use Rattle.serde_json.specs.Data.{Data}
use Rattle.serde_json.specs.View.{view}
use Rattle.serde_json.specs.declared.value.Value.{Value}
use denote.Bor.{Bor}
use Rattle.nj_test_lists.specs.CTest.{is_available}

-- the value that was found, if any
abbrev pub found_values : Option (Bor Value) → List Data
found_values None = []
found_values (Some value) = view value.now ∷ []

pub first-available : (words : List (String Global)) (program : String Global) → 1 ≤ length words
    → program ≡ get_or words 0 program
    → is_available (map string_bytes words) ≡ not (bytes_eq (string_bytes program) (codes "NOT_AVAILABLE"))
first-available [] program some is = absurd (omega arith)
first-available (word ∷ words) program some is =
    ap (λ p. not (bytes_eq (string_bytes p) (codes "NOT_AVAILABLE"))) (sym is)
