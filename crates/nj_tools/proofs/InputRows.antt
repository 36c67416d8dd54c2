-- Worked rows of `inputs`, computed on the definitions.
use Rattle.std.proofs.Common.{◌≡◌, ℕ, List, [], ◌∷◌, ◌++◌, true, false, refl}
use Rattle.std.specs.Prelude.{codes}
use Rattle.nj_text.specs.Quotes.{quoted}
use Rattle.nj_edges.specs.Edges.{EdgePaths}
use Rattle.nj_graph.specs.Graph.{sorted_by, insert_by}
use Rattle.nj_requests.specs.declared.style.InputsStyle.{InputsStyle}
use Rattle.nj_tools.specs.Listings.{plain_style, printed, terminated, printed_strings, needed_inputs}
use Rattle.nj_tools.specs.Listings.{inputs_text}

abbrev build : (output : List ℕ) → (explicit implicit order_only : List (List ℕ)) → EdgePaths
build output explicit implicit order_only = record {
  explicit_outputs = output ∷ [];
  implicit_outputs = [];
  explicit_inputs = explicit;
  implicit_inputs = implicit;
  order_only_inputs = order_only;
  validations = [];
  is_phony = false;
}

-- build a.o: cc z.c | my$ h
-- build app: link a.o || my$ h
abbrev two : List EdgePaths
two = build (codes "a.o") (codes "z.c" ∷ []) (codes "my h" ∷ []) [] ∷ build (codes "app") (codes "a.o" ∷ [])
    [] (codes "my h" ∷ []) ∷ []

abbrev as_needed : InputsStyle
as_needed = record { dependency_order = true; shell_escape = true; zero = false }

abbrev not_escaped : InputsStyle
not_escaped = record { dependency_order = false; shell_escape = false; zero = false }

abbrev raw_paths : InputsStyle
raw_paths = record { dependency_order = true; shell_escape = false; zero = true }

pub row-needed : needed_inputs two (codes "app" ∷ [])
    ≡ codes "z.c" ∷ codes "my h" ∷ codes "a.o" ∷ codes "my h" ∷ []
row-needed = refl

-- ---- one text

pub row-quoted : printed plain_style (codes "my h") ≡ codes "'my h'"
unfolding quoted
row-quoted = refl

pub row-not_quoted : printed not_escaped (codes "my h") ≡ codes "my h"
row-not_quoted = refl

pub row-line : terminated plain_style (codes "a") ≡ codes "a" ++ 10 ∷ []
row-line = refl

pub row-zero : terminated raw_paths (codes "a") ≡ codes "a" ++ 0 ∷ []
row-zero = refl

-- ---- all of them

-- a quote comes before a letter
pub row-plain : inputs_text plain_style two (codes "app" ∷ [])
    ≡ codes "'my h'" ++ 10 ∷ codes "a.o" ++ 10 ∷ codes "z.c" ++ 10 ∷ []
unfolding inputs_text quoted sorted_by insert_by
row-plain = refl

-- and not before it where it is not written
pub row-not_escaped : inputs_text not_escaped two (codes "app" ∷ [])
    ≡ codes "a.o" ++ 10 ∷ codes "my h" ++ 10 ∷ codes "z.c" ++ 10 ∷ []
unfolding inputs_text sorted_by insert_by
row-not_escaped = refl

pub row-as_needed : inputs_text as_needed two (codes "app" ∷ [])
    ≡ codes "z.c" ++ 10 ∷ codes "'my h'" ++ 10 ∷ codes "a.o" ++ 10 ∷ []
unfolding inputs_text quoted
row-as_needed = refl

pub row-raw_paths : inputs_text raw_paths two (codes "app" ∷ [])
    ≡ codes "z.c" ++ 0 ∷ codes "my h" ++ 0 ∷ codes "a.o" ++ 0 ∷ []
unfolding inputs_text
row-raw_paths = refl

-- ---- in the order in which edges are needed

-- build t: mk b z
-- build z: mk s
-- build b: mk q
abbrev three : List EdgePaths
three = build (codes "t") (codes "b" ∷ codes "z" ∷ []) [] [] ∷ build (codes "z") (codes "s" ∷ []) [] [] ∷
    build (codes "b") (codes "q" ∷ []) [] [] ∷ []

pub row-in_byte_order : printed_strings plain_style (needed_inputs three (codes "t" ∷ []))
    ≡ codes "b" ∷ codes "q" ∷ codes "s" ∷ codes "z" ∷ []
unfolding quoted sorted_by insert_by
row-in_byte_order = refl

pub row-in_needed_order : printed_strings as_needed (needed_inputs three (codes "t" ∷ []))
    ≡ codes "q" ∷ codes "s" ∷ codes "b" ∷ codes "z" ∷ []
unfolding quoted
row-in_needed_order = refl
