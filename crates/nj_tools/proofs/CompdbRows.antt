-- Small compilation databases, worked out on the definitions.
use Rattle.std.proofs.Common.{◌≡◌, ℕ, true, false, List, [], ◌∷◌, ◌++◌, refl}
use Rattle.std.specs.Prelude.{codes}
use Rattle.std.specs.Char.{encode_utf8}
use Rattle.std.specs.Str.{chars, is_utf8}
use Rattle.serde_json.proofs.OnLiterals.{serde_json_on_literals}
use Rattle.nj_tools.specs.Lines.{line}
use Rattle.nj_tools.specs.Compdb.{Compilation, is_chosen, is_text, json_string, object_text, objects_text}

-- ---- which edges

without_names : is_chosen [] (codes "cc") ≡ true
without_names = refl

named : is_chosen (codes "ld" ∷ codes "cc" ∷ codes "ld" ∷ []) (codes "cc") ≡ true
named = refl

not_named : is_chosen (codes "ld" ∷ codes "c" ∷ []) (codes "cc") ≡ false
not_named = refl

-- ---- objects

abbrev directory : List ℕ
directory = codes "\"/w\""

-- echo "\"
abbrev echo : Compilation
echo = record { command = codes "echo \"\\\""; file = codes "in"; output = codes "out" }

abbrev echo_text : List ℕ
echo_text =
    line (codes "  {")
    ++ line (codes "    \"directory\": \"/w\",")
    ++ line (codes "    \"command\": \"echo \\\"\\\\\\\"\",")
    ++ line (codes "    \"file\": \"in\",")
    ++ line (codes "    \"output\": \"out\"")
    ++ codes "  }"

directory_in_json : json_string (codes "/w") ≡ directory
unfolding serde_json_on_literals
directory_in_json = refl

quote_and_backslash : object_text directory echo ≡ echo_text
unfolding object_text serde_json_on_literals
quote_and_backslash = refl

no_objects : objects_text directory [] ≡ []
unfolding objects_text
no_objects = refl

one_object : objects_text directory (echo ∷ []) ≡ 10 ∷ echo_text
unfolding objects_text object_text serde_json_on_literals
one_object = refl

two_objects : objects_text directory (echo ∷ echo ∷ [])
    ≡ 10 ∷ (echo_text ++ codes "," ++ (10 ∷ []) ++ echo_text)
unfolding objects_text object_text serde_json_on_literals
two_objects = refl

-- ---- strings that JSON can contain

letters_are_text : is_text echo ≡ true
unfolding chars is_utf8 encode_utf8
letters_are_text = refl

no_text : is_text (record { command = codes "cc"; file = 255 ∷ []; output = codes "out" }) ≡ false
unfolding chars is_utf8 encode_utf8
no_text = refl
