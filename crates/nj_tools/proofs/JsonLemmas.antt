-- The output of `compdb`, read by the grammar of JSON.
use Rattle.std.proofs.Common.{◌≡◌, ℕ, ◌≤◌, Some, option_and_then, List, [], ◌∷◌, ◌++◌, refl, sym, ap, ap₂}
use Rattle.std.proofs.Common.{◌∙◌, append_assoc, append-nil, codes, flat_map, map, arith}
use Rattle.std.specs.Prelude.{take_while}
use Rattle.json.specs.Json.{Json, array, if_last, max_depth, value, document}
use Rattle.json.specs.Lex.{Lexeme, token, comma, colon, string_token, lex, between, in_string, fresh}
use Rattle.json.specs.Lex.{after_value, punctuate, tokens}
use Rattle.json.specs.Print.{escape}
use Rattle.json.specs.Text.{content, plain}
use Rattle.json.specs.Token.{begin_object, end_object, begin_array, end_array, string}
use Rattle.json.specs.Tree.{json_tokens, items_tokens, items_depth}
use Rattle.json.proofs.OnLiterals.{json_on_literals}
use Rattle.json.proofs.Printed.Strings.{content-escape, lex-escape}
use Rattle.json.proofs.Printed.Trees.{value-json_tokens}
use Rattle.nj_tools.specs.Lines.{line}
use Rattle.nj_tools.specs.Inside.CompdbHeld.{end_text}
use Rattle.nj_tools.specs.Compdb.{Compilation, is_text, json_string, object_text, objects_text, listed_edges}
use Rattle.nj_tools.specs.Compdb.{compilation_of, held_before, compdb_text}
use Rattle.nj_tools.specs.CompdbJson.{object_of, objects_of, CompdbIsJson}
use Rattle.nj_tools.proofs.CompdbLemmas.{held-front}

-- ---- from bytes to lexemes

-- a string, after the quote that opens it
string-read : (s r : List ℕ) → token (string_token (content plain (escape s ++ 34 ∷ r))) ∷ lex in_string
    (escape s ++ 34 ∷ r) ≡ token (string s) ∷ lex between r
string-read s r = ap₂ (λ o ls. token (string_token o) ∷ ls) (content-escape s r) (lex-escape s r)

abbrev member : (key value : List ℕ) → List Lexeme → List Lexeme
member key value others = token (string key) ∷ colon ∷ token (string value) ∷ others

abbrev object_lexemes : (directory : List ℕ) → Compilation → List Lexeme → List Lexeme
object_lexemes directory c others =
    token begin_object ∷ member (codes "directory") directory
    (comma ∷ member (codes "command") c.command (comma ∷ member (codes "file") c.file
    (comma ∷ member (codes "output") c.output (token end_object ∷ others))))

module _ (directory : List ℕ) (c : Compilation) (r : List ℕ) where
  abbrev after_output : List ℕ
  after_output = codes "\n  }" ++ r

  abbrev after_file : List ℕ
  after_file = codes ",\n    \"output\": \"" ++ (escape c.output ++ 34 ∷ after_output)

  abbrev after_command : List ℕ
  after_command = codes ",\n    \"file\": \"" ++ (escape c.file ++ 34 ∷ after_file)

  abbrev after_directory : List ℕ
  after_directory = codes ",\n    \"command\": \"" ++ (escape c.command ++ 34 ∷ after_command)

  -- an object, whatever follows it
  object-parts : object_text (json_string directory) c ++ r
      ≡ codes "  {\n    \"directory\": \"" ++ (escape directory ++ 34 ∷ after_directory)
  unfolding object_text
  object-parts = simp append_assoc

  lex-object : lex between (object_text (json_string directory) c ++ r)
      ≡ object_lexemes directory c (lex between r)
  unfolding json_on_literals
  lex-object =
      ap (lex between) object-parts
      ∙ ap (λ ls. token begin_object ∷ token (string (codes "directory")) ∷ colon ∷ ls)
      (string-read directory after_directory)
      ∙ ap (λ ls. token begin_object ∷ member (codes "directory") directory
      (comma ∷ token (string (codes "command")) ∷ colon ∷ ls)) (string-read c.command after_command)
      ∙ ap (λ ls. token begin_object ∷ member (codes "directory") directory
      (comma ∷ member (codes "command") c.command (comma ∷ token (string (codes "file")) ∷ colon ∷ ls)))
      (string-read c.file after_file)
      ∙ ap (λ ls. token begin_object ∷ member (codes "directory") directory
      (comma ∷ member (codes "command") c.command
      (comma ∷ member (codes "file") c.file (comma ∷ token (string (codes "output")) ∷ colon ∷ ls))))
      (string-read c.output after_output)

module _ (directory : List ℕ) where
  abbrev later : Compilation → List ℕ
  later c = 44 ∷ 10 ∷ object_text (json_string directory) c

  abbrev later_lexemes : List Compilation → List Lexeme → List Lexeme
  later_lexemes [] others = others
  later_lexemes (c ∷ cs) others = comma ∷ object_lexemes directory c (later_lexemes cs others)

  lex-later : (cs : List Compilation) (r : List ℕ)
      → lex between (flat_map later cs ++ r) ≡ later_lexemes cs (lex between r)
  unfolding json_on_literals
  lex-later [] r = refl
  lex-later (c ∷ cs) r =
      ap (λ t. lex between (44 ∷ 10 ∷ t)) (append_assoc (object_text (json_string directory) c)
      (flat_map later cs) r)
      ∙ ap (λ ls. comma ∷ ls) (lex-object directory c (flat_map later cs ++ r)
      ∙ ap (object_lexemes directory c) (lex-later cs r))

  -- ---- from lexemes to tokens

  abbrev array_text : List Compilation → List ℕ
  array_text cs = codes "[" ++ objects_text (json_string directory) cs ++ 10 ∷ line (codes "]")

  tokens-later : (cs : List Compilation)
      → punctuate after_value (later_lexemes cs (token end_array ∷ []))
      ≡ items_tokens (objects_of directory cs)
  unfolding json_on_literals
  tokens-later [] = refl
  tokens-later (c ∷ cs) = ap (λ ts. json_tokens (object_of directory c) ++ ts) (tokens-later cs)

  tokens-are : (cs : List Compilation) → tokens (array_text cs)
      ≡ json_tokens (array (objects_of directory cs))
  unfolding json_on_literals objects_text
  tokens-are [] = refl
  tokens-are (c ∷ cs) =
      let end : List ℕ = codes "\n]\n" in
      let lexed : lex between ((object_text (json_string directory) c ++ flat_map later cs) ++ end)
      ≡ object_lexemes directory c (later_lexemes cs (token end_array ∷ [])) =
      ap (lex between) (append_assoc (object_text (json_string directory) c) (flat_map later cs) end)
      ∙ lex-object directory c (flat_map later cs ++ end) ∙ ap (object_lexemes directory c) (lex-later cs end)
      in
      ap (λ ls. punctuate fresh (token begin_array ∷ ls)) lexed
      ∙ ap (λ ts. begin_array ∷ (json_tokens (object_of directory c) ++ ts)) (tokens-later cs)

  -- ---- from tokens to the value

  depth-objects : (cs : List Compilation) → items_depth (objects_of directory cs) ≤ 1
  depth-objects [] = omega arith
  depth-objects (c ∷ cs) = omega (arith, depth-objects cs)

  is-json : (cs : List Compilation) → document (array_text cs) ≡ Some (array (objects_of directory cs))
  is-json cs =
      let j : Json = array (objects_of directory cs) in
      ap (λ ts. option_and_then (λ p. if_last p.0 p.1) (value max_depth ts))
      (tokens-are cs ∙ sym (append-nil (json_tokens j)))
      ∙ ap (option_and_then (λ p. if_last p.0 p.1))
      (value-json_tokens j max_depth [] (omega (arith, depth-objects cs)))

pub compdb_is_json : CompdbIsJson
unfolding compdb_text
compdb_is_json entries directory rules expand none =
    let edges = listed_edges entries rules in
    let held : held_before entries rules expand ≡ map (compilation_of entries expand) edges =
    ap (λ es. take_while is_text (map (compilation_of entries expand) es)) (sym (append-nil edges))
    ∙ held-front entries rules expand edges [] none ∙ append-nil (map (compilation_of entries expand) edges)
    in
    ap document (ap₂ (λ cs end. codes "[" ++ objects_text (json_string directory) cs ++ end) held
    (ap end_text none))
    ∙ is-json directory (map (compilation_of entries expand) edges)
