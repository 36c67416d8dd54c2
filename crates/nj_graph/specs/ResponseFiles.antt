-- Commands without their response files ("Rule variables" in the Ninja manual, `rspfile`): a command that names its response file
-- after an `@` reads as if the contents of that file stood there.
use Rattle.std.specs.Prelude.{ℕ, zero, suc, ◌+◌, ◌==◌, if◌then◌else◌, Option, Some, None, option_map, option_and_then, List, [], ◌∷◌, ◌++◌}
use Rattle.std.specs.Prelude.{map, length, take, drop, slice_index, codes, nat_eq}
use Rattle.std.specs.List.{starts_with}
use Rattle.std.specs.Option.{option_map_or}
use Rattle.nj_scope.specs.ReadingList.{ReadStatement}
use Rattle.nj_graph.specs.Graph.{late_text_of}

-- the position in a text at which a part of it first occurs; an empty part occurs at the start
abbrev pub first_position : (part text : List ℕ) → Option ℕ
first_position part [] = if starts_with nat_eq [] part then Some 0 else None
first_position part (byte ∷ text) =
    if starts_with nat_eq (byte ∷ text) part then Some 0 else option_map (λ n. n + 1) (first_position part text)

-- the position of an `@` directly before a position; 64 is `@`
abbrev pub sign_before : (command : List ℕ) → (position : ℕ) → Option ℕ
sign_before command zero = None
sign_before command (suc before) = if slice_index command before == 64 then Some before else None

-- the position of the `@` directly before the first occurrence of the file's name
abbrev pub sign_position : (command file : List ℕ) → Option ℕ
sign_position command file = option_and_then (sign_before command) (first_position file command)

-- with a space for each line feed
abbrev pub on_one_line : List ℕ → List ℕ
on_one_line text = map (λ byte. if byte == 10 then 32 else byte) text

-- with the content in place of the sign and the name of the file
abbrev pub with_content : (command file content : List ℕ) → List ℕ
with_content command file content =
    option_map_or (λ sign. take sign command ++ on_one_line content ++ drop (sign + 1 + length file) command)
    (sign_position command file) command

-- the command of the edge with the given number
abbrev pub command_with_rsp_of : List ReadStatement → (number : ℕ) → List ℕ
command_with_rsp_of entries number =
    with_content (late_text_of entries number (codes "command")) (late_text_of entries number (codes "rspfile"))
    (late_text_of entries number (codes "rspfile_content"))
