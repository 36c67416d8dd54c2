-- The words of a command that name files that it reads, and the directory in which it reads them: not files that it writes, and below the
-- directory that `cd` entered.
use Rattle.std.specs.Prelude.{ℕ, ◌==◌, Bool, true, false, nat_eq, nat_le, ◌&&◌, ◌||◌, not, if◌then◌else◌, is_some, List, [], ◌∷◌, ◌++◌, bytes_eq, codes, length, map}
use Rattle.std.specs.List.{ends_with, starts_with}
use Rattle.nj_audit.specs.ShellWords.{TokenModel, tokens_of}
use Rattle.nj_audit.specs.ShellWords.TokenModel.{Word, Operator}
use Rattle.nj_audit.specs.NamedPaths.{SeenName, path_below, seen_from, without_here}
use Rattle.nj_audit.specs.WordNames.{after_sign, word_names}
use Rattle.nj_audit.specs.declared.read_words.Part.{Part}
use Rattle.nj_audit.specs.declared.read_words.Part.TheVariants.{Program, Directory, Copy, Shell, Script, Argument}

-- What is known of the next word: its part in the command, whether the command writes the file that it names, and the directory that `cd`
-- entered before it, empty before the first `cd`.
pub record NextWordModel : Type 0 where
  pub part : Part
  pub is_written : Bool
  pub folder : List ℕ

-- a word begins with `-`
abbrev pub is_option : (word : List ℕ) → Bool
is_option word = starts_with nat_eq word (codes "-")

-- a word is `-o`, which comes before the output
abbrev pub is_output_option : (word : List ℕ) → Bool
is_output_option word = bytes_eq word (codes "-o")

-- a word begins with `-o`: it is `-o`, or has the output in it
abbrev pub names_output : (word : List ℕ) → Bool
names_output word = starts_with nat_eq word (codes "-o")

-- ---- after an operator

-- A command begins. The directory stays the same.
abbrev pub begins_command : NextWordModel → NextWordModel
begins_command next = record { part = Program; is_written = false; folder = next.folder }

-- After `>` the command writes, and after `<` it reads; `>&` and `>|` are like `>`. After any other operator a command begins.
abbrev pub after_operator : NextWordModel → (byte : ℕ) → NextWordModel
after_operator next b =
    if b == 62 then record next { is_written = true }
    else (if b == 60 then record next { is_written = false }
    else (if next.is_written && (b == 38 || b == 124) then next else begins_command next))

-- ---- after a word

-- a word is `cd`
abbrev pub is_cd : (word : List ℕ) → Bool
is_cd word = bytes_eq word (codes "cd")

-- the program `tee` writes the files that it names
abbrev pub is_tee : (program : List ℕ) → Bool
is_tee program = bytes_eq program (codes "tee") || ends_with nat_eq program (codes "/tee")

-- the program is a shell, whose option `-c` takes a command
abbrev pub is_shell : (program : List ℕ) → Bool
is_shell program =
    bytes_eq program (codes "sh") || ends_with nat_eq program (codes "/sh")
    || bytes_eq program (codes "bash") || ends_with nat_eq program (codes "/bash")
    || bytes_eq program (codes "dash") || ends_with nat_eq program (codes "/dash")

-- a word in place of the program sets a variable of the command, as in `CC=gcc make`: the program comes later
abbrev pub is_assignment : (word : List ℕ) → Bool
is_assignment word = not (is_option word) && is_some (after_sign word)

-- the part of the word after a program, or after a word that sets a variable
abbrev pub part_after : (program : List ℕ) → Part
part_after program =
    if is_assignment program then Program
    else (if is_cd program then Directory else (if is_tee program then Copy else (if is_shell program then Shell else Argument)))

-- a word has options of one letter, of which the last is the letter of the given text: `-c` and `-ec` for `c`
abbrev pub ends_in_option : (letter word : List ℕ) → Bool
ends_in_option letter word = is_option word && not (starts_with nat_eq word (codes "--")) && ends_with nat_eq word letter

-- the part of the word after a word of a shell
abbrev pub part_in_shell : (word : List ℕ) → Part
part_in_shell word = if ends_in_option (codes "c") word then Script else (if is_option word then Shell else Argument)

-- the number of bytes that the system allows in a path
abbrev pub longest_path : ℕ
longest_path = 4096

-- the directory after `cd`, as seen from the directory before; `cd` is ignored if the path is too long
abbrev pub entered : (folder name : List ℕ) → List ℕ
entered folder name =
    if nat_le (length (path_below folder (without_here name))) longest_path then path_below folder (without_here name)
    else folder

-- after a word that the command does not write
abbrev pub after_part : Part → NextWordModel → (word : List ℕ) → NextWordModel
after_part Program next word = record next { part = part_after word; is_written = is_output_option word }
after_part Directory next word =
    if is_option word then next else record next { part = Argument; folder = entered next.folder word }
after_part Copy next word = next
after_part Shell next word = record next { part = part_in_shell word; is_written = ends_in_option (codes "o") word }
after_part Script next word = record next { part = Argument }
after_part Argument next word = record next { is_written = is_output_option word }

-- After a word. The word after `-o` is written; after the `-o` of a shell it is no file.
abbrev pub after_word : NextWordModel → (word : List ℕ) → NextWordModel
after_word next word = if next.is_written then record next { is_written = false } else after_part next.part next word

-- ---- which words are read

-- the arguments of `tee`
abbrev pub is_copy : Part → Bool
is_copy Copy = true
is_copy part = false

-- A word may name a file that is read: it does not come after `>` or `-o`, is not an argument of `tee`, and does not begin with `-o`.
abbrev pub is_read : NextWordModel → (word : List ℕ) → Bool
is_read next word = not (next.is_written || is_copy next.part || names_output word)

-- the names in a word, as seen from a directory
abbrev pub names_in_word : (folder word : List ℕ) → List SeenName
names_in_word folder word = map (seen_from folder) (word_names word)

-- the names in the next word, if it is read
abbrev pub names_of_next : NextWordModel → (word : List ℕ) → List SeenName
names_of_next next word = if is_read next word then names_in_word next.folder word else []

-- the names in a token
abbrev pub names_of_token : NextWordModel → TokenModel → List SeenName
names_of_token next (Word word) = names_of_next next word
names_of_token next (Operator b) = []

-- what is known of the next word after a token
abbrev pub after_token : NextWordModel → TokenModel → NextWordModel
after_token next (Word word) = after_word next word
after_token next (Operator b) = after_operator next b

-- the names in the given words and operators; `names` are those in each
abbrev pub names_after : (names : NextWordModel → TokenModel → List SeenName) → NextWordModel → List TokenModel → List SeenName
names_after names next [] = []
names_after names next (token ∷ tokens) = names next token ++ names_after names (after_token next token) tokens

-- what is known of the first word of a command that begins in a directory
abbrev pub first_word : (folder : List ℕ) → NextWordModel
first_word folder = record { part = Program; is_written = false; folder = folder }

-- ---- the command of a shell

-- the argument of a shell's option `-c`
abbrev pub is_script_part : Part → Bool
is_script_part Script = true
is_script_part part = false

-- the next word is a command that a shell is given by `-c`
abbrev pub is_script : NextWordModel → Bool
is_script next = not next.is_written && is_script_part next.part

-- the names in a command that a shell is given, which begins in a directory
abbrev pub script_names : (folder script : List ℕ) → List SeenName
script_names folder script = names_after names_of_token (first_word folder) (tokens_of script)

-- the names in the next word, which may be a command of its own
abbrev pub names_of_word : NextWordModel → (word : List ℕ) → List SeenName
names_of_word next word = if is_script next then script_names next.folder word else names_of_next next word

-- the names in a token, which may be a command of its own
abbrev pub names_within : NextWordModel → TokenModel → List SeenName
names_within next (Word word) = names_of_word next word
names_within next (Operator b) = []

-- the names in the words of a command that the command reads; a command in such a word counts too, but none in a word of that
abbrev pub command_names : (command : List ℕ) → List SeenName
command_names command = names_after names_within (first_word []) (tokens_of command)
