-- Words and paths of small commands, worked out on the definitions.
use Rattle.std.proofs.Common.{◌≡◌, true, false, Some, [], ◌∷◌, ◌++◌, codes, refl}
use Rattle.nj_text.specs.Paths.{clean_path_of, without_leftmost_pair}
use Rattle.nj_audit.specs.NamedPaths.{path_named}
use Rattle.nj_audit.specs.ShellWords.{read_text, tokens_after, tokens_of, words_of}
use Rattle.nj_audit.specs.WordNames.{is_bare, word_names}

blanks : words_of (codes "  cc -c  a.c  -o a.o ")
    ≡ codes "cc" ∷ codes "-c" ∷ codes "a.c" ∷ codes "-o" ∷ codes "a.o" ∷ []
unfolding tokens_of read_text tokens_after
blanks = refl

operators : words_of (codes "(./gen<in>out)&&mv out a;:|tee")
    ≡ codes "./gen" ∷ codes "in" ∷ codes "out" ∷ codes "mv" ∷ codes "out" ∷ codes "a" ∷ codes ":" ∷ codes
    "tee" ∷ []
unfolding tokens_of read_text tokens_after
operators = refl

-- quotes are taken off, and the text between them is of one word
quotes : words_of (codes "'a b'c \"d;e\"'f' '' \"\"") ≡ codes "a bc" ∷ codes "d;ef" ∷ []
unfolding tokens_of read_text tokens_after
quotes = refl

backslashes : words_of (codes "a\\ b 'c\\' \"d\\$\\e\\\\\"")
    ≡ codes "a b" ∷ codes "c\\" ∷ codes "d$\\e\\" ∷ []
unfolding tokens_of read_text tokens_after
backslashes = refl

-- a line that goes on after a backslash
long_line : words_of (codes "a\\" ++ 10 ∷ codes "b" ++ 10 ∷ codes "c") ≡ codes "ab" ∷ codes "c" ∷ []
unfolding tokens_of read_text tokens_after
long_line = refl

-- ---- paths

of_option : word_names (codes "--out=./a//b")
    ≡ codes "--out=./a//b" ∷ codes "out=./a//b" ∷ codes "./a//b" ∷ codes "--out" ∷ codes "out"
    ∷ codes "./a//b" ∷ []
of_option = refl

of_letter : word_names (codes "-Lb") ≡ codes "-Lb" ∷ codes "b" ∷ []
of_letter = refl

of_response : word_names (codes "@a.rsp") ≡ codes "@a.rsp" ∷ codes "a.rsp" ∷ []
of_response = refl

of_linker : word_names (codes "-Wl,-T,a.ld")
    ≡ codes "-Wl,-T,a.ld" ∷ codes "l,-T,a.ld" ∷ codes "-Wl" ∷ codes "l" ∷ codes "-T" ∷ []
    ∷ codes "a.ld" ∷ []
of_linker = refl

of_list : word_names (codes "a.h:b.h;c.h")
    ≡ codes "a.h:b.h;c.h" ∷ codes "a.h" ∷ codes "b.h" ∷ codes "c.h" ∷ []
of_list = refl

-- names that may be words of another meaning
bare : is_bare (codes "clean") ≡ true
bare = refl

below : is_bare (codes "out/clean") ≡ false
below = refl

dotted : is_bare (codes "a.o") ≡ false
dotted = refl

a_name : path_named [] (codes "./a//b") ≡ Some (codes "a/b")
unfolding clean_path_of without_leftmost_pair
a_name = refl

in_folder : path_named (codes "/home/a") (codes "/home/a/x/../b") ≡ Some (codes "b")
unfolding clean_path_of without_leftmost_pair
in_folder = refl

beside_folder : path_named (codes "/home/a") (codes "/home/ab") ≡ Some (codes "/home/ab")
unfolding clean_path_of without_leftmost_pair
beside_folder = refl

no_folder : path_named [] (codes "/b") ≡ Some (codes "/b")
unfolding clean_path_of without_leftmost_pair
no_folder = refl
