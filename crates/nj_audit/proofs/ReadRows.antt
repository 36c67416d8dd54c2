-- Names that small commands read, worked out on the definitions.
use Rattle.std.proofs.Common.{◌≡◌, [], ◌∷◌, ◌++◌, Some, None, codes, map, refl}
use Rattle.nj_text.specs.Paths.{clean_path_of, without_leftmost_pair}
use Rattle.nj_audit.specs.NamedPaths.{path_seen, seen_from}
use Rattle.nj_audit.specs.ReadWords.{command_names}
use Rattle.nj_audit.specs.ShellWords.{read_text, tokens_after, tokens_of}

-- what comes after `>`, `>>` and `2>` is written
outputs : command_names (codes "gen a>b 2> c >>d <e")
    ≡ map (seen_from []) (codes "gen" ∷ codes "a" ∷ codes "2" ∷ codes "e" ∷ [])
unfolding tokens_of read_text tokens_after
outputs = refl

-- and what comes after `-o`, or is joined to it
options : command_names (codes "cc -o a.o -ob.o c.c")
    ≡ map (seen_from []) (codes "cc" ∷ codes "c.c" ∷ [])
unfolding tokens_of read_text tokens_after
options = refl

copies : command_names (codes "gen | tee -a b c && use d")
    ≡ map (seen_from []) (codes "gen" ∷ codes "tee" ∷ codes "use" ∷ codes "d" ∷ [])
unfolding tokens_of read_text tokens_after
copies = refl

-- a comment ends with its line
comments : command_names (codes "gen a#b # it's c" ++ 10 ∷ codes "use '#d'")
    ≡ map (seen_from []) (codes "gen" ∷ codes "a#b" ∷ codes "use" ∷ codes "#d" ∷ [])
unfolding tokens_of read_text tokens_after
comments = refl

-- two directories add up
directories : command_names (codes "cd sub && gen a; cd ../b && use")
    ≡ seen_from [] (codes "cd") ∷ seen_from [] (codes "sub") ∷ seen_from (codes "sub") (codes "gen")
    ∷ seen_from (codes "sub") (codes "a") ∷ seen_from (codes "sub") (codes "cd")
    ∷ seen_from (codes "sub") (codes "../b") ∷ seen_from (codes "sub/../b") (codes "use") ∷ []
unfolding tokens_of read_text tokens_after
directories = refl

-- the command of a shell begins in its directory, and its own `cd` does not outlast it
scripts : command_names (codes "cd s && sh -ec 'cd t && use a >b' c")
    ≡ seen_from [] (codes "cd") ∷ seen_from [] (codes "s") ∷ seen_from (codes "s") (codes "sh")
    ∷ seen_from (codes "s") (codes "-ec") ∷ seen_from (codes "s") (codes "c")
    ∷ seen_from (codes "s") (codes "cd") ∷ seen_from (codes "s") (codes "t")
    ∷ seen_from (codes "s/t") (codes "use") ∷ seen_from (codes "s/t") (codes "a")
    ∷ seen_from (codes "s") (codes "c") ∷ []
unfolding tokens_of read_text tokens_after
scripts = refl

-- the name after a shell's `-o` is that of an option
shell_options : command_names (codes "bash -euo pipefail --norc -c 'use a'")
    ≡ map (seen_from []) (codes "bash" ∷ codes "-euo" ∷ codes "uo" ∷ codes "--norc" ∷ codes "norc"
    ∷ codes "-c" ∷ [] ∷ codes "use" ∷ codes "a" ∷ [])
unfolding tokens_of read_text tokens_after
shell_options = refl

above : path_seen (codes "/w") (seen_from (codes "sub") (codes "../a.h")) ≡ Some (codes "a.h")
unfolding clean_path_of without_leftmost_pair
above = refl

in_folder : path_seen (codes "/w") (seen_from (codes "/w/sub") (codes "b.h")) ≡ Some (codes "sub/b.h")
unfolding clean_path_of without_leftmost_pair
in_folder = refl

absolute : path_seen (codes "/w") (seen_from (codes "sub") (codes "/w/b.h")) ≡ Some (codes "b.h")
unfolding clean_path_of without_leftmost_pair
absolute = refl

nothing : path_seen (codes "/w") (seen_from (codes "sub") []) ≡ None
nothing = refl

-- `$PWD` is the directory in which a command reads the name
below_here : path_seen (codes "/w") (seen_from (codes "sub") (codes "$PWD/a.h")) ≡ Some (codes "sub/a.h")
unfolding clean_path_of without_leftmost_pair
below_here = refl

in_braces : path_seen (codes "/w") (seen_from [] (codes "${PWD}/a.h")) ≡ Some (codes "a.h")
unfolding clean_path_of without_leftmost_pair
in_braces = refl

-- a command in quotes; outside them a parenthesis ends a word
by_command : path_seen (codes "/w") (seen_from (codes "sub") (codes "$(pwd)/a.h")) ≡ Some (codes "sub/a.h")
unfolding clean_path_of without_leftmost_pair
by_command = refl
