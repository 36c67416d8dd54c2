-- Small depfiles, worked out on the definitions.
use Rattle.std.proofs.Common.{◌≡◌, Ok, Err, ℕ, List, [], ◌∷◌, ◌++◌, refl}
use Rattle.std.specs.Prelude.{codes}
use Rattle.nj_depfiles.specs.Pieces.{pieces_after}
use Rattle.nj_depfiles.specs.Depfiles.{DepfileModel, depfile_of}
use Rattle.nj_depfiles.specs.declared.depfile_fault.DepfileFault.TheVariants.{InputHasInputs, NoColon}

named : (targets inputs : List (List ℕ)) → DepfileModel
named targets inputs = record { targets = targets; inputs = inputs }

-- what compilers write
one_rule : depfile_of (codes "a.o: a.c a.h" ++ 10 ∷ [])
    ≡ Ok (named (codes "a.o" ∷ []) (codes "a.c" ∷ codes "a.h" ∷ []))
unfolding pieces_after named
one_rule = refl

-- a backslash before the end of a line
two_lines : depfile_of (codes "a.o: a.c " ++ 92 ∷ 10 ∷ codes "  a.h" ++ 10 ∷ [])
    ≡ Ok (named (codes "a.o" ∷ []) (codes "a.c" ∷ codes "a.h" ∷ []))
unfolding pieces_after named
two_lines = refl

-- before CR LF too
two_lines_of_windows : depfile_of (codes "a.o: a.c " ++ 92 ∷ 13 ∷ 10 ∷ codes "  a.h" ++ 13 ∷ 10 ∷ [])
    ≡ Ok (named (codes "a.o" ∷ []) (codes "a.c" ∷ codes "a.h" ∷ []))
unfolding pieces_after named
two_lines_of_windows = refl

-- an escaped space, hash and colon, and a dollar
escapes : depfile_of (codes "a" ++ 92 ∷ codes " b.o: c" ++ 92 ∷ codes "#d e" ++ 92 ∷ codes ":f g$$h")
    ≡ Ok (named (codes "a b.o" ∷ []) (codes "c#d" ∷ codes "e:f" ∷ codes "g$h" ∷ []))
unfolding pieces_after named
escapes = refl

-- three backslashes and a space are one backslash and a space; two are two, and the name ends
backslashes_before_space : depfile_of (codes "a: b" ++ 92 ∷ 92 ∷ 92 ∷ codes " c d" ++ 92 ∷ 92 ∷ codes " e")
    ≡ Ok (named (codes "a" ∷ []) ((codes "b" ++ 92 ∷ codes " c") ∷ (codes "d" ++ 92 ∷ 92 ∷ []) ∷ codes "e" ∷
    []))
unfolding pieces_after named
backslashes_before_space = refl

-- a path of Windows
backslashes_before_letters : depfile_of (codes "a: c:" ++ 92 ∷ codes "d" ++ 92 ∷ 92 ∷ codes "e")
    ≡ Ok (named (codes "a" ∷ []) ((codes "c:" ++ 92 ∷ codes "d" ++ 92 ∷ 92 ∷ codes "e") ∷ []))
unfolding pieces_after named
backslashes_before_letters = refl

-- a backslash before the colon that ends the targets stays
backslash_before_the_colon : depfile_of (codes "a" ++ 92 ∷ codes ": b")
    ≡ Ok (named ((codes "a" ++ 92 ∷ []) ∷ []) (codes "b" ∷ []))
unfolding pieces_after named
backslash_before_the_colon = refl

-- targets of several lines, each with inputs
several_rules : depfile_of (codes "a b: c" ++ 10 ∷ codes "b: d c" ++ 10 ∷ [])
    ≡ Ok (named (codes "a" ∷ codes "b" ∷ []) (codes "c" ∷ codes "d" ∷ []))
unfolding pieces_after named
several_rules = refl

-- an input that is a target without inputs, as `gcc -MP` writes it
phony_targets : depfile_of (codes "a: b c" ++ 10 ∷ codes "b:" ++ 10 ∷ codes "c:" ++ 10 ∷ [])
    ≡ Ok (named (codes "a" ∷ []) (codes "b" ∷ codes "c" ∷ []))
unfolding pieces_after named
phony_targets = refl

-- but with new inputs it is a fault
input_with_inputs : depfile_of (codes "a: b" ++ 10 ∷ codes "b: c" ++ 10 ∷ []) ≡ Err InputHasInputs
unfolding pieces_after
input_with_inputs = refl

-- and with known inputs it is not a fault
input_with_known_inputs : depfile_of (codes "a: b c" ++ 10 ∷ codes "b: c" ++ 10 ∷ [])
    ≡ Ok (named (codes "a" ∷ []) (codes "b" ∷ codes "c" ∷ []))
unfolding pieces_after named
input_with_known_inputs = refl

no_colon : depfile_of (codes "a b") ≡ Err NoColon
unfolding pieces_after
no_colon = refl

-- a colon alone is not a target
a_colon_alone : depfile_of (codes ": a") ≡ Ok (named [] (codes "a" ∷ []))
unfolding pieces_after named
a_colon_alone = refl

nothing : depfile_of [] ≡ Err NoColon
unfolding pieces_after
nothing = refl

-- other signs end a name and are dropped, as a zero byte
other_signs : depfile_of (codes "a: b*c" ++ 0 ∷ codes "d$e")
    ≡ Ok (named (codes "a" ∷ []) (codes "b" ∷ codes "c" ∷ codes "d" ∷ codes "e" ∷ []))
unfolding pieces_after named
other_signs = refl
