-- The definitions, computed on small patterns and paths.
use Rattle.std.proofs.Common.{◌≡◌, inl, inr, ℕ, true, false, [], ◌∷◌, refl}
use Rattle.std.specs.Prelude.{codes}
use Rattle.nj_globs.specs.declared.parts.ByteRange.{ByteRange}
use Rattle.nj_globs.specs.declared.glob_fault.GlobFault.TheVariants.{UnclosedSet, BackslashAtEnd}
use Rattle.nj_globs.specs.declared.glob_fault.GlobFault.TheVariants.{ReversedRange}
use Rattle.nj_globs.specs.Globs.{is_in_set, StandsFor, Matches}
use Rattle.nj_globs.specs.Globs.GlobPart.{one_byte, star, double_star, directories, byte_set}
use Rattle.nj_globs.specs.Patterns.{letter, letters_from, ArePartsOf, IsGlobFault}
use Rattle.nj_globs.proofs.FormLemmas.{begins-forth, wrong-forth}

-- ---- letters

escape-letters : letters_from 0 (codes "a\\*b")
    ≡ letter 97 false 0 ∷ letter 42 true 1 ∷ letter 98 false 3 ∷ []
escape-letters = refl

-- an escaped `\` is not lone
two_backslashes-letters : letters_from 0 (codes "\\\\") ≡ letter 92 true 0 ∷ []
two_backslashes-letters = refl

lone-fault : IsGlobFault (codes "ab\\") (BackslashAtEnd 2)
lone-fault = refl

-- ---- parts

range : ℕ → ℕ → ByteRange
range low high = record { low = low; high = high }

-- `**/` where a directory begins
directories-parts : ArePartsOf (codes "a/**/b") (one_byte 97 ∷ one_byte 47 ∷ directories ∷ one_byte 98 ∷ [])
directories-parts = record {
  whole = refl;
  begins_rest = false;
  are_parts = (
    letters_from 1 (codes "/**/b"),
    (letter 97 false 0, refl, refl, refl),
    (
      letters_from 2 (codes "**/b"),
      (letter 47 false 1, refl, refl, refl),
      (
        letters_from 5 (codes "b"),
        (letter 42 false 2, letter 42 false 3, letter 47 false 4, refl, refl, refl, refl, refl),
        ([], (letter 98 false 5, refl, refl, refl), (refl, refl)),
      ),
    ),
  );
}

-- `**/` elsewhere
name-parts : ArePartsOf (codes "a**/") (one_byte 97 ∷ double_star ∷ one_byte 47 ∷ [])
name-parts = record {
  whole = refl;
  begins_rest = true;
  are_parts = (
    letters_from 1 (codes "**/"),
    (letter 97 false 0, refl, refl, refl),
    (
      letters_from 3 (codes "/"),
      (letter 42 false 1, letter 42 false 2, refl, refl, refl, refl),
      ([], (letter 47 false 3, refl, refl, refl), (refl, refl)),
    ),
  );
}

negated-parts : ArePartsOf (codes "[!]a-c-]")
    (byte_set true (range 93 93 ∷ range 97 99 ∷ range 45 45 ∷ []) ∷ [])
unfolding range
negated-parts = record {
  whole = refl;
  begins_rest = false;
  are_parts = (
    [],
    begins-forth true (letter 91 false 0) (letters_from 1 (codes "!]a-c-]")) []
        (byte_set true (range 93 93 ∷ range 97 99 ∷ range 45 45 ∷ [])) refl,
    (refl, refl),
  );
}

unclosed-fault : IsGlobFault (codes "a[]") (UnclosedSet 1)
unclosed-fault = record {
  whole = refl;
  parts = one_byte 97 ∷ [];
  rest = letters_from 1 (codes "[]");
  begins_rest = false;
  before = (letters_from 1 (codes "[]"), (letter 97 false 0, refl, refl, refl), (refl, refl));
  wrong = wrong-forth false (letter 91 false 1) (letters_from 2 (codes "]")) (UnclosedSet 1) refl;
}

reversed-fault : IsGlobFault (codes "[a-cz-x]") (ReversedRange 4)
reversed-fault = record {
  whole = refl;
  parts = [];
  rest = letters_from 0 (codes "[a-cz-x]");
  begins_rest = true;
  before = (refl, refl);
  wrong = wrong-forth true (letter 91 false 0) (letters_from 1 (codes "a-cz-x]")) (ReversedRange 4) refl;
}

-- ---- paths

no_directories-match : Matches (directories ∷ one_byte 120 ∷ []) (codes "x")
no_directories-match = ([], codes "x", refl, inl refl, (codes "x", [], refl, (120, refl, refl), refl))

two_directories-match : Matches (directories ∷ one_byte 120 ∷ []) (codes "a/b/x")
two_directories-match =
    (codes "a/b/", codes "x", refl, inr (codes "a/b", refl), (codes "x", [], refl, (120, refl, refl), refl))

star-name : StandsFor star (codes "ab.c")
star-name = refl

star-slash : StandsFor star (codes "a/b") → ⊥
star-slash h = cc

negated-slash : is_in_set true (range 97 99 ∷ []) 47 ≡ false
negated-slash = refl

wide-slash : is_in_set false (range 0 255 ∷ []) 47 ≡ false
wide-slash = refl
