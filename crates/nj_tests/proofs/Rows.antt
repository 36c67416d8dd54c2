-- The definitions, computed on small words and paths.
use Rattle.std.proofs.Common.{◌≡◌, Some, None, [], ◌∷◌, refl}
use Rattle.std.specs.Prelude.{codes}
use Rattle.nj_text.specs.Paths.{clean_path_of, without_leftmost_pair}
use Rattle.nj_tests.specs.Words.{pieces_of, names_of, path_of}

plain_word : pieces_of (codes "a/b") ≡ codes "a/b" ∷ []
plain_word = refl

-- a list in a variable
rests_of_a_list : pieces_of (codes "P=/a:/b")
    ≡ codes "P=/a:/b" ∷ codes "/a:/b" ∷ codes "/b" ∷ codes "P" ∷ codes "/a" ∷ codes "/b" ∷ codes "P" ∷ codes
    "/a"
    ∷ codes "/b" ∷ []
rests_of_a_list = refl

-- the value of an option of one letter, where the option is the whole word and where it follows a sign
attached_value : pieces_of (codes "-Idata") ≡ codes "-Idata" ∷ codes "data" ∷ []
attached_value = refl

response_file : pieces_of (codes "@a.rsp") ≡ codes "@a.rsp" ∷ codes "a.rsp" ∷ []
response_file = refl

-- empty pieces are left out
empty_word : pieces_of [] ≡ []
empty_word = refl

lone_sign : pieces_of (codes "=") ≡ codes "=" ∷ []
lone_sign = refl

-- a word of a script
words_in_a_word : pieces_of (codes "a 'b'")
    ≡ codes "a 'b'" ∷ codes "a 'b'" ∷ codes "a" ∷ codes "b" ∷ []
words_in_a_word = refl

-- ---- paths

in_the_build : path_of (codes "/w/b") None (codes "./t") ≡ codes "/w/b/t"
unfolding clean_path_of without_leftmost_pair
in_the_build = refl

round_the_build : path_of (codes "/w/b") None (codes "../b/t") ≡ codes "/w/b/t"
unfolding clean_path_of without_leftmost_pair
round_the_build = refl

in_a_folder : path_of (codes "/w/b") (Some (codes "s")) (codes "t") ≡ codes "/w/b/s/t"
unfolding clean_path_of without_leftmost_pair
in_a_folder = refl

in_an_absolute_folder : path_of (codes "/w/b") (Some (codes "/s")) (codes "../t") ≡ codes "/t"
unfolding clean_path_of without_leftmost_pair
in_an_absolute_folder = refl

absolute : path_of (codes "/w/b") (Some (codes "s")) (codes "/t") ≡ codes "/t"
unfolding clean_path_of without_leftmost_pair
absolute = refl

of_a_word : names_of (codes "/w") None (codes "-Ia") ≡ codes "/w/-Ia" ∷ codes "/w/a" ∷ []
unfolding clean_path_of without_leftmost_pair
of_a_word = refl
