-- Where base directories count, worked out on the definitions.
use Rattle.std.proofs.Common.{◌≡◌, ℕ, List, [], ◌∷◌, ◌++◌, refl}
use Rattle.std.specs.Prelude.{codes, decimal}
use Rattle.nj_keys.specs.Bases.{mapped}

-- one directory, and two, where the first is in front of the second
abbrev one : List (List ℕ)
one = codes "/home/a" ∷ []

abbrev two : List (List ℕ)
two = codes "/home/a" ∷ codes "/home/a/b" ∷ []

-- their tokens before a text
abbrev first : List ℕ → List ℕ
first text = 0 ∷ decimal 0 ++ text

abbrev second : List ℕ → List ℕ
second text = 0 ∷ decimal 1 ++ text

after_letters : mapped one (codes "cc -I/home/a/x") ≡ codes "cc -I" ++ first (codes "/x")
after_letters = refl

at_both_ends : mapped one (codes "/home/a") ≡ first []
at_both_ends = refl

inside_another : mapped one (codes "/mnt/home/a") ≡ codes "/mnt/home/a"
inside_another = refl

longer_names : mapped one (codes "/home/ab /home/a.b") ≡ codes "/home/ab /home/a.b"
longer_names = refl

before_separators : mapped one (codes "--at=/home/a:/home/a,/home/a;x")
    ≡ codes "--at=" ++ first (58 ∷ first (44 ∷ first (codes ";x")))
before_separators = refl

-- -DAT=\"/home/a\", and a directory `a b` whose blank has a `\` before it
before_quote : mapped one (codes "-DAT=" ++ 92 ∷ 34 ∷ codes "/home/a" ++ 92 ∷ 34 ∷ [])
    ≡ codes "-DAT=" ++ 92 ∷ 34 ∷ first (92 ∷ 34 ∷ [])
before_quote = refl

before_blank : mapped one (codes "/home/a" ++ 92 ∷ codes " b") ≡ codes "/home/a" ++ 92 ∷ codes " b"
before_blank = refl

longest_counts : mapped two (codes "/home/a/b/c /home/a/c /home/a/bc")
    ≡ second (codes "/c " ++ first (codes "/c " ++ first (codes "/bc")))
longest_counts = refl

folders_agree : mapped one (codes "cc -c /home/a/x.c")
    ≡ mapped (codes "/mnt/b" ∷ []) (codes "cc -c /mnt/b/x.c")
folders_agree = refl

with_blank : mapped (codes "/home/a b" ∷ []) (codes "cc '/home/a b/x.c'")
    ≡ codes "cc '" ++ first (codes "/x.c'")
with_blank = refl

-- a directory after a letter, a directory that ends with a digit, a repeated directory, and an empty text in
-- place of one
after_letter : mapped (codes "/a" ∷ []) (codes "x/a x/b/a") ≡ codes "x" ++ first (codes " x/b/a")
after_letter = refl

after_digits : mapped (codes "/a1" ∷ []) (codes "/a1/1 /a12 /a1") ≡ first (codes "/1 /a12 " ++ first [])
after_digits = refl

given_twice : mapped (codes "/b" ∷ codes "/a" ∷ codes "/a" ∷ []) (codes "/a/x") ≡ second (codes "/x")
given_twice = refl

empty_folder : mapped ([] ∷ codes "/a" ∷ []) (codes "x /a") ≡ codes "x " ++ second []
empty_folder = refl
