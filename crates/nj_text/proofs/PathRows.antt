-- Worked rows of clean paths, computed on the definitions.
use Rattle.std.proofs.Common.{◌≡◌, refl}
use Rattle.std.specs.Prelude.{codes}
use Rattle.nj_text.specs.Paths.{clean_path_of, without_leftmost_pair}

pub slashes_and_dots : clean_path_of (codes "foo//.//..///bar") ≡ codes "bar"
unfolding clean_path_of without_leftmost_pair
slashes_and_dots = refl

up_from_a_relative_path : clean_path_of (codes "./x/../foo/../../bar.h") ≡ codes "../bar.h"
unfolding clean_path_of without_leftmost_pair
up_from_a_relative_path = refl

nothing_left : clean_path_of (codes "a/..") ≡ codes "."
unfolding clean_path_of without_leftmost_pair
nothing_left = refl

up_from_the_root : clean_path_of (codes "/..") ≡ codes "/"
unfolding clean_path_of without_leftmost_pair
up_from_the_root = refl

slash_at_the_end : clean_path_of (codes "foo/") ≡ codes "foo"
unfolding clean_path_of without_leftmost_pair
slash_at_the_end = refl

root : clean_path_of (codes "/") ≡ codes "/"
unfolding clean_path_of without_leftmost_pair
root = refl

two_slashes : clean_path_of (codes "//") ≡ codes "/"
unfolding clean_path_of without_leftmost_pair
two_slashes = refl

up : clean_path_of (codes "..") ≡ codes ".."
unfolding clean_path_of without_leftmost_pair
up = refl

up_and_up : clean_path_of (codes "../..") ≡ codes "../.."
unfolding clean_path_of without_leftmost_pair
up_and_up = refl

one_up_too_many : clean_path_of (codes "a/../..") ≡ codes ".."
unfolding clean_path_of without_leftmost_pair
one_up_too_many = refl

here : clean_path_of (codes ".") ≡ codes "."
unfolding clean_path_of without_leftmost_pair
here = refl

a_clean_path : clean_path_of (codes "src/a.c") ≡ codes "src/a.c"
unfolding clean_path_of without_leftmost_pair
a_clean_path = refl

a_clean_absolute_path : clean_path_of (codes "/usr/lib") ≡ codes "/usr/lib"
unfolding clean_path_of without_leftmost_pair
a_clean_absolute_path = refl

dots_in_names : clean_path_of (codes ".a/..b/...") ≡ codes ".a/..b/..."
unfolding clean_path_of without_leftmost_pair
dots_in_names = refl

nested_pairs : clean_path_of (codes "a/b/../../c") ≡ codes "c"
unfolding clean_path_of without_leftmost_pair
nested_pairs = refl

up_below_the_root : clean_path_of (codes "/../a/../../b") ≡ codes "/b"
unfolding clean_path_of without_leftmost_pair
up_below_the_root = refl
