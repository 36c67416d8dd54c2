-- The definitions, computed on small texts and paths.
use Rattle.std.proofs.Common.{◌≡◌, [], ◌∷◌, ◌++◌, refl}
use Rattle.std.specs.Prelude.{codes}
use Rattle.nj_text.specs.Paths.{clean_path_of, without_leftmost_pair}
use Rattle.nj_changes.specs.FullPaths.{full_path, sought}
use Rattle.nj_changes.specs.Given.{lines_of, zero_ended}

-- ---- what a text lists

-- a line ends in LF or CR LF, and the last one may lack its end
lines : lines_of (codes "a" ++ 13 ∷ 10 ∷ codes "b" ++ 10 ∷ 10 ∷ 13 ∷ 10 ∷ codes "c")
    ≡ codes "a" ∷ codes "b" ∷ codes "c" ∷ []
lines = refl

-- a CR elsewhere is of the path, and so are all but the last of several
returns : lines_of (13 ∷ codes "a" ++ 13 ∷ 13 ∷ 10 ∷ []) ≡ (13 ∷ codes "a" ++ 13 ∷ []) ∷ []
returns = refl

-- a path that ends in a zero byte is verbatim
zeros : zero_ended (codes "a" ++ 13 ∷ 0 ∷ 0 ∷ 34 ∷ codes "b" ++ 10 ∷ 0 ∷ codes "c")
    ≡ (codes "a" ++ 13 ∷ []) ∷ (34 ∷ codes "b" ++ 10 ∷ []) ∷ codes "c" ∷ []
zeros = refl

-- ---- full paths

below : full_path (codes "/p/build") (codes "gen.h") ≡ codes "/p/build/gen.h"
unfolding clean_path_of without_leftmost_pair
below = refl

above : full_path (codes "/p/build") (codes "../inc/./h.h") ≡ codes "/p/inc/h.h"
unfolding clean_path_of without_leftmost_pair
above = refl

above_the_root : full_path (codes "/p/build") (codes "../../../x") ≡ codes "/x"
unfolding clean_path_of without_leftmost_pair
above_the_root = refl

absolute : full_path (codes "/p/build") (codes "/p/./inc//h.h") ≡ codes "/p/inc/h.h"
unfolding clean_path_of without_leftmost_pair
absolute = refl

-- where the working directory is not known
unknown : full_path [] (codes "../inc/h.h") ≡ codes "../inc/h.h"
unfolding clean_path_of without_leftmost_pair
unknown = refl

in_directories : sought (codes "/p/build") (codes ".." ∷ codes "/s" ∷ []) (codes "h.h")
    ≡ codes "/p/h.h" ∷ codes "/s/h.h" ∷ []
unfolding clean_path_of without_leftmost_pair
in_directories = refl
