-- Small commands with response files, worked out on the definitions.
use Rattle.std.proofs.Common.{◌≡◌, Some, None, [], refl}
use Rattle.std.specs.Prelude.{codes}
use Rattle.nj_graph.specs.ResponseFiles.{first_position, sign_position, with_content}

-- ---- where the sign is

first_of_two : first_position (codes "ab") (codes "aabab") ≡ Some 1
first_of_two = refl

nowhere : first_position (codes "ab") (codes "ba") ≡ None
nowhere = refl

at_the_end : first_position (codes "a") (codes "ba") ≡ Some 1
at_the_end = refl

empty_part : first_position [] (codes "ld") ≡ Some 0
empty_part = refl

empty_part_of_nothing : first_position [] [] ≡ Some 0
empty_part_of_nothing = refl

sign_is_found : sign_position (codes "ld @p.rsp") (codes "p.rsp") ≡ Some 3
sign_is_found = refl

-- ---- commands

-- without the sign and the name; line feeds in the content are spaces
content_for_the_name : with_content (codes "ld @p.rsp \"p\"") (codes "p.rsp") (codes "a\nb")
    ≡ codes "ld a b \"p\""
content_for_the_name = refl

-- only the first occurrence counts
first_has_no_sign : with_content (codes "ld p.rsp @p.rsp") (codes "p.rsp") (codes "a")
    ≡ codes "ld p.rsp @p.rsp"
first_has_no_sign = refl

later_ones_stay : with_content (codes "ld @p.rsp @p.rsp") (codes "p.rsp") (codes "a") ≡ codes "ld a @p.rsp"
later_ones_stay = refl

first_is_in_a_longer_name : with_content (codes "ld up.rsp @p.rsp") (codes "p.rsp") (codes "a")
    ≡ codes "ld up.rsp @p.rsp"
first_is_in_a_longer_name = refl

no_name : with_content (codes "ld p") (codes "p.rsp") (codes "a") ≡ codes "ld p"
no_name = refl

empty_file : with_content (codes "@ ld") [] (codes "a") ≡ codes "@ ld"
empty_file = refl

name_at_the_start : with_content (codes "p.rsp @p.rsp") (codes "p.rsp") (codes "a") ≡ codes "p.rsp @p.rsp"
name_at_the_start = refl

sign_at_the_start : with_content (codes "@p.rsp p") (codes "p.rsp") (codes "a") ≡ codes "a p"
sign_at_the_start = refl

empty_content : with_content (codes "ld @p.rsp p") (codes "p.rsp") [] ≡ codes "ld  p"
empty_content = refl

empty_command : with_content [] (codes "p.rsp") (codes "a") ≡ []
empty_command = refl
