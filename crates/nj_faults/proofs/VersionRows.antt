-- Small examples, worked out on the definitions: versions.
use Rattle.std.proofs.Common.{◌≡◌, true, false, refl}
use Rattle.std.specs.Prelude.{codes}
use Rattle.nj_text.specs.Numbers.{version_pair_of}
use Rattle.nj_faults.specs.Versions.{reader_version, reader_version_text, is_newer}

-- the text consists of the two numbers
text_of_version : version_pair_of reader_version_text ≡ reader_version
text_of_version = refl

same : is_newer (codes "1.12") ≡ false
same = refl

same_with_a_third_part : is_newer (codes "1.12.9") ≡ false
same_with_a_third_part = refl

older : is_newer (codes "1.8.2") ≡ false
older = refl

newer : is_newer (codes "1.13") ≡ true
newer = refl

newer_major : is_newer (codes "2") ≡ true
newer_major = refl

newer_major_of_a_lower_minor : is_newer (codes "2.0") ≡ true
newer_major_of_a_lower_minor = refl
