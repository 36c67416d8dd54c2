-- Numbers, lines and hashes, worked out on the definitions.
use Rattle.std.proofs.Common.{◌≡◌, ◌^◌, ◌-◌, Some, None, [], ◌∷◌, ◌++◌, refl}
use Rattle.std.specs.Prelude.{ℕ, List, Ok, codes, pos, neg_ℤ}
use Rattle.std.specs.Fmt.{digits}
use Rattle.std.specs.Int.{int_wrap}
use Rattle.nj_build_log.specs.Numbers.{int_of, long_of, hash_of}
use Rattle.nj_build_log.specs.Logs.{line_of, version_number, lines_of, build_log_of, logged_lines, entry_of}
use Rattle.nj_build_log.specs.Laws.{with_line, tabbed, written_line}
use Rattle.nj_build_log.specs.Murmur.{murmur_of}
use Rattle.nj_build_log.specs.Rapid.{rapid_of}
use Rattle.nj_build_log.specs.CommandHashes.{command_hash}
use Rattle.nj_build_log.specs.declared.log_version.LogVersion.TheVariants.{Five}

-- ---- numbers, as C reads them

int_past_its_end : int_of (codes "2147483648") ≡ neg_ℤ (pos 2147483648)
unfolding int_wrap
int_past_its_end = refl

int_of_33_bits : int_of (codes " +4294967301x") ≡ pos 5
unfolding int_wrap
int_of_33_bits = refl

long_past_its_end : long_of (codes "-99999999999999999999") ≡ neg_ℤ (pos (2 ^ 63))
long_past_its_end = refl

no_number : long_of (codes "- 5") ≡ pos 0
no_number = refl

hash_with_prefix : hash_of (codes "0X1fG") ≡ 31
hash_with_prefix = refl

negative_hash : hash_of (codes "-1") ≡ 2 ^ 64 - 1
negative_hash = refl

great_hash : hash_of (codes "-10000000000000000") ≡ 2 ^ 64 - 1
great_hash = refl

-- ---- lines

version : version_number (codes "# ninja log v5") ≡ Some 5
version = refl

version_with_more : version_number (codes "# ninja log v5 ") ≡ None
version_with_more = refl

unended : lines_of (codes "a" ++ 10 ∷ codes "b") ≡ codes "a" ∷ []
unended = refl

-- of a log that Ninja 1.11.1 wrote
logged : line_of (codes "0" ++ 9 ∷ codes "17" ++ 9 ∷ codes "1796008948066910939" ++ 9 ∷ codes "a.o"
    ++ 9 ∷ codes "9390d6fd3ddc2105")
    ≡ Some (record {
      output = codes "a.o";
      entry = record {
        start = pos 0;
        end = pos 17;
        time = pos 1796008948066910939;
        hash =
            0x9390d6fd3ddc2105;
      };
    })
unfolding int_wrap
logged = refl

three_tabs : line_of (codes "0" ++ 9 ∷ codes "17" ++ 9 ∷ codes "1" ++ 9 ∷ codes "a.o") ≡ None
three_tabs = refl

-- that Ninja wrote
written : written_line 0 17 1796008948066910939 (codes "a.o") 0x9390d6fd3ddc2105
    ≡ tabbed (codes "0") (codes "17") (codes "1796008948066910939") (codes "a.o") (codes "9390d6fd3ddc2105")
unfolding digits
written = refl

-- ---- a line after a log

abbrev one_line_log : List ℕ
one_line_log = with_line (codes "# ninja log v5" ++ 10 ∷ [])
    (tabbed (codes "0") (codes "17") (codes "5") (codes "a.o") (codes "ff"))

-- the last line of an output counts
pub last_line : build_log_of (with_line one_line_log
    (tabbed (codes "18") (codes "20") (codes "6") (codes "a.o") (codes "a")))
    ≡ Ok (record {
      version = Some Five;
      lines =
          record {
            output = codes "a.o";
            entry =
                record { start = pos 0; end = pos 17; time = pos 5; hash = 255 };
          }
          ∷ record {
            output = codes "a.o";
            entry =
                record { start = pos 18; end = pos 20; time = pos 6; hash = 10 };
          }
          ∷ [];
    })
unfolding int_wrap
last_line = refl

entry_of_last_line : entry_of (logged_lines
    (with_line (with_line [] (tabbed (codes "0") (codes "17") (codes "5") (codes "a.o") (codes "ff")))
    (tabbed (codes "18") (codes "20") (codes "6") (codes "a.o") (codes "a")))) (codes "a.o")
    ≡ Some (record { start = pos 18; end = pos 20; time = pos 6; hash = 10 })
unfolding int_wrap
entry_of_last_line = refl

without_end : build_log_of (one_line_log
    ++ tabbed (codes "18") (codes "20") (codes "6") (codes "a.o") (codes "a")) ≡ build_log_of one_line_log
without_end = refl

with_three_tabs : build_log_of (with_line one_line_log (codes "18" ++ 9 ∷ codes "20" ++ 9 ∷ codes "6"
    ++ 9 ∷ codes "a.o")) ≡ build_log_of one_line_log
with_three_tabs = refl

-- ---- hashes of commands in that log

of_command : command_hash Five (codes "cp in a.o && true") [] ≡ 0x9390d6fd3ddc2105
of_command = refl

of_response_file : command_hash Five (codes "cp in b.o && true @b.o.rsp")
    (codes "in in2 in" ++ 10 ∷ codes "in2") ≡ 0xe6ebee7b5265d11e
of_response_file = refl

-- ---- hashes of texts of various lengths, which two programs computed from the published algorithms

murmur-0 : murmur_of (codes "") ≡ 0x87c2bc0beaf1d91d
murmur-0 = refl

murmur-1 : murmur_of (codes "c") ≡ 0x85882d4f1a244776
murmur-1 = refl

murmur-7 : murmur_of (codes "cc -Wal") ≡ 0x36f5794430bd67fc
murmur-7 = refl

murmur-8 : murmur_of (codes "cc -Wall") ≡ 0x6b0eec6dc2934030
murmur-8 = refl

murmur-17 : murmur_of (codes "cc -Wall -O2 -Iin") ≡ 0xc2efc5ed93b5a370
murmur-17 = refl

murmur-100 : murmur_of (codes
    "cc -Wall -O2 -Iinclude -c -o obj/long_name.o src/long_name.c && touch stamp && echo done with all of")
    ≡ 0xb8b672a919574c9f
murmur-100 = refl

rapid-0 : rapid_of (codes "") ≡ 0x5a6ef77074ebc84b
rapid-0 = refl

rapid-1 : rapid_of (codes "c") ≡ 0x337c5ea019662178
rapid-1 = refl

rapid-3 : rapid_of (codes "cc ") ≡ 0xc6896aec7fd204c1
rapid-3 = refl

rapid-4 : rapid_of (codes "cc -") ≡ 0x52b3d640963d9f01
rapid-4 = refl

rapid-7 : rapid_of (codes "cc -Wal") ≡ 0x25a8285a274e6ea1
rapid-7 = refl

rapid-8 : rapid_of (codes "cc -Wall") ≡ 0xd80140fb542d929b
rapid-8 = refl

rapid-16 : rapid_of (codes "cc -Wall -O2 -Ii") ≡ 0xdd4eebc05a45f6c3
rapid-16 = refl

rapid-17 : rapid_of (codes "cc -Wall -O2 -Iin") ≡ 0xa37582221a89b34c
rapid-17 = refl

rapid-32 : rapid_of (codes "cc -Wall -O2 -Iinclude -c -o obj") ≡ 0xef8fdd368b092d9
rapid-32 = refl

rapid-33 : rapid_of (codes "cc -Wall -O2 -Iinclude -c -o obj/") ≡ 0x4fa575f3dd38b300
rapid-33 = refl

rapid-48 : rapid_of (codes "cc -Wall -O2 -Iinclude -c -o obj/long_name.o src") ≡ 0x5ab99b667360734a
rapid-48 = refl

rapid-49 : rapid_of (codes "cc -Wall -O2 -Iinclude -c -o obj/long_name.o src/") ≡ 0xde12ef0ec3b625c4
rapid-49 = refl

rapid-96 : rapid_of (codes
    "cc -Wall -O2 -Iinclude -c -o obj/long_name.o src/long_name.c && touch stamp && echo done with al")
    ≡ 0xfdc8c4f1327acebc
rapid-96 = refl

rapid-100 : rapid_of (codes
    "cc -Wall -O2 -Iinclude -c -o obj/long_name.o src/long_name.c && touch stamp && echo done with all of")
    ≡ 0xcfa68dea5ecac980
rapid-100 = refl
