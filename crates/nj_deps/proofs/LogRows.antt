-- Small logs, worked out on the definitions.
use Rattle.std.proofs.Common.{◌≡◌, ◌+◌, true, List, [], ◌∷◌, ◌++◌, length, refl, ap, arith, length-append}
use Rattle.std.specs.Prelude.{codes}
use Rattle.std.specs.List.{flat_map}
use Rattle.nj_deps.specs.LogRecords.{LogRecord, word, bytes_of, content_of, kind_bit, path_in}
use Rattle.nj_deps.specs.LogRecords.LogRecord.{path, dependencies}
use Rattle.nj_deps.specs.Logs.{CountInTurn, EndsBefore, IsLogOf, paths_of, outputs_of, opening}
use Rattle.nj_deps.proofs.WordLemmas.{length-word}

-- ---- two paths, and the inputs of the first one

two_paths : List LogRecord
two_paths = path (97 ∷ 0 ∷ 0 ∷ 0 ∷ []) 4294967295 ∷ path (98 ∷ 98 ∷ 0 ∷ 0 ∷ []) 4294967294 ∷ dependencies 0 7
    1 (1 ∷ []) ∷ []

two_paths_as_bytes : flat_map bytes_of two_paths
    ≡ 8 ∷ 0 ∷ 0 ∷ 0 ∷ 97 ∷ 0 ∷ 0 ∷ 0 ∷ 255 ∷ 255 ∷ 255 ∷ 255
    ∷ 8 ∷ 0 ∷ 0 ∷ 0 ∷ 98 ∷ 98 ∷ 0 ∷ 0 ∷ 254 ∷ 255 ∷ 255 ∷ 255
    ∷ 16 ∷ 0 ∷ 0 ∷ 128 ∷ 0 ∷ 0 ∷ 0 ∷ 0 ∷ 7 ∷ 0 ∷ 0 ∷ 0 ∷ 1 ∷ 0 ∷ 0 ∷ 0 ∷ 1 ∷ 0 ∷ 0 ∷ 0 ∷ []
unfolding word two_paths
two_paths_as_bytes = refl

opening_as_bytes : opening 4 ≡ codes "# ninjadeps" ++ 10 ∷ 4 ∷ 0 ∷ 0 ∷ 0 ∷ []
unfolding word
opening_as_bytes = refl

their_paths : paths_of two_paths ≡ codes "a" ∷ codes "bb" ∷ []
unfolding two_paths
their_paths = refl

their_outputs : outputs_of two_paths ≡ record { output = 0; time = 4294967303; inputs = 1 ∷ [] } ∷ []
unfolding two_paths
their_outputs = refl

they_count : CountInTurn [] two_paths
unfolding word two_paths
they_count = (
  record {
    size = omega arith;
    fits = record
        { number = refl; may_be_named = (λ e. (let none = ap length e in omega arith), refl); is_new = refl };
  },
  (
    record {
      size = omega arith;
      fits = record {
        number = refl;
        may_be_named = (λ e. (let none = ap length e in omega arith), refl);
        is_new =
            refl;
      };
    },
    (
      record {
        size = omega arith;
        fits = record {
          output_known = omega arith;
          low_fits = omega arith;
          high_fits = omega arith;
          inputs_known =
              (omega arith, tt);
        };
      },
      tt,
    ),
  ),
)

nothing_follows : EndsBefore (paths_of two_paths) []
nothing_follows r more counts e =
    let none = ap length e in
    omega (
      arith,
      length-append (bytes_of r) more,
      length-append (word (kind_bit r + length (content_of r))) (content_of r),
      length-word (kind_bit r + length (content_of r)),
    )

their_log : IsLogOf (opening 4 ++ (flat_map bytes_of two_paths ++ []))
    (record {
      paths = codes "a" ∷ codes "bb" ∷ [];
      outputs =
          record { output = 0; time = 4294967303; inputs = 1 ∷ [] } ∷ [];
      size = 60;
      is_whole = true;
    })
unfolding word two_paths
their_log = record {
  records = two_paths;
  rest = [];
  cut = refl;
  in_turn = they_count;
  ends = nothing_follows;
  paths = refl;
  outputs = refl;
  size = refl;
  is_whole = refl;
}

-- ---- parts of logs

-- at most three zero bytes are taken off
four_zeros : path_in (97 ∷ 0 ∷ 0 ∷ 0 ∷ 0 ∷ []) ≡ 97 ∷ 0 ∷ []
four_zeros = refl

only_zeros : path_in (0 ∷ 0 ∷ []) ≡ []
only_zeros = refl

zero_inside : path_in (97 ∷ 0 ∷ 98 ∷ 0 ∷ []) ≡ 97 ∷ 0 ∷ 98 ∷ []
zero_inside = refl

-- the last record of an output wins, at the place of its first one
later_record : outputs_of (dependencies 3 1 0 (5 ∷ []) ∷ dependencies 4 2 0 [] ∷ dependencies 3 6 0 (7 ∷ []) ∷
    [])
    ≡ record { output = 3; time = 6; inputs = 7 ∷ [] } ∷ record { output = 4; time = 2; inputs = [] } ∷ []
later_record = refl
