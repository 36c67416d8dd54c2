-- Lists of readings: first readings, and more after them.
use Rattle.std.proofs.Common.{arith}
use Rattle.std.proofs.lemmas.Grind.{common_steps}
use Rattle.std.proofs.Common.{◌≡◌, ℕ, Bool, true, false, cond, ◌||◌, Option, Some, is_some, option_and_then}
use Rattle.std.proofs.Common.{List, [], ◌∷◌, ◌++◌, bytes_eq, refl, sym, ap, ◌∙◌, append_assoc}
use Rattle.std.proofs.Common.{true≢false}
use Rattle.nj_graph.specs.Inside.PathsReached.{with_new}
use Rattle.std.specs.List.{list_any}
use Rattle.std.proofs.lemmas.List.{map-append}
use Rattle.std.proofs.lemmas.Slice.Eq.{bytes_eq-Decides}
use Rattle.nj_scope.specs.Readings.{Reading, EachPathOnce, reading_of, is_read, bytes_in, paths_of, IsPrefix}
use Rattle.nj_scope.proofs.ReadingLemmas.{is_read-push}
use Rattle.nj_scope.proofs.SourceLemmas.{HasRead-then}
use Rattle.nj_scope.specs.Sources.{SourceState, HasRead}
use Rattle.nj_graph.specs.Runs.{IsRead}
use Rattle.nj_graph.specs.Inside.ReaderContracts.{ReadsAll}

-- ---- files, and others

pub extends-trans : (all mid files : List Reading) → IsPrefix mid all → IsPrefix files mid
    → IsPrefix files all
extends-trans all mid files p q = (q.0 ++ p.0, p.1 ∙ ap (λ fs. fs ++ p.0) q.1 ∙ append_assoc files q.0 p.0)

reading_of-append : (path : List ℕ) (r : Reading) (files others : List Reading)
    → reading_of files path ≡ Some r → reading_of (files ++ others) path ≡ Some r
reading_of-append path r [] others h = absurd cc
reading_of-append path r (f ∷ files) others h =
    by_path (bytes_eq path f.path) (reading_of-append path r files others) h
  where
    by_path : (b : Bool) → (reading_of files path ≡ Some r → reading_of (files ++ others) path ≡ Some r)
        → cond b (Some f) (reading_of files path) ≡ Some r
        → cond b (Some f) (reading_of (files ++ others) path) ≡ Some r
    by_path true rest h = h
    by_path false rest h = rest h

-- The reading of a path stays the same.
pub reading-kept : (path : List ℕ) (r : Reading) (all files : List Reading) → IsPrefix files all
    → reading_of files path ≡ Some r → reading_of all path ≡ Some r
reading-kept path r all files e h = ap (λ fs. reading_of fs path) e.1 ∙ reading_of-append path r files e.0 h

-- A path that was read has its bytes.
pub reading-at : (path : List ℕ) (files : List Reading) → is_read files path ≡ true
    → reading_of files path ≡ Some (record { path = path; bytes = bytes_in files path })
reading-at path [] h = absurd (true≢false (sym h))
reading-at path (f ∷ files) h = by_path (bytes_eq path f.path) (bytes_eq-Decides path f.path).0
    (reading-at path files) h
  where
    by_path : (b : Bool) → (b ≡ true → path ≡ f.path)
        → (is_read files path ≡ true → reading_of files path
        ≡ Some (record { path = path; bytes = bytes_in files path }))
        → is_some (cond b (Some f) (reading_of files path)) ≡ true
        → cond b (Some f) (reading_of files path)
        ≡ Some (record {
          path = path;
          bytes =
              option_and_then (λ r. r.bytes) (cond b (Some f) (reading_of files path));
        })
    by_path true same rest h = ap (λ p. Some (record { path = p; bytes = f.bytes })) (sym (same refl))
    by_path false same rest h = rest h

-- ---- the paths of files

pub paths-listed : (path : List ℕ) (files : List Reading)
    → is_read files path ≡ list_any (bytes_eq path) (paths_of files)
paths-listed path [] = refl
paths-listed path (f ∷ files) = by_path (bytes_eq path f.path) (paths-listed path files)
  where
    by_path : (b : Bool) → is_read files path ≡ list_any (bytes_eq path) (paths_of files)
        → is_some (cond b (Some f) (reading_of files path)) ≡ (b || list_any (bytes_eq path) (paths_of files))
    by_path true rest = refl
    by_path false rest = rest

pub with_new-known : (path : List ℕ) (files : List Reading) → is_read files path ≡ true
    → with_new (paths_of files) path ≡ paths_of files
with_new-known path files h = ap (λ b. cond b (paths_of files) (paths_of files ++ path ∷ []))
    (sym (paths-listed path files) ∙ h)

pub with_new-other : (path : List ℕ) (files : List Reading) → is_read files path ≡ false
    → with_new (paths_of files) path ≡ paths_of files ++ path ∷ []
with_new-other path files h = ap (λ b. cond b (paths_of files) (paths_of files ++ path ∷ []))
    (sym (paths-listed path files) ∙ h)

-- a path that was not read before comes last
pub paths-one_more : (path : List ℕ) (bytes : Option (List ℕ)) (files : List Reading)
    → is_read files path ≡ false → paths_of (files ++ record { path = path; bytes = bytes } ∷ [])
    ≡ with_new (paths_of files) path
paths-one_more path bytes files h = map-append (λ r. r.path) files
    (record { path = path; bytes = bytes } ∷ []) ∙ sym (with_new-other path files h)

-- ---- each path once

bytes_eq-other : (xs ys : List ℕ) → bytes_eq xs ys ≡ false → bytes_eq ys xs ≡ false
bytes_eq-other xs ys h = by_test (bytes_eq ys xs) (bytes_eq-Decides ys xs).0
  where
    by_test : (b : Bool) → (b ≡ true → ys ≡ xs) → b ≡ false
    by_test true same = absurd (true≢false (sym ((bytes_eq-Decides xs ys).1 (sym (same refl))) ∙ h))
    by_test false same = refl

pub each_path_once-push : (files : List Reading) (r : Reading) → EachPathOnce files
    → is_read files r.path ≡ false → EachPathOnce (files ++ r ∷ [])
each_path_once-push [] r once h = (refl, tt)
each_path_once-push (f ∷ files) r once h =
    by_path (bytes_eq r.path f.path) (bytes_eq-other r.path f.path) h (each_path_once-push files r once.1)
  where
    by_path : (b : Bool) → (b ≡ false → bytes_eq f.path r.path ≡ false)
        → is_some (cond b (Some f) (reading_of files r.path)) ≡ false
        → (is_read files r.path ≡ false → EachPathOnce (files ++ r ∷ [])) → EachPathOnce (f ∷ files ++ r ∷ [])
    by_path true other h rest = absurd (true≢false h)
    by_path false other h rest = (
      is_read-push files r f.path ∙ ap (λ b. b || bytes_eq f.path r.path) once.0
          ∙ other refl,
      rest h,
    )

-- ---- the readings of a source

-- nothing
pub read-nothing : (source : SourceState) (files : List Reading) → EachPathOnce files
    → IsRead source source files files
read-nothing source files once = grind (arith, common_steps)

-- one more path
pub read-one : (before after : SourceState) (files : List Reading) (path : List ℕ) (bytes : Option (List ℕ))
    → EachPathOnce files → is_read files path ≡ false
    → HasRead before after (record { path = path; bytes = bytes } ∷ [])
    → IsRead before after files (files ++ record { path = path; bytes = bytes } ∷ [])
read-one before after files path bytes once h read = record {
  readings = record { path = path; bytes = bytes } ∷ [];
  added = refl;
  read = read;
  once = each_path_once-push files (record { path = path; bytes = bytes }) once h;
}

-- one reading after the other
pub reads-then : (before mid after : SourceState) (old files more : List Reading)
    → IsRead before mid old files → IsRead mid after files more → IsRead before after old more
reads-then before mid after old files more first others = record {
  readings = first.readings ++ others.readings;
  added = others.added ∙ ap (λ fs. fs ++ others.readings) first.added
      ∙ append_assoc old first.readings others.readings;
  read = HasRead-then before mid after first.readings others.readings first.read others.read;
  once = others.once;
}

-- The readings come to the earlier files.
pub read-extends : (before after : SourceState) (old files : List Reading) → IsRead before after old files
    → IsPrefix old files
read-extends before after old files r = (r.readings, r.added)

-- ---- where all was read

pub reads-all-nothing : (source : SourceState) (files : List Reading) → EachPathOnce files
    → ReadsAll source source files files files
reads-all-nothing source files once = grind (arith, common_steps)

pub reads-all-then : (before mid after : SourceState) (old files more held held2 : List Reading)
    → ReadsAll before mid old files held → ReadsAll mid after files more held2
    → ReadsAll before after old more held2
reads-all-then before mid after old files more held held2 first others = record {
  reads = reads-then before mid after old files more first.reads others.reads;
  held_is = others.held_is;
  failures = others.failures ∙ first.failures;
}
