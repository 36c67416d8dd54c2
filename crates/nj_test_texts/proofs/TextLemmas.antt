-- What is written of tests, one after another.
use Rattle.std.proofs.Common.{◌≡◌, ◌<◌, ◌≤◌, ◌+◌, ℕ, Bool, Option, List, [], ◌∷◌, ◌++◌, map, take, get_or}
use Rattle.std.proofs.Common.{length}
use Rattle.std.proofs.Common.{sym, ap, ◌∙◌, append_assoc, arith, codes}
use Rattle.std.specs.List.{flat_map}
use Rattle.std.specs.Str.Lossy.{utf8_lossy}
use Rattle.std.proofs.lemmas.List.{append-nil, length-map, length-take-le, map_more, take_all}
use Rattle.std.proofs.lemmas.List.Concat.{flat_map-append}
use Rattle.serde_json.proofs.OnLiterals.{serde_json_on_literals}
use Rattle.serde_json.specs.Data.{string}
use Rattle.serde_json.specs.Written.{compact_text}
use Rattle.nj_tests.specs.Tests.{TestModel, test_model}
use Rattle.nj_tests.specs.declared.test.Test.{Test}
use Rattle.nj_chosen.specs.Choices.{ChosenModel, WhyChosen, why_chosen}
use Rattle.nj_test_texts.specs.TestTexts.{NamedTest, body_of, entry_of, line, reason_path, reason_word}
use Rattle.nj_test_texts.specs.TestTexts.{test_object, written, written_from}
use Rattle.nj_test_texts.specs.declared.style.Style.{Style}

-- ---- one more test

module _ (all : Bool) (m : ChosenModel) where
  written-push : (n : ℕ) (tests : List TestModel) (test : TestModel)
      → written_from all m n (tests ++ test ∷ [])
      ≡ written_from all m n tests ++ written all test.name (why_chosen m (n + length tests))
  written-push n [] test =
      let same : n ≡ n + 0 = omega arith in
      append-nil (written all test.name (why_chosen m n))
      ∙ ap (λ k. written all test.name (why_chosen m k)) same
  written-push n (t ∷ tests) test =
      let here = written all t.name (why_chosen m n) in
      let same : n + 1 + length tests ≡ n + length (t ∷ tests) = omega arith in
      ap (λ rest. here ++ rest) (written-push (n + 1) tests test
      ∙ ap (λ k. written_from all m (n + 1) tests ++ written all test.name (why_chosen m k)) same)
      ∙ sym (append_assoc here (written_from all m (n + 1) tests)
      (written all test.name (why_chosen m (n + length (t ∷ tests)))))

  pub body-more : (style : Style) (tests : List Test) (i : ℕ) (d : Test) (why : Option WhyChosen)
      (text new : List ℕ) → i < length tests → why ≡ why_chosen m i → d ≡ get_or tests i d
      → new ≡ text ++ flat_map (entry_of style) (written all (test_model d).name why)
      → text ≡ body_of style (written_from all m 0 (map test_model (take i tests)))
      → new ≡ body_of style (written_from all m 0 (map test_model (take (i + 1) tests)))
  body-more style tests i d why text new below is at more held =
      let before = map test_model (take i tests) in
      let test = test_model (get_or tests i d) in
      let all-of : List ℕ → ℕ → List NamedTest = λ name n. written all name (why_chosen m n) in
      let long : length before ≡ i =
      length-map (take i tests) test_model ∙ length-take-le i tests (omega (arith, below)) in
      let count : 0 + length before ≡ i = omega (arith, long) in
      more
      ∙ ap (λ w. text ++ flat_map (entry_of style) (written all (test_model d).name w)) is
      ∙ ap (λ (t : Test). text ++ flat_map (entry_of style) (all-of (test_model t).name i)) at
      ∙ ap (λ n. text ++ flat_map (entry_of style) (all-of test.name n)) (sym count)
      ∙ ap (λ t. t ++ flat_map (entry_of style) (all-of test.name (0 + length before))) held
      ∙ sym (flat_map-append (entry_of style) (written_from all m 0 before)
      (all-of test.name (0 + length before)))
      ∙ ap (body_of style) (sym (written-push 0 before test)
      ∙ ap (written_from all m 0) (sym (map_more test_model tests i d below)))

  pub all-written : (style : Style) (tests : List Test) (i : ℕ) (text : List ℕ) → length tests ≤ i
      → text ≡ body_of style (written_from all m 0 (map test_model (take i tests)))
      → text ≡ body_of style (written_from all m 0 (map test_model tests))
  all-written style tests i text past held =
      held ∙ ap (λ ts. body_of style (written_from all m 0 (map test_model ts))) (take_all i tests past)

-- ---- the parts of a line

pub reason-parts : (old name word path end : List ℕ)
    → ((((old ++ name) ++ 9 ∷ []) ++ word) ++ path) ++ end ≡ old ++ ((name ++ 9 ∷ (word ++ path)) ++ end)
reason-parts old name word path end = simp append_assoc

module _ (test : NamedTest) where
  abbrev text : List ℕ → List ℕ
  text s = compact_text (string s)

  object-text : line (compact_text (test_object test))
      ≡ codes "{\"name\":" ++ (text test.name ++ (codes ",\"reason\":" ++ (text (reason_word test.why)
      ++ (codes ",\"path\":" ++ (text (utf8_lossy (reason_path test.why)) ++ codes "}\n")))))
  unfolding serde_json_on_literals
  object-text = simp append_assoc

  parts : (old a name b word c path d : List ℕ)
      → ((((((old ++ a) ++ name) ++ b) ++ word) ++ c) ++ path) ++ d
      ≡ old ++ (a ++ (name ++ (b ++ (word ++ (c ++ (path ++ d))))))
  parts old a name b word c path d = simp append_assoc

  pub object-is : (old : List ℕ)
      → ((((((old ++ codes "{\"name\":") ++ text test.name) ++ codes ",\"reason\":")
      ++ text (reason_word test.why)) ++ codes ",\"path\":") ++ text (utf8_lossy (reason_path test.why)))
      ++ codes "}\n"
      ≡ old ++ line (compact_text (test_object test))
  object-is old =
      parts old (codes "{\"name\":") (text test.name) (codes ",\"reason\":") (text (reason_word test.why))
      (codes ",\"path\":") (text (utf8_lossy (reason_path test.why))) (codes "}\n")
      ∙ ap (λ t. old ++ t) (sym object-text)
