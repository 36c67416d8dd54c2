-- Lemmas on faults.
use Rattle.std.proofs.Common.{◌≡◌, ℕ, ◌+◌, ◌<◌, inl, inr, Option, Some, None, Result, Ok, Err, IsErrAnd, List}
use Rattle.std.proofs.Common.{[], ◌∷◌, ◌++◌, length, drop, get_or, refl, sym, ap, subst, ◌∙◌}
use Rattle.nj_scope.specs.Scopes.{first_given}
use Rattle.std.specs.Option.{option_or}
use Rattle.std.proofs.lemmas.List.{append_assoc, append-nil}
use Rattle.std.proofs.lemmas.Option.{same_Some}
use Rattle.nj_text.specs.declared.word.Word.{Word}
use Rattle.nj_text.specs.Words.{WordModel, word_model}
use Rattle.nj_manifest.specs.Contents.{words_model}
use Rattle.nj_edges.specs.Edges.{EdgePaths}
use Rattle.nj_faults.specs.declared.fault.GraphFault.{GraphFault}
use Rattle.nj_faults.specs.Faults.{IsFault, no_memory}
use Rattle.nj_statements.specs.EdgeList.{Values, path_given, paths_given}
use Rattle.nj_statements.specs.BuildFaults.{empty_path, two_makers, outputs_fault}
use Rattle.nj_statements.specs.Answers.{Checks}
use Rattle.nj_statements.proofs.Lists.{at-next}

-- a fault is the expected fault, or out of memory
pub by-fault : {R : Type 0} (expected f : GraphFault) → IsFault (Some expected) f → (f ≡ no_memory → R)
    → (f ≡ expected → R) → R
by-fault expected f (inl none) lacks is = lacks none
by-fault expected f (inr reported) lacks is = is (sym (same_Some expected f reported))

pub fault-first : (a b : Option GraphFault) (f : GraphFault) → IsFault a f → IsFault (option_or a b) f
fault-first a b f (inl m) = inl m
fault-first (Some x) b f (inr e) = inr e
fault-first None b f (inr e) = absurd (cc)

-- the error that the exit of a `?` returns
pub err-checks : {A : Type 0} (r : Result A GraphFault) (f : GraphFault) (a : Option GraphFault)
    → IsErrAnd r (λ y. y ≡ f) → IsFault a f → Checks a r
err-checks (Err y) f a is h = subst (IsFault a) (sym is) h
err-checks (Ok x) f a is h = absurd is

pub fault-second : (a b : Option GraphFault) (f : GraphFault) → a ≡ None → IsFault b f
    → IsFault (option_or a b) f
fault-second a b f none h = subst (λ o. IsFault (option_or o b) f) (sym none) h

pub checks-second : {A : Type 0} (a b : Option GraphFault) (r : Result A GraphFault) → a ≡ None → Checks b r
    → Checks (option_or a b) r
checks-second a b r none h = subst (λ o. Checks (option_or o b) r) (sym none) h

pub both-none : (a b : Option GraphFault) → a ≡ None → b ≡ None → option_or a b ≡ None
both-none a b none h = ap (λ o. option_or o b) none ∙ h

or_then-assoc : (a b c : Option GraphFault) → option_or (option_or a b) c ≡ option_or a (option_or b c)
or_then-assoc (Some x) b c = refl
or_then-assoc None b c = refl

pub first-append : (fault_of : WordModel → Option GraphFault) (xs ys : List WordModel)
    → first_given fault_of (xs ++ ys) ≡ option_or (first_given fault_of xs) (first_given fault_of ys)
first-append fault_of [] ys = refl
first-append fault_of (x ∷ xs) ys = ap (option_or (fault_of x)) (first-append fault_of xs ys)
    ∙ sym (or_then-assoc (fault_of x) (first_given fault_of xs) (first_given fault_of ys))

pub outputs-append : (file : List ℕ) (values : Values) (edges : List EdgePaths) (left : List (List ℕ))
    (xs ys : List WordModel)
    → outputs_fault file values edges left (xs ++ ys)
    ≡ option_or (outputs_fault file values edges left xs)
    (outputs_fault file values edges (left ++ paths_given values xs) ys)
outputs-append file values edges left [] ys =
    ap (λ l. outputs_fault file values edges l ys) (sym (append-nil left))
outputs-append file values edges left (x ∷ xs) ys =
    ap (option_or here) (outputs-append file values edges (left ++ path_given values x ∷ []) xs ys
    ∙ ap (λ l. option_or (outputs_fault file values edges (left ++ path_given values x ∷ []) xs)
    (outputs_fault file values edges l ys))
    (append_assoc left (path_given values x ∷ []) (paths_given values xs)))
    ∙ sym (or_then-assoc here (outputs_fault file values edges (left ++ path_given values x ∷ []) xs)
    (outputs_fault file values edges (left ++ (path_given values x ∷ paths_given values xs)) ys))
  where
    here : Option GraphFault
    here = option_or (empty_path file values x) (two_makers file values edges left x)

-- the faults of four lists of words
pub first-four : (fault_of : WordModel → Option GraphFault) (a b c d : List WordModel)
    → first_given fault_of (a ++ (b ++ (c ++ d)))
    ≡ option_or (first_given fault_of a) (option_or (first_given fault_of b)
    (option_or (first_given fault_of c) (first_given fault_of d)))
first-four fault_of a b c d =
    first-append fault_of a (b ++ (c ++ d))
    ∙ ap (option_or (first_given fault_of a))
    (first-append fault_of b (c ++ d) ∙ ap (option_or (first_given fault_of b)) (first-append fault_of c d))

-- the fault of the next word is the fault of all of them, if the words before it have no fault
pub next-fault : (fault_of : WordModel → Option GraphFault) (words : List Word) (i : ℕ) (word : Word)
    (f : GraphFault) → i < length words → word ≡ get_or words i word
    → first_given fault_of (words_model (drop i words)) ≡ first_given fault_of (words_model words)
    → IsFault (fault_of (word_model word)) f → IsFault (first_given fault_of (words_model words)) f
next-fault fault_of words i word f below is same h =
    subst (λ o. IsFault o f) (sym (at-next (λ (ws : List Word). first_given fault_of (words_model ws)) words i
    word below is) ∙ same)
    (fault-first (fault_of (word_model word)) (first_given fault_of (words_model (drop (i + 1) words))) f h)
