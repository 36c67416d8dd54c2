-- Lemmas on the edges that were read, which stay the same, and on paths, which stay clean.
use Rattle.std.proofs.Common.{◌≡◌, ℕ, Bool, true, false, if◌then◌else◌, List, [], ◌∷◌, ◌++◌, Option, Some}
use Rattle.std.proofs.Common.{None, option_map, slice_get, bytes_eq, refl, sym, ap, subst, ◌∙◌}
use Rattle.std.specs.Prelude.{IfSome, position}
use Rattle.std.specs.List.{list_any}
use Rattle.std.proofs.lemmas.List.{append-nil}
use Rattle.nj_text.specs.Calls.{is_empty}
use Rattle.nj_text.specs.Paths.{clean_path_of}
use Rattle.nj_text.specs.Words.{Text, WordModel}
use Rattle.nj_text.proofs.CleanPaths.{clean-twice}
use Rattle.nj_scope.specs.Readings.{IsPrefix}
use Rattle.nj_scope.specs.Scopes.{expanded}
use Rattle.nj_names.proofs.NameLemmas.{found-at}
use Rattle.nj_names.specs.declared.files.FileNo.{FileNo}
use Rattle.nj_edges.specs.Edges.{is_among}
use Rattle.nj_edges.specs.EdgeTables.{EdgeTable, naming, with_output, with_input, with_validation}
use Rattle.nj_names.specs.NameTables.{with_name}
use Rattle.nj_edges.proofs.EdgeLemmas.{all-append, all-get}
use Rattle.nj_statements.specs.Answers.{KeepsRead}
use Rattle.nj_statements.specs.EdgeList.{Values, path_given}
use Rattle.nj_statements.specs.Inside.EdgeSteps.{AreClean, KeepsClean, with_input_unless}
use Rattle.nj_statements.proofs.Lists.{clean-not-empty}
use Rattle.nj_statements.proofs.Tables.{prefix-refl, prefix-trans, named-prefix}

pub keeps_none : (t : EdgeTable) → KeepsRead t t
keeps_none t = record { edges = refl; files = prefix-refl t.files }

-- ---- clean paths

pub cleaned : (path text : List ℕ) → path ≡ clean_path_of text → clean_path_of path ≡ path
cleaned path text is = ap clean_path_of is ∙ clean-twice text ∙ sym is

named-clean : (files : List (List ℕ)) (path : List ℕ) → AreClean files → clean_path_of path ≡ path
    → AreClean (with_name files path)
named-clean files path all clean = by (list_any (bytes_eq path) files)
  where
    by : (b : Bool) → AreClean (if b then files else files ++ path ∷ [])
    by true = all
    by false = all-append (λ p. clean_path_of p ≡ p) files (path ∷ []) all (clean, tt)

-- a word that is the path of a file already

module _ (files : List (List ℕ)) (path : List ℕ) (word : WordModel) (all : AreClean files) (values : Values)
    (is : word.parts ≡ Text path ∷ []) where
  path-clean : (n : ℕ) → Some n ≡ position (bytes_eq path) files → clean_path_of path ≡ path
  path-clean n index = all-get (λ p. clean_path_of p ≡ p) files n path all (found-at path files n (sym index))

  text-is : expanded values word.parts ≡ path
  text-is = ap (expanded values) is ∙ append-nil path

  pub known-path : (found : Option FileNo)
      → option_map (λ (f : FileNo). f.0) found ≡ position (bytes_eq path) files
      → IfSome found (λ file. slice_get files file.0 ≡ Some (path_given values word))
  known-path None index = tt
  known-path (Some f) index = found-at path files f.0 (sym index)
      ∙ ap Some (sym (ap clean_path_of text-is ∙ path-clean f.0 index))

  pub known-meant : (found : Option FileNo)
      → option_map (λ (f : FileNo). f.0) found ≡ position (bytes_eq path) files
      → IfSome found (λ file. is_empty (expanded values word.parts) ≡ false)
  known-meant None index = tt
  known-meant (Some f) index = ap is_empty text-is ∙ clean-not-empty path (path-clean f.0 index)

-- ---- the edges that were read

pub keeps_then : (a b c : EdgeTable) → KeepsClean a b → KeepsClean b c → KeepsClean a c
keeps_then a b c first second = record {
  read = record {
    edges = second.read.edges ∙ first.read.edges;
    files =
        prefix-trans a.files b.files c.files first.read.files second.read.files;
  };
  clean = λ all. second.clean (first.clean all);
}

pub keeps_same : (before t new : EdgeTable) → KeepsClean before t → new ≡ t → KeepsClean before new
keeps_same before t new keeps is = subst (KeepsClean before) (sym is) keeps

pub keeps_all : (t : EdgeTable) → KeepsClean t t
keeps_all t = record { read = keeps_none t; clean = λ all. all }

-- the same edges and files, and another edge that is being read
opened : (before t new : EdgeTable) → KeepsClean before t → new.edges ≡ t.edges → new.files ≡ t.files
    → KeepsClean before new
opened before t new keeps edges files = record {
  read = record {
    edges = edges ∙ keeps.read.edges;
    files =
        subst (IsPrefix before.files) (sym files) keeps.read.files;
  };
  clean = λ all. subst AreClean (sym files) (keeps.clean all);
}

-- a file is named
named : (before t : EdgeTable) (path : List ℕ) → KeepsClean before t → clean_path_of path ≡ path
    → KeepsClean before (naming t path)
named before t path keeps clean = record {
  read = record {
    edges = keeps.read.edges;
    files =
        prefix-trans before.files t.files (with_name t.files path) keeps.read.files
        (named-prefix t.files path);
  };
  clean = λ all. named-clean t.files path (keeps.clean all) clean;
}

pub keeps_output : (before t new : EdgeTable) (path : List ℕ) (is_new : Bool) → KeepsClean before t
    → clean_path_of path ≡ path → new ≡ (if is_new then with_output t path else t) → KeepsClean before new
keeps_output before t new path true keeps clean is =
    subst (KeepsClean before) (sym is) (opened before (naming t path) (with_output t path)
    (named before t path keeps clean) refl refl)
keeps_output before t new path false keeps clean is = keeps_same before t new keeps is

pub keeps_input : (before t new : EdgeTable) (path : List ℕ) (loses_own : Bool) → KeepsClean before t
    → clean_path_of path ≡ path → new ≡ with_input_unless loses_own t path → KeepsClean before new
keeps_input before t new path false keeps clean is =
    subst (KeepsClean before) (sym is) (opened before (naming t path) (with_input t path)
    (named before t path keeps clean) refl refl)
keeps_input before t new path true keeps clean is = by (is_among t.«open».outputs path) is
  where
    by : (b : Bool) → new ≡ (if b then t else with_input t path) → KeepsClean before new
    by true h = keeps_same before t new keeps h
    by false h = subst (KeepsClean before) (sym h)
        (opened before (naming t path) (with_input t path) (named before t path keeps clean) refl refl)

pub keeps_validation : (before t new : EdgeTable) (path : List ℕ) → KeepsClean before t
    → clean_path_of path ≡ path → new ≡ with_validation t path → KeepsClean before new
keeps_validation before t new path keeps clean is =
    subst (KeepsClean before) (sym is) (opened before (naming t path) (with_validation t path)
    (named before t path keeps clean) refl refl)
