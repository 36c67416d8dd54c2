-- Lemmas on the files that are collected for an edge.
use Rattle.std.proofs.Common.{◌≡◌, ℕ, ◌+◌, ◌<◌, Option, None, length, drop, get_or, Bool, true, false}
use Rattle.std.proofs.Common.{if◌then◌else◌, List, [], ◌∷◌, ◌++◌, bytes_eq, refl, sym, ap, subst, ◌∙◌}
use Rattle.nj_scope.specs.Scopes.{first_given}
use Rattle.std.specs.Bool.{then_some}
use Rattle.std.specs.Option.{option_or}
use Rattle.std.specs.List.{IsDistinct, list_any}
use Rattle.std.specs.Cmp.{IsEquivalence}
use Rattle.std.proofs.lemmas.List.{append_assoc, append-nil}
use Rattle.std.proofs.lemmas.Map.Keys.{IsDistinct-push}
use Rattle.std.proofs.lemmas.Cmp.{nat_list_eq_equiv}
use Rattle.nj_text.specs.declared.word.Word.{Word}
use Rattle.nj_text.specs.Words.{WordModel, word_model}
use Rattle.nj_manifest.specs.Contents.{words_model}
use Rattle.nj_names.specs.NameTables.{with_name}
use Rattle.nj_edges.specs.Joining.{JoinTable, with_added_output, with_added_input, is_made_so_far}
use Rattle.nj_faults.specs.declared.fault.GraphFault.{GraphFault}
use Rattle.nj_faults.specs.declared.fault.Cause.TheVariants.{TwoMakers}
use Rattle.nj_faults.specs.Faults.{fault_at}
use Rattle.nj_statements.specs.EdgeList.{path_given, paths_given}
use Rattle.nj_statements.specs.BuildFaults.{empty_path, two_makers, outputs_fault}
use Rattle.nj_statements.specs.Joining.{no_values}
use Rattle.nj_statements.specs.JoiningHeld.{KeepsEdges}
use Rattle.nj_statements.specs.Inside.JoiningSteps.{with_added_outputs, with_added_inputs}
use Rattle.nj_statements.proofs.Lists.{at-next}
use Rattle.nj_statements.proofs.Tables.{named-prefix, prefix-trans}

bytes-equivalence : IsEquivalence bytes_eq
bytes-equivalence = nat_list_eq_equiv

-- ---- no edge is changed

pub keeps-nothing : (t : JoinTable) → KeepsEdges t t
keeps-nothing t = record {
  files = ([], sym (append-nil t.files));
  each_path_once = λ once. once;
  stated =
      refl;
  joined = refl;
  was_joined = refl;
}

pub keeps-trans : (s t u : JoinTable) → KeepsEdges s t → KeepsEdges t u → KeepsEdges s u
keeps-trans s t u first second = record {
  files = prefix-trans s.files t.files u.files first.files second.files;
  each_path_once = λ once. second.each_path_once (first.each_path_once once);
  stated = second.stated ∙ first.stated;
  joined = second.joined ∙ first.joined;
  was_joined = second.was_joined ∙ first.was_joined;
}

named-once : (files : List (List ℕ)) (path : List ℕ) → IsDistinct bytes_eq files
    → IsDistinct bytes_eq (with_name files path)
named-once files path once = by (list_any (bytes_eq path) files) refl
  where
    by : (b : Bool) → list_any (bytes_eq path) files ≡ b
        → IsDistinct bytes_eq (if b then files else files ++ path ∷ [])
    by true is = once
    by false is = IsDistinct-push bytes-equivalence files path once is

pub keeps-output : (s t : JoinTable) (path : List ℕ) → t ≡ with_added_output s path → KeepsEdges s t
keeps-output s t path is =
    subst (KeepsEdges s) (sym is) (record {
      files = named-prefix s.files path;
      each_path_once =
          named-once s.files path;
      stated = refl;
      joined = refl;
      was_joined = refl;
    })

pub keeps-input : (s t : JoinTable) (path : List ℕ) → t ≡ with_added_input s path → KeepsEdges s t
keeps-input s t path is =
    subst (KeepsEdges s) (sym is) (record {
      files = named-prefix s.files path;
      each_path_once =
          named-once s.files path;
      stated = refl;
      joined = refl;
      was_joined = refl;
    })

pub keeps-same : (s t : JoinTable) → t ≡ s → KeepsEdges s t
keeps-same s t is = subst (KeepsEdges s) (sym is) (keeps-nothing s)

-- ---- the collected files

pub outputs-open : (t : JoinTable) (paths : List (List ℕ))
    → (with_added_outputs t paths).«open» ≡ record t.«open» { outputs = t.«open».outputs ++ paths }
outputs-open t [] = ap (λ os. record t.«open» { outputs = os }) (sym (append-nil t.«open».outputs))
outputs-open t (p ∷ ps) = outputs-open (with_added_output t p) ps
    ∙ ap (λ os. record t.«open» { outputs = os }) (append_assoc t.«open».outputs (p ∷ []) ps)

pub inputs-open : (t : JoinTable) (paths : List (List ℕ))
    → (with_added_inputs t paths).«open» ≡ record t.«open» { inputs = t.«open».inputs ++ paths }
inputs-open t [] = ap (λ is. record t.«open» { inputs = is }) (sym (append-nil t.«open».inputs))
inputs-open t (p ∷ ps) = inputs-open (with_added_input t p) ps
    ∙ ap (λ is. record t.«open» { inputs = is }) (append_assoc t.«open».inputs (p ∷ []) ps)

-- ---- one more word

pub inputs-turn : (t new : JoinTable) (path : List ℕ) (words : List Word) (i : ℕ) (word : Word)
    → i < length words → word ≡ get_or words i word → path ≡ path_given no_values (word_model word)
    → new ≡ with_added_input t path
    → with_added_inputs new (paths_given no_values (words_model (drop (i + 1) words)))
    ≡ with_added_inputs t (paths_given no_values (words_model (drop i words)))
inputs-turn t new path words i word below is gives adds =
    ap (λ u. with_added_inputs u rest) (adds ∙ ap (with_added_input t) gives)
    ∙ sym (at-next (λ (ws : List Word). with_added_inputs t (paths_given no_values (words_model ws))) words i
    word below is)
  where
    rest : List (List ℕ)
    rest = paths_given no_values (words_model (drop (i + 1) words))

pub outputs-turn : (t new : JoinTable) (path : List ℕ) (words : List Word) (i : ℕ) (word : Word)
    → i < length words → word ≡ get_or words i word → path ≡ path_given no_values (word_model word)
    → new ≡ with_added_output t path
    → with_added_outputs new (paths_given no_values (words_model (drop (i + 1) words)))
    ≡ with_added_outputs t (paths_given no_values (words_model (drop i words)))
outputs-turn t new path words i word below is gives adds =
    ap (λ u. with_added_outputs u rest) (adds ∙ ap (with_added_output t) gives)
    ∙ sym (at-next (λ (ws : List Word). with_added_outputs t (paths_given no_values (words_model ws))) words i
    word below is)
  where
    rest : List (List ℕ)
    rest = paths_given no_values (words_model (drop (i + 1) words))

pub no-fault-turn : (fault_of : WordModel → Option GraphFault) (words : List Word) (i : ℕ) (word : Word)
    → i < length words → word ≡ get_or words i word → fault_of (word_model word) ≡ None
    → first_given fault_of (words_model (drop (i + 1) words))
    ≡ first_given fault_of (words_model (drop i words))
no-fault-turn fault_of words i word below is none =
    ap (λ o. option_or o (first_given fault_of (words_model (drop (i + 1) words)))) (sym none)
    ∙ sym (at-next (λ (ws : List Word). first_given fault_of (words_model ws)) words i word below is)

pub new-output-turn : (name : List ℕ) (t new : JoinTable) (path : List ℕ) (words : List Word) (i : ℕ)
    (word : Word) → i < length words → word ≡ get_or words i word
    → path ≡ path_given no_values (word_model word)
    → empty_path name no_values (word_model word) ≡ None → is_made_so_far t path ≡ false
    → new ≡ with_added_output t path
    → outputs_fault name no_values new.joined new.«open».outputs (words_model (drop (i + 1) words))
    ≡ outputs_fault name no_values t.joined t.«open».outputs (words_model (drop i words))
new-output-turn name t new path words i word below is gives none fresh adds =
    ap (λ (u : JoinTable). outputs_fault name no_values u.joined u.«open».outputs rest)
    (adds ∙ ap (with_added_output t) gives)
    ∙ sym (
    at-next (λ (ws : List Word). outputs_fault name no_values t.joined t.«open».outputs (words_model ws))
    words i word below is
    ∙ ap (λ o. option_or (option_or o (two_makers name no_values t.joined t.«open».outputs (word_model word)))
    later) none
    ∙ ap (λ b. option_or (then_some b (fault_at name word.spot (TwoMakers meant))) later)
    (ap (is_made_so_far t) (sym gives) ∙ fresh)
    )
  where
    meant : List ℕ
    meant = path_given no_values (word_model word)

    rest : List WordModel
    rest = words_model (drop (i + 1) words)

    later : Option GraphFault
    later = outputs_fault name no_values t.joined (t.«open».outputs ++ meant ∷ []) rest
