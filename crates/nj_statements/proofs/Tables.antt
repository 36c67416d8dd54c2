-- Lemmas on the edge that is being read.
use Rattle.std.proofs.Common.{◌≡◌, ℕ, ◌≤◌, ◌-◌, ◌==◌, ◌&&◌, Bool, true, false, not, if◌then◌else◌, cond, List}
use Rattle.std.proofs.Common.{[], ◌∷◌, ◌++◌, length, take, drop, refl, sym, ap, subst, ◌∙◌, arith, true≢false}
use Rattle.std.specs.List.{filter, slice_range, list_any}
use Rattle.std.proofs.lemmas.List.{append_assoc, append-nil, length-append}
use Rattle.std.proofs.Math.Seq.{take-append_seam, drop-append_seam}
use Rattle.std.specs.Str.{bytes_eq}
use Rattle.std.proofs.lemmas.Bool.{ne_eqb}
use Rattle.nj_scope.specs.Readings.{IsPrefix}
use Rattle.nj_edges.specs.Edges.{EdgePaths, outputs_of, is_among}
use Rattle.nj_edges.specs.EdgeTables.{EdgeTable, with_output, with_input, with_validation, edge_read}
use Rattle.nj_names.specs.NameTables.{with_name}
use Rattle.nj_statements.specs.EdgeList.{loses_own, of_others, without_own, edge_paths}
use Rattle.nj_statements.specs.Inside.EdgeSteps.{Grows, with_outputs, with_input_unless, with_inputs}
use Rattle.nj_statements.specs.Inside.EdgeSteps.{with_validations}

-- ---- files keep their numbers

pub prefix-refl : {A : Type 0} (xs : List A) → IsPrefix xs xs
prefix-refl xs = ([], sym (append-nil xs))

pub prefix-trans : {A : Type 0} (xs ys zs : List A) → IsPrefix xs ys → IsPrefix ys zs → IsPrefix xs zs
prefix-trans xs ys zs (more, is) (others, are) =
    (more ++ others, are ∙ ap (λ l. l ++ others) is ∙ append_assoc xs more others)

pub prefix_push : {A : Type 0} (xs ys zs : List A) (y : A) → IsPrefix xs ys → zs ≡ ys ++ y ∷ []
    → IsPrefix xs zs
prefix_push xs ys zs y grows is = prefix-trans xs ys zs grows (y ∷ [], is)

pub named-prefix : (files : List (List ℕ)) (path : List ℕ) → IsPrefix files (with_name files path)
named-prefix files path = by (list_any (bytes_eq path) files)
  where
    by : (b : Bool) → IsPrefix files (if b then files else files ++ path ∷ [])
    by true = prefix-refl files
    by false = (path ∷ [], refl)

-- ---- one more input
pub grows-input : (before t new : EdgeTable) (path : List ℕ) (loses_own : Bool) → Grows 0 before t
    → new ≡ with_input_unless loses_own t path → Grows 0 before new
grows-input before t new path false grows is =
    subst (Grows 0 before) (sym is) (record { outputs_are = grows.outputs_are; inputs = longer })
  where
    longer : length before.«open».inputs ≤ length (t.«open».inputs ++ path ∷ [])
    longer = let one = length-append t.«open».inputs (path ∷ []) in let all = grows.inputs in
        omega (arith, one, all)
grows-input before t new path true grows is = by (is_among t.«open».outputs path) is
  where
    longer : length before.«open».inputs ≤ length (t.«open».inputs ++ path ∷ [])
    longer = let one = length-append t.«open».inputs (path ∷ []) in let all = grows.inputs in
        omega (arith, one, all)

    by : (b : Bool) → new ≡ (if b then t else with_input t path) → Grows 0 before new
    by true h = subst (Grows 0 before) (sym h) grows
    by false h = subst (Grows 0 before) (sym h) (record { outputs_are = grows.outputs_are; inputs = longer })

-- ---- outputs

pub outputs-open : (t : EdgeTable) (ps : List (List ℕ))
    → (with_outputs t ps).«open» ≡ record t.«open» { outputs = t.«open».outputs ++ ps }
outputs-open t [] = ap (λ os. record t.«open» { outputs = os }) (sym (append-nil t.«open».outputs))
outputs-open t (p ∷ ps) = outputs-open (with_output t p) ps
    ∙ ap (λ os. record t.«open» { outputs = os }) (append_assoc t.«open».outputs (p ∷ []) ps)

-- ---- inputs

-- the inputs that an edge with the given outputs keeps
abbrev pub kept : (loses_own : Bool) → (outputs paths : List (List ℕ)) → List (List ℕ)
kept false outputs paths = paths
kept true outputs paths = filter (λ path. not (is_among outputs path)) paths

pub inputs-open : (loses : Bool) (t : EdgeTable) (ps : List (List ℕ))
    → (with_inputs loses t ps).«open» ≡ record t.«open»
    { inputs = t.«open».inputs ++ kept loses t.«open».outputs ps }
inputs-open false t [] = ap (λ is. record t.«open» { inputs = is }) (sym (append-nil t.«open».inputs))
inputs-open true t [] = ap (λ is. record t.«open» { inputs = is }) (sym (append-nil t.«open».inputs))
inputs-open false t (p ∷ ps) = inputs-open false (with_input t p) ps
    ∙ ap (λ is. record t.«open» { inputs = is }) (append_assoc t.«open».inputs (p ∷ []) ps)
inputs-open true t (p ∷ ps) =
    by (is_among t.«open».outputs p) (inputs-open true t ps)
    (inputs-open true (with_input t p) ps ∙ ap (λ is. record t.«open» { inputs = is })
    (append_assoc t.«open».inputs (p ∷ []) (filter (λ path. not (is_among t.«open».outputs path)) ps)))
  where
    others : List (List ℕ)
    others = filter (λ path. not (is_among t.«open».outputs path)) ps

    by : (b : Bool) → (with_inputs true t ps).«open» ≡ record t.«open» { inputs = t.«open».inputs ++ others }
        → (with_inputs true (with_input t p) ps).«open»
        ≡ record t.«open» { inputs = t.«open».inputs ++ p ∷ others }
        → (with_inputs true (if b then t else with_input t p) ps).«open»
        ≡ record t.«open» { inputs = t.«open».inputs ++ cond (not b) (p ∷ others) others }
    by true h k = h
    by false h k = k

-- ---- validations

pub validations-open : (t : EdgeTable) (ps : List (List ℕ))
    → (with_validations t ps).«open» ≡ record t.«open» { validations = t.«open».validations ++ ps }
validations-open t [] = ap (λ vs. record t.«open» { validations = vs })
    (sym (append-nil t.«open».validations))
validations-open t (p ∷ ps) = validations-open (with_validation t p) ps
    ∙ ap (λ vs. record t.«open» { validations = vs }) (append_assoc t.«open».validations (p ∷ []) ps)

-- ---- the edge that was read

-- the parts of a list that was joined of three
part-two : {A : Type 0} (xs ys zs : List A)
    → slice_range (xs ++ ys ++ zs) (length xs) (length (xs ++ ys)) ≡ ys
part-two xs ys zs =
    ap (λ l. take (length (xs ++ ys) - length xs) (drop (length xs) l)) (append_assoc xs ys zs)
    ∙ ap (λ l. take (length (xs ++ ys) - length xs) l) (drop-append_seam xs (ys ++ zs))
    ∙ ap (λ n. take n (ys ++ zs)) (let is = length-append xs ys in omega (arith, is))
    ∙ take-append_seam ys zs

pub edge-is : (e i x y z v : List (List ℕ)) (is_phony : Bool)
    → edge_read (record { outputs = e ++ i; inputs = x ++ y ++ z; validations = v })
    (record { explicit_outputs = length e; explicit_inputs = length x; implicit_inputs = length (x ++ y) })
    is_phony
    ≡ record {
      explicit_outputs = e;
      implicit_outputs = i;
      explicit_inputs = x;
      implicit_inputs = y;
      order_only_inputs = z;
      validations = v;
      is_phony = is_phony;
    }
edge-is e i x y z v is_phony =
    ap (λ (p : List (List ℕ)). record {
      explicit_outputs = p;
      implicit_outputs = drop (length e) (e ++ i);
      explicit_inputs = take (length x) (x ++ y ++ z);
      implicit_inputs =
          slice_range (x ++ y ++ z) (length x) (length (x ++ y));
      order_only_inputs =
          drop (length (x ++ y)) (x ++ y ++ z);
      validations = v;
      is_phony = is_phony;
    }) (take-append_seam e i)
    ∙ ap (λ (p : List (List ℕ)). record {
      explicit_outputs = e;
      implicit_outputs = p;
      explicit_inputs =
          take (length x) (x ++ y ++ z);
      implicit_inputs = slice_range (x ++ y ++ z) (length x) (length (x ++ y));
      order_only_inputs = drop (length (x ++ y)) (x ++ y ++ z);
      validations = v;
      is_phony = is_phony;
    })
    (drop-append_seam e i)
    ∙ ap (λ (p : List (List ℕ)). record {
      explicit_outputs = e;
      implicit_outputs = i;
      explicit_inputs = p;
      implicit_inputs = slice_range (x ++ y ++ z) (length x) (length (x ++ y));
      order_only_inputs =
          drop (length (x ++ y)) (x ++ y ++ z);
      validations = v;
      is_phony = is_phony;
    })
    (ap (take (length x)) (append_assoc x y z) ∙ take-append_seam x (y ++ z))
    ∙ ap (λ (p : List (List ℕ)). record {
      explicit_outputs = e;
      implicit_outputs = i;
      explicit_inputs = x;
      implicit_inputs = p;
      order_only_inputs = drop (length (x ++ y)) (x ++ y ++ z);
      validations = v;
      is_phony =
          is_phony;
    }) (part-two x y z)
    ∙ ap (λ (p : List (List ℕ)). record {
      explicit_outputs = e;
      implicit_outputs = i;
      explicit_inputs = x;
      implicit_inputs = y;
      order_only_inputs = p;
      validations = v;
      is_phony = is_phony;
    })
    (drop-append_seam (x ++ y) z)

is-nothing : (b : Bool) (xs : List (List ℕ)) → (b && length xs == 0) ≡ true → xs ≡ []
is-nothing b [] h = refl
is-nothing true (x ∷ xs) h = absurd (true≢false
    (sym h ∙ ne_eqb (length (x ∷ xs)) 0 (λ is. omega (arith, is))))
is-nothing false (x ∷ xs) h = absurd (true≢false (sym h))

-- an edge without the inputs that it loses
pub edge-kept : (s : EdgePaths) (loses : Bool) → loses ≡ loses_own s
    → record s {
      explicit_inputs = kept loses (outputs_of s) s.explicit_inputs;
      implicit_inputs =
          kept loses (outputs_of s) s.implicit_inputs;
      order_only_inputs =
          kept loses (outputs_of s) s.order_only_inputs;
    } ≡ edge_paths s
edge-kept s false h = ap (λ b. if b then without_own s else s) h
edge-kept s true h =
    ap (λ (y : List (List ℕ)). record s {
      explicit_inputs = of_others s s.explicit_inputs;
      implicit_inputs =
          y;
      order_only_inputs = of_others s s.order_only_inputs;
    }) (ap (of_others s) none ∙ sym none)
    ∙ ap (λ b. if b then without_own s else s) h
  where
    none : s.implicit_inputs ≡ []
    none = is-nothing (s.is_phony && length s.explicit_outputs == 1 && length s.implicit_outputs == 0)
        s.implicit_inputs (sym h)
