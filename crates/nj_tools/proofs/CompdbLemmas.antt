-- How the objects of a compilation database are written one after another.
use Rattle.std.proofs.Common.{◌≡◌, ℕ, ◌+◌, Bool, true, false, not, ◌&&◌, cond, Option, Some}
use Rattle.std.proofs.Common.{None, option_map, unwrap_or, List, [], ◌∷◌, ◌++◌, map, length, subst, refl}
use Rattle.std.proofs.Common.{sym, ap, ◌∙◌, append_assoc, append-nil, codes, slice_get}
use Rattle.std.proofs.Common.{flat_map, Result, Ok, Err, is_ok, OnOk}
use Rattle.std.proofs.Common.{arith}
use Rattle.std.specs.Prelude.{IfSome, filter, find, if◌then◌else◌, take_while}
use Rattle.std.specs.List.{range_with_len}
use Rattle.std.specs.declared.alloc.AllocError.{AllocError}
use Rattle.std.proofs.lemmas.List.Sums.{take_while-cons}
use Rattle.std.proofs.lemmas.Result.{err_from_is_err_and}
use Rattle.std.specs.Result.{IsErrAnd}
use Rattle.nj_text.specs.Calls.{is_empty}
use Rattle.nj_scope.specs.ReadingList.{ReadStatement}
use Rattle.nj_edges.specs.Edges.{inputs_of, edges_from}
use Rattle.nj_faults.specs.declared.fault.GraphFault.{GraphFault}
use Rattle.nj_statements.specs.EdgeList.{edges_read}
use Rattle.nj_graph.specs.Graph.{GraphModel, edges_of, IsGraphOf, rule_name_of}
use Rattle.nj_graph.specs.Handles.{GraphEdge, GraphFile, edge_in, edge_of, edges_in, file_in, files_in}
use Rattle.nj_graph.specs.declared.handles.Edge.{Edge}
use Rattle.nj_tools.proofs.EdgeLists.{edge-count, edges-pass}
use Rattle.nj_tools.specs.declared.tool_fault.ToolFault.{ToolFault}
use Rattle.nj_tools.specs.declared.tool_fault.ToolFault.TheVariants.{TextNotUtf8, Write, OutOfMemory}
use Rattle.nj_tools.specs.Sinks.{SinkState, Takes}
use Rattle.nj_tools.specs.Texts.{StopsWithin}
use Rattle.nj_tools.specs.Lines.{line}
use Rattle.nj_tools.specs.Compdb.{Compilation, is_chosen, has_object, listed_edges, compilation_of, is_text}
use Rattle.nj_tools.specs.Compdb.{json_string, object_text, objects_text, held_before, unheld_edge}
use Rattle.nj_tools.specs.Compdb.{compdb_text, text_fault, WritesCompdb}
use Rattle.nj_tools.specs.Inside.CompdbHeld.{end_text, first_path, in_json, held_compilation, list_text}
use Rattle.nj_tools.specs.Inside.CompdbHeld.{object_of_strings, Refuses}
use Rattle.nj_tools.proofs.SinkLemmas.{Takes-nil}

-- ---- a path

-- the first of the files of paths
pub first_is : (files : List GraphFile) (file : GraphFile) (g : GraphModel) (paths : List (List ℕ))
    → Some file ≡ slice_get files 0 → files ≡ files_in g paths → file.path ≡ first_path paths
first_is files file g [] first are =
    let none : slice_get files 0 ≡ None = ap (λ (fs : List GraphFile). slice_get fs 0) are in absurd cc
first_is files file g (path ∷ paths) first are =
    let here : slice_get files 0 ≡ Some (file_in g path) = ap (λ (fs : List GraphFile). slice_get fs 0) are in
    let same : file ≡ file_in g path = cc in
    ap (λ (f : GraphFile). f.path) same

pub first_none : (files : List GraphFile) (g : GraphModel) (paths : List (List ℕ))
    → None ≡ slice_get files 0 → files ≡ files_in g paths → [] ≡ first_path paths
first_none files g [] first are = refl
first_none files g (path ∷ paths) first are =
    let here : slice_get files 0 ≡ Some (file_in g path) = ap (λ (fs : List GraphFile). slice_get fs 0) are in
    absurd cc

-- ---- an object

-- where a part is added at the end
pub added-then : (result : Result Unit AllocError) (new old part whole : List ℕ)
    → new ≡ cond (is_ok result) (old ++ part) old → old ++ part ≡ whole → OnOk result (new ≡ whole)
added-then (Ok done) new old part whole is joined = is ∙ joined
added-then (Err fault) new old part whole is joined = tt

-- an object, as its parts are appended
pub object-appended : (text separator directory : List ℕ) (c : Compilation) (command file output : List ℕ)
    → command ≡ c.command → file ≡ c.file → output ≡ c.output
    → (t u v w x y z : List ℕ)
    → t ≡ text ++ separator → u ≡ t ++ line (codes "  {")
    → v ≡ u ++ (codes "    \"directory\": " ++ directory ++ line (codes ","))
    → w ≡ v ++ (codes "    \"command\": " ++ command ++ line (codes ","))
    → x ≡ w ++ (codes "    \"file\": " ++ file ++ line (codes ","))
    → y ≡ x ++ (codes "    \"output\": " ++ output ++ line [])
    → z ≡ y ++ codes "  }"
    → z ≡ text ++ (separator ++ object_of_strings directory c)
unfolding object_of_strings
object-appended text separator directory c command file output command_is file_is output_is t u v w x y z t_is
    u_is v_is w_is x_is y_is z_is =
    let v_then = after u (line (codes "  {")) v _ u_is
    (v_is ∙ ap (λ p. u ++ p) (sym (append_assoc (codes "    \"directory\": " ++ directory) (codes ",")
    (10 ∷ [])))) in
    let w_then = after v _ w _ v_then (w_is
    ∙ ap (λ p. v ++ p) (sym (append_assoc (codes "    \"command\": " ++ command) (codes ",") (10 ∷ []))
    ∙ ap (λ s. line (codes "    \"command\": " ++ s ++ codes ",")) command_is)) in
    let x_then = after w _ x _ w_then (x_is
    ∙ ap (λ p. w ++ p) (sym (append_assoc (codes "    \"file\": " ++ file) (codes ",") (10 ∷ []))
    ∙ ap (λ s. line (codes "    \"file\": " ++ s ++ codes ",")) file_is)) in
    let y_then = after x _ y _ x_then (y_is
    ∙ ap (λ p. x ++ p) (ap (λ s. line (codes "    \"output\": " ++ s)) output_is)) in
    after y _ z _ y_then z_is ∙ ap (λ s. s ++ object_of_strings directory c) t_is
    ∙ append_assoc text separator (object_of_strings directory c)
  where
    after : (q p r a : List ℕ) → q ≡ t ++ p → r ≡ q ++ a → r ≡ t ++ (p ++ a)
    after q p r a h next = next ∙ ap (λ s. s ++ a) h ∙ append_assoc t p a

-- the text of the strings in JSON
pub object-is : (directory : List ℕ) (c : Compilation)
    → object_text directory c ≡ object_of_strings directory (in_json c)
unfolding object_text object_of_strings
object-is directory c = refl

-- ---- objects

abbrev following : (directory : List ℕ) → Compilation → List ℕ
following directory c = 44 ∷ 10 ∷ object_text directory c

-- ---- the strings of an edge

module _ (c : Compilation) where
  held-some : (json : Compilation) → Some json ≡ held_compilation c → (is_text c ≡ true) × (json ≡ in_json c)
  held-some json is = by (is_text c) is
    where
      by : (b : Bool) → Some json ≡ cond b (Some (in_json c)) None → (b ≡ true) × (json ≡ in_json c)
      by true h = (refl, ap (λ o. unwrap_or o json) h)
      by false h = absurd cc

  held-none : None ≡ held_compilation c → is_text c ≡ false
  held-none is = by (is_text c) is
    where
      by : (b : Bool) → None ≡ cond b (Some (in_json c)) None → b ≡ false
      by true h = absurd cc
      by false h = refl

-- texts before the first text that JSON cannot contain
module _ (entries : List ReadStatement) (rules : List (List ℕ)) (expand : Bool) where
  abbrev reported : ℕ → Compilation
  reported edge = compilation_of entries expand edge

  abbrev unheld_number : ℕ → Bool
  unheld_number edge = not (is_text (reported edge))

  pub held-front : (ns ms : List ℕ) → find unheld_number ns ≡ None
      → take_while is_text (map reported (ns ++ ms)) ≡ map reported ns ++ take_while is_text (map reported ms)
  held-front [] ms none = refl
  held-front (n ∷ ns) ms none = take_while-cons is_text (reported n) (map reported (ns ++ ms))
      ∙ by (is_text (reported n)) (held-front ns ms) none
    where
      by : (b : Bool) → (find unheld_number ns ≡ None
          → take_while is_text (map reported (ns ++ ms))
          ≡ map reported ns ++ take_while is_text (map reported ms))
          → cond (not b) (Some n) (find unheld_number ns) ≡ None
          → cond b (reported n ∷ take_while is_text (map reported (ns ++ ms))) []
          ≡ reported n ∷ (map reported ns ++ take_while is_text (map reported ms))
      by true rest h = ap (λ cs. reported n ∷ cs) (rest h)
      by false rest h = absurd cc

-- ---- edge by edge

-- the text before the next object
abbrev pub separator_of : (first : Bool) → List ℕ
separator_of first = if first then 10 ∷ [] else 44 ∷ 10 ∷ []

module _ (entries : List ReadStatement) (rules : List (List ℕ)) (expand : Bool) (directory : List ℕ) where
  -- an edge has an object
  abbrev pub lists : GraphEdge → Bool
  lists edge = unwrap_or (option_map (has_object entries rules) (slice_get (edges_read entries) edge.number))
      false

  -- the text that is left of the list, which ends before the first edge that JSON cannot contain
  unfoldable pub list_left : (first : Bool) → List GraphEdge → List ℕ
  list_left first [] = codes "\n]\n"
  list_left first (edge ∷ edges) =
      if lists edge then
      (if is_text (compilation_of entries expand edge.number)
      then (separator_of first ++ object_text directory (compilation_of entries expand edge.number))
      ++ list_left false edges
      else [])
      else list_left first edges

  -- the first of the given edges that JSON cannot contain
  unfoldable pub unheld_left : List GraphEdge → Option GraphEdge
  unheld_left [] = None
  unheld_left (edge ∷ edges) =
      if lists edge then
      (if is_text (compilation_of entries expand edge.number) then unheld_left edges else Some edge)
      else unheld_left edges

  pub left-none : (first : Bool) (edges : List GraphEdge) → edges ≡ [] → list_left first edges ≡ codes "\n]\n"
  unfolding list_left
  left-none first edges none = ap (list_left first) none

  pub unheld-none : (edges : List GraphEdge) → edges ≡ [] → unheld_left edges ≡ None
  unfolding unheld_left
  unheld-none edges none = ap unheld_left none

  module _ (first : Bool) (before : List GraphEdge) (edge : GraphEdge) (edges : List GraphEdge)
      (is : before ≡ edge ∷ edges) where
    -- the next edge has no object
    module _ (other : lists edge ≡ false) where
      pub left-skips : list_left first before ≡ list_left first edges
      unfolding list_left
      left-skips = ap (list_left first) is ∙ ap (λ (b : Bool). if b then
          (if is_text (compilation_of entries expand edge.number)
          then (separator_of first ++ object_text directory (compilation_of entries expand edge.number))
          ++ list_left false edges
          else [])
          else list_left first edges) other

      pub unheld-skips : unheld_left before ≡ unheld_left edges
      unfolding unheld_left
      unheld-skips = ap unheld_left is ∙ ap (λ (b : Bool). if b then
          (if is_text (compilation_of entries expand edge.number) then unheld_left edges else Some edge)
          else unheld_left edges) other

    module _ (listed : lists edge ≡ true) where
      listed-left : list_left first before ≡ (if is_text (compilation_of entries expand edge.number)
          then (separator_of first ++ object_text directory (compilation_of entries expand edge.number))
          ++ list_left false edges
          else [])
      unfolding list_left
      listed-left = ap (list_left first) is ∙ ap (λ (b : Bool). if b then
          (if is_text (compilation_of entries expand edge.number)
          then (separator_of first ++ object_text directory (compilation_of entries expand edge.number))
          ++ list_left false edges
          else [])
          else list_left first edges) listed

      listed-unheld : unheld_left before
          ≡ (if is_text (compilation_of entries expand edge.number) then unheld_left edges else Some edge)
      unfolding unheld_left
      listed-unheld = ap unheld_left is ∙ ap (λ (b : Bool). if b then
          (if is_text (compilation_of entries expand edge.number) then unheld_left edges else Some edge)
          else unheld_left edges) listed

      -- JSON cannot contain it
      module _ (none : None ≡ held_compilation (compilation_of entries expand edge.number)) where
        pub left-ends : list_left first before ≡ []
        left-ends = listed-left ∙ ap (λ (b : Bool). if b
            then (separator_of first ++ object_text directory (compilation_of entries expand edge.number))
            ++ list_left false edges
            else []) (held-none (compilation_of entries expand edge.number) none)

        pub unheld-here : unheld_left before ≡ Some edge
        unheld-here = listed-unheld ∙ ap (λ (b : Bool). if b then unheld_left edges else Some edge)
            (held-none (compilation_of entries expand edge.number) none)

      -- it has an object
      module _ (json : Compilation) (some : Some json
          ≡ held_compilation (compilation_of entries expand edge.number)) where
        held : (is_text (compilation_of entries expand edge.number) ≡ true)
            × (json ≡ in_json (compilation_of entries expand edge.number))
        held = held-some (compilation_of entries expand edge.number) json some

        pub left-next : (separator : List ℕ) → separator ≡ separator_of first
            → list_left first before
            ≡ (separator ++ object_of_strings directory json) ++ list_left false edges
        left-next separator separator_is =
            listed-left ∙ ap (λ (b : Bool). if b
            then (separator_of first ++ object_text directory (compilation_of entries expand edge.number))
            ++ list_left false edges
            else []) held.0
            ∙ (λ i. (sym separator_is i ++ (object-is directory (compilation_of entries expand edge.number)
            ∙ ap (object_of_strings directory) (sym held.1)) i) ++ list_left false edges)

        pub unheld-next : unheld_left before ≡ unheld_left edges
        unheld-next = listed-unheld ∙ ap (λ (b : Bool). if b then unheld_left edges else Some edge) held.0

  -- ---- all edges

  module _ (g : GraphModel) where
    abbrev passes : ℕ → Bool
    passes number = lists (edge_in g number)

    abbrev unheld : ℕ → Bool
    unheld number = not (is_text (compilation_of entries expand number))

    abbrev comp : ℕ → Compilation
    comp number = compilation_of entries expand number

    abbrev end_of : List ℕ → List ℕ
    end_of numbers = end_text (find unheld numbers)

    -- after the first object
    more-left : (numbers : List ℕ)
        → list_left false (edges_in g numbers)
        ≡ flat_map (following directory) (take_while is_text (map comp (filter passes numbers)))
        ++ end_of (filter passes numbers)
    unfolding list_left
    more-left [] = refl
    more-left (n ∷ numbers) = by (passes n) (more-left numbers)
      where
        rest : List ℕ
        rest = filter passes numbers

        by : (b : Bool) → list_left false (edges_in g numbers)
            ≡ flat_map (following directory) (take_while is_text (map comp rest)) ++ end_of rest
            → (if b then
            (if is_text (comp n) then ((44 ∷ 10 ∷ []) ++ object_text directory (comp n))
            ++ list_left false (edges_in g numbers)
            else [])
            else list_left false (edges_in g numbers))
            ≡ flat_map (following directory) (take_while is_text (map comp (cond b (n ∷ rest) rest)))
            ++ end_of (cond b (n ∷ rest) rest)
        by false is = is
        by true is = here (is_text (comp n))
            ∙ ap (λ cs. flat_map (following directory) cs ++ end_of (n ∷ rest))
            (sym (take_while-cons is_text (comp n) (map comp rest)))
          where
            here : (h : Bool) → (if h
                then ((44 ∷ 10 ∷ []) ++ object_text directory (comp n))
                ++ list_left false (edges_in g numbers)
                else [])
                ≡ flat_map (following directory) (cond h (comp n ∷ take_while is_text (map comp rest)) [])
                ++ end_text (cond (not h) (Some n) (find unheld rest))
            here true = ap (λ t. ((44 ∷ 10 ∷ []) ++ object_text directory (comp n)) ++ t) is
                ∙ sym (append_assoc ((44 ∷ 10 ∷ []) ++ object_text directory (comp n))
                (flat_map (following directory) (take_while is_text (map comp rest))) (end_of rest))
            here false = refl

    all-left : (numbers : List ℕ)
        → list_left true (edges_in g numbers)
        ≡ objects_text directory (take_while is_text (map comp (filter passes numbers)))
        ++ end_of (filter passes numbers)
    unfolding list_left objects_text
    all-left [] = refl
    all-left (n ∷ numbers) = by (passes n) (all-left numbers)
      where
        rest : List ℕ
        rest = filter passes numbers

        by : (b : Bool) → list_left true (edges_in g numbers)
            ≡ objects_text directory (take_while is_text (map comp rest)) ++ end_of rest
            → (if b then
            (if is_text (comp n) then ((10 ∷ []) ++ object_text directory (comp n))
            ++ list_left false (edges_in g numbers)
            else [])
            else list_left true (edges_in g numbers))
            ≡ objects_text directory (take_while is_text (map comp (cond b (n ∷ rest) rest)))
            ++ end_of (cond b (n ∷ rest) rest)
        by false is = is
        by true is = here (is_text (comp n))
            ∙ ap (λ cs. objects_text directory cs ++ end_of (n ∷ rest))
            (sym (take_while-cons is_text (comp n) (map comp rest)))
          where
            here : (h : Bool) → (if h
                then ((10 ∷ []) ++ object_text directory (comp n)) ++ list_left false (edges_in g numbers)
                else [])
                ≡ objects_text directory (cond h (comp n ∷ take_while is_text (map comp rest)) [])
                ++ end_text (cond (not h) (Some n) (find unheld rest))
            here true = ap (λ t. ((10 ∷ []) ++ object_text directory (comp n)) ++ t) (more-left numbers)
                ∙ sym (append_assoc ((10 ∷ []) ++ object_text directory (comp n))
                (flat_map (following directory) (take_while is_text (map comp rest))) (end_of rest))
            here false = refl

    unheld-all : (numbers : List ℕ)
        → unheld_left (edges_in g numbers) ≡ option_map (edge_in g) (find unheld (filter passes numbers))
    unfolding unheld_left
    unheld-all [] = refl
    unheld-all (n ∷ numbers) = by (passes n) (unheld-all numbers)
      where
        by : (b : Bool) → unheld_left (edges_in g numbers)
            ≡ option_map (edge_in g) (find unheld (filter passes numbers))
            → (if b then (if is_text (comp n) then unheld_left (edges_in g numbers) else Some (edge_in g n))
            else unheld_left (edges_in g numbers))
            ≡ option_map (edge_in g) (find unheld
            (cond b (n ∷ filter passes numbers) (filter passes numbers)))
        by false is = is
        by true is = here (is_text (comp n))
          where
            here : (h : Bool) → (if h then unheld_left (edges_in g numbers) else Some (edge_in g n))
                ≡ option_map (edge_in g) (cond (not h) (Some n) (find unheld (filter passes numbers)))
            here true = is
            here false = refl

    module _ (is : IsGraphOf g entries) where
      abbrev pub all_edges : List GraphEdge
      all_edges = edges_in g (range_with_len 0 (length (edges_of g)))

      listed-are : listed_edges entries rules ≡ filter passes (range_with_len 0 (length (edges_of g)))
      unfolding listed_edges
      listed-are =
          edges-pass (has_object entries rules) passes 0 (edges_read entries) (λ i e at.
          let on : 0 + i ≡ i = omega arith in
          ap passes on ∙ ap (λ o. unwrap_or (option_map (has_object entries rules) o) false) at)
          ∙ ap (λ n. filter passes (range_with_len 0 n)) (sym (edge-count g entries is))

      pub list-all : codes "[" ++ list_left true all_edges ≡ list_text entries directory rules expand
      list-all =
          ap (λ t. codes "[" ++ t) (all-left (range_with_len 0 (length (edges_of g)))
          ∙ ap (λ ns. objects_text directory (take_while is_text (map comp ns)) ++ end_of ns)
          (sym listed-are))
          ∙ sym (append_assoc (codes "[") (objects_text directory (held_before entries rules expand))
          (end_text (unheld_edge entries rules expand)))

      pub unheld-is : unheld_left all_edges ≡ option_map (edge_in g) (unheld_edge entries rules expand)
      unheld-is = unheld-all (range_with_len 0 (length (edges_of g)))
          ∙ ap (λ ns. option_map (edge_in g) (find unheld ns)) (sym listed-are)

-- ---- an edge that is refused

pub refused-is : (entries : List ReadStatement) (g : GraphModel) (edge : Option Edge) (number : Option ℕ)
    → option_map edge_of edge ≡ option_map (edge_in g) number → IsGraphOf g entries
    → IfSome edge (λ e. IsGraphOf (edge_of e).graph entries)
    × (option_map (λ e. text_fault entries (edge_of e).number) edge ≡ option_map (text_fault entries) number)
refused-is entries g None None is graph = (tt, refl)
refused-is entries g None (Some n) is graph = absurd cc
refused-is entries g (Some e) None is graph = absurd cc
refused-is entries g (Some e) (Some n) is graph =
    let same : edge_of e ≡ edge_in g n = cc in (
      subst (λ (x : GraphEdge). IsGraphOf x.graph entries) (sym same) graph,
      ap (λ (x : GraphEdge). Some (text_fault entries x.number)) same,
    )

-- ---- the whole list

-- a fault within the text, which is answered
pub list-stops : (old new : SinkState) (text : List ℕ) (refused : Option GraphFault) (fault : ToolFault)
    (result : Result Unit ToolFault)
    → IsErrAnd result (λ e. e ≡ fault) → StopsWithin old new text fault
    → WritesCompdb old new text refused result
list-stops old new text refused fault result err stops =
    let (e, is, same) = err_from_is_err_and result err in rw (is, same) (by fault stops)
  where
    by : (f : ToolFault) → StopsWithin old new text f → WritesCompdb old new text refused (Err f)
    by Write within = within
    by OutOfMemory within = within
    by (TextNotUtf8 f) within = absurd within

-- memory ran out before anything was written
pub list_no_memory : (s : SinkState) (text : List ℕ) (refused : Option GraphFault)
    (result : Result Unit ToolFault)
    → IsErrAnd result (λ e. e ≡ OutOfMemory) → WritesCompdb s s text refused result
list_no_memory s text refused result err =
    list-stops s s text refused OutOfMemory result err ([], (text, refl), Takes-nil s)

-- all before an edge that is refused was written, or the whole text
pub list-ends : (old new : SinkState) (text : List ℕ) (refused : Option GraphFault)
    (result : Result Unit ToolFault)
    → Takes old new text → Refuses refused result → WritesCompdb old new text refused result
list-ends old new text refused (Ok done) took is = (is, took)
list-ends old new text refused (Err (TextNotUtf8 f)) took is = (is, took)
list-ends old new text refused (Err Write) took is = absurd is
list-ends old new text refused (Err OutOfMemory) took is = (text, ([], sym (append-nil text)), took)

-- there was no memory for the place of the edge
pub refuses_none : (refused : Option GraphFault) (result : Result Unit ToolFault)
    → IsErrAnd result (λ e. e ≡ OutOfMemory) → Refuses refused result
refuses_none refused result err = let (e, is, same) = err_from_is_err_and result err in rw (is, same) tt

module _ (entries : List ReadStatement) (directory : List ℕ) (chosen rules : List (List ℕ)) (expand : Bool)
    (same : (rule : List ℕ) → is_chosen chosen rule ≡ is_chosen rules rule) where
  listed-same : listed_edges entries chosen ≡ listed_edges entries rules
  unfolding listed_edges
  listed-same =
      ap (λ (f : List ℕ → Bool). edges_from 0
      (λ e. not e.paths.is_phony && not (is_empty (inputs_of e.paths)) && f (rule_name_of entries e))
      (edges_read entries)) (λ i rule. same rule i)

  -- the edge that was refused has the fault
  pub fault-is : (unheld : Option ℕ) → unheld ≡ unheld_edge entries chosen expand
      → option_map (text_fault entries) unheld
      ≡ option_map (text_fault entries) (unheld_edge entries rules expand)
  fault-is unheld is = ap (option_map (text_fault entries))
      (is ∙ ap (λ ns. find (λ edge. not (is_text (compilation_of entries expand edge))) ns) listed-same)

  pub list-is : (json : List ℕ) → json ≡ json_string directory
      → list_text entries json chosen expand ≡ compdb_text entries directory rules expand
  unfolding compdb_text
  list-is json json_is =
      ap (λ d. codes "[" ++ objects_text d (held_before entries chosen expand)
      ++ end_text (unheld_edge entries chosen expand)) json_is
      ∙ ap (λ ns. codes "[" ++ objects_text (json_string directory)
      (take_while is_text (map (compilation_of entries expand) ns))
      ++ end_text (find (λ edge. not (is_text (compilation_of entries expand edge))) ns)) listed-same
