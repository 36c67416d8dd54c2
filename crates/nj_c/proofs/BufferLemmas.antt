-- Items of lists, written to a buffer one after another.
use Rattle.std.proofs.Common.{◌≡◌, ◌<◌, ◌+◌, ◌-◌, min, ℕ, ℤ, pos, Some, List, [], ◌∷◌, ◌++◌, length, map}
use Rattle.std.proofs.Common.{take, drop, set, get_or, slice_get, sym, ap, ◌∙◌, append_assoc, arith}
use Rattle.std.proofs.lemmas.List.{drop_more, drop_min, get_or-drop, get_or-map, length-drop, length-map}
use Rattle.std.proofs.lemmas.List.{length-take-le, set_at, take_min, take_more}
use Rattle.std.proofs.lemmas.List.FromFn.{get_or-map-range_with_len, length-map-range_with_len}
use Rattle.nj_names.specs.declared.files.FileNo.{FileNo}
use Rattle.nj_edges.specs.Edges.{EdgePaths, inputs_of, kind_at}
use Rattle.nj_names.specs.Files.{AreFiles}
use Rattle.nj_c.specs.Asking.{kind_code}
use Rattle.nj_c.specs.Buffers.{filled, kinds_of}

-- a buffer to whose front the first items were written, so many
abbrev pub written_up_to : {A : Type 0} → (at : ℕ) → (items before : List A) → List A
written_up_to at items before = take at items ++ drop at before

-- one more item
written-more : {A : Type 0} (items before buffer : List A) (at : ℕ) (x d : A) → at < length items
    → at < length before → x ≡ get_or items at d
    → buffer ≡ written_up_to at items before → set buffer at x ≡ written_up_to (at + 1) items before
written-more items before buffer at x d inside room is held =
    ap (λ b. set b at x) (held ∙ ap (λ rest. take at items ++ rest) (drop_more before at d room))
    ∙ set_at (take at items) (get_or before at d) (drop (at + 1) before) x at
    (length-take-le at items (omega arith))
    ∙ ap (λ y. take at items ++ y ∷ drop (at + 1) before) is
    ∙ sym (append_assoc (take at items) (get_or items at d ∷ []) (drop (at + 1) before))
    ∙ ap (λ front. front ++ drop (at + 1) before) (sym (take_more items at d inside))

-- all that fit
written-all : {A : Type 0} (items before buffer : List A) (n : ℕ) → n ≡ min (length items) (length before)
    → buffer ≡ written_up_to n items before
    → buffer ≡ filled items before
written-all items before buffer n fits held =
    let turned : n ≡ min (length before) (length items) = omega (arith, fits) in
    held ∙ ap (λ m. take m items ++ drop n before) turned
    ∙ ap (λ front. front ++ drop n before) (take_min (length before) items)
    ∙ ap (λ m. take (length before) items ++ drop m before) fits
    ∙ ap (λ rest. take (length before) items ++ rest) (drop_min (length items) before)

-- ---- of a list from an index on

pub rest-more : {A : Type 0} (items before buffer : List A) (from at : ℕ) (x d : A) → from + at < length items
    → at < length before
    → x ≡ get_or items (from + at) d → buffer ≡ written_up_to at (drop from items) before
    → set buffer at x ≡ written_up_to (at + 1) (drop from items) before
rest-more items before buffer from at x d inside room is held =
    let left : length (drop from items) ≡ length items - from = length-drop from items in
    written-more (drop from items) before buffer at x d (omega (arith, left, inside)) room
    (is ∙ sym (get_or-drop from items at d)) held

pub rest-all : {A : Type 0} (items before buffer : List A) (from n : ℕ)
    → n ≡ min (length items - from) (length before)
    → buffer ≡ written_up_to n (drop from items) before → buffer ≡ filled (drop from items) before
rest-all items before buffer from n fits held =
    written-all (drop from items) before buffer n
    (fits ∙ ap (λ m. min m (length before)) (sym (length-drop from items))) held

-- ---- numbers

pub number-more : {A : Type 0} (number : A → ℕ) (list : List A) (before buffer : List ℕ) (from at : ℕ) (d : A)
    → from + at < length list → at < length before
    → buffer ≡ written_up_to at (drop from (map number list)) before
    → set buffer at (number (get_or list (from + at) d))
    ≡ written_up_to (at + 1) (drop from (map number list)) before
number-more number list before buffer from at d inside room held =
    let count : length (map number list) ≡ length list = length-map list number in
    rest-more (map number list) before buffer from at (number (get_or list (from + at) d)) (number d)
    (omega (arith, count, inside)) room
    (sym (get_or-map number list (from + at) d (number d) inside)) held

pub numbers-all : {A : Type 0} (number : A → ℕ) (list : List A) (before buffer : List ℕ) (from n : ℕ)
    → n ≡ min (length list - from) (length before)
    → buffer ≡ written_up_to n (drop from (map number list)) before
    → buffer ≡ filled (drop from (map number list)) before
numbers-all number list before buffer from n fits held =
    rest-all (map number list) before buffer from n
    (fits ∙ ap (λ m. min (m - from) (length before)) (sym (length-map list number))) held

-- ---- structs, each of which is made from an item

pub made-more : {A B : Type 0} (make : A → B) (list : List A) (before buffer : List B) (at : ℕ) (d : A)
    (x : B) → at < length list → at < length before
    → x ≡ make (get_or list at d) → buffer ≡ written_up_to at (map make list) before
    → set buffer at x ≡ written_up_to (at + 1) (map make list) before
made-more make list before buffer at d x inside room is held =
    let count : length (map make list) ≡ length list = length-map list make in
    written-more (map make list) before buffer at x (make d) (omega (arith, count, inside)) room
    (is ∙ sym (get_or-map make list at d (make d) inside)) held

pub made-all : {A B : Type 0} (make : A → B) (list : List A) (before buffer : List B) (n : ℕ)
    → n ≡ min (length list) (length before)
    → buffer ≡ written_up_to n (map make list) before → buffer ≡ filled (map make list) before
made-all make list before buffer n fits held =
    written-all (map make list) before buffer n
    (fits ∙ ap (λ m. min m (length before)) (sym (length-map list make))) held

-- ---- kinds of inputs

pub files-count : (files : List (List ℕ)) (list : List FileNo) (paths : List (List ℕ))
    → AreFiles files list paths → length list ≡ length paths
files-count files list paths are = sym (length-map list (λ (file : FileNo). slice_get files file.0))
    ∙ ap length are ∙ length-map paths Some

pub kind-more : (e : EdgePaths) (before buffer : List ℤ) (from at : ℕ) (x : ℤ)
    → from + at < length (inputs_of e) → at < length before
    → x ≡ kind_code (kind_at e (from + at)) → buffer ≡ written_up_to at (drop from (kinds_of e)) before
    → set buffer at x ≡ written_up_to (at + 1) (drop from (kinds_of e)) before
kind-more e before buffer from at x inside room is held =
    let code = λ (index : ℕ). kind_code (kind_at e index) in
    let count : length (kinds_of e) ≡ length (inputs_of e) =
    length-map-range_with_len code 0 (length (inputs_of e)) in
    rest-more (kinds_of e) before buffer from at x (pos 0) (omega (arith, count, inside)) room
    (is ∙ sym (get_or-map-range_with_len code 0 (length (inputs_of e)) (from + at) (from + at) (pos 0) inside
    (omega arith))) held

pub kinds-all : (e : EdgePaths) (before buffer : List ℤ) (from n : ℕ)
    → n ≡ min (length (inputs_of e) - from) (length before)
    → buffer ≡ written_up_to n (drop from (kinds_of e)) before
    → buffer ≡ filled (drop from (kinds_of e)) before
kinds-all e before buffer from n fits held =
    let code = λ (index : ℕ). kind_code (kind_at e index) in
    rest-all (kinds_of e) before buffer from n
    (fits ∙ ap (λ m. min (m - from) (length before))
    (sym (length-map-range_with_len code 0 (length (inputs_of e))))) held
