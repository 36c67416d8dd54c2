-- Lemmas on records as bytes: at most one record is at the front.
use Rattle.std.proofs.lemmas.Grind.{common_steps}
use Rattle.std.proofs.Common.{◌≡◌, ◌<◌, ◌≤◌, ◌+◌, ◌^◌, ◌%◌, ℕ, List, [], ◌∷◌, ◌++◌, length, refl, sym, ap}
use Rattle.std.proofs.Common.{subst, ◌∙◌, arith, append_assoc, length-append}
use Rattle.std.specs.List.{AllByRecursion, flat_map, fold}
use Rattle.nj_deps.specs.LogRecords.{LogRecord, word, content_of, kind_bit, bytes_of, Counts}
use Rattle.nj_deps.specs.LogRecords.LogRecord.{path, dependencies}
use Rattle.nj_deps.specs.Logs.{with_path, CountInTurn, EndsBefore}
use Rattle.nj_deps.specs.Inside.RecordsRead.{IsFramed, IsUnframed, IsContent, IsKind}
use Rattle.nj_deps.proofs.WordLemmas.{apart, apart_last, length-word, word_is, words_are}

-- ---- frames

abbrev pub head : LogRecord → ℕ
head r = kind_bit r + length (content_of r)

pub framed : (r : LogRecord) (more : List ℕ) → length (content_of r) ≤ 524287
    → IsFramed (bytes_of r ++ more) (head r) (content_of r) more
framed r more small = grind (arith, common_steps)

pub head_fits : (r : LogRecord) → length (content_of r) ≤ 524287 → head r < 2 ^ 32
head_fits r small = grind arith

-- one frame is at the front
pub record IsSame (h k : ℕ) (c d a b : List ℕ) : Type 0 where
  pub heads : h ≡ k
  pub contents : c ≡ d
  pub afters : a ≡ b

pub one_frame : (bytes : List ℕ) (h k : ℕ) (c d a b : List ℕ) → h < 2 ^ 32 → k < 2 ^ 32 → IsFramed bytes h c a
    → IsFramed bytes k d b → IsSame h k c d a b
one_frame bytes h k c d a b small_h small_k f g =
    let first = apart (word h) (word k) (c ++ a) (d ++ b) (length-word h ∙ sym (length-word k))
    (sym f.cut ∙ g.cut) in
    let heads : h ≡ k = word_is h k small_h small_k first.0 in
    let sizes : length c ≡ length d = f.size ∙ ap (λ n. n % 2 ^ 31) heads ∙ sym g.size in
    let second = apart c d a b sizes first.1 in
    record { heads = heads; contents = second.0; afters = second.1 }

pub frame-long : (bytes : List ℕ) (h : ℕ) (c a : List ℕ) → IsFramed bytes h c a → 4 ≤ length bytes
frame-long bytes h c a f = grind (arith, length, length-append, length-word)

-- the facts about a frame with this head
pub record IsFrameAt (rest : List ℕ) (h k : ℕ) (c a : List ℕ) : Type 0 where
  pub heads : h ≡ k
  pub rests : rest ≡ c ++ a

pub frame-at : (bytes rest : List ℕ) (h k : ℕ) (c a : List ℕ) → h < 2 ^ 32 → k < 2 ^ 32
    → bytes ≡ word k ++ rest → IsFramed bytes h c a → IsFrameAt rest h k c a
frame-at bytes rest h k c a small_h small_k cut f =
    let both = apart (word h) (word k) (c ++ a) rest (length-word h ∙ sym (length-word k)) (sym f.cut ∙ cut)
    in
    record { heads = word_is h k small_h small_k both.0; rests = sym both.1 }

-- the size of the content is in the head
pub frame-size : (bytes rest : List ℕ) (h k : ℕ) (c a : List ℕ) → h < 2 ^ 32 → k < 2 ^ 32
    → bytes ≡ word k ++ rest → IsFramed bytes h c a → (k % 2 ^ 31 ≤ 524287) × (k % 2 ^ 31 ≤ length rest)
frame-size bytes rest h k c a small_h small_k cut f =
    let at = frame-at bytes rest h k c a small_h small_k cut f in
    let size : length c ≡ k % 2 ^ 31 = f.size ∙ ap (λ n. n % 2 ^ 31) at.heads in
    let small = f.small in
    let l : length rest ≡ length (c ++ a) = ap length at.rests in
    (subst (λ n. n ≤ 524287) size small, subst (λ n. n ≤ length rest) size (omega (arith, length-append c a)))

-- ---- one record has a content

pub known-small : (count : ℕ) (ns : List ℕ) → count ≤ 2 ^ 32 → AllByRecursion (λ n. n < count) ns
    → AllByRecursion (λ n. n < 2 ^ 32) ns
known-small count [] small known = tt
known-small count (n ∷ ns) small known = grind (arith, known-small count ns small known.1)

pub one_record : (paths : List (List ℕ)) (r s : LogRecord) → length paths ≤ 2 ^ 32 → Counts paths r
    → Counts paths s → kind_bit r ≡ kind_bit s → content_of r ≡ content_of s → r ≡ s
one_record paths (path p c) (path q d) few one other kind same =
    let both = apart_last p q (word c) (word d) (length-word c ∙ sym (length-word d)) same in
    let first = one.fits.number in
    let second = other.fits.number in
    let complements : c ≡ d = word_is c d (omega arith) (omega arith) both.1 in
    let padded : p ≡ q = both.0 in
    cc
one_record paths (path p c) (dependencies o l h ns) few one other kind same = absurd (omega arith)
one_record paths (dependencies o l h ns) (path q d) few one other kind same = absurd (omega arith)
one_record paths (dependencies o l h ns) (dependencies o' l' h' ms) few one other kind same =
    let first = one.fits in
    let second = other.fits in
    let below : o < length paths = first.output_known in
    let below' : o' < length paths = second.output_known in
    let lists : o ∷ l ∷ h ∷ ns ≡ o' ∷ l' ∷ h' ∷ ms = words_are (o ∷ l ∷ h ∷ ns) (o' ∷ l' ∷ h' ∷ ms)
    (omega arith, (first.low_fits, (first.high_fits, known-small (length paths) ns few first.inputs_known))) (
      omega arith,
      (
        second.low_fits,
        (
          second.high_fits,
          known-small (length paths) ms few second.inputs_known,
        ),
      ),
    ) same in
    cc

-- ---- the front of the bytes

pub none-unframed : (paths : List (List ℕ)) (bytes : List ℕ) → IsUnframed bytes → EndsBefore paths bytes
none-unframed paths bytes unframed r more counts e = grind (arith, common_steps)

pub kind_path : (h : ℕ) → h < 2 ^ 31 → IsKind h 0
kind_path h below = grind arith

pub kind_dependencies : (h : ℕ) → 2 ^ 31 ≤ h → h < 2 ^ 32 → IsKind h (2 ^ 31)
kind_dependencies h above below = grind arith

pub none-framed : (paths : List (List ℕ)) (bytes : List ℕ) (h bit : ℕ) (content after : List ℕ) → h < 2 ^ 32
    → IsKind h bit → IsFramed bytes h content after
    → ((r : LogRecord) → IsContent bit content r → Counts paths r → ⊥) → EndsBefore paths bytes
none-framed paths bytes h bit content after small kind frame none r more counts e =
    let other = subst (λ b. IsFramed b (head r) (content_of r) more) (sym e) (framed r more counts.size) in
    let same = one_frame bytes h (head r) content (content_of r) after more small (head_fits r counts.size)
    frame other in
    none r (record { kind = kind.kind r counts.size same.heads; same = sym same.contents }) counts

pub some-framed : (bytes : List ℕ) (h bit : ℕ) (content after : List ℕ) (r : LogRecord) → IsKind h bit
    → IsFramed bytes h content after → IsContent bit content r → bytes ≡ bytes_of r ++ after
some-framed bytes h bit content after r kind frame is = grind (arith, common_steps)

pub shorter : (r : LogRecord) (bytes after : List ℕ) → bytes ≡ bytes_of r ++ after
    → length after < length bytes
shorter r bytes after e = grind (arith, length, length-append, length-word)

-- ---- many records

few-more : (paths : List (List ℕ)) (r : LogRecord) → Counts paths r → length paths ≤ 2 ^ 32
    → length (with_path paths r) ≤ 2 ^ 32
few-more paths r counts few = grind (arith, common_steps)

pub one_cut : (paths : List (List ℕ)) (rs ss : List LogRecord) (x y : List ℕ) → length paths ≤ 2 ^ 32
    → CountInTurn paths rs → CountInTurn paths ss
    → EndsBefore (fold with_path paths rs) x → EndsBefore (fold with_path paths ss) y
    → flat_map bytes_of rs ++ x ≡ flat_map bytes_of ss ++ y → (rs ≡ ss) × (x ≡ y)
one_cut paths [] [] x y few one other ends ends' e = (refl, e)
one_cut paths [] (s ∷ ss) x y few one other ends ends' e = grind (
  arith,
  append_assoc (bytes_of s) (flat_map bytes_of ss) y,
)
one_cut paths (r ∷ rs) [] x y few one other ends ends' e = grind (
  arith,
  append_assoc (bytes_of r) (flat_map bytes_of rs) x,
)
one_cut paths (r ∷ rs) (s ∷ ss) x y few one other ends ends' e =
    let left = flat_map bytes_of rs ++ x in
    let right = flat_map bytes_of ss ++ y in
    let cut : bytes_of r ++ left ≡ bytes_of s ++ right =
    sym (append_assoc (bytes_of r) (flat_map bytes_of rs) x) ∙ e
    ∙ append_assoc (bytes_of s) (flat_map bytes_of ss) y in
    let there = subst (λ b. IsFramed b (head s) (content_of s) right) (sym cut) (framed s right other.0.size)
    in
    let same = one_frame (bytes_of r ++ left) (head r) (head s) (content_of r) (content_of s) left right
    (head_fits r one.0.size) (head_fits s other.0.size) (framed r left one.0.size) there in
    let sizes : length (content_of r) ≡ length (content_of s) = ap length same.contents in
    let heads : head r ≡ head s = same.heads in
    let is : r ≡ s = one_record paths r s few one.0 other.0 (omega arith) same.contents in
    let next : CountInTurn (with_path paths r) ss =
    subst (λ q. CountInTurn (with_path paths q) ss) (sym is) other.1 in
    let last : EndsBefore (fold with_path (with_path paths r) ss) y =
    subst (λ q. EndsBefore (fold with_path (with_path paths q) ss) y) (sym is) ends' in
    let rest = one_cut (with_path paths r) rs ss x y (few-more paths r one.0 few) one.1 next ends last
    same.afters in
    (ap (λ q. q ∷ rs) is ∙ ap (λ qs. s ∷ qs) rest.0, rest.1)
