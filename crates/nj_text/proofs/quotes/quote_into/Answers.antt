use Rattle.std.proofs.Common.{◌≡◌, ◌<◌, ◌∙◌, ap, arith, length, ◌++◌, take, List, ℕ}
use Rattle.std.specs.List.{list_all, prefix_len}
use Rattle.std.proofs.lemmas.List.Sums.{prefix_len-le-length}
use Rattle.nj_text.specs.Quotes.{in_quotes, is_plain_byte}
use Rattle.nj_text.proofs.PlainFronts.{front_passes, some_fails}
use Rattle.nj_text.proofs.QuotedStrings.{quoted-plain, quoted-in_quotes}
use Rattle.nj_text.proofs.quotes.quote_into.Goals as goal

pub returns-then-plain-path-clause-ok : goal.returns-then-plain-path-clause-ok
returns-then-plain-path-clause-ok c =
    let n = c.plain_front-plain.result in
    let path = c.args.path.now in
    let all : n ≡ length path = omega arith in
    c.in_ok-extend_from_slice.ensures.items
    ∙ ap (λ xs. c.args.out.now.items ++ xs)
    (quoted-plain path n all (ap (λ k. list_all is_plain_byte (take k path)) c.plain_front-plain.ensures
    ∙ front_passes is_plain_byte path))

pub split_at-requires : goal.split_at-requires
split_at-requires c = omega (
  arith,
  c.plain_front-plain.ensures,
  prefix_len-le-length is_plain_byte c.args.path.now,
)

pub push_quoted-requires : goal.push_quoted-requires
push_quoted-requires c =
    let path = c.args.path.now in
    ap (list_all is_plain_byte) (c.split_at.ensures.front ∙ ap (λ k. take k path) c.plain_front-plain.ensures)
    ∙ front_passes is_plain_byte path

pub returns-clause-ok : goal.returns-clause-ok
returns-clause-ok c =
    let n = c.plain_front-plain.result in
    let path = c.args.path.now in
    let old = c.args.out.now.items in
    let short : prefix_len is_plain_byte path < length path =
    omega (
      arith,
      c.if-plain-path.false,
      c.plain_front-plain.ensures,
      prefix_len-le-length is_plain_byte path,
    ) in
    c.in_default.ensures.ok ∙ ap (λ (front : List ℕ). old ++ in_quotes (front ++ c.split_at.result.1.now))
    c.split_at.ensures.front
    ∙ ap (λ (back : List ℕ). old ++ in_quotes (take n path ++ back)) c.split_at.ensures.back
    ∙ ap (λ xs. old ++ xs) (quoted-in_quotes path n (some_fails is_plain_byte path short))
