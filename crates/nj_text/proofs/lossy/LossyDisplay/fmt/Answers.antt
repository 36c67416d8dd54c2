use Rattle.std.proofs.Common.{◌++◌, sym, ap, ◌∙◌, append_assoc, append-nil, rules}
use Rattle.std.proofs.Output.{has_written_append, has_written_of_eq}
use Rattle.std.proofs.lemmas.Str.{utf8_lossy_empty}
use Rattle.std.specs.Str.Chunks.{utf8_chunks_rest}
use Rattle.nj_text.specs.Inside.Chunks.{replaced}
use Rattle.nj_text.proofs.LossyChunks.{lossy-chunk}
use Rattle.nj_text.proofs.lossy.LossyDisplay.fmt.Goals as goal

pub loop-chunk-preserved : goal.loop-chunk-preserved
loop-chunk-preserved g c =
    λ plain.
    let so_far = c.loop-chunk.invariant plain in
    let steps = c.in-Some.ensures.steps in
    let chunk = lossy-chunk _ _ _ _ steps.0 steps.3.0 steps.3.1 steps.2 in (
      so_far.0 ++ (c.in-Some.chunk.valid.now ++ replaced c.in-Some.chunk.invalid.now),
      has_written_append _ _ _ _ _ _ so_far.1 (search rules),
      append_assoc so_far.0 _ _ ∙ ap (λ text. so_far.0 ++ text) (sym chunk) ∙ so_far.2,
    )

pub returns-clause-writes : goal.returns-clause-writes
returns-clause-writes g c = λ plain _.
    let so_far = c.loop-chunk.invariant plain in
    let all = sym (append-nil so_far.0) ∙ (rw
    (utf8_lossy_empty (utf8_chunks_rest c.loop-chunk.chunk-iterator) c.in-None.ensures.steps.0) at
    so_far.2) in
    has_written_of_eq _ _ _ _ _ all so_far.1
