use Rattle.std.proofs.Common.{◌++◌, ap, ap₂, codes, ◌∙◌}
use Rattle.std.specs.Str.Lossy.{utf8_lossy}
use Rattle.serde_json.specs.Data.{string}
use Rattle.serde_json.specs.Written.{compact_text}
use Rattle.nj_edges.specs.Edges.{edge_at}
use Rattle.nj_stale.specs.Numbered.{evidence_of}
use Rattle.nj_ask.specs.StaleObjects.{newer_time, number_value, older_time, path_value}
use Rattle.nj_ask.proofs.ObjectLemmas.{stale-object-is}
use Rattle.nj_ask.proofs.stale_objects.push_object.Goals as goal

pub returns : goal.returns
returns c = λ facts s judged of.
    let g = c.args.graph.now in
    let lines = c.args.log.now.lines in
    let known = evidence_of g facts c.args.build.now.times.items lines in
    let stale = c.args.stale in
    let e = edge_at g.edges stale.edge.0 in
    let older = compact_text (number_value (older_time known e stale.reason)) in
    let newer = compact_text (number_value (newer_time s e stale.newest stale.reason)) in
    c.in_ok-extend_from_slice-6.ensures.items ∙ ap (λ t. t ++ codes "}\n")
    (c.in_ok-push_newer_time.ensures facts lines s judged of ∙ ap (λ t. t ++ newer)
    (c.in_ok-extend_from_slice-5.ensures.items ∙ ap (λ t. t ++ codes ",\"file_time\":")
    (c.in_ok-push_older_time.ensures facts ∙ ap (λ t. t ++ older)
    (c.in_ok-extend_from_slice-4.ensures.items ∙ ap (λ t. t ++ codes ",\"time\":")
    (c.in_ok-push_path.ensures ∙ ap₂ (λ t f. t ++ compact_text (path_value f))
    (c.in_ok-extend_from_slice-3.ensures.items ∙ ap (λ t. t ++ codes ",\"file\":")
    (c.in_ok-push_text.ensures ∙ ap₂ (λ t word. t ++ compact_text (string word))
    (c.in_ok-extend_from_slice-2.ensures.items ∙ ap (λ t. t ++ codes ",\"reason\":")
    (c.in_ok-push_bytes.ensures ∙ ap₂ (λ t output. t ++ compact_text (string (utf8_lossy output)))
    c.in_ok-extend_from_slice.ensures.items c.first_output.ensures))
    c.reason_word.ensures))
    c.reason_file.ensures.path)))))
    ∙ stale-object-is known s stale c.args.text.now.items
