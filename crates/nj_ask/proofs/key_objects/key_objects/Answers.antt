use Rattle.std.proofs.Common.{◌++◌, ◌∙◌, ◌+◌, [], ap, drop, get_or, sym}
use Rattle.std.proofs.lemmas.List.{append-nil, append_assoc, drop_all, drop_more}
use Rattle.serde_json.specs.Written.{compact_text}
use Rattle.nj_keys.specs.declared.pages.EdgeKey.{EdgeKey}
use Rattle.nj_ask.specs.Affected.{line}
use Rattle.nj_ask.specs.KeyObjects.{key_object, key_objects}
use Rattle.nj_ask.proofs.key_objects.key_objects.Goals as goal

pub keys-preserved : goal.keys-preserved
keys-preserved c =
    let known = c.args.known.now in
    let keys = c.args.keys.now in
    let i = c.keys.next-index in
    let none : EdgeKey = record { edge = record { 0 = 0 }; key = [] } in
    record {
      limit = c.in_ok-push_object.ensures.limit ∙ c.keys.invariant.limit;
      text = λ entries graph.
          let objects = key_objects known.graph entries known.discoveries.items c.args.bases.now in
          let next = get_or keys i none in
          let own = line (compact_text (key_object known.graph entries known.discoveries.items
          c.args.bases.now next)) in
          ap (λ t. t ++ objects (drop (i + 1) keys)) (c.in_ok-push_object.ensures.object entries graph)
          ∙ append_assoc c.keys.text.items own (objects (drop (i + 1) keys))
          ∙ ap (λ ks. c.keys.text.items ++ objects ks) (sym (drop_more keys i none c.keys-test.true))
          ∙ c.keys.invariant.text entries graph;
    }

pub returns : goal.returns
returns c entries graph =
    let known = c.args.known.now in
    let objects = key_objects known.graph entries known.discoveries.items c.args.bases.now in
    sym (append-nil c.keys.text.items)
    ∙ sym (ap (λ ks. c.keys.text.items ++ objects ks)
    (drop_all c.keys.next-index c.args.keys.now c.keys-test.false))
    ∙ c.keys.invariant.text entries graph
