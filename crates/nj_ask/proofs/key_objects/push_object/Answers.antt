use Rattle.std.proofs.Common.{◌≡◌, ◌∙◌, ap, codes, length, map, subst, true}
use Rattle.std.specs.Prelude.{slice_get}
use Rattle.serde_json.specs.Data.{array}
use Rattle.nj_edges.specs.EdgeGraphs.{EdgeGraph}
use Rattle.nj_graph.specs.Edges.{edge_at}
use Rattle.nj_graph.specs.Graph.{edges_of, files_of}
use Rattle.nj_graph.specs.Handles.{GraphEdge, OfEdge}
use Rattle.nj_ask.specs.KeyObjects.{bases_named, discovered_value, key_texts, number_items}
use Rattle.nj_ask.specs.MissingSources.{stated_edge}
use Rattle.nj_ask.specs.Inside.JsonTexts.{AddsFiles, AddsMember, AddsTexts}
use Rattle.nj_ask.proofs.JsonTextLemmas.{adds-object}
use Rattle.nj_ask.proofs.key_objects.push_object.Goals as goal

pub returns-clause-object : goal.returns-clause-object
returns-clause-object c entries graph =
    let known = c.args.known.now in
    let g = known.graph in
    let edges = edges_of g in
    let turns = length (files_of g) in
    let n = c.args.next.edge.0 in
    let counts = map (λ discovery. discovery.stated_inputs) known.discoveries.items in
    let t = key_texts entries n in
    let texts : c.in_ok-texts.texts ≡ t =
    subst (λ (edge : GraphEdge). OfEdge edge (λ es number. c.in_ok-texts.texts ≡ key_texts es number))
    c.edge_at.ensures c.in_ok-texts.ensures entries graph in
    let zero = c.args.text.now.items in
    let one = c.add_key.new.text.items in
    let two = c.add_files.new.text.items in
    let three = c.add_texts.new.text.items in
    let four = c.add_discovered.new.text.items in
    let five = c.add_bases.new.text.items in
    let e = stated_edge edges counts n in
    let found = discovered_value (slice_get known.discoveries.items n) (edge_at edges n) in
    let bases = array (number_items (bases_named c.args.bases.now t)) in
    let files : AddsFiles edges turns e one two =
    subst (λ cs. AddsFiles edges turns (stated_edge edges cs n) one two) c.requires.counts
    (subst (λ k. AddsFiles edges k (stated_edge edges c.args.counts.now n) one two) c.requires.limit
    (subst (λ (h : EdgeGraph). AddsFiles h.edges c.args.found.now.limit
    (stated_edge h.edges c.args.counts.now n) one two) c.deref.ensures c.in_ok-add_files.ensures.files)) in
    let own : AddsTexts t two three = subst (λ k. AddsTexts k two three) texts c.in_ok-add_texts.ensures in
    let more : AddsMember true (codes "discovered") found three four =
    subst (λ d. AddsMember true (codes "discovered") (discovered_value d (edge_at edges n)) three four)
    (c.discovery_of-discovery.ensures
    ∙ ap (λ ds. slice_get ds n) c.deref-2.ensures.value)
    (subst (λ (h : EdgeGraph). AddsMember true (codes "discovered")
    (discovered_value c.discovery_of-discovery.result (edge_at h.edges n)) three four) c.deref-3.ensures
    c.in_ok-add_discovered.ensures) in
    let last : AddsMember true (codes "bases") bases four five =
    subst (λ k. AddsMember true (codes "bases") (array (number_items (bases_named c.args.bases.now k))) four
    five)
    texts c.in_ok-add_bases.ensures in
    adds-object c.args.next.key edges turns e t found bases zero one two three four five
    c.extend_from_slice.new.self.items c.in_ok-add_key.ensures files own more last
    c.in_ok-extend_from_slice.ensures.items
