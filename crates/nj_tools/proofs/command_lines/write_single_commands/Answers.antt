use Rattle.std.proofs.Common.{◌++◌, ◌∙◌, [], ap, arith, drop, length, map, refl, rules, subst, sym}
use Rattle.std.proofs.lemmas.Grind.{common_steps}
use Rattle.std.proofs.lemmas.List.{take_at}
use Rattle.nj_names.specs.Files.{path_at}
use Rattle.nj_needs.specs.Order.{made_by}
use Rattle.nj_graph.specs.Graph.{IsGraphOf, files_of}
use Rattle.nj_graph.specs.Handles.{file_of}
use Rattle.nj_tools.specs.CommandStrings.{command_lines}
use Rattle.nj_tools.specs.Inside.Seen.{AreSeen, makers_of_file, new_command, single}
use Rattle.nj_tools.proofs.CommandLemmas.{lines-append}
use Rattle.nj_tools.proofs.EdgeLists.{all-in}
use Rattle.nj_tools.proofs.OwnLemmas.{own-all, own_left}
use Rattle.nj_tools.proofs.OutputLemmas.{adds_block, leaves_all, leaves_next, leaves_none, stops_block}
use Rattle.nj_tools.proofs.OutputLemmas.{stops_next, text-stopped, text-written}
use Rattle.nj_tools.proofs.command_lines.write_single_commands.Goals as goal

pub targets-init : goal.targets-init
targets-init g c =
    let h = c.args.graph.now in
    let paths = map (path_at (files_of h)) c.args.targets.now in
    let is = c.into_iter-target-iterator.ensures.into_iter_gives ∙ c.files_at-target-items.ensures in
    record {
      earlier = [];
      seen = record { count = search rules; flagged = λ e below. grind (arith, common_steps) };
      all = rw is (all-in h paths);
      same = search rules;
      left = λ entries graph.
          leaves_all _ _ _ (ap (command_lines entries) (ap (own_left []) is ∙ own-all h paths));
    }

pub targets-preserved : goal.targets-preserved
targets-preserved g c =
    let i = c.targets.invariant in
    let steps = c.in-Some.ensures.steps in
    let file = file_of c.in-Some.target in
    let all = rw steps at i.all in
    let held : AreSeen c.args.graph.now c.deref_mut.result.now i.earlier = rw c.deref_mut.ensures.value i.seen
    in
    let held_there = subst (λ h. AreSeen h c.deref_mut.result.now i.earlier) (sym all.0) held in
    let after = subst (λ h. AreSeen h c.append_new_command.new.seen (i.earlier ++ makers_of_file file)) all.0
    (c.in_ok-append_new_command.ensures.seen i.earlier held_there) in
    let kept = take_at c.append_new_command.new.seen
    (drop (length c.append_new_command.new.seen) c.targets.seen.items) c.targets.seen.len
    (omega (arith, after.count, i.seen.count)) in
    record {
      earlier = i.earlier ++ makers_of_file file;
      seen = rw kept after;
      all = all.1;
      same = search rules;
      left = λ entries graph.
          let of_graph = subst (λ h. IsGraphOf h entries) (sym all.0) graph in
          let split = ap (λ fs. command_lines entries (own_left i.earlier fs)) steps
          ∙ lines-append entries (made_by single (new_command file i.earlier))
          (own_left (i.earlier ++ makers_of_file file) c.next.new.self) in
          let text = c.in_ok-append_new_command.ensures.text entries of_graph i.earlier held_there in
          leaves_next _ _ (i.left entries graph) split
          (adds_block _ refl text c.in_ok-write_block.ensures.text);
    }

pub returns-in_err-write_block : goal.returns-in_err-write_block
returns-in_err-write_block g c entries graph =
    let i = c.targets.invariant in
    let steps = c.in-Some.ensures.steps in
    let file = file_of c.in-Some.target in
    let all = rw steps at i.all in
    let held : AreSeen c.args.graph.now c.deref_mut.result.now i.earlier = rw c.deref_mut.ensures.value i.seen
    in
    let held_there = subst (λ h. AreSeen h c.deref_mut.result.now i.earlier) (sym all.0) held in
    let of_graph = subst (λ h. IsGraphOf h entries) (sym all.0) graph in
    let split = ap (λ fs. command_lines entries (own_left i.earlier fs)) steps
    ∙ lines-append entries (made_by single (new_command file i.earlier))
    (own_left (i.earlier ++ makers_of_file file) c.next.new.self) in
    let text = c.in_ok-append_new_command.ensures.text entries of_graph i.earlier held_there in
    text-stopped c.args.out.now _ c.from_residual-in_err-write_block.result (search rules)
    c.from_residual-in_err-write_block.ensures.1
    (stops_next _ _ (i.left entries graph) split (stops_block _ refl text c.in_err-write_block.ensures.text))

pub returns : goal.returns
returns g c entries graph =
    let i = c.targets.invariant in
    text-written c.args.out.now _ _ c.flush.result (search rules)
    (leaves_none (i.left entries graph)
    (ap (λ fs. command_lines entries (own_left i.earlier fs)) c.in-None.ensures.steps.0))
    c.flush.ensures.writes
