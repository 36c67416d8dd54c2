use Rattle.std.proofs.Common.{◌≤◌, ◌∙◌, List, get_or, length, map, subst, arith}
use Rattle.std.proofs.lemmas.List.{take_all}
use Rattle.nj_names.specs.Files.{path_at}
use Rattle.nj_names.specs.declared.files.FileNo.{FileNo}
use Rattle.nj_edges.specs.Edges.{is_among}
use Rattle.nj_edges.specs.Inside.ChangesHeld.{FindsMore}
use Rattle.nj_edges.specs.Inside.DirtyHeld.{HasOneIn, paths_in, users_in}
use Rattle.nj_edges.proofs.ChangeLemmas.{finds-users}
use Rattle.nj_edges.proofs.DirtyLemmas.{none-in}
use Rattle.nj_edges.proofs.GraphUsers.{parts-lent, users-known}
use Rattle.nj_edges.proofs.graph.EdgeGraph.add_users_in.Goals as goal

pub users_at-requires-clause-held : goal.users_at-requires-clause-held
users_at-requires-clause-held c = (
  users_in c.requires.held.0 c.args.self.now,
  parts-lent _ _ c.deref.result.now _ c.deref-in-files.result.now _ c.deref.ensures.value
      c.deref-in-files.ensures.value c.requires.held.1,
)

pub add_all-requires : goal.add_all-requires
add_all-requires c =
    let part = c.requires.held.0 in
    let g = c.args.self.now in
    let file = path_at g.files (get_or c.args.files.now c.files.file-index (record { 0 = 0 })) in
    let users = c.users_at.ensures (users_in part g)
    (parts-lent _ _ c.deref.result.now _ c.deref-in-files.result.now _ c.deref.ensures.value
    c.deref-in-files.ensures.value c.requires.held.1) in
    let known = users-known (λ e. is_among (paths_in part e) file) g.edges c.users_at.result.now users in
    let limit = (c.files.invariant part c.requires.held.1).limit ∙ c.requires.limit in
    λ k d within. let here = known k d within in omega (arith, here, limit)

pub files-preserved : goal.files-preserved
files-preserved c = λ part held.
    let g = c.args.self.now in
    let users = c.users_at.ensures (users_in part g)
    (parts-lent _ _ c.deref.result.now _ c.deref-in-files.result.now _ c.deref.ensures.value
    c.deref-in-files.ensures.value held) in
    finds-users (paths_in part) (none-in part) g.edges g.files c.args.found.now c.files.found
    c.add_all.new.found c.args.files.now c.files.file-index (record { 0 = 0 }) c.users_at.result.now
    c.files-test.true users (c.files.invariant part held) c.in_ok-add_all.ensures

pub returns : goal.returns
returns c = λ part held.
    let g = c.args.self.now in
    let past : length c.args.files.now ≤ c.files.file-index = omega (arith, c.files-test.false) in
    subst (λ (fs : List FileNo). FindsMore (HasOneIn part g.edges (map (path_at g.files) fs)) c.args.found.now
    c.files.found) (take_all c.files.file-index c.args.files.now past) (c.files.invariant part held)
