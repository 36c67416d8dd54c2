use Rattle.std.specs.Prelude.{codes}
use Rattle.nj_discovered.proofs.FinderLemmas.{three-parts}
use Rattle.nj_discovered.proofs.verdict.append_stranger.Goals as goal

pub returns : goal.returns
returns c =
    three-parts c.args.out.now.items (codes "depfile mentions '") c.args.target.now
    (codes "' as an output, but no such output was declared")
    c.extend_from_slice.new.self.items c.extend_from_slice-2.new.self.items
    c.extend_from_slice-3.new.self.items
    c.in_ok-extend_from_slice.ensures.items c.in_ok-extend_from_slice-2.ensures.items
    c.in_ok-extend_from_slice-3.ensures.items
