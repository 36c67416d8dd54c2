use Rattle.std.proofs.Common.{subst, sym}
use Rattle.nj_ask.specs.Inside.Lent.{change_model}
use Rattle.nj_ask.specs.Inside.Reached.{numbers_of, AreFeeding, AreFullPaths, CanTellAll}
use Rattle.nj_ask.specs.Manifest.{opened_files}
use Rattle.nj_ask.proofs.report.tables_of.Goals as goal

pub returns : goal.returns
returns c entries graph =
    let g = c.args.known.now.graph in
    let q = change_model c.args.change in
    let opened = opened_files g q.working in
    let numbers = c.requires.files in
    record {
      changed = subst (λ ns. AreFullPaths g q.working ns c.in_ok-changed.changed) numbers
          c.in_ok-changed.ensures;
      fed = numbers_of c.in_ok-feeding.feeding.items;
      are_fed = subst (λ ns. AreFeeding g opened entries ns (numbers_of c.in_ok-feeding.feeding.items))
          numbers
          (c.in_ok-feeding.ensures.feeding opened entries graph
          (subst (λ ns. CanTellAll g opened entries ns c.args.manifest.now) (sym numbers)
          (c.requires.tells entries graph)));
      feeding = subst (λ fs. AreFullPaths g q.working (numbers_of fs) c.in_ok-feeding-2.feeding)
          c.deref.ensures.value c.in_ok-feeding-2.ensures;
    }
