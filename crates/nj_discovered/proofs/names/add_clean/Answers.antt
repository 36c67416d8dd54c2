use Rattle.nj_text.specs.Paths.{clean_path_of}
use Rattle.nj_discovered.proofs.FinderLemmas.{appends-clean}
use Rattle.nj_discovered.proofs.names.add_clean.Goals as goal

pub returns : goal.returns
returns c =
    appends-clean c.args.names.now c.add.new.self c.args.numbers.now.items c.push.new.self.items
    (clean_path_of c.args.path.now) c.in_ok-clean.field-0.now c.in_ok-number.number
    c.in_ok-short_number.field-0
    c.in_ok-clean.ensures c.in_ok-number.ensures.added c.in_ok-number.ensures.number
    c.in_ok-short_number.ensures.short c.in_ok-push.ensures.items
