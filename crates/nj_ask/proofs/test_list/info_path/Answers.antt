use Rattle.std.proofs.Common.{append_assoc, codes, sym, ◌∙◌}
use Rattle.nj_ask.proofs.test_list.info_path.Goals as goal

pub returns : goal.returns
returns c =
    c.in_ok-path.ensures.ok ∙ sym (append_assoc c.args.dir.now (codes "/meson-info/") c.args.name.now)
