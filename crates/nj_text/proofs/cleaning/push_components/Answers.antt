use Rattle.std.proofs.Common.{◌≡◌, arith, length}
use Rattle.nj_text.proofs.WrittenComponents.{pushing-none}
use Rattle.nj_text.proofs.cleaning.push_components.Goals as goal

pub components-init : goal.components-init
components-init c =
    let end : c.len-front.result ≡ length c.args.out.now.items = omega arith in
    pushing-none c.args.absolute c.args.out.now.items c.args.path.now c.len-front.result end
