use Rattle.std.proofs.Common.{◌≡◌, arith, sym, ◌<◌, ◌≤◌, length}
use Rattle.nj_text.proofs.WrittenComponents.{written-name, written-down, written-root, written-front}
use Rattle.nj_text.proofs.cleaning.add_component.Goals as goal

pub returns-in_ok-push_component-in-Name-clause-ok : goal.returns-in_ok-push_component-in-Name-clause-ok
returns-in_ok-push_component-in-Name-clause-ok c = λ base kept w.
    written-name c.args.absolute base kept c.args.front c.args.floor c.args.out.now.items c.args.component.now
    c.push_component.new.out.items w (sym c.in-Name.ensures) c.requires
    c.in_ok-push_component-in-Name.ensures.ok

pub returns-then-floor-len-clause-ok : goal.returns-then-floor-len-clause-ok
returns-then-floor-len-clause-ok c = λ base kept w.
    let above : c.args.floor < length c.args.out.now.items = omega arith in
    written-down c.args.absolute base kept c.args.front c.args.floor c.args.out.now.items c.args.component.now
    c.drop_name.new.out.items w (sym c.in-Up.ensures) above c.drop_name.ensures

pub returns-then-absolute-clause-ok : goal.returns-then-absolute-clause-ok
returns-then-absolute-clause-ok c = λ base kept w.
    let low : length c.args.out.now.items ≤ c.args.floor = omega arith in
    written-root c.args.absolute c.if-absolute.true base kept c.args.front c.args.floor c.args.out.now.items
    c.args.component.now w (sym c.in-Up.ensures) low

pub returns-in_ok-push_component-in-Up-clause-ok : goal.returns-in_ok-push_component-in-Up-clause-ok
returns-in_ok-push_component-in-Up-clause-ok c = λ base kept w.
    let low : length c.args.out.now.items ≤ c.args.floor = omega arith in
    let end : c.len-else-absolute.result ≡ length c.push_component-else-absolute.new.out.items = omega arith
    in
    written-front c.args.absolute c.if-absolute.false base kept c.args.front c.args.floor c.args.out.now.items
    c.args.component.now c.push_component-else-absolute.new.out.items c.len-else-absolute.result w
    (sym c.in-Up.ensures) low c.in_ok-push_component-in-Up.ensures.ok end
