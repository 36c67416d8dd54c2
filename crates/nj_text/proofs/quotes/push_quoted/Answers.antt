use Rattle.nj_text.proofs.QuotedStrings.{quoting-none}
use Rattle.nj_text.proofs.quotes.push_quoted.Goals as goal

pub runs-init : goal.runs-init
runs-init c =
    quoting-none c.args.out.now.items c.args.front.now c.args.rest.now c.push.new.self.items
    c.extend_from_slice.new.self.items c.in_ok-push.ensures.items c.in_ok-extend_from_slice.ensures.items
    c.requires
