use Rattle.std.proofs.lemmas.Result.{on_ok_weaker}
use Rattle.nj_tools.proofs.ObjectLemmas.{place-made}
use Rattle.nj_tools.proofs.object_text.ObjectText.add_place.Goals as goal

pub returns : goal.returns
returns c = on_ok_weaker c.end_object.result (λ is.
    place-made c.args.self.now c.begin_object.new.self c.add_string.new.self c.add_number.new.self
    c.add_number-2.new.self c.end_object.new.self c.args.name.now c.args.place.file.now c.args.place.spot
    c.in_ok-begin_object.ensures c.in_ok-add_string.ensures c.in_ok-add_number.ensures
    c.in_ok-add_number-2.ensures is) c.end_object.ensures
