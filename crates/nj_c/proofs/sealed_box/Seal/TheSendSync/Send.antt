use mir.Raw.{raw}
use denote.Memory.{lone}
use denote.Struct.Struct.{exits_of}
use denote.Struct.Owning.{shape, fields, to}
use denote.Param.Send.{IsSend, AllSend, owning_send, struct_send, sendable}
use Rattle.std.proofs.Crossing as heap
use Rattle.std_alloc.proofs.SendSync.{quiet, lies}
use Rattle.std_heap.proofs.Global.TheSendSync as handle
use Rattle.nj_c.specs.contracts.session_state.Kept as Home
use Rattle.nj_c.proofs.session_state.Kept.TheSendSync.{the_send as home}
use Rattle.nj_c.specs.contracts.sealed_box.Seal.{the_row, the_type}

pub send : IsSend the_row
send =
    let all : AllSend (fields the_type) = (search sendable, (handle.the_field_send, tt)) in
    owning_send the_type all (λ d. (
      lies Home.the_row home d.at d.kept,
      heap.frees.frees d.alloc (raw (lone Home.the_row.mir)) d.at,
    ))
    (λ k. quiet (to the_type) (exits_of k (fields the_type)) ((struct_send (shape the_type) all).leaving k))
