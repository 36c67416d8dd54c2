-- A session may cross threads, as its contents may.
use mir.Raw.{raw}
use base.Shift.{Keyless}
use denote.Memory.{lone}
use denote.RawPtr.{Ptr, block_ptr, null_ptr}
use denote.Struct.Struct.{exits_of}
use denote.Struct.Owning.{shape, fields, to}
use denote.Param.Send.{IsSend, AllSend, owning_send, struct_send, sendable}
use Rattle.std.proofs.Crossing as heap
use Rattle.std_alloc.proofs.SendSync.{quiet, lies}
use Rattle.std_heap.proofs.Global.TheSendSync as handle
use Rattle.std.specs.Global.{Global}
use Rattle.std.specs.declared.option.Option.{Option}
use Rattle.nj_c.specs.Inside.Keeps.{keeps}
use Rattle.nj_c.specs.contracts.session_state.Kept as Kept
use Rattle.nj_c.proofs.session_state.Kept.TheSendSync.{the_send as kept}
use Rattle.nj_c.specs.contracts.session.Session.{the_row, the_type}

keyless : (a : Global) (p : Ptr) (k : Option Kept.the_row.Denot) → Keyless (keeps a p k)
keyless a null_ptr k = λ is. tt
keyless a (block_ptr b o) k = λ x. (
  (λ is. tt),
  (
    lies Kept.the_row kept (block_ptr b o) x,
    heap.frees.frees a (raw (lone Kept.the_row.mir)) (block_ptr b o),
  ),
)

pub send : IsSend the_row
send =
    let all : AllSend (fields the_type) = (search sendable, (handle.the_field_send, tt)) in
    owning_send the_type all (λ d. keyless d.alloc d.at d.kept)
    (λ k. quiet (to the_type) (exits_of k (fields the_type)) ((struct_send (shape the_type) all).leaving k))
