-- What was handed out, and then what is left, is what was left.
use Rattle.edge_io.proofs.Known.{handed-rest}
use Rattle.mem_io.proofs.memory.MemSourceSource.read.Goals as goal

pub returns-clause-bytes : goal.returns-clause-bytes
returns-clause-bytes c =
    rw (← c.self.view_is) (handed-rest c.self.inside.bytes.items c.hand_out-count.new.buf c.self.inside.next
    c.hand_out-count.result (rw c.deref.ensures.value at c.hand_out-count.ensures.bytes))
