-- Shows the counts where the memory that the record tells is whole.
use Rattle.records.proofs.Noting.{on_whole}
use Rattle.records.proofs.notes.note_opcode.Goals as goal

pub returns-then-memory_length-eq65536 : goal.returns-then-memory_length-eq65536
returns-then-memory_length-eq65536 c = on_whole c.args.item.bytes.now c.args.counts.now c.memory_length.ensures c.if-memory_length-eq65536.true c.note_fetch.ensures
