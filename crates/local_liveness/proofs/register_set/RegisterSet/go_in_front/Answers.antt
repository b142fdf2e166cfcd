use Rattle.core_tree.specs.Statements.{reads, writes}
use Rattle.local_liveness.proofs.Bits.{front_words, front_bits}
use Rattle.local_liveness.proofs.register_set.RegisterSet.go_in_front.Goals as goal

pub returns : goal.returns
returns c = record {
  words = front_words (writes c.args.kind.now) (reads c.args.kind.now) c.args.self.now c.remove_written.new.self c.insert_reads.new.self c.remove_written.ensures c.insert_reads.ensures;
  bits = front_bits (writes c.args.kind.now) (reads c.args.kind.now) c.args.self.now c.remove_written.new.self c.insert_reads.new.self c.remove_written.ensures c.insert_reads.ensures;
}
