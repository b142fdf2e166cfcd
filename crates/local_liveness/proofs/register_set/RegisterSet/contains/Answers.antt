use Rattle.std.proofs.Common.{arith}
use Rattle.local_liveness.proofs.Bits.{contains_bit, contains_none}
use Rattle.local_liveness.proofs.register_set.RegisterSet.contains.Goals as goal

pub returns-then-place-len : goal.returns-then-place-len
returns-then-place-len c = contains_none c.self.inside.words.items c.args.self.now c.args.register c.self.view_is (omega arith)

pub returns : goal.returns
returns c =
    contains_bit c.self.inside.words.items c.args.self.now c.args.register c.index.result.now c.self.view_is (omega arith) c.index.ensures
