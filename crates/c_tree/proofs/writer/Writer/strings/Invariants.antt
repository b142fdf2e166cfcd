use Rattle.std.proofs.Common.{◌≡◌, ◌++◌, take}
use Rattle.c_tree.proofs.ListTexts.{strings_list}
use Rattle.c_tree.proofs.writer.Writer.strings.Given as goal

abbrev pub invariant-loop-bytes : goal.invariant-loop-bytes
invariant-loop-bytes l = l.self ≡ l.initial.self ++ strings_list (take l.bytes-index l.list)
