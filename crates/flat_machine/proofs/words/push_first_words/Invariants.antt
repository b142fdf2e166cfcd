use Rattle.std.proofs.Common.{◌≡◌, ◌+◌, ◌≤◌, ◌++◌, map, take, vec_len}
use Rattle.std.specs.Vec.{vec_capacity}
use Rattle.flat_machine.specs.Words.{first_word}
use Rattle.flat_machine.proofs.words.push_first_words.Given as goal

abbrev pub invariant-loop-i : goal.invariant-loop-i
invariant-loop-i l = record {
  items : l.words.items ≡ l.fn.words.items ++ map first_word (take l.i l.kinds);
  len : vec_len l.words ≡ vec_len l.fn.words + l.i;
  capacity : vec_capacity l.fn.words ≤ vec_capacity l.words;
}
