use Rattle.std.proofs.Common.{◌≡◌, ◌++◌, length}
use Rattle.std.specs.List.{All, flat_map}
use Rattle.code_file.specs.Spelling.{IsNumber, number}
use Rattle.code_file.proofs.code.RegistersSpelled.write.Given as goal

-- what the registers so far are written as, and that they are numbers
abbrev pub invariant-loop-register : goal.invariant-loop-register
invariant-loop-register l = record {
  split : l.fn.self ≡ l.yielded ++ l.register-iterator;
  bytes : l.text.items ≡ l.fn.text.items ++ (number (length l.fn.self) ++ flat_map number l.yielded);
  ranged : All IsNumber l.yielded;
}
