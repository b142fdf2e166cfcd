use Rattle.std.proofs.Common.{◌≡◌, ◌≤◌, ◌+◌, length}
use Rattle.grammar_reading.specs.Declarators.{leading_consts, past_consts}
use Rattle.parser_parts.proofs.reader.Reader.consts.Given as goal

abbrev pub invariant-consts : goal.invariant-consts
invariant-consts l = (l.count + leading_consts l.self.words ≡ leading_consts l.fn.self.words) × (past_consts l.self ≡ past_consts l.fn.self) × (l.count + length l.self.words ≤ l.most)

abbrev pub decreases-consts : goal.decreases-consts
decreases-consts l = length l.self.words
