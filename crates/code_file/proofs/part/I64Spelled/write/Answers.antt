use Rattle.std.proofs.Common.{rules}
use Rattle.code_file.specs.Spelling.{signed}
use Rattle.code_file.proofs.part.I64Spelled.write.Goals as goal

pub returns-clause-bytes : goal.returns-clause-bytes
unfolding signed
returns-clause-bytes c = search rules
