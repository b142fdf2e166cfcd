use Rattle.std.proofs.Common.{rules}
use Rattle.code_file.specs.Spelling.{number}
use Rattle.code_file.proofs.part.U32Spelled.write.Goals as goal

pub returns-clause-bytes : goal.returns-clause-bytes
unfolding number
returns-clause-bytes c = search rules
