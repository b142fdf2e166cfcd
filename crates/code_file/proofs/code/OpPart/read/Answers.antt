use Rattle.code_file.proofs.CodeParts.{op_reads}
use Rattle.code_file.proofs.code.OpPart.read.Goals as goal

pub returns : goal.returns
returns c = op_reads c.args.reader.now c.next.new.self c.in_ok-next.field-0 c.op_of.result c.ok_or.result c.in_ok-next.ensures c.op_of.ensures c.ok_or.ensures.value
