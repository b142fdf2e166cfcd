use Rattle.heap_blocks.proofs.Heading.{header_from_parts, header_kept}
use Rattle.heap_blocks.proofs.laws.a_header_stays.Goals as goal

pub returns-clause-changed : goal.returns-clause-changed
returns-clause-changed c = λ before after block addr n changed beside. header_kept after before block addr n changed beside

pub returns-clause-bytes : goal.returns-clause-bytes
returns-clause-bytes c = header_from_parts
