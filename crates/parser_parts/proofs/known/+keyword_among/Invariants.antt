use Rattle.std.proofs.Common.{length}
use Rattle.parser_parts.proofs.known.+keyword_among.Given as goal

abbrev pub decreases-keyword_among : goal.decreases-keyword_among
decreases-keyword_among l = length l.keywords.now
