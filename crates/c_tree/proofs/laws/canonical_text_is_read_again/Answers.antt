use Rattle.c_tree.proofs.Rereading.{canonical_is_read}
use Rattle.c_tree.proofs.laws.canonical_text_is_read_again.Goals as goal

pub returns : goal.returns
returns c = canonical_is_read c.written_tokens_are_read_again.ensures
