use Rattle.c_pre.proofs.Keys.{same_keys}
use Rattle.c_pre.proofs.parameters.same_words.Goals as goal

pub returns : goal.returns
returns c =
    rw (c.eq.ensures, c.as_slice.ensures.keys, c.as_slice-2.ensures.keys, ← c.left.view_is, ← c.right.view_is) (same_keys (λ k. k.items) c.left.inside.names.keys c.right.inside.names.keys)
