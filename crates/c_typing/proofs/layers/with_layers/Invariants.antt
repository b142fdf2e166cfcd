use Rattle.std.proofs.Common.{◌≡◌, vec_len}
use Rattle.c_decls.specs.TypeNames.{with_layers}
use Rattle.c_typing.specs.Layers.{plain_layers}
use Rattle.c_typing.proofs.layers.with_layers.Given as goal

-- the layers that are left make of the type so far what all make of the base
abbrev pub invariant-loop-layer : goal.invariant-loop-layer
invariant-loop-layer l =
    with_layers l.tags (plain_layers l.left.items) l.ty
    ≡ with_layers l.tags (plain_layers l.initial.left.items) l.initial.ty

abbrev pub decreases-loop-layer : goal.decreases-loop-layer
decreases-loop-layer l = vec_len l.left
