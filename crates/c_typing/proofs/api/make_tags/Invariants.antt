use Rattle.std.proofs.Common.{◌≡◌}
use Rattle.c_typing.specs.Walks.{with_new}
use Rattle.c_typing.proofs.api.make_tags.Given as goal

-- the tags so far
abbrev pub invariant-loop-info : goal.invariant-loop-info
invariant-loop-info l = l.tags ≡ with_new l.initial.tags l.yielded
