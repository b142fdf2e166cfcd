use Rattle.std.proofs.Common.{sym, ◌∙◌}
use Rattle.c_types.specs.Types.{plain}
use Rattle.c_types.specs.TagTable.{known}
use Rattle.c_types.proofs.ListLemmas.{layout_parts}
use Rattle.c_types.proofs.Sound.{layout_sound, known_sound}
use Rattle.c_types.proofs.slots.layout.Goals as goal

pub returns-clause-sound : goal.returns-clause-sound
returns-clause-sound c =
    layout_sound (known c.args.tags.now.completed) (known_sound c.args.tags.now.completed) (plain c.args.ty.now) _
    (layout_parts (known c.args.tags.now.completed) (plain c.args.ty.now) c.unwrap-size.result c.unwrap-align.result c.from.result
    (sym c.size_of.ensures.value ∙ c.unwrap-size.ensures) (sym c.align_of.ensures.value ∙ c.unwrap-align.ensures) (c.from.ensures ∙ c.in_ok-slots.ensures))
