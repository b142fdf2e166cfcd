use Rattle.c_types.specs.TagTable.{known}
use Rattle.c_types.proofs.Sound.{known_sound, layout_sound}
use Rattle.c_types.proofs.laws.layouts_are_sound.Goals as goal

pub returns : goal.returns
returns c = λ tags t l e. layout_sound (known tags) (known_sound tags) t l e
