use Rattle.meaning_laws.proofs.form.Formed.{formed}
use Rattle.meaning_laws.proofs.laws.codes_are_well_formed.Goals as goal

pub returns : goal.returns
returns c = formed c.live_by_paths.ensures c.layouts_of_types.ensures.sound c.layouts_of_types.ensures.small
