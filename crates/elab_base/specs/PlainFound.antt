-- Elaborated expressions, as the definition has them.
use Rattle.c_decls.specs.Typed.{plain_typed}
use Rattle.elaboration.specs.Conversions as plain
use Rattle.elab_base.specs.declared.found.Spot.{Spot}
use Rattle.elab_base.specs.declared.found.Spot.TheVariants as s
use Rattle.elab_base.specs.declared.found.Fixed.{Fixed}
use Rattle.elab_base.specs.declared.found.Fixed.TheVariants as f
use Rattle.elab_base.specs.declared.found.Found.{Found}

abbrev pub plain_spot : Spot → plain.Spot
plain_spot (s.Local register) = plain.Local register
plain_spot (s.Memory address) = plain.Memory address
plain_spot (s.Value value) = plain.Value value
plain_spot s.Empty = plain.Empty

abbrev pub plain_fixed : Fixed → plain.Fixed
plain_fixed f.Unknown = plain.Unknown
plain_fixed f.Nowhere = plain.Nowhere
plain_fixed (f.Inside static offset) = plain.Inside static offset

abbrev pub plain_found : Found → plain.Found
plain_found e = plain.found_as (plain_typed e.typed) (plain_spot e.spot) (plain_fixed e.fixed)
