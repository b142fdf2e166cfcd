-- A test takes no label.
use Rattle.std.proofs.Common.{◌≡◌, ℕ, refl}
use Rattle.c_types.specs.Types.{PlainType, Pointer}
use Rattle.core_tree.specs.declared.statements.Atom.{Atom}
use Rattle.elaboration.specs.Context.{Context}
use Rattle.elaboration.specs.Conversions.{tested}

pub tested_labels : (line : ℕ) (type : PlainType) (a : Atom) (c : Context) → (tested line type a c).0.code.labels ≡ c.code.labels
unfolding tested
tested_labels line (Pointer target) a c = refl
tested_labels line type a c = refl
