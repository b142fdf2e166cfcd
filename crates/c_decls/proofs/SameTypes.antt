-- A test that finds exactly the equal types.
use Rattle.std.proofs.Common.{◌≡◌, Bool, true, false, ◌↔◌, refl, sym, ap, ◌∙◌}
use Rattle.c_types.specs.Types.{PlainType}
use Rattle.c_decls.specs.Typed.{same}
use Rattle.c_decls.specs.TypedEquations.{same_equal, same_itself}

-- a test that finds exactly the equal types is this one
pub is_same : (r : Bool) (a b : PlainType) → (r ≡ true) ↔ (a ≡ b) → r ≡ same a b
is_same r a b h = by r (same a b) refl h
  where
    by : (r s : Bool) → s ≡ same a b → (r ≡ true) ↔ (a ≡ b) → r ≡ same a b
    by true s e h = sym (ap (same a) (sym (h.0 refl)) ∙ same_itself a)
    by false true e h = h.1 (same_equal a b (sym e)) ∙ e
    by false false e h = e
