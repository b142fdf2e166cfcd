-- Members by their names, as they are kept and as a list.
use Rattle.std.proofs.Common.{◌≡◌, ℕ, Bool, true, false, true≢false, cond, List, [], ◌∷◌, map, Option, Some, None, refl, sym, ap, ◌∙◌}
use Rattle.std.specs.Prelude.{◌||◌, bytes_eq, is_some}
use Rattle.std.specs.Map.{lookup}
use Rattle.std.proofs.lemmas.Cmp.{nat_list_eq_equiv}
use Rattle.c_types.specs.Types.{PlainType}
use Rattle.elaboration.specs.Declarators.{has_member}

module _ {K X : Type 0} (bytes : K → List ℕ) (plain : X → PlainType) (name : List ℕ) where
  -- the list of what is kept
  abbrev pub listed : List (K × X) → List (List ℕ × PlainType)
  listed es = map (λ e. (bytes e.0, plain e.1)) es

  -- a look-up finds a name exactly where the list has it
  pub found_member : (es : List (K × X)) → is_some (lookup (λ k. bytes_eq name (bytes k)) es) ≡ has_member name (listed es)
  found_member [] = refl
  found_member (e ∷ es) = by (bytes_eq name (bytes e.0)) refl (found_member es)
    where
      by : (b : Bool) → bytes_eq name (bytes e.0) ≡ b → is_some (lookup (λ k. bytes_eq name (bytes k)) es) ≡ has_member name (listed es) →
          is_some (cond b (Some e.1) (lookup (λ k. bytes_eq name (bytes k)) es)) ≡ (bytes_eq (bytes e.0) name || has_member name (listed es))
      by true same rest = ap (λ b. b || has_member name (listed es)) (sym same ∙ nat_list_eq_equiv.symm name (bytes e.0))
      by false other rest = rest ∙ ap (λ b. b || has_member name (listed es)) (sym other ∙ nat_list_eq_equiv.symm name (bytes e.0))

  -- a name that the list does not have is not found
  pub absent_member : (es : List (K × X)) → has_member name (listed es) ≡ false → lookup (λ k. bytes_eq name (bytes k)) es ≡ None
  absent_member es none = by (lookup (λ k. bytes_eq name (bytes k)) es) (found_member es ∙ none)
    where
      by : (r : Option X) → is_some r ≡ false → r ≡ None
      by None h = refl
      by (Some x) h = absurd (true≢false h)
