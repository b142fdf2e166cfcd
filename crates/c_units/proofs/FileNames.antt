-- A declarator at file scope, with or without a name.
use Rattle.c_units.proofs.Words.Std.{List, None, Option, Some, ap, refl, ℕ, ◌≡◌}
use Rattle.c_units.proofs.Words.Trees.{Tree, first_name, name_of}
use Rattle.c_units.proofs.Words.Units.{Names, Role, before_declarator, behind, behind_declarator, binding_as, declare, mention, name_by, named_as, renamed, renamed_declarator, with_name}
use Rattle.c_units.specs.Externals.{declared_as}

pub first_alone : (name : Option (List ℕ)) → first_name name None ≡ name
first_alone None = refl
first_alone (Some name) = refl

module _ (role : Role) (line : ℕ) (tree : Tree) (s : Names) where
  pub nameless_made : name_of tree ≡ None → renamed_declarator role line tree s ≡ renamed tree s
  nameless_made h = ap (λ (name : Option (List ℕ)). named_as name role (renamed tree (before_declarator name role line s)) s) h

  pub nameless_known : name_of tree ≡ None → behind_declarator role line tree s ≡ behind tree s
  nameless_known h = ap (λ (name : Option (List ℕ)). declared_as name role s.own (behind tree (before_declarator name role line s))) h

  pub named_made : (name : List ℕ) → name_of tree ≡ Some name →
      let binding = binding_as role s.own name in
      renamed_declarator role line tree s ≡ with_name (name_by binding s.suffix name) (renamed tree (mention binding role name line s))
  named_made name h = ap (λ (name : Option (List ℕ)). named_as name role (renamed tree (before_declarator name role line s)) s) h

  pub named_known : (name : List ℕ) → name_of tree ≡ Some name →
      let binding = binding_as role s.own name in
      behind_declarator role line tree s ≡ declare (Some name) binding (behind tree (mention binding role name line s))
  named_known name h = ap (λ (name : Option (List ℕ)). declared_as name role s.own (behind tree (before_declarator name role line s))) h
