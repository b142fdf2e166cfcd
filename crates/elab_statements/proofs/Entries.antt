-- Names one behind another.
use Rattle.std.proofs.Common.{◌≡◌, ◌<◌, ◌≤◌, ◌+◌, ℕ, zero, suc, Bool, List, [], ◌∷◌, Option, Some, None, Ok, Err, drop, length, get_or, refl, ap, sym, ◌∙◌, arith}
use Rattle.std.proofs.Math.Seq.{drop-cons}
use Rattle.c_types.specs.Types.{PlainType}
use Rattle.c_tree.specs.declared.tree.Declarator.{Declarator}
use Rattle.c_tree.specs.declared.statement.Init.{Init}
use Rattle.c_tree.specs.Tree.{Tree, Trees, none, ◌▹◌}
use Rattle.c_tree.specs.View.{declarator_tree}
use Rattle.c_tree.specs.StatementView.{trees, entry_view}
use Rattle.c_decls.specs.Refusals.{Checked, Refusal, then}
use Rattle.elaboration.specs.Context.{Context}
use Rattle.elaboration.specs.Declarators.{specs}
use Rattle.elaboration.specs.Declarations.{Storage, specs_alone, specs_before, entry, entries}
use Rattle.elab_statements.specs.GivenLengths.{held}

abbrev Name : Type 0
Name = Declarator × Option Init

none_left : (xs : List Name) (i : ℕ) → length xs ≤ i → trees entry_view (drop i xs) ≡ none
none_left [] zero h = refl
none_left [] (suc i) h = refl
none_left (first ∷ xs) zero h = absurd (omega (arith, h))
none_left (first ∷ xs) (suc i) h = none_left xs i (omega (arith, h))

pub specs_none : (names : List Name) (tree : Tree) (c : Context) → length names ≡ 0 → specs_before tree (trees entry_view names) c ≡ specs_alone tree c
specs_none [] tree c h = refl
specs_none (name ∷ names) tree c h = absurd (omega (arith, h))

pub specs_some : (names : List Name) (tree : Tree) (c : Context) → (length names ≡ 0 → ⊥) → specs_before tree (trees entry_view names) c ≡ specs tree c
specs_some [] tree c h = absurd (h refl)
specs_some (name ∷ names) tree c h = refl

module _ (file : Bool) (line : ℕ) (storage : Storage) (base : PlainType) where
  by_init : (declarator : Declarator) (init : Option Init) (rest : Trees) (c : Context) →
      entries file line storage base (entry_view (declarator, init) ▹ rest) c ≡ then (entry file line storage base (declarator_tree declarator) (held init) c) (λ d. entries file line storage base rest d)
  unfolding entries
  by_init declarator None rest c = refl
  by_init declarator (Some init) rest c = refl

  first_entry : (x : Name) (rest : Trees) (c : Context) →
      entries file line storage base (entry_view x ▹ rest) c ≡ then (entry file line storage base (declarator_tree x.0) (held x.1) c) (λ d. entries file line storage base rest d)
  first_entry x rest c = by_init x.0 x.1 rest c

  opened : (xs : List Name) (i : ℕ) (x : Name) (c : Context) → i < length xs → x ≡ get_or xs i x →
      entries file line storage base (trees entry_view (drop i xs)) c ≡ then (entry file line storage base (declarator_tree x.0) (held x.1) c) (λ d. entries file line storage base (trees entry_view (drop (i + 1) xs)) d)
  opened xs i x c h is =
      let next : suc i ≡ i + 1 = omega arith in
      ap (λ (l : List Name). entries file line storage base (trees entry_view l) c)
      (drop-cons xs i x h ∙ ap (λ (y : Name). y ∷ drop (suc i) xs) (sym is) ∙ ap (λ (n : ℕ). x ∷ drop n xs) next)
      ∙ first_entry x (trees entry_view (drop (i + 1) xs)) c

  pub entry_next : (xs : List Name) (i : ℕ) (x : Name) (c d : Context) → i < length xs → x ≡ get_or xs i x →
      entry file line storage base (declarator_tree x.0) (held x.1) c ≡ Ok d →
      entries file line storage base (trees entry_view (drop (i + 1) xs)) d ≡ entries file line storage base (trees entry_view (drop i xs)) c
  entry_next xs i x c d h is done =
      sym (opened xs i x c h is
      ∙ ap (λ (answer : Checked Context). then answer (λ e. entries file line storage base (trees entry_view (drop (i + 1) xs)) e)) done)

  pub entry_fails : (xs : List Name) (i : ℕ) (x : Name) (c : Context) (refusal : Refusal) → i < length xs → x ≡ get_or xs i x →
      entry file line storage base (declarator_tree x.0) (held x.1) c ≡ Err refusal →
      entries file line storage base (trees entry_view (drop i xs)) c ≡ Err refusal
  entry_fails xs i x c refusal h is failed =
      opened xs i x c h is
      ∙ ap (λ (answer : Checked Context). then answer (λ e. entries file line storage base (trees entry_view (drop (i + 1) xs)) e)) failed

  pub entries_end : (xs : List Name) (i : ℕ) (c : Context) → length xs ≤ i → entries file line storage base (trees entry_view (drop i xs)) c ≡ Ok c
  unfolding entries
  entries_end xs i c h = ap (λ (ts : Trees). entries file line storage base ts c) (none_left xs i h)
