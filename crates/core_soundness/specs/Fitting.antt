-- Tables and scopes, each name of which is such a one.
use Rattle.std.specs.Prelude.{◌≡◌, ℕ, List, [], ◌∷◌, Some}
use Rattle.c_decls.specs.Named.{PlainNamed}
use Rattle.c_decls.specs.ScopeList.{ScopeList, Table, named_in}

abbrev pub TableFits : (PlainNamed → Type 0) → Table → Type 0
TableFits P table = (name : List ℕ) (v : PlainNamed) → named_in name table ≡ Some v → P v

abbrev pub TablesFit : (PlainNamed → Type 0) → List Table → Type 0
TablesFit P [] = Unit {0}
TablesFit P (table ∷ tables) = TableFits P table × TablesFit P tables

-- P of each name at file scope, and Q of each in a scope inside
pub record ScopesFit (P Q : PlainNamed → Type 0) (s : ScopeList) : Type 0 where
  pub file : TableFits P s.file
  pub inner : TablesFit Q s.inner
