-- The steps of the walk over specs and declarators, on parts as the code has them.
use Rattle.std.specs.Prelude.{ℕ, pos, List, Option, map}
use Rattle.c_types.specs.Types.{PlainType}
use Rattle.c_tree.specs.declared.operator.RecordSort.{RecordSort}
use Rattle.c_tree.specs.declared.tree.Spec.{Spec}
use Rattle.c_tree.specs.declared.tree.Member.{Member}
use Rattle.c_tree.specs.declared.tree.Enumerator.{Enumerator}
use Rattle.c_tree.specs.declared.tree.Declarator.{Declarator}
use Rattle.c_tree.specs.declared.tree.Suffix.{Suffix}
use Rattle.c_tree.specs.declared.tree.Param.{Param}
use Rattle.c_tree.specs.View.{spec_tree, enumerator_tree, declarator_tree}
use Rattle.c_tree.specs.StatementView.{trees, specs_view, member_view, suffix_view, param_view}
use Rattle.c_decls.specs.Refusals.{Checked}
use Rattle.c_decls.specs.TypeNames.{Layer, special_type}
use Rattle.c_typing.specs.declared.layers.Layer.{Layer as CodeLayer}
use Rattle.c_typing.specs.Layers.{plain_layer}
use Rattle.elaboration.specs.Context.{Context, With, asked}
use Rattle.elaboration.specs.Declarators.{Members, words_type, with_type, member_names, enumerators, suffix_layers, params}
use Rattle.elab_types.specs.Steps.{record_body, enum_body, members_by, member_by, param_by, behind}

-- the type of the words of specs
abbrev pub type_of_words : ℕ → List Spec → Context → With PlainType
type_of_words line words c = words_type line (trees spec_tree words) (trees spec_tree words) c

-- the type of a word that says it alone, by the rules of types
abbrev pub type_of_word : ℕ → Spec → Context → With PlainType
type_of_word line word c = with_type (special_type line (spec_tree word) (asked c)) c

-- a struct or union with its members, and an enum with its enumerators
abbrev pub record_of : ℕ → RecordSort → Option (List ℕ) → List Member → Context → With PlainType
record_of line sort name list c = record_body line sort name (trees member_view list) c

abbrev pub enum_of : ℕ → Option (List ℕ) → List Enumerator → Context → With PlainType
enum_of line name list c = enum_body line name (trees enumerator_tree list) c

abbrev pub all_enumerators : List Enumerator → Context → Checked Context
all_enumerators list c = enumerators (trees enumerator_tree list) (pos 0) c

-- members with those of one declaration behind them
abbrev pub members_of : Member → Members → Context → With Members
members_of part before c =
    members_by part.line (specs_view part.specs) (trees declarator_tree part.declarators.items) before c

-- members of a type with those of some declarators, and of one, behind them
abbrev pub members_named : ℕ → PlainType → List Declarator → Members → Context → With Members
members_named line base list before c = member_names line base (trees declarator_tree list) before c

abbrev pub member_named : ℕ → PlainType → Declarator → Members → Context → With Members
member_named line base declarator before c = member_by line base (declarator_tree declarator) before c

-- layers with those of suffixes behind them
abbrev pub layers_behind : List CodeLayer → List Suffix → Context → With (List Layer)
layers_behind before list c = behind (map plain_layer before) (suffix_layers (trees suffix_view list) c)

-- the type of a parameter
abbrev pub param_of : Param → Context → With PlainType
param_of part c = param_by part.line (specs_view part.specs) (declarator_tree part.declarator) c
