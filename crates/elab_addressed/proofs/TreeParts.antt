-- What is known behind trees of the code, by their parts.
use Rattle.std.proofs.Common.{◌≡◌, ℕ, zero, suc, Bool, List, [], ◌∷◌, ◌++◌, Option, Some, None, option_map, Box, Vec, Global, refl, ap, sym, ◌∙◌}
use Rattle.std.specs.Prelude.{replicate}
use Rattle.c_tree.specs.declared.tree.ExprKind.{ExprKind}
use Rattle.c_tree.specs.declared.tree.ExprKind.TheVariants as e
use Rattle.c_tree.specs.declared.tree.Expr.{Expr}
use Rattle.c_tree.specs.declared.tree.TypeName.{TypeName}
use Rattle.c_tree.specs.declared.tree.TagKind.{TagKind}
use Rattle.c_tree.specs.declared.tree.TagKind.TheVariants as t
use Rattle.c_tree.specs.declared.tree.Member.{Member}
use Rattle.c_tree.specs.declared.tree.Enumerator.{Enumerator, out-Enumerator, roll-out-Enumerator}
use Rattle.c_tree.specs.declared.tree.Declarator.{Declarator}
use Rattle.c_tree.specs.declared.tree.Declarator.TheVariants as d
use Rattle.c_tree.specs.declared.tree.Base.{Base}
use Rattle.c_tree.specs.declared.tree.Suffix.{Suffix}
use Rattle.c_tree.specs.declared.tree.SuffixKind.{SuffixKind}
use Rattle.c_tree.specs.declared.tree.SuffixKind.TheVariants as s
use Rattle.c_tree.specs.declared.tree.Param.{Param}
use Rattle.c_tree.specs.declared.statement.Init.{Init}
use Rattle.c_tree.specs.declared.statement.InitKind.{InitKind}
use Rattle.c_tree.specs.declared.statement.InitKind.TheVariants as i
use Rattle.c_tree.specs.declared.statement.Stmt.{Stmt}
use Rattle.c_tree.specs.declared.statement.StmtKind.{StmtKind}
use Rattle.c_tree.specs.declared.statement.StmtKind.TheVariants as k
use Rattle.c_tree.specs.declared.operator.RecordSort.{RecordSort}
use Rattle.c_tree.specs.Forms as f
use Rattle.c_tree.specs.Tree.{Tree, At, Node, none, ◌▹◌}
use Rattle.c_tree.specs.declared.word.Keyword.TheVariants as w
use Rattle.c_tree.specs.Places.{Place}
use Rattle.c_tree.specs.Places as p
use Rattle.c_tree.specs.Grammar.{Item, Part, key, shape}
use Rattle.c_tree.specs.Scopes.{first_name, name_of, name_among, leads_to_name, places, is_scope}
use Rattle.c_tree.specs.View.{name_leaf, expr_tree, tag_tree, enumerator_tree, declarator_tree, base_tree, suffix_tree, literal_leaves, maybe_name}
use Rattle.c_tree.specs.StatementView.{maybe, trees, expr_view, specs_view, typename_view, member_view, suffix_view, param_view, init_tree, init_view, entry_view, names_view, stmt_tree, stmt_view}
use Rattle.c_tree.specs.ViewEquations.{enumerator_value_tree, array_tree, call_tree, sizeof_type_tree, cast_tree, record_body_tree, enum_body_tree, direct_tree, params_tree}
use Rattle.c_tree.specs.StatementViewEquations.{init_list_tree, block_tree, delay_tree, if_else_tree}
use Rattle.elaboration.specs.Addressed.{Taken, taken, all_taken, left, left_scope, with_known, with_local, declare}
use Rattle.elab_addressed.specs.Turns.{in_turn, settled, inside}
use Rattle.elab_addressed.proofs.ListTurns.{arguments_turn, strings_turn, members_turn, member_names_turn, enumerators_turn, suffixes_turn, params_turn, names_turn, inits_turn, items_turn}

name_none : (name : Option (List ℕ)) → first_name name None ≡ name
name_none None = refl
name_none (Some name) = refl

module _ (x : Taken) where
  leaves : (parts : List (List ℕ)) → in_turn (literal_leaves parts) x ≡ x
  unfolding taken left all_taken shape is_scope
  leaves [] = refl
  leaves (bytes ∷ rest) = leaves rest

  pub str_is : (kind : ExprKind) (parts : List (List ℕ)) (line : ℕ) → kind ≡ e.Str parts → taken (expr_tree kind line) x ≡ x
  unfolding expr_tree taken left all_taken shape is_scope
  str_is kind parts line h =
      ap (λ (k : ExprKind). taken (expr_tree k line) x) h
      ∙ ap (λ (y : Taken). settled x y) (strings_turn (literal_leaves parts) x ∙ ap (λ (y : Taken). settled x y) (leaves parts))

  pub call_is : (kind : ExprKind) (callee : Box Expr Global) (arguments : Vec Expr Global) (line : ℕ) → kind ≡ e.Call callee arguments →
      taken (expr_tree kind line) x ≡ settled x (in_turn (trees expr_view arguments.items) (taken (expr_view callee.value) x))
  unfolding taken left all_taken shape is_scope
  call_is kind callee arguments line h =
      ap (λ (k : ExprKind). taken (expr_tree k line) x) h
      ∙ ap (λ (tree : Tree). taken tree x) (call_tree callee arguments line)
      ∙ ap (λ (y : Taken). settled x y) (arguments_turn (trees expr_view arguments.items) (taken (expr_view callee.value) x))

  pub sizeof_is : (kind : ExprKind) (type : Box TypeName Global) (line : ℕ) → kind ≡ e.SizeofType type →
      taken (expr_tree kind line) x ≡ settled x (taken (typename_view type.value) x)
  unfolding taken left all_taken shape is_scope
  sizeof_is kind type line h =
      ap (λ (k : ExprKind). taken (expr_tree k line) x) h ∙ ap (λ (tree : Tree). taken tree x) (sizeof_type_tree type line)

  pub cast_is : (kind : ExprKind) (type : Box TypeName Global) (operand : Box Expr Global) (line : ℕ) → kind ≡ e.Cast type operand →
      taken (expr_tree kind line) x ≡ settled x (taken (expr_view operand.value) (taken (typename_view type.value) x))
  unfolding taken left all_taken shape is_scope
  cast_is kind type operand line h =
      ap (λ (k : ExprKind). taken (expr_tree k line) x) h ∙ ap (λ (tree : Tree). taken tree x) (cast_tree type operand line)

  named_nothing : (name : Option (List ℕ)) → taken (maybe_name name) x ≡ x
  unfolding taken left all_taken shape is_scope
  named_nothing None = refl
  named_nothing (Some bytes) = refl

  pub record_is : (kind : TagKind) (sort : RecordSort) (name : Option (List ℕ)) (members : Vec Member Global) (line : ℕ) → kind ≡ t.RecordBody sort name members →
      taken (tag_tree kind line) x ≡ settled x (in_turn (trees member_view members.items) x)
  unfolding taken left all_taken shape is_scope
  record_is kind sort name members line h =
      ap (λ (k : TagKind). taken (tag_tree k line) x) h
      ∙ ap (λ (tree : Tree). taken tree x) (record_body_tree sort name members line)
      ∙ ap (λ (y : Taken). settled x (taken (Node f.Members (trees member_view members.items)) y)) (named_nothing name)
      ∙ ap (λ (y : Taken). settled x y) (members_turn (trees member_view members.items) x)

  pub enum_is : (kind : TagKind) (name : Option (List ℕ)) (enumerators : Vec Enumerator Global) (trailing : Bool) (line : ℕ) → kind ≡ t.EnumBody name enumerators trailing →
      taken (tag_tree kind line) x ≡ settled x (in_turn (trees enumerator_tree enumerators.items) x)
  unfolding taken left all_taken shape is_scope
  enum_is kind name enumerators trailing line h =
      ap (λ (k : TagKind). taken (tag_tree k line) x) h
      ∙ ap (λ (tree : Tree). taken tree x) (enum_body_tree name enumerators trailing line)
      ∙ ap (λ (y : Taken). settled x (taken (Node f.Enumerators (trees enumerator_tree enumerators.items)) y)) (named_nothing name)
      ∙ ap (λ (y : Taken). settled x y) (enumerators_turn (trees enumerator_tree enumerators.items) x)

  pub member_is : (m : Member) → taken (member_view m) x ≡ settled x (in_turn (trees declarator_tree m.declarators.items) (taken (specs_view m.specs) x))
  unfolding taken left all_taken shape is_scope
  member_is m =
      ap (λ (y : Taken). settled x y) (member_names_turn (trees declarator_tree m.declarators.items) (taken (specs_view m.specs) x))

  consts_none : (n : ℕ) (rest : List Item) → places (replicate n (key w.Const) ++ rest) ≡ places rest
  consts_none zero rest = refl
  consts_none (suc n) rest = consts_none n rest

  pub pointer_is : (declarator : Declarator) (line consts : ℕ) (target : Box Declarator Global) → declarator ≡ d.Pointer line consts target →
      taken (declarator_tree declarator) x ≡ settled x (taken (declarator_tree target.value) x)
  unfolding declarator_tree taken left all_taken shape is_scope
  pointer_is declarator line consts target h =
      ap (λ (k : Declarator). taken (declarator_tree k) x) h
      ∙ ap (λ (ps : List Place). settled x (all_taken (At line ▹ declarator_tree target.value ▹ none) (p.Line ∷ ps) x)) (consts_none consts (Part p.AnyDeclarator ∷ []))

  pub direct_is : (declarator : Declarator) (base : Base) (suffixes : Vec Suffix Global) → declarator ≡ d.Direct base suffixes →
      taken (declarator_tree declarator) x ≡ settled x (in_turn (trees suffix_view suffixes.items) (taken (base_tree base) x))
  unfolding taken left all_taken shape is_scope
  direct_is declarator base suffixes h =
      ap (λ (k : Declarator). taken (declarator_tree k) x) h
      ∙ ap (λ (tree : Tree). taken tree x) (direct_tree base suffixes)
      ∙ ap (λ (y : Taken). settled x y) (suffixes_turn (trees suffix_view suffixes.items) (taken (base_tree base) x))

  pub params_is : (kind : SuffixKind) (params : Vec Param Global) (line : ℕ) → kind ≡ s.Params params →
      taken (suffix_tree kind line) x ≡ left_scope x (in_turn (trees param_view params.items) x)
  unfolding taken left all_taken shape is_scope
  params_is kind params line h =
      ap (λ (k : SuffixKind). taken (suffix_tree k line) x) h
      ∙ ap (λ (tree : Tree). taken tree x) (params_tree params line)
      ∙ ap (λ (y : Taken). left_scope x y) (params_turn (trees param_view params.items) x)

  pub array_none : (kind : SuffixKind) (length : Option (Box Expr Global)) (line : ℕ) → kind ≡ s.Array length → length ≡ None →
      taken (suffix_tree kind line) x ≡ x
  unfolding taken left all_taken shape is_scope
  array_none kind length line h e =
      ap (λ (k : SuffixKind). taken (suffix_tree k line) x) h
      ∙ ap (λ (l : Option (Box Expr Global)). taken (suffix_tree (s.Array l) line) x) e
      ∙ ap (λ (tree : Tree). taken tree x) (array_tree None line)

  pub array_some : (kind : SuffixKind) (length : Option (Box Expr Global)) (one : Box Expr Global) (line : ℕ) → kind ≡ s.Array length → length ≡ Some one →
      taken (suffix_tree kind line) x ≡ settled x (taken (expr_view one.value) x)
  unfolding taken left all_taken shape is_scope
  array_some kind length one line h e =
      ap (λ (k : SuffixKind). taken (suffix_tree k line) x) h
      ∙ ap (λ (l : Option (Box Expr Global)). taken (suffix_tree (s.Array l) line) x) e
      ∙ ap (λ (tree : Tree). taken tree x) (array_tree (Some one) line)

  pub param_is : (p : Param) →
      taken (param_view p) x ≡ with_local (name_of (declarator_tree p.declarator)) (settled x (taken (declarator_tree p.declarator) (taken (specs_view p.specs) x)))
  unfolding taken left all_taken shape is_scope name_of name_among leads_to_name
  param_is p =
      ap (λ (n : Option (List ℕ)). with_local n (settled x (taken (declarator_tree p.declarator) (taken (specs_view p.specs) x)))) (name_none (name_of (declarator_tree p.declarator)))

  abbrev value_tree : ℕ → List ℕ → Option (Box Expr Global) → Tree
  value_tree line name value =
      Node f.Enumerator (At line ▹ name_leaf name ▹ maybe f.MaybeValue expr_view (option_map (λ b. b.value) value) ▹ none)

  with_value : (e : Enumerator) (value : Option (Box Expr Global)) → (out-Enumerator e).value ≡ value →
      taken (enumerator_tree e) x ≡ taken (value_tree (out-Enumerator e).line (out-Enumerator e).name value) x
  with_value e value h =
      ap (λ (k : Enumerator). taken (enumerator_tree k) x) (sym (roll-out-Enumerator e))
      ∙ ap (λ (tree : Tree). taken tree x) (enumerator_value_tree (out-Enumerator e).line (out-Enumerator e).name (out-Enumerator e).value)
      ∙ ap (λ (v : Option (Box Expr Global)). taken (value_tree (out-Enumerator e).line (out-Enumerator e).name v) x) h

  pub enumerator_none : (e : Enumerator) → (out-Enumerator e).value ≡ None →
      taken (enumerator_tree e) x ≡ with_known (Some (out-Enumerator e).name) None x
  unfolding taken left all_taken shape is_scope name_of name_among leads_to_name
  enumerator_none e h = with_value e None h

  pub enumerator_some : (e : Enumerator) (value : Box Expr Global) → (out-Enumerator e).value ≡ Some value →
      taken (enumerator_tree e) x ≡ with_known (Some (out-Enumerator e).name) None (settled x (taken (expr_view value.value) x))
  unfolding taken left all_taken shape is_scope name_of name_among leads_to_name
  enumerator_some e value h = with_value e (Some value) h

  pub init_list_is : (kind : InitKind) (inits : Vec Init Global) (trailing : Bool) (line : ℕ) → kind ≡ i.List inits trailing →
      taken (init_tree kind line) x ≡ settled x (in_turn (trees init_view inits.items) x)
  unfolding taken left all_taken shape is_scope
  init_list_is kind inits trailing line h =
      ap (λ (k : InitKind). taken (init_tree k line) x) h
      ∙ ap (λ (tree : Tree). taken tree x) (init_list_tree inits trailing line)
      ∙ ap (λ (y : Taken). settled x y) (inits_turn (trees init_view inits.items) x)

  pub entry_is : (one : Declarator × Option Init) →
      taken (entry_view one) x ≡ settled x (taken (maybe f.MaybeInit init_view one.1) (declare x.typedef (name_of (declarator_tree one.0)) (settled x (taken (declarator_tree one.0) x))))
  unfolding taken left all_taken shape is_scope name_of name_among leads_to_name
  entry_is one =
      ap (λ (n : Option (List ℕ)). settled x (taken (maybe f.MaybeInit init_view one.1) (declare x.typedef n (settled x (taken (declarator_tree one.0) x))))) (name_none (name_of (declarator_tree one.0)))

  pub names_is : (names : List (Declarator × Option Init)) → taken (names_view names) x ≡ settled x (in_turn (trees entry_view names) x)
  names_is names = names_turn (trees entry_view names) x

  pub block_is : (kind : StmtKind) (list : Vec Stmt Global) (line : ℕ) → kind ≡ k.Block list →
      inside (stmt_tree kind line) x ≡ settled x (in_turn (trees stmt_view list.items) x)
  unfolding taken left all_taken shape is_scope
  block_is kind list line h =
      ap (λ (k : StmtKind). inside (stmt_tree k line) x) h
      ∙ ap (λ (tree : Tree). inside tree x) (block_tree list line)
      ∙ items_turn (trees stmt_view list.items) x

  pub delay_is : (kind : StmtKind) (list : Vec Stmt Global) (line : ℕ) → kind ≡ k.Delay list →
      inside (stmt_tree kind line) x ≡ settled x (in_turn (trees stmt_view list.items) x)
  unfolding taken left all_taken shape is_scope
  delay_is kind list line h =
      ap (λ (k : StmtKind). inside (stmt_tree k line) x) h
      ∙ ap (λ (tree : Tree). inside tree x) (delay_tree list line)
      ∙ items_turn (trees stmt_view list.items) x

  pub if_is : (kind : StmtKind) (test : Expr) (body : Box Stmt Global) (other : Option (Box Stmt Global)) (line : ℕ) → kind ≡ k.If test body other → other ≡ None →
      inside (stmt_tree kind line) x ≡ left_scope (taken (expr_view test) x) (taken (stmt_view body.value) (taken (expr_view test) x))
  unfolding taken left all_taken shape is_scope
  if_is kind test body other line h e =
      ap (λ (k : StmtKind). inside (stmt_tree k line) x) h
      ∙ ap (λ (o : Option (Box Stmt Global)). inside (stmt_tree (k.If test body o) line) x) e
      ∙ ap (λ (tree : Tree). inside tree x) (if_else_tree test body None line)

  pub if_else_is : (kind : StmtKind) (test : Expr) (body : Box Stmt Global) (other : Option (Box Stmt Global)) (one : Box Stmt Global) (line : ℕ) → kind ≡ k.If test body other → other ≡ Some one →
      let c = left_scope (taken (expr_view test) x) (taken (stmt_view body.value) (taken (expr_view test) x)) in
      inside (stmt_tree kind line) x ≡ left_scope c (taken (stmt_view one.value) c)
  unfolding taken left all_taken shape is_scope
  if_else_is kind test body other one line h e =
      ap (λ (k : StmtKind). inside (stmt_tree k line) x) h
      ∙ ap (λ (o : Option (Box Stmt Global)). inside (stmt_tree (k.If test body o) line) x) e
      ∙ ap (λ (tree : Tree). inside tree x) (if_else_tree test body (Some one) line)
