-- What is known behind trees of the code, and the trees as they stand in the program, by their parts.
use Rattle.c_units.proofs.Words.Std.{Bool, Box, Global, List, None, Option, Some, Vec, [], ap, option_map, refl, replicate, suc, sym, true, zero, ℕ, ◌++◌, ◌∙◌, ◌∷◌, ◌≡◌}
use Rattle.c_units.proofs.Words.Trees.{At, Base, Declarator, Enumerator, Expr, ExprKind, Init, InitKind, Item, Leaf, Member, Node, Param, Part, Place, RecordSort, Specs, Stmt, StmtKind, Suffix, SuffixKind, TagKind, Tree, Trees, TypeName, array_tree, base_tree, block_tree, call_tree, cast_tree, declarator_tree, delay_tree, direct_tree, entry_view, enum_body_tree, enumerator_tree, enumerator_value_tree, expr_tree, expr_view, first_name, if_else_tree, if_view, init_list_tree, init_tree, init_view, is_scope, key, leads_to_name, literal_leaves, maybe, maybe_name, member_view, name_among, name_leaf, name_of, names_view, none, out-Enumerator, param_view, params_tree, places, record_body_tree, roll-out-Enumerator, shape, sizeof_type_tree, spec_tree, specs_view, stmt_tree, stmt_view, suffix_tree, suffix_view, tag_tree, trees, typename_view, ◌▹◌}
use Rattle.c_units.proofs.Words.Units.{Defined, Names, Tagged, all_behind, all_renamed, behind, behind_maybe, binding_at, declare, each_renamed, entered, in_turn, inner, left, left_scope, made, mention, mention_any, renamed, renamed_maybe}
use Rattle.c_tree.specs.declared.tree.ExprKind.TheVariants as e
use Rattle.c_tree.specs.declared.tree.TagKind.TheVariants as t
use Rattle.c_tree.specs.declared.tree.Declarator.TheVariants as d
use Rattle.c_tree.specs.declared.tree.SuffixKind.TheVariants as s
use Rattle.c_tree.specs.declared.statement.InitKind.TheVariants as i
use Rattle.c_tree.specs.declared.statement.StmtKind.TheVariants as k
use Rattle.c_tree.specs.declared.word.Keyword.TheVariants as w
use Rattle.c_tree.specs.Forms as f
use Rattle.c_tree.specs.Words as word
use Rattle.c_tree.specs.Places as p
use Rattle.c_units.proofs.ListTurns.{arguments_turn, strings_turn, members_turn, member_names_turn, enumerators_turn, suffixes_turn, params_turn, names_turn, inits_turn, items_turn, specs_turn}

-- what is known behind a tree, and the tree as it stands in the program
abbrev pub Is : Tree → Names → Names → Tree → Type 0
Is tree x known new = (behind tree x ≡ known) × (renamed tree x ≡ new)

same_as : (tree other : Tree) (x known : Names) (new : Tree) → tree ≡ other → Is other x known new → Is tree x known new
same_as tree other x known new h is = (ap (λ (y : Tree). behind y x) h ∙ is.0, ap (λ (y : Tree). renamed y x) h ∙ is.1)

name_none : (name : Option (List ℕ)) → first_name name None ≡ name
name_none None = refl
name_none (Some name) = refl

consts_none : (n : ℕ) (rest : List Item) → places (replicate n (key w.Const) ++ rest) ≡ places rest
consts_none zero rest = refl
consts_none (suc n) rest = consts_none n rest

value_is : (x : Names) (value : Option (Box Expr Global)) →
    let tree = option_map (λ b. expr_view b.value) value in
    Is (maybe f.MaybeValue expr_view (option_map (λ b. b.value) value)) x (behind_maybe tree x) (renamed_maybe f.MaybeValue tree x)
unfolding behind all_behind renamed all_renamed left entered made shape is_scope
value_is x None = (refl, refl)
value_is x (Some one) = (refl, refl)

length_is : (x : Names) (length : Option (Box Expr Global)) →
    let tree = option_map (λ b. expr_view b.value) length in
    Is (maybe f.MaybeLength expr_view (option_map (λ b. b.value) length)) x (behind_maybe tree x) (renamed_maybe f.MaybeLength tree x)
unfolding behind all_behind renamed all_renamed left entered made shape is_scope
length_is x None = (refl, refl)
length_is x (Some one) = (refl, refl)

module _ (x : Names) where
  leaves : (parts : List (List ℕ)) → (in_turn (literal_leaves parts) x ≡ x) × (each_renamed (literal_leaves parts) x ≡ literal_leaves parts)
  unfolding behind renamed
  leaves [] = (refl, refl)
  leaves (bytes ∷ rest) = let h = leaves rest in (h.0, ap (λ (l : Trees). Leaf (word.Str bytes) ▹ l) h.1)

  pub str_known : (kind : ExprKind) (parts : List (List ℕ)) (line : ℕ) → kind ≡ e.Str parts → behind (expr_tree kind line) x ≡ x
  unfolding expr_tree behind all_behind left entered shape is_scope
  str_known kind parts line h =
      ap (λ (k : ExprKind). behind (expr_tree k line) x) h ∙ (strings_turn (literal_leaves parts) x).0 ∙ (leaves parts).0

  pub str_made : (kind : ExprKind) (parts : List (List ℕ)) (line : ℕ) → kind ≡ e.Str parts →
      renamed (expr_tree kind line) x ≡ Node f.Str (At line ▹ Node f.Strings (literal_leaves parts) ▹ none)
  unfolding expr_tree behind renamed all_renamed entered made shape is_scope
  str_made kind parts line h =
      ap (λ (k : ExprKind). renamed (expr_tree k line) x) h ∙ ap (λ (y : Tree). Node f.Str (At line ▹ y ▹ none))
      ((strings_turn (literal_leaves parts) x).1 ∙ ap (λ (l : Trees). Node f.Strings l) (leaves parts).1)

  pub call_is : (kind : ExprKind) (callee : Box Expr Global) (arguments : Vec Expr Global) (line : ℕ) → kind ≡ e.Call callee arguments →
      let c = behind (expr_view callee.value) x in
      Is (expr_tree kind line) x (in_turn (trees expr_view arguments.items) c)
      (Node f.Call (At line ▹ renamed (expr_view callee.value) x ▹ Node f.Arguments (each_renamed (trees expr_view arguments.items) c) ▹ none))
  unfolding behind all_behind renamed all_renamed left entered made shape is_scope
  call_is kind callee arguments line h =
      let turn = arguments_turn (trees expr_view arguments.items) (behind (expr_view callee.value) x) in
      same_as _ _ x _ _ (ap (λ (k : ExprKind). expr_tree k line) h ∙ call_tree callee arguments line)
      (turn.0, ap (λ (y : Tree). Node f.Call (At line ▹ renamed (expr_view callee.value) x ▹ y ▹ none)) turn.1)

  pub sizeof_is : (kind : ExprKind) (type : Box TypeName Global) (line : ℕ) → kind ≡ e.SizeofType type →
      Is (expr_tree kind line) x (behind (typename_view type.value) x) (Node f.SizeofType (At line ▹ renamed (typename_view type.value) x ▹ none))
  unfolding behind all_behind renamed all_renamed left entered made shape is_scope
  sizeof_is kind type line h = same_as _ _ x _ _ (ap (λ (k : ExprKind). expr_tree k line) h ∙ sizeof_type_tree type line) (refl, refl)

  pub cast_is : (kind : ExprKind) (type : Box TypeName Global) (operand : Box Expr Global) (line : ℕ) → kind ≡ e.Cast type operand →
      let c = behind (typename_view type.value) x in
      Is (expr_tree kind line) x (behind (expr_view operand.value) c)
      (Node f.Cast (At line ▹ renamed (typename_view type.value) x ▹ renamed (expr_view operand.value) c ▹ none))
  unfolding behind all_behind renamed all_renamed left entered made shape is_scope
  cast_is kind type operand line h = same_as _ _ x _ _ (ap (λ (k : ExprKind). expr_tree k line) h ∙ cast_tree type operand line) (refl, refl)

  pub specs_known : (specs : Specs) → behind (specs_view specs) x ≡ in_turn (trees spec_tree specs.words.items) x
  specs_known specs = (specs_turn (trees spec_tree specs.words.items) x specs.line).0

  pub specs_made : (specs : Specs) → renamed (specs_view specs) x ≡ Node f.Specs (At specs.line ▹ each_renamed (trees spec_tree specs.words.items) x)
  specs_made specs = (specs_turn (trees spec_tree specs.words.items) x specs.line).1

  pub record_is : (kind : TagKind) (sort : RecordSort) (name : Option (List ℕ)) (members : Vec Member Global) (line : ℕ) → kind ≡ t.RecordBody sort name members →
      let c = mention_any name (binding_at x) Tagged line x in
      Is (tag_tree kind line) x (in_turn (trees member_view members.items) c)
      (Node (f.RecordBody sort) (At line ▹ maybe_name name ▹ Node f.Members (each_renamed (trees member_view members.items) c) ▹ none))
  unfolding behind all_behind renamed all_renamed left entered made shape is_scope name_among
  record_is kind sort None members line h =
      let turn = members_turn (trees member_view members.items) x in
      same_as _ _ x _ _ (ap (λ (k : TagKind). tag_tree k line) h ∙ record_body_tree sort None members line)
      (turn.0, ap (λ (y : Tree). Node (f.RecordBody sort) (At line ▹ maybe_name None ▹ y ▹ none)) turn.1)
  record_is kind sort (Some name) members line h =
      let turn = members_turn (trees member_view members.items) (mention (binding_at x) Tagged name line x) in
      same_as _ _ x _ _ (ap (λ (k : TagKind). tag_tree k line) h ∙ record_body_tree sort (Some name) members line)
      (turn.0, ap (λ (y : Tree). Node (f.RecordBody sort) (At line ▹ maybe_name (Some name) ▹ y ▹ none)) turn.1)

  pub enum_is : (kind : TagKind) (name : Option (List ℕ)) (enumerators : Vec Enumerator Global) (trailing : Bool) (line : ℕ) → kind ≡ t.EnumBody name enumerators trailing →
      let c = mention_any name (binding_at x) Tagged line x in
      Is (tag_tree kind line) x (in_turn (trees enumerator_tree enumerators.items) c)
      (Node (f.EnumBody trailing) (At line ▹ maybe_name name ▹ Node f.Enumerators (each_renamed (trees enumerator_tree enumerators.items) c) ▹ none))
  unfolding behind all_behind renamed all_renamed left entered made shape is_scope name_among
  enum_is kind None enumerators trailing line h =
      let turn = enumerators_turn (trees enumerator_tree enumerators.items) x in
      same_as _ _ x _ _ (ap (λ (k : TagKind). tag_tree k line) h ∙ enum_body_tree None enumerators trailing line)
      (turn.0, ap (λ (y : Tree). Node (f.EnumBody trailing) (At line ▹ maybe_name None ▹ y ▹ none)) turn.1)
  enum_is kind (Some name) enumerators trailing line h =
      let turn = enumerators_turn (trees enumerator_tree enumerators.items) (mention (binding_at x) Tagged name line x) in
      same_as _ _ x _ _ (ap (λ (k : TagKind). tag_tree k line) h ∙ enum_body_tree (Some name) enumerators trailing line)
      (turn.0, ap (λ (y : Tree). Node (f.EnumBody trailing) (At line ▹ maybe_name (Some name) ▹ y ▹ none)) turn.1)

  pub member_known : (m : Member) → behind (member_view m) x ≡ in_turn (trees declarator_tree m.declarators.items) (behind (specs_view m.specs) x)
  unfolding behind all_behind left entered shape is_scope
  member_known m = (member_names_turn (trees declarator_tree m.declarators.items) (behind (specs_view m.specs) x)).0

  pub member_made : (m : Member) → renamed (member_view m) x ≡
      Node f.Member (At m.line ▹ renamed (specs_view m.specs) x ▹ Node f.MemberNames (each_renamed (trees declarator_tree m.declarators.items) (behind (specs_view m.specs) x)) ▹ none)
  unfolding behind renamed all_renamed entered made shape is_scope
  member_made m =
      ap (λ (y : Tree). Node f.Member (At m.line ▹ renamed (specs_view m.specs) x ▹ y ▹ none)) (member_names_turn (trees declarator_tree m.declarators.items) (behind (specs_view m.specs) x)).1

  pub pointer_known : (declarator : Declarator) (line consts : ℕ) (target : Box Declarator Global) → declarator ≡ d.Pointer line consts target →
      behind (declarator_tree declarator) x ≡ behind (declarator_tree target.value) x
  unfolding declarator_tree behind all_behind left entered shape is_scope
  pointer_known declarator line consts target h =
      ap (λ (k : Declarator). behind (declarator_tree k) x) h
      ∙ ap (λ (ps : List Place). all_behind (At line ▹ declarator_tree target.value ▹ none) (p.Line ∷ ps) x) (consts_none consts (Part p.AnyDeclarator ∷ []))

  pub pointer_made : (declarator : Declarator) (line consts : ℕ) (target : Box Declarator Global) → declarator ≡ d.Pointer line consts target →
      renamed (declarator_tree declarator) x ≡ Node (f.Pointer consts) (At line ▹ renamed (declarator_tree target.value) x ▹ none)
  unfolding declarator_tree behind renamed all_renamed entered made shape is_scope
  pointer_made declarator line consts target h =
      ap (λ (k : Declarator). renamed (declarator_tree k) x) h
      ∙ ap (λ (ps : List Place). Node (f.Pointer consts) (all_renamed (At line ▹ declarator_tree target.value ▹ none) (p.Line ∷ ps) x)) (consts_none consts (Part p.AnyDeclarator ∷ []))

  pub direct_is : (declarator : Declarator) (base : Base) (suffixes : Vec Suffix Global) → declarator ≡ d.Direct base suffixes →
      let c = behind (base_tree base) x in
      Is (declarator_tree declarator) x (in_turn (trees suffix_view suffixes.items) c)
      (Node f.Direct (renamed (base_tree base) x ▹ Node f.Suffixes (each_renamed (trees suffix_view suffixes.items) c) ▹ none))
  unfolding behind all_behind renamed all_renamed left entered made shape is_scope
  direct_is declarator base suffixes h =
      let turn = suffixes_turn (trees suffix_view suffixes.items) (behind (base_tree base) x) in
      same_as _ _ x _ _ (ap (λ (k : Declarator). declarator_tree k) h ∙ direct_tree base suffixes)
      (turn.0, ap (λ (y : Tree). Node f.Direct (renamed (base_tree base) x ▹ y ▹ none)) turn.1)

  pub params_known : (kind : SuffixKind) (params : Vec Param Global) (line : ℕ) → kind ≡ s.Params params →
      behind (suffix_tree kind line) x ≡ left_scope x (in_turn (trees param_view params.items) (record x { inside = true }))
  unfolding behind all_behind left entered shape is_scope
  params_known kind params line h =
      ap (λ (y : Tree). behind y x) (ap (λ (k : SuffixKind). suffix_tree k line) h ∙ params_tree params line)
      ∙ ap (λ (y : Names). left_scope x y) (params_turn (trees param_view params.items) (record x { inside = true })).0

  pub params_made : (kind : SuffixKind) (params : Vec Param Global) (line : ℕ) → kind ≡ s.Params params →
      renamed (suffix_tree kind line) x ≡ Node f.FunctionSuffix (At line ▹ Node f.Params (each_renamed (trees param_view params.items) (record x { inside = true })) ▹ none)
  unfolding behind renamed all_renamed entered made shape is_scope
  params_made kind params line h =
      ap (λ (y : Tree). renamed y x) (ap (λ (k : SuffixKind). suffix_tree k line) h ∙ params_tree params line)
      ∙ ap (λ (y : Tree). Node f.FunctionSuffix (At line ▹ y ▹ none)) (params_turn (trees param_view params.items) (record x { inside = true })).1

  pub array_known : (kind : SuffixKind) (length : Option (Box Expr Global)) (line : ℕ) → kind ≡ s.Array length →
      behind (suffix_tree kind line) x ≡ behind_maybe (option_map (λ b. expr_view b.value) length) x
  unfolding behind all_behind left entered shape is_scope
  array_known kind length line h =
      ap (λ (y : Tree). behind y x) (ap (λ (k : SuffixKind). suffix_tree k line) h ∙ array_tree length line) ∙ (length_is x length).0

  pub array_made : (kind : SuffixKind) (length : Option (Box Expr Global)) (line : ℕ) → kind ≡ s.Array length →
      renamed (suffix_tree kind line) x ≡ Node f.ArraySuffix (At line ▹ renamed_maybe f.MaybeLength (option_map (λ b. expr_view b.value) length) x ▹ none)
  unfolding behind renamed all_renamed entered made shape is_scope
  array_made kind length line h =
      ap (λ (y : Tree). renamed y x) (ap (λ (k : SuffixKind). suffix_tree k line) h ∙ array_tree length line)
      ∙ ap (λ (y : Tree). Node f.ArraySuffix (At line ▹ y ▹ none)) (length_is x length).1

  pub param_known : (p : Param) →
      let c = behind (declarator_tree p.declarator) (behind (specs_view p.specs) x) in
      behind (param_view p) x ≡ declare (name_of (declarator_tree p.declarator)) (binding_at c) c
  unfolding behind all_behind left entered shape is_scope name_of name_among leads_to_name
  param_known p =
      let c = behind (declarator_tree p.declarator) (behind (specs_view p.specs) x) in
      ap (λ (n : Option (List ℕ)). declare n (binding_at c) c) (name_none (name_of (declarator_tree p.declarator)))

  pub param_made : (p : Param) → renamed (param_view p) x ≡
      Node f.Param (At p.line ▹ renamed (specs_view p.specs) x ▹ renamed (declarator_tree p.declarator) (behind (specs_view p.specs) x) ▹ none)
  unfolding behind renamed all_renamed entered made shape is_scope
  param_made p = refl

  pub enumerator_known : (e : Enumerator) →
      let one = out-Enumerator e in
      let c = behind_maybe (option_map (λ b. expr_view b.value) one.value) (mention (binding_at x) Defined one.name one.line x) in
      behind (enumerator_tree e) x ≡ declare (Some one.name) (binding_at c) c
  unfolding behind all_behind left entered shape is_scope name_of name_among leads_to_name
  enumerator_known e =
      let one = out-Enumerator e in
      ap (λ (y : Tree). behind y x) (ap (λ (k : Enumerator). enumerator_tree k) (sym (roll-out-Enumerator e)) ∙ enumerator_value_tree one.line one.name one.value)
      ∙ ap (λ (y : Names). declare (Some one.name) (binding_at y) y) (value_is (mention (binding_at x) Defined one.name one.line x) one.value).0

  pub enumerator_made : (e : Enumerator) →
      let one = out-Enumerator e in
      let value = renamed_maybe f.MaybeValue (option_map (λ b. expr_view b.value) one.value) (mention (binding_at x) Defined one.name one.line x) in
      renamed (enumerator_tree e) x ≡ Node f.Enumerator (At one.line ▹ name_leaf one.name ▹ value ▹ none)
  unfolding behind renamed all_renamed entered made shape is_scope name_of name_among leads_to_name
  enumerator_made e =
      let one = out-Enumerator e in
      ap (λ (y : Tree). renamed y x) (ap (λ (k : Enumerator). enumerator_tree k) (sym (roll-out-Enumerator e)) ∙ enumerator_value_tree one.line one.name one.value)
      ∙ ap (λ (y : Tree). Node f.Enumerator (At one.line ▹ name_leaf one.name ▹ y ▹ none)) (value_is (mention (binding_at x) Defined one.name one.line x) one.value).1

  pub init_list_known : (kind : InitKind) (inits : Vec Init Global) (trailing : Bool) (line : ℕ) → kind ≡ i.List inits trailing →
      behind (init_tree kind line) x ≡ in_turn (trees init_view inits.items) x
  unfolding behind all_behind left entered shape is_scope
  init_list_known kind inits trailing line h =
      ap (λ (y : Tree). behind y x) (ap (λ (k : InitKind). init_tree k line) h ∙ init_list_tree inits trailing line) ∙ (inits_turn (trees init_view inits.items) x).0

  pub init_list_made : (kind : InitKind) (inits : Vec Init Global) (trailing : Bool) (line : ℕ) → kind ≡ i.List inits trailing →
      renamed (init_tree kind line) x ≡ Node (f.InitList trailing) (At line ▹ Node f.Inits (each_renamed (trees init_view inits.items) x) ▹ none)
  unfolding behind renamed all_renamed entered made shape is_scope
  init_list_made kind inits trailing line h =
      ap (λ (y : Tree). renamed y x) (ap (λ (k : InitKind). init_tree k line) h ∙ init_list_tree inits trailing line)
      ∙ ap (λ (y : Tree). Node (f.InitList trailing) (At line ▹ y ▹ none)) (inits_turn (trees init_view inits.items) x).1

  pub entry_known : (one : Declarator × Option Init) →
      let b = behind (declarator_tree one.0) x in
      behind (entry_view one) x ≡ behind (maybe f.MaybeInit init_view one.1) (declare (name_of (declarator_tree one.0)) (binding_at b) b)
  unfolding behind all_behind left entered shape is_scope name_of name_among leads_to_name
  entry_known one =
      let b = behind (declarator_tree one.0) x in
      ap (λ (n : Option (List ℕ)). behind (maybe f.MaybeInit init_view one.1) (declare n (binding_at b) b)) (name_none (name_of (declarator_tree one.0)))

  pub entry_made : (one : Declarator × Option Init) →
      let b = behind (declarator_tree one.0) x in
      let c = declare (name_of (declarator_tree one.0)) (binding_at b) b in
      renamed (entry_view one) x ≡ Node f.Entry (Node f.Declared (renamed (declarator_tree one.0) x ▹ none) ▹ renamed (maybe f.MaybeInit init_view one.1) c ▹ none)
  unfolding behind all_behind renamed all_renamed left entered made shape is_scope name_of name_among leads_to_name
  entry_made one =
      let b = behind (declarator_tree one.0) x in
      ap (λ (n : Option (List ℕ)). Node f.Entry (Node f.Declared (renamed (declarator_tree one.0) x ▹ none) ▹
      renamed (maybe f.MaybeInit init_view one.1) (declare n (binding_at b) b) ▹ none)) (name_none (name_of (declarator_tree one.0)))

  pub names_known : (names : List (Declarator × Option Init)) → behind (names_view names) x ≡ in_turn (trees entry_view names) x
  names_known names = (names_turn (trees entry_view names) x).0

  pub names_made : (names : List (Declarator × Option Init)) → renamed (names_view names) x ≡ Node f.Names (each_renamed (trees entry_view names) x)
  names_made names = (names_turn (trees entry_view names) x).1

  -- what is known before the end of a tree
  pub block_ends : (kind : StmtKind) (list : Vec Stmt Global) (line : ℕ) → kind ≡ k.Block list → inner (stmt_tree kind line) x ≡ in_turn (trees stmt_view list.items) x
  unfolding behind all_behind left entered shape is_scope
  block_ends kind list line h =
      ap (λ (y : Tree). inner y x) (ap (λ (k : StmtKind). stmt_tree k line) h ∙ block_tree list line) ∙ (items_turn (trees stmt_view list.items) x).0

  pub block_made : (kind : StmtKind) (list : Vec Stmt Global) (line : ℕ) → kind ≡ k.Block list →
      renamed (stmt_tree kind line) x ≡ Node f.Block (At line ▹ Node f.Items (each_renamed (trees stmt_view list.items) x) ▹ none)
  unfolding behind renamed all_renamed entered made shape is_scope
  block_made kind list line h =
      ap (λ (y : Tree). renamed y x) (ap (λ (k : StmtKind). stmt_tree k line) h ∙ block_tree list line)
      ∙ ap (λ (y : Tree). Node f.Block (At line ▹ y ▹ none)) (items_turn (trees stmt_view list.items) x).1

  pub delay_ends : (kind : StmtKind) (list : Vec Stmt Global) (line : ℕ) → kind ≡ k.Delay list → inner (stmt_tree kind line) x ≡ in_turn (trees stmt_view list.items) x
  unfolding behind all_behind left entered shape is_scope
  delay_ends kind list line h =
      ap (λ (y : Tree). inner y x) (ap (λ (k : StmtKind). stmt_tree k line) h ∙ delay_tree list line) ∙ (items_turn (trees stmt_view list.items) x).0

  pub delay_made : (kind : StmtKind) (list : Vec Stmt Global) (line : ℕ) → kind ≡ k.Delay list →
      renamed (stmt_tree kind line) x ≡ Node f.Delay (At line ▹ Node f.Items (each_renamed (trees stmt_view list.items) x) ▹ none)
  unfolding behind renamed all_renamed entered made shape is_scope
  delay_made kind list line h =
      ap (λ (y : Tree). renamed y x) (ap (λ (k : StmtKind). stmt_tree k line) h ∙ delay_tree list line)
      ∙ ap (λ (y : Tree). Node f.Delay (At line ▹ y ▹ none)) (items_turn (trees stmt_view list.items) x).1

  pub choice_ends : (kind : StmtKind) (test : Expr) (body : Box Stmt Global) (other : Option (Box Stmt Global)) (line : ℕ) → kind ≡ k.If test body other →
      inner (stmt_tree kind line) x ≡ inner (if_view line (expr_view test) (stmt_view body.value) (option_map (λ b. stmt_view b.value) other)) x
  choice_ends kind test body other line h = ap (λ (y : Tree). inner y x) (ap (λ (k : StmtKind). stmt_tree k line) h ∙ if_else_tree test body other line)

  pub choice_made : (kind : StmtKind) (test : Expr) (body : Box Stmt Global) (other : Option (Box Stmt Global)) (line : ℕ) → kind ≡ k.If test body other →
      renamed (stmt_tree kind line) x ≡ renamed (if_view line (expr_view test) (stmt_view body.value) (option_map (λ b. stmt_view b.value) other)) x
  choice_made kind test body other line h = ap (λ (y : Tree). renamed y x) (ap (λ (k : StmtKind). stmt_tree k line) h ∙ if_else_tree test body other line)
