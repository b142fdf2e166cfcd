-- Nodes with parts in a list or of another kind, as the walk changes them where they stand.
use Rattle.c_units.proofs.Words.Std.{Bool, Box, Err, Global, IfOk, List, Ok, Option, Result, Some, Vec, [], ap, length, option_map, sym, true, with_items, with_items_is, ℕ, ◌∙◌, ◌≡◌}
use Rattle.c_units.proofs.Words.Trees.{At, Base, Declarator, Enumerator, Expr, ExprKind, Form, Init, InitKind, Member, Node, Param, RecordSort, Spec, Specs, Stmt, StmtKind, Suffix, SuffixKind, TagKind, TypeName, array_tree, base_tree, block_tree, call_tree, cast_tree, declarator_tree, delay_tree, direct_tree, enum_body_tree, enumerator_tree, enumerator_value_tree, expr_tree, expr_view, init_list_tree, init_tree, init_view, maybe, member_view, none, out-Enumerator, param_view, params_tree, record_body_tree, roll-Enumerator, sizeof_type_tree, spec_tree, specs_view, stmt_tree, stmt_view, suffix_tree, suffix_view, tag_tree, trees, typename_view, ◌▹◌}
use Rattle.c_units.proofs.Words.Units.{Binding, Defined, Names, Tagged, behind, behind_maybe, binding_at, declare, each_renamed, in_turn, mention, mention_any, renamed, renamed_maybe}
use Rattle.c_tree.specs.declared.tree.ExprKind.TheVariants as e
use Rattle.c_tree.specs.declared.tree.TagKind.TheVariants as t
use Rattle.c_tree.specs.declared.tree.Declarator.TheVariants as d
use Rattle.c_tree.specs.declared.tree.SuffixKind.TheVariants as s
use Rattle.c_tree.specs.declared.statement.InitKind.TheVariants as i
use Rattle.c_tree.specs.declared.statement.StmtKind.TheVariants as k
use Rattle.c_tree.specs.Forms as f
use Rattle.c_units.proofs.TreeParts.{enumerator_made, enumerator_known, call_is, sizeof_is, cast_is, record_is, enum_is, specs_made, member_made, pointer_made, direct_is, array_made, params_made, init_list_made, block_made, delay_made}
use Rattle.c_units.proofs.KeptParams.{each_stays}

-- what follows where a step went well
pub if_by : {T E : Type 0} {A B : Type 0} (r : Result T E) → (A → B) → IfOk r (λ _. A) → IfOk r (λ _. B)
if_by (Ok x) h a = h a
if_by (Err x) h a = tt

pub always : {T E : Type 0} {A : Type 0} (r : Result T E) → A → IfOk r (λ _. A)
always (Ok x) a = a
always (Err x) a = tt

-- a list as long as the one in whose place it stands
pub held : {A : Type 0} (v : Vec A Global) (list news : List A) → list ≡ v.items → length news ≡ length list → (with_items v news).items ≡ news
held v list news same long = with_items_is v news (long ∙ ap length same ∙ sym v.ok.0)

pub inside : {A : Type 0} (w v : Box A Global) (one : A) → w ≡ v → one ≡ w.value → one ≡ v.value
inside w v one same is = is ∙ ap (λ (b : Box _ Global). b.value) same

pub items_in : {A : Type 0} (w v : Vec A Global) (list : List A) → w ≡ v → list ≡ w.items → list ≡ v.items
items_in w v list same is = is ∙ ap (λ (u : Vec _ Global). u.items) same

module _ {T E : Type 0} (r : Result T E) (x : Names) where
  module _ (new old : ExprKind) (line : ℕ) (y : Names) (w callee : Box Expr Global) (v arguments : Vec Expr Global) (one : Expr) (list : List Expr)
      (is : old ≡ e.Call callee arguments) (same : w ≡ callee) (all : v ≡ arguments) (first : one ≡ w.value) (rest : list ≡ v.items)
      (known : y ≡ behind (expr_view one) x) where
    pub call_new : (callee' : Box Expr Global) (news : List Expr) → new ≡ e.Call callee' (with_items v news) → length news ≡ length list →
        expr_view callee'.value ≡ renamed (expr_view one) x → IfOk r (λ _. trees expr_view news ≡ each_renamed (trees expr_view list) y) →
        IfOk r (λ _. expr_tree new line ≡ renamed (expr_tree old line) x)
    call_new callee' news made long here =
        if_by r (λ more. cc (call_tree callee' (with_items v news) line, held v list news rest long, (call_is x old callee arguments line is).1))

    pub call_names : (z : Names) → IfOk r (λ _. z ≡ in_turn (trees expr_view list) y) → IfOk r (λ _. z ≡ behind (expr_tree old line) x)
    call_names z = if_by r (λ more. cc ((call_is x old callee arguments line is).0))

  module _ (new old : ExprKind) (line : ℕ) (w type : Box TypeName Global) (one : TypeName) (is : old ≡ e.SizeofType type) (same : w ≡ type) (first : one ≡ w.value) where
    pub sizeof_new : (type' : Box TypeName Global) → new ≡ e.SizeofType type' → IfOk r (λ _. typename_view type'.value ≡ renamed (typename_view one) x) →
        IfOk r (λ _. expr_tree new line ≡ renamed (expr_tree old line) x)
    sizeof_new type' made = if_by r (λ here. cc (sizeof_type_tree type' line, (sizeof_is x old type line is).1))

    pub sizeof_names : (z : Names) → IfOk r (λ _. z ≡ behind (typename_view one) x) → IfOk r (λ _. z ≡ behind (expr_tree old line) x)
    sizeof_names z = if_by r (λ known. cc ((sizeof_is x old type line is).0))

  module _ (new old : ExprKind) (line : ℕ) (y : Names) (w type : Box TypeName Global) (v operand : Box Expr Global) (one : TypeName) (other : Expr)
      (is : old ≡ e.Cast type operand) (same : w ≡ type) (all : v ≡ operand) (first : one ≡ w.value) (rest : other ≡ v.value)
      (known : y ≡ behind (typename_view one) x) where
    pub cast_new : (type' : Box TypeName Global) (operand' : Box Expr Global) → new ≡ e.Cast type' operand' →
        typename_view type'.value ≡ renamed (typename_view one) x → IfOk r (λ _. expr_view operand'.value ≡ renamed (expr_view other) y) →
        IfOk r (λ _. expr_tree new line ≡ renamed (expr_tree old line) x)
    cast_new type' operand' made here = if_by r (λ next. cc (cast_tree type' operand' line, (cast_is x old type operand line is).1))

    pub cast_names : (z : Names) → IfOk r (λ _. z ≡ behind (expr_view other) y) → IfOk r (λ _. z ≡ behind (expr_tree old line) x)
    cast_names z = if_by r (λ next. cc ((cast_is x old type operand line is).0))

  module _ (new old : TagKind) (line : ℕ) (y : Names) (sort' sort : RecordSort) (same name : Option (List ℕ)) (v members : Vec Member Global) (list : List Member)
      (is : old ≡ t.RecordBody sort name members) (sorted : sort' ≡ sort) (named : same ≡ name) (all : v ≡ members) (rest : list ≡ v.items)
      (record_there : y ≡ mention_any name (binding_at x) Tagged line x) where
    pub record_new : (news : List Member) → new ≡ t.RecordBody sort' same (with_items v news) → length news ≡ length list →
        IfOk r (λ _. trees member_view news ≡ each_renamed (trees member_view list) y) →
        IfOk r (λ _. tag_tree new line ≡ renamed (tag_tree old line) x)
    record_new news made long =
        if_by r (λ more. cc (record_body_tree sort' same (with_items v news) line, held v list news rest long, (record_is x old sort name members line is).1))

    pub record_names : (z : Names) → IfOk r (λ _. z ≡ in_turn (trees member_view list) y) → IfOk r (λ _. z ≡ behind (tag_tree old line) x)
    record_names z = if_by r (λ more. cc ((record_is x old sort name members line is).0))

  module _ (new old : TagKind) (line : ℕ) (y : Names) (same name : Option (List ℕ)) (v enumerators : Vec Enumerator Global) (trailing' trailing : Bool) (list : List Enumerator)
      (is : old ≡ t.EnumBody name enumerators trailing) (trailed : trailing' ≡ trailing) (named : same ≡ name) (all : v ≡ enumerators) (rest : list ≡ v.items)
      (enum_there : y ≡ mention_any name (binding_at x) Tagged line x) where
    pub enum_new : (news : List Enumerator) → new ≡ t.EnumBody same (with_items v news) trailing' → length news ≡ length list →
        IfOk r (λ _. trees enumerator_tree news ≡ each_renamed (trees enumerator_tree list) y) →
        IfOk r (λ _. tag_tree new line ≡ renamed (tag_tree old line) x)
    enum_new news made long =
        if_by r (λ more. cc (enum_body_tree same (with_items v news) trailing' line, held v list news rest long, (enum_is x old name enumerators trailing line is).1))

    pub enum_names : (z : Names) → IfOk r (λ _. z ≡ in_turn (trees enumerator_tree list) y) → IfOk r (λ _. z ≡ behind (tag_tree old line) x)
    enum_names z = if_by r (λ more. cc ((enum_is x old name enumerators trailing line is).0))

  pub specs_new : (specs : Specs) (list news : List Spec) → list ≡ specs.words.items → length news ≡ length list →
      IfOk r (λ _. trees spec_tree news ≡ each_renamed (trees spec_tree list) x) →
      IfOk r (λ _. Node f.Specs (At specs.line ▹ trees spec_tree (with_items specs.words news).items) ≡ renamed (specs_view specs) x)
  specs_new specs list news rest long = if_by r (λ more. cc (held specs.words list news rest long, specs_made x specs))

  pub member_new : (m : Member) (y : Names) (specs : Specs) (list news : List Declarator) → y ≡ behind (specs_view m.specs) x → specs_view specs ≡ renamed (specs_view m.specs) x →
      list ≡ m.declarators.items → length news ≡ length list → IfOk r (λ _. trees declarator_tree news ≡ each_renamed (trees declarator_tree list) y) →
      IfOk r (λ _. Node f.Member (At m.line ▹ specs_view specs ▹ Node f.MemberNames (trees declarator_tree (with_items m.declarators news).items) ▹ none) ≡ renamed (member_view m) x)
  member_new m y specs list news known made rest long = if_by r (λ more. cc (held m.declarators list news rest long, member_made x m))

  pub pointer_new : (new old : Declarator) (line' line consts' consts : ℕ) (w target target' : Box Declarator Global) (one : Declarator) → old ≡ d.Pointer line consts target → line' ≡ line → consts' ≡ consts → w ≡ target → one ≡ w.value →
      new ≡ d.Pointer line' consts' target' → IfOk r (λ _. declarator_tree target'.value ≡ renamed (declarator_tree one) x) →
      IfOk r (λ _. declarator_tree new ≡ renamed (declarator_tree old) x)
  unfolding declarator_tree
  pointer_new new old line' line consts' consts w target target' one is same_line same_consts same first made =
      if_by r (λ here. cc (pointer_made x old line consts target is))

  module _ (new old : Declarator) (y : Names) (b base : Base) (v suffixes : Vec Suffix Global) (list : List Suffix)
      (is : old ≡ d.Direct base suffixes) (same : b ≡ base) (all : v ≡ suffixes) (rest : list ≡ v.items) (known : y ≡ behind (base_tree b) x) where
    pub direct_new : (base' : Base) (news : List Suffix) → new ≡ d.Direct base' (with_items v news) → length news ≡ length list → base_tree base' ≡ renamed (base_tree b) x →
        IfOk r (λ _. trees suffix_view news ≡ each_renamed (trees suffix_view list) y) → IfOk r (λ _. declarator_tree new ≡ renamed (declarator_tree old) x)
    direct_new base' news made long here =
        if_by r (λ more. cc (direct_tree base' (with_items v news), held v list news rest long, (direct_is x old base suffixes is).1))

    pub direct_names : (z : Names) → IfOk r (λ _. z ≡ in_turn (trees suffix_view list) y) → IfOk r (λ _. z ≡ behind (declarator_tree old) x)
    direct_names z = if_by r (λ more. cc ((direct_is x old base suffixes is).0))

  pub array_new : (new old : SuffixKind) (line : ℕ) (w length length' : Option (Box Expr Global)) → old ≡ s.Array length → w ≡ length → new ≡ s.Array length' →
      ((form : Form) → IfOk r (λ _. maybe form expr_view (option_map (λ b. b.value) length') ≡ renamed_maybe form (option_map (λ b. expr_view b.value) w) x)) →
      IfOk r (λ _. suffix_tree new line ≡ renamed (suffix_tree old line) x)
  array_new new old line w length length' is same made here =
      if_by r (λ one. cc (array_tree length' line, array_made x old length line is)) (here f.MaybeLength)

  module _ (old : Enumerator) (y : Names) (known : y ≡ mention (binding_at x) Defined (out-Enumerator old).name (out-Enumerator old).line x) where
    pub enumerator_new : (new : Enumerator) (value : Option (Box Expr Global)) → new ≡ roll-Enumerator (record (out-Enumerator old) { value = value }) →
        ((form : Form) → maybe form expr_view (option_map (λ b. b.value) value) ≡ renamed_maybe form (option_map (λ b. expr_view b.value) (out-Enumerator old).value) y) →
        IfOk r (λ _. enumerator_tree new ≡ renamed (enumerator_tree old) x)
    enumerator_new new value made here =
        always r (cc (enumerator_value_tree (out-Enumerator old).line (out-Enumerator old).name value, here f.MaybeValue, enumerator_made x old))

    pub enumerator_names : (z d : Names) (b : Binding) (name : List ℕ) → name ≡ (out-Enumerator old).name → z ≡ behind_maybe (option_map (λ b. expr_view b.value) (out-Enumerator old).value) y → b ≡ binding_at z →
        IfOk r (λ _. d ≡ declare (Some name) b z) → IfOk r (λ _. d ≡ behind (enumerator_tree old) x)
    enumerator_names z d b name same value bound = if_by r (λ new. cc (enumerator_known x old))

  pub params_new : (new old : SuffixKind) (line : ℕ) (y : Names) (v params : Vec Param Global) (list news : List Param) → old ≡ s.Params params → v ≡ params → list ≡ v.items →
      y ≡ record x { inside = true } → new ≡ s.Params (with_items v news) → length news ≡ length list →
      trees param_view news ≡ each_renamed (trees param_view list) y → IfOk r (λ _. suffix_tree new line ≡ renamed (suffix_tree old line) x)
  params_new new old line y v params list news is all rest known made long more =
      always r (cc (params_tree (with_items v news) line, held v list news rest long, params_made x old params line is))

  pub params_same : (new old : SuffixKind) (line : ℕ) (v params : Vec Param Global) (list news : List Param) → old ≡ s.Params params → v ≡ params → list ≡ v.items →
      x.suffix ≡ [] → new ≡ s.Params (with_items v news) → length news ≡ length list →
      IfOk r (λ _. trees param_view news ≡ each_renamed (trees param_view list) x) → IfOk r (λ _. suffix_tree new line ≡ suffix_tree old line)
  params_same new old line v params list news is all rest nothing made long =
      if_by r (λ more. cc (params_tree (with_items v news) line, held v list news rest long, each_stays (trees param_view list) x nothing, params_tree params line))

  pub init_list_new : (new old : InitKind) (line : ℕ) (v inits : Vec Init Global) (trailing : Bool) (list news : List Init) → old ≡ i.List inits trailing → v ≡ inits → list ≡ v.items →
      new ≡ i.List (with_items v news) trailing → length news ≡ length list →
      IfOk r (λ _. trees init_view news ≡ each_renamed (trees init_view list) x) → IfOk r (λ _. init_tree new line ≡ renamed (init_tree old line) x)
  init_list_new new old line v inits trailing list news is all rest made long =
      if_by r (λ more. cc (init_list_tree (with_items v news) trailing line, held v list news rest long, init_list_made x old inits trailing line is))

  module _ (new old : StmtKind) (line : ℕ) (v items : Vec Stmt Global) (list news : List Stmt) (all : v ≡ items) (rest : list ≡ v.items) (long : length news ≡ length list) where
    pub block_new : old ≡ k.Block items → new ≡ k.Block (with_items v news) →
        IfOk r (λ _. trees stmt_view news ≡ each_renamed (trees stmt_view list) x) → IfOk r (λ _. stmt_tree new line ≡ renamed (stmt_tree old line) x)
    block_new is made = if_by r (λ more. cc (block_tree (with_items v news) line, held v list news rest long, block_made x old items line is))

    pub delay_new : old ≡ k.Delay items → new ≡ k.Delay (with_items v news) →
        IfOk r (λ _. trees stmt_view news ≡ each_renamed (trees stmt_view list) x) → IfOk r (λ _. stmt_tree new line ≡ renamed (stmt_tree old line) x)
    delay_new is made = if_by r (λ more. cc (delay_tree (with_items v news) line, held v list news rest long, delay_made x old items line is))
