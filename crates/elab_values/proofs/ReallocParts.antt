-- Which trees reallocate, by their parts.
use Rattle.std.proofs.Common.{◌≡◌, ◌<◌, ◌≤◌, ◌+◌, ℕ, zero, suc, Bool, true, false, ◌||◌, List, [], ◌∷◌, Option, Some, None, option_map, Box, Vec, Global, drop, length, get_or, refl, ap, sym, ◌∙◌, arith}
use Rattle.std.proofs.Math.Seq.{drop-cons}
use Rattle.c_tree.specs.declared.tree.ExprKind.{ExprKind}
use Rattle.c_tree.specs.declared.tree.ExprKind.TheVariants as e
use Rattle.c_tree.specs.declared.tree.Expr.{Expr}
use Rattle.c_tree.specs.declared.tree.TypeName.{TypeName}
use Rattle.c_tree.specs.declared.tree.TagKind.{TagKind}
use Rattle.c_tree.specs.declared.tree.TagKind.TheVariants as t
use Rattle.c_tree.specs.declared.tree.Member.{Member}
use Rattle.c_tree.specs.declared.tree.Enumerator.{Enumerator, out-Enumerator, roll-out-Enumerator}
use Rattle.c_tree.specs.declared.tree.Declarator.{Declarator}
use Rattle.c_tree.specs.declared.tree.Declarator.TheVariants as d
use Rattle.c_tree.specs.declared.tree.Base.{Base}
use Rattle.c_tree.specs.declared.tree.Suffix.{Suffix}
use Rattle.c_tree.specs.declared.tree.SuffixKind.{SuffixKind}
use Rattle.c_tree.specs.declared.tree.SuffixKind.TheVariants as s
use Rattle.c_tree.specs.declared.tree.Param.{Param}
use Rattle.c_tree.specs.declared.operator.RecordSort.{RecordSort}
use Rattle.c_tree.specs.Forms as f
use Rattle.c_tree.specs.Tree.{Tree, Trees, Leaf, At, Node, none, ◌▹◌}
use Rattle.c_tree.specs.View.{name_leaf, expr_tree, tag_tree, declarator_tree, base_tree, suffix_tree, literal_leaves, maybe_name}
use Rattle.c_tree.specs.StatementView.{maybe, trees, expr_view, typename_view, member_view, suffix_view, param_view}
use Rattle.c_tree.specs.View.{enumerator_tree}
use Rattle.c_tree.specs.ViewEquations.{enumerator_value_tree, call_tree, sizeof_type_tree, cast_tree, record_body_tree, enum_body_tree, direct_tree, params_tree}
use Rattle.c_decls.specs.ScopeList.{ScopeList}
use Rattle.elaboration.specs.Reallocates.{reallocates, any_reallocates, calls_realloc}

or_false : (b : Bool) → b || false ≡ b
or_false true = refl
or_false false = refl

pub or_left : (a b : Bool) → a ≡ true → a || b ≡ true
or_left true b h = refl
or_left false b h = absurd (let differ : false ≡ true → ⊥ = λ e. cc in differ h)

pub or_right : (a b : Bool) → a ≡ false → a || b ≡ b
or_right true b h = absurd (let differ : true ≡ false → ⊥ = λ e. cc in differ h)
or_right false b h = refl

module _ (scopes : ScopeList) where
  pub str_is : (kind : ExprKind) (parts : List (List ℕ)) (line : ℕ) → kind ≡ e.Str parts → false ≡ reallocates scopes (expr_tree kind line)
  unfolding expr_tree reallocates any_reallocates
  str_is kind parts line h =
      sym (ap (λ (k : ExprKind). reallocates scopes (expr_tree k line)) h)

  pub call_is : (kind : ExprKind) (callee : Box Expr Global) (arguments : Vec Expr Global) (line : ℕ) → kind ≡ e.Call callee arguments →
      reallocates scopes (expr_tree kind line) ≡ calls_realloc scopes (expr_view callee.value) || reallocates scopes (expr_view callee.value) || any_reallocates scopes (trees expr_view arguments.items)
  unfolding reallocates any_reallocates
  call_is kind callee arguments line h =
      let view : Tree = expr_view callee.value in
      ap (λ (k : ExprKind). reallocates scopes (expr_tree k line)) h
      ∙ ap (λ (tree : Tree). reallocates scopes tree) (call_tree callee arguments line)
      ∙ ap (λ (b : Bool). calls_realloc scopes view || reallocates scopes view || b) (or_false (any_reallocates scopes (trees expr_view arguments.items)))

  pub sizeof_is : (kind : ExprKind) (type : Box TypeName Global) (line : ℕ) → kind ≡ e.SizeofType type →
      reallocates scopes (expr_tree kind line) ≡ reallocates scopes (typename_view type.value)
  unfolding reallocates any_reallocates
  sizeof_is kind type line h =
      ap (λ (k : ExprKind). reallocates scopes (expr_tree k line)) h
      ∙ ap (λ (tree : Tree). reallocates scopes tree) (sizeof_type_tree type line)
      ∙ or_false (reallocates scopes (typename_view type.value))

  pub cast_is : (kind : ExprKind) (type : Box TypeName Global) (operand : Box Expr Global) (line : ℕ) → kind ≡ e.Cast type operand →
      reallocates scopes (expr_tree kind line) ≡ reallocates scopes (typename_view type.value) || reallocates scopes (expr_view operand.value)
  unfolding reallocates any_reallocates
  cast_is kind type operand line h =
      ap (λ (k : ExprKind). reallocates scopes (expr_tree k line)) h
      ∙ ap (λ (tree : Tree). reallocates scopes tree) (cast_tree type operand line)
      ∙ ap (λ (b : Bool). reallocates scopes (typename_view type.value) || b) (or_false (reallocates scopes (expr_view operand.value)))

  behind_name : (name : Option (List ℕ)) (tree : Tree) → any_reallocates scopes (maybe_name name ▹ tree ▹ none) ≡ reallocates scopes tree
  unfolding reallocates any_reallocates
  behind_name None tree = or_false (reallocates scopes tree)
  behind_name (Some bytes) tree = or_false (reallocates scopes tree)

  pub record_is : (kind : TagKind) (sort : RecordSort) (name : Option (List ℕ)) (members : Vec Member Global) (line : ℕ) → kind ≡ t.RecordBody sort name members →
      reallocates scopes (tag_tree kind line) ≡ any_reallocates scopes (trees member_view members.items)
  unfolding reallocates any_reallocates
  record_is kind sort name members line h =
      ap (λ (k : TagKind). reallocates scopes (tag_tree k line)) h
      ∙ ap (λ (tree : Tree). reallocates scopes tree) (record_body_tree sort name members line)
      ∙ behind_name name (Node f.Members (trees member_view members.items))

  pub enum_is : (kind : TagKind) (name : Option (List ℕ)) (enumerators : Vec Enumerator Global) (trailing : Bool) (line : ℕ) → kind ≡ t.EnumBody name enumerators trailing →
      reallocates scopes (tag_tree kind line) ≡ any_reallocates scopes (trees enumerator_tree enumerators.items)
  unfolding reallocates any_reallocates
  enum_is kind name enumerators trailing line h =
      ap (λ (k : TagKind). reallocates scopes (tag_tree k line)) h
      ∙ ap (λ (tree : Tree). reallocates scopes tree) (enum_body_tree name enumerators trailing line)
      ∙ behind_name name (Node f.Enumerators (trees enumerator_tree enumerators.items))

  pub direct_is : (declarator : Declarator) (base : Base) (suffixes : Vec Suffix Global) → declarator ≡ d.Direct base suffixes →
      reallocates scopes (declarator_tree declarator) ≡ reallocates scopes (base_tree base) || any_reallocates scopes (trees suffix_view suffixes.items)
  unfolding reallocates any_reallocates
  direct_is declarator base suffixes h =
      ap (λ (k : Declarator). reallocates scopes (declarator_tree k)) h
      ∙ ap (λ (tree : Tree). reallocates scopes tree) (direct_tree base suffixes)
      ∙ ap (λ (b : Bool). reallocates scopes (base_tree base) || b) (or_false (any_reallocates scopes (trees suffix_view suffixes.items)))

  pub params_is : (kind : SuffixKind) (params : Vec Param Global) (line : ℕ) → kind ≡ s.Params params →
      reallocates scopes (suffix_tree kind line) ≡ any_reallocates scopes (trees param_view params.items)
  unfolding reallocates any_reallocates
  params_is kind params line h =
      ap (λ (k : SuffixKind). reallocates scopes (suffix_tree k line)) h
      ∙ ap (λ (tree : Tree). reallocates scopes tree) (params_tree params line)
      ∙ or_false (any_reallocates scopes (trees param_view params.items))

  abbrev value_tree : ℕ → List ℕ → Option (Box Expr Global) → Tree
  value_tree line name value =
      Node f.Enumerator (At line ▹ name_leaf name ▹ maybe f.MaybeValue expr_view (option_map (λ b. b.value) value) ▹ none)

  with_value : (e : Enumerator) (value : Option (Box Expr Global)) → (out-Enumerator e).value ≡ value →
      reallocates scopes (enumerator_tree e) ≡ reallocates scopes (value_tree (out-Enumerator e).line (out-Enumerator e).name value)
  with_value e value h =
      ap (λ (k : Enumerator). reallocates scopes (enumerator_tree k)) (sym (roll-out-Enumerator e))
      ∙ ap (λ (tree : Tree). reallocates scopes tree) (enumerator_value_tree (out-Enumerator e).line (out-Enumerator e).name (out-Enumerator e).value)
      ∙ ap (λ (v : Option (Box Expr Global)). reallocates scopes (value_tree (out-Enumerator e).line (out-Enumerator e).name v)) h

  pub enumerator_none : (e : Enumerator) → (out-Enumerator e).value ≡ None → false ≡ reallocates scopes (enumerator_tree e)
  unfolding reallocates any_reallocates
  enumerator_none e h = sym (with_value e None h)

  pub enumerator_some : (e : Enumerator) (value : Box Expr Global) → (out-Enumerator e).value ≡ Some value →
      reallocates scopes (expr_view value.value) ≡ reallocates scopes (enumerator_tree e)
  unfolding reallocates any_reallocates
  enumerator_some e value h =
      let b : Bool = reallocates scopes (expr_view value.value) in
      sym (with_value e (Some value) h ∙ ap (λ (x : Bool). x || false) (or_false b) ∙ or_false b)

  module _ {A : Type 0} (view : A → Tree) where
    pub list_next : (xs : List A) (i : ℕ) (x : A) → i < length xs → reallocates scopes (view (get_or xs i x)) ≡ false →
        any_reallocates scopes (trees view (drop (i + 1) xs)) ≡ any_reallocates scopes (trees view (drop i xs))
    unfolding any_reallocates
    list_next xs i x h fails =
        let more : drop (i + 1) xs ≡ drop (suc i) xs = ap (λ (n : ℕ). drop n xs) (let next : i + 1 ≡ suc i = omega arith in next) in
        ap (λ (l : List A). any_reallocates scopes (trees view l)) more
        ∙ sym (ap (λ (l : List A). any_reallocates scopes (trees view l)) (drop-cons xs i x h)
        ∙ ap (λ (b : Bool). b || any_reallocates scopes (trees view (drop (suc i) xs))) fails)

    pub list_found : (xs : List A) (i : ℕ) (x : A) → i < length xs → reallocates scopes (view (get_or xs i x)) ≡ true →
        any_reallocates scopes (trees view (drop i xs)) ≡ true
    unfolding any_reallocates
    list_found xs i x h holds =
        ap (λ (l : List A). any_reallocates scopes (trees view l)) (drop-cons xs i x h)
        ∙ ap (λ (b : Bool). b || any_reallocates scopes (trees view (drop (suc i) xs))) holds

    pub list_end : (xs : List A) (i : ℕ) → length xs ≤ i → any_reallocates scopes (trees view (drop i xs)) ≡ false
    unfolding any_reallocates
    list_end [] zero h = refl
    list_end [] (suc i) h = refl
    list_end (first ∷ xs) zero h = absurd (omega (arith, h))
    list_end (first ∷ xs) (suc i) h = list_end xs i (omega (arith, h))

    -- the same of an item in hand
    pub item_next : (xs : List A) (i : ℕ) (x : A) → i < length xs → x ≡ get_or xs i x → reallocates scopes (view x) ≡ false →
        any_reallocates scopes (trees view (drop (i + 1) xs)) ≡ any_reallocates scopes (trees view (drop i xs))
    item_next xs i x h e fails = list_next xs i x h (ap (λ (y : A). reallocates scopes (view y)) (sym e) ∙ fails)

    pub item_found : (xs : List A) (i : ℕ) (x : A) → i < length xs → x ≡ get_or xs i x → reallocates scopes (view x) ≡ true →
        any_reallocates scopes (trees view (drop i xs)) ≡ true
    item_found xs i x h e holds = list_found xs i x h (ap (λ (y : A). reallocates scopes (view y)) (sym e) ∙ holds)
