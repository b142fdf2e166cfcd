-- In a unit as it stands in the program each name is bound to what it is bound to in the unit.
use Rattle.c_units.proofs.Words.Std.{Bool, List, None, Option, Some, [], ap, ap₂, false, if◌then◌else◌, map, option_map, refl, subst, subst₂, sym, true, ℕ, ◌||◌, ◌∙◌, ◌∷◌, ◌≡◌}
use Rattle.c_units.proofs.Words.Trees.{At, Decl, Declarator, Init, Leaf, Node, Place, Tree, Trees, body_view, count, decl_view, declarator_tree, entry_view, first_list, has_typedef, init_view, leads_to_name, name_of, none, params_among, params_of, places, shape, spec_tree, specs_view, suffix_params, trees, unit_view, word_is_typedef, ◌▹◌}
use Rattle.c_units.proofs.Words.Units.{Binding, Declaration, Defined, HasNoDots, HaveNoDots, Held, Inner, IsWithoutDot, Known, Names, Role, Scope, UnitsKeepBindings, Use, after, after_declarator, after_entries, after_external, all_renamed, before_declarator, behind, behind_declarator, behind_entries, behind_external, declared_as, each_said, each_uses, has_dot, hold, made, name_as, name_by, named_as, no_scope, own_names, renamed, renamed_declarator, renamed_entries, renamed_external, role_of, suffix_of, trees_of, unit_names, use_as, with_name}
use Rattle.c_tree.specs.declared.statement.Decl.TheVariants as d
use Rattle.c_tree.specs.Forms as f
use Rattle.c_tree.specs.Places as p
use Rattle.c_units.specs.Names as n
use Rattle.c_units.specs.Externals as merging
use Rattle.c_units.specs.Binding.{inside_params}
use Rattle.c_units.proofs.BoundNames.{binding_as, same_name, Quiet, Agree, scope_opens, scope_ends, keeps_quiet, keeps_all}
use Rattle.c_units.proofs.BoundTrees.{made_node, name_same, name_plain}
use Rattle.c_units.proofs.Walks.{World, no_dots, tree_kept, parts_kept}
use Rattle.c_units.proofs.BoundDeclarators.{Keeps, AreRenamed, named_so, name_so, declarator_kept}

typedef_by : (tree : Tree) (rest : Trees) (form : f.Form) (parts : Trees) → tree ≡ Node form parts → has_typedef (tree ▹ rest) ≡ has_typedef rest
unfolding has_typedef
typedef_by tree rest form parts h = ap (λ (x : Tree). has_typedef (x ▹ rest)) h

-- the words of specs stay such
pub typedef_same : (parts : Trees) (ps : List Place) (x : Names) → has_typedef (all_renamed parts ps x) ≡ has_typedef parts
unfolding has_typedef renamed all_renamed
typedef_same none ps x = refl
typedef_same (Leaf word ▹ rest) [] x = refl
typedef_same (At line ▹ rest) [] x = refl
typedef_same (Node form parts ▹ rest) [] x = refl
typedef_same (Leaf word ▹ rest) (place ∷ ps) x = ap (λ (y : Bool). word_is_typedef word || y) (typedef_same rest ps _)
typedef_same (At line ▹ rest) (place ∷ ps) x = typedef_same rest ps _
typedef_same (Node form parts ▹ rest) (place ∷ ps) x =
    let h = made_node form (all_renamed parts (places (shape form (count parts))) (n.entered form parts x)) x in
    typedef_by (renamed (Node form parts) x) _ form h.0 h.1 ∙ typedef_same rest ps _

-- the names of parameters have no dots
abbrev ArePlainParams : Option Trees → Type 0
ArePlainParams None = Unit {0}
ArePlainParams (Some params) = HaveNoDots params

first_params : (x y : Option Trees) → ArePlainParams x → ArePlainParams y → ArePlainParams (first_list x y)
first_params None y h g = g
first_params (Some params) y h g = h

node_params : (leads : Bool) (params : Option Trees) → ArePlainParams params → ArePlainParams (if leads then params else None)
node_params true params h = h
node_params false params h = tt

suffix_plain : (parts : Trees) → HaveNoDots parts → ArePlainParams (suffix_params parts)
unfolding suffix_params HasNoDots HaveNoDots
suffix_plain (Node f.Suffixes (Node f.FunctionSuffix (line ▹ params ▹ none) ▹ rest) ▹ none) h = (h.0.0.1.0, tt)
suffix_plain (Node f.Suffixes (Node f.VoidSuffix parts ▹ rest) ▹ none) h = tt
suffix_plain parts h = tt

mutual
  unfolding params_of params_among HasNoDots HaveNoDots

  params_plain : (tree : Tree) → HasNoDots tree → ArePlainParams (params_of tree)
  params_plain (Leaf word) h = tt
  params_plain (At line) h = tt
  params_plain (Node form parts) h = node_params (leads_to_name form) (params_among parts) (among_plain parts h)

  among_plain : (parts : Trees) → HaveNoDots parts → ArePlainParams (params_among parts)
  among_plain none h = tt
  among_plain (Leaf word ▹ rest) h = suffix_plain rest h.1
  among_plain (At line ▹ rest) h = among_plain rest h.1
  among_plain (Node form parts ▹ rest) h =
      first_params (params_of (Node form parts)) (params_among rest) (params_plain (Node form parts) h.0) (among_plain rest h.1)

mention_quiet : (own : List (List ℕ)) (suffix : List ℕ) (binding : Binding) (role : Role) (name : List ℕ) (line : ℕ) (x : Names) (s t : Scope) →
    Agree own suffix x s t → Agree own suffix (n.mention binding role name line x) s t
mention_quiet own suffix Inner role name line x s t h = h
mention_quiet own suffix binding role name line x s t h = h

module _ (own : List (List ℕ)) (suffix : List ℕ) (dot : has_dot suffix ≡ true) where
  tree_agree : (tree : Tree) (x : Names) (s t : Scope) → HasNoDots tree → Agree own suffix x s t → Agree own suffix (behind tree x) (after tree s) (after (renamed tree x) t)
  unfolding HaveNoDots
  tree_agree tree x s t d h = tree_kept no_dots (keeps_all own suffix dot) tree none (record { by = x; names = x; scope = s; known = x; held = t }) (d, tt) h

  -- a role is one of a typedef name, or of an object or a function
  abbrev IsRole : Role → Bool → Type 0
  IsRole role typedef = (names : List (List ℕ)) (name : List ℕ) → merging.binding_as role names name ≡ binding_as names suffix (declared_as typedef) name

  role_fits : (typedef : Bool) (inits : Trees) → IsRole (role_of typedef inits) typedef
  role_fits true inits names name = refl
  role_fits false none names name = refl
  role_fits false (tree ▹ rest) names name = refl

  -- a declarator of a name
  named_agree : (declarator : Declarator) (role : Role) (typedef : Bool) (line : ℕ) (name : List ℕ) (x : Names) (s t : Scope) → IsRole role typedef →
      HasNoDots (declarator_tree declarator) → name_of (declarator_tree declarator) ≡ Some name → Agree own suffix x s t →
      let tree = declarator_tree declarator in
      let y = n.mention (merging.binding_as role x.own name) role name line x in
      let new = with_name (name_by (merging.binding_as role x.own name) x.suffix name) (renamed tree y) in
      Agree own suffix (merging.declared_as (Some name) role x.own (behind tree y)) (after_declarator typedef tree s) (after_declarator typedef new t)
  named_agree declarator role typedef line name x s t fits d e h =
      let tree : Tree = declarator_tree declarator in
      let y : Names = n.mention (merging.binding_as role x.own name) role name line x in
      let g : Agree own suffix (behind tree y) (after tree s) (after (renamed tree y) t) =
      tree_agree tree y s t d (mention_quiet own suffix (merging.binding_as role x.own name) role name line x s t h) in
      let new : List ℕ = name_by (merging.binding_as role x.own name) x.suffix name in
      let kind : Declaration = declared_as typedef in
      let is : new ≡ name_as own suffix (Some kind) name =
      ap₂ (λ (names : List (List ℕ)) (end : List ℕ). name_by (merging.binding_as role names name) end name) h.0.0.0 h.0.0.1
      ∙ ap (λ (b : _). name_by b suffix name) (fits own name) ∙ same_name own suffix kind name in
      let called : name_of (with_name new (renamed tree y)) ≡ Some new =
      name_so new (renamed tree y) ∙ ap (named_so new) (name_same tree y ∙ e) in
      let there : after_declarator typedef (with_name new (renamed tree y)) t ≡ hold (Some new) kind (after (renamed tree y) t) =
      ap₂ (λ (o : Option (List ℕ)) (u : Scope). hold o kind u) called ((declarator_kept declarator new y).2 t) in
      let here : after_declarator typedef tree s ≡ hold (Some name) kind (after tree s) =
      ap (λ (o : Option (List ℕ)). hold o kind (after tree s)) e in
      subst₂ (λ (u v : Scope). Agree own suffix (merging.declared_as (Some name) role x.own (behind tree y)) u v) (sym here) (sym there) (
        (
          (
            g.0.0.0,
            g.0.0.1,
            ap₂ (λ (b : _) (l : List Known). record { name = name; binding = b } ∷ l)
                (ap (λ (names : List (List ℕ)). merging.binding_as role names name) h.0.0.0 ∙ fits own name) g.0.0.2,
            g.0.0.3,
          ),
          (ap₂ (λ (z : List ℕ) (l : List Held). record { name = z; declaration = kind } ∷ l) is g.0.1.0, g.0.1.1, g.0.1.2),
          (subst IsWithoutDot e (name_plain tree d), g.0.2),
        ),
        g.1,
      )

  nameless_agree : (tree : Tree) (typedef : Bool) (x : Names) (s t : Scope) →
      HasNoDots tree → name_of tree ≡ None → Agree own suffix x s t → Agree own suffix (behind tree x) (after_declarator typedef tree s) (after_declarator typedef (renamed tree x) t)
  nameless_agree tree typedef x s t d e h =
      let kind : Declaration = declared_as typedef in
      subst₂ (λ (u v : Scope). Agree own suffix (behind tree x) u v)
      (sym (ap (λ (o : Option (List ℕ)). hold o kind (after tree s)) e))
      (sym (ap (λ (o : Option (List ℕ)). hold o kind (after (renamed tree x) t)) (name_same tree x ∙ e)))
      (tree_agree tree x s t d h)

  declarator_by : (found : Option (List ℕ)) (declarator : Declarator) (role : Role) (typedef : Bool) (line : ℕ) (x : Names) (s t : Scope) → IsRole role typedef →
      HasNoDots (declarator_tree declarator) → name_of (declarator_tree declarator) ≡ found → Agree own suffix x s t →
      let tree = declarator_tree declarator in
      let y = before_declarator found role line x in
      let new = named_as found role (renamed tree y) x in
      Agree own suffix (merging.declared_as found role x.own (behind tree y)) (after_declarator typedef tree s) (after_declarator typedef new t)
      × AreRenamed (params_of new) (params_of tree)
  declarator_by None declarator role typedef line x s t fits d e h =
      (nameless_agree (declarator_tree declarator) typedef x s t d e h, (declarator_kept declarator [] x).4)
  declarator_by (Some name) declarator role typedef line x s t fits d e h =
      let y : Names = n.mention (merging.binding_as role x.own name) role name line x in
      let new : List ℕ = name_by (merging.binding_as role x.own name) x.suffix name in
      let kept : Keeps new (renamed (declarator_tree declarator) y) (declarator_tree declarator) = declarator_kept declarator new y in (
        named_agree declarator role typedef line name x s t fits d e h,
        subst (λ (ps : Option Trees). AreRenamed ps (params_of (declarator_tree declarator))) (sym kept.3) kept.4,
      )

  -- a declarator at file scope
  declarator_agree : (declarator : Declarator) (role : Role) (typedef : Bool) (line : ℕ) (x : Names) (s t : Scope) → IsRole role typedef →
      HasNoDots (declarator_tree declarator) → Agree own suffix x s t →
      let tree = declarator_tree declarator in
      Agree own suffix (behind_declarator role line tree x) (after_declarator typedef tree s) (after_declarator typedef (renamed_declarator role line tree x) t)
      × AreRenamed (params_of (renamed_declarator role line tree x)) (params_of tree)
  declarator_agree declarator role typedef line x s t fits d h =
      declarator_by (name_of (declarator_tree declarator)) declarator role typedef line x s t fits d refl h

  -- the names of a declaration at file scope
  entries_agree : (line : ℕ) (typedef : Bool) (list : List (Declarator × Option Init)) (x : Names) (s t : Scope) →
      HaveNoDots (trees entry_view list) → Agree own suffix x s t →
      Agree own suffix (behind_entries line typedef (trees entry_view list) x) (after_entries typedef (trees entry_view list) s)
      (after_entries typedef (renamed_entries line typedef (trees entry_view list) x) t)
  unfolding behind_entries renamed_entries after_entries HasNoDots HaveNoDots renamed made
  entries_agree line typedef [] x s t d h = h
  entries_agree line typedef ((declarator, None) ∷ rest) x s t d h =
      let tree : Tree = declarator_tree declarator in
      let init : Tree = Node f.MaybeInit none in
      let role : Role = role_of typedef none in
      let y : Names = behind_declarator role line tree x in
      let new : Tree = renamed_declarator role line tree x in
      let g = declarator_agree declarator role typedef line x s t (role_fits typedef none) d.0.0.0 h in
      entries_agree line typedef rest (behind init y) (after init (after_declarator typedef tree s))
      (after (renamed init y) (after_declarator typedef new t)) d.1
      (tree_agree init y (after_declarator typedef tree s) (after_declarator typedef new t) d.0.1.0 g.0)
  entries_agree line typedef ((declarator, Some one) ∷ rest) x s t d h =
      let tree : Tree = declarator_tree declarator in
      let init : Tree = Node f.MaybeInit (init_view one ▹ none) in
      let role : Role = role_of typedef (init_view one ▹ none) in
      let y : Names = behind_declarator role line tree x in
      let new : Tree = renamed_declarator role line tree x in
      let g = declarator_agree declarator role typedef line x s t (role_fits typedef (init_view one ▹ none)) d.0.0.0 h in
      entries_agree line typedef rest (behind init y) (after init (after_declarator typedef tree s))
      (after (renamed init y) (after_declarator typedef new t)) d.1
      (tree_agree init y (after_declarator typedef tree s) (after_declarator typedef new t) d.0.1.0 g.0)

  -- the parameters where the body of a function begins
  params_by : (old new : Option Trees) (z x : Names) (s t : Scope) → ArePlainParams old →
      new ≡ option_map (λ ps. all_renamed ps (p.Params ∷ []) z) old → Agree own suffix x s t →
      Agree own suffix (merging.inside_params old x) (inside_params old s) (inside_params new t)
  params_by None new z x s t d e h =
      subst (λ (ps : Option Trees). Agree own suffix (merging.inside_params None x) (inside_params None s) (inside_params ps t)) (sym e)
      (scope_opens own suffix x s t h.0, h.1)
  params_by (Some params) new z x s t d e h =
      let opened : World = record { by = z; names = record x { inside = true; mentions = [] }; scope = record s { inside = true }; known = x; held = record t { inside = true } } in
      subst (λ (ps : Option Trees). Agree own suffix (merging.inside_params (Some params) x) (inside_params (Some params) s) (inside_params ps t)) (sym e)
      (parts_kept no_dots (keeps_quiet own suffix) params (p.Params ∷ []) opened d (scope_opens own suffix x s t h.0), h.1)

  -- an external declaration
  external_agree : (decl : Decl) (x : Names) (s t : Scope) → HasNoDots (decl_view decl) → Agree own suffix x s t →
      Agree own suffix (behind_external (decl_view decl) x) (after_external (decl_view decl) s) (after_external (renamed_external (decl_view decl) x) t)
  unfolding behind_external renamed_external after_external HasNoDots HaveNoDots renamed made
  external_agree (d.Function line specs declarator body end) x s t dots h =
      let words : Tree = specs_view specs in
      let code : Tree = body_view body end in
      let tree : Tree = declarator_tree declarator in
      let x1 : Names = behind words x in
      let s1 : Scope = after words s in
      let t1 : Scope = after (renamed words x) t in
      let new : Tree = renamed_declarator Defined line tree x1 in
      let x2 : Names = behind_declarator Defined line tree x1 in
      let s2 : Scope = after_declarator false tree s1 in
      let t2 : Scope = after_declarator false new t1 in
      let g = declarator_agree declarator Defined false line x1 s1 t1 (λ names name. refl) dots.1.1.0.0 (tree_agree words x s t dots.1.0 h) in
      let x3 : Names = merging.inside_params (params_of tree) x2 in
      let s3 : Scope = inside_params (params_of tree) s2 in
      let t3 : Scope = inside_params (params_of new) t2 in
      let k = params_by (params_of tree) (params_of new) g.1.0 x2 s2 t2 (params_plain tree dots.1.1.0.0) g.1.1 g.0 in
      let all = tree_agree code x3 s3 t3 dots.1.1.1.0 k in
      (scope_ends own suffix x2 (behind code x3) s2 t2 (after code s3) (after (renamed code x3) t3) g.0.0 all.0, all.1)
  external_agree (d.Names line specs names) x s t dots h =
      let words : Trees = At specs.line ▹ trees spec_tree specs.words.items in
      let tree : Tree = Node f.Specs words in
      let list : Trees = trees entry_view names in
      let x1 : Names = behind tree x in
      let s1 : Scope = after tree s in
      let t1 : Scope = after (renamed tree x) t in
      let typedef : Bool = has_typedef words in
      let g = entries_agree line typedef names x1 s1 t1 dots.1.1.0 (tree_agree tree x s t dots.1.0 h) in
      subst (λ (b : Bool). Agree own suffix (behind_entries line typedef list x1) (after_entries typedef list s1)
      (after_entries b (renamed_entries line typedef list x1) t1))
      (sym (typedef_same words (places (shape f.Specs (count words))) (n.entered f.Specs words x))) g

  -- the external declarations of a unit in turn
  units_agree : (decls : List Decl) (x : Names) (s t : Scope) → HaveNoDots (trees decl_view decls) → Quiet own suffix x s t →
      each_uses (trees_of (each_said (trees decl_view decls) x)) t ≡ map (map (use_as own suffix)) (each_uses (trees decl_view decls) s)
  unfolding each_uses each_said HasNoDots HaveNoDots
  units_agree [] x s t d h = refl
  units_agree (decl ∷ rest) x s t d h =
      let x1 : Names = record x { mentions = [] } in
      let s1 : Scope = record s { inner = 0; uses = [] } in
      let t1 : Scope = record t { inner = 0; uses = [] } in
      let g = external_agree decl x1 s1 t1 d.0 ((h.0, (h.1.0, h.1.1, refl), h.2), refl) in
      ap₂ (λ (us : List Use) (more : List (List Use)). us ∷ more) g.1
      (units_agree rest (behind_external (decl_view decl) x1) (after_external (decl_view decl) s1)
      (after_external (renamed_external (decl_view decl) x1) t1) d.1 g.0)

pub units_keep_bindings : UnitsKeepBindings
units_keep_bindings number unit dots =
    units_agree (own_names (unit_view unit) []) (suffix_of number) refl unit.decls (unit_names number (unit_view unit)) no_scope no_scope dots
    ((refl, refl, refl, refl), (refl, refl, refl), tt)
