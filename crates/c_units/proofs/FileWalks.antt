-- One walk over external declarations: what each of its steps keeps, it keeps.
use Rattle.c_units.proofs.Words.Std.{All, All-append, All-cons, All-nil, Bool, List, None, Option, Some, [], ap, append-nil, ap₂, bytes_eq, bytes_eq-Decides, false, false≢true, if◌then◌else◌, inl, inr, list_any-append, or_left, or_right, refl, subst, sym, true, ℕ, ⊤, ◌++◌, ◌∙◌, ◌∷◌, ◌≡◌, ◌⊎◌}
use Rattle.c_units.proofs.Words.Trees.{At, Decl, Declarator, Init, Leaf, Node, Place, Tree, Trees, decl_view, declarator_tree, entry_view, first_name, has_typedef, init_view, leads_to_name, name_among, name_of, none, params_of, spec_tree, specs_view, trees, ◌▹◌}
use Rattle.c_units.proofs.Words.Units.{Binding, Defined, HasNoDots, HaveNoDots, Inner, IsWithoutDot, Names, Own, Role, Scope, after, after_entries, after_external, all_behind, all_renamed, before_declarator, behind, behind_declarator, behind_entries, behind_external, binding_as, binding_at, binding_of, declare, declared_by, entries_declared, has_dot, hold, inside_params, is_among, line_at, mention, name_by, named, named_as, renamed, renamed_declarator, renamed_entries, renamed_external, role_of}
use Rattle.c_units.specs.Externals.{declared_as}
use Rattle.c_units.proofs.Walks.{anything, at_names, IsOfParts, Keeps, tree_kept, parts_kept, mentions, mention_says, Stands, tree_stands, parts_stand}
use Rattle.c_units.proofs.BoundTrees.{name_same, name_plain}
use Rattle.c_units.proofs.BoundDeclarators.{named_so, name_so}
use Rattle.c_tree.specs.Forms as f
use Rattle.c_tree.specs.Places as p
use Rattle.c_units.specs.Binding as s
use Rattle.c_tree.specs.Words as w
use Rattle.c_tree.specs.declared.statement.Decl.TheVariants as d
use Rattle.c_units.specs.declared.names.Binding.TheVariants as b
use Rattle.c_units.specs.Names as n

-- What is known of a unit.

module _ {Q : Names → Type 0} (keeps : Keeps (λ _. ⊤) (λ u. Q u.by)) (opens : (x : Names) → Q x → Q (record x { inside = true }))
    (declares : (role : Role) (name : List ℕ) (before x : Names) → Q before → Q x → Q (declare (Some name) (binding_as role before.own name) x)) where
  behind_kept : (tree : Tree) (x : Names) → Q x → Q (behind tree x)
  behind_kept tree x h = tree_kept anything keeps tree none (at_names x) tt h

  found_kept : (found : Option (List ℕ)) (role : Role) (line : ℕ) (tree : Tree) (x : Names) → Q x →
      Q (declared_as found role x.own (behind tree (before_declarator found role line x)))
  found_kept None role line tree x h = behind_kept tree x h
  found_kept (Some name) role line tree x h =
      declares role name x _ h (behind_kept tree _ (mentions keeps opens x _ (mention_says (binding_as role x.own name) role name line x) h))

  pub declarator_kept : (role : Role) (line : ℕ) (tree : Tree) (x : Names) → Q x → Q (behind_declarator role line tree x)
  declarator_kept role line tree x h = found_kept (name_of tree) role line tree x h

  entries_kept : (line : ℕ) (typedef : Bool) (names : Trees) (x : Names) → Q x → Q (behind_entries line typedef names x)
  unfolding behind_entries
  entries_kept line typedef (Node f.Entry (Node f.Declared (declarator ▹ none) ▹ Node f.MaybeInit inits ▹ none) ▹ rest) x h =
      entries_kept line typedef rest _ (behind_kept (Node f.MaybeInit inits) _ (declarator_kept (role_of typedef inits) line declarator x h))
  entries_kept line typedef names x h = h

  pub params_kept : (params : Option Trees) (x : Names) → Q x → Q (inside_params params x)
  params_kept None x h = opens x h
  params_kept (Some params) x h =
      mentions keeps opens _ _ (x.mentions, refl)
      (parts_kept anything keeps params (p.Params ∷ []) (at_names (record x { inside = true; mentions = [] })) tt (mentions keeps opens _ _ ([], refl) (opens x h)))

  pub external_kept : (tree : Tree) (x : Names) → Q x → Q (behind_external tree x)
  unfolding behind_external
  external_kept (Node f.Function (line ▹ words ▹ Node f.Declared (declarator ▹ none) ▹ body ▹ none)) x h =
      let name = behind_declarator Defined (line_at line) declarator (behind words x) in
      let g : Q name = declarator_kept Defined (line_at line) declarator (behind words x) (behind_kept words x h) in
      let inner = inside_params (params_of declarator) name in
      keeps.ends (at_names name) (at_names (behind body inner)) g (λ _. behind_kept body inner (params_kept (params_of declarator) name g))
  external_kept (Node f.Declaration (line ▹ Node f.Specs words ▹ Node f.Names names ▹ none)) x h =
      entries_kept (line_at line) (has_typedef words) names _ (behind_kept (Node f.Specs words) x h)
  external_kept tree x h = h

-- What holds in a unit.

module _ (N : List ℕ → Type 0) where
  -- each of these names has the property
  abbrev pub Have : List (List ℕ) → Type 0
  Have names = (name : List ℕ) → is_among names name ≡ true → N name

  abbrev pub NameHas : Option (List ℕ) → Type 0
  NameHas None = ⊤
  NameHas (Some name) = N name

  have_left : (xs ys : List (List ℕ)) → Have (xs ++ ys) → Have xs
  have_left xs ys h name e = h name (list_any-append (bytes_eq name) xs ys ∙ or_left (is_among xs name) (is_among ys name) e)

  have_right : (xs ys : List (List ℕ)) → Have (xs ++ ys) → Have ys
  have_right xs ys h name e = h name (list_any-append (bytes_eq name) xs ys ∙ or_right (is_among xs name) (is_among ys name) e)

  named_has : (o : Option (List ℕ)) → Have (named (first_name o None)) → NameHas o
  named_has None h = tt
  named_has (Some name) h = h name (or_left (bytes_eq name name) false ((bytes_eq-Decides name name).1 refl))

  name_has : (tree : Tree) → Have (named (name_of (Node f.Declared (tree ▹ none)))) → NameHas (name_of tree)
  unfolding name_of name_among leads_to_name
  name_has tree h = named_has (name_of tree) h

  if_false : (typedef : Bool) (names : List (List ℕ)) → Have (if typedef then [] else names) → typedef ≡ false → Have names
  if_false true names h e = absurd (false≢true (sym e))
  if_false false names h e = h

-- R is said of what holds at two places, and stays so behind the trees of which D is said; the objects and functions that they
-- declare have N
pub record KeepsFile (D : Trees → Type 0) (N : List ℕ → Type 0) (R : Scope → Scope → Type 0) : Type 0 where
  pub tree : (tree : Tree) (rest : Trees) (x y : Scope) → D (tree ▹ rest) → R x y → R (after tree x) (after tree y)
  pub name : (typedef : Bool) (name : Option (List ℕ)) (x y : Scope) → (typedef ≡ false → NameHas N name) → R x y →
      R (hold name (s.declared_as typedef) x) (hold name (s.declared_as typedef) y)
  pub body : (params : Option Trees) (tree : Tree) (rest : Trees) (x y : Scope) → D (tree ▹ rest) → R x y →
      R (s.left_scope x (after tree (s.inside_params params x))) (s.left_scope y (after tree (s.inside_params params y)))

module _ {D : Trees → Type 0} {N : List ℕ → Type 0} {R : Scope → Scope → Type 0} (of_parts : IsOfParts D) (keeps : KeepsFile D N R) where
  names_held : (typedef : Bool) (names : Trees) (x y : Scope) → D names → (typedef ≡ false → Have N (entries_declared names)) → R x y →
      R (after_entries typedef names x) (after_entries typedef names y)
  unfolding after_entries entries_declared
  names_held typedef (Node f.Entry (Node f.Declared (declarator ▹ none) ▹ init ▹ none) ▹ rest) x y d has h =
      let parts = of_parts.inner f.Entry _ rest d in
      let first = named (name_of (Node f.Declared (declarator ▹ none))) in
      names_held typedef rest _ _ (of_parts.next _ rest d) (λ e. have_right N first (entries_declared rest) (has e))
      (keeps.tree init none _ _ (of_parts.next _ _ parts)
      (keeps.name typedef (name_of declarator) _ _ (λ e. name_has N declarator (have_left N first (entries_declared rest) (has e)))
      (keeps.tree declarator none x y (of_parts.inner f.Declared _ _ parts) h)))
  names_held typedef names x y d has h = h

  -- behind an external declaration
  pub external_held : (tree : Tree) (rest : Trees) (x y : Scope) → D (tree ▹ rest) → Have N (declared_by tree) → R x y → R (after_external tree x) (after_external tree y)
  unfolding after_external declared_by
  external_held (Node f.Function (line ▹ words ▹ Node f.Declared (declarator ▹ none) ▹ body ▹ none)) rest x y d has h =
      let parts = of_parts.next line _ (of_parts.inner f.Function _ rest d) in
      let more = of_parts.next words _ parts in
      keeps.body (params_of declarator) body none _ _ (of_parts.next _ _ more)
      (keeps.name false (name_of declarator) _ _ (λ e. name_has N declarator has)
      (keeps.tree declarator none _ _ (of_parts.inner f.Declared _ _ more) (keeps.tree words _ x y parts h)))
  external_held (Node f.Declaration (line ▹ Node f.Specs words ▹ Node f.Names names ▹ none)) rest x y d has h =
      let parts = of_parts.next line _ (of_parts.inner f.Declaration _ rest d) in
      names_held (has_typedef words) names _ _ (of_parts.inner f.Names names none (of_parts.next _ _ parts)) (if_false N (has_typedef words) (entries_declared names) has)
      (keeps.tree (Node f.Specs words) _ x y parts h)
  external_held tree rest x y d has h = h

-- What is known behind a tree has the suffix that is known before it, and a tree stands in the program as it is where there is none.

pub mention_suffix : (b : Binding) (role : Role) (name : List ℕ) (line : ℕ) (s : Names) → (mention b role name line s).suffix ≡ s.suffix
mention_suffix Inner role name line s = refl
mention_suffix b role name line s = refl

pub declare_suffix : (name : Option (List ℕ)) (b : Binding) (s : Names) → (declare name b s).suffix ≡ s.suffix
declare_suffix None b s = refl
declare_suffix (Some name) b s = refl

pub keeps_suffix : (suffix : List ℕ) → Keeps (λ _. ⊤) (λ u. u.by.suffix ≡ suffix)
keeps_suffix suffix = record {
  ends = λ u inner h g. g h;
  declares = λ parts u d h. declare_suffix (name_among parts) (binding_at u.by) u.by ∙ h;
  uses = λ line name u d h. h;
  says = λ first second third u h. h;
}

pub behind_suffix : (tree : Tree) (s : Names) → (behind tree s).suffix ≡ s.suffix
behind_suffix tree s = tree_kept anything (keeps_suffix s.suffix) tree none (at_names s) tt refl

pub parts_suffix : (parts : Trees) (ps : List Place) (s : Names) → (all_behind parts ps s).suffix ≡ s.suffix
parts_suffix parts ps s = parts_kept anything (keeps_suffix s.suffix) parts ps (at_names s) tt refl

-- R and Rs are said of trees as they stand in the program, whatever is known but for the suffix, of which Q is said
pub suffix_stands : (suffix : List ℕ) (R : Tree → Tree → Type 0) (Rs : Trees → Trees → Type 0) → Stands (λ x. x.suffix ≡ suffix) R Rs →
    (tree : Tree) (x : Names) → x.suffix ≡ suffix → R tree (renamed tree x)
suffix_stands suffix R Rs stands tree x e = tree_stands (keeps_suffix suffix) (λ x e. e) stands tree x e

-- without a suffix names stay as they are
pub name_stays : (b : Binding) (name : List ℕ) → name_by b [] name ≡ name
name_stays Own name = append-nil name
name_stays b name = refl

stays : Stands (λ x. x.suffix ≡ []) (λ tree new. new ≡ tree) (λ parts news. news ≡ parts)
stays = record {
  same = λ parts. refl;
  more = λ tree new rest news h g. ap₂ (λ (t : Tree) (l : Trees). t ▹ l) h g;
  word = λ word. refl;
  line = λ line. refl;
  node = λ form parts news e h. ap (λ (l : Trees). Node form l) h;
  name = λ line name x e.
      ap (λ (new : List ℕ). Node f.Name (At line ▹ Leaf (w.Name new) ▹ none))
      (ap (λ (suffix : List ℕ). name_by (binding_of x.known name) suffix name) e ∙ name_stays (binding_of x.known name) name);
}

pub tree_stays : (tree : Tree) (s : Names) → s.suffix ≡ [] → renamed tree s ≡ tree
tree_stays tree s e = tree_stands (keeps_suffix []) (λ x e. e) stays tree s e

pub parts_stay : (parts : Trees) (ps : List Place) (s : Names) → s.suffix ≡ [] → all_renamed parts ps s ≡ parts
parts_stay parts ps s e = parts_stand (keeps_suffix []) (λ x e. e) stays parts ps s e

-- The names that an external declaration declares and uses, as they stand in the program: names of the text, some with the suffix.

-- What is known of the suffix stays.

pub declarator_suffix : (role : Role) (line : ℕ) (tree : Tree) (x : Names) → (behind_declarator role line tree x).suffix ≡ x.suffix
declarator_suffix role line tree x = declarator_kept (keeps_suffix x.suffix) (λ x e. e) (λ role name before x g e. e) role line tree x refl

-- behind an external declaration
pub external_suffix : (tree : Tree) (x : Names) → (behind_external tree x).suffix ≡ x.suffix
external_suffix tree x = external_kept (keeps_suffix x.suffix) (λ x e. e) (λ role name before x g e. e) tree x refl

-- The names that are declared.

-- a name of a text that may have the suffix
abbrev pub IsSuffixed : List ℕ → List ℕ → Type 0
IsSuffixed suffix new = (name : List ℕ) × (has_dot name ≡ false) × ((new ≡ name) ⊎ (new ≡ name ++ suffix))

abbrev MayBeSuffixed : List ℕ → Option (List ℕ) → Type 0
MayBeSuffixed suffix None = ⊤
MayBeSuffixed suffix (Some new) = IsSuffixed suffix new

by_suffixed : (binding : Binding) (suffix name : List ℕ) → has_dot name ≡ false → IsSuffixed suffix (name_by binding suffix name)
by_suffixed b.Own suffix name h = (name, h, inr refl)
by_suffixed b.Inner suffix name h = (name, h, inl refl)
by_suffixed b.Shared suffix name h = (name, h, inl refl)

declarator_by : (found : Option (List ℕ)) (role : Role) (line : ℕ) (tree : Tree) (x : Names) → name_of tree ≡ found → IsWithoutDot found →
    MayBeSuffixed x.suffix (name_of (named_as found role (renamed tree (before_declarator found role line x)) x))
declarator_by None role line tree x e h =
    subst (λ (o : Option (List ℕ)). MayBeSuffixed x.suffix o) (sym (name_same tree x ∙ e)) tt
declarator_by (Some name) role line tree x e h =
    let y = n.mention (binding_as role x.own name) role name line x in
    let new = name_by (binding_as role x.own name) x.suffix name in
    subst (λ (o : Option (List ℕ)). MayBeSuffixed x.suffix o) (sym (name_so new (renamed tree y) ∙ ap (named_so new) (name_same tree y ∙ e)))
    (by_suffixed (binding_as role x.own name) x.suffix name h)

declarator_suffixed : (role : Role) (line : ℕ) (tree : Tree) (x : Names) → HasNoDots tree → MayBeSuffixed x.suffix (name_of (renamed_declarator role line tree x))
declarator_suffixed role line tree x h = declarator_by (name_of tree) role line tree x refl (name_plain tree h)

named_by : (suffix : List ℕ) (found : Option (List ℕ)) → MayBeSuffixed suffix found → All (IsSuffixed suffix) (named (first_name found None))
named_by suffix None h = All-nil (IsSuffixed suffix)
named_by suffix (Some name) h = All-cons (IsSuffixed suffix) name [] h (All-nil (IsSuffixed suffix))

named_suffixed : (suffix : List ℕ) (tree : Tree) → MayBeSuffixed suffix (name_of tree) → All (IsSuffixed suffix) (named (name_of (Node f.Declared (tree ▹ none))))
unfolding name_of name_among leads_to_name
named_suffixed suffix tree h = named_by suffix (name_of tree) h

entries_suffixed : (suffix : List ℕ) (line : ℕ) (typedef : Bool) (list : List (Declarator × Option Init)) (x : Names) → x.suffix ≡ suffix → HaveNoDots (trees entry_view list) →
    All (IsSuffixed suffix) (entries_declared (renamed_entries line typedef (trees entry_view list) x))
unfolding behind_entries renamed_entries entries_declared HasNoDots HaveNoDots
entries_suffixed suffix line typedef [] x e h = All-nil (IsSuffixed suffix)
entries_suffixed suffix line typedef ((declarator, None) ∷ rest) x e h =
    let tree = declarator_tree declarator in
    let role = role_of typedef none in
    let y = behind_declarator role line tree x in
    All-append (IsSuffixed suffix) (named (name_of (Node f.Declared (renamed_declarator role line tree x ▹ none)))) _
    (named_suffixed suffix (renamed_declarator role line tree x)
    (subst (λ (s : List ℕ). MayBeSuffixed s (name_of (renamed_declarator role line tree x))) e (declarator_suffixed role line tree x h.0.0.0)))
    (entries_suffixed suffix line typedef rest (behind (Node f.MaybeInit none) y)
    (behind_suffix (Node f.MaybeInit none) y ∙ declarator_suffix role line tree x ∙ e) h.1)
entries_suffixed suffix line typedef ((declarator, Some one) ∷ rest) x e h =
    let tree = declarator_tree declarator in
    let inits = init_view one ▹ none in
    let role = role_of typedef inits in
    let y = behind_declarator role line tree x in
    All-append (IsSuffixed suffix) (named (name_of (Node f.Declared (renamed_declarator role line tree x ▹ none)))) _
    (named_suffixed suffix (renamed_declarator role line tree x)
    (subst (λ (s : List ℕ). MayBeSuffixed s (name_of (renamed_declarator role line tree x))) e (declarator_suffixed role line tree x h.0.0.0)))
    (entries_suffixed suffix line typedef rest (behind (Node f.MaybeInit inits) y)
    (behind_suffix (Node f.MaybeInit inits) y ∙ declarator_suffix role line tree x ∙ e) h.1)

all_or_none : (P : List ℕ → Type 0) (typedef : Bool) (names : List (List ℕ)) → All P names → All P (if typedef then [] else names)
all_or_none P true names h = All-nil P
all_or_none P false names h = h

-- those of an external declaration
pub external_suffixed : (suffix : List ℕ) (decl : Decl) (x : Names) → x.suffix ≡ suffix → HasNoDots (decl_view decl) →
    All (IsSuffixed suffix) (declared_by (renamed_external (decl_view decl) x))
unfolding renamed_external declared_by renamed n.made n.entered HasNoDots HaveNoDots
external_suffixed suffix (d.Function line specs declarator body end) x e h =
    let tree = declarator_tree declarator in
    let y = behind (specs_view specs) x in
    named_suffixed suffix (renamed_declarator Defined line tree y)
    (subst (λ (s : List ℕ). MayBeSuffixed s (name_of (renamed_declarator Defined line tree y))) (behind_suffix (specs_view specs) x ∙ e)
    (declarator_suffixed Defined line tree y h.1.1.0.0))
external_suffixed suffix (d.Names line specs names) x e h =
    let words = At specs.line ▹ trees spec_tree specs.words.items in
    let y = behind (Node f.Specs words) x in
    all_or_none (IsSuffixed suffix) _ (entries_declared (renamed_entries line (has_typedef words) (trees entry_view names) y))
    (entries_suffixed suffix line (has_typedef words) names y (behind_suffix (Node f.Specs words) x ∙ e) h.1.1.0)
