-- A unit as it stands in the program differs from the unit in names alone, some of which have the suffix there.
use Rattle.c_units.proofs.Words.Std.{Bool, Err, IfOk, List, None, Ok, Option, Result, Some, [], append-nil, arith, bytes_eq, bytes_eq-Decides, codes, false, false_from_ne_true, false≢true, if◌then◌else◌, inl, inr, length, length-decimal-le, list_any-append, map, not, or_from, or_parts, refl, subst, sym, true, ℕ, ⊤, ◌++◌, ◌+◌, ◌∙◌, ◌∷◌, ◌≡◌, ◌≤◌}
use Rattle.c_units.proofs.Words.Trees.{At, Base, Decl, Declarator, Init, IsDotted, IsRenamed, IsSuffixed, Leaf, Node, Renames, RenamesAll, RenamesSome, Tree, Trees, Word, base_tree, body_view, decl_view, declarator_tree, entry_view, first_name, has_static, has_typedef, init_view, is_scope, leads_to_name, name_among, name_of, none, params_of, shape, spec_tree, specs_view, suffix_trees, trees, unit_view, ◌▹◌}
use Rattle.c_units.proofs.Words.Units.{Binding, Defined, Inner, MergeError, Merges, MergesRename, Names, Own, Role, Said, Shared, Typedef, all_noted, all_renamed, all_with_name, before_declarator, behind, behind_declarator, behind_entries, behind_external, binding_as, binding_at, binding_of, but_main, declare, each_said, entered, entry_names, inside_params, is_again, is_among, joined, joined_all, kept, left_scope, made, mention, name_by, named_as, no_program, noted, own_names, renamed, renamed_declarator, renamed_entries, renamed_external, role_of, static_names, suffix_of, trees_of, unit_names, with_name, with_units}
use Rattle.c_units.proofs.Walks.{anything, at_names, Keeps, tree_kept, Stands, tree_stands}
use Rattle.c_units.proofs.FileWalks.{declarator_kept, params_kept, external_kept}
use Rattle.c_tree.specs.declared.statement.Unit.{Unit as Code}
use Rattle.c_units.proofs.ItemTurns.{joined_none}
use Rattle.c_units.proofs.BoundDeclarators.{pointer_renamed}
use Rattle.c_units.proofs.FileBindings.{all_left, merge_is, same_answer}
use Rattle.c_tree.specs.declared.statement.Decl.TheVariants as e
use Rattle.c_tree.specs.Forms as f
use Rattle.c_tree.specs.declared.tree.Declarator.TheVariants as d
use Rattle.c_tree.specs.declared.tree.Base.TheVariants as b
use Rattle.c_tree.specs.Words as w

-- What is known at a place of a unit: its suffix is short and begins with a dot, and `main` gets none.

abbrev pub main : List ℕ
main = codes "main"

abbrev pub IsShared : Binding → Type 0
IsShared Own = ⊥
IsShared Inner = ⊤
IsShared Shared = ⊤

-- the suffix is one that a name may get, and `main` is not bound to what the unit has for itself
abbrev pub Holds : Names → Type 0
Holds s = (length s.suffix ≤ 3) × IsDotted s.suffix × (is_among s.own main ≡ false) × IsShared (binding_of s.known main)

pub mention_holds : (b : Binding) (role : Role) (name : List ℕ) (line : ℕ) (s : Names) → Holds s → Holds (mention b role name line s)
mention_holds Inner role name line s h = h
mention_holds b role name line s h = h

chosen : (test : Bool) (b c : Binding) → (test ≡ true → IsShared b) → IsShared c → IsShared (if test then b else c)
chosen true b c h g = h refl
chosen false b c h g = g

declare_holds : (name : List ℕ) (b : Binding) (s : Names) → (name ≡ main → IsShared b) → Holds s → Holds (declare (Some name) b s)
declare_holds name b s g h =
    (h.0, h.1, h.2, chosen (bytes_eq name main) b (binding_of s.known main) (λ e. g ((bytes_eq-Decides name main).0 e)) h.3)

here_shared : (inside : Bool) → IsShared (if inside then Inner else Shared)
here_shared true = tt
here_shared false = tt

here_holds : (name : Option (List ℕ)) (s : Names) → Holds s → Holds (declare name (binding_at s) s)
here_holds None s h = h
here_holds (Some name) s h = declare_holds name (binding_at s) s (λ _. here_shared s.inside) h

scope_holds : (before inner : Names) → Holds before → Holds inner → Holds (left_scope before inner)
scope_holds before inner h g = (g.0, g.1, g.2, h.3)

pub keeps_holds : Keeps (λ _. ⊤) (λ u. Holds u.by)
keeps_holds = record {
  ends = λ u inner h g. scope_holds u.by inner.by h (g h);
  declares = λ parts u d h. here_holds (name_among parts) u.by h;
  uses = λ line name u d h. h;
  says = λ first second third u h. h;
}

pub behind_holds : (tree : Tree) (s : Names) → Holds s → Holds (behind tree s)
behind_holds tree s h = tree_kept anything keeps_holds tree none (at_names s) tt h

-- what file scope declares

own_by : (among : Bool) → among ≡ false → IsShared (if among then Own else Shared)
own_by true h = absurd (false≢true (sym h))
own_by false h = tt

own_main : (own : List (List ℕ)) (name : List ℕ) → is_among own main ≡ false → name ≡ main → IsShared (if is_among own name then Own else Shared)
own_main own name h e = subst (λ (n : List ℕ). IsShared (if is_among own n then Own else Shared)) (sym e) (own_by (is_among own main) h)

pub as_shared : (role : Role) (own : List (List ℕ)) (name : List ℕ) → is_among own main ≡ false → name ≡ main → IsShared (binding_as role own name)
as_shared Typedef own name h e = tt
as_shared role own name h e = own_main own name h e

declares_holds : (role : Role) (name : List ℕ) (before x : Names) → Holds before → Holds x → Holds (declare (Some name) (binding_as role before.own name) x)
declares_holds role name before x g h = declare_holds name (binding_as role before.own name) x (λ e. as_shared role before.own name g.2 e) h

pub declarator_holds : (role : Role) (line : ℕ) (tree : Tree) (x : Names) → Holds x → Holds (behind_declarator role line tree x)
declarator_holds role line tree x h = declarator_kept keeps_holds (λ x h. h) declares_holds role line tree x h

-- behind a name of a declaration and its initializer
pub entry_holds : (role : Role) (line : ℕ) (tree init : Tree) (x : Names) → Holds x → Holds (behind init (behind_declarator role line tree x))
entry_holds role line tree init x h = behind_holds init (behind_declarator role line tree x) (declarator_holds role line tree x h)

pub params_hold : (params : Option Trees) (x : Names) → Holds x → Holds (inside_params params x)
params_hold params x h = params_kept keeps_holds (λ x h. h) declares_holds params x h

pub external_holds : (tree : Tree) (x : Names) → Holds x → Holds (behind_external tree x)
external_holds tree x h = external_kept keeps_holds (λ x h. h) declares_holds tree x h

-- a unit has no `main` for itself

append_none : (xs ys : List (List ℕ)) → is_among xs main ≡ false → is_among ys main ≡ false → is_among (xs ++ ys) main ≡ false
append_none xs ys h g = list_any-append (bytes_eq main) xs ys ∙ or_from (is_among xs main) (is_among ys main) h g

noted_by : (among : Bool) (names : List (List ℕ)) (name : List ℕ) → is_among names main ≡ false → is_among (name ∷ []) main ≡ false →
    is_among (if among then names else names ++ name ∷ []) main ≡ false
noted_by true names name h g = h
noted_by false names name h g = append_none names (name ∷ []) h g

all_none : (names more : List (List ℕ)) → is_among names main ≡ false → is_among more main ≡ false → is_among (all_noted names more) main ≡ false
all_none names [] h g = h
all_none names (name ∷ rest) h g =
    let both = or_parts (bytes_eq main name) (is_among rest main) g in
    all_none (noted names name) rest (noted_by (is_among names name) names name h (or_from (bytes_eq main name) false both.0 refl)) both.1

but_main_by : (is : Bool) (name : List ℕ) → bytes_eq name main ≡ is → is_among (if is then [] else name ∷ []) main ≡ false
but_main_by true name e = refl
but_main_by false name e =
    let other = λ (h : bytes_eq main name ≡ true). false≢true (sym e ∙ (bytes_eq-Decides name main).1 (sym ((bytes_eq-Decides main name).0 h))) in
    or_from (bytes_eq main name) false (false_from_ne_true (bytes_eq main name) other) refl

found_none : (found : Option (List ℕ)) → is_among (but_main found) main ≡ false
found_none None = refl
found_none (Some name) = but_main_by (bytes_eq name main) name refl

entries_none : (names : Trees) → is_among (entry_names names) main ≡ false
unfolding entry_names
entries_none (Node f.Entry (declared ▹ rest) ▹ more) = append_none (but_main (name_of declared)) (entry_names more) (found_none (name_of declared)) (entries_none more)
entries_none names = refl

static_by : (is : Bool) (names : List (List ℕ)) → is_among names main ≡ false → is_among (if is then names else []) main ≡ false
static_by true names h = h
static_by false names h = refl

static_none : (tree : Tree) → is_among (static_names tree) main ≡ false
unfolding static_names
static_none (Node f.Function (line ▹ Node f.Specs words ▹ declared ▹ rest)) = static_by (has_static words) _ (found_none (name_of declared))
static_none (Node f.Declaration (line ▹ Node f.Specs words ▹ Node f.Names entries ▹ none)) = static_by (has_static words) _ (entries_none entries)
static_none tree = refl

own_none : (unit : Trees) (names : List (List ℕ)) → is_among names main ≡ false → is_among (own_names unit names) main ≡ false
own_none none names h = h
own_none (tree ▹ rest) names h = own_none rest (all_noted names (static_names tree)) (all_none names (static_names tree) h (static_none tree))

-- the suffix of the unit of a number of at most two digits
suffix_short : (number : ℕ) → number ≤ 64 → length (suffix_of number) ≤ 3
suffix_short number h =
    let digits = length-decimal-le 2 number (omega arith) (omega (arith, h)) (omega (arith, h)) in
    omega (arith, digits)

-- before the first external declaration of a unit
pub unit_holds : (number : ℕ) (decls : List Decl) → number ≤ 64 → Holds (unit_names number (trees decl_view decls))
unit_holds number decls h = (suffix_short number h, refl, own_none (trees decl_view decls) [] refl, tt)

-- A unit as it stands in the program differs from the unit in names alone, some of which have the suffix there.

same_name : (name : List ℕ) → IsSuffixed name name
same_name name = record { suffix = []; is = sym (append-nil name); dotted = tt; short = omega arith; main = λ _. refl }

same_word : (word : Word) → IsRenamed word word
same_word (w.Name name) = (name, refl, same_name name)
same_word word = refl

mutual
  unfolding Renames RenamesAll

  -- a tree is itself with no suffixes
  same_tree : (tree : Tree) → Renames tree tree
  same_tree (Leaf word) = same_word word
  same_tree (At line) = refl
  same_tree (Node form parts) = (refl, same_trees parts)

  same_trees : (parts : Trees) → RenamesAll parts parts
  same_trees none = tt
  same_trees (tree ▹ rest) = (same_tree tree, same_trees rest)

-- a name that is bound so
by_binding : (b : Binding) (s : Names) (name : List ℕ) → Holds s → (name ≡ main → IsShared b) → IsSuffixed name (name_by b s.suffix name)
by_binding Own s name h g = record { suffix = s.suffix; is = refl; dotted = h.1; short = h.0; main = λ e. absurd (g e) }
by_binding Inner s name h g = same_name name
by_binding Shared s name h g = same_name name

by_known : (s : Names) (name : List ℕ) → Holds s → IsSuffixed name (name_by (binding_of s.known name) s.suffix name)
by_known s name h =
    by_binding (binding_of s.known name) s name h (λ e. subst (λ (n : List ℕ). IsShared (binding_of s.known n)) (sym e) h.3)

renames_stand : Stands Holds Renames RenamesAll
unfolding Renames RenamesAll
renames_stand = record {
  same = same_trees;
  more = λ tree new rest news h g. (h, g);
  word = same_word;
  line = λ line. refl;
  node = λ form parts news e h. (refl, h);
  name = λ line name x holds. (refl, (refl, ((_, refl, by_known x name holds), tt)));
}

-- a tree as it stands in the program
tree_renames : (tree : Tree) (s : Names) → Holds s → Renames tree (renamed tree s)
tree_renames tree s holds = tree_stands keeps_holds (λ x h. h) renames_stand tree s holds

-- a name that may have a suffix, for a declarator that has a name
abbrev Fits : List ℕ → Option (List ℕ) → Type 0
Fits new None = ⊤
Fits new (Some name) = IsSuffixed name new

first_fits : (new : List ℕ) (x : Option (List ℕ)) → Fits new (first_name x None) → Fits new x
first_fits new None h = h
first_fits new (Some name) h = h

second_fits : (new : List ℕ) (x : Option (List ℕ)) → Fits new (first_name None (first_name x None)) → Fits new x
second_fits new None h = h
second_fits new (Some name) h = h

mutual
  unfolding declarator_tree base_tree behind renamed all_renamed made entered shape is_scope with_name all_with_name leads_to_name name_of name_among Renames RenamesAll

  -- a declarator of the code with another name
  declarator_as : (declarator : Declarator) (new : List ℕ) (s : Names) → Holds s → Fits new (name_of (declarator_tree declarator)) →
      Renames (declarator_tree declarator) (with_name new (renamed (declarator_tree declarator) s))
  declarator_as (d.Pointer' line consts p target) new s holds fits =
      subst (λ (t : Tree). Renames (Node (f.Pointer consts) (At line ▹ declarator_tree target ▹ none)) (with_name new t))
      (sym (pointer_renamed consts line (declarator_tree target) s))
      (refl, (refl, (declarator_as target new s holds (first_fits new (name_of (declarator_tree target)) fits), tt)))
  declarator_as (d.Direct' base m suffixes) new s holds fits =
      let next = behind (base_tree base) s in
      let first = base_as base new s holds (first_fits new (name_of (base_tree base)) fits) in
      (refl, (first, (tree_renames (Node f.Suffixes (suffix_trees suffixes)) next (behind_holds (base_tree base) s holds), tt)))

  base_as : (base : Base) (new : List ℕ) (s : Names) → Holds s → Fits new (name_of (base_tree base)) →
      Renames (base_tree base) (with_name new (renamed (base_tree base) s))
  base_as b.Nothing new s holds fits = (refl, tt)
  base_as (b.Name old) new s holds fits = (new, refl, fits)
  base_as (b.Parens' line p target) new s holds fits =
      (refl, (refl, (declarator_as target new s holds (first_fits new (name_of (declarator_tree target)) fits), tt)))

declarator_by : (found : Option (List ℕ)) (declarator : Declarator) (role : Role) (line : ℕ) (x : Names) → Holds x →
    name_of (declarator_tree declarator) ≡ found →
    Renames (declarator_tree declarator) (named_as found role (renamed (declarator_tree declarator) (before_declarator found role line x)) x)
declarator_by None declarator role line x holds e = tree_renames (declarator_tree declarator) x holds
declarator_by (Some name) declarator role line x holds e =
    let binding = binding_as role x.own name in
    let y = mention binding role name line x in
    declarator_as declarator (name_by binding x.suffix name) y (mention_holds binding role name line x holds)
    (subst (λ (found : Option (List ℕ)). Fits (name_by binding x.suffix name) found) (sym e)
    (by_binding binding x name holds (λ q. as_shared role x.own name holds.2 q)))

-- a declarator at file scope
declarator_renames : (declarator : Declarator) (role : Role) (line : ℕ) (x : Names) → Holds x →
    Renames (declarator_tree declarator) (renamed_declarator role line (declarator_tree declarator) x)
declarator_renames declarator role line x holds = declarator_by (name_of (declarator_tree declarator)) declarator role line x holds refl

-- the names of a declaration at file scope
entries_rename : (line : ℕ) (typedef : Bool) (list : List (Declarator × Option Init)) (x : Names) → Holds x →
    RenamesAll (trees entry_view list) (renamed_entries line typedef (trees entry_view list) x)
unfolding behind_entries renamed_entries Renames RenamesAll
entries_rename line typedef [] x holds = tt
entries_rename line typedef ((declarator, None) ∷ rest) x holds =
    let tree = declarator_tree declarator in
    let init = Node f.MaybeInit none in
    let role = role_of typedef none in
    let y = behind_declarator role line tree x in (
      (refl, ((refl, (declarator_renames declarator role line x holds, tt)), (tree_renames init y (declarator_holds role line tree x holds), tt))),
      entries_rename line typedef rest (behind init y) (entry_holds role line tree init x holds),
    )
entries_rename line typedef ((declarator, Some one) ∷ rest) x holds =
    let tree = declarator_tree declarator in
    let init = Node f.MaybeInit (init_view one ▹ none) in
    let role = role_of typedef (init_view one ▹ none) in
    let y = behind_declarator role line tree x in (
      (refl, ((refl, (declarator_renames declarator role line x holds, tt)), (tree_renames init y (declarator_holds role line tree x holds), tt))),
      entries_rename line typedef rest (behind init y) (entry_holds role line tree init x holds),
    )

-- an external declaration as it stands in the program
external_renames : (decl : Decl) (x : Names) → Holds x → Renames (decl_view decl) (renamed_external (decl_view decl) x)
unfolding renamed_external Renames RenamesAll
external_renames (e.Function line specs declarator body end) x holds =
    let words = specs_view specs in
    let tree = declarator_tree declarator in
    let y = behind words x in
    let holds_y = behind_holds words x holds in
    let name = behind_declarator Defined line tree y in
    let inside = inside_params (params_of tree) name in
    let code = tree_renames (body_view body end) inside (params_hold (params_of tree) name (declarator_holds Defined line tree y holds_y)) in
    (refl, (refl, (tree_renames words x holds, ((refl, (declarator_renames declarator Defined line y holds_y, tt)), (code, tt)))))
external_renames (e.Names line specs names) x holds =
    let words = At specs.line ▹ trees spec_tree specs.words.items in
    let y = behind (Node f.Specs words) x in
    let all = entries_rename line (has_typedef words) names y (behind_holds (Node f.Specs words) x holds) in
    (refl, (refl, (tree_renames (Node f.Specs words) x holds, ((refl, all), tt))))

some_none : (ts : Trees) → RenamesSome ts none
unfolding RenamesSome
some_none none = tt
some_none (tree ▹ rest) = some_none rest

-- the first is left out
some_left : (tree : Tree) (rest news : Trees) → RenamesSome rest news → RenamesSome (tree ▹ rest) news
unfolding RenamesSome
some_left tree rest none h = h
some_left tree rest (new ▹ news) h = inr h

some_joined : (a x c y : Trees) → RenamesSome a x → RenamesSome c y → RenamesSome (joined a c) (joined x y)
unfolding RenamesSome
some_joined none none c y h g = g
some_joined none (new ▹ x) c y h g = absurd h
some_joined (tree ▹ a) none c y h g = some_left tree (joined a c) y (some_joined a none c y h g)
some_joined (tree ▹ a) (new ▹ x) c y (inl h) g = inl (h.0, some_joined a x c y h.1 g)
some_joined (tree ▹ a) (new ▹ x) c y (inr h) g = inr (some_joined a (new ▹ x) c y h g)

some_same : (ts : Trees) → RenamesSome ts ts
unfolding RenamesSome
some_same none = tt
some_same (tree ▹ rest) = inl (same_tree tree, some_same rest)

module _ (spellings : List (List ℕ)) where
  one_kept : (again : Bool) (said : Said) (tree : Tree) (ts : Trees) (rest : List Said) → Renames tree said.tree →
      RenamesSome ts (trees_of rest) → RenamesSome (tree ▹ ts) (trees_of (if not again then said ∷ rest else rest))
  unfolding RenamesSome
  one_kept true said tree ts rest h g = some_left tree ts (trees_of rest) g
  one_kept false said tree ts rest h g = inl (h, g)

  -- what is left of a unit
  unit_kept : (decls : List Decl) (x : Names) → Holds x →
      RenamesSome (trees decl_view decls) (trees_of (kept spellings (each_said (trees decl_view decls) x)))
  unfolding each_said RenamesSome
  unit_kept [] x holds = tt
  unit_kept (decl ∷ rest) x holds =
      let before : Names = record x { mentions = [] } in
      let next = behind_external (decl_view decl) before in
      let said : Said = record { tree = renamed_external (decl_view decl) before; mentions = next.mentions } in
      one_kept (is_again spellings said) said (decl_view decl) (trees decl_view rest)
      (kept spellings (each_said (trees decl_view rest) next)) (external_renames decl before holds)
      (unit_kept rest next (external_holds (decl_view decl) before holds))

-- the units from this number on
units_rename : (units : List Code) (number : ℕ) (spellings : List (List ℕ)) → number + length units ≤ 65 →
    RenamesSome (joined_all (map unit_view units)) (all_left number (map unit_view units) spellings)
unfolding RenamesSome
units_rename [] number spellings few = tt
units_rename (unit ∷ units) number spellings few =
    some_joined (unit_view unit) _ (joined_all (map unit_view units)) _
    (unit_kept spellings unit.decls (unit_names number (unit_view unit)) (unit_holds number unit.decls (omega (arith, few))))
    (units_rename units (number + 1) _ (omega (arith, few)))

all_rename : (units : List Code) (trees : Trees) → length units ≤ 64 → with_units 1 (map unit_view units) no_program ≡ Ok trees → RenamesSome (joined_all (map unit_view units)) trees
all_rename units trees few is =
    subst (λ (ts : Trees). RenamesSome (joined_all (map unit_view units)) ts) (sym (merge_is (map unit_view units) 1 no_program trees is)) (units_rename units 1 [] (omega (arith, few)))

pub merges_rename : MergesRename
unfolding RenamesSome
merges_rename [] trees few is = all_rename [] trees few is
merges_rename (unit ∷ []) trees few is =
    subst (λ (ts : Trees). RenamesSome ts trees) (sym (joined_none (unit_view unit)))
    (subst (λ (ts : Trees). RenamesSome (unit_view unit) ts) (sym (same_answer (unit_view unit) trees is)) (some_same (unit_view unit)))
merges_rename (first ∷ second ∷ more) trees few is =
    all_rename (first ∷ second ∷ more) trees few is

-- what is answered
pub merge_renames : (units : List Code) (result : Result Code MergeError) → length units ≤ 64 → Merges (map unit_view units) result →
    IfOk result (λ unit. RenamesSome (joined_all (map unit_view units)) (unit_view unit))
merge_renames units (Ok unit) few is = merges_rename units (unit_view unit) few is
merge_renames units (Err error) few is = tt
