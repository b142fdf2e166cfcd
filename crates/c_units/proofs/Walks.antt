-- One walk over the trees of a unit: what each of its steps keeps, it keeps.
use Rattle.c_units.proofs.Words.Std.{Bool, List, None, Option, Some, [], ap, false, inl, inr, refl, subst, sym, true, ℕ, ⊤, ◌∙◌, ◌∷◌, ◌≡◌, ◌⊎◌}
use Rattle.c_units.proofs.Words.Trees.{At, Form, Leaf, Node, Place, Tree, Trees, Word, count, is_scope, name_among, name_of, none, places, shape, ◌▹◌}
use Rattle.c_units.proofs.Words.Units.{Binding, Defined, HasNoDots, HaveNoDots, Mention, Names, Role, Scope, Tagged, Used, after, after_all, all_behind, all_renamed, behind, binding_at, binding_of, declare, hold_here, left_part, line_in, made, mention, mention_any, name_by, names_at_start, no_scope, renamed, tag_name, use_of, used}
use Rattle.c_tree.specs.Words as words
use Rattle.c_tree.specs.Forms as f
use Rattle.c_units.specs.declared.names.Binding.TheVariants as b
use Rattle.c_units.specs.Names.{named}
use Rattle.c_units.specs.Names as n
use Rattle.c_units.specs.Binding.{left_scope, entered, left}
use Rattle.c_units.proofs.BoundTrees.{IsName, IsOther, name_places, stays_other, names_same, count_same}

-- a place of a unit, and the same place of the program: by which names it is renamed, what is known there and what holds; what is
-- known and holds at the place of the program
pub record World : Type 0 where
  pub by : Names
  pub names : Names
  pub scope : Scope
  pub known : Names
  pub held : Scope

-- behind a tree, which stands in the program as it is renamed; and behind some parts
abbrev pub walked : Tree → World → World
walked tree w = record {
  by = behind tree w.by;
  names = behind tree w.names;
  scope = after tree w.scope;
  known = behind (renamed tree w.by) w.known;
  held = after (renamed tree w.by) w.held;
}

abbrev pub all_walked : Trees → List Place → World → World
all_walked parts ps w = record {
  by = all_behind parts ps w.by;
  names = all_behind parts ps w.names;
  scope = after_all parts ps w.scope;
  known = all_behind (all_renamed parts ps w.by) ps w.known;
  held = after_all (all_renamed parts ps w.by) ps w.held;
}

-- a scope ends, and begins
abbrev pub ended : World → World → World
ended w inner = record {
  by = n.left_scope w.by inner.by;
  names = n.left_scope w.names inner.names;
  scope = left_scope w.scope inner.scope;
  known = n.left_scope w.known inner.known;
  held = left_scope w.held inner.held;
}

abbrev pub opened : World → World
opened w = record {
  by = record w.by { inside = true };
  names = record w.names { inside = true };
  scope = record w.scope { inside = true };
  known = record w.known { inside = true };
  held = record w.held { inside = true };
}

-- a name is declared
abbrev pub declared : Option (List ℕ) → World → World
declared name w = record {
  by = declare name (binding_at w.by) w.by;
  names = declare name (binding_at w.names) w.names;
  scope = hold_here name w.scope;
  known = declare name (binding_at w.known) w.known;
  held = hold_here name w.held;
}

-- a name is used in an expression
abbrev pub told : ℕ → List ℕ → World → World
told line name w = record w {
  scope = use_of (At line ▹ Leaf (words.Name name) ▹ none) w.scope;
  held = use_of (At line ▹ Leaf (words.Name (name_by (binding_of w.by.known name) w.by.suffix name)) ▹ none) w.held;
}

-- names are mentioned
abbrev pub said : List Mention → List Mention → List Mention → World → World
said first second third w = record w {
  by = record w.by { mentions = first };
  names = record w.names { mentions = second };
  known = record w.known { mentions = third };
}

-- what is said of parts is said of those inside of them
pub record IsOfParts (D : Trees → Type 0) : Type 0 where
  pub inner : (form : Form) (parts rest : Trees) → D (Node form parts ▹ rest) → D parts
  pub next : (tree : Tree) (rest : Trees) → D (tree ▹ rest) → D rest

pub anything : IsOfParts (λ _. ⊤)
anything = record { inner = λ form parts rest d. tt; next = λ tree rest d. tt }

pub no_dots : IsOfParts HaveNoDots
unfolding HasNoDots HaveNoDots
no_dots = record { inner = λ form parts rest d. d.0; next = λ tree rest d. d.1 }

-- the steps of a walk over parts of which D is said keep P
pub record Keeps (D : Trees → Type 0) (P : World → Type 0) : Type 0 where
  pub ends : (w inner : World) → P w → (P (opened w) → P inner) → P (ended w inner)
  pub declares : (parts : Trees) (w : World) → D parts → P w → P (declared (name_among parts) w)
  pub uses : (line : ℕ) (name : List ℕ) (w : World) → D (At line ▹ Leaf (words.Name name) ▹ none) → P w → P (told line name w)
  pub says : (first second third : List Mention) (w : World) → P w → P (said first second third w)

-- nothing but what was mentioned changes
abbrev pub Says : Names → Names → Type 0
Says x y = (more : List Mention) × (y ≡ record x { mentions = more })

pub mention_says : (b : Binding) (role : Role) (name : List ℕ) (line : ℕ) (x : Names) → Says x (mention b role name line x)
mention_says b.Inner role name line x = (x.mentions, refl)
mention_says b.Own role name line x = (x.mentions, refl)
mention_says b.Shared role name line x = (_, refl)

any_says : (name : Option (List ℕ)) (b : Binding) (role : Role) (line : ℕ) (x : Names) → Says x (mention_any name b role line x)
any_says None b role line x = (x.mentions, refl)
any_says (Some name) b role line x = mention_says b role name line x

used_says : (name : Option (List ℕ)) (line : ℕ) (x : Names) → Says x (used name line x)
used_says None line x = (x.mentions, refl)
used_says (Some name) line x = mention_says (binding_of x.known name) Used name line x

-- a name in an expression, or a node that stands in the program with its parts as they stand there
abbrev IsPlain : Form → Trees → Trees → Names → Type 0
IsPlain form parts new x = (made form new x ≡ Node form new) × (form ≡ f.Name → IsOther parts × IsOther new)

node_way : (form : Form) (parts : Trees) (x : Names) → ((form ≡ f.Name) × IsName parts) ⊎ IsPlain form parts (all_renamed parts (places (shape form (count parts))) (n.entered form parts x)) x
unfolding made shape n.entered
node_way f.Name parts x = by (stays_other parts x) where
  by : IsName parts ⊎ (IsOther parts × IsOther (all_renamed parts name_places x)) → ((f.Name ≡ f.Name) × IsName parts) ⊎ IsPlain f.Name parts (all_renamed parts name_places x) x
  by (inl is) = inl (refl, is)
  by (inr is) = inr (is.1.0 x, λ _. is)
node_way form parts x = inr (refl, λ e. absurd (cc))

module _ {D : Trees → Type 0} {P : World → Type 0} (of_parts : IsOfParts D) (keeps : Keeps D P) where
  mentioned : (w : World) (x y z : Names) → Says w.by x → Says w.names y → Says w.known z → P w → P (record w { by = x; names = y; known = z })
  mentioned w x y z a b c h =
      subst P (λ i. record w { by = sym a.1 i; names = sym b.1 i; known = sym c.1 i }) (keeps.says a.0 b.0 c.0 w h)

  -- the parts of a node as they stand in the program, where the parts begin, what is behind them, and behind the node
  abbrev news : Form → Trees → World → Trees
  news form parts w = all_renamed parts (places (shape form (count parts))) (n.entered form parts w.by)

  abbrev begun : Form → Trees → World → World
  begun form parts w = record {
    by = n.entered form parts w.by;
    names = n.entered form parts w.names;
    scope = entered form w.scope;
    known = n.entered form (news form parts w) w.known;
    held = entered form w.held;
  }

  abbrev done : Form → Trees → Trees → World → World → World
  done form parts new w inner = record {
    by = n.left form parts w.by inner.by;
    names = n.left form parts w.names inner.names;
    scope = left form parts w.scope inner.scope;
    known = n.left form new w.known inner.known;
    held = left form new w.held inner.held;
  }

  named_so : (parts new : Trees) (w : World) → name_among new ≡ name_among parts → D parts → P w →
      P (record (declared (name_among parts) w) { known = declare (name_among new) (binding_at w.known) w.known; held = hold_here (name_among new) w.held })
  named_so parts new w e d h =
      subst (λ (o : Option (List ℕ)). P (record (declared (name_among parts) w) { known = declare o (binding_at w.known) w.known; held = hold_here o w.held }))
      (sym e) (keeps.declares parts w d h)

  node_kept : (form : Form) (parts new : Trees) (w inner : World) → name_among new ≡ name_among parts → (form ≡ f.Name → IsOther parts × IsOther new) → D parts → P w →
      (P (record (begun form parts w) { known = n.entered form new w.known }) → P inner) → P (done form parts new w inner)
  unfolding n.left n.entered left entered
  node_kept f.Body parts new w inner e o d h g = keeps.ends w inner h (λ _. g h)
  node_kept f.Block parts new w inner e o d h g = keeps.ends w inner h (λ _. g h)
  node_kept f.Delay parts new w inner e o d h g = keeps.ends w inner h (λ _. g h)
  node_kept f.If parts new w inner e o d h g = keeps.ends w inner h (λ _. g h)
  node_kept f.IfElse parts new w inner e o d h g = keeps.ends w inner h (λ _. g h)
  node_kept f.While parts new w inner e o d h g = keeps.ends w inner h (λ _. g h)
  node_kept f.Do parts new w inner e o d h g = keeps.ends w inner h (λ _. g h)
  node_kept f.For parts new w inner e o d h g = keeps.ends w inner h (λ _. g h)
  node_kept f.Switch parts new w inner e o d h g = keeps.ends w inner h (λ _. g h)
  node_kept f.FunctionSuffix parts new w inner e o d h g = keeps.ends w inner h g
  node_kept f.Declared parts new w inner e o d h g = named_so parts new inner e d (g h)
  node_kept f.Param parts new w inner e o d h g = named_so parts new inner e d (g h)
  node_kept f.Enumerator parts new w inner e o d h g =
      let name = name_among parts in
      named_so parts new inner e d (g (mentioned w _ _ _ (any_says name _ _ _ _) (any_says name _ _ _ _) (any_says (name_among new) _ _ _ _) h))
  node_kept (f.RecordBody sort) parts new w inner e o d h g =
      let name = tag_name parts in g (mentioned w _ _ _ (any_says name _ _ _ _) (any_says name _ _ _ _) (any_says (tag_name new) _ _ _ _) h)
  node_kept (f.EnumBody trailing) parts new w inner e o d h g =
      let name = tag_name parts in g (mentioned w _ _ _ (any_says name _ _ _ _) (any_says name _ _ _ _) (any_says (tag_name new) _ _ _ _) h)
  node_kept f.Name parts new w inner e o d h g =
      let other = o refl in
      let name = name_among parts in
      subst P (λ i. record (done f.Name parts new w inner) { scope = sym (other.0.1 inner.scope) i; held = sym (other.1.1 inner.held) i })
      (mentioned inner _ _ _ (used_says name _ _) (used_says name _ _) (used_says (name_among new) _ _) (g h))
  node_kept form parts new w inner e o d h g = g h

  -- a name in an expression
  name_kept : (line : ℕ) (name : List ℕ) (w : World) → D (At line ▹ Leaf (words.Name name) ▹ none) → P w → P (walked (Node f.Name (At line ▹ Leaf (words.Name name) ▹ none)) w)
  unfolding behind all_behind renamed all_renamed after after_all n.left n.entered left entered shape is_scope made named name_of name_among
  name_kept line name w d h =
      mentioned (told line name w) _ _ _ (mention_says _ Used name line w.by) (mention_says _ Used name line w.names)
      (mention_says _ Used (name_by (binding_of w.by.known name) w.by.suffix name) line w.known) (keeps.uses line name w d h)

  -- where the parts of a node stand so
  stands : (form : Form) (parts : Trees) (w : World) → made form (news form parts w) w.by ≡ Node form (news form parts w) →
      done form parts (news form parts w) w (all_walked parts (places (shape form (count parts))) (begun form parts w)) ≡ walked (Node form parts) w
  unfolding behind renamed after
  stands form parts w e =
      let ps = places (shape form (count parts)) in
      let new = news form parts w in
      let counted : count new ≡ count parts = count_same parts ps (n.entered form parts w.by) in
      let known : n.left form new w.known (all_behind new ps (n.entered form new w.known)) ≡ behind (made form new w.by) w.known =
      ap (λ (c : ℕ). n.left form new w.known (all_behind new (places (shape form c)) (n.entered form new w.known))) (sym counted) ∙ ap (λ (t : Tree). behind t w.known) (sym e) in
      let held : left form new w.held (after_all new ps (entered form w.held)) ≡ after (made form new w.by) w.held =
      ap (λ (c : ℕ). left form new w.held (after_all new (places (shape form c)) (entered form w.held))) (sym counted) ∙ ap (λ (t : Tree). after t w.held) (sym e) in
      λ i. record (walked (Node form parts) w) { known = known i; held = held i }

  one_kept : (form : Form) (parts rest : Trees) (w : World) → D (Node form parts ▹ rest) → P w →
      (P (begun form parts w) → P (all_walked parts (places (shape form (count parts))) (begun form parts w))) →
      ((form ≡ f.Name) × IsName parts) ⊎ IsPlain form parts (news form parts w) w.by → P (walked (Node form parts) w)
  one_kept form parts rest w d h g (inl is) =
      subst (λ (x : Form). P (walked (Node x parts) w)) (sym is.0) (subst (λ (x : Trees). P (walked (Node f.Name x) w)) (sym is.1.2)
      (name_kept is.1.0 is.1.1 w (subst D is.1.2 (of_parts.inner form parts rest d)) h))
  one_kept form parts rest w d h g (inr is) =
      subst P (stands form parts w is.0)
      (node_kept form parts (news form parts w) w _ (names_same parts _ _) is.1 (of_parts.inner form parts rest d) h g)

  pub part_kept : (scope : Bool) (w inner : World) → P w → P inner → P (record {
    by = n.left_part scope w.by inner.by;
    names = n.left_part scope w.names inner.names;
    scope = left_part scope w.scope inner.scope;
    known = n.left_part scope w.known inner.known;
    held = left_part scope w.held inner.held;
  })
  part_kept true w inner h g = keeps.ends w inner h (λ _. g)
  part_kept false w inner h g = g

  mutual
    unfolding behind all_behind renamed all_renamed after after_all

    pub tree_kept : (tree : Tree) (rest : Trees) (w : World) → D (tree ▹ rest) → P w → P (walked tree w)
    tree_kept (Leaf word) rest w d h = h
    tree_kept (At line) rest w d h = h
    tree_kept (Node form parts) rest w d h =
        one_kept form parts rest w d h (λ g. parts_kept parts (places (shape form (count parts))) (begun form parts w) (of_parts.inner form parts rest d) g)
        (node_way form parts w.by)

    pub parts_kept : (parts : Trees) (ps : List Place) (w : World) → D parts → P w → P (all_walked parts ps w)
    parts_kept none ps w d h = h
    parts_kept (tree ▹ rest) [] w d h = h
    parts_kept (tree ▹ rest) (place ∷ ps) w d h =
        parts_kept rest ps _ (of_parts.next tree rest d) (part_kept (is_scope place) w (walked tree w) h (tree_kept tree rest w d h))

-- a walk that asks after what is known alone, and after what holds alone
abbrev pub at_names : Names → World
at_names x = record { by = x; names = x; scope = no_scope; known = x; held = no_scope }

abbrev pub at_scope : Scope → World
at_scope s = record { by = names_at_start [] []; names = names_at_start [] []; scope = s; known = names_at_start [] []; held = s }

-- R is said of trees, and Rs of parts, as they stand in the program where Q is known
pub record Stands (Q : Names → Type 0) (R : Tree → Tree → Type 0) (Rs : Trees → Trees → Type 0) : Type 0 where
  pub same : (parts : Trees) → Rs parts parts
  pub more : (tree new : Tree) (rest news : Trees) → R tree new → Rs rest news → Rs (tree ▹ rest) (new ▹ news)
  pub word : (word : Word) → R (Leaf word) (Leaf word)
  pub line : (line : ℕ) → R (At line) (At line)
  pub node : (form : Form) (parts news : Trees) → count news ≡ count parts → Rs parts news → R (Node form parts) (Node form news)
  pub name : (line : ℕ) (name : List ℕ) (x : Names) → Q x →
      R (Node f.Name (At line ▹ Leaf (words.Name name) ▹ none)) (Node f.Name (At line ▹ Leaf (words.Name (name_by (binding_of x.known name) x.suffix name)) ▹ none))

module _ {Q : Names → Type 0} (keeps : Keeps (λ _. ⊤) (λ u. Q u.by)) (opens : (x : Names) → Q x → Q (record x { inside = true })) where
  pub mentions : (x y : Names) → Says x y → Q x → Q y
  mentions x y a h = mentioned anything keeps (at_names x) y y y a a a h

  entered_kept : (form : Form) (parts : Trees) (x : Names) → Q x → Q (n.entered form parts x)
  unfolding n.entered
  entered_kept (f.RecordBody sort) parts x h = mentions x _ (any_says (tag_name parts) (binding_at x) Tagged (line_in parts) x) h
  entered_kept (f.EnumBody trailing) parts x h = mentions x _ (any_says (tag_name parts) (binding_at x) Tagged (line_in parts) x) h
  entered_kept f.Enumerator parts x h = mentions x _ (any_says (name_among parts) (binding_at x) Defined (line_in parts) x) h
  entered_kept f.FunctionSuffix parts x h = opens x h
  entered_kept form parts x h = h

  module _ {R : Tree → Tree → Type 0} {Rs : Trees → Trees → Type 0} (stands : Stands Q R Rs) where
    node_stands : (form : Form) (parts : Trees) (x : Names) → let new = all_renamed parts (places (shape form (count parts))) (n.entered form parts x) in
        Q x → Rs parts new → ((form ≡ f.Name) × IsName parts) ⊎ IsPlain form parts new x → R (Node form parts) (renamed (Node form parts) x)
    unfolding renamed all_renamed n.entered made named shape is_scope
    node_stands form parts x h more (inl is) =
        subst (λ (y : Form). R (Node y parts) (renamed (Node y parts) x)) (sym is.0)
        (subst (λ (y : Trees). R (Node f.Name y) (renamed (Node f.Name y) x)) (sym is.1.2) (stands.name is.1.0 is.1.1 x h))
    node_stands form parts x h more (inr is) =
        subst (λ (y : Tree). R (Node form parts) y) (sym is.0) (stands.node form parts _ (count_same parts _ _) more)

    mutual
      unfolding renamed all_renamed

      -- a tree as it stands in the program
      pub tree_stands : (tree : Tree) (x : Names) → Q x → R tree (renamed tree x)
      tree_stands (Leaf word) x h = stands.word word
      tree_stands (At line) x h = stands.line line
      tree_stands (Node form parts) x h = node_stands form parts x h (parts_stand parts _ _ (entered_kept form parts x h)) (node_way form parts x)

      pub parts_stand : (parts : Trees) (ps : List Place) (x : Names) → Q x → Rs parts (all_renamed parts ps x)
      parts_stand none ps x h = stands.same none
      parts_stand (tree ▹ rest) [] x h = stands.same (tree ▹ rest)
      parts_stand (tree ▹ rest) (place ∷ ps) x h =
          stands.more tree _ rest _ (tree_stands tree x h)
          (parts_stand rest ps _ (part_kept anything keeps (is_scope place) (at_names x) (walked tree (at_names x)) h (tree_kept anything keeps tree none (at_names x) tt h)))
