-- The walk over addresses: what it adds, and what it leaves.
use Rattle.core_soundness.proofs.Words.Std.{◌≡◌, ℕ, Bool, true, false, nat_eq, List, [], ◌∷◌, Option, Some, None, refl, ◌≤◌, sym, ap, ◌∙◌, zero, suc, length, ⊎_elim, arith, list_any, option_or}
use Rattle.core_soundness.proofs.Words.Trees.{Form, shape, rows, some, commas, behind_commas, some_commas, Place, is_scope, places, Tree, Trees, Node, none, ◌▹◌, count, Leaf, At}
use Rattle.core_soundness.proofs.Words.Types.{PlainNamed, ScopeList, Table, found, named_in, found_from, tail}
use Rattle.core_soundness.proofs.Words.Elaborating.{Taken, number_of, left_part, taken, all_taken, left_scope, Context, left as left_context}
use Rattle.core_soundness.proofs.Words.Facts.{is_register, World, world, FileFits, HasParts, Written, AllWritten, TableFits}
use Rattle.c_tree.specs.Forms as f
use Rattle.c_tree.specs.Places as p
use Rattle.c_tree.specs.declared.operator.UnaryOp.TheVariants as u
use Rattle.c_decls.specs.Named as n
use Rattle.c_decls.specs.ScopeList as scopes
use Rattle.elaboration.specs.Addressed.{left}
use Rattle.core_soundness.proofs.Formed.{NoNodes, Shaped, Formed, AllFormed}
use Rattle.core_soundness.proofs.Scopes.{More, MoreAll, IsNewTag, HasScope, scope_more}

-- of which parameters and locals the address was taken stays known behind each tree

-- a number is one of a list
abbrev pub Has : List ℕ → ℕ → Type 0
Has numbers k = list_any (λ number. nat_eq number k) numbers ≡ true

-- each number of a list is one of another
abbrev pub Inside : List ℕ → List ℕ → Type 0
Inside one other = (k : ℕ) → Has one k → Has other k

pub left_adds : (form : Form) (parts : Trees) (before inner : Taken) (k : ℕ) → Has inner.addressed k → Has (left form parts before inner).addressed k
unfolding left
left_adds form parts before inner k h = search (arith, nat_eq) fits 100

pub part_adds : (scope : Bool) (before inner : Taken) (k : ℕ) → Has inner.addressed k → Has (left_part scope before inner).addressed k
part_adds scope before inner k h = search arith fits 100

mutual
  unfolding taken all_taken

  pub taken_adds : (tree : Tree) (t : Taken) (k : ℕ) → Has t.addressed k → Has (taken tree t).addressed k
  taken_adds (Node form parts) t k h =
      left_adds form parts t (all_taken parts (places (shape form (count parts))) t) k (all_taken_adds parts (places (shape form (count parts))) t k h)
  taken_adds other t k h = h

  pub all_taken_adds : (parts : Trees) (ps : List Place) (t : Taken) (k : ℕ) → Has t.addressed k → Has (all_taken parts ps t).addressed k
  all_taken_adds none ps t k h = h
  all_taken_adds (tree ▹ rest) [] t k h = h
  all_taken_adds (tree ▹ rest) (place ∷ ps) t k h =
      all_taken_adds rest ps (left_part (is_scope place) t (taken tree t)) k (part_adds (is_scope place) t (taken tree t) k (taken_adds tree t k h))

-- a tree whose addresses are among given numbers: what is so of a statement is so of each part where it is walked

-- the addresses that are taken up to the end of a tree are among these
pub record Good (numbers : List ℕ) (t : Taken) (tree : Tree) : Type 0 where
  pub inside : Inside (taken tree t).addressed numbers
  pub written : Written tree
  pub formed : Formed tree

-- the same of parts of a list
pub record AllGood (numbers : List ℕ) (t : Taken) (parts : Trees) (ps : List Place) : Type 0 where
  pub inside : Inside (all_taken parts ps t).addressed numbers
  pub written : AllWritten parts
  pub formed : AllFormed parts

-- the items of a block
abbrev pub ItemsGood : List ℕ → Taken → Trees → Type 0
ItemsGood numbers t parts = AllGood numbers t parts (places (shape f.Items (count parts)))

-- what is known behind items
abbrev pub behind_items : Trees → Taken → Taken
behind_items parts t = all_taken parts (places (shape f.Items (count parts))) t

-- what is known behind parts, where none of the names is one of typedef names
abbrev pub as_before : Taken → Taken → Taken
as_before t u = record u { typedef = t.typedef }

-- words alone change nothing
part_same : (scope : Bool) (t : Taken) → left_part scope t t ≡ t
part_same scope t = search arith fits 100

words_taken : (parts : Trees) (ps : List Place) (t : Taken) → NoNodes parts → all_taken parts ps t ≡ t
unfolding taken all_taken
words_taken (Leaf word ▹ rest) (place ∷ ps) t h = ap (λ (u : Taken). all_taken rest ps u) (part_same (is_scope place) t) ∙ words_taken rest ps t h
words_taken (At line ▹ rest) (place ∷ ps) t h = ap (λ (u : Taken). all_taken rest ps u) (part_same (is_scope place) t) ∙ words_taken rest ps t h
words_taken parts ps t h = search arith fits 100

pub empty_taken : (parts : Trees) (t : Taken) → Formed (Node f.Empty parts) → t ≡ taken (Node f.Empty parts) t
unfolding taken left Formed Shaped
empty_taken parts t g = ap (λ (u : Taken). as_before t u) (sym (words_taken parts (places (shape f.Empty (count parts))) t g.0))

-- what is asked of a node is asked of each of its parts, where that is walked
abbrev pub PartsGood : List ℕ → Taken → Trees → List Place → Type 0
PartsGood numbers t (tree ▹ rest) (place ∷ ps) = Good numbers t tree × PartsGood numbers (left_part (is_scope place) t (taken tree t)) rest ps
PartsGood numbers t parts ps = Unit {0}

first_good : (numbers : List ℕ) (tree : Tree) (rest : Trees) (place : Place) (ps : List Place) (t : Taken) → AllGood numbers t (tree ▹ rest) (place ∷ ps) → Good numbers t tree × AllGood numbers (left_part (is_scope place) t (taken tree t)) rest ps
unfolding all_taken AllWritten AllFormed
first_good numbers tree rest place ps t g = search (arith, all_taken_adds, part_adds) fits 100

parts_good : (numbers : List ℕ) (parts : Trees) (ps : List Place) (t : Taken) → AllGood numbers t parts ps → PartsGood numbers t parts ps
parts_good numbers none ps t g = tt
parts_good numbers (tree ▹ rest) [] t g = tt
parts_good numbers (tree ▹ rest) (place ∷ ps) t g =
    let x = first_good numbers tree rest place ps t g in (x.0, parts_good numbers rest ps (left_part (is_scope place) t (taken tree t)) x.1)

pub node_good : (numbers : List ℕ) (form : Form) (parts : Trees) (t : Taken) → Good numbers t (Node form parts) → PartsGood numbers t parts (places (shape form (count parts)))
unfolding taken Written Formed
node_good numbers form parts t g = search (arith, parts_good, left_adds)

-- items
pub items_of : (numbers : List ℕ) (parts : Trees) (t : Taken) → Good numbers t (Node f.Items parts) → ItemsGood numbers t parts
unfolding taken left Written Formed
items_of numbers parts t g = record { inside = g.inside; written = g.written.1; formed = g.formed.1 }

pub items_good : (numbers : List ℕ) (t : Taken) (item : Tree) (rest : Trees) → ItemsGood numbers t (item ▹ rest) → Good numbers t item × ItemsGood numbers (taken item t) rest
unfolding shape is_scope
items_good numbers t item rest g = first_good numbers item rest p.Item (places (rows p.Item (count rest))) t g

-- a body
pub body_good : (numbers : List ℕ) (t : Taken) (end : ℕ) (parts : Trees) → Good numbers t (Node f.Body (Node f.Items parts ▹ At end ▹ none)) → (1 ≤ end) × ItemsGood numbers t parts
unfolding taken all_taken left shape is_scope Written AllWritten
body_good numbers t end parts g =
    let o = node_good numbers f.Body (Node f.Items parts ▹ At end ▹ none) t g in (o.1.0.written, items_of numbers parts t o.0)

-- a declaration in front of a `for` is one
pub names_good : (numbers : List ℕ) (t : Taken) (line : ℕ) (words names : Tree) → 1 ≤ line → Good numbers t (Node f.ForNames (words ▹ names ▹ none)) → Good numbers t (Node f.Local (At line ▹ words ▹ names ▹ none))
unfolding taken all_taken left shape is_scope Written AllWritten Formed AllFormed Shaped HasParts
names_good numbers t line words names l g = record { inside = g.inside; written = (tt, (l, g.written.1)); formed = (search arith fits 100, (tt, g.formed.1)) }

-- what the walk over addresses knows at a place goes with what elaboration knows there

-- a number is one of a list
abbrev pub among : ℕ → List ℕ → Bool
among k numbers = list_any (λ number. nat_eq number k) numbers

-- a name has a number, and the address of what has it is taken nowhere
abbrev pub Numbered : Taken → List ℕ → List ℕ → Type 0
Numbered t addressed name = (k : ℕ) × (number_of t.names name ≡ Some k) × (among k addressed ≡ false)

-- as many are declared, and a name that stands for a register is such a one
abbrev pub FollowsAt : Taken → ScopeList → ℕ → List ℕ → Type 0
FollowsAt t s declared addressed =
    (t.declared ≡ declared) × ((name : List ℕ) → is_register (found s name) ≡ true → Numbered t addressed name)

abbrev pub Follows : Taken → Context → Type 0
Follows t c = FollowsAt t c.scopes c.running.declared c.running.addressed

-- inside a function, where no typedef names are being declared
abbrev pub InStep : Taken → Context → Type 0
InStep t c = (t.typedef ≡ false) × HasScope c.scopes.inner × Follows t c

-- the same names, and as many that are declared
pub record Same (t u : Taken) : Type 0 where
  pub names : u.names ≡ t.names
  pub typedef : u.typedef ≡ t.typedef
  pub declared : u.declared ≡ t.declared

-- no name stands for a register behind that did not before
abbrev pub Fewer : ScopeList → ScopeList → Type 0
Fewer s r = (name : List ℕ) → is_register (found r name) ≡ true → is_register (found s name) ≡ true

-- what an expression leaves as it was
pub record Keeps (c d : Context) : Type 0 where
  pub more : More c.scopes d.scopes
  pub declared : d.running.declared ≡ c.running.declared
  pub addressed : d.running.addressed ≡ c.running.addressed

-- some scopes are left
abbrev pub drops : ℕ → ScopeList → ScopeList
drops zero s = s
drops (suc k) s = drops k (scopes.left s)

-- what any part leaves as it was
pub record Stepped (t : Taken) (c : Context) (u : Taken) (d : Context) : Type 0 where
  pub follows : Follows u d
  pub addressed : d.running.addressed ≡ c.running.addressed
  pub depth : length d.scopes.inner ≡ length c.scopes.inner
  pub outside : (k : ℕ) → Fewer (drops k (scopes.left c.scopes)) (drops k (scopes.left d.scopes))

-- parts in turn, whatever their places are, if none is a scope
unfoldable pub each : Trees → Taken → Taken
each none t = t
each (tree ▹ rest) t = each rest (taken tree t)

-- behind a scope, what the walk over addresses knows is what it knew before it, with the numbers that were given inside

-- a name at file scope is no register
pub file_none : (w : World) (g : Table) (name : List ℕ) → TableFits (FileFits w) g → is_register (named_in name g) ≡ true → ⊥
file_none w g name h e = by (named_in name g) (λ v q. h name v q) e
  where
    by : (o : Option PlainNamed) → ((v : PlainNamed) → o ≡ Some v → FileFits w v) → is_register o ≡ true → ⊥
    by (Some (n.Register type i)) fits e = fits (n.Register type i) refl
    by other fits e = cc

register_back : (w : World) (f g : Table) (ss ts : List Table) (name : List ℕ) → TableFits (FileFits w) g → MoreAll ss ts → is_register (found_from g name ts) ≡ true → is_register (found_from f name ss) ≡ true
register_back w f g [] [] name h m e = absurd (file_none w g name h e)
register_back w f g [] (t ∷ ts) name h m e = absurd m
register_back w f g (s ∷ ss) [] name h m e = absurd m
register_back w f g (s ∷ ss) (t ∷ ts) name h m e =
    ⊎_elim
    (λ (q : named_in name t ≡ named_in name s). same (named_in name s) (named_in name t) q (λ j. register_back w f g ss ts name h m.1 j) e)
    (λ (q : IsNewTag name s t). let clash : false ≡ true = sym (ap (λ (o : Option PlainNamed). is_register (option_or o (found_from g name ts))) q.4) ∙ e in cc)
    (m.0 name)
  where
    same : (x y : Option PlainNamed) → y ≡ x → (is_register (found_from g name ts) ≡ true → is_register (found_from f name ss) ≡ true) → is_register (option_or y (found_from g name ts)) ≡ true → is_register (option_or x (found_from f name ss)) ≡ true
    same (Some v) y q again k = sym (ap (λ (o : Option PlainNamed). is_register (option_or o (found_from g name ts))) q) ∙ k
    same None y q again k = again (sym (ap (λ (o : Option PlainNamed). is_register (option_or o (found_from g name ts))) q) ∙ k)

pub step_left : (t u : Taken) (c d : Context) → InStep t c → InStep u d → d.running.addressed ≡ c.running.addressed → TableFits (FileFits (world d)) d.scopes.file → MoreAll c.scopes.inner (tail d.scopes.inner) → InStep (left_scope t u) (left_context d)
step_left t u c d s r same h m = (
  s.0,
  scope_more c.scopes.inner (tail d.scopes.inner) m s.1,
  (
    r.2.0,
    λ name e. let k : Numbered t c.running.addressed name = s.2.1 name (register_back (world d) c.scopes.file d.scopes.file c.scopes.inner (tail d.scopes.inner) name h m e) in
        (k.0, k.1, ap (λ (numbers : List ℕ). among k.0 numbers) same ∙ k.2),
  ),
)

-- trees that declare nothing: behind them the walk over addresses knows the same names

abbrev pub declares : Form → Bool
declares f.Declared = true
declares f.Param = true
declares f.Enumerator = true
declares _ = false

-- each part has a place
abbrev pub Held : Trees → List Place → Type 0
Held none ps = Unit {0}
Held (tree ▹ rest) [] = ⊥
Held (tree ▹ rest) (place ∷ ps) = Held rest ps

unfoldable mutual
  pub Still : Tree → Type 0
  Still (Leaf word) = Unit {0}
  Still (At line) = Unit {0}
  Still (Node form parts) = (declares form ≡ false) × Held parts (places (shape form (count parts))) × AllStill parts

  pub AllStill : Trees → Type 0
  AllStill none = Unit {0}
  AllStill (tree ▹ rest) = Still tree × AllStill rest

pub no_nodes_still : (parts : Trees) → NoNodes parts → AllStill parts
unfolding Still AllStill
no_nodes_still none h = tt
no_nodes_still (Leaf word ▹ rest) h = (tt, no_nodes_still rest h)
no_nodes_still (At line ▹ rest) h = (tt, no_nodes_still rest h)
no_nodes_still (Node _ parts ▹ rest) h = absurd h

-- lists of parts have a place for each

pub rows_held : (place : Place) (parts : Trees) → Held parts (places (rows place (count parts)))
rows_held place none = tt
rows_held place (tree ▹ rest) = rows_held place rest

pub some_held : (place : Place) (parts : Trees) → Held parts (places (some place (count parts)))
some_held place none = tt
some_held place (tree ▹ rest) = rows_held place rest

behind_held : (place : Place) (parts : Trees) → Held parts (places (behind_commas place (count parts)))
behind_held place none = tt
behind_held place (tree ▹ rest) = behind_held place rest

pub commas_held : (place : Place) (parts : Trees) → Held parts (places (commas place (count parts)))
commas_held place none = tt
commas_held place (tree ▹ rest) = behind_held place rest

pub some_commas_held : (place : Place) (parts : Trees) → Held parts (places (some_commas place (count parts)))
some_commas_held place none = tt
some_commas_held place (tree ▹ rest) = behind_held place rest

-- the same names, and as many declared

abbrev pub SameNames : Taken → Taken → Type 0
SameNames t u = (u.names ≡ t.names) × (u.declared ≡ t.declared)

pub left_names : (form : Form) (parts : Trees) (before inner : Taken) → declares form ≡ false → SameNames before inner → SameNames before (left form parts before inner)
unfolding left
left_names form parts before inner e h = search arith fits 100

pub part_names : (scope : Bool) (before inner : Taken) → SameNames before inner → SameNames before (left_part scope before inner)
part_names scope before inner h = search arith fits 100

mutual
  unfolding taken all_taken Still AllStill

  pub still_names : (tree : Tree) (t : Taken) → Still tree → SameNames t (taken tree t)
  still_names (Node form parts) t h =
      left_names form parts t (all_taken parts (places (shape form (count parts))) t) h.0 (all_still_names parts (places (shape form (count parts))) t h.2)
  still_names other t h = (refl, refl)

  pub all_still_names : (parts : Trees) (ps : List Place) (t : Taken) → AllStill parts → SameNames t (all_taken parts ps t)
  all_still_names none ps t h = (refl, refl)
  all_still_names (tree ▹ rest) [] t h = (refl, refl)
  all_still_names (tree ▹ rest) (place ∷ ps) t h =
      let a = part_names (is_scope place) t (taken tree t) (still_names tree t h.0) in
      let b = all_still_names rest ps (left_part (is_scope place) t (taken tree t)) h.1 in
      (b.0 ∙ a.0, b.1 ∙ a.1)

-- a tree that is still, and behind which it is no other declaration that runs

pub record Calm (tree : Tree) : Type 0 where
  pub still : Still tree
  pub typedef : (t : Taken) → (taken tree t).typedef ≡ t.typedef

pub calm_same : (tree : Tree) (t : Taken) → Calm tree → Same t (taken tree t)
calm_same tree t h = let n = still_names tree t h.still in record { names = n.0; typedef = h.typedef t; declared = n.1 }

-- a form behind which the declaration is the one that ran before
abbrev pub restores : Form → Bool
restores f.Specs = false
restores f.Declared = false
restores f.Param = false
restores f.Enumerator = false
restores (f.Unary u.Address) = false
restores _ = true

pub calm_node : (form : Form) (parts : Trees) → declares form ≡ false → restores form ≡ true → Held parts (places (shape form (count parts))) → AllStill parts → Calm (Node form parts)
unfolding Still taken left
calm_node form parts d r h s = record { still = (d, h, s); typedef = λ t. (search arith fits 100) }

pub calm_address : (line : ℕ) (e : Tree) → Calm e → Calm (Node (f.Unary u.Address) (At line ▹ e ▹ none))
unfolding Still AllStill taken all_taken left shape is_scope
calm_address line e h = search arith
