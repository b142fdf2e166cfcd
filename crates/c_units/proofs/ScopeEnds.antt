-- Declarations stand in front of those before them, so those before a scope hold again behind it.
use Rattle.c_units.proofs.Words.Std.{Bool, List, None, Option, Some, [], ap, append_assoc, arith, drop, length, length-append, refl, sym, true, ℕ, ⊤, ◌++◌, ◌-◌, ◌∙◌, ◌∷◌, ◌≡◌}
use Rattle.c_units.proofs.Words.Trees.{At, Form, Node, None', Place, Some', StmtKind, Tree, Trees, count, expr_view, if_tree, is_scope, maybe_expr, name_among, none, places, shape, start_view, stmt_tree, stmt_trees, ◌▹◌}
use Rattle.c_units.proofs.Words.Units.{Binding, Known, Names, Outer, all_behind, all_renamed, back_if, back_to, behind, binding_at, declare, each_renamed, entered, in_turn, inner, inside_params, is_scope_kind, left, left_scope, made, oldest, renamed}
use Rattle.c_tree.specs.Forms as f
use Rattle.c_tree.specs.Places as p
use Rattle.c_tree.specs.declared.statement.StmtKind.TheVariants as k
use Rattle.c_units.proofs.ListTurns.{items_turn}
use Rattle.c_units.proofs.Walks.{anything, at_names, Keeps, tree_kept, parts_kept}

-- some declarations in front of others
abbrev pub Before : List Known → List Known → Type 0
Before outer inner = (more : List Known) × (inner ≡ more ++ outer)

same : (known : List Known) → Before known known
same known = ([], refl)

both : (a b c : List Known) → Before a b → Before b c → Before a c
both a b c h g =
    (g.0 ++ h.0, g.1 ∙ ap (λ (l : List Known). g.0 ++ l) h.1 ∙ sym (append_assoc g.0 h.0 a))

declare_before : (outer : List Known) (name : Option (List ℕ)) (b : Binding) (s : Names) → Before outer s.known → Before outer (declare name b s).known
declare_before outer None b s h = h
declare_before outer (Some name) b s h =
    (record { name = name; binding = b } ∷ h.0, ap (λ (l : List Known). record { name = name; binding = b } ∷ l) h.1)

-- the declarations before a place of a unit stand behind those at a later place
keeps_before : (outer : List Known) → Keeps (λ _. ⊤) (λ u. Before outer u.by.known)
keeps_before outer = record {
  ends = λ u inner h g. h;
  declares = λ parts u d h. declare_before outer (name_among parts) (binding_at u.by) u.by h;
  uses = λ line name u d h. h;
  says = λ first second third u h. h;
}

tree_before : (tree : Tree) (s : Names) → Before s.known (behind tree s).known
tree_before tree s = tree_kept anything (keeps_before s.known) tree none (at_names s) tt (same s.known)

parts_before : (parts : Trees) (ps : List Place) (s : Names) → Before s.known (all_behind parts ps s).known
parts_before parts ps s = parts_kept anything (keeps_before s.known) parts ps (at_names s) tt (same s.known)

turns_before : (parts : Trees) (s : Names) → Before s.known (in_turn parts s).known
turns_before none s = same s.known
turns_before (tree ▹ rest) s =
    both s.known (behind tree s).known (in_turn rest (behind tree s)).known (tree_before tree s) (turns_before rest (behind tree s))

drop_front : (more outer : List Known) → drop (length more) (more ++ outer) ≡ outer
drop_front [] outer = refl
drop_front (k ∷ more) outer = drop_front more outer

-- the oldest declarations are those that it had before
oldest_ones : (outer inner : List Known) → Before outer inner → oldest (length outer) inner ≡ outer
oldest_ones outer inner h =
    let count : length (h.0 ++ outer) - length outer ≡ length h.0 = omega (arith, length-append h.0 outer) in
    ap (λ (l : List Known). oldest (length outer) l) h.1
    ∙ ap (λ (n : ℕ). drop n (h.0 ++ outer)) count
    ∙ drop_front h.0 outer

-- where a scope ends that began here
abbrev pub here : Names → Outer
here s = record { count = length s.known; inside = s.inside }

back_by : (s x : Names) → Before s.known x.known → back_to (here s) x ≡ left_scope s x
back_by s x h = ap (λ (l : List Known). record x { known = l; inside = s.inside }) (oldest_ones s.known x.known h)

pub tree_back : (tree : Tree) (s : Names) → back_to (here s) (behind tree s) ≡ left_scope s (behind tree s)
tree_back tree s = back_by s (behind tree s) (tree_before tree s)

pub turns_back : (parts : Trees) (s : Names) (inside : Bool) → back_to (here s) (in_turn parts (record s { inside = inside })) ≡ left_scope s (in_turn parts (record s { inside = inside }))
turns_back parts s inside =
    back_by s (in_turn parts (record s { inside = inside })) (turns_before parts (record s { inside = inside }))

module _ (line : ℕ) (s x : Names) where
  ends_here : (form : Form) (parts : Trees) → entered form parts s ≡ s → x ≡ inner (Node form parts) s →
      back_to (here s) x ≡ left_scope s (inner (Node form parts) s)
  ends_here form parts e h =
      let ps = places (shape form (count parts)) in
      let same : inner (Node form parts) s ≡ all_behind parts ps s = ap (λ (y : Names). all_behind parts ps y) e in
      ap (λ (y : Names). back_to (here s) y) (h ∙ same) ∙ back_by s (all_behind parts ps s) (parts_before parts ps s)
      ∙ ap (λ (y : Names). left_scope s y) (sym same)

  pub statement_is : (kind : StmtKind) → x ≡ inner (stmt_tree kind line) s →
      back_if (is_scope_kind kind) (here s) x ≡ behind (stmt_tree kind line) s
  unfolding behind left entered stmt_tree if_tree
  statement_is k.Empty h = h
  statement_is (k.Expr e) h = h
  statement_is (k.Block' shape items) h = ends_here f.Block (At line ▹ Node f.Items (stmt_trees items) ▹ none) refl h
  statement_is (k.Delay' shape items) h = ends_here f.Delay (At line ▹ Node f.Items (stmt_trees items) ▹ none) refl h
  statement_is (k.If' e p at kind None') h = ends_here f.If (At line ▹ expr_view e ▹ stmt_tree kind at ▹ none) refl h
  statement_is (k.If' e p at kind (Some' q at2 kind2)) h =
      ends_here f.IfElse (At line ▹ expr_view e ▹ stmt_tree kind at ▹ stmt_tree kind2 at2 ▹ none) refl h
  statement_is (k.While' e p at kind) h = ends_here f.While (At line ▹ expr_view e ▹ stmt_tree kind at ▹ none) refl h
  statement_is (k.Do' p at kind e) h = ends_here f.Do (At line ▹ stmt_tree kind at ▹ expr_view e ▹ none) refl h
  statement_is (k.For' start test step p at kind) h =
      ends_here f.For (At line ▹ start_view start ▹ maybe_expr test ▹ maybe_expr step ▹ stmt_tree kind at ▹ none) refl h
  statement_is (k.Switch' e p at kind) h = ends_here f.Switch (At line ▹ expr_view e ▹ stmt_tree kind at ▹ none) refl h
  statement_is (k.Case' e p at kind) h = h
  statement_is (k.Default' p at kind) h = h
  statement_is k.Break h = h
  statement_is k.Continue h = h
  statement_is (k.Return e) h = h
  statement_is (k.Local specs names) h = h

-- a body, which is a scope
pub body_known : (parts : Trees) (end : ℕ) (s : Names) → back_to (here s) (in_turn parts s) ≡ behind (Node f.Body (Node f.Items parts ▹ At end ▹ none)) s
unfolding behind all_behind left entered shape is_scope
body_known parts end s =
    back_by s (in_turn parts s) (turns_before parts s) ∙ ap (λ (x : Names). left_scope s x) (sym (items_turn parts s).0)

pub body_made : (parts : Trees) (end : ℕ) (s : Names) → renamed (Node f.Body (Node f.Items parts ▹ At end ▹ none)) s ≡ Node f.Body (Node f.Items (each_renamed parts s) ▹ At end ▹ none)
unfolding renamed all_renamed made entered shape is_scope
body_made parts end s = ap (λ (t : Tree). Node f.Body (t ▹ At end ▹ none)) (items_turn parts s).1

params_before : (params : Option Trees) (s : Names) → Before s.known (inside_params params s).known
params_before None s = same s.known
params_before (Some params) s = parts_before params (p.Params ∷ []) (record s { inside = true; mentions = [] })

-- a function, the parameters of which hold in its body alone
pub function_back : (params : Option Trees) (tree : Tree) (s : Names) →
    back_to (here s) (behind tree (inside_params params s)) ≡ left_scope s (behind tree (inside_params params s))
function_back params tree s =
    let inner : Names = inside_params params s in
    back_by s (behind tree inner) (both s.known inner.known (behind tree inner).known (params_before params s) (tree_before tree inner))
