-- Names stand behind those before them, so those before a scope hold again behind it.
use Rattle.std.proofs.Common.{◌≡◌, ℕ, Bool, true, false, List, [], ◌∷◌, ◌++◌, Option, Some, None, take, length, reverse, refl, ap, sym, ◌∙◌, append_assoc}
use Rattle.std.proofs.lemmas.List.{reverse-append, reverse-reverse, length-reverse}
use Rattle.std.proofs.Math.Seq.{take-append_seam}
use Rattle.c_tree.specs.Forms.{Form}
use Rattle.c_tree.specs.Forms as f
use Rattle.c_tree.specs.declared.operator.UnaryOp.TheVariants as u
use Rattle.c_tree.specs.Places.{Place}
use Rattle.c_tree.specs.Tree.{Tree, Trees, Leaf, At, Node, none, ◌▹◌, count}
use Rattle.c_tree.specs.Grammar.{shape}
use Rattle.c_tree.specs.Scopes.{places, is_scope, name_among}
use Rattle.c_tree.specs.declared.statement.StmtKind.{StmtKind}
use Rattle.c_tree.specs.declared.statement.StmtKind.TheVariants as s
use Rattle.c_tree.specs.declared.statement.StmtKind.{None', Some'}
use Rattle.c_tree.specs.StatementView.{expr_view, start_view, maybe_expr, stmt_tree, stmt_trees, if_tree}
use Rattle.elaboration.specs.Addressed.{Known, Taken, taken, all_taken, left, left_part, left_scope, plain_name, number_of, with_number, with_address, with_known, declare}
use Rattle.elab_addressed.specs.Turns.{in_turn, settled, back_to, inside, is_scope_kind, left_if}

-- some names in front of others
abbrev Behind : List Known → List Known → Type 0
Behind outer inner = (more : List Known) × (inner ≡ more ++ outer)

same : (names : List Known) → Behind names names
same names = ([], refl)

one_more : (outer inner : List Known) (k : Known) → Behind outer inner → Behind outer (k ∷ inner)
one_more outer inner k h = (k ∷ h.0, ap (λ (l : List Known). k ∷ l) h.1)

both : (a b c : List Known) → Behind a b → Behind b c → Behind a c
both a b c h g =
    (g.0 ++ h.0, g.1 ∙ ap (λ (l : List Known). g.0 ++ l) h.1 ∙ sym (append_assoc g.0 h.0 a))

known_behind : (outer : List Known) (name : Option (List ℕ)) (number : Option ℕ) (t : Taken) → Behind outer t.names →
    Behind outer (with_known name number t).names
known_behind outer None number t h = h
known_behind outer (Some name) number t h = one_more outer t.names (record { name = name; number = number }) h

declare_behind : (outer : List Known) (typedef : Bool) (name : Option (List ℕ)) (t : Taken) → Behind outer t.names →
    Behind outer (declare typedef name t).names
declare_behind outer true name t h = known_behind outer name None t h
declare_behind outer false name t h = known_behind outer name (Some t.declared) t h

number_behind : (outer : List Known) (number : Option ℕ) (t : Taken) → Behind outer t.names →
    Behind outer (with_number number t).names
number_behind outer None t h = h
number_behind outer (Some n) t h = h

address_behind : (outer : List Known) (name : Option (List ℕ)) (t : Taken) → Behind outer t.names →
    Behind outer (with_address name t).names
address_behind outer None t h = h
address_behind outer (Some name) t h = number_behind outer (number_of t.names name) t h

unary_behind : (parts : Trees) (before inner : Taken) → Behind before.names inner.names →
    Behind before.names (left (f.Unary u.Address) parts before inner).names
unfolding left
unary_behind none before inner h = h
unary_behind (line ▹ none) before inner h = h
unary_behind (line ▹ e ▹ none) before inner h = address_behind before.names (plain_name e) inner h
unary_behind (line ▹ e ▹ other ▹ rest) before inner h = h

left_behind : (form : Form) (parts : Trees) (before inner : Taken) → Behind before.names inner.names →
    Behind before.names (left form parts before inner).names
unfolding left
left_behind f.Body parts before inner h = same before.names
left_behind f.Block parts before inner h = same before.names
left_behind f.Delay parts before inner h = same before.names
left_behind f.If parts before inner h = same before.names
left_behind f.IfElse parts before inner h = same before.names
left_behind f.While parts before inner h = same before.names
left_behind f.Do parts before inner h = same before.names
left_behind f.For parts before inner h = same before.names
left_behind f.Switch parts before inner h = same before.names
left_behind f.FunctionSuffix parts before inner h = same before.names
left_behind f.Specs parts before inner h = h
left_behind f.Declared parts before inner h =
    declare_behind before.names before.typedef (name_among parts) (record inner { typedef = before.typedef }) h
left_behind f.Param parts before inner h =
    known_behind before.names (name_among parts) (Some inner.declared) (record inner { typedef = before.typedef }) h
left_behind f.Enumerator parts before inner h =
    known_behind before.names (name_among parts) None (record inner { typedef = before.typedef }) h
left_behind (f.Unary u.Address) parts before inner h = unary_behind parts before inner h
left_behind other parts before inner h = h

part_behind : (scope : Bool) (before inner : Taken) → Behind before.names inner.names →
    Behind before.names (left_part scope before inner).names
part_behind true before inner h = same before.names
part_behind false before inner h = h

mutual
  unfolding taken all_taken

  tree_behind : (tree : Tree) (t : Taken) → Behind t.names (taken tree t).names
  tree_behind (Leaf word) t = same t.names
  tree_behind (At line) t = same t.names
  tree_behind (Node form parts) t =
      left_behind form parts t (all_taken parts (places (shape form (count parts))) t)
      (parts_behind parts (places (shape form (count parts))) t)

  parts_behind : (parts : Trees) (ps : List Place) (t : Taken) → Behind t.names (all_taken parts ps t).names
  parts_behind none ps t = same t.names
  parts_behind (tree ▹ rest) [] t = same t.names
  parts_behind (tree ▹ rest) (place ∷ ps) t =
      let next : Taken = left_part (is_scope place) t (taken tree t) in
      both t.names next.names (all_taken rest ps next).names
      (part_behind (is_scope place) t (taken tree t) (tree_behind tree t)) (parts_behind rest ps next)

turns_behind : (parts : Trees) (t : Taken) → Behind t.names (in_turn parts t).names
turns_behind none t = same t.names
turns_behind (tree ▹ rest) t =
    both t.names (taken tree t).names (in_turn rest (taken tree t)).names (tree_behind tree t) (turns_behind rest (taken tree t))

-- the first names of a list, its latest first, are those that it had before
first_ones : (outer inner : List Known) → Behind outer inner → reverse (take (length outer) (reverse inner)) ≡ outer
first_ones outer inner h =
    ap (λ (l : List Known). reverse (take (length outer) (reverse l))) h.1
    ∙ ap (λ (l : List Known). reverse (take (length outer) l)) (reverse-append h.0 outer)
    ∙ ap (λ (n : ℕ). reverse (take n (reverse outer ++ reverse h.0))) (sym (length-reverse outer))
    ∙ ap (λ (l : List Known). reverse l) (take-append_seam (reverse outer) (reverse h.0))
    ∙ reverse-reverse outer

back_by : (t x : Taken) → Behind t.names x.names → back_to (length t.names) x ≡ record x { names = t.names }
back_by t x h = ap (λ (l : List Known). record x { names = l }) (first_ones t.names x.names h)

pub back_is : (tree : Tree) (t : Taken) → settled t (back_to (length t.names) (taken tree t)) ≡ left_scope t (taken tree t)
back_is tree t = ap (λ (x : Taken). settled t x) (back_by t (taken tree t) (tree_behind tree t))

pub turns_back : (parts : Trees) (t : Taken) → settled t (back_to (length t.names) (in_turn parts t)) ≡ left_scope t (in_turn parts t)
turns_back parts t = ap (λ (x : Taken). settled t x) (back_by t (in_turn parts t) (turns_behind parts t))

module _ (form : Form) (parts : Trees) (t x : Taken) where
  scope_end : settled t x ≡ settled t (inside (Node form parts) t) →
      settled t (back_to (length t.names) x) ≡ left_scope t (inside (Node form parts) t)
  scope_end h =
      let ps : List Place = places (shape form (count parts)) in
      ap (λ (y : Taken). back_to (length t.names) y) h
      ∙ ap (λ (y : Taken). settled t y) (back_by t (all_taken parts ps t) (parts_behind parts ps t))

module _ (line : ℕ) (t x : Taken) where
  pub statement_is : (kind : StmtKind) → settled t x ≡ settled t (inside (stmt_tree kind line) t) →
      settled t (left_if (is_scope_kind kind) (length t.names) x) ≡ taken (stmt_tree kind line) t
  unfolding taken left stmt_tree if_tree
  statement_is s.Empty h = h
  statement_is (s.Expr e) h = h
  statement_is (s.Block' shape items) h =
      scope_end f.Block (At line ▹ Node f.Items (stmt_trees items) ▹ none) t x h
  statement_is (s.Delay' shape items) h =
      scope_end f.Delay (At line ▹ Node f.Items (stmt_trees items) ▹ none) t x h
  statement_is (s.If' e p at kind None') h =
      scope_end f.If (At line ▹ expr_view e ▹ stmt_tree kind at ▹ none) t x h
  statement_is (s.If' e p at kind (Some' q at2 kind2)) h =
      scope_end f.IfElse (At line ▹ expr_view e ▹ stmt_tree kind at ▹ stmt_tree kind2 at2 ▹ none) t x h
  statement_is (s.While' e p at kind) h =
      scope_end f.While (At line ▹ expr_view e ▹ stmt_tree kind at ▹ none) t x h
  statement_is (s.Do' p at kind e) h =
      scope_end f.Do (At line ▹ stmt_tree kind at ▹ expr_view e ▹ none) t x h
  statement_is (s.For' start test step p at kind) h =
      scope_end f.For (At line ▹ start_view start ▹ maybe_expr test ▹ maybe_expr step ▹ stmt_tree kind at ▹ none) t x h
  statement_is (s.Switch' e p at kind) h =
      scope_end f.Switch (At line ▹ expr_view e ▹ stmt_tree kind at ▹ none) t x h
  statement_is (s.Case' e p at kind) h = h
  statement_is (s.Default' p at kind) h = h
  statement_is s.Break h = h
  statement_is s.Continue h = h
  statement_is (s.Return e) h = h
  statement_is (s.Local specs names) h = h
