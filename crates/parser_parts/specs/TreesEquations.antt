-- Trees of lists with one more behind them. Equations, proved from `trees` and `snoc`.
use Rattle.std.proofs.Common.{◌≡◌, ℕ, List, [], ◌∷◌, ◌++◌, refl, ap}
use Rattle.c_tree.specs.Tree.{Tree, Leaf, ◌▹◌}
use Rattle.c_tree.specs.StatementView.{trees}
use Rattle.c_tree.specs.View.{literal_leaves}
use Rattle.c_tree.specs.Words as w
use Rattle.grammar_reading.specs.Reading.{snoc}

pub trees_behind : {A : Type 0} (view : A → Tree) (list : List A) (last : A) → trees view (list ++ last ∷ []) ≡ snoc (trees view list) (view last)
trees_behind view [] last = refl
trees_behind view (first ∷ list) last = ap (λ parts. view first ▹ parts) (trees_behind view list last)

pub leaves_behind : (list : List (List ℕ)) (last : List ℕ) → literal_leaves (list ++ last ∷ []) ≡ snoc (literal_leaves list) (Leaf (w.Str last))
leaves_behind [] last = refl
leaves_behind (first ∷ list) last = ap (λ parts. Leaf (w.Str first) ▹ parts) (leaves_behind list last)
