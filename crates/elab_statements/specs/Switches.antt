-- The two forms of a switch, and its dispatch on cases in hand.
use Rattle.std.specs.Prelude.{ℕ, ℤ, Bool, true, false, map, List, [], ◌∷◌, ◌++◌, Option, Ok}
use Rattle.core_tree.specs.declared.statements.Atom.{Atom}
use Rattle.core_tree.specs.declared.statements.StmKind.TheVariants.{Jump, Case}
use Rattle.c_tree.specs.declared.statement.StmtKind.{StmtKind}
use Rattle.c_tree.specs.declared.statement.StmtKind.TheVariants as s
use Rattle.c_tree.specs.Tree.{Tree, Trees}
use Rattle.c_decls.specs.declared.refusal.TypeKind.TheVariants.{LeftOut}
use Rattle.c_decls.specs.Refusals.{Checked, refused, then}
use Rattle.elaboration.specs.Context.{Piece, Context, scoped, new_label, with_labels}
use Rattle.elaboration.specs.Statements.{Around, does, default_or, apart, no_cases, in_switch, switch_operand, switched, items, statement}

-- a jump to the label of each case in order, then to the default or the end
abbrev pub case_pieces : ℕ → Atom → List (ℤ × ℕ) → List Piece
case_pieces line a cases = map (λ x. does line (Case a x.0 x.1)) cases

abbrev pub dispatch_of : ℕ → Atom → ℕ → List (ℤ × ℕ) → Option ℕ → List Piece
dispatch_of line a end cases otherwise = case_pieces line a cases ++ does line (Jump (default_or end otherwise)) ∷ []

-- items in a scope of their own
unfoldable pub scoped_list : Trees → Around → Context → Checked Context
scoped_list parts a c = scoped c (λ d. items parts a d)

-- whether a statement of that kind is a block
abbrev pub is_block : StmtKind → Bool
is_block (s.Block' shape items) = true
is_block kind = false

-- a switch whose body is a block of these items, and one whose body is another statement
unfoldable pub switch_block : ℕ → Tree → Trees → Around → Context → Checked Context
switch_block line e parts a c =
    let end = new_label c in
    scoped (with_labels 1 c) (λ d. then (switch_operand line e d) (λ t. then (scoped (no_cases (apart t.0)) (λ b. items parts (in_switch true end t.1.0 a) b)) (λ g. Ok (switched line end t.1.1 t.0 g))))

unfoldable pub switch_other : ℕ → Tree → Tree → Around → Context → Checked Context
switch_other line e s a c =
    let end = new_label c in
    scoped (with_labels 1 c) (λ d. then (switch_operand line e d) (λ t. then (statement s (in_switch false end t.1.0 a) (no_cases (apart t.0))) (λ g. refused LeftOut line)))
