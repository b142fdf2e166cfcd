-- Statements one behind another, delay blocks that are left, and the cases of a switch.
use Rattle.std.proofs.Common.{◌≡◌, ◌<◌, ◌≤◌, ◌+◌, ◌-◌, ℕ, ℤ, zero, suc, List, [], ◌∷◌, ◌++◌, map, Ok, Err, drop, take, length, get_or, refl, ap, sym, ◌∙◌, arith}
use Rattle.std.proofs.Math.Seq.{drop-cons}
use Rattle.std.proofs.lemmas.List.{take_more, map-append}
use Rattle.core_tree.specs.declared.statements.Atom.{Atom}
use Rattle.core_tree.specs.declared.statements.StmKind.TheVariants.{Leave, Case}
use Rattle.c_tree.specs.declared.statement.Stmt.{Stmt}
use Rattle.c_tree.specs.StatementView.{trees, stmt_view}
use Rattle.c_decls.specs.declared.refusal.TypeKind.{TypeKind}
use Rattle.c_decls.specs.declared.refusal.TypeError.{TypeError}
use Rattle.c_decls.specs.declared.refusal.TypeError.TheVariants as e
use Rattle.c_decls.specs.Refusals.{Checked, refused, then, Meets}
use Rattle.elaboration.specs.Context.{Piece, Context, emit}
use Rattle.elaboration.specs.Statements.{Around, statement, items, leaves, does}
use Rattle.elab_statements.specs.Switches.{case_pieces}

module _ (a : Around) where
  open_next : (xs : List Stmt) (i : ℕ) (x : Stmt) (c : Context) → i < length xs →
      items (trees stmt_view (drop i xs)) a c ≡ then (statement (stmt_view (get_or xs i x)) a c) (λ d. items (trees stmt_view (drop (suc i) xs)) a d)
  unfolding items
  open_next xs i x c h = ap (λ (l : List Stmt). items (trees stmt_view l) a c) (drop-cons xs i x h)

  pub items_next : (xs : List Stmt) (i : ℕ) (x : Stmt) (c d : Context) → i < length xs → statement (stmt_view (get_or xs i x)) a c ≡ Ok d →
      items (trees stmt_view (drop (i + 1) xs)) a d ≡ items (trees stmt_view (drop i xs)) a c
  items_next xs i x c d h done =
      let more : drop (i + 1) xs ≡ drop (suc i) xs = ap (λ (n : ℕ). drop n xs) (let next : i + 1 ≡ suc i = omega arith in next) in
      ap (λ (l : List Stmt). items (trees stmt_view l) a d) more
      ∙ sym (open_next xs i x c h
      ∙ ap (λ (answer : Checked Context). then answer (λ e. items (trees stmt_view (drop (suc i) xs)) a e)) done)

  pub items_refused : (xs : List Stmt) (i : ℕ) (x : Stmt) (c : Context) (kind : TypeKind) (line : ℕ) → i < length xs → statement (stmt_view (get_or xs i x)) a c ≡ refused kind line →
      items (trees stmt_view (drop i xs)) a c ≡ refused kind line
  items_refused xs i x c kind line h failed =
      open_next xs i x c h
      ∙ ap (λ (answer : Checked Context). then answer (λ e. items (trees stmt_view (drop (suc i) xs)) a e)) failed

  pub items_end : (xs : List Stmt) (i : ℕ) (c : Context) → length xs ≤ i → items (trees stmt_view (drop i xs)) a c ≡ Ok c
  unfolding items
  items_end [] zero c h = refl
  items_end [] (suc i) c h = refl
  items_end (first ∷ xs) zero c h = absurd (omega (arith, h))
  items_end (first ∷ xs) (suc i) c h = items_end xs i c (omega (arith, h))

  -- the same of a statement in hand
  pub item_next : (xs : List Stmt) (i : ℕ) (x : Stmt) (c d : Context) → i < length xs → x ≡ get_or xs i x → statement (stmt_view x) a c ≡ Ok d →
      items (trees stmt_view (drop (i + 1) xs)) a d ≡ items (trees stmt_view (drop i xs)) a c
  item_next xs i x c d h is done = items_next xs i x c d h (ap (λ (y : Stmt). statement (stmt_view y) a c) (sym is) ∙ done)

  pub item_err : (xs : List Stmt) (i : ℕ) (x : Stmt) (c d : Context) (error : TypeError) (whole : Checked Context) → i < length xs → x ≡ get_or xs i x →
      items (trees stmt_view (drop i xs)) a c ≡ whole →
      Meets (λ (u : Unit {0}). d) (Err error) (statement (stmt_view x) a c) → Meets (λ (u : Unit {0}). d) (Err error) whole
  item_err xs i x c d (e.Bad kind line) whole h is same failed =
      sym same ∙ items_refused xs i x c kind line h (ap (λ (y : Stmt). statement (stmt_view y) a c) (sym is) ∙ failed)
  item_err xs i x c d e.NoMemory whole h is same failed = tt

pub leaves_one : (line n : ℕ) (c : Context) → 0 < n → leaves line (n - 1) (emit line Leave c) ≡ leaves line n c
leaves_one line zero c h = absurd (omega (arith, h))
leaves_one line (suc n) c h =
    let one : suc n - 1 ≡ n = omega arith in
    ap (λ (m : ℕ). leaves line m (emit line Leave c)) one

pub leaves_none : (line n : ℕ) (c : Context) → n ≤ 0 → leaves line n c ≡ c
leaves_none line zero c h = refl
leaves_none line (suc n) c h = absurd (omega (arith, h))

module _ (line : ℕ) (value : Atom) where
  pub cases_next : (xs : List (ℤ × ℕ)) (i : ℕ) (d : ℤ × ℕ) → i < length xs →
      case_pieces line value (take (i + 1) xs) ≡ case_pieces line value (take i xs) ++ does line (Case value (get_or xs i d).0 (get_or xs i d).1) ∷ []
  cases_next xs i d h =
      let piece : ℤ × ℕ → Piece = λ x. does line (Case value x.0 x.1) in
      ap (λ (l : List (ℤ × ℕ)). map piece l) (take_more xs i d h) ∙ map-append piece (take i xs) (get_or xs i d ∷ [])
