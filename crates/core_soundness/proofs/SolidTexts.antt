-- Statements, functions and texts keep whole types, and numbers in range.
use Rattle.core_soundness.proofs.Words.Std.{take, drop, ◌≡◌, ◌≤◌, ◌+◌, ◌*◌, ◌-◌, not, ℕ, zero, suc, ℤ, true, false, All, length, map, List, [], ◌∷◌, ◌++◌, slice_get, sum_by, Option, Some, None, Ok, refl, sym, subst, arith, bytes_eq, pos, All-cons, All-nil, sum_by-append, sum_by-cons, flat_map}
use Rattle.core_soundness.proofs.Words.Trees.{name_of, Tree, Trees, At, Node, none, ◌▹◌}
use Rattle.core_soundness.proofs.Words.Types.{Known, array_layout, number_layout, TagTable, PlainType, Void, IntType, built_ins, numbered_from, line_of, promoted, unconverted, Checked, then, named_in, with_layers, Operand, Number, is_void, is_scalar, is_function, BuiltIn, Operands, Assignment, LeftOut, DeclaredTwice}
use Rattle.core_soundness.proofs.Words.Core.{block_size, IsLayoutOfType, IsNumber, EachFunc, EachStatement, atom_numbers, element_layouts, HasNumbers, given, operands, Core, Func, Mem, Static, Atom, Stm, StmKind, Enter, Leave, Return, Jump, Zero, Loop, Case, Add, Sub, Off, Diff, Copy, Clear, Malloc, Calloc, Realloc}
use Rattle.core_soundness.proofs.Words.Elaborating.{addressed_in, Here, Code, left, Context, Variable, Walked, scoped, entered, emit, here, new_label, with_labels, with_pieces, first_context, Piece, Does, Found, atom_in, valued, convert, convert_integer, tested_value, code_line, unused, function_number, declared_function, specs, layers, constant, walked, elaborated, found, begun, answer_of, is_defined, body_begun, last_answer, body_ended, body, named_definition, definition, external, externals, opened, closed, function_of, variable_static, literal_static, core_of, Numbers, atom_by, numbered, body_of, numbers_of, Around, around_body, below, in_loop, in_switch, in_delay, leaves, leave_to, evaluated, maybe_evaluated, condition, leaves_if_zero, maybe_leaves, apart, behind, return_from, case_of, cased, defaulted, switch_operand_of, switch_operand, no_cases, looped, for_start, statement, items, dispatch, does, cases_of}
use Rattle.core_soundness.proofs.Words.Facts.{HasLayouts, HasRanges, KindIn, AtomIn, AtomsIn, PiecesIn, IsStep, MemsLaid, VariablesLaid, WalkedLaid, Solid, NamedWhole, Whole, TableWhole, Written, AllWritten, AreWritten}
use Rattle.c_types.specs.Types as types
use Rattle.c_types.specs.declared.types.IntType.TheVariants as i
use Rattle.core_tree.specs.declared.statements.Atom.TheVariants as atom
use Rattle.c_tree.specs.Forms as f
use Rattle.c_decls.specs.BuiltIns as names
use Rattle.c_decls.specs.Named as n
use Rattle.core_soundness.proofs.CodeWalk.{quiet_convert_integer}
use Rattle.core_soundness.proofs.Cores.{behind as core_behind, core_sizes}
use Rattle.core_soundness.proofs.Growth.{Led, led_ok, led_refused, led_after, led_unless, led_barred}
use Rattle.core_soundness.proofs.Ranged.{walked_push, K, same_kept, same_widens, wrapped_number, In, in_emit, in_here, pieces_joined, zero_number, spot_atom, convert_integer_in}
use Rattle.core_soundness.proofs.RangedFound.{tested_value_in, tested_solid, CasesIn, WalkedIn, Rises, rises_refl, rises_trans, closed_rises, Full, full_value, full_unused, with_code, rises_more, coded_rises}
use Rattle.core_soundness.proofs.SolidFills.{declared_function_rises, declaration_rises, scalar_value}
use Rattle.core_soundness.proofs.SolidLayers.{constant_rises, entered_solid, specs_rise, layers_rise}
use Rattle.core_soundness.proofs.TagSorts.{SortedName, kinds_refl}
use Rattle.core_soundness.proofs.TypedWhole.{with_layers_whole}
use Rattle.core_soundness.proofs.Walks.{grows_tested, grows_convert_integer}
use Rattle.core_soundness.proofs.WholeTypes.{whole_stays, extends_refl, is_layout}
use Rattle.core_soundness.proofs.Choices.{either_way}
use Rattle.core_soundness.proofs.Scopes.{none_fits, entered_fit, left_fit}
use Rattle.core_soundness.proofs.Statements.{behind_text}

-- statements, functions and texts keep whole types (C99 6.8, 6.9)

-- scopes, and parts one behind another

pub scoped_rises : (c : Context) {x : Checked Context} → Led (Rises (entered c)) x → Led (Rises c) (then x (λ d. Ok (left d)))
scoped_rises c {x} k =
    led_after (Rises c) x
    (λ d q. let r = k d q in
    led_ok (Rises c)
    (with_code c _ (record {
      solid = record { made = r.solid.made; names = left_fit (NamedWhole (K d)) (NamedWhole (K d)) d.scopes r.solid.names; list = r.solid.list; memory = r.solid.memory; result = r.solid.result; statics = r.solid.statics; functions = r.solid.functions };
      more = r.more;
      kinds = record { made = r.kinds.made; sorts = λ ks. let k = r.kinds.sorts (record { names = entered_fit (SortedName c.tags.made) (SortedName c.tags.made) c.scopes ks.names; list = ks.list; bodies = ks.bodies }) in record { names = left_fit (SortedName d.tags.made) (SortedName d.tags.made) d.scopes k.names; list = k.list; bodies = k.bodies } };
    }) r.code r.cases r.walked))

on_led : (a b : Context) (x : Checked Context) → Rises a b → Led (Rises b) x → Led (Rises a) x
on_led a b x r k z q = rises_trans a b z r (k z q)

then_rises : (c : Context) {x : Checked Context} {next : Context → Checked Context} → Led (Rises c) x → ((d : Context) → Rises c d → Led (Rises d) (next d)) → Led (Rises c) (then x next)
then_rises c {x} h k = led_after (Rises c) x (λ d q. on_led c d _ (h d q) (k d (h d q)))

-- other code
coded : (c : Context) (code : Code) → Solid c → (In c → In (record c { code = code })) → Rises c (record c { code = code })
coded c code h k = coded_rises c c code (rises_refl c h) k

labels_rise : (n : ℕ) (c : Context) → Solid c → Rises c (with_labels n c)
labels_rise n c h = coded c (with_labels n c).code h (λ g. g)

here_rises : (label : ℕ) (c : Context) → Solid c → Rises c (here label c)
here_rises label c h = coded c (here label c).code h (λ g. in_here label c g)

emit_rises : (line : ℕ) (kind : StmKind) (c : Context) → Solid c → KindIn kind → Rises c (emit line kind c)
emit_rises line kind c h k = coded c (emit line kind c).code h (λ g. in_emit line kind c g k)

looped_rises : (line head end : ℕ) (c : Context) → Solid c → Rises c (looped line head end c)
looped_rises line head end c h = coded c (looped line head end c).code h (λ g. in_here end (emit line (Loop head) c) (in_emit line (Loop head) c g (tt, tt)))

leaves_rise : (k line : ℕ) (c : Context) → Solid c → Rises c (leaves line k c)
leaves_rise zero line c h = rises_refl c h
leaves_rise (suc k) line c h = rises_trans c (emit line Leave c) _ (emit_rises line Leave c h (tt, tt)) (leaves_rise k line (emit line Leave c) h)

leave_rises : (line delays : ℕ) (o : Option (ℕ × ℕ)) (c : Context) → Solid c → Led (Rises c) (leave_to line delays o c)
leave_rises line delays None c h = led_refused (Rises c)
leave_rises line delays (Some exit) c h =
    let d = leaves line (delays - exit.1) c in
    let r = leaves_rise (delays - exit.1) line c h in led_ok (Rises c) (rises_trans c d _ r (emit_rises line (Jump exit.0) d r.solid (tt, tt)))

-- expressions

evaluated_rises : (e : Tree) (c : Context) → Solid c → Written e → Led (Rises c) (evaluated e c)
evaluated_rises e c h w =
    led_after (Rises c) (unused e (found e Void (opened e c)))
    (λ d q. let r = full_unused e Void c d h w tt q in led_ok (Rises c) (rises_trans c d.0 _ r.rises (closed_rises e d.0 r.rises.solid)))

maybe_evaluated_rises : (es : Trees) (c : Context) → Solid c → AllWritten es → Led (Rises c) (maybe_evaluated es c)
unfolding AllWritten
maybe_evaluated_rises none c h w = led_ok (Rises c) (rises_refl c h)
maybe_evaluated_rises (e ▹ rest) c h w = evaluated_rises e c h w.0

-- with an operand in range
abbrev C1 : Context → Context × Atom → Type 0
C1 c z = Rises c z.0 × (In c → AtomIn z.1)

condition_rises : (e : Tree) (c : Context) → Solid c → Written e → Led (C1 c) (condition e c)
condition_rises e c h w =
    led_after (C1 c) (valued e (found e Void (opened e c)))
    (λ d q. let r = full_value e Void c d h w tt q in
    let x = (tested_value e d).0 in
    let y = rises_more c d.0 x r.rises (tested_solid e d r.rises.solid) (grows_tested (code_line e) d.1.typed.type (atom_in d.1) d.0) (λ g. (tested_value_in e d (r.fits g)).0) in
    led_unless (C1 c) (not (is_scalar d.1.typed.type)) Operands (line_of e)
    (λ t. led_ok (C1 c) (rises_trans c x _ y (closed_rises e x y.solid), λ g. (tested_value_in e d (r.fits g)).1)))

if_zero_rises : (line label : ℕ) (e : Tree) (c : Context) → Solid c → Written e → Led (Rises c) (leaves_if_zero line label e c)
if_zero_rises line label e c h w =
    led_after (Rises c) (condition e c)
    (λ d q. let r = condition_rises e c h w d q in led_ok (Rises c) (record { solid = r.0.solid; more = r.0.more; kinds = r.0.kinds; code = λ g. in_emit line (Zero d.1 label) d.0 (r.0.code g) ((r.1 g, tt), tt); cases = r.0.cases; walked = r.0.walked }))

maybe_leaves_rises : (line label : ℕ) (es : Trees) (c : Context) → Solid c → AllWritten es → Led (Rises c) (maybe_leaves line label es c)
unfolding AllWritten
maybe_leaves_rises line label none c h w = led_ok (Rises c) (rises_refl c h)
maybe_leaves_rises line label (e ▹ rest) c h w = if_zero_rises line label e c h w.0

return_rises : (line delays : ℕ) (es : Trees) (c : Context) → Solid c → AllWritten es → Led (Rises c) (return_from line delays es c)
unfolding AllWritten
return_rises line delays none c h w =
    let r = leaves_rise delays line c h in
    led_unless (Rises c) (not (is_void c.running.answer)) Assignment line
    (λ x. led_ok (Rises c) (record { solid = r.solid; more = r.more; kinds = r.kinds; code = λ g. in_emit line (Return None) (leaves line delays c) (r.code g) (tt, tt); cases = r.cases; walked = r.walked }))
return_rises line delays (e ▹ rest) c h w =
    let begin = opened e c in
    led_after (Rises c) (valued e (found e c.running.answer begin))
    (λ d q. let v = scalar_value e line c.running.answer c d h w.0 h.result q in
    let x = convert line begin.code c.running.answer d.1.typed (atom_in d.1) d.0 in
    let k = rises_trans c x.0 (closed e x.0) v.rises (closed_rises e x.0 v.rises.solid) in
    let f = leaves line delays (closed e x.0) in
    let z = rises_trans c (closed e x.0) f k (leaves_rise delays line (closed e x.0) k.solid) in
    led_unless (Rises c) (is_void c.running.answer) Assignment line
    (λ b. led_barred (Rises c) (unconverted c.running.answer d.1.typed) line
    (led_ok (Rises c) (coded_rises c f (emit line (Return (Some x.1)) f).code z (λ g. in_emit line (Return (Some x.1)) f (z.code g) ((v.fits g, tt), tt))))))

-- switches

cases_put : (place : ℕ) (v : ℤ) (label : ℕ) (xs : List (ℤ × ℕ)) → IsNumber v → CasesIn xs → CasesIn (take place xs ++ ((v, label) ∷ drop place xs))
cases_put zero v label xs n g = (n, g)
cases_put (suc place) v label [] n g = (n, tt)
cases_put (suc place) v label (x ∷ xs) n g = (g.0, cases_put place v label xs n g.1)

cases_code : (line : ℕ) (a : Atom) (xs : List (ℤ × ℕ)) → AtomIn a → CasesIn xs → PiecesIn (map (λ (x : ℤ × ℕ). does line (Case a x.0 x.1)) xs)
cases_code line a [] h g = tt
cases_code line a (x ∷ xs) h g = (((h, tt), g.0), cases_code line a xs h g.1)

dispatch_in : (line : ℕ) (a : Atom) (end : ℕ) (c : Context) → AtomIn a → CasesIn c.running.cases → PiecesIn (dispatch line a end c)
dispatch_in line a end c h g = pieces_joined (map (λ (x : ℤ × ℕ). does line (Case a x.0 x.1)) c.running.cases) _ (cases_code line a c.running.cases h g) ((tt, tt), tt)

case_rises : (line : ℕ) (a : Around) (ty : IntType) (place : ℕ) (v : ℤ) (label : ℕ) (c : Context) → Solid c → Led (Rises c) (case_of line a ty place v label c)
case_rises line a ty place v label c h = search (arith, led_unless, not, led_ok, extends_refl, kinds_refl, cases_put, wrapped_number)

cased_rises : (line : ℕ) (a : Around) (o : Option IntType) (place : ℕ) (v : ℤ) (label : ℕ) (c : Context) → Solid c → Led (Rises c) (cased line a o place v label c)
cased_rises line a o place v label c h = search (arith, led_refused, case_rises) fits 100

defaulted_rises : (line : ℕ) (a : Around) (label : ℕ) (c : Context) → Solid c → Led (Rises c) (defaulted line a label c)
defaulted_rises line a label c h = search (arith, not, led_unless, led_ok, extends_refl, kinds_refl)

abbrev O1 : Context → Context × (IntType × Atom) → Type 0
O1 c z = Rises c z.0 × (In c → AtomIn z.1.1)

operand_of_rises : (line : ℕ) (e : Tree) (o : Operand) (c : Context) (d : Context × Found) → Full c d → Led (O1 c) (switch_operand_of line e o d)
operand_of_rises line e (Number ty) c d r =
    let x = convert_integer line (promoted ty) ty (atom_in d.1) d.0 in
    let grown = grows_convert_integer line (promoted ty) ty (atom_in d.1) d.0 in
    let a = same_widens d.0 x.0 (same_kept d.0 x.0 (quiet_convert_integer line (promoted ty) ty (atom_in d.1) d.0) grown.kept) r.rises.solid in
    let s = λ (g : In c). (let f = r.fits g in convert_integer_in line (promoted ty) ty (atom_in d.1) d.0 f.0 (spot_atom d.1.spot f.1)) in
    let y = rises_more c d.0 x.0 r.rises a grown (λ g. (s g).0) in
    led_ok (O1 c) (rises_trans c x.0 _ y (closed_rises e x.0 y.solid), λ g. (s g).1)
operand_of_rises line e other c d r = led_refused (O1 c)

operand_rises : (line : ℕ) (e : Tree) (c : Context) → Solid c → Written e → Led (O1 c) (switch_operand line e c)
operand_rises line e c h w = search (arith, led_after, operand_of_rises, full_value)

start_rises : (line : ℕ) (tree : Tree) (c : Context) → Solid c → Written tree → Led (Rises c) (for_start line tree c)
unfolding Written AllWritten
start_rises line (Node f.ForNames (words ▹ names ▹ none)) c h w = declaration_rises false line words names c h w.1.0 w.1.1.0
start_rises line (Node f.ForStart (Node f.MaybeExpr e ▹ none)) c h w = maybe_evaluated_rises e c h w.1.0.1
start_rises line tree c h w = led_refused (Rises c)

mutual
  unfolding statement items Written AllWritten

  pub statement_rises : (tree : Tree) (a : Around) (c : Context) → Solid c → Written tree → Led (Rises c) (statement tree a c)
  statement_rises (Node f.Empty parts) a c h w = led_ok (Rises c) (rises_refl c h)
  statement_rises (Node f.Expr (At line ▹ e ▹ none)) a c h w = evaluated_rises e c h w.1.1.0
  statement_rises (Node f.Block (At line ▹ Node f.Items parts ▹ none)) a c h w = scoped_rises c (items_rise parts (below a) (entered c) (entered_solid c h) w.1.1.0.1)
  statement_rises (Node f.Delay (At line ▹ Node f.Items parts ▹ none)) a c h w =
      let d = emit line Enter (entered c) in
      let h0 = entered_solid c h in
      scoped_rises c (on_led (entered c) d _ (emit_rises line Enter (entered c) h0 (tt, tt))
      (then_rises d (items_rise parts (in_delay a) d h0 w.1.1.0.1) (λ e r. led_ok (Rises e) (emit_rises line Leave e r.solid (tt, tt)))))
  statement_rises (Node f.If (At line ▹ e ▹ s ▹ none)) a c h w =
      let end = new_label c in
      let d = entered (with_labels 1 c) in
      on_led c (with_labels 1 c) _ (labels_rise 1 c h)
      (scoped_rises (with_labels 1 c) (then_rises d (if_zero_rises line end e d (entered_solid (with_labels 1 c) h) w.1.1.0)
      (λ t r. then_rises t (scoped_rises t (statement_rises s (below a) (entered t) (entered_solid t r.solid) w.1.1.1.0))
      (λ g m. led_ok (Rises g) (here_rises end g m.solid)))))
  statement_rises (Node f.IfElse (At line ▹ e ▹ s ▹ other ▹ none)) a c h w =
      let end = new_label c in
      let d = entered (with_labels 2 c) in
      on_led c (with_labels 2 c) _ (labels_rise 2 c h)
      (scoped_rises (with_labels 2 c) (then_rises d (if_zero_rises line (end + 1) e d (entered_solid (with_labels 2 c) h) w.1.1.0)
      (λ t r. then_rises t (scoped_rises t (statement_rises s (below a) (entered t) (entered_solid t r.solid) w.1.1.1.0))
      (λ g m. let x = here (end + 1) (emit line (Jump end) g) in
      on_led g x _ (rises_trans g (emit line (Jump end) g) x (emit_rises line (Jump end) g m.solid (tt, tt)) (here_rises (end + 1) (emit line (Jump end) g) m.solid))
      (then_rises x (scoped_rises x (statement_rises other (below a) (entered x) (entered_solid x m.solid) w.1.1.1.1.0))
      (λ y n. led_ok (Rises y) (here_rises end y n.solid)))))))
  statement_rises (Node f.While (At line ▹ e ▹ s ▹ none)) a c h w =
      let head = new_label c in
      let d = entered (with_labels 3 c) in
      let h0 = entered_solid (with_labels 3 c) h in
      on_led c (with_labels 3 c) _ (labels_rise 3 c h)
      (scoped_rises (with_labels 3 c) (on_led d (here head d) _ (here_rises head d h0) (then_rises (here head d) (if_zero_rises line (head + 1) e (here head d) h0 w.1.1.0)
      (λ t r. then_rises t (scoped_rises t (statement_rises s (in_loop (head + 1) (head + 2) a) (entered t) (entered_solid t r.solid) w.1.1.1.0))
      (λ g m. let x = here (head + 2) g in led_ok (Rises g) (rises_trans g x _ (here_rises (head + 2) g m.solid) (looped_rises line head (head + 1) x m.solid)))))))
  statement_rises (Node f.Do (At line ▹ s ▹ e ▹ none)) a c h w =
      let head = new_label c in
      let d = here head (entered (with_labels 3 c)) in
      let h0 = entered_solid (with_labels 3 c) h in
      on_led c (with_labels 3 c) _ (labels_rise 3 c h)
      (scoped_rises (with_labels 3 c) (on_led (entered (with_labels 3 c)) d _ (here_rises head (entered (with_labels 3 c)) h0)
      (then_rises d (scoped_rises d (statement_rises s (in_loop (head + 1) (head + 2) a) (entered d) (entered_solid d h0) w.1.1.0))
      (λ g m. let x = here (head + 2) g in
      on_led g x _ (here_rises (head + 2) g m.solid)
      (then_rises x (if_zero_rises line (head + 1) e x m.solid w.1.1.1.0) (λ t r. led_ok (Rises t) (looped_rises line head (head + 1) t r.solid)))))))
  statement_rises (Node f.For (At line ▹ start ▹ Node f.MaybeExpr test ▹ Node f.MaybeExpr step ▹ s ▹ none)) a c h w =
      let head = new_label c in
      let d = entered (with_labels 3 c) in
      on_led c (with_labels 3 c) _ (labels_rise 3 c h)
      (scoped_rises (with_labels 3 c) (then_rises d (start_rises line start d (entered_solid (with_labels 3 c) h) w.1.1.0)
      (λ x r. on_led x (here head x) _ (here_rises head x r.solid)
      (then_rises (here head x) (maybe_leaves_rises line (head + 1) test (here head x) r.solid w.1.1.1.0.1)
      (λ t p. led_after (Rises t) (maybe_evaluated step (apart t))
      (λ g q. let near = maybe_evaluated_rises step (apart t) p.solid w.1.1.1.1.0.1 g q in
      let y = with_pieces t.code.pieces g in
      on_led t y _ (record { solid = near.solid; more = near.more; kinds = near.kinds; code = λ v. v; cases = near.cases; walked = near.walked })
      (then_rises y (scoped_rises y (statement_rises s (in_loop (head + 1) (head + 2) a) (entered y) (entered_solid y near.solid) w.1.1.1.1.1.0))
      (λ k m. let z = with_pieces (k.code.pieces ++ (Here (head + 2) ∷ g.code.pieces)) k in
      led_ok (Rises k)
      (rises_trans k z _ (coded k z.code m.solid (λ v. pieces_joined k.code.pieces (Here (head + 2) ∷ g.code.pieces) v (near.code tt))) (looped_rises line head (head + 1) z m.solid))))))))))
  statement_rises (Node f.Switch (At line ▹ e ▹ Node f.Block (At at ▹ Node f.Items parts ▹ none) ▹ none)) a c h w =
      let end = new_label c in
      let d0 = entered (with_labels 1 c) in
      on_led c (with_labels 1 c) _ (labels_rise 1 c h)
      (scoped_rises (with_labels 1 c) (led_after (Rises d0) (switch_operand line e d0)
      (λ t q. let r = operand_rises line e d0 (entered_solid (with_labels 1 c) h) w.1.1.0 t q in
      let x = no_cases (apart t.0) in
      let rx : Rises d0 x = record { solid = r.0.solid; more = r.0.more; kinds = r.0.kinds; code = λ v. tt; cases = λ v. tt; walked = λ v. r.0.walked v } in
      led_after (Rises d0) (scoped x (λ b. items parts (in_switch true end t.1.0 a) b))
      (λ g k. let near = scoped_rises x (items_rise parts (in_switch true end t.1.0 a) (entered x) (entered_solid x rx.solid) w.1.1.1.0.1.1.0.1) g k in
      let m = rises_trans d0 x g rx near in
      led_ok (Rises d0) (with_code d0 _ (record { solid = m.solid; more = m.more; kinds = m.kinds })
      (λ v. in_here end (cases_of t.0 (behind (t.0.code.pieces ++ dispatch line t.1.1 end g) g))
      (pieces_joined (t.0.code.pieces ++ dispatch line t.1.1 end g) g.code.pieces (pieces_joined t.0.code.pieces (dispatch line t.1.1 end g) (r.0.code v) (dispatch_in line t.1.1 end g (r.1 v) (near.cases tt))) (m.code v)))
      r.0.cases m.walked)))))
  statement_rises (Node f.Switch (At line ▹ e ▹ s ▹ none)) a c h w =
      let d0 = entered (with_labels 1 c) in
      on_led c (with_labels 1 c) _ (labels_rise 1 c h)
      (scoped_rises (with_labels 1 c) (led_after (Rises d0) (switch_operand line e d0)
      (λ t q. led_after (Rises d0) (statement s (in_switch false (new_label c) t.1.0 a) (no_cases (apart t.0))) (λ g k. led_refused (Rises d0) {kind = LeftOut} {line = line}))))
  statement_rises (Node f.Case (At line ▹ e ▹ s ▹ none)) a c h w =
      led_after (Rises c) (constant e c)
      (λ k q. let r = constant_rises e c h k q in
      let label = new_label k.0 in
      let x = here label (with_labels 1 k.0) in
      on_led c x _ (rises_trans c k.0 x r (coded k.0 x.code r.solid (λ v. in_here label (with_labels 1 k.0) v)))
      (then_rises x (statement_rises s a x r.solid w.1.1.1.0) (λ d m. cased_rises line a a.switched (length c.running.cases) k.1.value label d m.solid)))
  statement_rises (Node f.Default (At line ▹ s ▹ none)) a c h w =
      let label = new_label c in
      let x = here label (with_labels 1 c) in
      on_led c x _ (coded c x.code h (λ v. in_here label (with_labels 1 c) v))
      (then_rises x (statement_rises s a x h w.1.1.0) (λ d m. defaulted_rises line a label d m.solid))
  statement_rises (Node f.Break (At line ▹ none)) a c h w = leave_rises line a.delays a.breaks c h
  statement_rises (Node f.Continue (At line ▹ none)) a c h w = leave_rises line a.delays a.continues c h
  statement_rises (Node f.Return (At line ▹ Node f.MaybeExpr e ▹ none)) a c h w = return_rises line a.delays e c h w.1.1.0.1
  statement_rises (Node f.Local (At line ▹ words ▹ names ▹ none)) a c h w = declaration_rises false line words names c h w.1.1.0 w.1.1.1.0
  statement_rises tree a c h w = led_refused (Rises c)

  pub items_rise : (parts : Trees) (a : Around) (c : Context) → Solid c → AllWritten parts → Led (Rises c) (items parts a c)
  items_rise none a c h w = led_ok (Rises c) (rises_refl c h)
  items_rise (item ▹ rest) a c h w = then_rises c (statement_rises item a c h w.0) (λ d r. items_rise rest a d r.solid w.1)

-- functions

pub begun_rises : (line : ℕ) (addressed : List ℕ) (c : Context) → Solid c → Rises c (begun line addressed c)
begun_rises line addressed c h = search (arith, with_code, extends_refl, kinds_refl)

answer_whole : (k : Known) (type : PlainType) → Whole k type → Whole k (answer_of type)
answer_whole k type h = search arith fits 100

body_begun_rises : (index : ℕ) (type : PlainType) (c : Context) → Solid c → Whole (K c) type → Rises c (body_begun index type c)
body_begun_rises index type c h w = search (arith, with_code, answer_whole, extends_refl, none_fits) fits 100

last_in : (type : PlainType) → AtomsIn (given (last_answer type))
last_in type = search (arith, zero_number) fits 100

walked_in : (xs : List Walked) (x : Walked) → WalkedIn xs → PiecesIn x.code.pieces → WalkedIn (xs ++ x ∷ [])
walked_in [] x h k = (k, tt)
walked_in (y ∷ xs) x h k = (h.0, walked_in xs x h.1 k)

body_ended_rises : (line : ℕ) (name : List ℕ) (type : PlainType) (end : ℕ) (c : Context) → Solid c → In c → Led (Rises c) (body_ended line name type end c)
body_ended_rises line name type end c h g = search (arith, in_emit, last_in, led_unless, led_ok, with_code, walked_push, extends_refl, walked_in)

body_rises : (line : ℕ) (name : List ℕ) (type : PlainType) (tree : Tree) (c : Context) → Solid c → In c → Written tree → Led (Rises c) (body line name type tree c)
unfolding Written AllWritten
body_rises line name type (Node f.Body (Node f.Items parts ▹ At end ▹ none)) c h g w =
    led_after (Rises c) (items parts around_body c) (λ d q. let r = items_rise parts around_body c h w.1.0.1 d q in on_led c d _ r (body_ended_rises line name type end d r.solid (r.code g)))
body_rises line name type tree c h g w = led_refused (Rises c)

named_rises : (line : ℕ) (name : Option (List ℕ)) (type : PlainType) (tree : Tree) (c : Context) → Solid c → In c → Whole (K c) type → Written tree → Led (Rises c) (named_definition line name type tree c)
named_rises line None type tree c h g v w = led_refused (Rises c)
named_rises line (Some name) type tree c h g v w =
    let index = function_number name c in
    led_unless (Rises c) (not (is_function type)) LeftOut line
    (λ x. led_after (Rises c) (declared_function line name type c)
    (λ d q. let r = declared_function_rises line name type c h v d q in
    let y = body_begun index type d in
    let ry = rises_trans c d y r (body_begun_rises index type d r.solid (whole_stays type (K c) (K d) r.more v)) in
    led_unless (Rises c) (is_defined (slice_get d.functions index)) DeclaredTwice line (λ z. on_led c y _ ry (body_rises line name type tree y ry.solid (ry.code g) w))))

definition_rises : (line : ℕ) (words declarator tree : Tree) (c : Context) → Solid c → In c → Written words → Written declarator → Written tree → Led (Rises c) (definition line words declarator tree c)
definition_rises line words declarator tree c h g u v w =
    led_after (Rises c) (specs words c)
    (λ base q. let b = specs_rise words c h u base q in
    led_after (Rises c) (layers declarator base.0)
    (λ l k. let m = layers_rise declarator base.0 b.0.solid v l k in
    led_after (Rises c) (with_layers l.0.tags l.1 base.1)
    (λ type s. let y = with_layers_whole l.0.tags.completed l.0.tags l.1 base.1 refl (whole_stays base.1 (K base.0) (K l.0) m.0.more b.1) m.1 type s in
    on_led c l.0 _ (rises_trans c base.0 l.0 b.0 m.0) (named_rises line (name_of declarator) type tree l.0 m.0.solid (m.0.code (b.0.code g)) y w))))

pub external_rises : (tree : Tree) (c : Context) → Solid c → Written tree → Led (Rises c) (external tree c)
unfolding external Written AllWritten
external_rises (Node f.Function (At line ▹ words ▹ Node f.Declared (declarator ▹ none) ▹ tree ▹ none)) c h w =
    let b = begun_rises line (addressed_in declarator tree) c h in
    on_led c (begun line (addressed_in declarator tree) c) _ b (definition_rises line words declarator tree (begun line (addressed_in declarator tree) c) b.solid tt w.1.1.0 w.1.1.1.0.1.0 w.1.1.1.1.0)
external_rises (Node f.Declaration (At line ▹ words ▹ names ▹ none)) c h w =
    let b = begun_rises line [] c h in
    on_led c (begun line [] c) _ b (declaration_rises true line words names (begun line [] c) b.solid w.1.1.0 w.1.1.1.0)
external_rises tree c h w = led_refused (Rises c)

externals_rise : (unit : Trees) (c : Context) → Solid c → AreWritten unit → Led (Rises c) (externals unit c)
unfolding externals
externals_rise none c h w = led_ok (Rises c) (rises_refl c h)
externals_rise (tree ▹ rest) c h w =
    led_after (Rises c) (external tree c) (λ d q. let r = external_rises tree c h w.0.0 d q in on_led c d _ r (externals_rise rest d r.solid w.1))

-- texts

numbered_whole : (k : Known) (j : ℕ) (bs : List BuiltIn) → TableWhole k (numbered_from j bs)
numbered_whole k j [] name v e = cc
numbered_whole k j (b ∷ bs) name v e =
    either_way (λ y0. (named_in name (numbered_from (j + 1) bs) ≡ Some v → Rattle.core_soundness.specs.Whole.NamedWhole k v) → y0 ≡ Some v → Rattle.core_soundness.specs.Whole.NamedWhole k v) (bytes_eq name (names.name_of b))
    (λ again q. let same : n.BuiltIn j ≡ v = cc in subst (Rattle.core_soundness.specs.Whole.NamedWhole k) same tt)
    (λ again q. again q) (numbered_whole k (j + 1) bs name v) e

pub first_solid : Solid first_context
first_solid = record { made = tt; names = record { file = numbered_whole (K first_context) 0 built_ins; inner = tt }; list = λ name v e. cc; memory = tt; result = tt; statics = tt; functions = tt }

-- what holds at the end of a text
abbrev Ends : Context → Type 0
Ends c = Solid c × WalkedIn c.walked

walked_ends : (unit : Trees) (c : Context) → AreWritten unit → walked unit ≡ Ok c → Ends c
walked_ends unit c w q = let r = externals_rise unit first_context first_solid w c (behind_text unit c q).0 in (r.solid, r.walked tt)

pub walked_solid : (unit : Trees) (c : Context) → AreWritten unit → walked unit ≡ Ok c → Solid c
walked_solid unit c w q = (walked_ends unit c w q).0

pub walked_numbers : (unit : Trees) (c : Context) → AreWritten unit → walked unit ≡ Ok c → WalkedIn c.walked
walked_numbers unit c w q = (walked_ends unit c w q).1

-- layouts of a core

abbrev Laid : Static → Type 0
Laid static = IsLayoutOfType static.layout

mems_all : (ms : List Mem) → MemsLaid ms → All (λ (m : Mem). IsLayoutOfType m.layout) ms
mems_all [] h = All-nil (λ (m : Mem). IsLayoutOfType m.layout)
mems_all (m ∷ ms) h = All-cons (λ (x : Mem). IsLayoutOfType x.layout) m ms h.0 (mems_all ms h.1)

statics_all : (c : Context) (vs : List Variable) (rest : List Static) → VariablesLaid vs → All Laid rest → All Laid (map (variable_static c) vs ++ rest)
statics_all c [] rest h k = k
statics_all c (v ∷ vs) rest h k = All-cons Laid (variable_static c v) (map (variable_static c) vs ++ rest) h.0 (statics_all c vs rest h.1 k)

abbrev bytes_in : List Static → ℕ
bytes_in statics = sum_by (λ (static : Static). block_size static.layout.size) statics

literals_all : (ls : List (List ℕ)) → bytes_in (map literal_static ls) ≤ 67108864 → All Laid (map literal_static ls)
literals_all [] h = All-nil Laid
literals_all (l ∷ ls) h =
    let e = sum_by-cons (λ (static : Static). block_size static.layout.size) (literal_static l) (map literal_static ls) in
    let first : block_size (length l + 1) ≤ 67108864 = head (length l + 1) (bytes_in (map literal_static ls)) (bytes_in (map literal_static (l ∷ ls))) (one (length l)) e h in
    let rest : bytes_in (map literal_static ls) ≤ 67108864 = omega (arith, e, h) in
    All-cons Laid (literal_static l) (map literal_static ls) (is_layout [] (types.Array (types.Int i.Char) (length l + 1)) (array_layout (length l + 1) (number_layout 1)) tt (tt, (number_layout 1, refl, omega (arith, first), omega arith)) refl) (literals_all ls rest)
  where
    one : (k : ℕ) → (k + 1) * 1 ≡ k + 1
    one k = omega arith

    head : (size more total : ℕ) → size * 1 ≡ size → total ≡ block_size (size * 1) + more → total ≤ 67108864 → block_size size ≤ 67108864
    head size more total s e h = let f : block_size (size * 1) ≤ 67108864 = omega (arith, e, h) in subst (λ (k : ℕ). block_size k ≤ 67108864) s f

literals_small : (c : Context) (vs : List Variable) (ls : List (List ℕ)) → bytes_in (map (variable_static c) vs ++ map literal_static ls) ≤ 67108864 → bytes_in (map literal_static ls) ≤ 67108864
literals_small c vs ls h = search (arith, sum_by-append)

each_mems : (c : Context) (xs : List Walked) → WalkedLaid xs → (k : ℕ) (func : Func) → slice_get (map (function_of c) xs) k ≡ Some func → All (λ (m : Mem). IsLayoutOfType m.layout) func.mems
each_mems c [] h k func e = cc
each_mems c (x ∷ xs) h zero func e = let same : function_of c x ≡ func = cc in subst (λ (y : Func). All (λ (m : Mem). IsLayoutOfType m.layout) y.mems) same (mems_all x.running.mems h.0)
each_mems c (x ∷ xs) h (suc k) func e = each_mems c xs h.1 k func e

pub core_layouts : (unit : Trees) (core : Core) (tags : TagTable) → AreWritten unit → elaborated unit ≡ Ok (core, tags) → HasLayouts core
core_layouts unit core tags w q =
    let b = core_behind unit core tags q in
    let h = walked_solid unit b.context w b.is in
    let sizes = core_sizes unit core tags q in
    let small : bytes_in (core_of b.context).statics ≤ 67108864 = subst (λ (x : Core). bytes_in x.statics ≤ 67108864) (sym b.made) sizes.static_bytes in
    subst HasLayouts b.made
    (record {
      mems = λ k func e. each_mems b.context b.context.walked h.functions k func e;
      statics = statics_all b.context b.context.variables (map literal_static b.context.literals) h.statics (literals_all b.context.literals (literals_small b.context b.context.variables b.context.literals small));
    })

-- the numbers of the statements of a core are in range

one_all : {X : Type 0} (P : X → Type 0) (x : X) → P x → All P (x ∷ [])
one_all P x h = All-cons P x [] h (All-nil P)

numbers_all : (n : Numbers) (atoms : List Atom) (own : List ℤ) → AtomsIn atoms → All IsNumber own → All IsNumber (flat_map atom_numbers (map (atom_by n) atoms) ++ own)
numbers_all n [] own h k = k
numbers_all n (atom.Int v ∷ atoms) own h k = All-cons IsNumber v (flat_map atom_numbers (map (atom_by n) atoms) ++ own) h.0 (numbers_all n atoms own h.1 k)
numbers_all n (atom.Reg r ∷ atoms) own h k = numbers_all n atoms own h.1 k
numbers_all n (atom.Null ∷ atoms) own h k = numbers_all n atoms own h.1 k
numbers_all n (atom.Static g ∷ atoms) own h k = numbers_all n atoms own h.1 k
numbers_all n (atom.Mem m ∷ atoms) own h k = numbers_all n atoms own h.1 k

kind_numbers : (n : Numbers) (kind : StmKind) → KindIn kind → HasNumbers (numbered n kind)
unfolding numbered
kind_numbers n (Add r p a s) h = record { numbers = numbers_all n (p ∷ a ∷ []) [] h.0 (All-nil IsNumber); sizes = one_all IsStep s h.1 }
kind_numbers n (Sub r p a s) h = record { numbers = numbers_all n (p ∷ a ∷ []) [] h.0 (All-nil IsNumber); sizes = one_all IsStep s h.1 }
kind_numbers n (Diff r p q s) h = record { numbers = numbers_all n (p ∷ q ∷ []) [] h.0 (All-nil IsNumber); sizes = one_all IsStep s h.1 }
kind_numbers n (Off r p v) h = record { numbers = numbers_all n (p ∷ []) (v ∷ []) h.0 (one_all IsNumber v h.1); sizes = All-nil IsStep }
kind_numbers n (Copy p q v) h = record { numbers = numbers_all n (p ∷ q ∷ []) (v ∷ []) h.0 (one_all IsNumber v h.1); sizes = All-nil IsStep }
kind_numbers n (Clear p v) h = record { numbers = numbers_all n (p ∷ []) (v ∷ []) h.0 (one_all IsNumber v h.1); sizes = All-nil IsStep }
kind_numbers n (Case a v l) h = record { numbers = numbers_all n (a ∷ []) (v ∷ []) h.0 (one_all IsNumber v h.1); sizes = All-nil IsStep }
kind_numbers n (Malloc r k t) h = record { numbers = numbers_all n (k ∷ []) [] h.0 (All-nil IsNumber); sizes = one_all IsStep (pos t.size) h.1.0 }
kind_numbers n (Calloc r m k t) h = record { numbers = numbers_all n (m ∷ k ∷ []) [] h.0 (All-nil IsNumber); sizes = one_all IsStep (pos t.size) h.1.0 }
kind_numbers n (Realloc r p k t) h = record { numbers = numbers_all n (p ∷ k ∷ []) [] h.0 (All-nil IsNumber); sizes = one_all IsStep (pos t.size) h.1.0 }
kind_numbers n (Return None) h = record { numbers = All-nil IsNumber; sizes = All-nil IsStep }
kind_numbers n (Return (Some a)) h = record { numbers = numbers_all n (a ∷ []) [] h.0 (All-nil IsNumber); sizes = All-nil IsStep }
kind_numbers n kind h = record { numbers = numbers_all n (operands kind) [] h.0 (All-nil IsNumber); sizes = All-nil IsStep }

kind_elements : (n : Numbers) (kind : StmKind) → KindIn kind → All IsLayoutOfType (element_layouts (numbered n kind))
unfolding numbered
kind_elements n kind h = search (arith, one_all) fits 100

-- the kind of each statement of a body
kind_at : (P : StmKind → Type 0) (n : Numbers) → ((kind : StmKind) → KindIn kind → P (numbered n kind)) → (pieces : List Piece) → PiecesIn pieces → EachStatement (body_of n pieces) (λ point stm. P stm.kind)
kind_at P n f [] h point stm e = cc
kind_at P n f (Here l ∷ pieces) h point stm e = kind_at P n f pieces h point stm e
kind_at P n f (Does s ∷ pieces) h zero stm e = subst (λ (y : Stm). P y.kind) (first e) (f s.kind h.0)
  where
    first : Some (record { line = s.line; kind = numbered n s.kind }) ≡ Some stm → record { line = s.line; kind = numbered n s.kind } ≡ stm
    first q = cc
kind_at P n f (Does s ∷ pieces) h (suc point) stm e = kind_at P n f pieces h.1 point stm e

function_ranges : (c : Context) (x : Walked) → PiecesIn x.code.pieces → HasRanges (function_of c x)
function_ranges c x h = record {
  numbers = kind_at HasNumbers (numbers_of c x) (kind_numbers (numbers_of c x)) x.code.pieces h;
  elements = kind_at (λ kind. All IsLayoutOfType (element_layouts kind)) (numbers_of c x) (kind_elements (numbers_of c x)) x.code.pieces h;
}

each_ranges : (c : Context) (xs : List Walked) → WalkedIn xs → (i : ℕ) (func : Func) → slice_get (map (function_of c) xs) i ≡ Some func → HasRanges func
each_ranges c [] h i func e = cc
each_ranges c (x ∷ xs) h zero func e = let same : function_of c x ≡ func = cc in subst HasRanges same (function_ranges c x h.0)
each_ranges c (x ∷ xs) h (suc i) func e = each_ranges c xs h.1 i func e

pub core_ranges : (unit : Trees) (core : Core) (tags : TagTable) → AreWritten unit → elaborated unit ≡ Ok (core, tags) → EachFunc core HasRanges
core_ranges unit core tags w q = search (arith, core_behind, each_ranges, walked_numbers)
