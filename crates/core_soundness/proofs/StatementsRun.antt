-- What statements do to what fits (C99 6.8).
use Rattle.core_soundness.proofs.Words.Std.{◌≡◌, ◌≤◌, ◌+◌, ◌-◌, ℕ, ℤ, zero, suc, true, false, not, is_some, map, length, List, [], ◌∷◌, ◌++◌, Option, Some, None, Ok, refl, sym, ap, ◌∙◌, subst, arith}
use Rattle.core_soundness.proofs.Words.Trees.{shape, is_scope, Tree, Trees, At, Node, none, ◌▹◌}
use Rattle.core_soundness.proofs.Words.Types.{PlainType, Void, kind_of, IntType, line_of, promoted, unconverted, converts, Checked, then, unless, tail, Operand, Number, Neither, operand, is_void, is_scalar, LeftOut, Operands, Assignment, CaseTwice, StrayBreak}
use Rattle.core_soundness.proofs.Words.Core.{wrapped, Sort, Integer, Atom, Jump, Zero, Case, Loop, Enter, Leave, Return}
use Rattle.core_soundness.proofs.Words.Elaborating.{Taken, left_scope, taken, all_taken, Here, Context, entered, left, scoped, emit, here, new_label, with_labels, with_pieces, Found, atom_in, valued, convert, convert_integer, tested_value, unused, declaration, constant, found, opened, closed, Around, below, in_loop, in_switch, in_delay, has_case, leaves, leave_to, evaluated, maybe_evaluated, closed_atom, condition, leaves_if_zero, maybe_leaves, apart, returned, return_value, return_from, with_case, cased, defaulted, does, dispatch, switch_operand_of, switch_operand, no_cases, switched, looped, for_start, statement, items}
use Rattle.core_soundness.proofs.Words.Facts.{Spoken, AllSpoken, Written, AllWritten, World, world, Holds, HeldAs, Held, FitsAnswer, PiecesFit, NamesFit, result_sort}
use Rattle.c_tree.specs.Forms as f
use Rattle.elaboration.specs.Addressed.{left as left_node}
use Rattle.core_soundness.proofs.Formed.{Formed, AllFormed}
use Rattle.core_soundness.proofs.Agreeing.{came}
use Rattle.core_soundness.proofs.Calls.{converting_of}
use Rattle.core_soundness.proofs.DeclaredSteps.{declaration_spoken, declaration_in_step}
use Rattle.core_soundness.proofs.Growth.{good, bad, ok_same, never, Led, led_ok, led_after, behind_test}
use Rattle.core_soundness.proofs.Keeping.{keeps_step, evaluated_in_step, leaves_in_step, maybe_evaluated_in_step, maybe_leaves_in_step, constant_in_step, return_from_in_step, evaluated_spoken, leaves_spoken, maybe_evaluated_spoken, maybe_leaves_spoken, return_from_spoken, calm_spoken, operand_calm, calm_step, operand_keeps}
use Rattle.core_soundness.proofs.LayersRun.{constant_runs}
use Rattle.core_soundness.proofs.LocalsRun.{local_declaration_runs}
use Rattle.core_soundness.proofs.Scopes.{all_refl, all_trans}
use Rattle.core_soundness.proofs.Sitting.{Fine, Runs, runs_refl, runs_trans, goes_runs, on_runs, entered_fine, runs_left, closed_goes, Evaluates, evaluates, evaluated_goes, evaluates_unused}
use Rattle.core_soundness.proofs.Sorting.{Grew, grew_refl, grew_trans, holds_grew, pieces_grew, pieces_joined, Goes, goes_refl, goes_trans, goes_emit, goes_here, goes_labels, converted, integer_converted, tested_value_gives, passed, kept_test, unbarred}
use Rattle.core_soundness.proofs.Taking.{Has, Inside, InStep, step_left, Good, ItemsGood, behind_items, as_before, empty_taken, node_good, items_of, items_good, names_good}
use Rattle.core_soundness.proofs.Choices.{not_false}

-- expressions

evaluated_runs : (e : Tree) (c z : Context) → Spoken c.scopes e → NamesFit (world c) c.scopes → evaluated e c ≡ Ok z → Goes c z
evaluated_runs e c z p h q =
    let d = came (unused e (found e Void (opened e c))) q in
    let v = evaluates_unused e Void c d.value p h d.is in
    subst (Goes c) (ok_same (closed e d.value.0) z d.last) (goes_trans c d.value.0 _ (evaluated_goes c e d.value v) (closed_goes e d.value.0 v.line))

maybe_evaluated_runs : (es : Trees) (c z : Context) → AllSpoken c.scopes es → NamesFit (world c) c.scopes → maybe_evaluated es c ≡ Ok z → Goes c z
unfolding AllSpoken
maybe_evaluated_runs none c z p h q = subst (Goes c) (ok_same c z q) (goes_refl c)
maybe_evaluated_runs (e ▹ rest) c z p h q = evaluated_runs e c z p.0 h q

record Tested (c : Context) (z : Context × Atom) : Type 0 where
  goes : Goes c z.0
  holds : Holds (world z.0) Integer z.1

condition_runs : (e : Tree) (c : Context) (z : Context × Atom) → Spoken c.scopes e → NamesFit (world c) c.scopes → condition e c ≡ Ok z → Tested c z
condition_runs e c z p h q =
    let d = came (valued e (found e Void (opened e c))) q in
    let v = evaluates e Void c d.value p h d.is in
    let t = tested_value e d.value in
    let g = tested_value_gives e d.value v.line (not_false (is_scalar d.value.1.typed.type) (kept_test (not (is_scalar d.value.1.typed.type)) Operands (line_of e) (good (closed_atom e t)) z d.last)) v.comes.value in
    let k = closed_goes e t.0 v.line in
    subst (Tested c) (passed (not (is_scalar d.value.1.typed.type)) Operands (line_of e) (closed_atom e t) z d.last)
    (record { goes = goes_trans c d.value.0 _ (evaluated_goes c e d.value v) (goes_trans d.value.0 t.0 _ g.goes k); holds = holds_grew (world t.0) _ Integer t.1 k.grew g.holds })

leaves_runs : (line label : ℕ) (e : Tree) (c z : Context) → 1 ≤ line → Spoken c.scopes e → NamesFit (world c) c.scopes → leaves_if_zero line label e c ≡ Ok z → Goes c z
leaves_runs line label e c z l p h q =
    let d = came (condition e c) q in
    let t = condition_runs e c d.value p h d.is in
    subst (Goes c) (ok_same (emit line (Zero d.value.1 label) d.value.0) z d.last) (goes_trans c d.value.0 _ t.goes (goes_emit line (Zero d.value.1 label) d.value.0 l t.holds))

maybe_leaves_runs : (line label : ℕ) (es : Trees) (c z : Context) → 1 ≤ line → AllSpoken c.scopes es → NamesFit (world c) c.scopes → maybe_leaves line label es c ≡ Ok z → Goes c z
unfolding AllSpoken
maybe_leaves_runs line label none c z l p h q = subst (Goes c) (ok_same c z q) (goes_refl c)
maybe_leaves_runs line label (e ▹ rest) c z l p h q = leaves_runs line label e c z l p.0 h q

leaves_goes : (line k : ℕ) (c : Context) → 1 ≤ line → Goes c (leaves line k c)
leaves_goes line zero c l = goes_refl c
leaves_goes line (suc k) c l = goes_trans c (emit line Leave c) _ (goes_emit line Leave c l tt) (leaves_goes line k (emit line Leave c) l)

leave_to_runs : (line delays : ℕ) (o : Option (ℕ × ℕ)) (c z : Context) → 1 ≤ line → leave_to line delays o c ≡ Ok z → Goes c z
leave_to_runs line delays None c z l q = never _ _ z q
leave_to_runs line delays (Some exit) c z l q =
    let d = leaves line (delays - exit.1) c in
    subst (Goes c) (ok_same (emit line (Jump exit.0) d) z q) (goes_trans c d _ (leaves_goes line (delays - exit.1) c l) (goes_emit line (Jump exit.0) d l tt))

-- `return`

pub return_fits : (answer : Option Sort) (line : ℕ) (a : Option Atom) (c : Context) → 1 ≤ line → Fine c → FitsAnswer (world c) answer a → Runs answer c (emit line (Return a) c)
return_fits answer line a c l g h = search (grew_refl, pieces_joined, all_refl)

returned_runs : (answer : Option Sort) (line delays : ℕ) (a : Option Atom) (c : Context) → 1 ≤ line → Fine c → ((w : World) → Grew (world c) w → FitsAnswer w answer a) → Runs answer c (returned line delays a c)
returned_runs answer line delays a c l g h =
    let d = leaves line delays c in
    let k = leaves_goes line delays c l in
    let r = goes_runs answer c d g k in
    runs_trans answer c d _ r (return_fits answer line a d l r.fine (h (world d) k.grew))

answer_held : (w : World) (answer : Option Sort) (type : PlainType) (a : Atom) → result_sort type ≡ answer → (operand type ≡ Neither → ⊥) → Held w type a → FitsAnswer w answer (Some a)
answer_held w answer type a e n h = search arith fits 100

void_answer : (w : World) (answer : Option Sort) (type : PlainType) → result_sort type ≡ answer → is_void type ≡ true → FitsAnswer w answer None
void_answer w answer type e v = search arith fits 100

return_from_runs : (answer : Option Sort) (line delays : ℕ) (es : Trees) (c z : Context) → 1 ≤ line → AllSpoken c.scopes es → Fine c → result_sort c.running.answer ≡ answer → return_from line delays es c ≡ Ok z → Runs answer c z
unfolding AllSpoken
return_from_runs answer line delays none c z l p g s q =
    subst (Runs answer c) (ok_same (returned line delays None c) z (behind_test (not (is_void c.running.answer)) Assignment line (good (returned line delays None c)) z q))
    (returned_runs answer line delays None c l g (λ w gw. void_answer w answer c.running.answer s (not_false (is_void c.running.answer) (kept_test (not (is_void c.running.answer)) Assignment line (good (returned line delays None c)) z q))))
return_from_runs answer line delays (e ▹ rest) c z l p g s q =
    let begun = opened e c in
    let d = came (valued e (found e c.running.answer begun)) q in
    let k = unbarred (unconverted c.running.answer d.value.1.typed) line (return_value line delays e c.running.answer begun.code d.value) z (behind_test (is_void c.running.answer) Assignment line (converts line c.running.answer d.value.1.typed (return_value line delays e c.running.answer begun.code d.value)) z d.last) in
    let v = evaluates e c.running.answer c d.value p.0 g.names d.is in
    let x = convert line begun.code c.running.answer d.value.1.typed (atom_in d.value.1) d.value.0 in
    let cx = converted line begun c.running.answer d.value.1.typed (atom_in d.value.1) d.value.0 l v.comes.goes v.comes.value.held in
    let y = closed e x.0 in
    let gy = closed_goes e x.0 v.line in
    let gc : Goes c y = goes_trans c begun y v.begun (goes_trans begun x.0 y cx.goes gy) in
    let held = cx.held (converting_of c.running.answer d.value.1.typed k.0) in
    let r = goes_runs answer c y g gc in
    subst (Runs answer c) (ok_same (returned line delays (Some x.1) y) z k.1)
    (runs_trans answer c y _ r (returned_runs answer line delays (Some x.1) y l r.fine
    (λ w gw. answer_held w answer c.running.answer x.1 s (λ o. grind arith) (Rattle.core_soundness.proofs.Sorting.held_grew (world x.0) w c.running.answer x.1 (grew_trans (world x.0) (world y) w gy.grew gw) held))))

-- switches

record Operand_at (c : Context) (z : Context × (IntType × Atom)) : Type 0 where
  goes : Goes c z.0
  holds : Holds (world z.0) Integer z.1.1

operand_of_runs : (line : ℕ) (e : Tree) (o : Operand) (c : Context) (d : Context × Found) (z : Context × (IntType × Atom)) → 1 ≤ line → Evaluates c e d → HeldAs (world d.0) o (atom_in d.1) → switch_operand_of line e o d ≡ Ok z → Operand_at c z
operand_of_runs line e (Number ty) c d z l v h q =
    let x = convert_integer line (promoted ty) ty (atom_in d.1) d.0 in
    let k = integer_converted line (promoted ty) ty (atom_in d.1) d.0 l h in
    let g = closed_goes e x.0 v.line in
    subst (Operand_at c) (ok_same (closed e x.0, (promoted ty, x.1)) z q)
    (record { goes = goes_trans c d.0 _ (evaluated_goes c e d v) (goes_trans d.0 x.0 _ k.goes g); holds = holds_grew (world x.0) _ Integer x.1 g.grew k.holds })
operand_of_runs line e other c d z l v h q = never _ _ z q

operand_runs : (line : ℕ) (e : Tree) (c : Context) (z : Context × (IntType × Atom)) → 1 ≤ line → Spoken c.scopes e → NamesFit (world c) c.scopes → switch_operand line e c ≡ Ok z → Operand_at c z
operand_runs line e c z l p h q =
    let d = came (valued e (found e Void (opened e c))) q in
    let v = evaluates e Void c d.value p h d.is in
    operand_of_runs line e (operand d.value.1.typed.type) c d.value z l v v.comes.value.held d.last

cases_fit : (answer : Option Sort) (w : World) (line : ℕ) (a : Atom) (cases : List (ℤ × ℕ)) → 1 ≤ line → Holds w Integer a → PiecesFit answer w (map (λ x. does line (Case a x.0 x.1)) cases)
cases_fit answer w line a [] l h = tt
cases_fit answer w line a (x ∷ xs) l h = ((l, h), cases_fit answer w line a xs l h)

dispatch_fits : (answer : Option Sort) (w : World) (line : ℕ) (a : Atom) (end : ℕ) (c : Context) → 1 ≤ line → Holds w Integer a → PiecesFit answer w (dispatch line a end c)
dispatch_fits answer w line a end c l h = pieces_joined answer w (map (λ x. does line (Case a x.0 x.1)) c.running.cases) _ (cases_fit answer w line a c.running.cases l h) ((l, tt), tt)

-- what ran apart, put behind what stands before it
switched_runs : (answer : Option Sort) (line end : ℕ) (a : Atom) (t g : Context) → 1 ≤ line → Holds (world t) Integer a → Runs answer (no_cases (apart t)) g → Runs answer t (switched line end a t g)
switched_runs answer line end a t g l h r = record {
  grew = r.grew;
  fine = record { names = r.fine.names; lined = r.fine.lined };
  fits = λ k. pieces_joined answer (world g) ((t.code.pieces ++ dispatch line a end g) ++ g.code.pieces) (Here end ∷ [])
      (pieces_joined answer (world g) (t.code.pieces ++ dispatch line a end g) g.code.pieces
      (pieces_joined answer (world g) t.code.pieces (dispatch line a end g) (pieces_grew answer (world t) (world g) t.code.pieces r.grew k) (dispatch_fits answer (world g) line a end g l (holds_grew (world t) (world g) Integer a r.grew h)))
      (r.fits tt)) (tt, tt);
  answer = r.answer;
  addressed = r.addressed;
  outside = r.outside;
  depth = r.depth;
  params = r.params;
  walked = r.walked;
}

-- the step of a `for`, which ran apart, is put behind its body
for_runs : (answer : Option Sort) (label : ℕ) (t g h : Context) → Fine t → Goes (apart t) g → Runs answer (with_pieces t.code.pieces g) h → Runs answer t (with_pieces (h.code.pieces ++ (Here label ∷ g.code.pieces)) h)
for_runs answer label t g h f s r = record {
  grew = grew_trans (world t) (world g) (world h) s.grew r.grew;
  fine = record { names = r.fine.names; lined = r.fine.lined };
  fits = λ k. pieces_joined answer (world h) h.code.pieces (Here label ∷ g.code.pieces) (r.fits (pieces_grew answer (world t) (world g) t.code.pieces s.grew k))
      (tt, pieces_grew answer (world g) (world h) g.code.pieces r.grew (s.fits answer tt));
  answer = r.answer ∙ step.answer;
  addressed = r.addressed ∙ step.addressed;
  outside = all_trans (tail t.scopes.inner) (tail g.scopes.inner) (tail h.scopes.inner) step.outside r.outside;
  depth = r.depth ∙ step.depth;
  params = λ flat k. r.params (step.depth ∙ flat) (step.params flat k);
  walked = r.walked ∙ step.walked;
}
  where
    step : Runs answer (apart t) g
    step = goes_runs answer (apart t) g (record { names = f.names; lined = f.lined }) s

case_runs : (answer : Option Sort) (line : ℕ) (a : Around) (o : Option IntType) (place : ℕ) (v : ℤ) (label : ℕ) (c z : Context) → Fine c → cased line a o place v label c ≡ Ok z → Runs answer c z
case_runs answer line a None place v label c z g q = never _ _ z q
case_runs answer line a (Some ty) place v label c z g q =
    let value = wrapped (kind_of ty) v in
    let last : Checked Context = good (with_case place value label c) in
    subst (Runs answer c) (passed (has_case value c) CaseTwice line (with_case place value label c) z (behind_test (not a.labelled) LeftOut line (unless (has_case value c) CaseTwice line last) z q))
    (record { grew = grew_refl (world c); fine = record { names = g.names; lined = g.lined }; fits = λ k. k; answer = refl; addressed = refl; outside = all_refl (tail c.scopes.inner); depth = refl; params = λ flat k. k; walked = refl })

default_runs : (answer : Option Sort) (line : ℕ) (a : Around) (label : ℕ) (c z : Context) → Fine c → defaulted line a label c ≡ Ok z → Runs answer c z
default_runs answer line a label c z g q =
    let d : Context = record c { running = record c.running { otherwise = Some label } } in
    let r2 : Checked Context = unless (is_some c.running.otherwise) CaseTwice line (good d) in
    let r1 : Checked Context = unless (not a.labelled) LeftOut line r2 in
    subst (Runs answer c) (passed (is_some c.running.otherwise) CaseTwice line d z (behind_test (not a.labelled) LeftOut line r2 z (behind_test (not (is_some a.switched)) StrayBreak line r1 z q)))
    (record { grew = grew_refl (world c); fine = record { names = g.names; lined = g.lined }; fits = λ k. k; answer = refl; addressed = refl; outside = all_refl (tail c.scopes.inner); depth = refl; params = λ flat k. k; walked = refl })

case_step : (line : ℕ) (a : Around) (o : Option IntType) (place : ℕ) (v : ℤ) (label : ℕ) (u : Taken) (c z : Context) → InStep u c → cased line a o place v label c ≡ Ok z → InStep u z
case_step line a o place v label u c z s q = search (arith, never, passed, behind_test) fits 100

default_step : (line : ℕ) (a : Around) (label : ℕ) (u : Taken) (c z : Context) → InStep u c → defaulted line a label c ≡ Ok z → InStep u z
default_step line a label u c z s q = search (arith, is_some, passed, behind_test) fits 100

looped_goes : (line head end : ℕ) (c : Context) → 1 ≤ line → Goes c (looped line head end c)
looped_goes line head end c l = goes_trans c (emit line (Loop head) c) _ (goes_emit line (Loop head) c l tt) (goes_here end (emit line (Loop head) c))

-- what a statement keeps: addresses are taken of these numbers, and up to here as is known there
pub record Stands_in (answer : Option Sort) (numbers : List ℕ) (t : Taken) (c : Context) : Type 0 where
  pub fine : Fine c
  pub inside : ℕ
  pub deep : length c.scopes.inner ≡ suc inside
  pub sorted : result_sort c.running.answer ≡ answer
  pub step : InStep t c
  pub same : c.running.addressed ≡ numbers

-- what a part does, and what holds behind it
record Went_on (answer : Option Sort) (numbers : List ℕ) (c : Context) (u : Taken) (d : Context) : Type 0 where
  goes : Goes c d
  stands : Stands_in answer numbers u d

pub record Ran_on (answer : Option Sort) (numbers : List ℕ) (c : Context) (u : Taken) (d : Context) : Type 0 where
  pub runs : Runs answer c d
  pub stands : Stands_in answer numbers u d

record Operand_on (answer : Option Sort) (numbers : List ℕ) (c : Context) (u : Taken) (d : Context × (IntType × Atom)) : Type 0 where
  at : Operand_at c d
  stands : Stands_in answer numbers u d.0

-- the same numbers, as the running function has them
inside_at : (one numbers addressed : List ℕ) → addressed ≡ numbers → Inside one numbers → Inside one addressed
inside_at one numbers addressed e i k h = subst (λ (ks : List ℕ). Has ks k) (sym e) (i k h)

-- names of another kind are declared no longer
typed_step : (t u : Taken) (c d : Context) → InStep t c → InStep u d → InStep (as_before t u) d
typed_step t u c d s r = (s.0, r.1, r.2)

module _ (answer : Option Sort) (numbers : List ℕ) where
  stand_on : (t u : Taken) (c d : Context) → Stands_in answer numbers t c → InStep u d → Runs answer c d → Stands_in answer numbers u d
  stand_on t u c d s step r = record { fine = r.fine; inside = s.inside; deep = r.depth ∙ s.deep; sorted = ap result_sort r.answer ∙ s.sorted; step = step; same = r.addressed ∙ s.same }

  -- the same behind what an expression or a label does
  stand_go : (t u : Taken) (c d : Context) → Stands_in answer numbers t c → InStep u d → Goes c d → Stands_in answer numbers u d
  stand_go t u c d s step g = stand_on t u c d s step (goes_runs answer c d s.fine g)

  ran : (t u : Taken) (c d : Context) → Stands_in answer numbers t c → InStep u d → Runs answer c d → Ran_on answer numbers c u d
  ran t u c d s step r = record { runs = r; stands = stand_on t u c d s step r }

  ran_go : (t u : Taken) (c d : Context) → Stands_in answer numbers t c → InStep u d → Goes c d → Ran_on answer numbers c u d
  ran_go t u c d s step g = ran t u c d s step (goes_runs answer c d s.fine g)

  -- what is known, said otherwise; and the context
  ran_to : (u : Taken) (c d z : Context) → good d ≡ Ok z → Ran_on answer numbers c u d → Ran_on answer numbers c u z
  ran_to u c d z e r = subst (λ (x : Context). Ran_on answer numbers c u x) (ok_same d z e) r

  -- behind what runs first
  ran_behind : (u : Taken) (b c d : Context) → Runs answer b c → Ran_on answer numbers c u d → Ran_on answer numbers b u d
  ran_behind u b c d r x = record { runs = runs_trans answer b c d r x.runs; stands = x.stands }

  -- of each success: a part behind another, behind what goes on, and the last of them
  led_then : (u v : Taken) (c : Context) {x : Checked Context} {next : Context → Checked Context} → Led (Ran_on answer numbers c u) x
      → ((d : Context) → Stands_in answer numbers u d → Led (Ran_on answer numbers d v) (next d)) → Led (Ran_on answer numbers c v) (then x next)
  led_then u v c {x} h k = led_after (Ran_on answer numbers c v) x (λ d q z e. let r = h d q in ran_behind v c d z r.runs (k d r.stands z e))

  goes_step : (w : Taken) (c d : Context) → Stands_in answer numbers w c → Goes c d → InStep w d
  goes_step w c d s g = keeps_step w w c d (record { names = refl; typedef = refl; declared = refl }) (record { more = g.more; declared = g.kept.declared; addressed = g.kept.addressed }) s.step

  led_goes : (w v : Taken) (c d : Context) {x : Checked Context} → Stands_in answer numbers w c → Goes c d → (Stands_in answer numbers w d → Led (Ran_on answer numbers d v) x) → Led (Ran_on answer numbers c v) x
  led_goes w v c d s g k z q = ran_behind v c d z (goes_runs answer c d s.fine g) (k (stand_go w w c d s (goes_step w c d s g) g) z q)

  led_done : (w : Taken) (c d : Context) → Stands_in answer numbers w c → Goes c d → Led (Ran_on answer numbers c w) (Ok d)
  led_done w c d s g = led_ok (Ran_on answer numbers c w) (ran_go w w c d s (goes_step w c d s g) g)

  -- a scope of its own
  scoped_led : (t u : Taken) (c : Context) {x : Checked Context} → Stands_in answer numbers t c → (Stands_in answer numbers t (entered c) → Led (Ran_on answer numbers (entered c) u) x)
      → Led (Ran_on answer numbers c (left_scope t u)) (then x (λ d. Ok (left d)))
  scoped_led t u c {x} s k =
      led_after (Ran_on answer numbers c (left_scope t u)) x
      (λ d q. let r = k (record { fine = entered_fine c s.fine; inside = length c.scopes.inner; deep = refl; sorted = s.sorted; step = (s.step.0, tt, s.step.2); same = s.same }) d q in
      led_ok (Ran_on answer numbers c (left_scope t u))
      (ran t (left_scope t u) c (left d) s (step_left t u c d s.step r.stands.step r.runs.addressed r.runs.fine.names.file r.runs.outside) (runs_left answer c d (omega (arith, s.deep)) r.runs)))

  leaves_on : (line label : ℕ) (e : Tree) (t : Taken) (c : Context) → 1 ≤ line → Good numbers t e → Stands_in answer numbers t c → Led (Ran_on answer numbers c (taken e t)) (leaves_if_zero line label e c)
  leaves_on line label e t c l g s z q =
      ran_go t (taken e t) c z s (leaves_in_step line label e t c z g.formed s.step q)
      (leaves_runs line label e c z l (leaves_spoken line label e t c z s.step.2 (inside_at (taken e t).addressed numbers c.running.addressed s.same g.inside) g.written g.formed q) s.fine.names q)

  maybe_leaves_on : (line label : ℕ) (es : Trees) (t : Taken) (c : Context) → 1 ≤ line → Good numbers t (Node f.MaybeExpr es) → Stands_in answer numbers t c
      → Led (Ran_on answer numbers c (taken (Node f.MaybeExpr es) t)) (maybe_leaves line label es c)
  maybe_leaves_on line label es t c l g s z q =
      let u : Taken = taken (Node f.MaybeExpr es) t in
      ran_go t u c z s (maybe_leaves_in_step line label es t c z g.formed s.step q)
      (maybe_leaves_runs line label es c z l (maybe_leaves_spoken line label es t c z s.step.2 (inside_at u.addressed numbers c.running.addressed s.same g.inside) g.written g.formed q) s.fine.names q)

  maybe_evaluated_on : (es : Trees) (t : Taken) (c z : Context) → Good numbers t (Node f.MaybeExpr es) → Stands_in answer numbers t c → maybe_evaluated es c ≡ Ok z → Went_on answer numbers c (taken (Node f.MaybeExpr es) t) z
  maybe_evaluated_on es t c z g s q =
      let u : Taken = taken (Node f.MaybeExpr es) t in
      let k = maybe_evaluated_runs es c z (maybe_evaluated_spoken es t c z s.step.2 (inside_at u.addressed numbers c.running.addressed s.same g.inside) g.written g.formed q) s.fine.names q in
      record { goes = k; stands = stand_go t u c z s (maybe_evaluated_in_step es t c z g.formed s.step q) k }

  operand_on : (line : ℕ) (e : Tree) (t : Taken) (c : Context) (z : Context × (IntType × Atom)) → 1 ≤ line → Good numbers t e → Stands_in answer numbers t c → switch_operand line e c ≡ Ok z → Operand_on answer numbers c (taken e t) z
  operand_on line e t c z l g s q =
      let k = operand_runs line e c z l (calm_spoken e t c s.step.2 (inside_at (taken e t).addressed numbers c.running.addressed s.same g.inside) g.written (operand_calm line e c z g.formed q)) s.fine.names q in
      record { at = k; stands = stand_go t (taken e t) c z.0 s (calm_step e t c z.0 (operand_calm line e c z g.formed q) (operand_keeps line e c z q) s.step) k.goes }

  -- a declaration of locals
  local_on : (line : ℕ) (words names : Tree) (t : Taken) (c z : Context) → 1 ≤ line → Good numbers t (Node f.Local (At line ▹ words ▹ names ▹ none)) → Stands_in answer numbers t c → declaration false line words names c ≡ Ok z
      → Ran_on answer numbers c (taken (Node f.Local (At line ▹ words ▹ names ▹ none)) t) z
  local_on line words names t c z l g s q =
      let u : Taken = taken (Node f.Local (At line ▹ words ▹ names ▹ none)) t in
      ran t u c z s (declaration_in_step line words names t c z g.formed s.step q)
      (local_declaration_runs answer line words names c z l (declaration_spoken line words names t c z g.formed g.written s.step (inside_at u.addressed numbers c.running.addressed s.same g.inside) q) s.fine (s.inside, s.deep) q)

  for_start_on : (line : ℕ) (tree : Tree) (t : Taken) (c z : Context) → 1 ≤ line → Good numbers t tree → Stands_in answer numbers t c → for_start line tree c ≡ Ok z → Ran_on answer numbers c (taken tree t) z
  unfolding taken all_taken left_node shape is_scope Written AllWritten Formed AllFormed
  for_start_on line (Node f.ForNames (words ▹ names ▹ none)) t c z l g s q =
      local_on line words names t c z l (names_good numbers t line words names l g) s q
  for_start_on line (Node f.ForStart (Node f.MaybeExpr es ▹ none)) t c z l g s q =
      let r = maybe_evaluated_on es t c z (node_good numbers f.ForStart (Node f.MaybeExpr es ▹ none) t g).0 s q in
      let u : Taken = taken (Node f.MaybeExpr es) t in
      ran_go t (as_before t u) c z s (typed_step t u c z s.step r.stands.step) r.goes
  for_start_on line tree t c z l g s q = never _ _ z q

  mutual
    unfolding statement items taken all_taken left_node shape is_scope Written AllWritten Formed AllFormed

    pub statement_runs : (tree : Tree) (w : Taken) (a : Around) (c : Context) → Good numbers w tree → Stands_in answer numbers w c → Led (Ran_on answer numbers c (taken tree w)) (statement tree a c)
    statement_runs (Node f.Empty parts) w a c p s z q =
        subst (λ (x : Taken). Ran_on answer numbers c x z) (empty_taken parts w p.formed) (ran_to w c c z q (record { runs = runs_refl answer c s.fine; stands = s }))
    statement_runs (Node f.Expr (At line ▹ e ▹ none)) w a c p s z q =
        let o = (node_good numbers f.Expr (At line ▹ e ▹ none) w p).1.0 in
        let g = evaluated_runs e c z (evaluated_spoken e w c z s.step.2 (inside_at (taken e w).addressed numbers c.running.addressed s.same o.inside) o.written o.formed q) s.fine.names q in
        ran_go w (as_before w (taken e w)) c z s (typed_step w (taken e w) c z s.step (evaluated_in_step e w c z o.formed s.step q)) g
    statement_runs (Node f.Block (At line ▹ Node f.Items parts ▹ none)) w a c p s z q =
        (scoped_led w (behind_items parts w) c s (λ si. items_run parts w (below a) (entered c) (items_of numbers parts w (node_good numbers f.Block (At line ▹ Node f.Items parts ▹ none) w p).1.0) si)) z q
    statement_runs (Node f.Delay (At line ▹ Node f.Items parts ▹ none)) w a c p s z q =
        let o = node_good numbers f.Delay (At line ▹ Node f.Items parts ▹ none) w p in
        let u : Taken = behind_items parts w in
        let d = emit line Enter (entered c) in
        (scoped_led w u c s (λ si. led_goes w u (entered c) d si (goes_emit line Enter (entered c) o.0.written tt)
        (λ sd. led_then u u d (items_run parts w (in_delay a) d (items_of numbers parts w o.1.0) sd) (λ e se. led_done u e (emit line Leave e) se (goes_emit line Leave e o.0.written tt))))) z q
    statement_runs (Node f.If (At line ▹ e ▹ x ▹ none)) w a c p s z q =
        let o = node_good numbers f.If (At line ▹ e ▹ x ▹ none) w p in
        let t1 : Taken = taken e w in
        let u : Taken = left_scope t1 (taken x t1) in
        let end = new_label c in
        let b = with_labels 1 c in
        (led_goes w (left_scope w u) c b s (goes_labels 1 c) (λ sb. scoped_led w u b sb (λ si. led_then t1 u (entered b) (leaves_on line end e w (entered b) o.0.written o.1.0 si)
        (λ t st. led_then u u t (scoped_led t1 (taken x t1) t st (λ sx. statement_runs x t1 (below a) (entered t) o.1.1.0 sx))
        (λ g sg. led_done u g (here end g) sg (goes_here end g)))))) z q
    statement_runs (Node f.IfElse (At line ▹ e ▹ x ▹ other ▹ none)) w a c p s z q =
        let o = node_good numbers f.IfElse (At line ▹ e ▹ x ▹ other ▹ none) w p in
        let t1 : Taken = taken e w in
        let u : Taken = left_scope t1 (taken x t1) in
        let v : Taken = left_scope u (taken other u) in
        let end = new_label c in
        let b = with_labels 2 c in
        (led_goes w (left_scope w v) c b s (goes_labels 2 c) (λ sb. scoped_led w v b sb (λ si. led_then t1 v (entered b) (leaves_on line (end + 1) e w (entered b) o.0.written o.1.0 si)
        (λ t st. led_then u v t (scoped_led t1 (taken x t1) t st (λ sx. statement_runs x t1 (below a) (entered t) o.1.1.0 sx))
        (λ g sg. let j = emit line (Jump end) g in
        let m = here (end + 1) j in
        led_goes u v g m sg (goes_trans g j m (goes_emit line (Jump end) g o.0.written tt) (goes_here (end + 1) j))
        (λ sm. led_then v v m (scoped_led u (taken other u) m sm (λ so. statement_runs other u (below a) (entered m) o.1.1.1.0 so))
        (λ h sh. led_done v h (here end h) sh (goes_here end h)))))))) z q
    statement_runs (Node f.While (At line ▹ e ▹ x ▹ none)) w a c p s z q =
        let o = node_good numbers f.While (At line ▹ e ▹ x ▹ none) w p in
        let t1 : Taken = taken e w in
        let u : Taken = left_scope t1 (taken x t1) in
        let head = new_label c in
        let b = with_labels 3 c in
        let y = here head (entered b) in
        (led_goes w (left_scope w u) c b s (goes_labels 3 c) (λ sb. scoped_led w u b sb (λ si. led_goes w u (entered b) y si (goes_here head (entered b))
        (λ sy. led_then t1 u y (leaves_on line (head + 1) e w y o.0.written o.1.0 sy)
        (λ t st. led_then u u t (scoped_led t1 (taken x t1) t st (λ sx. statement_runs x t1 (in_loop (head + 1) (head + 2) a) (entered t) o.1.1.0 sx))
        (λ g sg. let m = here (head + 2) g in
        led_done u g (looped line head (head + 1) m) sg (goes_trans g m _ (goes_here (head + 2) g) (looped_goes line head (head + 1) m o.0.written)))))))) z q
    statement_runs (Node f.Do (At line ▹ x ▹ e ▹ none)) w a c p s z q =
        let o = node_good numbers f.Do (At line ▹ x ▹ e ▹ none) w p in
        let u : Taken = left_scope w (taken x w) in
        let v : Taken = taken e u in
        let head = new_label c in
        let b = with_labels 3 c in
        let y = here head (entered b) in
        (led_goes w (left_scope w v) c b s (goes_labels 3 c) (λ sb. scoped_led w v b sb (λ si. led_goes w v (entered b) y si (goes_here head (entered b))
        (λ sy. led_then u v y (scoped_led w (taken x w) y sy (λ sx. statement_runs x w (in_loop (head + 1) (head + 2) a) (entered y) o.1.0 sx))
        (λ g sg. let m = here (head + 2) g in
        led_goes u v g m sg (goes_here (head + 2) g)
        (λ sm. led_then v v m (leaves_on line (head + 1) e u m o.0.written o.1.1.0 sm)
        (λ t st. led_done v t (looped line head (head + 1) t) st (looped_goes line head (head + 1) t o.0.written)))))))) z q
    statement_runs (Node f.For (At line ▹ start ▹ Node f.MaybeExpr test ▹ Node f.MaybeExpr step ▹ x ▹ none)) w a c p s z q =
        let o = node_good numbers f.For (At line ▹ start ▹ Node f.MaybeExpr test ▹ Node f.MaybeExpr step ▹ x ▹ none) w p in
        let w1 : Taken = taken start w in
        let w2 : Taken = taken (Node f.MaybeExpr test) w1 in
        let w3 : Taken = taken (Node f.MaybeExpr step) w2 in
        let u : Taken = left_scope w3 (taken x w3) in
        let head = new_label c in
        let b = with_labels 3 c in
        (led_goes w (left_scope w u) c b s (goes_labels 3 c) (λ sb. scoped_led w u b sb
        (λ si. led_then w1 u (entered b) (λ y k. for_start_on line start w (entered b) y o.0.written o.1.0 si k)
        (λ y sy. led_goes w1 u y (here head y) sy (goes_here head y)
        (λ sh. led_then w2 u (here head y) (maybe_leaves_on line (head + 1) test w1 (here head y) o.0.written o.1.1.0 sh)
        (λ t st. led_after (Ran_on answer numbers t u) (maybe_evaluated step (apart t))
        (λ g k. let sa : Stands_in answer numbers w2 (apart t) = record { fine = record { names = st.fine.names; lined = st.fine.lined }; inside = st.inside; deep = st.deep; sorted = st.sorted; step = st.step; same = st.same } in
        let ge = maybe_evaluated_on step w2 (apart t) g o.1.1.1.0 sa k in
        let sg = ge.stands in
        let y2 = with_pieces t.code.pieces g in
        let sw : Stands_in answer numbers w3 y2 = record { fine = record { names = sg.fine.names; lined = sg.fine.lined }; inside = sg.inside; deep = sg.deep; sorted = sg.sorted; step = sg.step; same = sg.same } in
        led_after (Ran_on answer numbers t u) (scoped y2 (λ v. statement x (in_loop (head + 1) (head + 2) a) v))
        (λ h j. let r = scoped_led w3 (taken x w3) y2 sw (λ sx. statement_runs x w3 (in_loop (head + 1) (head + 2) a) (entered y2) o.1.1.1.1.0 sx) h j in
        let bodied = with_pieces (h.code.pieces ++ (Here (head + 2) ∷ g.code.pieces)) h in
        let made = looped line head (head + 1) bodied in
        led_ok (Ran_on answer numbers t u)
        (ran w2 u t made st r.stands.step (on_runs answer t bodied made (for_runs answer (head + 2) t g h st.fine ge.goes r.runs) (looped_goes line head (head + 1) bodied o.0.written))))))))))) z q
    statement_runs (Node f.Switch (At line ▹ e ▹ Node f.Block (At at ▹ Node f.Items parts ▹ none) ▹ none)) w a c p s z q =
        let o = node_good numbers f.Switch (At line ▹ e ▹ Node f.Block (At at ▹ Node f.Items parts ▹ none) ▹ none) w p in
        let u : Taken = taken e w in
        let v : Taken = left_scope u (behind_items parts u) in
        let end = new_label c in
        let b = with_labels 1 c in
        (led_goes w (left_scope w v) c b s (goes_labels 1 c) (λ sb. scoped_led w v b sb
        (λ si. led_after (Ran_on answer numbers (entered b) v) (switch_operand line e (entered b))
        (λ t k. let y = no_cases (apart t.0) in
        let at_operand = operand_on line e w (entered b) t o.0.written o.1.0 si k in
        let st = at_operand.stands in
        let sa : Stands_in answer numbers u y = record { fine = record { names = st.fine.names; lined = st.fine.lined }; inside = st.inside; deep = st.deep; sorted = st.sorted; step = st.step; same = st.same } in
        led_after (Ran_on answer numbers (entered b) v) (scoped y (λ d. items parts (in_switch true end t.1.0 a) d))
        (λ g j. let r = scoped_led u (behind_items parts u) y sa (λ sx. items_run parts u (in_switch true end t.1.0 a) (entered y) (items_of numbers parts u (node_good numbers f.Block (At at ▹ Node f.Items parts ▹ none) u o.1.1.0).1.0) sx) g j in
        let made = switched line end t.1.1 t.0 g in
        led_ok (Ran_on answer numbers (entered b) v)
        (ran w v (entered b) made si r.stands.step (runs_trans answer (entered b) t.0 made (goes_runs answer (entered b) t.0 si.fine at_operand.at.goes) (switched_runs answer line end t.1.1 t.0 g o.0.written at_operand.at.holds r.runs)))))))) z q
    statement_runs (Node f.Switch (At line ▹ e ▹ x ▹ none)) w a c p s z q =
        let end = new_label c in
        let b = with_labels 1 c in
        let v = came (then (switch_operand line e (entered b)) (λ t. then (statement x (in_switch false end t.1.0 a) (no_cases (apart t.0))) (λ g. bad (record { kind = LeftOut; line = line })))) q in
        let t = came (switch_operand line e (entered b)) v.is in
        let g = came (statement x (in_switch false end t.value.1.0 a) (no_cases (apart t.value.0))) {next = λ g. bad (record { kind = LeftOut; line = line })} t.last in
        never _ _ v.value g.last
    statement_runs (Node f.Case (At line ▹ e ▹ x ▹ none)) w a c p s z q =
        let o = node_good numbers f.Case (At line ▹ e ▹ x ▹ none) w p in
        let u : Taken = taken x (taken e w) in
        let k = came (constant e c) q in
        let label = new_label k.value.0 in
        let b = here label (with_labels 1 k.value.0) in
        let d = came (statement x a b) k.last in
        let r1 = constant_runs answer e c c (runs_refl answer c s.fine) k.value k.is in
        let r2 = on_runs answer c k.value.0 b r1 (goes_trans k.value.0 (with_labels 1 k.value.0) b (goes_labels 1 k.value.0) (goes_here label (with_labels 1 k.value.0))) in
        let r3 = statement_runs x (taken e w) a b o.1.1.0 (stand_on w (taken e w) c b s (constant_in_step e w c k.value o.1.0.formed s.step k.is) r2) d.value d.is in
        (ran w (as_before w u) c z s (typed_step w u c z s.step (case_step line a a.switched (length c.running.cases) k.value.1.value label u d.value z r3.stands.step d.last))
        (runs_trans answer c b z r2 (runs_trans answer b d.value z r3.runs (case_runs answer line a a.switched (length c.running.cases) k.value.1.value label d.value z r3.runs.fine d.last))))
    statement_runs (Node f.Default (At line ▹ x ▹ none)) w a c p s z q =
        let label = new_label c in
        let b = here label (with_labels 1 c) in
        let u : Taken = taken x w in
        let d = came (statement x a b) q in
        let g = goes_trans c (with_labels 1 c) b (goes_labels 1 c) (goes_here label (with_labels 1 c)) in
        let r = statement_runs x w a b (node_good numbers f.Default (At line ▹ x ▹ none) w p).1.0 (stand_go w w c b s s.step g) d.value d.is in
        (ran w (as_before w u) c z s (typed_step w u c z s.step (default_step line a label u d.value z r.stands.step d.last))
        (runs_trans answer c b z (goes_runs answer c b s.fine g) (runs_trans answer b d.value z r.runs (default_runs answer line a label d.value z r.runs.fine d.last))))
    statement_runs (Node f.Break (At line ▹ none)) w a c p s z q =
        let g = leave_to_runs line a.delays a.breaks c z p.written.1.0 q in
        ran_go w w c z s (goes_step w c z s g) g
    statement_runs (Node f.Continue (At line ▹ none)) w a c p s z q =
        let g = leave_to_runs line a.delays a.continues c z p.written.1.0 q in
        ran_go w w c z s (goes_step w c z s g) g
    statement_runs (Node f.Return (At line ▹ Node f.MaybeExpr es ▹ none)) w a c p s z q =
        let o = node_good numbers f.Return (At line ▹ Node f.MaybeExpr es ▹ none) w p in
        let u : Taken = taken (Node f.MaybeExpr es) w in
        let r = return_from_runs answer line a.delays es c z o.0.written
        (return_from_spoken line a.delays es w c z s.step.2 (inside_at u.addressed numbers c.running.addressed s.same o.1.0.inside) o.1.0.written o.1.0.formed q) s.fine s.sorted q in
        (ran w (as_before w u) c z s (typed_step w u c z s.step (return_from_in_step line a.delays es w c z o.1.0.formed s.step q)) r)
    statement_runs (Node f.Local (At line ▹ words ▹ names ▹ none)) w a c p s z q = local_on line words names w c z p.written.1.0 p s q
    statement_runs tree w a c p s z q = never _ _ z q

    pub items_run : (parts : Trees) (w : Taken) (a : Around) (c : Context) → ItemsGood numbers w parts → Stands_in answer numbers w c → Led (Ran_on answer numbers c (behind_items parts w)) (items parts a c)
    items_run none w a c p s z q = ran_to w c c z q (record { runs = runs_refl answer c s.fine; stands = s })
    items_run (item ▹ rest) w a c g s z q =
        let o = items_good numbers w item rest g in
        let u : Taken = behind_items rest (taken item w) in
        led_then (taken item w) u c (statement_runs item w a c o.0 s) (λ d sd. items_run rest (taken item w) a d o.1 sd) z q
