-- What statements and external declarations do to what is known.
use Rattle.core_soundness.proofs.Words.Std.{◌≡◌, ◌⊎◌, ◌≤◌, ◌<◌, ◌+◌, ◌-◌, ℕ, ℤ, Bool, true, false, not, length, List, [], ◌∷◌, ◌++◌, take, drop, Option, Some, None, Ok, refl, sym, ap, ◌∙◌, subst, arith, inl, inr, ⊎_elim, append_assoc, append-nil, true≢false, sum_by, slice_get, slice_set, bytes_eq, codes, ltb-false, sum_by-append, is_some, nat_lt}
use Rattle.core_soundness.proofs.Words.Trees.{name_of, Tree, Trees, At, Node, none, ◌▹◌}
use Rattle.core_soundness.proofs.Words.Types.{kind_of, PlainType, IntType, built_ins, numbered_from, name_of as name_of_built_in, Checked, refused, then, named_in, with_layers, is_function, BuiltIn, StrayBreak, CaseTwice, LeftOut, DeclaredTwice, NoMain, ProgramTooLong}
use Rattle.core_soundness.proofs.Words.Core.{wrapped, Atom, Jump, Loop, Enter, Leave, Return}
use Rattle.core_soundness.proofs.Words.Elaborating.{addressed_in, Piece, Does, Here, Code, Context, entered, left, scoped, emit, here, new_label, with_labels, with_pieces, no_code, Declared, Walked, first_context, declaration, function_number, declared_function, constant, specs, layers, walked, begun, define, params_of, is_defined, body_begun, last_answer, piece_length, body_ended, body, defined, named_definition, definition, external, externals, calls_defined, is_main, Around, below, in_loop, in_switch, in_delay, leave_to, evaluated, maybe_evaluated, leaves_if_zero, maybe_leaves, apart, has_case, with_case, cased, defaulted, dispatch, default_or, switch_operand, no_cases, switched, looped, for_start, statement, items, around_body}
use Rattle.c_tree.specs.Forms as f
use Rattle.c_tree.specs.Tree as t
use Rattle.c_decls.specs.Named as n
use Rattle.core_soundness.proofs.Declaring.{passes_refl, constant_passes, tail_depth, declaration_declares, specs_passes, layers_pass, introduced}
use Rattle.core_soundness.proofs.Flows.{Marks, Way, way_on, IsWay, Stands, Leads, AreEarlier, earlier_less, Fragment, anywhere, in_scope, with_ways, stm_at, Targets, Placed, Flows, targets_append, targets_map, placed_left, flows_append, agree_refl}
use Rattle.core_soundness.proofs.Growth.{Led, led_ok, led_refused, led_after, led_unless, Stays, Passes, stays_trans, stays_beside, Counted, passes_trans, ok_same, good, never}
use Rattle.core_soundness.proofs.Parts.{Part, part_trans, part_ways, part_closed, ways_more, one_way, looped_code, ways_of, ways, IsOutside, Fits, fits_more, fits_below, fits_delay, fits_loop, fits_switch, IsCase, HasLabel, Among, same_labels, Walks, walks_trans, passes_part, part_anywhere, walks_passes, walks_scoped, part_below, below_labels, evaluated_passes, maybe_evaluated_passes, Tests, leaves_tests, maybe_tests, out_walks, return_from_walks, switch_operand_passes, case_among, loop_rest, for_fragment, do_fragment, label_fragment, dispatch_fragment}
use Rattle.core_soundness.proofs.Scopes.{Safe, left_safe, entered_safe, tied_refl, tied_trans, SafeTable, Named, Strict, defined_named, defined_here, pushed_named, pushed_strict}
use Rattle.core_soundness.proofs.Agreeing.{came}
use Rattle.core_soundness.proofs.Sorting.{passed, kept_test}
use Rattle.core_soundness.proofs.Choices.{either_way, some_same, not_false}

-- what statements do to what is known

-- what stays is seen beside code
pub stays_recoded : (c d : Context) (x y : Code) → Stays (record c { code = x }) d → Stays c (record d { code = y })
stays_recoded c d x y s = grind arith

-- the same, out of a scope
stays_out : (c d : Context) (x y : Code) → Stays (entered (record c { code = x })) d → Stays c (left (record d { code = y }))
stays_out c d x y s = search (arith, left_safe, tail_depth)

-- a statement in a scope of its own
scoped_walks : (a : Around) (c : Context) (inside : Context → Checked Context) → Safe c.scopes → (Safe (entered c).scopes → Led (Walks a (entered c)) (inside (entered c))) → Led (Walks a c) (scoped c inside)
scoped_walks a c inside s h = search (arith, led_after, led_ok, walks_scoped, entered_safe)

-- where the labels of a switch are those before
walks_same : (a : Around) (c d : Context) → Part (ways a) a.delays c.code d.code [] → ((l : ℕ) → HasLabel l d.running → HasLabel l c.running) → Stays c d → Walks a c d
walks_same a c d p h s = record { entries = []; part = p; cases = λ l k. inl (h l k); unlabelled = λ e. refl; stays = s }

block_walks : (a : Around) (c d : Context) → Walks (below a) c d → Walks a c d
block_walks a c d w = walks_same a c d (part_below a c d w) (below_labels (below a) c d refl w) w.stays

delay_walks : (a : Around) (line : ℕ) (c e : Context) → Walks (in_delay a) (emit line Enter c) e → Walks a c (emit line Leave e)
delay_walks a line c e w =
    let p : Part (ways a) (a.delays + 1) (emit line Enter c).code e.code [] = subst (Part (ways a) (a.delays + 1) (emit line Enter c).code e.code) (w.unlabelled refl) w.part in
    walks_same a c (emit line Leave e)
    (record {
      pieces = Does (stm_at line Enter) ∷ (p.pieces ++ (Does (stm_at line Leave) ∷ []));
      code = ap (λ (x : List Piece). x ++ (Does (stm_at line Leave) ∷ [])) p.code ∙ simp append_assoc;
      more = p.more;
      fragment = in_scope (ways a) a.delays c.code.labels e.code.labels line line p.pieces p.fragment;
    })
    (below_labels (in_delay a) (emit line Enter c) e refl w)
    (stays_recoded c e _ _ w.stays)

-- `if`

if_walks : (a : Around) (c t g : Context) → Fits c.code.labels a → Tests c.code.labels (entered (with_labels 1 c)) t → Walks (below a) t g → Walks a c (left (here c.code.labels g))
if_walks a c t g fit test w =
    let l : ℕ = c.code.labels in
    let n : ℕ = a.delays in
    let one : List Way = way_on l n ∷ ways a in
    let small : l < l + 1 = omega arith in
    let early = earlier_less l (l + 1) (ways a) (omega arith) fit.early in
    let first = part_ways (way_on l n ∷ []) one n (with_labels 1 c).code t.code [] (λ low high x f. one_way (way_on l n) (ways a) n low high x [] f) (test.part n) in
    let second = part_ways (ways a) one n t.code g.code [] (λ low high x f. ways_more (way_on l n) (ways a) n low high x [] f) (part_below a t g w) in
    let both = part_trans one n (with_labels 1 c).code t.code g.code [] [] (small, early) first second in
    walks_same a c (left (here l g)) (part_closed (ways a) n c.code (with_labels 1 c).code g.code l refl refl (omega arith) fit.early both)
    (λ k h. same_labels c.running t.running test.running.0 test.running.1 k (below_labels (below a) t g refl w k h))
    (stays_out c g (with_labels 1 c).code (here l g).code (stays_trans (entered (with_labels 1 c)) t g test.stays w.stays))

-- `if` with `else`

else_walks : (a : Around) (line : ℕ) (c t g h : Context) → Fits c.code.labels a → Tests (c.code.labels + 1) (entered (with_labels 2 c)) t → Walks (below a) t g
    → Walks (below a) (here (c.code.labels + 1) (emit line (Jump c.code.labels) g)) h → Walks a c (left (here c.code.labels h))
else_walks a line c t g h fit test w v =
    let l : ℕ = c.code.labels in
    let n : ℕ = a.delays in
    let from = (with_labels 2 c).code in
    let one : Code = record c.code { labels = l + 1 } in
    let xs : List Way = way_on l n ∷ ways a in
    let ys : List Way = way_on (l + 1) n ∷ xs in
    let jumped = emit line (Jump l) g in
    let y = here (l + 1) jumped in
    let small : l < l + 1 = omega arith in
    let small2 : l < l + 2 = omega arith in
    let small3 : l + 1 < l + 2 = omega arith in
    let early1 = earlier_less l (l + 1) (ways a) (omega arith) fit.early in
    let early2 = earlier_less l (l + 2) (ways a) (omega arith) fit.early in
    let first = part_ways (way_on (l + 1) n ∷ []) ys n from t.code [] (λ low high x f. one_way (way_on (l + 1) n) xs n low high x [] f) (test.part n) in
    let second = part_ways (ways a) ys n t.code g.code [] (λ low high x f. ways_more (way_on (l + 1) n) xs n low high x [] (ways_more (way_on l n) (ways a) n low high x [] f)) (part_below a t g w) in
    let long : l < g.code.labels = omega (arith, first.more, second.more) in
    let jump : Part ys n g.code jumped.code [] = record {
      pieces = Does (stm_at line (Jump l)) ∷ [];
      code = refl;
      more = omega arith;
      fragment = ways_more (way_on (l + 1) n) xs n g.code.labels g.code.labels (Does (stm_at line (Jump l)) ∷ []) [] (search (arith, agree_refl));
    } in
    let early_y : AreEarlier (l + 2) ys = (small3, (small2, early2)) in
    let both = part_trans ys n from t.code g.code [] [] early_y first second in
    let three = part_trans ys n from g.code jumped.code [] [] early_y both jump in
    let inner : Part xs n one y.code [] = part_closed xs n one from jumped.code (l + 1) refl (omega arith) (omega arith) (small, early1) three in
    let other = part_ways (ways a) xs n y.code h.code [] (λ low high x f. ways_more (way_on l n) (ways a) n low high x [] f) (part_below a y h v) in
    let whole = part_trans xs n one y.code h.code [] [] (small, early1) inner other in
    walks_same a c (left (here l h)) (part_closed (ways a) n c.code one h.code l refl refl (omega arith) fit.early whole)
    (λ k q. same_labels c.running t.running test.running.0 test.running.1 k (below_labels (below a) t g refl w k (below_labels (below a) y h refl v k q)))
    (stays_out c h from (here l h).code (stays_trans (entered (with_labels 2 c)) t h test.stays (stays_trans t g h w.stays (stays_recoded g h y.code h.code v.stays))))

-- loops

loop_labels : (a : Around) (end next : ℕ) (t g : Context) → Walks (in_loop end next a) t g → (l : ℕ) → HasLabel l g.running → HasLabel l t.running
loop_labels a end next t g w = below_labels (in_loop end next a) t g refl w

loop_part : (a : Around) (end next : ℕ) (t g : Context) → Walks (in_loop end next a) t g → Part (way_on end a.delays ∷ way_on next a.delays ∷ []) a.delays t.code g.code []
loop_part a end next t g w = subst (Part (way_on end a.delays ∷ way_on next a.delays ∷ []) a.delays t.code g.code) (w.unlabelled refl) w.part

loop_code : (line l : ℕ) (start i a b c x g h : List Piece) → x ≡ start ++ i → g ≡ (x ++ (Here l ∷ [])) ++ a → h ≡ g ++ b
    → ((h ++ (Here (l + 2) ∷ c)) ++ (Does (stm_at line (Loop l)) ∷ [])) ++ (Here (l + 1) ∷ []) ≡ start ++ (i ++ loop_rest line l a b c)
loop_code line l start i a b c x g h ex eg eh = search (arith, stm_at, append_assoc)

for_walks : (a : Around) (line : ℕ) (c x t g h : Context) → Fits c.code.labels a → Passes (entered (with_labels 3 c)) x → Tests (c.code.labels + 1) (here c.code.labels x) t
    → Passes (apart t) g → Walks (in_loop (c.code.labels + 1) (c.code.labels + 2) a) (with_pieces t.code.pieces g) h
    → Walks a c (left (looped line c.code.labels (c.code.labels + 1) (with_pieces (h.code.pieces ++ (Here (c.code.labels + 2) ∷ g.code.pieces)) h)))
for_walks a line c x t g h fit start test step w =
    let l : ℕ = c.code.labels in
    let n : ℕ = a.delays in
    let p = test.part n in
    let b = loop_part a (l + 1) (l + 2) (with_pieces t.code.pieces g) h w in
    let last = looped line l (l + 1) (with_pieces (h.code.pieces ++ (Here (l + 2) ∷ g.code.pieces)) h) in
    let fragment : Fragment [] n l h.code.labels (start.pieces ++ loop_rest line l p.pieces b.pieces step.pieces) [] =
    for_fragment n line l x.code.labels t.code.labels g.code.labels h.code.labels start.pieces p.pieces b.pieces step.pieces
    start.more p.more step.more b.more (start.fragment n) p.fragment (step.fragment n) b.fragment in
    walks_same a c (left last)
    (record {
      pieces = start.pieces ++ loop_rest line l p.pieces b.pieces step.pieces;
      code = ap (λ (z : List Piece). ((h.code.pieces ++ (Here (l + 2) ∷ z)) ++ (Does (stm_at line (Loop l)) ∷ [])) ++ (Here (l + 1) ∷ [])) step.code
          ∙ loop_code line l c.code.pieces start.pieces p.pieces b.pieces step.pieces x.code.pieces t.code.pieces h.code.pieces start.code p.code b.code;
      more = omega (arith, start.more, p.more, step.more, b.more);
      fragment = anywhere (ways a) n l h.code.labels (start.pieces ++ loop_rest line l p.pieces b.pieces step.pieces) [] fragment;
    })
    (λ k q. same_labels c.running x.running start.cases start.otherwise k
    (same_labels x.running t.running test.running.0 test.running.1 k (same_labels t.running g.running step.cases step.otherwise k
    (loop_labels a (l + 1) (l + 2) (with_pieces t.code.pieces g) h w k q))))
    (stays_out c h (with_labels 3 c).code last.code (stays_trans (entered (with_labels 3 c)) x h start.stays
    (stays_trans x t h (stays_recoded x t (here l x).code t.code test.stays) (stays_trans t g h (stays_recoded t g (apart t).code g.code step.stays) (stays_recoded g h (with_pieces t.code.pieces g).code h.code w.stays)))))

while_walks : (a : Around) (line : ℕ) (c t g : Context) → Fits c.code.labels a → Safe c.scopes → Tests (c.code.labels + 1) (here c.code.labels (entered (with_labels 3 c))) t
    → Walks (in_loop (c.code.labels + 1) (c.code.labels + 2) a) t g → Walks a c (left (looped line c.code.labels (c.code.labels + 1) (here (c.code.labels + 2) g)))
while_walks a line c t g fit s test w =
    for_walks a line c (entered (with_labels 3 c)) t (apart t) g fit (passes_refl (entered (with_labels 3 c)) (entered_safe c.scopes s)) test (passes_refl (apart t) test.stays.safe) w

do_walks : (a : Around) (line : ℕ) (c g t : Context) → Fits c.code.labels a → Walks (in_loop (c.code.labels + 1) (c.code.labels + 2) a) (here c.code.labels (entered (with_labels 3 c))) g
    → Tests (c.code.labels + 1) (here (c.code.labels + 2) g) t → Walks a c (left (looped line c.code.labels (c.code.labels + 1) t))
do_walks a line c g t fit w test =
    let l : ℕ = c.code.labels in
    let n : ℕ = a.delays in
    let begun = here l (entered (with_labels 3 c)) in
    let b = loop_part a (l + 1) (l + 2) begun g w in
    let p = test.part n in
    let last = looped line l (l + 1) t in
    walks_same a c (left last)
    (record {
      pieces = looped_code line l ((b.pieces ++ (Here (l + 2) ∷ [])) ++ p.pieces);
      code = search (arith, stm_at, append_assoc);
      more = omega (arith, b.more, p.more);
      fragment = anywhere (ways a) n l t.code.labels (looped_code line l ((b.pieces ++ (Here (l + 2) ∷ [])) ++ p.pieces)) []
          (do_fragment n line l g.code.labels t.code.labels b.pieces p.pieces b.more p.more b.fragment p.fragment);
    })
    (λ k q. loop_labels a (l + 1) (l + 2) begun g w k (same_labels g.running t.running test.running.0 test.running.1 k q))
    (stays_out c t begun.code last.code (stays_trans (record (entered (with_labels 3 c)) { code = begun.code }) g t w.stays (stays_recoded g t (here (l + 2) g).code t.code test.stays)))

-- switches

ways_right : (x y : Option (ℕ × ℕ)) (l : ℕ) → IsWay (ways_of y) l → IsWay (ways_of x ++ ways_of y) l
ways_right x y l h = search arith fits 100

leads_right : (m : Marks) (end : ℕ) (x y : Option (ℕ × ℕ)) → Leads m end (ways_of x ++ ways_of y) → Leads m end (ways_of y)
leads_right m end x y h = search arith fits 100

switch_labels : (a : Around) (block : Bool) (end : ℕ) (ty : IntType) (c g : Context) (w : Walks (in_switch block end ty a) (no_cases (apart c)) g) (l : ℕ) → HasLabel l g.running → Among l w.entries
switch_labels a block end ty c g w l h =
    ⊎_elim
    (λ (k : HasLabel l (no_cases (apart c)).running). ⊎_elim (λ (q : ⊥). absurd q) (λ (q : None ≡ Some l). let never_some : ⊥ = none_is_none l q in absurd never_some) k)
    (λ (k : Among l w.entries). k) (w.cases l h)
  where
    none_is_none : (k : ℕ) → None ≡ Some k → ⊥
    none_is_none k e = cc

target_is : (end : ℕ) (otherwise : Option ℕ) (s : List ℕ) → ((l : ℕ) → otherwise ≡ Some l → Among l s) → (default_or end otherwise ≡ end) ⊎ Among (default_or end otherwise) s
target_is end otherwise s h = search arith fits 100

switch_walks : (a : Around) (line : ℕ) (ty : IntType) (x : Atom) (c t g : Context) → Fits c.code.labels a → Passes (entered (with_labels 1 c)) t
    → Walks (in_switch true c.code.labels ty a) (no_cases (apart t)) g → Walks a c (left (switched line c.code.labels x t g))
switch_walks a line ty x c t g fit test w =
    let l : ℕ = c.code.labels in
    let n : ℕ = a.delays in
    let from = (with_labels 1 c).code in
    let xs : List Way = way_on l n ∷ ways a in
    let small : l < l + 1 = omega arith in
    let early1 = earlier_less l (l + 1) (ways a) (omega arith) fit.early in
    let first = part_anywhere xs n from t.code (passes_part n (entered (with_labels 1 c)) t test) in
    let long : l < t.code.labels = omega (arith, test.more) in
    let early2 = earlier_less l t.code.labels (ways a) (omega arith) fit.early in
    let body : Fragment xs n t.code.labels g.code.labels w.part.pieces w.entries =
    with_ways (way_on l n ∷ ways_of a.continues) xs n t.code.labels g.code.labels w.part.pieces w.entries
    (λ k. ⊎_elim (λ (h : k ≡ l). inl h) (λ (h : IsWay (ways_of a.continues) k). inr (ways_right a.breaks a.continues k h)))
    (λ m end h. (h.0, leads_right m end a.breaks a.continues h.1)) w.part.fragment in
    let labels = switch_labels a true l ty t g w in
    let dispatched : Fragment xs n t.code.labels g.code.labels (dispatch line x l g ++ w.part.pieces) [] =
    dispatch_fragment (ways a) n t.code.labels g.code.labels l line x g.running.cases (default_or l g.running.otherwise) w.part.pieces w.entries (long, early2) w.part.more
    (λ k h. labels k (inl h)) (target_is l g.running.otherwise w.entries (λ k h. labels k (inr h))) body in
    let z : Code = record g.code { pieces = (t.code.pieces ++ dispatch line x l g) ++ g.code.pieces } in
    let second : Part xs n t.code z [] = record {
      pieces = dispatch line x l g ++ w.part.pieces;
      code = ap (λ (y : List Piece). (t.code.pieces ++ dispatch line x l g) ++ y) w.part.code ∙ append_assoc t.code.pieces (dispatch line x l g) w.part.pieces;
      more = w.part.more;
      fragment = dispatched;
    } in
    let both = part_trans xs n from t.code z [] [] (small, early1) first second in
    walks_same a c (left (switched line l x t g)) (part_closed (ways a) n c.code from z l refl refl (omega arith) fit.early both)
    (λ k h. same_labels c.running t.running test.cases test.otherwise k h)
    (record {
      safe = left_safe g.scopes w.stays.safe;
      depth = tail_depth g.scopes.inner (length c.scopes.inner) (w.stays.depth ∙ test.stays.depth);
      tied = tied_trans c.functions t.functions g.functions c.scopes.file t.scopes.file g.scopes.file c.walked t.walked g.walked test.stays.tied w.stays.tied;
      walked = w.stays.walked ∙ test.stays.walked;
      length = w.stays.length ∙ test.stays.length;
      params = λ h. w.stays.params (test.stays.params h);
      counted = λ h. let k = test.stays.counted (record { bytes = h.bytes; small = h.small }) in let q = w.stays.counted (record { bytes = k.bytes; small = k.small }) in record { bytes = q.bytes; small = q.small };
      inside = λ h.
          let k = test.stays.inside (omega arith) in
          let q = w.stays.inside (omega (arith, test.stays.depth)) in
          record { variables = q.variables ∙ k.variables; literals = λ i u e. q.literals i u (k.literals i u e); objects = λ name type i e. k.objects name type i (q.objects name type i e) };
    })

-- labels of a switch

labelled_walks : (a : Around) (c k d e : Context) → Fits c.code.labels a → a.labelled ≡ true → Passes c k → Walks a (here k.code.labels (with_labels 1 k)) d → e.code ≡ d.code
    → ((l : ℕ) → HasLabel l e.running → (l ≡ k.code.labels) ⊎ HasLabel l d.running) → Stays d e → Walks a c e
labelled_walks a c k d e fit is p w same labels s =
    let l : ℕ = k.code.labels in
    let n : ℕ = a.delays in
    let early = earlier_less c.code.labels l (ways a) p.more fit.early in
    let small : l < d.code.labels = omega (arith, w.part.more) in
    let inner : Part (ways a) n k.code e.code (l ∷ w.entries) = record {
      pieces = Here l ∷ w.part.pieces;
      code = ap (λ (y : Code). y.pieces) same ∙ w.part.code ∙ append_assoc k.code.pieces (Here l ∷ []) w.part.pieces;
      more = omega (arith, ap (λ (y : Code). y.labels) same);
      fragment = subst (λ (q : ℕ). Fragment (ways a) n l q (Here l ∷ w.part.pieces) (l ∷ w.entries)) (sym (ap (λ (y : Code). y.labels) same)) (label_fragment (ways a) n l d.code.labels w.part.pieces w.entries small early w.part.fragment);
    } in
    record {
      entries = l ∷ w.entries;
      part = part_trans (ways a) n c.code k.code e.code [] (l ∷ w.entries) fit.early (part_anywhere (ways a) n c.code k.code (passes_part n c k p)) inner;
      cases = λ j h. ⊎_elim (λ (q : j ≡ l). inr (inl q))
          (λ (q : HasLabel j d.running). ⊎_elim (λ (v : HasLabel j k.running). inl (same_labels c.running k.running p.cases p.otherwise j v)) (λ (v : Among j w.entries). inr (inr v)) (w.cases j q)) (labels j h);
      unlabelled = λ q. absurd (true≢false (sym is ∙ q));
      stays = stays_trans c k e p.stays (stays_trans k d e (stays_recoded k d (here l (with_labels 1 k)).code d.code w.stays) s);
    }

cased_walks : (line : ℕ) (a : Around) (ty : Option IntType) (place : ℕ) (v : ℤ) (c k d : Context) → Fits c.code.labels a → Passes c k → Walks a (here k.code.labels (with_labels 1 k)) d
    → Led (Walks a c) (cased line a ty place v k.code.labels d)
cased_walks line a None place v c k d fit p w = led_refused (Walks a c)
cased_walks line a (Some ty) place v c k d fit p w =
    let value = wrapped (kind_of ty) v in
    led_unless (Walks a c) (not a.labelled) LeftOut line (λ e.
    led_unless (Walks a c) (has_case value d) CaseTwice line (λ e2.
    led_ok (Walks a c)
    (labelled_walks a c k d (with_case place value k.code.labels d) fit (not_false a.labelled e) p w refl
    (λ l. ⊎_elim (λ (h : IsCase l (take place d.running.cases ++ ((value, k.code.labels) ∷ drop place d.running.cases))). ⊎_elim (λ (q : l ≡ k.code.labels). inl q) (λ (q : IsCase l d.running.cases). inr (inl q)) (case_among l place k.code.labels value d.running.cases h))
    (λ (h : d.running.otherwise ≡ Some l). inr (inr h)))
    (stays_beside d _ w.stays.safe refl refl refl refl refl (λ k. k) refl (tied_refl d.functions d.scopes.file d.walked) (λ h name type i e. e)))))

defaulted_walks : (line : ℕ) (a : Around) (c d : Context) → Fits c.code.labels a → Safe c.scopes → Walks a (here c.code.labels (with_labels 1 c)) d → Led (Walks a c) (defaulted line a c.code.labels d)
defaulted_walks line a c d fit s w =
    let last : Context = record d { running = record d.running { otherwise = Some c.code.labels } } in
    led_unless (Walks a c) (not (is_some a.switched)) StrayBreak line (λ e1.
    led_unless (Walks a c) (not a.labelled) LeftOut line (λ e2.
    led_unless (Walks a c) (is_some d.running.otherwise) CaseTwice line (λ e3.
    led_ok (Walks a c)
    (labelled_walks a c c d last fit (not_false a.labelled e2) (passes_refl c s) w refl
    (λ l. ⊎_elim (λ (h : IsCase l d.running.cases). inr (inl h)) (λ (h : Some c.code.labels ≡ Some l). inl (sym (some_same c.code.labels l h))))
    (stays_beside d _ w.stays.safe refl refl refl refl refl (λ k. k) refl (tied_refl d.functions d.scopes.file d.walked) (λ h name type i e. e))))))

-- `break` and `continue`

record Leave_to (ws : List Way) (n l : ℕ) (exit : ℕ × ℕ) : Type 0 where
  is : IsWay ws exit.0
  early : exit.0 < l
  outside : exit.1 ≤ n
  stands : (m : Marks) (end : ℕ) → Leads m end ws → Stands m end (way_on exit.0 exit.1)

leave_to_walks : (line : ℕ) (a : Around) (exit : Option (ℕ × ℕ)) (c : Context) → Safe c.scopes → ((x : ℕ × ℕ) → exit ≡ Some x → Leave_to (ways a) a.delays c.code.labels x) → Led (Walks a c) (leave_to line a.delays exit c)
leave_to_walks line a None c s h = led_refused (Walks a c)
leave_to_walks line a (Some exit) c s h =
    let facts = h exit refl in
    let outside = facts.outside in
    led_ok (Walks a c)
    (out_walks a line (a.delays - exit.1) exit.1 (Jump exit.0) c s (omega arith) facts.is facts.early
    (λ m p lead. let st = facts.stands m (p + (a.delays - exit.1) + 1) lead in (st.depth, omega (arith, st.ahead refl))))

break_facts : (x y : Option (ℕ × ℕ)) (n l : ℕ) → AreEarlier l (ways_of x ++ ways_of y) → IsOutside n x → (e : ℕ × ℕ) → x ≡ Some e → Leave_to (ways_of x ++ ways_of y) n l e
break_facts x y n l early out e is = search (arith, some_same, way_on, ways_of) fits 100

only_facts : (y : Option (ℕ × ℕ)) (n l : ℕ) → AreEarlier l (ways_of y) → IsOutside n y → (e : ℕ × ℕ) → y ≡ Some e → Leave_to (ways_of y) n l e
only_facts y n l early out e is = search (arith, break_facts, append-nil, ways_of)

continue_facts : (x y : Option (ℕ × ℕ)) (n l : ℕ) → AreEarlier l (ways_of x ++ ways_of y) → IsOutside n y → (e : ℕ × ℕ) → y ≡ Some e → Leave_to (ways_of x ++ ways_of y) n l e
continue_facts x y n l early out e is = search (arith, only_facts) fits 100

-- what stands first in a `for`
for_start_passes : (line : ℕ) (tree : Tree) (c : Context) → Safe c.scopes → Led (Passes c) (for_start line tree c)
for_start_passes line (Node f.ForNames (words ▹ names ▹ none)) c s = λ d e. (declaration_declares false line words names c s (λ t. absurd (true≢false (sym t))) d e).passes refl
for_start_passes line (Node f.ForStart (Node f.MaybeExpr e ▹ none)) c s = maybe_evaluated_passes e c s
for_start_passes line tree c s = led_refused (Passes c)

walked_passes : (a : Around) (c : Context) (r : Checked Context) → Led (Passes c) r → Led (Walks a c) r
walked_passes a c r h d e = walks_passes a c d (h d e)

mutual
  unfolding statement items

  pub statement_walks : (tree : Tree) (a : Around) (c : Context) → Fits c.code.labels a → Safe c.scopes → Led (Walks a c) (statement tree a c)
  statement_walks (Node f.Empty parts) a c fit s = led_ok (Walks a c) (walks_passes a c c (passes_refl c s))
  statement_walks (Node f.Expr (At line ▹ e ▹ none)) a c fit s = walked_passes a c (evaluated e c) (evaluated_passes e c s)
  statement_walks (Node f.Block (At line ▹ Node f.Items parts ▹ none)) a c fit s =
      scoped_walks a c (λ d. items parts (below a) d) s
      (λ s2 d e. block_walks a (entered c) d (items_walk parts (below a) (entered c) (fits_below (entered c).code.labels a fit) s2 d e))
  statement_walks (Node f.Delay (At line ▹ Node f.Items parts ▹ none)) a c fit s =
      scoped_walks a c (λ d. then (items parts (in_delay a) (emit line Enter d)) (λ e. Ok (emit line Leave e))) s
      (λ s2. led_after (Walks a (entered c)) (items parts (in_delay a) (emit line Enter (entered c)))
      (λ e h. led_ok (Walks a (entered c)) (delay_walks a line (entered c) e
      (items_walk parts (in_delay a) (emit line Enter (entered c)) (fits_delay c.code.labels a fit) s2 e h))))
  statement_walks (Node f.If (At line ▹ e ▹ x ▹ none)) a c fit s =
      let end = new_label c in
      let d = entered (with_labels 1 c) in
      led_after (Walks a c) (then (leaves_if_zero line end e d) (λ t. then (scoped t (λ b. statement x (below a) b)) (λ g. Ok (here end g))))
      (λ z q. led_ok (Walks a c)
      (led_after (λ (y : Context). Walks a c (left y)) (leaves_if_zero line end e d)
      (λ t h. let test = leaves_tests line end e d (omega arith) (entered_safe c.scopes s) t h in
      led_after (λ (y : Context). Walks a c (left y)) (scoped t (λ b. statement x (below a) b))
      (λ g k. led_ok (λ (y : Context). Walks a c (left y)) (if_walks a c t g fit test
      (scoped_walks (below a) t (λ b. statement x (below a) b) test.stays.safe
      (λ s2. statement_walks x (below a) (entered t) (fits_below t.code.labels a (fits_more c.code.labels t.code.labels a (omega (arith, (test.part 0).more)) fit)) s2) g k)))) z q))
  statement_walks (Node f.IfElse (At line ▹ e ▹ x ▹ y ▹ none)) a c fit s =
      let end = new_label c in
      let d = entered (with_labels 2 c) in
      let Goal : Context → Type 0 = λ (v : Context). Walks a c (left v) in
      led_after (Walks a c) (then (leaves_if_zero line (end + 1) e d) (λ t. then (scoped t (λ b. statement x (below a) b)) (λ g. then (scoped (here (end + 1) (emit line (Jump end) g)) (λ b. statement y (below a) b)) (λ h. Ok (here end h)))))
      (λ z q. led_ok (Walks a c)
      (led_after Goal (leaves_if_zero line (end + 1) e d)
      (λ t h. let test = leaves_tests line (end + 1) e d (omega arith) (entered_safe c.scopes s) t h in
      let fit_t = fits_below t.code.labels a (fits_more c.code.labels t.code.labels a (omega (arith, (test.part 0).more)) fit) in
      led_after Goal (scoped t (λ b. statement x (below a) b))
      (λ g k. let w = scoped_walks (below a) t (λ b. statement x (below a) b) test.stays.safe (λ s2. statement_walks x (below a) (entered t) fit_t s2) g k in
      let begun = here (end + 1) (emit line (Jump end) g) in
      led_after Goal (scoped begun (λ b. statement y (below a) b))
      (λ v r. led_ok Goal (else_walks a line c t g v fit test w
      (scoped_walks (below a) begun (λ b. statement y (below a) b) w.stays.safe
      (λ s2. statement_walks y (below a) (entered begun) (fits_more t.code.labels g.code.labels (below a) w.part.more fit_t) s2) v r))))) z q))
  statement_walks (Node f.While (At line ▹ e ▹ x ▹ none)) a c fit s =
      let head = new_label c in
      let d = entered (with_labels 3 c) in
      let Goal : Context → Type 0 = λ (v : Context). Walks a c (left v) in
      let inner = in_loop (head + 1) (head + 2) a in
      led_after (Walks a c) (then (leaves_if_zero line (head + 1) e (here head d)) (λ t. then (scoped t (λ b. statement x inner b)) (λ g. Ok (looped line head (head + 1) (here (head + 2) g)))))
      (λ z q. led_ok (Walks a c)
      (led_after Goal (leaves_if_zero line (head + 1) e (here head d))
      (λ t h. let test = leaves_tests line (head + 1) e (here head d) (omega arith) (entered_safe c.scopes s) t h in
      led_after Goal (scoped t (λ b. statement x inner b))
      (λ g k. led_ok Goal (while_walks a line c t g fit s test
      (scoped_walks inner t (λ b. statement x inner b) test.stays.safe
      (λ s2. statement_walks x inner (entered t) (fits_loop t.code.labels (head + 1) (head + 2) a (omega (arith, (test.part 0).more)) (omega (arith, (test.part 0).more))) s2) g k)))) z q))
  statement_walks (Node f.Do (At line ▹ x ▹ e ▹ none)) a c fit s =
      let head = new_label c in
      let d = entered (with_labels 3 c) in
      let Goal : Context → Type 0 = λ (v : Context). Walks a c (left v) in
      let inner = in_loop (head + 1) (head + 2) a in
      led_after (Walks a c) (then (scoped (here head d) (λ b. statement x inner b)) (λ g. then (leaves_if_zero line (head + 1) e (here (head + 2) g)) (λ t. Ok (looped line head (head + 1) t))))
      (λ z q. led_ok (Walks a c)
      (led_after Goal (scoped (here head d) (λ b. statement x inner b))
      (λ g h. let w = scoped_walks inner (here head d) (λ b. statement x inner b) (entered_safe c.scopes s)
      (λ s2. statement_walks x inner (entered (here head d)) (fits_loop (c.code.labels + 3) (head + 1) (head + 2) a (omega arith) (omega arith)) s2) g h in
      led_after Goal (leaves_if_zero line (head + 1) e (here (head + 2) g))
      (λ t k. led_ok Goal (do_walks a line c g t fit w (leaves_tests line (head + 1) e (here (head + 2) g) (omega (arith, w.part.more)) w.stays.safe t k)))) z q))
  statement_walks (Node f.For (At line ▹ start ▹ Node f.MaybeExpr test ▹ Node f.MaybeExpr step ▹ x ▹ none)) a c fit s =
      let head = new_label c in
      let d = entered (with_labels 3 c) in
      let Goal : Context → Type 0 = λ (v : Context). Walks a c (left v) in
      let inner = in_loop (head + 1) (head + 2) a in
      led_after (Walks a c) (then (for_start line start d) (λ y. then (maybe_leaves line (head + 1) test (here head y)) (λ t. then (maybe_evaluated step (apart t)) (λ g. then (scoped (with_pieces t.code.pieces g) (λ b. statement x inner b)) (λ h. Ok (looped line head (head + 1) (with_pieces (h.code.pieces ++ (Here (head + 2) ∷ g.code.pieces)) h)))))))
      (λ z q. led_ok (Walks a c)
      (led_after Goal (for_start line start d)
      (λ y h0. let p = for_start_passes line start d (entered_safe c.scopes s) y h0 in
      led_after Goal (maybe_leaves line (head + 1) test (here head y))
      (λ t h1. let u = maybe_tests line (head + 1) test (here head y) (omega (arith, p.more)) p.stays.safe t h1 in
      led_after Goal (maybe_evaluated step (apart t))
      (λ g h2. let r = maybe_evaluated_passes step (apart t) u.stays.safe g h2 in
      led_after Goal (scoped (with_pieces t.code.pieces g) (λ b. statement x inner b))
      (λ h h3. led_ok Goal (for_walks a line c y t g h fit p u r
      (scoped_walks inner (with_pieces t.code.pieces g) (λ b. statement x inner b) r.stays.safe
      (λ s2. statement_walks x inner (entered (with_pieces t.code.pieces g)) (fits_loop g.code.labels (head + 1) (head + 2) a (omega (arith, p.more, (u.part 0).more, r.more)) (omega (arith, p.more, (u.part 0).more, r.more))) s2) h h3)))))) z q))
  statement_walks (Node f.Switch (At line ▹ e ▹ Node f.Block (At at ▹ Node f.Items parts ▹ none) ▹ none)) a c fit s =
      let end = new_label c in
      let d = entered (with_labels 1 c) in
      let Goal : Context → Type 0 = λ (v : Context). Walks a c (left v) in
      led_after (Walks a c) (then (switch_operand line e d) (λ t. then (scoped (no_cases (apart t.0)) (λ b. items parts (in_switch true end t.1.0 a) b)) (λ g. Ok (switched line end t.1.1 t.0 g))))
      (λ z q. led_ok (Walks a c)
      (led_after Goal (switch_operand line e d)
      (λ t h. let p = switch_operand_passes line e d (entered_safe c.scopes s) t h in
      let inner = in_switch true end t.1.0 a in
      led_after Goal (scoped (no_cases (apart t.0)) (λ b. items parts inner b))
      (λ g k. led_ok Goal (switch_walks a line t.1.0 t.1.1 c t.0 g fit p
      (scoped_walks inner (no_cases (apart t.0)) (λ b. items parts inner b) p.stays.safe
      (λ s2. items_walk parts inner (entered (no_cases (apart t.0))) (fits_switch t.0.code.labels end true t.1.0 a (omega (arith, p.more)) (fits_more c.code.labels t.0.code.labels a (omega (arith, p.more)) fit)) s2) g k)))) z q))
  statement_walks (Node f.Switch (At line ▹ e ▹ x ▹ none)) a c fit s =
      let end = new_label c in
      let d = entered (with_labels 1 c) in
      led_after (Walks a c) (then (switch_operand line e d) (λ t. then (statement x (in_switch false end t.1.0 a) (no_cases (apart t.0))) (λ g. refused LeftOut line)))
      (λ z q. led_ok (Walks a c) (led_after (λ (v : Context). Walks a c (left z)) (switch_operand line e d)
      (λ t h. led_after (λ (v : Context). Walks a c (left z)) (statement x (in_switch false end t.1.0 a) (no_cases (apart t.0))) (λ g k. led_refused (λ (v : Context). Walks a c (left z)) {kind = LeftOut} {line = line})) z q))
  statement_walks (Node f.Case (At line ▹ e ▹ x ▹ none)) a c fit s =
      led_after (Walks a c) (constant e c)
      (λ k h. let p = constant_passes e c c (passes_refl c s) k h in
      let begun = here (new_label k.0) (with_labels 1 k.0) in
      led_after (Walks a c) (statement x a begun)
      (λ d q. cased_walks line a a.switched (length c.running.cases) k.1.value c k.0 d fit p (statement_walks x a begun (fits_more c.code.labels (k.0.code.labels + 1) a (omega (arith, p.more)) fit) p.stays.safe d q)))
  statement_walks (Node f.Default (At line ▹ x ▹ none)) a c fit s =
      let begun = here (new_label c) (with_labels 1 c) in
      led_after (Walks a c) (statement x a begun)
      (λ d q. defaulted_walks line a c d fit s (statement_walks x a begun (fits_more c.code.labels (c.code.labels + 1) a (omega arith) fit) s d q))
  statement_walks (Node f.Break (At line ▹ none)) a c fit s = leave_to_walks line a a.breaks c s (λ x is. break_facts a.breaks a.continues a.delays c.code.labels fit.early fit.breaks x is)
  statement_walks (Node f.Continue (At line ▹ none)) a c fit s = leave_to_walks line a a.continues c s (λ x is. continue_facts a.breaks a.continues a.delays c.code.labels fit.early fit.continues x is)
  statement_walks (Node f.Return (At line ▹ Node f.MaybeExpr e ▹ none)) a c fit s = return_from_walks line a e c fit s
  statement_walks (Node f.Local (At line ▹ words ▹ names ▹ none)) a c fit s =
      walked_passes a c (declaration false line words names c) (λ d e. (declaration_declares false line words names c s (λ t. absurd (true≢false (sym t))) d e).passes refl)
  statement_walks tree a c fit s = led_refused (Walks a c)

  pub items_walk : (parts : Trees) (a : Around) (c : Context) → Fits c.code.labels a → Safe c.scopes → Led (Walks a c) (items parts a c)
  items_walk none a c fit s = led_ok (Walks a c) (walks_passes a c c (passes_refl c s))
  items_walk (item ▹ rest) a c fit s =
      led_after (Walks a c) (statement item a c)
      (λ d h e q. let one = statement_walks item a c fit s d h in
      walks_trans a c d e fit one (items_walk rest a d (fits_more c.code.labels d.code.labels a one.part.more fit) one.stays.safe e q))

-- what the external declarations of a text do to what is known

-- a function whose code is whole: it ends in a return, its labels are placed, and control flows
pub record Complete (pieces : List Piece) : Type 0 where
  pub front : List Piece
  pub line : ℕ
  pub answer : Option Atom
  pub is : pieces ≡ front ++ (Does (stm_at line (Return answer)) ∷ [])
  pub marks : Marks
  pub flow : Flows marks (front ++ (Does (stm_at line (Return answer)) ∷ [])) 0 0 0
  pub reached : Targets (λ l. Placed l (front ++ (Does (stm_at line (Return answer)) ∷ []))) (front ++ (Does (stm_at line (Return answer)) ∷ []))

abbrev pub AreComplete : List Walked → Type 0
AreComplete [] = Unit {0}
AreComplete (w ∷ ws) = Complete w.code.pieces × AreComplete ws

complete_push : (ws : List Walked) (w : Walked) → AreComplete ws → Complete w.code.pieces → AreComplete (ws ++ w ∷ [])
complete_push [] w h k = (k, tt)
complete_push (v ∷ ws) w h k = (h.0, complete_push ws w h.1 k)

-- how many statements and operands a function has
abbrev pub walked_length : Walked → ℕ
walked_length w = sum_by piece_length w.code.pieces

-- what holds between external declarations
pub record Sane (c : Context) : Type 0 where
  pub safe : Safe c.scopes
  pub flat : length c.scopes.inner ≡ 0
  pub params : SafeTable c.params
  pub complete : AreComplete c.walked
  pub counted : Counted c
  pub named : Named c.functions c.scopes.file c.walked
  pub strict : Strict c.functions c.walked
  pub length : c.length ≡ sum_by walked_length c.walked
  pub small : c.length ≤ 268435456

sane_stays : (b c : Context) → Sane b → Stays b c → Sane c
sane_stays b c s h = grind arith

sane_begun : (line : ℕ) (addressed : List ℕ) (c : Context) → Sane c → Sane (begun line addressed c)
sane_begun line addressed c s = search

-- what holds inside the body of a function of a name
record Inner (name : List ℕ) (index : ℕ) (c : Context) : Type 0 where
  safe : Safe c.scopes
  params : SafeTable c.params
  complete : AreComplete c.walked
  counted : Counted c
  named : Named c.functions c.scopes.file c.walked
  declared : Declared
  there : slice_get c.functions index ≡ Some declared
  defined : declared.defined ≡ Some (length c.walked)
  name_is : declared.name ≡ name
  size : c.length ≡ sum_by walked_length c.walked

inner_stays : (name : List ℕ) (index : ℕ) (b c : Context) → Inner name index b → Stays b c → Inner name index c
inner_stays name index b c s h = search arith

not_defined : (d : Declared) → is_some d.defined ≡ false → d.defined ≡ None
not_defined d = grind (arith, false, true)

inner_begun : (name : List ℕ) (index : ℕ) (type t : PlainType) (c : Context) → Sane c → named_in name c.scopes.file ≡ Some (n.Function t index) → is_defined (slice_get c.functions index) ≡ false → Inner name index (body_begun index type c)
inner_begun name index type t c s there undefined =
    let x = s.named.found name t index there in
    let none : (x.0).defined ≡ None = not_defined x.0 (ap is_defined (sym x.1) ∙ undefined) in
    let made : Declared = record (x.0) { defined = Some (length c.walked) } in
    let same : define index (length c.walked) (slice_get c.functions index) c.functions ≡ slice_set c.functions index made = ap (λ (o : Option Declared). define index (length c.walked) o c.functions) x.1 in
    record {
      safe = record { file = s.safe.file; inner = (s.params, tt) };
      params = λ x. refl;
      complete = s.complete;
      counted = record { bytes = s.counted.bytes; small = s.counted.small };
      named = subst (λ (fs : List Declared). Named fs c.scopes.file c.walked) (sym same) (defined_named c.functions c.scopes.file c.walked index x.0 x.1 none s.named s.strict);
      declared = made;
      there = subst (λ (fs : List Declared). slice_get fs index ≡ Some made) (sym same) (defined_here c.functions c.scopes.file c.walked index x.0 x.1 none);
      defined = refl;
      name_is = x.2;
      size = s.length;
    }

-- the whole code of a body
completed : (line : ℕ) (answer : Option Atom) (a : List Piece) (low high : ℕ) → Fragment [] 0 low high a [] → Complete (a ++ (Does (stm_at line (Return answer)) ∷ []))
completed line answer a low high f =
    let last : List Piece = Does (stm_at line (Return answer)) ∷ [] in
    let none : Marks = record { point = λ l. 0; depth = λ l. 0 } in
    let made = f.flows none 0 tt in
    record {
      front = a;
      line = line;
      answer = answer;
      is = refl;
      marks = made.marks;
      flow = flows_append made.marks a last 0 0 0 0 made.flow (0, refl, refl);
      reached = targets_append (λ l. Placed l (a ++ last)) a last
          (targets_map (λ l. Placed l a ⊎ ⊥) (λ l. Placed l (a ++ last)) a (λ l. ⊎_elim (λ (h : Placed l a). placed_left l a last h) (λ (h : ⊥). absurd h)) f.goes) (tt, tt);
    }

-- a body, from the start of its function on
begun_code : (b c d : Context) (index : ℕ) (type : PlainType) → b.code ≡ no_code → Passes b c → Walks around_body (body_begun index type c) d → Part [] 0 no_code d.code []
begun_code b c d index type start p w =
    let first : Part [] 0 no_code c.code [] = subst (λ (x : Code). Part [] 0 x c.code []) start (passes_part 0 b c p) in
    let second : Part [] 0 c.code d.code [] = subst (Part [] 0 c.code d.code) (w.unlabelled refl) w.part in
    part_trans [] 0 no_code c.code d.code [] [] tt first second

ended_sane : (line : ℕ) (name : List ℕ) (index : ℕ) (type : PlainType) (end : ℕ) (d : Context) → Inner name index d → Part [] 0 no_code d.code [] → Led Sane (body_ended line name type end d)
ended_sane line name index type end d s p =
    let e = emit end (Return (last_answer d.running.answer)) d in
    let total : ℕ = e.length + sum_by piece_length e.code.pieces in
    let w : Walked = record { name = name; params = params_of type; running = e.running; code = e.code } in
    led_unless Sane (nat_lt 268435456 total) ProgramTooLong line
    (λ small. led_ok Sane
    (record {
      safe = record { file = s.safe.file; inner = tt };
      flat = refl;
      params = s.params;
      complete = complete_push d.walked w s.complete
          (subst (λ (x : List Piece). Complete (x ++ (Does (stm_at end (Return (last_answer d.running.answer))) ∷ []))) (sym p.code)
          (completed end (last_answer d.running.answer) p.pieces 0 d.code.labels p.fragment));
      counted = record { bytes = s.counted.bytes; small = s.counted.small };
      named = pushed_named d.functions d.scopes.file d.walked w index s.declared s.there s.defined s.name_is s.named;
      strict = pushed_strict d.functions d.scopes.file d.walked w index s.declared s.there s.defined s.name_is s.named;
      length = ap (λ k. k + sum_by piece_length e.code.pieces) s.size ∙ sym (sum_by-append walked_length d.walked (w ∷ []) ∙ ap (λ k. sum_by walked_length d.walked + k) (zero_first (walked_length w)));
      small = ltb-false 268435456 total small;
    }))
  where
    zero_first : (k : ℕ) → 0 + k ≡ k
    zero_first k = omega arith

body_sane : (line : ℕ) (name : List ℕ) (type given : PlainType) (tree : Tree) (index : ℕ) (b c : Context) → b.code ≡ no_code → Passes b c → Sane c → named_in name c.scopes.file ≡ Some (n.Function given index) → is_defined (slice_get c.functions index) ≡ false
    → Led Sane (body line name type tree (body_begun index type c))
body_sane line name type given (Node f.Body (Node f.Items parts ▹ At end ▹ t.none)) index b c start p s there undefined =
    let begin = body_begun index type c in
    let ok = inner_begun name index type given c s there undefined in
    led_after Sane (items parts around_body begin)
    (λ d h. let w = items_walk parts around_body begin (record { early = tt; breaks = tt; continues = tt }) ok.safe d h in
    ended_sane line name index type end d (inner_stays name index begin d ok w.stays) (begun_code b c d index type start p w))
body_sane line name type given tree index b c start p s there undefined = led_refused Sane

defined_sane : (line : ℕ) (name : List ℕ) (type : PlainType) (tree : Tree) (b c : Context) → b.code ≡ no_code → Passes b c → Sane c → Led Sane (defined line name type tree c)
defined_sane line name type tree b c start p s =
    let index = function_number name c in
    led_unless Sane (not (is_function type)) LeftOut line (λ e1.
    led_after Sane (declared_function line name type c)
    (λ d h. let q = introduced line name type c s.safe s.flat d h in
    led_unless Sane (is_defined (slice_get d.functions index)) DeclaredTwice line
    (λ e2. body_sane line name type q.type tree index b d start (passes_trans b c d p q.passes) (sane_stays c d s q.passes.stays) q.there e2)))

named_sane : (line : ℕ) (name : Option (List ℕ)) (type : PlainType) (tree : Tree) (b c : Context) → b.code ≡ no_code → Passes b c → Sane c → Led Sane (named_definition line name type tree c)
named_sane line None type tree b c start p s = led_refused Sane
named_sane line (Some name) type tree b c start p s = defined_sane line name type tree b c start p s

definition_sane : (line : ℕ) (words declarator tree : Tree) (b : Context) → b.code ≡ no_code → Sane b → Led Sane (definition line words declarator tree b)
definition_sane line words declarator tree b start s =
    led_after Sane (specs words b)
    (λ base h. let p = specs_passes words b b (passes_refl b s.safe) base h in
    led_after Sane (layers declarator base.0)
    (λ l k. let q = layers_pass declarator b base.0 p l k in
    led_after Sane (with_layers l.0.tags l.1 base.1)
    (λ type e. named_sane line (name_of declarator) type tree b l.0 start q (sane_stays b l.0 s q.stays))))

pub external_sane : (tree : Tree) (c : Context) → Sane c → Led Sane (external tree c)
unfolding external
external_sane (Node f.Function (At line ▹ words ▹ Node f.Declared (declarator ▹ t.none) ▹ tree ▹ t.none)) c s =
    definition_sane line words declarator tree (begun line (addressed_in declarator tree) c) refl (sane_begun line (addressed_in declarator tree) c s)
external_sane (Node f.Declaration (At line ▹ words ▹ names ▹ t.none)) c s =
    let b = begun line [] c in
    λ d e. sane_stays b d (sane_begun line [] c s) (declaration_declares true line words names b s.safe (λ q. s.flat) d e).stays
external_sane tree c s = led_refused Sane

externals_sane : (unit : Trees) (c : Context) → Sane c → Led Sane (externals unit c)
unfolding externals
externals_sane t.none c s = led_ok Sane s
externals_sane (tree ▹ rest) c s = led_after Sane (external tree c) (λ d h. externals_sane rest d (external_sane tree c s d h))

-- the end of a text

-- it changes nothing
calls_same : (functions : List Declared) (calls : List (ℕ × ℕ)) (c d : Context) → calls_defined functions calls c ≡ Ok d → c ≡ d
calls_same functions [] c d h = ok_same c d h
calls_same functions (call ∷ calls) c d h =
    either_way (λ x. (calls_defined functions calls c ≡ Ok d → c ≡ d) → x ≡ good d → c ≡ d) (is_defined (slice_get functions call.0))
    (λ again q. again q)
    (λ again q. never _ _ d q) (λ q. calls_same functions calls c d q) h

-- a whole text, which has a function named `main`
pub record Finished (c : Context) : Type 0 where
  pub sane : Sane c
  pub main : is_main c.functions (named_in (codes "main") c.scopes.file) ≡ true

pub behind_text : (unit : Trees) (c : Context) → walked unit ≡ Ok c → (externals unit first_context ≡ Ok c) × (is_main c.functions (named_in (codes "main") c.scopes.file) ≡ true)
behind_text unit c q =
    let x = came (externals unit first_context) q in
    let d = came (calls_defined x.value.functions x.value.calls x.value) x.last in
    let last = passed (not (is_main d.value.functions (named_in (codes "main") d.value.scopes.file))) NoMain 1 d.value c d.last in (
      subst (λ (y : Context). externals unit first_context ≡ Ok y) (calls_same x.value.functions x.value.calls x.value d.value d.is ∙ last) x.is,
      subst (λ (y : Context). is_main y.functions (named_in (codes "main") y.scopes.file) ≡ true) last
          (not_false (is_main d.value.functions (named_in (codes "main") d.value.scopes.file)) (kept_test (not (is_main d.value.functions (named_in (codes "main") d.value.scopes.file))) NoMain 1 (good d.value) c d.last)),
    )

-- no built-in name is one of a function that a text declares
no_functions : (k : ℕ) (list : List BuiltIn) (name : List ℕ) (type : PlainType) (i : ℕ) → named_in name (numbered_from k list) ≡ Some (n.Function type i) → ⊥
no_functions k [] name type i e = cc
no_functions k (b ∷ list) name type i e =
    either_way (λ x. (named_in name (numbered_from (k + 1) list) ≡ Some (n.Function type i) → ⊥) → x ≡ Some (n.Function type i) → ⊥) (bytes_eq name (name_of_built_in b))
    (λ rest q. cc)
    (λ rest q. rest q) (no_functions (k + 1) list name type i) e

pub first_sane : Sane first_context
first_sane = record {
  safe = record { file = (λ x. refl); inner = tt };
  flat = refl;
  params = λ x. refl;
  complete = tt;
  counted = record { bytes = refl; small = omega arith };
  named = record {
    declared = λ i d e. cc;
    found = λ name type i e. absurd (no_functions 0 built_ins name type i e);
    owned = λ k w e. nothing_walked k w e;
    single = λ i j k d e x y p q. nothing_declared i d x;
    bound = λ i k d x p. absurd (nothing_at i d x);
  };
  strict = λ i k d x p. absurd (nothing_at i d x);
  length = refl;
  small = omega arith;
}
  where
    nothing_at : (i : ℕ) (d : Declared) → None ≡ Some d → ⊥
    nothing_at i d e = cc

    nothing_declared : {A : Type 0} (i : ℕ) (d : Declared) → None ≡ Some d → A
    nothing_declared i d e = cc

    nothing_walked : {A : Type 0} (k : ℕ) (w : Walked) → None ≡ Some w → A
    nothing_walked k w e = cc

pub walked_finished : (unit : Trees) → Led Finished (walked unit)
walked_finished unit c h = let b = behind_text unit c h in record { sane = externals_sane unit first_context first_sane c b.0; main = b.1 }

pub walked_sane : (unit : Trees) → Led Sane (walked unit)
walked_sane unit c h = (walked_finished unit c h).sane
