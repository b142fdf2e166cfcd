-- A return does in code what it does in the core.
use Rattle.meaning_laws.proofs.Words.Core.{Atom, Code, Core, Frame, Func, Instr, Object, Site, State, Stm, Value, end_numbers, ended, site_of, written}
use Rattle.meaning_laws.proofs.Words.Meaning.{IsCompiled, Pins, Waits, WaitsAt, code_left, fewer, func_sites, handed_atoms, may_free, more, pins_of, place_of, pointer_in, pointer_of_register, statement_at, statement_in, statement_sites, to_chosen, with_objects, with_register, without_those_inside}
use Rattle.meaning_laws.proofs.Words.Std.{Bool, List, None, Option, Some, [], ap, arith, cond, enumerate_from, eq-eqb, false, filter, flat_map, length, map, nat_eq, ne_eqb, option_and_then, range_with_len, refl, slice_get, subst, suc, sum_by, sum_by-cons, sym, true, unwrap_or, zero, ℕ, ◌++◌, ◌+◌, ◌-◌, ◌<◌, ◌∙◌, ◌∷◌, ◌≡◌}
use Rattle.meaning_laws.proofs.agreement.Places.{place_at, place_is, place_next, place_before, place_first, place_some}
use Rattle.object_meaning.specs.counted.Pinning.{pinned}
use Rattle.meaning_laws.proofs.counts.Listed.{AreListed}
use Rattle.meaning_laws.proofs.agreement.Keeping.{moved_frame, waiting_frame, moved_same, Follows, IsLast, acting, count_same}
use Rattle.core_tree.specs.declared.statements.StmKind.TheVariants as stm
use Rattle.flat_code.specs.declared.instructions.Op.TheVariants as op
use Rattle.object_meaning.specs.objects.Holding as holding
use Rattle.object_meaning.specs.objects.Calls as core_calls
use Rattle.object_meaning.specs.counted.Returning as counted
use Rattle.object_meaning.specs.code.Returning as returning

-- The site of a statement, and the pins that count in a frame of code.

-- all sites of a list stand before an instruction
abbrev AllBefore : ℕ → List Site → Type 0
AllBefore p [] = Unit {0}
AllBefore p (site ∷ sites) = (site.instr < p) × AllBefore p sites

both_before : (p : ℕ) (front back : List Site) → AllBefore p front → AllBefore p back → AllBefore p (front ++ back)
both_before p [] back h i = i
both_before p (site ∷ front) back h i = (h.0, both_before p front back h.1 i)

one_before : (p : ℕ) (has : Bool) (site : Site) → site.instr < p → AllBefore p (cond has (site ∷ []) [])
one_before p true site h = (h, tt)
one_before p false site h = tt

-- the first site of an instruction is in the first list that has one
site_behind : (p : ℕ) (front back : List Site) → AllBefore p front → site_of (front ++ back) p ≡ site_of back p
site_behind p [] back h = refl
site_behind p (site ∷ front) back h =
    ap (λ b. cond b (Some site.pins) (site_of (front ++ back) p)) (ne_eqb site.instr p (λ e. omega (arith, e, h.0)))
    ∙ site_behind p front back h.1

first_by : (is : Bool) (one : List ℕ) (pins : List ℕ) (rest more : Option (List ℕ)) → cond is (Some one) rest ≡ Some pins → (rest ≡ Some pins → more ≡ Some pins) → cond is (Some one) more ≡ Some pins
first_by true one pins rest more e h = e
first_by false one pins rest more e h = h e

site_first : (p : ℕ) (front back : List Site) (pins : List ℕ) → site_of front p ≡ Some pins → site_of (front ++ back) p ≡ Some pins
site_first p [] back pins e = absurd (cc)
site_first p (site ∷ front) back pins e =
    first_by (nat_eq site.instr p) site.pins pins (site_of front p) (site_of (front ++ back) p) e (site_first p front back pins)

module _ {X : Type 0} (sites : ℕ × X → List Site) (p : ℕ) where
  -- the sites that items give one after another
  all_before : (a : ℕ) (xs : List X) → ((j : ℕ) (y : X) → slice_get xs j ≡ Some y → AllBefore p (sites (a + j, y))) → AllBefore p (flat_map sites (enumerate_from a xs))
  all_before a [] h = tt
  all_before a (x ∷ xs) h =
      let here : a + 0 ≡ a = omega arith in
      both_before p (sites (a, x)) (flat_map sites (enumerate_from (a + 1) xs)) (subst (λ i. AllBefore p (sites (i, x))) here (h 0 x refl)) (all_before (a + 1) xs (λ j y at. let there : a + suc j ≡ a + 1 + j = omega arith in subst (λ i. AllBefore p (sites (i, y))) there (h (suc j) y at)))

  found_in : (pins : List ℕ) (a : ℕ) (xs : List X) (k : ℕ) (x : X) → slice_get xs k ≡ Some x → ((j : ℕ) (y : X) → j < k → slice_get xs j ≡ Some y → AllBefore p (sites (a + j, y))) → site_of (sites (a + k, x)) p ≡ Some pins → site_of (flat_map sites (enumerate_from a xs)) p ≡ Some pins
  found_in pins a [] k x e h is = absurd (cc)
  found_in pins a (y ∷ xs) zero x e h is =
      let here : a + 0 ≡ a = omega arith in
      let same : x ≡ y = cc in
      site_first p (sites (a, y)) (flat_map sites (enumerate_from (a + 1) xs)) pins (ap (λ z. site_of (sites (a, z)) p) (sym same) ∙ ap (λ i. site_of (sites (i, x)) p) (sym here) ∙ is)
  found_in pins a (y ∷ xs) (suc k) x e h is =
      let here : a + 0 ≡ a = omega arith in
      let there : a + suc k ≡ a + 1 + k = omega arith in
      site_behind p (sites (a, y)) (flat_map sites (enumerate_from (a + 1) xs)) (subst (λ i. AllBefore p (sites (i, y))) here (h 0 y (omega arith) refl))
      ∙ found_in pins (a + 1) xs k x e (λ j z lt at. let on : a + suc j ≡ a + 1 + j = omega arith in subst (λ i. AllBefore p (sites (i, z))) on (h (suc j) z (omega (arith, lt)) at)) (subst (λ i. site_of (sites (i, x)) p ≡ Some pins) there is)

module _ (core : Core) (pins : Pins) (code : Code) (compiled : IsCompiled core pins code) (f : ℕ) (func : Func) (here : slice_get core.funcs f ≡ Some func) (point : ℕ) (stm : Stm) (at : slice_get func.body point ≡ Some stm) (frees : may_free stm.kind ≡ true) where
  -- the last instruction of the statement
  abbrev last : ℕ
  last = place_of core f func.body point + length (handed_atoms stm.kind)

  abbrev of_statements : ℕ → Func → ℕ × Stm → List Site
  of_statements g other = statement_sites core pins g other

  own_site : site_of (of_statements f func (point, stm)) last ≡ Some (pins_of pins f point)
  own_site =
      let site : Site = record { instr = last; pins = pins_of pins f point } in
      ap (λ has. site_of (cond has (site ∷ []) []) last) frees
      ∙ ap (λ is. cond is (Some (pins_of pins f point)) None) (eq-eqb last last refl)

  earlier_statement : (k : ℕ) (other : Stm) → k < point → slice_get func.body k ≡ Some other → AllBefore last (of_statements f func (k, other))
  earlier_statement k other lt there =
      one_before last (may_free other.kind) _ (omega (arith, place_before core f func here k point other there lt))

  own_sites : site_of (func_sites core pins (f, func)) last ≡ Some (pins_of pins f point)
  own_sites =
      found_in (of_statements f func) last (pins_of pins f point) 0 func.body point stm at (λ k other lt there. let same : k ≡ 0 + k = omega arith in subst (λ i. AllBefore last (of_statements f func (i, other))) same (earlier_statement k other lt there)) (let same : point ≡ 0 + point = omega arith in subst (λ i. site_of (of_statements f func (i, stm)) last ≡ Some (pins_of pins f point)) same own_site)

  earlier_function : (g : ℕ) (other : Func) → g < f → slice_get core.funcs g ≡ Some other → AllBefore last (func_sites core pins (g, other))
  earlier_function g other lt there =
      all_before (of_statements g other) last 0 other.body (λ k s listed. let same : k ≡ 0 + k = omega arith in subst (λ i. AllBefore last (of_statements g other (i, s))) same (one_before last (may_free s.kind) _ (omega (arith, place_first core g other there k f s listed lt))))

  site_there : site_of code.sites last ≡ Some (pins_of pins f point)
  site_there =
      ap (λ sites. site_of sites last) compiled.sites
      ∙ found_in (func_sites core pins) last (pins_of pins f point) 0 core.funcs f func here (λ g other lt there. let same : g ≡ 0 + g = omega arith in subst (λ i. AllBefore last (func_sites core pins (i, other))) same (earlier_function g other lt there)) (let same : f ≡ 0 + f = omega arith in subst (λ i. site_of (func_sites core pins (i, func)) last ≡ Some (pins_of pins f point)) same own_sites)

  -- the pins of a statement that may free are those of its last instruction
  pub pins_there : (q : ℕ) → q ≡ place_at core f point + length (handed_atoms stm.kind) → unwrap_or (site_of code.sites q) [] ≡ pins_of pins f point
  pins_there q e =
      let same : q ≡ last = omega (arith, e, place_is core f func here point) in
      ap (λ i. unwrap_or (site_of code.sites i) []) same ∙ ap (λ o. unwrap_or o []) site_there

  -- and those of a frame that waits there
  pub pins_waiting : unwrap_or (site_of code.sites (place_at core f (point + 1) - 1)) [] ≡ pins_of pins f point
  pins_waiting = pins_there (place_at core f (point + 1) - 1) (omega (arith, place_next core f func here point stm at))

-- A return does in code what it does in the core.

-- a call writes the same register in code
chosen_same : (answer : Option ℕ) (callee : ℕ) → written (to_chosen answer op.Call callee) (to_chosen answer op.Call callee).op ≡ answer
chosen_same None callee = refl
chosen_same (Some r) callee = refl

-- nothing passes a test that fails everywhere
none_passes : (a n : ℕ) → filter (λ r. false) (range_with_len a n) ≡ []
none_passes a zero = refl
none_passes a (suc n) = none_passes (a + 1) n

-- no pointers come
none_more : (numbers : ℕ → ℕ) → more numbers [] ≡ numbers
none_more numbers =
    let none : (birth : ℕ) → more numbers [] birth ≡ numbers birth = λ birth. omega arith in λ i birth. none birth i

module _ (core : Core) (pins : Pins) (code : Code) (compiled : IsCompiled core pins code) (caller : Frame) (objects : List Object) (top depth : ℕ) (w : WaitsAt core objects top depth caller) where
  core_answer : holding.answer_register (statement_at core caller) ≡ w.answer
  core_answer =
      ap (λ o. holding.answer_register (statement_in o caller.point)) w.here ∙ ap holding.answer_register w.at

  at_call : (waiting_frame core caller).point ≡ place_at core caller.func caller.point + length w.args
  at_call = omega (arith, place_next core caller.func w.func w.here caller.point _ w.at)

  code_answer : returning.answer_register code (waiting_frame core caller) ≡ w.answer
  code_answer =
      let call = (compiled.statements caller.func caller.point w.func _ w.here w.at).does in
      let place : (waiting_frame core caller).point ≡ _ = at_call ∙ ap (λ p. p + length w.args) (place_is core caller.func w.func w.here caller.point) in
      ap (λ p. option_and_then (λ (i : Instr). written i i.op) (slice_get code.instrs p)) place
      ∙ ap (option_and_then (λ (i : Instr). written i i.op)) call.1
      ∙ ap (λ (i : Instr). written i i.op) call.2
      ∙ chosen_same w.answer w.callee

  behind : (waiting_frame core caller).point + 1 ≡ place_at core caller.func (caller.point + 1)
  behind = omega (arith, place_some core caller.func w.func w.here (caller.point + 1))

  register_same : (answer : Option ℕ) (v : Value) → (let f = with_register answer v (waiting_frame core caller) in let g : Frame = record f { point = (waiting_frame core caller).point + 1 } in g) ≡ moved_frame core (let f = with_register answer v caller in let g : Frame = record f { point = caller.point + 1 } in g)
  register_same None v = ap (λ p. let g : Frame = record caller { point = p } in g) behind
  register_same (Some r) v =
      ap (λ p. let g : Frame = record (with_register (Some r) v caller) { point = p } in g) behind

  pub resumed_same : (v : Value) → returning.resumed code v (waiting_frame core caller) ≡ moved_frame core (core_calls.resumed core v caller)
  resumed_same v =
      ap (λ answer. let f = with_register answer v (waiting_frame core caller) in let g : Frame = record f { point = (waiting_frame core caller).point + 1 } in g) code_answer
      ∙ register_same w.answer v
      ∙ ap (λ answer. moved_frame core (let f = with_register answer v caller in let g : Frame = record f { point = caller.point + 1 } in g)) (sym core_answer)

module _ (core : Core) (pins : Pins) (code : Code) (compiled : IsCompiled core pins code) (listed : AreListed core pins) (s : State) (q j : ℕ) (last : IsLast core code s q j) (func : Func) (here : slice_get core.funcs s.running.func ≡ Some func) (line : ℕ) (a : Option Atom) (at : slice_get func.body s.running.point ≡ Some (record { line = line; kind = stm.Return a })) (numbers : ℕ → ℕ) (v : Value) where
  abbrev there : State
  there = acting core code s q j last s

  -- the newest waiting frame goes on, and its pins count no longer
  back_follows : (objects : List Object) (n : ℕ → ℕ) (waiting : List Frame) → waiting ≡ s.waiting → (top total : ℕ) → Waits core s.objects top total waiting → Follows core code s j (counted.go_back core pins v waiting n (with_objects s objects)) (returning.go_back code v (map (waiting_frame core) waiting) n (with_objects there objects))
  back_follows objects n [] e top total w =
      (refl, refl, moved_same core (with_objects s objects) q, refl, (moved_same core (with_objects s objects) q, refl))
  back_follows objects n (caller ∷ rest) e top total w =
      let same = resumed_same core pins code compiled caller s.objects top w.0 w.3 v in
      let own = pins_waiting core pins code compiled caller.func w.3.func w.3.here caller.point _ w.3.at refl in (
        refl,
        refl,
        record {
          same = ap (λ frame. let u : State = record (with_objects there objects) { running = frame; waiting = map (waiting_frame core) rest } in u) same;
          left = omega (arith, last.here, last.within, ap (code_left code) same, ap (λ frames. sum_by (code_left code) (map (waiting_frame core) frames)) e, sum_by-cons (code_left code) (waiting_frame core caller) (map (waiting_frame core) rest));
        },
        ap (λ registers. fewer n (map (pointer_of_register caller) registers)) own,
        (moved_same core (with_objects s objects) q, refl),
      )

  abbrev locals : List ℕ
  locals = core_calls.running_locals core s

  locals_same : returning.running_locals code there ≡ locals
  locals_same = ap (range_with_len s.running.first_local) (count_same core pins code compiled s.running.func func here)

  -- no register counts at a return
  no_more : more numbers (pinned pins s.running) ≡ numbers
  no_more =
      let none : pins_of pins s.running.func s.running.point ≡ [] = listed s.running.func func here s.running.point _ at ∙ none_passes 0 (length func.regs) in
      ap (λ registers. more numbers (map (pointer_of_register s.running) registers)) none ∙ none_more numbers

  -- the memory locals end, or the first that escapes stops the run
  ends_follow : (o : Option ℕ) (top total : ℕ) → Waits core s.objects top total s.waiting → Follows core code s j (counted.end_locals core pins line v o numbers s) (returning.end_locals code line v locals o numbers there)
  ends_follow (Some birth) top total w = (refl, refl, moved_same core s q, refl, (moved_same core s q, refl))
  ends_follow None top total w =
      back_follows (ended s.objects locals) (without_those_inside s.objects locals numbers) s.waiting refl top total w

  abbrev escapes : (ℕ → ℕ) → Option ℕ
  escapes n = end_numbers s.objects locals (Some (pointer_in v)) n

  code_gives : returning.give_back code line v numbers there ≡ returning.end_locals code line v locals (escapes (more numbers (pinned pins s.running))) numbers there
  code_gives =
      ap (λ births. returning.end_locals code line v births (end_numbers s.objects births (Some (pointer_in v)) numbers) numbers there) locals_same
      ∙ ap (λ n. returning.end_locals code line v locals (escapes n) numbers there) (sym no_more)

  pub give_follows : (top total : ℕ) → Waits core s.objects top total s.waiting → Follows core code s j (counted.give_back core pins line v numbers s) (returning.give_back code line v numbers there)
  give_follows top total w =
      subst (λ n. Follows core code s j (counted.give_back core pins line v numbers s) n) (sym code_gives) (ends_follow (escapes (more numbers (pinned pins s.running))) top total w)
