-- Scopes are opened and closed alike, and a check decides alike.
use Rattle.meaning_laws.proofs.Words.Core.{BadFree, Code, Core, Event, Frame, Func, Holder, Object, State, Stm, Value, buried, check_numbers, is_pointer_to, line_of_free, object_at, site_of}
use Rattle.meaning_laws.proofs.Words.Meaning.{IsCompiled, Pins, SameState, at_point, bury, counts_at, holds_on, inside_objects, more, pins_of, pointer_of_register, without_those_inside}
use Rattle.meaning_laws.proofs.Words.Std.{List, None, Option, Some, [], ap, filter, flat_map, map, refl, reverse, slice_get, subst, suc, sym, unwrap_or, zero, ℕ, ◌++◌, ◌+◌, ◌∙◌, ◌∷◌, ◌≡◌}
use Rattle.object_meaning.specs.code.Checking.{in_pins}
use Rattle.meaning_laws.proofs.counts.Sorting.{HasSorts, CallsIt, Calls, InOrder, same_func}
use Rattle.meaning_laws.proofs.counts.Listed.{AreListed, held_by_pins, holders_by_pins, turned}
use Rattle.meaning_laws.proofs.agreement.Keeping.{waiting_frame, moved, moved_same, Alike, Follows, IsLast, acting, arrives}
use Rattle.meaning_laws.proofs.agreement.Returns.{pins_waiting}
use Rattle.object_meaning.specs.objects.Holding.{first_of}
use Rattle.hs_base.specs.declared.ends.Holder.TheVariants as holder
use Rattle.core_tree.specs.declared.statements.StmKind.TheVariants as stm
use Rattle.object_meaning.specs.objects.Holding as holding
use Rattle.object_meaning.specs.code.Checking as checking
use Rattle.hs_base.specs.declared.ends.Reason.TheVariants as reason
use Rattle.object_meaning.specs.objects.Scoping as scoping
use Rattle.object_meaning.specs.counted.CountedState as counted
use Rattle.object_meaning.specs.counted.Checking as counted_checking

-- The holders of an object are the same in a core and in its code.

-- the pinned registers of a frame that point to an object, from their numbers
abbrev held_in : ℕ → Frame → List ℕ → List Holder
held_in x frame registers =
    map (λ r. holder.Register frame.func r) (filter (λ r. is_pointer_to x (pointer_of_register frame r)) registers)

module _ (core : Core) (pins : Pins) (code : Code) (compiled : IsCompiled core pins code) (x : ℕ) where
  one_waiting : (callee : ℕ) (frame : Frame) → CallsIt core callee frame → in_pins code x (waiting_frame core frame) ≡ held_by_pins pins x frame
  one_waiting callee frame w =
      let called : Stm = record { line = w.line; kind = stm.Call callee w.answer w.args } in
      ap (held_in x frame) (pins_waiting core pins code compiled frame.func w.func w.here frame.point called w.at refl)

  all_waiting : (callee : ℕ) (waiting : List Frame) → Calls core callee waiting → flat_map (in_pins code x) (reverse (map (waiting_frame core) waiting)) ≡ flat_map (held_by_pins pins x) (reverse waiting)
  all_waiting callee [] h = refl
  all_waiting callee (frame ∷ waiting) h =
      turned (in_pins code x) (waiting_frame core frame) (map (waiting_frame core) waiting)
      ∙ ap (λ hs. hs ++ in_pins code x (waiting_frame core frame)) (all_waiting frame.func waiting h.1)
      ∙ ap (λ hs. flat_map (held_by_pins pins x) (reverse waiting) ++ hs) (one_waiting callee frame h.0)
      ∙ sym (turned (held_by_pins pins x) frame waiting)

  -- at a statement where objects may be freed, also where its registers and objects were changed
  pub holders_same : AreListed core pins → (s : State) (func : Func) (here : slice_get core.funcs s.running.func ≡ Some func) → InOrder core s → (stm : Stm) → slice_get func.body s.running.point ≡ Some stm → ((r : ℕ) → counts_at func s.running.point stm.kind r ≡ holds_on func s.running.point r) → (q : ℕ) → unwrap_or (site_of code.sites q) [] ≡ pins_of pins s.running.func s.running.point → (objects : List Object) (regs : List Value) → HasSorts func regs → (left : List ℕ) → (let t : State = record s { objects = objects; running = record s.running { regs = regs } } in checking.holders code (at_point (moved core t) q) x left ≡ holding.holders core t x left)
  holders_same listed s func here order stm at all q own objects regs sorts left =
      let frame : Frame = record s.running { regs = regs } in
      let t : State = record s { objects = objects; running = frame; queue = [] } in
      let calm : InOrder core t = record { sorts = λ g there. subst (λ (f : Func). HasSorts f regs) (same_func core s.running.func func g here there) sorts; calls = order.calls; once = tt } in
      ap (λ hs. inside_objects left x objects ++ hs ++ held_in x frame (unwrap_or (site_of code.sites q) [])) (all_waiting s.running.func s.waiting order.calls)
      ∙ ap (λ rs. inside_objects left x objects ++ flat_map (held_by_pins pins x) (reverse s.waiting) ++ held_in x frame rs) own
      ∙ sym (holders_by_pins core pins listed x t func here stm at all calm left)

-- Scopes are opened and closed alike, and a check decides alike.

-- a scope is opened
pub enter_follows : (core : Core) (code : Code) (s : State) (q j : ℕ) (last : IsLast core code s q j) (numbers : ℕ → ℕ) → Follows core code s j (counted.same_numbers numbers (scoping.enter s)) (checking.enter numbers (acting core code s q j last s))
enter_follows core code s q j last numbers =
    (refl, refl, arrives core code s q j last (record s { scopes = s.scopes + 1 }) (record { func = refl; point = refl; waiting = refl; steps = refl }), refl, (moved_same core s q, refl))

module _ (core : Core) (pins : Pins) (code : Code) (compiled : IsCompiled core pins code) (listed : AreListed core pins) (s : State) (func : Func) (here : slice_get core.funcs s.running.func ≡ Some func) (order : InOrder core s) (stm : Stm) (at : slice_get func.body s.running.point ≡ Some stm) (all : (r : ℕ) → counts_at func s.running.point stm.kind r ≡ holds_on func s.running.point r) (q j : ℕ) (last : IsLast core code s q j) (own : unwrap_or (site_of code.sites q) [] ≡ pins_of pins s.running.func s.running.point) where
  abbrev there : State → State
  there t = acting core code s q j last t

  -- the state at a check: a statement may have changed the objects, a register, the queue and the scopes
  abbrev changed : List Object → List Value → List ℕ → ℕ → State
  changed objects regs queue scopes =
      record s { objects = objects; running = record s.running { regs = regs }; queue = queue; scopes = scopes }

  changed_alike : (objects : List Object) (regs : List Value) (queue : List ℕ) (scopes : ℕ) → Alike s (changed objects regs queue scopes)
  changed_alike objects regs queue scopes = record { func = refl; point = refl; waiting = refl; steps = refl }

  module _ (objects : List Object) (regs : List Value) (sorts : HasSorts func regs) (queue : List ℕ) (first numbers : ℕ → ℕ) (b c : State) (same : SameState b c) (events : List Event) where
    -- it gives the queued objects back, or names the first holder of one that is held
    decided_follows : (scopes : ℕ) (o : Option ℕ) → (let t = changed objects regs queue scopes in Follows core code s j (counted.numbered first (λ _ after. without_those_inside objects queue numbers) numbers (scoping.decided core o b events t)) (checking.decided code o first c events numbers (there t)))
    decided_follows scopes None =
        (refl, refl, arrives core code s q j last (bury (changed objects regs queue scopes)) (changed_alike (buried objects) regs [] 0), refl, (same, refl))
    decided_follows scopes (Some birth) =
        let holders = holders_same core pins code compiled birth listed s func here order stm at all q own objects regs sorts queue in
        (refl, ap (λ hs. BadFree reason.Held (line_of_free (object_at objects birth).standing) (first_of hs)) holders, moved_same core (changed objects regs queue scopes) q, refl, (same, refl))

    -- the check, with the same pins
    pub checked_follows : (scopes : ℕ) → (let t = changed objects regs queue scopes in Follows core code s j (counted_checking.checked core pins first b events numbers t) (checking.checked code first c events numbers (there t)))
    checked_follows scopes =
        let t = changed objects regs queue scopes in
        let decide : List ℕ → Option ℕ = λ registers. check_numbers objects queue (more numbers (map (pointer_of_register t.running) registers)) in
        subst (λ o. Follows core code s j (counted_checking.checked core pins first b events numbers t) (checking.decided code o first c events numbers (there t))) (sym (ap decide own)) (decided_follows scopes (decide (pins_of pins s.running.func s.running.point)))

    -- a free goes on, or has a scope of its own
    pub in_scope_follows : (n scopes : ℕ) → (let t = changed objects regs queue scopes in Follows core code s j (counted_checking.in_scope core pins n first b events numbers t) (checking.in_scope code n first c events numbers (there t)))
    in_scope_follows zero scopes = checked_follows 1
    in_scope_follows (suc n) scopes =
        (refl, refl, arrives core code s q j last (changed objects regs queue scopes) (changed_alike objects regs queue scopes), refl, (same, refl))

  -- a scope is closed
  pub leave_follows : (numbers : ℕ → ℕ) (n : ℕ) → Follows core code s j (counted_checking.leave core pins n numbers s) (checking.leave code n numbers (there s))
  leave_follows numbers zero = (refl, refl, moved_same core s q, refl, (moved_same core s q, refl))
  leave_follows numbers (suc zero) =
      checked_follows s.objects s.running.regs (order.sorts func here) s.queue numbers numbers s (there s) (moved_same core s q) [] s.scopes
  leave_follows numbers (suc (suc n)) =
      (refl, refl, arrives core code s q j last (record s { scopes = suc n }) (record { func = refl; point = refl; waiting = refl; steps = refl }), refl, (moved_same core s q, refl))
