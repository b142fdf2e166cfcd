-- A return: where the numbers are zero no pointer to the memory locals of the call is left, and they end; the frame that waited goes
-- on behind its call, or the run ends.
use Rattle.meaning_laws.proofs.Words.Core.{Code, Dead, EachAnswer, Entry, Frame, GivesTo, Instr, IsAt, IsWellFormed, Live, Local, Object, Op, Ready, Sort, State, Value, answered, chosen, end_numbers, ended, is_pointer_to, object_at, objects_of, pointers_inside, pointers_to, reads, reads_at, ready_at, writes, writes_at, written}
use Rattle.meaning_laws.proofs.Words.Meaning.{AreObjects, AreWaiting, CodeState, IsGood, IsNeeded, IsOfSort, IsPointer, StaysGood, at_point, fewer, give_back, in_pins, inside_living, inside_objects, is_among, layout_in, pinned, pointer_in, pointer_of_register, put, without_those_inside}
use Rattle.meaning_laws.proofs.Words.Std.{Bool, List, None, Option, Some, [], ap, arith, cases_lt, cond, eq-eqb, false, length, length-map, nat_eq, option_and_then, option_map_or, or_left, or_right, range_with_len, refl, slice_get, subst, suc, sym, true, true≢false, zero, ℕ, ⊎_elim, ◌+◌, ◌-◌, ◌<◌, ◌∙◌, ◌∷◌, ◌≡◌, ◌≢◌, ◌≤◌}
use Rattle.meaning_laws.proofs.dangling.Standing.{found}
use Rattle.flat_code.specs.declared.instructions.Op.TheVariants as op
use Rattle.object_meaning.specs.code.CodeState.{kept}
use Rattle.object_meaning.specs.code.Entering.{locals_of}
use Rattle.object_meaning.specs.code.Returning.{running_locals, answer_register, resumed, go_back, end_locals}
use Rattle.meaning_laws.proofs.counts.Objects.{living_split, ended_living}
use Rattle.meaning_laws.specs.code.Good.{Waits}
use Rattle.meaning_laws.proofs.soundness.Touching.{live_there, pointer_becomes, statics_become}
use Rattle.meaning_laws.proofs.soundness.Dropping.{Drops, ended_drops, ended_are_dead, ended_queue, drops_objects}
use Rattle.meaning_laws.proofs.soundness.Pinned.{by_register, pins_cons}
use Rattle.meaning_laws.proofs.soundness.Frames.{Holds, onto, holds_put, moves, waiting_become}
use Rattle.meaning_laws.proofs.soundness.Freeing.{none_held, no_holder}
use Rattle.meaning_laws.proofs.dangling.Returning.{in_range, out_range}
use Rattle.meaning_laws.proofs.counts.Calling.{once_range}

-- Births one after another

-- each of them is among them
range_has : (a n k : ℕ) → k < n → is_among (range_with_len a n) (a + k) ≡ true
range_has a zero k lt = absurd (omega arith)
range_has a (suc n) zero lt =
    or_left (nat_eq a (a + 0)) (is_among (range_with_len (a + 1) n) (a + 0)) (eq-eqb a (a + 0) (omega arith))
range_has a (suc n) (suc k) lt =
    let there : a + 1 + k ≡ a + suc k = omega arith in
    or_right (nat_eq a (a + suc k)) (is_among (range_with_len (a + 1) n) (a + suc k)) (subst (λ b. is_among (range_with_len (a + 1) n) b ≡ true) there (range_has (a + 1) n k (omega arith)))

-- The instruction of a frame that waits

module _ (code : Code) (wf : IsWellFormed code) (objects : List Object) (callee top depth : ℕ) (frame : Frame) (w : Waits code objects callee top depth frame) where
  own : IsAt code frame.func w.entry frame.point w.call
  own = record { function = w.stands.function; from = w.stands.from; before = w.stands.before; here = w.here }

  calling : Ready code frame.func w.entry frame.point w.call op.Call
  calling =
      subst (λ (o : Op). Ready code frame.func w.entry frame.point w.call o) w.calls (ready_at code wf frame.func w.entry frame.point w.call own)

  register_is : answer_register code frame ≡ chosen w.call
  register_is =
      ap (λ (o : Option Instr). option_and_then (λ (i : Instr). written i i.op) o) w.here ∙ ap (λ (o : Op). written w.call o) w.calls

  -- its register takes what each return of its function gives
  takes_answer : (result : Option Sort) → ((P : Option Sort → Type 0) → EachAnswer code callee P → P result) → GivesTo w.entry result (chosen w.call)
  takes_answer result each =
      each (λ answer. GivesTo w.entry answer (chosen w.call)) (subst (λ (g : ℕ). EachAnswer code g (λ answer. GivesTo w.entry answer (chosen w.call))) w.names calling.result.1)

  -- what is needed there counts: the call reads no register, and writes that of its answer alone
  not_read : (r : ℕ) → reads_at code frame.point r ≡ false
  not_read r =
      ap (λ (o : Option Instr). option_map_or (λ (i : Instr). reads i i.op r) o false) w.here ∙ ap (λ (o : Op). reads w.call o r) w.calls

  written_is : written w.call w.call.op ≡ answered w.call w.call.op
  written_is = ap (written w.call) w.calls ∙ sym (ap (answered w.call) w.calls)

  unanswered : (r : ℕ) → writes_at code frame.point r ≡ false → answered w.call w.call.op ≢ Some r
  unanswered r free e =
      let all : writes_at code frame.point r ≡ writes w.call w.call.op r = ap (λ (o : Option Instr). option_map_or (λ (i : Instr). writes i i.op r) o false) w.here in
      let some : writes w.call w.call.op r ≡ nat_eq r r = ap (λ (o : Option ℕ). option_map_or (λ k. nat_eq k r) o false) (written_is ∙ e) in
      true≢false (sym (all ∙ some ∙ eq-eqb r r refl) ∙ free)

  needed_counts : (r : ℕ) → IsNeeded code frame.point r → IsPointer objects (pointer_of_register frame r)
  needed_counts r needed =
      by_register (IsPointer objects) tt w.entry frame w.stands.registers r (λ sort. ⊎_elim (λ read. absurd (true≢false (sym read ∙ not_read r))) (λ both. w.counted r (record { sort = sort; live = both.1; kept = unanswered r both.0 })) needed)

-- The end of the locals

-- no pointer to an object among one
one_elsewhere : (b : Bool) → 0 + cond b 1 0 ≡ 0 → b ≡ false
one_elsewhere true h = absurd (omega (arith, h))
one_elsewhere false h = refl

module _ (code : Code) (wf : IsWellFormed code) (c : CodeState) (good : IsGood code c) (answer : Value) (leads : IsPointer c.state.objects (pointer_in answer)) where
  abbrev s : State
  s = c.state

  abbrev locals : List ℕ
  locals = running_locals code s

  abbrev new : List Object
  new = ended s.objects locals

  abbrev left : ℕ → ℕ
  left = without_those_inside s.objects locals c.numbers

  many : length (locals_of code (slice_get code.funcs s.running.func)) ≡ length good.entry.mems
  many = ap (λ (o : Option Entry). length (locals_of code o)) good.running.function ∙ length-map good.entry.mems (layout_in code)

  local_live : (b : ℕ) → is_among locals b ≡ true → (object_at s.objects b).standing ≡ Live
  local_live b i =
      let r = in_range s.running.first_local (length (locals_of code (slice_get code.funcs s.running.func))) b i in
      let m = found good.entry.mems r.0 (omega (arith, r.1, many)) in
      subst (λ k. (object_at s.objects k).standing ≡ Live) (sym r.2) (good.locals.each r.0 m.0 m.1).live

  drops : Drops s.objects new locals
  drops = ended_drops s.objects locals

  before_locals : (b : ℕ) → b < s.running.first_local → is_among locals b ≡ false
  before_locals b lt =
      out_range s.running.first_local (length (locals_of code (slice_get code.funcs s.running.func))) b lt

  module _ (none : end_numbers s.objects locals (Some (pointer_in answer)) c.numbers ≡ None) where
    -- no pointer that counts leads to an ending local, nor does the answer
    nowhere : (b : ℕ) → is_among locals b ≡ true → (length (inside_objects locals b s.objects) ≡ 0) × (in_pins code b s.waiting ≡ 0) × (pointers_to b (pointer_in answer ∷ []) ≡ 0)
    nowhere b i =
        let zero = none_held (λ x. c.numbers x - pointers_inside x (objects_of s.objects locals) + pointers_to x (pointer_in answer ∷ [])) locals none b i in
        let split = living_split locals s.objects (once_range s.running.first_local (length (locals_of code (slice_get code.funcs s.running.func)))) (λ k j. live_there s.objects k (local_live k j)) b in
        let number = good.numbers b in
        (omega (arith, zero, split, number), omega (arith, zero, split, number), omega (arith, zero))

    whole : AreObjects new
    whole =
        drops_objects s.objects new locals drops (λ b dies. no_holder _ (nowhere b dies).0) good.objects

    answer_leads : IsPointer new (pointer_in answer)
    answer_leads =
        pointer_becomes s.objects new locals drops.becomes (pointer_in answer) leads (λ b dies. one_elsewhere (is_pointer_to b (pointer_in answer)) (nowhere b dies).2)

    waiting_left : AreWaiting code new s.running.func s.running.first_local good.others s.waiting
    waiting_left =
        waiting_become code wf s.objects new locals drops.becomes s.running.func s.running.first_local good.others s.waiting (omega (arith, good.locals.below)) (λ b lt heap. before_locals b lt) (λ b dies. (nowhere b dies).1) good.waiting

    left_counts : (x : ℕ) → left x ≡ inside_living x new + in_pins code x s.waiting
    left_counts x =
        omega (arith, good.numbers x, ended_living s.objects locals (once_range s.running.first_local (length (locals_of code (slice_get code.funcs s.running.func)))) (λ k j. live_there s.objects k (local_live k j)) x)

    -- a memory local behind those of a frame that waits has ended
    ended_behind : (b f k : ℕ) → s.running.first_local ≤ b → b < length new → (object_at new b).sort ≡ Local f k → (object_at new b).standing ≡ Dead
    ended_behind b f k from before is =
        let within : b < length s.objects = omega (arith, before, drops.long) in
        ⊎_elim
        (λ lt.
        let k = b - s.running.first_local in
        let here : s.running.first_local + k ≡ b = omega arith in
        ended_are_dead s.objects locals b (subst (λ x. is_among locals x ≡ true) here (range_has s.running.first_local (length (locals_of code (slice_get code.funcs s.running.func))) k (omega (arith, many)))))
        (λ le.
        drops.becomes.dead b within (good.locals.ended b f k le within (sym (drops.becomes.sort b within) ∙ is)))
        (cases_lt b (s.running.first_local + length good.entry.mems))

    -- The frame that goes on

    module _ (closed : good.scopes ≡ 0) (result : Option Sort) (each : (P : Option Sort → Type 0) → EachAnswer code s.running.func P → P result) (is : (sort : Sort) → result ≡ Some sort → IsOfSort (Some sort) answer) where
      module _ (frame : Frame) (rest : List Frame) (depth others : ℕ) (sum : good.others ≡ depth + others) (w : Waits code new s.running.func s.running.first_local depth frame) (waits : AreWaiting code new frame.func frame.first_local others rest) (counts : (x : ℕ) → left x ≡ inside_living x new + in_pins code x (frame ∷ rest)) where
        abbrev again : State
        again = record s { objects = new; running = frame; waiting = rest }

        abbrev fewer_left : ℕ → ℕ
        fewer_left = fewer left (pinned code frame)

        at_call : Holds code w.entry depth others (IsNeeded code) fewer_left again
        at_call = record {
          running = w.stands;
          fresh = needed_counts code wf new s.running.func s.running.first_local depth frame w;
          locals = record {
            each = w.locals.each;
            above = w.locals.above;
            below = omega (arith, w.locals.below, good.locals.below, drops.long);
            ended = λ b f k from before sort.
                ⊎_elim (λ lt. w.locals.ended b f k from lt sort) (λ le. ended_behind b f k le before sort) (cases_lt b s.running.first_local);
          };
          waiting = waits;
          objects = whole;
          statics = statics_become s.objects new locals drops.becomes code s.running.first_local good.locals.above (λ b lt heap. before_locals b lt) good.statics;
          queue = ended_queue s.objects locals s.queue good.queue local_live;
          numbers = λ x. omega (arith, counts x, pins_cons code x frame rest);
          input = good.input;
        }

        -- with a register for the answer, or none
        resumes : (r : Option ℕ) → GivesTo w.entry result r → written w.call w.call.op ≡ r → IsGood code (kept fewer_left (at_point (put again r answer) (frame.point + 1)))
        resumes None gives e =
            let p = holds_put code w.entry depth others fewer_left again at_call w.call w.here result None gives e answer is answer_leads in
            moves code w.entry depth others fewer_left (put again None answer) p w.call w.here op.Call (calling code wf new s.running.func s.running.first_local depth frame w) refl (frame.point + 1) (onto frame.point) (omega (arith, good.depth, closed, sum)) good.emptied
        resumes (Some q) gives e =
            let p = holds_put code w.entry depth others fewer_left again at_call w.call w.here result (Some q) gives e answer is answer_leads in
            moves code w.entry depth others fewer_left (put again (Some q) answer) p w.call w.here op.Call (calling code wf new s.running.func s.running.first_local depth frame w) refl (frame.point + 1) (onto frame.point) (omega (arith, good.depth, closed, sum)) good.emptied

        resumed_good : IsGood code (kept fewer_left (record s { objects = new; running = resumed code answer frame; waiting = rest }))
        resumed_good =
            let is_chosen = register_is code wf new s.running.func s.running.first_local depth frame w in
            let gives = subst (λ (x : Option ℕ). GivesTo w.entry result x) (sym is_chosen) (takes_answer code wf new s.running.func s.running.first_local depth frame w result each) in
            resumes (answer_register code frame) gives (ap (written w.call) w.calls ∙ sym is_chosen)

      back_stays : (waiting : List Frame) → AreWaiting code new s.running.func s.running.first_local good.others waiting → ((x : ℕ) → left x ≡ inside_living x new + in_pins code x waiting) → StaysGood code (go_back code answer waiting left (record s { objects = new }))
      back_stays [] h counts = λ e. cc
      back_stays (frame ∷ rest) h counts = resumed_good frame rest h.0 h.1 h.2 h.3 h.4 counts

  module _ (closed : good.scopes ≡ 0) (result : Option Sort) (each : (P : Option Sort → Type 0) → EachAnswer code s.running.func P → P result) (is : (sort : Sort) → result ≡ Some sort → IsOfSort (Some sort) answer) (line : ℕ) where
    end_stays : (held : Option ℕ) → end_numbers s.objects locals (Some (pointer_in answer)) c.numbers ≡ held → StaysGood code (end_locals code line answer locals held c.numbers s)
    end_stays (Some b) e = λ i. cc
    end_stays None e = back_stays e closed result each is s.waiting (waiting_left e) (left_counts e)

    -- a return
    pub give_stays : StaysGood code (give_back code line answer c.numbers s)
    give_stays = end_stays (end_numbers s.objects locals (Some (pointer_in answer)) c.numbers) refl
