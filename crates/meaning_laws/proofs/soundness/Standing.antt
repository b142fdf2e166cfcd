-- What an effect on a good state leads to is good, or it ends the run for another reason than want of life.
use Rattle.meaning_laws.proofs.Words.Core.{Code, GivesTo, I32, Instr, Integer, IsAt, IsLive, IsWellFormed, Layout, Object, Op, Pointer, Ready, Refusal, Sort, State, Value, edges, hands, scopes_after, written}
use Rattle.meaning_laws.proofs.Words.Meaning.{AreObjects, Changes, CodeState, IsByte, IsGood, IsNeeded, IsOfSort, IsOperand, IsPointer, IsQueue, Next, OnDone, Renumbers, SamePointers, StaysGood, address, answers, at_point, branch, changes, enter, filled, get_byte, heap_living, heap_object, if_done, made, no_place, number, onward, other_numbers, pointer_in, print, put, put_line, renumbered, same_numbers, start_of, with_objects, write}
use Rattle.meaning_laws.proofs.Words.Std.{All, All-head, All-tail, Bool, Contains, Err, List, None, Ok, Option, Result, Some, [], ap, arith, false, ints, length, negsuc, pos, refl, subst, suc, sym, true, zero, ℕ, ◌++◌, ◌+◌, ◌<◌, ◌^◌, ◌∙◌, ◌∷◌, ◌≡◌}
use Rattle.hs_base.specs.declared.values.Pointer.TheVariants as pointer
use Rattle.c_types.specs.Layouts.{IsSound}
use Rattle.core_tree.specs.Sorts.{Pointer as Address}
use Rattle.meaning_laws.proofs.dangling.Touching.{Done, Lives}
use Rattle.meaning_laws.proofs.dangling.Standing.{refused}
use Rattle.flat_code.specs.declared.instructions.Op.TheVariants as op
use Rattle.object_meaning.specs.code.CodeState.{kept}
use Rattle.object_meaning.specs.code.Entering.{with_step}
use Rattle.meaning_laws.specs.code.Counts.{AreCounts}
use Rattle.meaning_laws.proofs.soundness.Touching.{IsInteger, integer_is, natural_number, wrapped_number, Changed, alike_queue, Grows, Born, grows_same, alike_grows, none_born, pointer_grows}
use Rattle.meaning_laws.proofs.soundness.Made.{heap_is, append_grows, one_more, one_queue, one_born, new_start}
use Rattle.meaning_laws.proofs.soundness.Frames.{Holds, holds_of, holds_grow, holds_put, moves}

module _ (code : Code) (wf : IsWellFormed code) (c : CodeState) (good : IsGood code c) (i : Instr) (at : IsAt code c.state.running.func good.entry c.state.running.point i) where
  abbrev s : State
  s = c.state

  -- the instruction does an operation
  abbrev pub IsReady : Op → Type 0
  IsReady o = Ready code c.state.running.func good.entry c.state.running.point i o

  -- it leads to the next one, and opens and closes no scope; a register takes its result
  pub record IsPlain (o : Op) (r : Option ℕ) : Type 0 where
    pub takes : hands o ≡ false
    pub edge : Contains (edges i o c.state.running.point) (c.state.running.point + 1)
    pub same : scopes_after o good.scopes ≡ good.scopes
    pub writes : written i o ≡ r

  abbrev Within : (ℕ → ℕ → Type 0) → (ℕ → ℕ) → State → Type 0
  Within = Holds code good.entry good.scopes good.others

  abbrev Before : (ℕ → ℕ) → State → Type 0
  Before = Within (IsNeeded code)

  before : Before c.numbers s
  before = holds_of code c good

  -- Registers

  -- a register takes a value, where other objects and other input are there
  pub write_good : (o : Op) → IsReady o → (result : Option Sort) (r : Option ℕ) → IsPlain o r → GivesTo good.entry result r → (objects : List Object) → Grows s.objects objects → Born s.objects objects → AreObjects objects → IsQueue objects s.queue → (input : List ℕ) → All IsByte input → (v : Value) → IsOperand objects result v → (n : ℕ → ℕ) → AreCounts code (kept n (record s { objects = objects; input = input })) → IsGood code (kept n (write (record s { objects = objects; input = input }) r v))
  write_good o ready result None plain gives objects g born whole q input bytes v is n counts =
      let t : State = record s { objects = objects; input = input } in
      let h = holds_grow code good.entry good.scopes good.others wf (IsNeeded code) c.numbers s before objects g born whole s.queue q s.scopes input bytes s.steps n counts in
      let p = holds_put code good.entry good.scopes good.others n t h i at.here result None gives (ap (written i) ready.is ∙ plain.writes) v (λ sort e. subst (λ (x : Option Sort). IsOfSort x v) e is.0) is.1 in
      moves code good.entry good.scopes good.others n (put t None v) p i at.here o ready plain.takes (s.running.point + 1) plain.edge (omega (arith, good.depth, plain.same)) good.emptied
  write_good o ready result (Some r) plain gives objects g born whole q input bytes v is n counts =
      let t : State = record s { objects = objects; input = input } in
      let h = holds_grow code good.entry good.scopes good.others wf (IsNeeded code) c.numbers s before objects g born whole s.queue q s.scopes input bytes s.steps n counts in
      let p = holds_put code good.entry good.scopes good.others n t h i at.here result (Some r) gives (ap (written i) ready.is ∙ plain.writes) v (λ sort e. subst (λ (x : Option Sort). IsOfSort x v) e is.0) is.1 in
      moves code good.entry good.scopes good.others n (put t (Some r) v) p i at.here o ready plain.takes (s.running.point + 1) plain.edge (omega (arith, good.depth, plain.same)) good.emptied

  -- with the objects as they are
  pub writes : (o : Op) → IsReady o → (result : Option Sort) (r : Option ℕ) → IsPlain o r → GivesTo good.entry result r → (v : Value) → IsOperand s.objects result v → IsGood code (kept c.numbers (write s r v))
  writes o ready result r plain gives v is =
      write_good o ready result r plain gives s.objects (grows_same s.objects) (none_born s.objects s.objects (omega arith)) good.objects good.queue s.input good.input v is c.numbers good.numbers

  -- the answer of an operation
  pub answers_stays : (o : Op) → IsReady o → (result : Option Sort) (r : Option ℕ) → IsPlain o r → GivesTo good.entry result r → (line : ℕ) (answer : Result Value Refusal) → Done (IsOperand s.objects result) answer → StaysGood code (same_numbers c.numbers (answers line s r answer))
  answers_stays o ready result r plain gives line (Ok v) h = writes o ready result r plain gives v h
  answers_stays o ready result r plain gives line (Err e) h = refused line e h

  -- Changes of an object

  -- the numbers of objects with other pointers
  changed_counts : (b : ℕ) (t : State) → Renumbers s.objects t.objects b → t.waiting ≡ s.waiting → AreCounts code (kept (renumbered b c.numbers s t) t)
  changed_counts b t h same =
      subst (λ w. AreCounts code (kept (renumbered b c.numbers s t) (record t { waiting = w }))) (sym same) (λ x. omega (arith, good.numbers x, h.number x))

  -- of its bytes and pointers, and a register takes a value
  change_good : (o : Op) → IsReady o → (result : Option Sort) (r : Option ℕ) → IsPlain o r → GivesTo good.entry result r → (objects : List Object) → Changed s.objects good.objects objects → (v : Value) → IsOperand s.objects result v → (n : ℕ → ℕ) → AreCounts code (kept n (record s { objects = objects })) → IsGood code (kept n (write (record s { objects = objects }) r v))
  change_good o ready result r plain gives objects h v is n counts =
      let grows = alike_grows s.objects objects h.0 in
      write_good o ready result r plain gives objects grows (none_born s.objects objects (omega (arith, h.0.long))) h.1 (alike_queue s.objects objects s.queue h.0 good.queue) s.input good.input v (is.0, pointer_grows s.objects objects grows (pointer_in v) is.1) n counts

  nothing : IsOperand s.objects (Some Integer) (number (pos 0))
  nothing = integer_is s.objects (number (pos 0)) (natural_number 0 (omega arith))

  -- the pointers are the same
  pub stores_stays : (o : Op) → IsReady o → IsPlain o None → (line : ℕ) (result : Result (List Object) Refusal) → Done (Changed s.objects good.objects) result → OnDone (SamePointers s.objects) result → StaysGood code (same_numbers c.numbers (changes line s result))
  stores_stays o ready plain line (Ok objects) h same =
      change_good o ready (Some Integer) None plain tt objects h (number (pos 0)) nothing c.numbers (λ x. omega (arith, good.numbers x, same x))
  stores_stays o ready plain line (Err e) h same = refused line e h

  -- the object at a pointer has other pointers
  pub changes_stays : (o : Op) → IsReady o → IsPlain o None → (line b : ℕ) (result : Result (List Object) Refusal) → Done (Changed s.objects good.objects) result → OnDone (Changes s.objects b) result → StaysGood code (other_numbers (renumbered b c.numbers) c.numbers (changes line s result))
  changes_stays o ready plain line b (Ok objects) h d =
      change_good o ready (Some Integer) None plain tt objects h (number (pos 0)) nothing (renumbered b c.numbers s (with_objects s objects)) (changed_counts b (with_objects s objects) d refl)
  changes_stays o ready plain line b (Err e) h d = refused line e h

  -- the same, with its pointer as the answer
  pub filled_stays : (o : Op) → IsReady o → (r : Option ℕ) → IsPlain o r → GivesTo good.entry (Some Address) r → (line b : ℕ) (p : Pointer) → IsPointer s.objects p → (result : Result (List Object) Refusal) → Done (Changed s.objects good.objects) result → OnDone (Changes s.objects b) result → StaysGood code (other_numbers (renumbered b c.numbers) c.numbers (filled line r p result s))
  filled_stays o ready r plain gives line b p is (Ok objects) h d =
      change_good o ready (Some Address) r plain gives objects h (address p) (tt, is) (renumbered b c.numbers s (with_objects s objects)) (changed_counts b (with_objects s objects) d refl)
  filled_stays o ready r plain gives line b p is (Err e) h d = refused line e h

  -- Jumps and steps

  pub goes_to : (o : Op) → IsReady o → hands o ≡ false → scopes_after o good.scopes ≡ good.scopes → written i o ≡ None → (next : ℕ) → Contains (edges i o s.running.point) next → (steps : ℕ) → IsGood code (kept c.numbers (at_point (record s { steps = steps }) next))
  goes_to o ready takes same none next edge steps =
      let t : State = record s { steps = steps } in
      let h = holds_grow code good.entry good.scopes good.others wf (IsNeeded code) c.numbers s before s.objects (grows_same s.objects) (none_born s.objects s.objects (omega arith)) good.objects s.queue good.queue s.scopes s.input good.input steps c.numbers good.numbers in
      let p = holds_put code good.entry good.scopes good.others c.numbers t h i at.here (Some Integer) None tt (ap (written i) ready.is ∙ none) (number (pos 0)) (λ sort e. subst (λ (x : Option Sort). IsOfSort x (number (pos 0))) e nothing.0) tt in
      moves code good.entry good.scopes good.others c.numbers t p i at.here o ready takes next edge (omega (arith, good.depth, same)) good.emptied

  pub branch_stays : (o : Op) → IsReady o → hands o ≡ false → scopes_after o good.scopes ≡ good.scopes → written i o ≡ None → (b : Bool) (l : ℕ) → Contains (edges i o s.running.point) l → Contains (edges i o s.running.point) (s.running.point + 1) → StaysGood code (same_numbers c.numbers (branch b l s))
  branch_stays o ready takes same none true l there on = goes_to o ready takes same none l there s.steps
  branch_stays o ready takes same none false l there on =
      goes_to o ready takes same none (s.running.point + 1) on s.steps

  pub step_stays : (steps : ℕ) (next : State → Next) → ((m : ℕ) → StaysGood code (next (record s { steps = m }))) → StaysGood code (with_step steps c.numbers s next)
  step_stays zero next h = λ e. cc
  step_stays (suc m) next h = h m

  -- Scopes that are opened, and inner ones that are closed

  -- within an instruction that writes no register
  pub unwritten : (o : Op) → IsReady o → written i o ≡ None → (scopes : ℕ) → Holds code good.entry good.scopes good.others (IsLive code) c.numbers (record s { scopes = scopes })
  unwritten o ready none scopes =
      let t : State = record s { scopes = scopes } in
      let h = holds_grow code good.entry good.scopes good.others wf (IsNeeded code) c.numbers s before s.objects (grows_same s.objects) (none_born s.objects s.objects (omega arith)) good.objects s.queue good.queue scopes s.input good.input s.steps c.numbers good.numbers in
      holds_put code good.entry good.scopes good.others c.numbers t h i at.here (Some Integer) None tt (ap (written i) ready.is ∙ none) (number (pos 0)) (λ sort e. subst (λ (x : Option Sort). IsOfSort x (number (pos 0))) e nothing.0) tt

  -- an inner scope is closed, or one is opened
  pub rescoped : (o : Op) → IsReady o → hands o ≡ false → written i o ≡ None → Contains (edges i o s.running.point) (s.running.point + 1) → (m : ℕ) → suc m ≡ scopes_after o good.scopes + good.others → IsGood code (kept c.numbers (onward (record s { scopes = suc m })))
  rescoped o ready takes none edge m depth =
      let t : State = record s { scopes = suc m } in
      moves code good.entry good.scopes good.others c.numbers t (unwritten o ready none (suc m)) i at.here o ready takes (s.running.point + 1) edge depth (λ e. absurd (omega (arith, e)))

  pub enter_stays : IsReady op.Enter → StaysGood code (enter c.numbers s)
  enter_stays ready =
      let more : suc s.scopes ≡ s.scopes + 1 = omega arith in
      subst (λ n. IsGood code (kept c.numbers (onward (record s { scopes = n })))) more (rescoped op.Enter ready refl refl (0, omega arith, refl) s.scopes (omega (arith, good.depth)))

  -- New objects

  -- null is the answer where there is no place for one
  pub none_stays : (o : Op) → IsReady o → (r : ℕ) → IsPlain o (Some r) → GivesTo good.entry (Some Address) (Some r) → StaysGood code (same_numbers c.numbers (no_place r s))
  none_stays o ready r plain gives =
      writes o ready (Some Address) (Some r) plain gives (address pointer.Null) (tt, tt)

  pub made_stays : (b : Bool) (o : Op) → IsReady o → (r : ℕ) → IsPlain o (Some r) → GivesTo good.entry (Some Address) (Some r) → (line size : ℕ) → size < 2 ^ 64 → (element : Layout) → IsSound element → StaysGood code (same_numbers c.numbers (made b line r size element s))
  made_stays false o ready r plain gives line size small element sound = none_stays o ready r plain gives
  made_stays true o ready r plain gives line size small element sound =
      let new = heap_object line size element in
      let objects = s.objects ++ new ∷ [] in
      write_good o ready (Some Address) (Some r) plain gives objects (append_grows s.objects (new ∷ [])) (one_born s.objects new refl) (one_more s.objects new good.objects (heap_is objects line size element small sound)) (one_queue s.objects new s.queue good.queue refl) s.input good.input (address (start_of (length s.objects))) (tt, new_start s.objects new refl) c.numbers (λ x. omega (arith, good.numbers x, heap_living s.objects line size element x))

  -- Built-in functions and printing

  pub gives_stays : (o : Op) → IsReady o → (r : Option ℕ) → IsPlain o r → GivesTo good.entry (Some Integer) r → (line : ℕ) (answer : Result Value Refusal) → Done IsInteger answer → StaysGood code (other_numbers (λ _ _. c.numbers) c.numbers (answers line s r answer))
  gives_stays o ready r plain gives line (Ok v) h =
      writes o ready (Some Integer) r plain gives v (integer_is s.objects v h)
  gives_stays o ready r plain gives line (Err e) h = refused line e h

  -- an integer is the answer
  pub puts_number : (o : Op) → IsReady o → (r : Option ℕ) → IsPlain o r → GivesTo good.entry (Some Integer) r → (v : Value) → IsInteger v → IsGood code (kept c.numbers (write s r v))
  puts_number o ready r plain gives v is =
      writes o ready (Some Integer) r plain gives v (integer_is s.objects v is)

  pub get_stays : (o : Op) → IsReady o → (r : Option ℕ) → IsPlain o r → GivesTo good.entry (Some Integer) r → (input : List ℕ) → All IsByte input → StaysGood code (other_numbers (λ _ _. c.numbers) c.numbers (get_byte r input s))
  get_stays o ready r plain gives [] h = puts_number o ready r plain gives (number (negsuc 0)) (omega (arith, ints), omega (arith, ints))
  get_stays o ready r plain gives (byte ∷ rest) h =
      let small = All-head IsByte byte rest h in
      write_good o ready (Some Integer) r plain gives s.objects (grows_same s.objects) (none_born s.objects s.objects (omega arith)) good.objects good.queue rest (All-tail IsByte byte rest h) (number (pos byte)) (integer_is s.objects (number (pos byte)) (natural_number byte (omega arith))) c.numbers good.numbers

  pub puts_stays : (o : Op) → IsReady o → (r : Option ℕ) → IsPlain o r → GivesTo good.entry (Some Integer) r → (line : ℕ) (text : Result (List ℕ) Refusal) → Done (λ (t : List ℕ). length t < 2 ^ 64) text → StaysGood code (other_numbers (λ _ _. c.numbers) c.numbers (if_done line s text (λ t. put_line r t s)))
  puts_stays o ready r plain gives line (Ok text) h =
      puts_number o ready r plain gives (number (pos 0)) (natural_number 0 (omega arith))
  puts_stays o ready r plain gives line (Err e) h = refused line e h

  pub print_stays : (o : Op) → IsReady o → (r : ℕ) → IsPlain o (Some r) → GivesTo good.entry (Some Integer) (Some r) → (line : ℕ) (bytes : List ℕ) (why : Option Refusal) → Lives why → StaysGood code (same_numbers c.numbers (print line r bytes why s))
  print_stays o ready r plain gives line bytes None h =
      puts_number o ready (Some r) plain gives (number _) (wrapped_number I32 (pos (length bytes)))
  print_stays o ready r plain gives line bytes (Some e) h = refused line e h
