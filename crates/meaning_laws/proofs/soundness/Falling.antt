-- Each instruction that does not end the run makes `enough` smaller.
use Rattle.meaning_laws.proofs.Words.Core.{AreSlots, Code, Entry, Event, Frame, I32, Instr, IsFirst, IsLayout, IsStart, IsTarget, IsWellFormed, Layout, LeadsOn, LibName, Object, Op, Pointer, Reason, Refusal, State, StaticInit, Value, all_there, buried, check_numbers, chosen, end_numbers, ended, freed_at, is_queued, no_object, object_at, parameter_sorts, pointers_inside, pointers_to, wrapped}
use Rattle.meaning_laws.proofs.Words.Meaning.{AreObjects, AreOperands, BeginsWell, CodeState, HasStatics, HoldsBytes, IsByte, IsObject, IsPointer, IsQueue, Next, act, act_at, address, answers, at_point, begin, behind_lib, birth_of, branch, byte_in, call_lib, changes, code_left, enough, enqueue, filled, first_numbers, first_pointer, get_byte, give_back, hand, hand_or_act, handed_value, if_done, inside_living, layout_in, living, made, main_in, more, no_layout, no_place, number, number_at, onward, other_numbers, pinned, pointer_in, print, put, put_line, renumbered, same_numbers, start, start_of, step_by, with_new, with_objects, write}
use Rattle.meaning_laws.proofs.Words.Std.{All, All-cons, All-map, All-nil, All-replicate, Bool, Err, IsSomeAnd, List, None, Ok, Option, Result, Some, [], ap, arith, cond, enumerate_from, false, false≢true, get_or, length, length-enumerate_from, length-map, length-replicate, map, nat_eq, negsuc, option_map_or, pos, refl, replicate, slice_get, slice_get_within, slice_index, subst, suc, sum_by, sum_by-cons, sym, true, unsigned_abs, zero, ℕ, ◌*◌, ◌+◌, ◌<◌, ◌∙◌, ◌∷◌, ◌≡◌, ◌≤◌}
use Rattle.object_meaning.specs.code.Entering.{with_step, call}
use Rattle.object_meaning.specs.code.Returning.{go_back, end_locals, running_locals}
use Rattle.object_meaning.specs.code.Checking.{leave, decided, in_scope}
use Rattle.object_meaning.specs.code.Freeing.{free, free_named, grow, grow_named, grow_old, grown}
use Rattle.object_meaning.specs.code.CodeMeaning.{static_object, static_objects}
use Rattle.meaning_laws.specs.code.Laws.{LeavesLess}
use Rattle.meaning_laws.proofs.soundness.Lists.{all_at, overlaid_length, overlaid_all}
use Rattle.meaning_laws.proofs.soundness.Touching.{live_there, distinct_none}
use Rattle.meaning_laws.proofs.soundness.Calling.{enters}
use Rattle.meaning_laws.proofs.soundness.Stepping.{done_by, done_is}
use Rattle.hs_base.specs.declared.values.Pointer.TheVariants as pointer
use Rattle.hs_base.specs.Runs as runs
use Rattle.core_tree.specs.declared.statements.LibName.TheVariants as lib
use Rattle.object_meaning.specs.objects.Going as core
use Rattle.flat_code.specs.declared.instructions.Op.TheVariants as op

-- the same point, the same waiting frames, and the same steps left
record Alike (s t : State) : Type 0 where
  point : t.running.point ≡ s.running.point
  waiting : t.waiting ≡ s.waiting
  steps : t.steps ≡ s.steps

alike_put : (s t : State) → Alike s t → (r : Option ℕ) (v : Value) → Alike s (put t r v)
alike_put s t h None v = record { point = h.point; waiting = h.waiting; steps = h.steps }
alike_put s t h (Some r) v = record { point = h.point; waiting = h.waiting; steps = h.steps }

module _ (code : Code) (s : State) (inside : s.running.point < length code.instrs) where
  abbrev weight : ℕ
  weight = length code.instrs + 1

  -- where the run goes on, less is left
  abbrev pub Less : Next → Type 0
  Less (runs.Goes before events after) = enough code after.state < enough code s
  Less (runs.Stops before events after ending) = Unit {0}

  abbrev CoreLess : core.Next → Type 0
  CoreLess (runs.Goes before events after) = enough code after < enough code s
  CoreLess (runs.Stops before events after ending) = Unit {0}

  same_less : (n : ℕ → ℕ) (x : core.Next) → CoreLess x → Less (same_numbers n x)
  same_less n (runs.Goes before events after) h = h
  same_less n (runs.Stops before events after ending) h = tt

  other_less : (f : State → State → ℕ → ℕ) (n : ℕ → ℕ) (x : core.Next) → CoreLess x → Less (other_numbers f n x)
  other_less f n (runs.Goes before events after) h = h
  other_less f n (runs.Stops before events after ending) h = tt

  alike : Alike s s
  alike = record { point = refl; waiting = refl; steps = refl }

  onward_less : (t : State) → Alike s t → enough code (onward t) < enough code s
  onward_less t h =
      omega (arith, h.point, ap (sum_by (code_left code)) h.waiting, ap (λ k. k * weight) h.steps)

  write_less : (t : State) (r : Option ℕ) (v : Value) → Alike s t → enough code (write t r v) < enough code s
  write_less t r v h = onward_less (put t r v) (alike_put s t h r v)

  answers_less : (line : ℕ) (r : Option ℕ) (result : Result Value Refusal) → CoreLess (answers line s r result)
  answers_less line r (Ok v) = write_less s r v alike
  answers_less line r (Err e) = tt

  changes_less : (line : ℕ) (result : Result (List Object) Refusal) → CoreLess (changes line s result)
  changes_less line (Ok objects) = onward_less (with_objects s objects) (record { point = refl; waiting = refl; steps = refl })
  changes_less line (Err e) = tt

  branch_less : (b : Bool) (l : ℕ) → s.running.point < l → CoreLess (branch b l s)
  branch_less true l h = omega (arith, h)
  branch_less false l h = onward_less s alike

  -- Steps

  step_less : (n : ℕ → ℕ) (steps : ℕ) (next : State → Next) → steps ≡ s.steps → ((m : ℕ) → m + 1 ≡ s.steps → Less (next (record s { steps = m }))) → Less (with_step steps n s next)
  step_less n zero next e h = tt
  step_less n (suc m) next e h = h m (omega arith)

  back_less : (m l : ℕ) → m + 1 ≡ s.steps → enough code (at_point (record s { steps = m }) l) < enough code s
  back_less m l e = omega (arith, ap (λ k. k * weight) e)

  call_less : (line f : ℕ) (values : List Value) (n : ℕ → ℕ) (m : ℕ) → m + 1 ≡ s.steps → Less (call code line f values n (record s { steps = m }))
  call_less line f values n m e =
      omega (arith, ap (λ k. k * weight) e, sum_by-cons (code_left code) s.running s.waiting)

  begin_less : (line f : ℕ) (n : ℕ → ℕ) (m : ℕ) → m + 1 ≡ s.steps → Less (begin code line f n (record s { steps = m }))
  begin_less line f n m e = omega (arith, ap (λ k. k * weight) e)

  -- Scopes

  decided_less : (held : Option ℕ) (first : ℕ → ℕ) (before t : State) (events : List Event) (n : ℕ → ℕ) → Alike s t → Less (decided code held first before events n t)
  decided_less None first before t events n h =
      onward_less (record t { objects = buried t.objects; queue = []; scopes = 0 }) (record { point = h.point; waiting = h.waiting; steps = h.steps })
  decided_less (Some birth) first before t events n h = tt

  leave_less : (scopes : ℕ) (n : ℕ → ℕ) → Less (leave code scopes n s)
  leave_less zero n = tt
  leave_less (suc zero) n =
      decided_less (check_numbers s.objects s.queue (more n (pinned code s.running))) n s s [] n alike
  leave_less (suc (suc m)) n = onward_less (record s { scopes = suc m }) (record { point = refl; waiting = refl; steps = refl })

  in_scope_less : (scopes : ℕ) (first : ℕ → ℕ) (before t : State) (events : List Event) (n : ℕ → ℕ) → Alike s t → Less (in_scope code scopes first before events n t)
  in_scope_less zero first before t events n h =
      let u : State = record t { scopes = 1 } in
      decided_less (check_numbers u.objects u.queue (more n (pinned code u.running))) first before u events n (record { point = h.point; waiting = h.waiting; steps = h.steps })
  in_scope_less (suc m) first before t events n h = onward_less t h

  -- Heap objects

  made_less : (b : Bool) (line r n : ℕ) (element : Layout) → CoreLess (made b line r n element s)
  made_less false line r n element = write_less s (Some r) (address pointer.Null) alike
  made_less true line r n element =
      write_less (with_new line n element s) (Some r) (address (start_of (length s.objects))) (record { point = refl; waiting = refl; steps = refl })

  free_named_less : (line : ℕ) (named : Result ℕ Reason) (n : ℕ → ℕ) → Less (free_named code line named n s)
  free_named_less line (Ok birth) n =
      in_scope_less s.scopes n s (enqueue line birth s) [] n (record { point = refl; waiting = refl; steps = refl })
  free_named_less line (Err reason) n = tt

  free_less : (line : ℕ) (p : Pointer) (n : ℕ → ℕ) → Less (free code line p n s)
  free_less line pointer.Null n = onward_less s alike
  free_less line (pointer.At birth offset) n = free_named_less line (freed_at s.objects birth offset) n

  grown_less : (line r size old : ℕ) (t : State) → Alike s t → (n : ℕ → ℕ) (result : Result (List Object) Refusal) → Less (grown code line r size old s n t result)
  grown_less line r size old t h n (Ok objects) =
      in_scope_less t.scopes n s (put (enqueue line old (with_objects t objects)) (Some r) (address (start_of (length s.objects)))) (birth_of line size s) (renumbered (length s.objects) n t (with_objects t objects)) (record { point = h.point; waiting = h.waiting; steps = h.steps })
  grown_less line r size old t h n (Err e) = tt

  grow_old_less : (b : Bool) (line r old size : ℕ) (element : Layout) (n : ℕ → ℕ) → Less (grow_old b code line r old size element n s)
  grow_old_less false line r old size element n = same_less n (no_place r s) (write_less s (Some r) (address pointer.Null) alike)
  grow_old_less true line r old size element n =
      grown_less line r size old (with_new line size element s) (record { point = refl; waiting = refl; steps = refl }) n _

  grow_named_less : (fits : ℕ → Bool) (line r : ℕ) (named : Result ℕ Reason) (size : ℕ) (element : Layout) (n : ℕ → ℕ) → Less (grow_named code fits line r named size element n s)
  grow_named_less fits line r (Ok old) size element n = grow_old_less (fits size) line r old size element n
  grow_named_less fits line r (Err reason) size element n = tt

  grow_less : (fits : ℕ → Bool) (line r : ℕ) (p : Pointer) (size : ℕ) (element : Layout) (n : ℕ → ℕ) → Less (grow code fits line r p size element n s)
  grow_less fits line r pointer.Null size element n =
      same_less n (made (fits size) line r size element s) (made_less (fits size) line r size element)
  grow_less fits line r (pointer.At birth offset) size element n =
      grow_named_less fits line r (freed_at s.objects birth offset) size element n

  -- Built-in functions and printing

  get_less : (r : Option ℕ) (input : List ℕ) → CoreLess (get_byte r input s)
  get_less r [] = write_less s r (number (negsuc 0)) alike
  get_less r (byte ∷ rest) =
      write_less (record s { input = rest }) r (number (pos byte)) (record { point = refl; waiting = refl; steps = refl })

  filled_less : (line : ℕ) (r : Option ℕ) (p : Pointer) (result : Result (List Object) Refusal) → CoreLess (filled line r p result s)
  filled_less line r p (Ok objects) =
      write_less (with_objects s objects) r (address p) (record { point = refl; waiting = refl; steps = refl })
  filled_less line r p (Err e) = tt

  puts_less : (line : ℕ) (r : Option ℕ) (result : Result (List ℕ) Refusal) → CoreLess (if_done line s result (λ text. put_line r text s))
  puts_less line r (Ok text) = write_less s r (number (pos 0)) alike
  puts_less line r (Err e) = tt

  print_less : (line r : ℕ) (bytes : List ℕ) (refused : Option Refusal) → CoreLess (print line r bytes refused s)
  print_less line r bytes None = write_less s (Some r) (number (wrapped I32 (pos (length bytes)))) alike
  print_less line r bytes (Some e) = tt

  lib_less : (line : ℕ) (name : LibName) (r : Option ℕ) (values : List Value) → CoreLess (call_lib line name r values s)
  lib_less line lib.Exit r values = tt
  lib_less line lib.Abort r values = tt
  lib_less line lib.Memcpy r values = filled_less line r _ _
  lib_less line lib.Memmove r values = filled_less line r _ _
  lib_less line lib.Memset r values = filled_less line r _ _
  lib_less line lib.Strlen r values = answers_less line r _
  lib_less line lib.Strcmp r values = answers_less line r _
  lib_less line lib.Getchar r values = get_less r s.input
  lib_less line lib.Putchar r values = write_less s r (number (pos (byte_in (number_at values 0)))) alike
  lib_less line lib.Puts r values = puts_less line r _

  -- Returns

  back_less_at : (answer : Value) (waiting : List Frame) (objects : List Object) (n : ℕ → ℕ) → waiting ≡ s.waiting → Less (go_back code answer waiting n (record s { objects = objects }))
  back_less_at answer [] objects n e = tt
  back_less_at answer (caller ∷ rest) objects n e =
      omega (arith, ap (sum_by (code_left code)) e, sum_by-cons (code_left code) caller rest)

  end_less : (line : ℕ) (answer : Value) (locals : List ℕ) (held : Option ℕ) (n : ℕ → ℕ) → Less (end_locals code line answer locals held n s)
  end_less line answer locals None n = back_less_at answer s.waiting (ended s.objects locals) _ refl
  end_less line answer locals (Some birth) n = tt

  give_less : (line : ℕ) (answer : Value) (n : ℕ → ℕ) → Less (give_back code line answer n s)
  give_less line answer n =
      let locals = running_locals code s in
      end_less line answer locals (end_numbers s.objects locals (Some (pointer_in answer)) n) n

  -- Operations

  -- whatever a register takes
  register_less : (r : ℕ) → enough code (write s (Some r) (number (pos 0))) < enough code s
  register_less r = write_less s (Some r) (number (pos 0)) alike

  module _ (fits : ℕ → Bool) (line : ℕ) (i : Instr) (values : List Value) (n : ℕ → ℕ) where
    pub act_less : (o : Op) → LeadsOn s.running.point i o → Less (act code fits line i o values n s)
    act_less op.Start h = step_less n s.steps _ refl (λ m e. begin_less line (unsigned_abs i.imm) n m e)
    act_less op.Set h = register_less i.a
    act_less (op.Conv k) h = register_less i.a
    act_less (op.Un o k) h = register_less i.a
    act_less (op.Bin o k) h = same_less n _ (answers_less line (Some i.a) _)
    act_less (op.Cmp o) h = register_less i.a
    act_less op.Add h = same_less n _ (answers_less line (Some i.a) _)
    act_less op.Sub h = same_less n _ (answers_less line (Some i.a) _)
    act_less op.Diff h = same_less n _ (answers_less line (Some i.a) _)
    act_less (op.Pcmp o) h = same_less n _ (answers_less line (Some i.a) _)
    act_less op.Test h = register_less i.a
    act_less (op.Load k) h = same_less n _ (answers_less line (Some i.a) _)
    act_less op.Loadp h = same_less n _ (answers_less line (Some i.a) _)
    act_less (op.Store k) h = same_less n _ (changes_less line _)
    act_less op.Storep h = other_less _ n _ (changes_less line _)
    act_less op.Copy h = other_less _ n _ (changes_less line _)
    act_less op.Clear h = other_less _ n _ (changes_less line _)
    act_less op.Jump h = let ahead = h 0 0 (omega arith) in omega arith
    act_less op.Zero h = same_less n _ (branch_less _ i.b (h 1 0 (omega arith)))
    act_less op.Case h = same_less n _ (branch_less _ i.b (h 1 0 (omega arith)))
    act_less op.Loop h = step_less n s.steps _ refl (λ m e. back_less m i.b e)
    act_less op.Call h = step_less n s.steps _ refl (λ m e. call_less line i.b values n m e)
    act_less op.Malloc h = same_less n _ (made_less _ line i.a _ _)
    act_less op.Calloc h = same_less n _ (made_less _ line i.a _ _)
    act_less op.Realloc h = grow_less fits line i.a _ _ _ n
    act_less op.Free h = free_less line _ n
    act_less (op.Lib name) h = other_less (behind_lib name values n) n _ (lib_less line name (chosen i) values)
    act_less op.Printf h = same_less n _ (print_less line i.a _ _)
    act_less op.Enter h = onward_less (record s { scopes = s.scopes + 1 }) (record { point = refl; waiting = refl; steps = refl })
    act_less op.Leave h = leave_less s.scopes n
    act_less op.Return h = give_less line (number (pos 0)) n
    act_less op.Give h = give_less line (get_or values 0 (number (pos 0))) n
    act_less hand h = tt

-- a value is handed over
pub hand_less : (code : Code) (c : CodeState) (inside : c.state.running.point < length code.instrs) (b : Bool) (v : Value) → Less code c.state inside (hand b v c)
hand_less code c inside true v = tt
hand_less code c inside false v = onward_less code c.state inside c.state (alike code c.state inside)

-- A run begins in a good state.

-- P of a function of each item and its place
mapped : {A B : Type 0} (P : B → Type 0) (f : ℕ × A → B) (n : ℕ) (xs : List A) → ((k : ℕ) (x : A) → slice_get xs k ≡ Some x → P (f (n + k, x))) → All P (map f (enumerate_from n xs))
mapped P f n [] h = All-nil P
mapped P f n (x ∷ xs) h =
    let here : n + 0 ≡ n = omega arith in
    All-cons P (f (n, x)) (map f (enumerate_from (n + 1) xs)) (subst (λ (m : ℕ). P (f (m, x))) here (h 0 x refl)) (mapped P f (n + 1) xs (λ k y e.
    let same : n + suc k ≡ n + 1 + k = omega arith in subst (λ (m : ℕ). P (f (m, y))) same (h (suc k) y e)))

-- the object that is made of an item
place_in : {A : Type 0} (f : ℕ × A → Object) (n : ℕ) (xs : List A) (k : ℕ) (x : A) → slice_get xs k ≡ Some x → get_or (map f (enumerate_from n xs)) k no_object ≡ f (n + k, x)
place_in f n [] k x e = absurd (cc)
place_in f n (y ∷ xs) zero x e = let same : n + 0 ≡ n = omega arith in let is : y ≡ x = cc in rw (same, is) refl
place_in f n (y ∷ xs) (suc k) x e =
    let same : n + 1 + k ≡ n + suc k = omega arith in place_in f (n + 1) xs k x e ∙ ap (λ m. f (m, x)) same

pointer_cond : (objects : List Object) (b : Bool) (p q : Pointer) → IsPointer objects p → IsPointer objects q → IsPointer objects (cond b p q)
pointer_cond objects true p q h i = h
pointer_cond objects false p q h i = i

module _ (code : Code) (wf : IsWellFormed code) where
  abbrev statics : List Object
  statics = static_objects code

  statics_length : length statics ≡ length code.statics
  statics_length =
      length-map (enumerate_from 0 code.statics) (static_object code) ∙ length-enumerate_from 0 code.statics

  static_at : (k : ℕ) (static : StaticInit) → slice_get code.statics k ≡ Some static → object_at statics k ≡ static_object code (k, static)
  static_at k static e =
      let same : 0 + k ≡ k = omega arith in
      place_in (static_object code) 0 code.statics k static e ∙ ap (λ m. static_object code (m, static)) same

  size_is : (static : StaticInit) (o : Option Layout) → option_map_or (λ (l : Layout). l.size) o 0 ≡ (option_map_or (λ (l : Layout). l) o no_layout).size
  size_is static None = refl
  size_is static (Some l) = refl

  pub has_statics : HasStatics code statics
  has_statics k static e =
      let is = static_at k static e in
      record {
        live = ap (λ (o : Object). o.standing) is;
        sort = ap (λ (o : Object). o.sort) is;
        size = ap (λ (o : Object). o.size) is;
        slots = ap (λ (o : Object). o.slots) is;
      }

  target_is : (p : ℕ × ℕ × ℕ) → IsTarget code p → IsPointer statics (pointer.At p.1 p.2)
  target_is p h =
      let s = has_statics p.1 h.0 h.1 in
      (live_there statics p.1 s.live, omega (arith, s.size, size_is h.0 (slice_get code.layouts h.0.layout), h.2))

  first_is : (pointers : List (ℕ × ℕ × ℕ)) → All (IsTarget code) pointers → (slot : ℕ) → IsPointer statics (first_pointer pointers slot)
  first_is [] h slot = tt
  first_is (p ∷ pointers) h slot =
      pointer_cond statics (nat_eq p.0 slot) (pointer.At p.1 p.2) (first_pointer pointers slot) (target_is p (h 0 p (omega arith))) (first_is pointers (λ k d lt. h (suc k) d (omega arith)) slot)

  pointers_are : (f : ℕ → Pointer) → ((slot : ℕ) → IsPointer statics (f slot)) → (slots : List ℕ) → All (IsPointer statics) (map f slots)
  pointers_are f h slots = All-map (IsPointer statics) f slots (λ k d lt. h (get_or slots k d))

  -- of a layout that is there
  static_with : (k : ℕ) (static : StaticInit) → All IsByte static.bytes → (o : Option Layout) → slice_get code.layouts static.layout ≡ o → IsSomeAnd o (IsFirst code static) → IsObject statics (static_object code (k, static))
  static_with k static bytes None e h = absurd h
  static_with k static bytes (Some l) e h =
      let layout = all_at IsLayout code.layouts static.layout l wf.layouts e in
      let is : layout_in code static.layout ≡ l = ap (λ (x : Option Layout). option_map_or (λ (y : Layout). y) x no_layout) e in
      let size : (layout_in code static.layout).size ≡ l.size = ap (λ (y : Layout). y.size) is in
      let zeros : List ℕ = replicate (layout_in code static.layout).size 0 in
      let long : length zeros ≡ (layout_in code static.layout).size = length-replicate (layout_in code static.layout).size 0 in
      record {
        size = omega (arith, size, layout.size);
        filled = overlaid_length zeros 0 static.bytes (omega (arith, long, size, h.inside)) ∙ long;
        bytes = overlaid_all IsByte zeros 0 static.bytes (All-replicate IsByte (layout_in code static.layout).size 0 (omega arith)) bytes;
        slots = subst (λ (y : Layout). AreSlots 0 y.size y.slots) (sym is) layout.sound.slots;
        each_slot = length-map (layout_in code static.layout).slots (first_pointer static.pointers);
        pointers = λ alive.
            pointers_are (first_pointer static.pointers) (first_is static.pointers h.targets) (layout_in code static.layout).slots;
        heap = λ q. absurd (false≢true q);
      }

  pub statics_whole : HoldsBytes code → AreObjects statics
  statics_whole bytes =
      mapped (IsObject statics) (static_object code) 0 code.statics (λ k static e.
      let h = all_at (λ (x : StaticInit). IsSomeAnd (slice_get code.layouts x.layout) (IsFirst code x)) code.statics k static wf.statics e in
      static_with (0 + k) static (all_at (λ (x : StaticInit). All IsByte x.bytes) code.statics k static bytes e) (slice_get code.layouts static.layout) refl h)

  -- none of them is queued, and what their numbers count

  unqueued : (n : ℕ) (xs : List StaticInit) (b : ℕ) → is_queued (object_at (map (static_object code) (enumerate_from n xs)) b).standing ≡ false
  unqueued n [] b = refl
  unqueued n (x ∷ xs) zero = refl
  unqueued n (x ∷ xs) (suc b) = unqueued (n + 1) xs b

  pub no_queue : IsQueue statics []
  no_queue = record { exact = λ b. sym (unqueued 0 code.statics b); once = distinct_none }

  all_living : (x n : ℕ) (xs : List StaticInit) → pointers_inside x (map (static_object code) (enumerate_from n xs)) ≡ inside_living x (map (static_object code) (enumerate_from n xs))
  all_living x n [] = refl
  all_living x n (y ∷ xs) =
      let rest = map (static_object code) (enumerate_from (n + 1) xs) in
      omega (arith, sum_by-cons (λ (o : Object). pointers_to x o.pointers) (static_object code (n, y)) rest, sum_by-cons (living x) (static_object code (n, y)) rest, all_living x (n + 1) xs)

  pub first_counts : (x : ℕ) → first_numbers statics x ≡ inside_living x statics + 0
  first_counts x = omega (arith, all_living x 0 code.statics)

-- The first instruction

-- no value is handed over at the first instruction
at_start : (code : Code) (fits : ℕ → Bool) (line : ℕ) (i : Instr) (c : CodeState) (P : Next → Type 0) → i.op ≡ op.Start → P (act code fits line i op.Start c.handed c.numbers c.state) → P (hand_or_act code fits line i (handed_value c.state.running i i.op) c)
at_start code fits line i c P e h =
    done_is code fits line i c P (handed_value c.state.running i i.op) (subst (λ (o : Op). P (done_by code fits line i c o (handed_value c.state.running i o))) (sym e) h)

module _ (code : Code) (wf : IsWellFormed code) (holds : HoldsBytes code) (input : List ℕ) (bytes : All IsByte input) where
  module _ (i : Instr) (main : ℕ) (entry : Entry) (here : slice_get code.instrs 0 ≡ Some i) (is : IsStart code i main entry) where
    main_is : main_in (slice_get code.instrs 0) ≡ main
    main_is = ap main_in here ∙ ap unsigned_abs is.number

    no_parameters : AreOperands (static_objects code) (all_there (parameter_sorts entry)) []
    no_parameters = rw is.params tt

    abbrev first : ℕ → ℕ
    first = (start code input 0).numbers

    begins_at : (line m : ℕ) → BeginsWell code (begin code line main first (record (start code input 0).state { steps = m }))
    begins_at line m =
        let long : length code.statics ≤ length (static_objects code) = omega (arith, statics_length code wf) in
        enters code wf main entry is.function (static_objects code) [] [] [] 0 input m first (statics_whole code wf holds) (has_statics code wf) long (no_queue code wf) (λ e. refl) no_parameters (refl, sym main_is) (first_counts code wf) bytes

    step_begins : (line steps : ℕ) → BeginsWell code (with_step steps first (start code input steps).state (begin code line main first))
    step_begins line zero = refl
    step_begins line (suc m) = begins_at line m

    act_begins : (fits : ℕ → Bool) (line steps : ℕ) → BeginsWell code (act code fits line i op.Start [] (start code input steps).numbers (start code input steps).state)
    act_begins fits line steps =
        let e : unsigned_abs i.imm ≡ main = ap unsigned_abs is.number in
        subst (λ (f : ℕ). BeginsWell code (with_step steps first (start code input steps).state (begin code line f first))) (sym e) (step_begins line steps)

    begins : (steps : ℕ) (fits : ℕ → Bool) → BeginsWell code (step_by code fits (start code input steps))
    begins steps fits =
        let c = start code input steps in
        let line = slice_index code.lines c.state.running.point in
        subst (λ (o : Option Instr). BeginsWell code (act_at code fits o c)) (sym here) (at_start code fits line i c (BeginsWell code) is.begins (act_begins fits line steps))

    falls : (steps : ℕ) (fits : ℕ → Bool) → LeavesLess code (start code input steps) (step_by code fits (start code input steps))
    falls steps fits =
        let c = start code input steps in
        let line = slice_index code.lines c.state.running.point in
        let inside = slice_get_within code.instrs 0 i here in
        subst (λ (o : Option Instr). LeavesLess code c (act_at code fits o c)) (sym here) (at_start code fits line i c (LeavesLess code c) is.begins (act_less code c.state inside fits line i c.handed c.numbers op.Start (λ k d lt. absurd (omega arith))))

  pub begins_well : (steps : ℕ) (fits : ℕ → Bool) → BeginsWell code (step_by code fits (start code input steps)) × LeavesLess code (start code input steps) (step_by code fits (start code input steps))
  begins_well steps fits =
      let s = wf.start in
      (begins s.0 s.1 s.2 s.3 s.4 steps fits, falls s.0 s.1 s.2 s.3 s.4 steps fits)
