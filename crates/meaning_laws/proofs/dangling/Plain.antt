-- A core without frees and memory locals ends plainly: its queue stays empty, and no call ends a local.
use Rattle.meaning_laws.proofs.Words.Core.{BadFree, Core, Dangling, Ending, Escape, Event, Exit, Frame, Func, Layout, LibName, Mem, Object, OutOfStack, Pointer, ReadsDead, Refusal, Spent, State, Stm, StmKind, Trap, Trapped, Value, first_held, pieces_of}
use Rattle.meaning_laws.proofs.Words.Meaning.{FreesNothing, Run, answers, begun, branch, call_lib, changes, decided, end_locals, ended_by, escapes, filled, format_in, get_byte, go_back, if_done, is_held, is_plain, leave, locals_of, made, meaning, print, printed, put_line, returned, running_locals, statement_in, step, unless_reads_stale, values_of, with_objects, with_step}
use Rattle.meaning_laws.proofs.Words.Std.{Bool, Err, IsTrue, List, None, Ok, Option, Result, Some, [], ap, false, length, range_with_len, refl, slice_get, subst, suc, sym, true, zero, ℕ, ◌∷◌, ◌≡◌, ◌≢◌}
use Rattle.hs_base.specs.Runs as runs
use Rattle.core_tree.specs.declared.statements.LibName.TheVariants as lib
use Rattle.core_tree.specs.declared.statements.StmKind.TheVariants as stm
use Rattle.object_meaning.specs.objects.Going.{Next}
use Rattle.object_meaning.specs.objects.Calls.{give_back}
use Rattle.object_meaning.specs.objects.Meaning.{act, act_at, enough}
use Rattle.meaning_laws.specs.objects.Laws.{may_free}

-- an end without a free and without an escape
abbrev is_tame : Ending → Bool
is_tame (Exit code) = true
is_tame (Trap kind line) = true
is_tame Spent = true
is_tame Dangling = true
is_tame (BadFree reason line holder) = false
is_tame (Escape func local line) = false
is_tame (OutOfStack line) = false

plain_or_dangling : (e : Ending) → is_tame e ≡ true → e ≢ Dangling → is_plain e ≡ true
plain_or_dangling (Exit code) t n = refl
plain_or_dangling (Trap kind line) t n = refl
plain_or_dangling Spent t n = refl
plain_or_dangling Dangling t n = absurd (n refl)
plain_or_dangling (BadFree reason line holder) t n = cc
plain_or_dangling (Escape func local line) t n = cc
plain_or_dangling (OutOfStack line) t n = cc

tame_refusal : (line : ℕ) (e : Refusal) → is_tame (ended_by line e) ≡ true
tame_refusal line (Trapped kind) = refl
tame_refusal line ReadsDead = refl

-- where the run goes on nothing is queued, and where it stops it ends without a free
abbrev IsTame : Next → Type 0
IsTame (runs.Goes before events after) = after.queue ≡ []
IsTame (runs.Stops before events after e) = is_tame e ≡ true

module _ (s : State) (none : s.queue ≡ []) where
  tame_answers : (line : ℕ) (r : Option ℕ) (v : Result Value Refusal) → IsTame (answers line s r v)
  tame_answers line r (Ok v) = none
  tame_answers line r (Err e) = tame_refusal line e

  tame_changes : (line : ℕ) (v : Result (List Object) Refusal) → IsTame (changes line s v)
  tame_changes line (Ok objects) = none
  tame_changes line (Err e) = tame_refusal line e

  tame_branch : (b : Bool) (l : ℕ) → IsTame (branch b l s)
  tame_branch true l = none
  tame_branch false l = none

  tame_step : (n : ℕ) (next : State → Next) → ((k : ℕ) → IsTame (next (record s { steps = k }))) → IsTame (with_step n s next)
  tame_step zero next h = refl
  tame_step (suc n) next h = h n

  tame_made : (fits : Bool) (line r size : ℕ) (element : Layout) → IsTame (made fits line r size element s)
  tame_made false line r size element = none
  tame_made true line r size element = none

  tame_print : (line r : ℕ) (bytes : List ℕ) (refused : Option Refusal) → IsTame (print line r bytes refused s)
  tame_print line r bytes None = none
  tame_print line r bytes (Some e) = tame_refusal line e

  tame_filled : (line : ℕ) (r : Option ℕ) (p : Pointer) (done : Result (List Object) Refusal) → IsTame (filled line r p done s)
  tame_filled line r p (Ok objects) = none
  tame_filled line r p (Err e) = tame_refusal line e

  tame_get : (r : Option ℕ) (input : List ℕ) → IsTame (get_byte r input s)
  tame_get r [] = none
  tame_get r (byte ∷ rest) = none

  tame_text : (line : ℕ) (r : Option ℕ) (text : Result (List ℕ) Refusal) → IsTame (if_done line s text (λ t. put_line r t s))
  tame_text line r (Ok text) = none
  tame_text line r (Err e) = tame_refusal line e

  tame_lib : (line : ℕ) (name : LibName) (r : Option ℕ) (values : List Value) → IsTame (call_lib line name r values s)
  tame_lib line lib.Exit r values = refl
  tame_lib line lib.Abort r values = refl
  tame_lib line lib.Memcpy r values = tame_filled line r _ _
  tame_lib line lib.Memmove r values = tame_filled line r _ _
  tame_lib line lib.Memset r values = tame_filled line r _ _
  tame_lib line lib.Strlen r values = tame_answers line r _
  tame_lib line lib.Strcmp r values = tame_answers line r _
  tame_lib line lib.Getchar r values = tame_get r s.input
  tame_lib line lib.Putchar r values = none
  tame_lib line lib.Puts r values = tame_text line r _

  module _ (core : Core) where
    -- with nothing queued a check finds nothing
    tame_leave : (scopes : ℕ) → IsTame (leave core scopes s)
    tame_leave zero = refl
    tame_leave (suc zero) = subst (λ (q : List ℕ). IsTame (decided core (first_held (is_held core s) q) s [] s)) (sym none) refl
    tame_leave (suc (suc n)) = none

    tame_back : (answer : Value) (waiting : List Frame) (objects : List Object) → IsTame (go_back core answer waiting (with_objects s objects))
    tame_back answer [] objects = refl
    tame_back answer (caller ∷ waiting) objects = none

    -- a call that has no local in memory ends none
    tame_return : (line : ℕ) (answer : Value) → locals_of (slice_get core.funcs s.running.func) ≡ [] → IsTame (give_back core line answer s)
    tame_return line answer mems =
        let locals : running_locals core s ≡ [] = ap (λ (ms : List Mem). range_with_len s.running.first_local (length ms)) mems in
        subst
        (λ (ls : List ℕ). IsTame (end_locals core line answer (first_held (escapes core answer s (running_locals core s)) ls) s))
        (sym locals)
        (tame_back answer s.waiting _)

    tame_act : (fits : ℕ → Bool) (line : ℕ) (kind : StmKind) → may_free kind ≡ false → locals_of (slice_get core.funcs s.running.func) ≡ [] → IsTame (act core fits line kind s)
    tame_act fits line (stm.Bin op k r a b) f m = tame_answers line (Some r) _
    tame_act fits line (stm.Add r p a size) f m = tame_answers line (Some r) _
    tame_act fits line (stm.Sub r p a size) f m = tame_answers line (Some r) _
    tame_act fits line (stm.Off r p distance) f m = tame_answers line (Some r) _
    tame_act fits line (stm.Diff r p q size) f m = tame_answers line (Some r) _
    tame_act fits line (stm.Pcmp op r p q) f m = tame_answers line (Some r) _
    tame_act fits line (stm.Load k r p) f m = tame_answers line (Some r) _
    tame_act fits line (stm.Loadp r p) f m = tame_answers line (Some r) _
    tame_act fits line (stm.Store k p a) f m = tame_changes line _
    tame_act fits line (stm.Storep p q) f m = tame_changes line _
    tame_act fits line (stm.Copy p q n) f m = tame_changes line _
    tame_act fits line (stm.Clear p n) f m = tame_changes line _
    tame_act fits line (stm.Zero a l) f m = tame_branch _ l
    tame_act fits line (stm.Case a v l) f m = tame_branch _ l
    tame_act fits line (stm.Loop l) f m = tame_step s.steps _ (λ k. none)
    tame_act fits line (stm.Call g r args) f m = tame_step s.steps _ (λ k. none)
    tame_act fits line (stm.Malloc r n element) f m = tame_made _ line r _ element
    tame_act fits line (stm.Calloc r a n element) f m = tame_made _ line r _ element
    tame_act fits line (stm.Realloc r p n element) f m = cc
    tame_act fits line (stm.Free p) f m = cc
    tame_act fits line (stm.Lib name r args) f m = tame_lib line name r _
    tame_act fits line (stm.Printf r k args) f m =
        let text = printed s.objects (pieces_of (format_in (slice_get core.funcs s.running.func) k)) (values_of s args) in tame_print line r text.bytes text.refused
    tame_act fits line stm.Leave f m = tame_leave s.scopes
    tame_act fits line (stm.Return a) f m = tame_return line (returned s a) m
    tame_act fits line kind f m = none

module _ (core : Core) (plain : FreesNothing core) where
  no_locals : (f : ℕ) (o : Option Func) → slice_get core.funcs f ≡ o → locals_of o ≡ []
  no_locals f None e = refl
  no_locals f (Some func) e = (plain f func e).0

  tame_stale : (b : Bool) (fits : ℕ → Bool) (t : Stm) (s : State) → may_free t.kind ≡ false → s.queue ≡ [] → IsTame (unless_reads_stale b core fits t s)
  tame_stale true fits t s f none = refl
  tame_stale false fits t s f none = tame_act s none core fits t.line t.kind f (no_locals s.running.func _ refl)

  tame_at : (fits : ℕ → Bool) (s : State) (o : Option Func) (t : Option Stm) → slice_get core.funcs s.running.func ≡ o → statement_in o s.running.point ≡ t → s.queue ≡ [] → IsTame (act_at core fits t s)
  tame_at fits s o None e at none = refl
  tame_at fits s None (Some t) e at none = cc
  tame_at fits s (Some func) (Some t) e at none = tame_stale _ fits t s ((plain s.running.func func e).1 s.running.point t at) none

  module _ (heap : ℕ) where
    abbrev Tame : Option Ending → State → Type 0
    Tame None s = s.queue ≡ []
    Tame (Some e) s = is_tame e ≡ true

    tame_led : (trace : List Event) (n : Next) → IsTame n → Tame (runs.led trace n).ended (runs.led trace n).state
    tame_led trace (runs.Goes before events after) h = h
    tame_led trace (runs.Stops before events after e) h = h

    tame_moved : (r : Run) (o : Option Ending) → r.ended ≡ o → Tame o r.state → Tame (runs.moved (step core heap) r o).ended (runs.moved (step core heap) r o).state
    tame_moved r (Some e) i h = subst (λ (o : Option Ending). Tame o r.state) (sym i) h
    tame_moved r None i h = tame_led r.trace _ (tame_at _ r.state _ _ refl refl h)

    tame_after : (r : Run) → Tame r.ended r.state → (k : ℕ) → Tame (runs.after (step core heap) r k).ended (runs.after (step core heap) r k).state
    unfolding runs.after
    tame_after r h zero = h
    tame_after r h (suc k) = tame_moved (runs.after (step core heap) r k) _ refl (tame_after r h k)

    tame_begun : (input : List ℕ) (n : ℕ) → Tame (begun core input n).ended (begun core input n).state
    tame_begun input zero = refl
    tame_begun input (suc n) = refl

    tame_end : (s : State) (o : Option Ending) (e : Ending) → o ≡ Some e → Tame o s → is_tame e ≡ true
    tame_end s None e i h = cc
    tame_end s (Some d) e i h = let same : d ≡ e = cc in subst (λ (x : Ending). is_tame x ≡ true) same h

    pub plain_end : (input : List ℕ) (n : ℕ) (e : Ending) → (meaning core input n heap).ended ≡ Some e → e ≢ Dangling → IsTrue (is_plain e)
    plain_end input n e i d =
        let r = begun core input n in
        let tame = tame_end _ _ e i (tame_after r (tame_begun input n) (enough core r.state)) in
        let plain : is_plain e ≡ true = plain_or_dangling e tame d in
        cc
