-- One statement, as the evaluator's caller sees it.
use Rattle.std.proofs.Common.{All, pos, ◌≤ℤ◌, IfOk, ◌≡◌, ℕ, zero, suc, ◌+◌, ◌<◌, ◌≤◌, Bool, List, [], ◌∷◌, length, Option, Some, None, Ok, Err, IsSome, refl, sym, ap, ◌∙◌, subst, arith}
use Rattle.std.specs.Prelude.{slice_get, slice_index_or}
use Rattle.std.proofs.lemmas.Int.{ints}
use Rattle.std.proofs.lemmas.Option.{get_or_from_slice_get}
use Rattle.hs_base.specs.State.{State}
use Rattle.hs_base.specs.Runs as runs
use Rattle.c_types.specs.declared.layouts.Layout.{Layout}
use Rattle.c_print.specs.Format.{IsFormat}
use Rattle.c_print.specs.Pieces.{pieces_of}
use Rattle.core_tree.specs.declared.statements.Atom.{Atom}
use Rattle.core_tree.specs.declared.statements.StmKind.{StmKind}
use Rattle.core_tree.specs.declared.statements.StmKind.TheVariants as kinds
use Rattle.core_tree.specs.declared.program.Static.{Static}
use Rattle.core_tree.specs.LayoutsOfTypes.{IsLayoutOfType}
use Rattle.core_tree.specs.Sorts.{IsTyped, TakesFormat}
use Rattle.c_types.specs.Layouts.{IsSound as IsSoundLayout}
use Rattle.core_tree.specs.declared.statements.Stm.{Stm}
use Rattle.core_tree.specs.declared.program.Func.{Func}
use Rattle.core_tree.specs.declared.program.Core.{Core}
use Rattle.core_tree.specs.Sound.{IsSound, IsFunction, HasNumbers, element_layouts}
use Rattle.object_meaning.specs.objects.Going.{Next}
use Rattle.object_meaning.specs.objects.Holding.{statement_in, statement_at}
use Rattle.object_meaning.specs.objects.Meaning.{format_in, start, act, enough, step_by}
use Rattle.object_meaning.specs.objects.Calls.{with_locals}
use Rattle.meaning_laws.specs.objects.Good.{Good}
use Rattle.meaning_laws.specs.objects.Laws.{StaysGood, LeavesLess, StatementIsMade, StatementStaysGood, StatementLeavesLess, CoreBeginsWell}
use Rattle.meaning_state.specs.Making.{IsElement}
use Rattle.meaning_run.specs.declared.halt.Halt.{Halt}
use Rattle.meaning_run.specs.declared.halt.Halt.TheVariants as halt
use Rattle.meaning_run.specs.Leading.{with_input, Moves, Counted}
use Rattle.meaning_run.specs.Meant.{MeanCounts, HasNoLimit, Begins, answer_of}

-- a good state is good with any input
pub good_input : (core : Core) (s : State) (left : List ℕ) → Good core s → Good core (with_input left s)
good_input core s left good =
    let h = good.1 in (
      good.0,
      record {
        here = h.here;
        inside = h.inside;
        sane = h.sane;
        statics = h.statics;
        locals = h.locals;
        below = h.below;
        above = h.above;
        fresh = h.fresh;
        depth = h.depth;
        others = h.others;
        sum = h.sum;
        opens = h.opens;
        waits = h.waits;
      },
    )

pub good_without : (core : Core) (s t : State) (left : List ℕ) → t ≡ with_input left s → Good core t → Good core s
good_without core s t left is good =
    let g : Good core (with_input left s) = subst (λ (x : State). Good core x) is good in
    let h = g.1 in (
      g.0,
      record {
        here = h.here;
        inside = h.inside;
        sane = h.sane;
        statics = h.statics;
        locals = h.locals;
        below = h.below;
        above = h.above;
        fresh = h.fresh;
        depth = h.depth;
        others = h.others;
        sum = h.sum;
        opens = h.opens;
        waits = h.waits;
      },
    )

-- the statement that a good state is at
pub there : StatementIsMade → (core : Core) → IsSound core → (s : State) → Good core s → IsSome (statement_at core s.running)
there made core sound s good = subst (λ (o : Option Stm). IsSome o) (sym (made core sound s good).1) refl

same_stm : (core : Core) (s : State) (good : Good core s) (stm : Stm) → Some stm ≡ statement_at core s.running → slice_get good.0.body s.running.point ≡ Some stm
same_stm core s good stm h = sym (ap (λ o. statement_in o s.running.point) good.1.here) ∙ sym h

pub function_of : (core : Core) → IsSound core → (s : State) → (good : Good core s) → (stm : Stm) → Some stm ≡ statement_at core s.running → (func : Func) × (slice_get core.funcs s.running.func ≡ Some func) × (slice_get func.body s.running.point ≡ Some stm) × IsFunction core func
function_of core sound s good stm h = (good.0, good.1.here, same_stm core s good stm h, sound.functions s.running.func good.0 good.1.here)

-- the statement that it is at is the one that is made
made_as : (core : Core) (s : State) (fits : ℕ → Bool) (stm made : Stm) → Some stm ≡ Some made → step_by core fits s ≡ act core fits made.line made.kind s → step_by core fits s ≡ act core fits stm.line stm.kind s
made_as core s fits stm made same is =
    let e : made ≡ stm = cc in subst (λ (x : Stm). step_by core fits s ≡ act core fits x.line x.kind s) e is

step_is : StatementIsMade → (core : Core) → IsSound core → (fits : ℕ → Bool) (s : State) → Good core s → (stm : Stm) → Some stm ≡ statement_at core s.running → step_by core fits s ≡ act core fits stm.line stm.kind s
step_is made core sound fits s good stm h =
    let m = made core sound s good in made_as core s fits stm m.0 (h ∙ m.1) (m.2 fits)

-- what a statement of a good state leads to
stays_on : (core : Core) (next : Next) (new : State) → StaysGood core next → Moves next new (Ok tt) → Good core new
stays_on core (runs.Goes before events after) new stays m = good_without core new after after.input m stays
stays_on core (runs.Stops before events after ending) new stays m = absurd m

pub good_next : StatementStaysGood → (core : Core) → IsSound core → (fits : ℕ → Bool) (old new : State) → Good core old → (m : (left : List ℕ) × Moves (step_by core fits (with_input left old)) new (Ok tt)) → Good core new
good_next stays core sound fits old new good m =
    stays_on core (step_by core fits (with_input m.0 old)) new (stays core sound (with_input m.0 old) (good_input core old m.0 good) fits) m.1

falls_on : (core : Core) (next : Next) (old new : State) → LeavesLess core old next → Moves next new (Ok tt) → enough core new < enough core old
falls_on core (runs.Goes before events after) old new f m = subst (λ (x : State). enough core x < enough core old) m f
falls_on core (runs.Stops before events after ending) old new f m = absurd m

pub less_next : StatementLeavesLess → (core : Core) → IsSound core → (fits : ℕ → Bool) (old new : State) → (m : (left : List ℕ) × Moves (step_by core fits (with_input left old)) new (Ok tt)) → enough core new < enough core old
less_next less core sound fits old new m =
    falls_on core (step_by core fits (with_input m.0 old)) (with_input m.0 old) new (less core sound (with_input m.0 old) fits) m.1

never_so : (next : Next) (new : State) (core : Core) → StaysGood core next → Moves next new (Err halt.Dangling) → ⊥
never_so (runs.Goes before events after) new core stays m = m
never_so (runs.Stops before events after ending) new core stays m = stays m

-- it does not read a pointer to a dead object
pub never : StatementStaysGood → (core : Core) → IsSound core → (fits : ℕ → Bool) (old new : State) → Good core old → (m : (left : List ℕ) × Moves (step_by core fits (with_input left old)) new (Err halt.Dangling)) → ⊥
never stays core sound fits old new good m =
    never_so (step_by core fits (with_input m.0 old)) new core (stays core sound (with_input m.0 old) (good_input core old m.0 good) fits) m.1

pub step_at : StatementIsMade → (core : Core) → IsSound core → (fits : ℕ → Bool) (s : State) → Good core s → (stm : Stm) (kind : StmKind) → Some stm ≡ statement_at core s.running → stm.kind ≡ kind → step_by core fits s ≡ act core fits stm.line kind s
step_at made core sound fits s good stm kind h e =
    step_is made core sound fits s good stm h ∙ ap (λ k. act core fits stm.line k s) e

-- The facts of a sound core at a statement

pub no_none : (o : Option Stm) → IsSome o → None ≡ o → ⊥
no_none None h e = cc
no_none (Some stm) h e = cc

-- layouts of types are sound: a law of `core_tree`
abbrev LayoutsAreSound : Type 0
LayoutsAreSound = (l : Layout) → IsLayoutOfType l → IsSoundLayout l

all_one : (P : Layout → Type 0) (t : Layout) → P t → All P (t ∷ [])
all_one P t p zero d b = p
all_one P t p (suc k) d b = absurd (omega arith)

element : LayoutsAreSound → (t : Layout) → All (λ size. (pos 1 ≤ℤ size) × (size ≤ℤ pos 268435456)) (pos t.size ∷ []) → All IsLayoutOfType (t ∷ []) → IsElement t
element sound t sizes layouts =
    let le = (sizes 0 (pos 0) (omega arith)).0 in
    record {
      some = omega (arith, ints, le);
      slots = (sound t (layouts 0 t (omega arith))).slots;
    }

pub elements_of : LayoutsAreSound → (kind : StmKind) → HasNumbers kind → All IsLayoutOfType (element_layouts kind) → All IsElement (element_layouts kind)
elements_of layouts (kinds.Malloc r n t) h e = all_one IsElement t (element layouts t h.sizes e)
elements_of layouts (kinds.Calloc r m n t) h e = all_one IsElement t (element layouts t h.sizes e)
elements_of layouts (kinds.Realloc r p n t) h e = all_one IsElement t (element layouts t h.sizes e)
elements_of layouts _ h e = λ k d b. absurd (omega arith)

pub numbers_at : (core : Core) → IsSound core → (s : State) → Good core s → (stm : Stm) → Some stm ≡ statement_at core s.running → HasNumbers stm.kind
numbers_at core sound s good stm h = let f = function_of core sound s good stm h in f.3.numbers s.running.point stm f.2

pub elements_at : LayoutsAreSound → (core : Core) → IsSound core → (s : State) → Good core s → (stm : Stm) → Some stm ≡ statement_at core s.running → All IsElement (element_layouts stm.kind)
elements_at layouts core sound s good stm h =
    let f = function_of core sound s good stm h in
    elements_of layouts stm.kind (f.3.numbers s.running.point stm f.2) (f.3.elements s.running.point stm f.2)

takes_format : (core : Core) (func : Func) (args : List Atom) (k : ℕ) (o : Option (List ℕ)) → slice_get func.formats k ≡ o → TakesFormat core func args o → IsFormat (slice_index_or func.formats k []) (pieces_of (slice_index_or func.formats k []))
takes_format core func args k None e h = absurd h
takes_format core func args k (Some format) e h = rw (get_or_from_slice_get func.formats k format [] e) h.0

pub format_at : (core : Core) → IsSound core → (s : State) → Good core s → (stm : Stm) (r k : ℕ) (args : List Atom) → Some stm ≡ statement_at core s.running → stm.kind ≡ kinds.Printf r k args → IsFormat (format_in (slice_get core.funcs s.running.func) k) (pieces_of (format_in (slice_get core.funcs s.running.func) k))
format_at core sound s good statement r k args h is =
    let f = function_of core sound s good statement h in
    let typed : IsTyped core f.0 (kinds.Printf r k args) = subst (λ (x : StmKind). IsTyped core f.0 x) is (f.3.typed s.running.point statement f.2) in
    let format = takes_format core f.0 args k (slice_get f.0.formats k) refl typed.1 in
    subst (λ (o : Option Func). IsFormat (format_in o k) (pieces_of (format_in o k))) (sym f.1) format

-- before the first statement
pub starts_good : CoreBeginsWell → (core : Core) → IsSound core → (m : State) (n steps : ℕ) → steps + 1 ≡ n → m ≡ with_locals core (start core [] steps) → Good core m
starts_good begins core sound m n steps e is = subst (λ (s : State). Good core s) (sym is) (begins core sound [] (suc steps))

pub starts_begun : (core : Core) (m : State) (input : List ℕ) (n steps : ℕ) → steps + 1 ≡ n → m ≡ with_locals core (start core [] steps) → Begins core input n m
starts_begun core m input n steps e is =
    let f : n ≡ suc steps = omega arith in
    rw f (record { goes = refl; state = ap (with_input input) (sym is); writes = refl; reads = refl; places = λ heap. refl })

pub statics_short : (core : Core) → IsSound core → All (λ (s : Static). length s.start.bytes ≤ s.layout.size) core.statics
statics_short core sound k d b = (sound.statics k d b).inside

-- Counts of faults and limits

pub counts : (h : Halt) (i i' o o' : ℕ) → Counted (Err h) i i' o o' → MeanCounts (answer_of h) i i' o o'
counts (halt.Exit code) i i' o o' c = c
counts (halt.Trap kind line) i i' o o' c = c
counts (halt.BadFree why holder) i i' o o' c = c
counts (halt.Escape func local line) i i' o o' c = c
counts halt.Spent i i' o o' c = c
counts halt.Dangling i i' o o' c = c
counts halt.InputFault i i' o o' c = c
counts halt.OutputFault i i' o o' c = c
counts halt.NoMemory i i' o o' c = c

pub limits : (h : Halt) → IfOk (answer_of h) HasNoLimit
limits (halt.Exit code) = tt
limits (halt.Trap kind line) = tt
limits (halt.BadFree why holder) = tt
limits (halt.Escape func local line) = tt
limits halt.Spent = tt
limits halt.Dangling = tt
limits halt.InputFault = tt
limits halt.OutputFault = tt
limits halt.NoMemory = tt
