-- The listed pins are exact, and those of each point ascend.
use Rattle.std.proofs.Common.{◌≡◌, ℕ, zero, suc, ◌+◌, ◌<◌, Bool, true, false, cond, nat_eq, List, [], ◌∷◌, ◌++◌, length, map, get_or, Option, Some, None, refl, sym, ap, ◌∙◌, subst, arith, ⊎_elim}
use Rattle.std.specs.Prelude.{◌≤◌, filter, slice_get, AllPairs, Contains}
use Rattle.std.specs.List.{IsDistinct, AllByRecursion, flat_map, range_with_len}
use Rattle.std.specs.Option.{option_map_or}
use Rattle.std.proofs.lemmas.Bool.{eq-eqb, ne_eqb, and_parts, true≢false}
use Rattle.std.proofs.lemmas.List.{append-nil}
use Rattle.std.proofs.lemmas.List.FromFn.{length-range_with_len, get_or-range_with_len}
use Rattle.std.proofs.lemmas.List.Kept.{AllPairs-filter}
use Rattle.std.proofs.lemmas.Option.{slice_get_within, slice_get_cases}
use Rattle.core_tree.specs.declared.program.Core.{Core}
use Rattle.core_tree.specs.declared.program.Func.{Func}
use Rattle.core_tree.specs.declared.program.Reg.{Reg as Register}
use Rattle.core_tree.specs.declared.statements.Stm.{Stm}
use Rattle.core_tree.specs.declared.statements.StmKind.{StmKind}
use Rattle.core_tree.specs.declared.statements.StmKind.TheVariants as stm
use Rattle.core_tree.specs.Lives.{is_live}
use Rattle.object_meaning.specs.declared.pins.Pin.{Pin}
use Rattle.object_meaning.specs.counted.Pinning.{Pins, pins_in, pins_of, holds_pointer, holds_on, counts_at, AreThose, AreExact}
use Rattle.count_insertion.specs.Inserted.{pin_of, pins_at, func_pins}

-- Pins of a point

one_in : (b : Bool) (pin : Pin) (pins : List Pin) → map (λ (p : Pin). p.reg) (cond b (pin ∷ pins) pins) ≡ cond b (pin.reg ∷ []) [] ++ map (λ (p : Pin). p.reg) pins
one_in true pin pins = refl
one_in false pin pins = refl

front : (b : Bool) (r : ℕ) (one other : List ℕ) → cond b (r ∷ []) [] ++ (one ++ other) ≡ (cond b (r ∷ []) [] ++ one) ++ other
front true r one other = refl
front false r one other = refl

pub pins_in-append : (pins more : List Pin) (point : ℕ) → pins_in (pins ++ more) point ≡ pins_in pins point ++ pins_in more point
pins_in-append [] more point = refl
pins_in-append (pin ∷ pins) more point =
    let b = nat_eq pin.point point in
    one_in b pin (filter (λ (p : Pin). nat_eq p.point point) (pins ++ more))
    ∙ ap (λ rs. cond b (pin.reg ∷ []) [] ++ rs) (pins_in-append pins more point)
    ∙ front b pin.reg (pins_in pins point) (pins_in more point)
    ∙ ap (λ rs. rs ++ pins_in more point) (sym (one_in b pin (filter (λ (p : Pin). nat_eq p.point point) pins)))

here_in : (q point : ℕ) → q ≡ point → (registers : List ℕ) → pins_in (map (pin_of q) registers) point ≡ registers
here_in q point e [] = refl
here_in q point e (r ∷ registers) =
    one_in (nat_eq q point) (pin_of q r) (filter (λ (p : Pin). nat_eq p.point point) (map (pin_of q) registers))
    ∙ ap (λ b. cond b (r ∷ []) [] ++ pins_in (map (pin_of q) registers) point) (eq-eqb q point e)
    ∙ ap (λ rs. r ∷ rs) (here_in q point e registers)

elsewhere_in : (q point : ℕ) → (q ≡ point → ⊥) → (registers : List ℕ) → pins_in (map (pin_of q) registers) point ≡ []
elsewhere_in q point n [] = refl
elsewhere_in q point n (r ∷ registers) =
    one_in (nat_eq q point) (pin_of q r) (filter (λ (p : Pin). nat_eq p.point point) (map (pin_of q) registers))
    ∙ ap (λ b. cond b (r ∷ []) [] ++ pins_in (map (pin_of q) registers) point) (ne_eqb q point n)
    ∙ elsewhere_in q point n registers

module _ (func : Func) (point : ℕ) where
  abbrev of_point : ℕ → List Pin
  of_point q = pins_at func q (slice_get func.body q)

  none_at : (q : ℕ) → (q ≡ point → ⊥) → (o : Option Stm) → pins_in (pins_at func q o) point ≡ []
  none_at q n None = refl
  none_at q n (Some stm) = elsewhere_in q point n (filter (counts_at func q stm.kind) (range_with_len 0 (length func.regs)))

  none_past : (a n : ℕ) → point < a → pins_in (flat_map of_point (range_with_len a n)) point ≡ []
  none_past a zero lt = refl
  none_past a (suc n) lt =
      pins_in-append (of_point a) (flat_map of_point (range_with_len (a + 1) n)) point
      ∙ ap (λ rs. rs ++ pins_in (flat_map of_point (range_with_len (a + 1) n)) point) (none_at a (λ e. omega (arith, e, lt)) (slice_get func.body a))
      ∙ none_past (a + 1) n (omega (arith, lt))

  one_of : (a n k : ℕ) → point ≡ a + k → k < n → pins_in (flat_map of_point (range_with_len a n)) point ≡ pins_in (of_point point) point
  one_of a zero k e lt = absurd (omega (arith, lt))
  one_of a (suc n) zero e lt =
      let same : point ≡ a = omega (arith, e) in
      pins_in-append (of_point a) (flat_map of_point (range_with_len (a + 1) n)) point
      ∙ ap (λ rs. pins_in (of_point a) point ++ rs) (none_past (a + 1) n (omega (arith, same)))
      ∙ append-nil (pins_in (of_point a) point)
      ∙ ap (λ q. pins_in (of_point q) point) (sym same)
  one_of a (suc n) (suc k) e lt =
      pins_in-append (of_point a) (flat_map of_point (range_with_len (a + 1) n)) point
      ∙ ap (λ rs. rs ++ pins_in (flat_map of_point (range_with_len (a + 1) n)) point) (none_at a (λ i. omega (arith, e, i)) (slice_get func.body a))
      ∙ one_of (a + 1) n k (omega (arith, e)) (omega (arith, lt))

  none_before : (a n : ℕ) → a + n ≤ point → pins_in (flat_map of_point (range_with_len a n)) point ≡ []
  none_before a zero h = refl
  none_before a (suc n) h =
      pins_in-append (of_point a) (flat_map of_point (range_with_len (a + 1) n)) point
      ∙ ap (λ rs. rs ++ pins_in (flat_map of_point (range_with_len (a + 1) n)) point) (none_at a (λ e. omega (arith, e, h)) (slice_get func.body a))
      ∙ none_before (a + 1) n (omega (arith, h))

  pub registers_are : (stm : Stm) → slice_get func.body point ≡ Some stm → pins_in (func_pins func) point ≡ filter (counts_at func point stm.kind) (range_with_len 0 (length func.regs))
  registers_are stm at =
      one_of 0 (length func.body) point (omega arith) (slice_get_within func.body point stm at)
      ∙ ap (λ o. pins_in (pins_at func point o) point) at
      ∙ here_in point point refl (filter (counts_at func point stm.kind) (range_with_len 0 (length func.regs)))

-- Numbers that pass a test

module _ (test : ℕ → Bool) where
  all_above : (x b n : ℕ) → x < b → AllByRecursion (λ y. nat_eq x y ≡ false) (filter test (range_with_len b n))
  all_above x b zero lt = tt
  all_above x b (suc n) lt = either (test b) (all_above x (b + 1) n (omega (arith, lt))) where
    either : (c : Bool) → AllByRecursion (λ y. nat_eq x y ≡ false) (filter test (range_with_len (b + 1) n)) → AllByRecursion (λ y. nat_eq x y ≡ false) (cond c (b ∷ filter test (range_with_len (b + 1) n)) (filter test (range_with_len (b + 1) n)))
    either true h = (ne_eqb x b (λ e. omega (arith, e, lt)), h)
    either false h = h

  distinct_cond : (a : ℕ) (xs : List ℕ) (c : Bool) → AllByRecursion (λ y. nat_eq a y ≡ false) xs → IsDistinct nat_eq xs → IsDistinct nat_eq (cond c (a ∷ xs) xs)
  unfolding IsDistinct
  distinct_cond a xs true above h = (above, h)
  distinct_cond a xs false above h = h

  filter_distinct : (a n : ℕ) → IsDistinct nat_eq (filter test (range_with_len a n))
  unfolding IsDistinct
  filter_distinct a zero = tt
  filter_distinct a (suc n) =
      distinct_cond a (filter test (range_with_len (a + 1) n)) (test a) (all_above a (a + 1) n (omega arith)) (filter_distinct (a + 1) n)

  there : (x r : ℕ) (xs : List ℕ) → Contains xs r → Contains (x ∷ xs) r
  there x r xs h = (suc h.0, omega (arith, h.1), h.2)

  filter_contains : (a n r k : ℕ) → r ≡ a + k → k < n → test r ≡ true → Contains (filter test (range_with_len a n)) r
  filter_contains a zero r k e lt h = absurd (omega (arith, lt))
  filter_contains a (suc n) r zero e lt h =
      let same : r ≡ a = omega (arith, e) in
      subst (λ c. Contains (cond c (a ∷ filter test (range_with_len (a + 1) n)) (filter test (range_with_len (a + 1) n))) r) (sym (subst (λ q. test q ≡ true) same h)) (0, omega arith, sym same)
  filter_contains a (suc n) r (suc k) e lt h = either (test a) (filter_contains (a + 1) n r k (omega (arith, e)) (omega (arith, lt)) h) where
    either : (c : Bool) → Contains (filter test (range_with_len (a + 1) n)) r → Contains (cond c (a ∷ filter test (range_with_len (a + 1) n)) (filter test (range_with_len (a + 1) n))) r
    either true i = there a r (filter test (range_with_len (a + 1) n)) i
    either false i = i

  passes_cond : (x r : ℕ) (xs : List ℕ) (c : Bool) → test x ≡ c → ((k : ℕ) → k < length xs → get_or xs k r ≡ r → test r ≡ true) → (k : ℕ) → k < length (cond c (x ∷ xs) xs) → get_or (cond c (x ∷ xs) xs) k r ≡ r → test r ≡ true
  passes_cond x r xs true h rest zero lt e = subst (λ q. test q ≡ true) e h
  passes_cond x r xs true h rest (suc k) lt e = rest k (omega (arith, lt)) e
  passes_cond x r xs false h rest k lt e = rest k lt e

  filter_passes : (xs : List ℕ) (r k : ℕ) → k < length (filter test xs) → get_or (filter test xs) k r ≡ r → test r ≡ true
  filter_passes [] r k lt e = absurd (omega (arith, lt))
  filter_passes (x ∷ xs) r k lt e =
      passes_cond x r (filter test xs) (test x) refl (λ j. filter_passes xs r j) k lt e

  those_below : (n : ℕ) → ((r : ℕ) → test r ≡ true → r < n) → AreThose test (filter test (range_with_len 0 n))
  those_below n below = record {
    once = filter_distinct 0 n;
    exact = λ r. (λ h. filter_contains 0 n r r (omega arith) (below r h) h, λ c. filter_passes (range_with_len 0 n) r c.0 c.1 c.2);
  }

-- What counts is a register of the function

holder_within : (func : Func) (r : ℕ) → holds_pointer func r ≡ true → r < length func.regs
holder_within func r h = by_option (slice_get func.regs r) refl h where
  by_option : (o : Option Register) → slice_get func.regs r ≡ o → option_map_or (λ (reg : Register). reg.pointer) o false ≡ true → r < length func.regs
  by_option None e h = absurd (true≢false (sym h))
  by_option (Some reg) e h = slice_get_within func.regs r reg e

on_within : (func : Func) (point r : ℕ) → holds_on func point r ≡ true → r < length func.regs
on_within func point r h = holder_within func r (and_parts (holds_pointer func r) (is_live func.body point r) h).0

counts_within : (func : Func) (point : ℕ) (kind : StmKind) (r : ℕ) → counts_at func point kind r ≡ true → r < length func.regs
counts_within func point (stm.Call f answer args) r h = on_within func point r (and_parts (holds_on func point r) _ h).0
counts_within func point (stm.Realloc q p n t) r h = on_within func point r h
counts_within func point (stm.Free p) r h = on_within func point r h
counts_within func point stm.Leave r h = on_within func point r h
counts_within func point kind r h = absurd (true≢false (sym h))

pub at_map : (funcs : List Func) (f : ℕ) (func : Func) → slice_get funcs f ≡ Some func → get_or (map func_pins funcs) f [] ≡ func_pins func
at_map [] f func h = absurd (cc)
at_map (g ∷ funcs) zero func h = let e : g ≡ func = cc in ap func_pins e
at_map (g ∷ funcs) (suc f) func h = at_map funcs f func h

-- the pins of a point are the registers that count there, in their order
pub listed_in_order : (core : Core) (pins : Pins) → pins ≡ map func_pins core.funcs → (f : ℕ) (func : Func) → slice_get core.funcs f ≡ Some func → (point : ℕ) (stm : Stm) → slice_get func.body point ≡ Some stm → pins_of pins f point ≡ filter (counts_at func point stm.kind) (range_with_len 0 (length func.regs))
listed_in_order core pins e f func here point stm at =
    ap (λ ps. pins_in (get_or ps f []) point) e ∙ ap (λ ps. pins_in ps point) (at_map core.funcs f func here) ∙ registers_are func point stm at

-- and so they are exact
pub listed_exact : (core : Core) (pins : Pins) → pins ≡ map func_pins core.funcs → AreExact core pins
listed_exact core pins e f func here point stm at =
    let test = counts_at func point stm.kind in
    subst (λ rs. AreThose test rs) (sym (listed_in_order core pins e f func here point stm at)) (those_below test (length func.regs) (counts_within func point stm.kind))

-- Pins ascend

abbrev Below : ℕ → ℕ → Type 0
Below one other = one < other

none_ascend : AllPairs Below []
none_ascend = λ i j d less below. absurd (omega (arith, below))

range_ascends : (a n : ℕ) → AllPairs Below (range_with_len a n)
range_ascends a n i j d less below =
    let inside : j < n = omega (arith, length-range_with_len a n, below) in
    omega (arith, get_or-range_with_len a n i d (omega (arith, less, inside)), get_or-range_with_len a n j d inside, less)

-- those of a point, in order
point_ascends : (func : Func) (point : ℕ) (stm : Stm) → slice_get func.body point ≡ Some stm → AllPairs Below (pins_in (func_pins func) point)
point_ascends func point stm at =
    let test = counts_at func point stm.kind in
    let all = range_with_len 0 (length func.regs) in
    subst (AllPairs Below) (sym (registers_are func point stm at)) (AllPairs-filter Below test all (range_ascends 0 (length func.regs)))

-- the pins of each point of a function ascend, and where it has no such point there are none
func_ascends : (func : Func) (point : ℕ) → AllPairs Below (pins_in (func_pins func) point)
func_ascends func point =
    ⊎_elim
    (λ (at : (stm : Stm) × (point < length func.body) × (slice_get func.body point ≡ Some stm) × (get_or func.body point stm ≡ stm)).
    point_ascends func point at.0 at.2)
    (λ (past : (length func.body ≤ point) × (slice_get func.body point ≡ None)).
    subst (AllPairs Below) (sym (none_before func point 0 (length func.body) (omega (arith, past.0)))) none_ascend)
    (slice_get_cases func.body point).1

one_of_each : (P : List Pin → Type 0) → P [] → ((func : Func) → P (func_pins func)) → (funcs : List Func) (f : ℕ) → P (get_or (map func_pins funcs) f [])
one_of_each P none each [] f = none
one_of_each P none each (func ∷ funcs) zero = each func
one_of_each P none each (func ∷ funcs) (suc f) = one_of_each P none each funcs f

pub listed_ascending : (core : Core) (pins : Pins) → pins ≡ map func_pins core.funcs → (f point : ℕ) → AllPairs Below (pins_of pins f point)
listed_ascending core pins e f point =
    subst (λ ps. AllPairs Below (pins_of ps f point)) (sym e) (one_of_each (λ ps. AllPairs Below (pins_in ps point)) none_ascend (λ func. func_ascends func point) core.funcs f)
