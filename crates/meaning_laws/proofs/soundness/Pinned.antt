-- Registers that count at an instruction, and the pins that list them.
use Rattle.meaning_laws.proofs.Words.Core.{Code, Counts, Entry, Frame, HasSite, Instr, Integer, IsAt, IsWellFormed, Pointer, Sort, Value, all_there, has_site, is_pointer_to, pointers_to, register_sort, register_sorts}
use Rattle.meaning_laws.proofs.Words.Meaning.{AreOfSorts, IsOfSort, in_pins, number, pinned, pins_at, pointer_in, pointer_of_register}
use Rattle.meaning_laws.proofs.Words.Std.{Bool, Contains, List, Option, Some, [], arith, cond, false, get_or, inl, inr, length, map, pos, refl, slice_get, subst, suc, sum_by-cons, sym, true, unwrap_or, zero, ℕ, ⊎_elim, ◌+◌, ◌<◌, ◌∷◌, ◌≡◌, ◌⊎◌}
use Rattle.hs_base.specs.declared.values.Pointer.TheVariants as pointer
use Rattle.hs_base.specs.declared.values.Value.TheVariants as value
use Rattle.core_tree.specs.Sorts.{Pointer as Address}

-- Registers for integers

integer_null : (v : Value) → IsOfSort (Some Integer) v → pointer_in v ≡ pointer.Null
integer_null (value.Number n) h = refl
integer_null (value.Pointer p) h = absurd h

-- a register is one for pointers, or it holds none
by_sort : (sorts : List Sort) (regs : List Value) → AreOfSorts (all_there sorts) regs → (r : ℕ) → (slice_get sorts r ≡ Some Address) ⊎ (pointer_in (get_or regs r (number (pos 0))) ≡ pointer.Null)
by_sort [] [] h r = inr refl
by_sort [] (v ∷ regs) h r = absurd h
by_sort (s ∷ sorts) [] h r = absurd h
by_sort (Integer ∷ sorts) (v ∷ regs) h zero = inr (integer_null v h.0)
by_sort (Address ∷ sorts) (v ∷ regs) h zero = inl refl
by_sort (s ∷ sorts) (v ∷ regs) h (suc r) = by_sort sorts regs h.1 r

-- what holds of null is to be shown of registers for pointers alone
pub by_register : (P : Pointer → Type 0) → P pointer.Null → (entry : Entry) (frame : Frame) → AreOfSorts (all_there (register_sorts entry)) frame.regs → (r : ℕ) → (register_sort entry r ≡ Some Address → P (pointer_of_register frame r)) → P (pointer_of_register frame r)
by_register P null entry frame are r h =
    ⊎_elim h (λ none. subst P (sym none) null) (by_sort (register_sorts entry) frame.regs are r)

-- Pins that point elsewhere

count_none : (b : Bool) (n : ℕ) → cond b 1 0 + n ≡ 0 → (b ≡ false) × (n ≡ 0)
count_none true n h = absurd (omega arith)
count_none false n h = (refl, omega arith)

-- the pointers to an object in a register, and in others
none_in : (frame : Frame) (b q : ℕ) (registers : List ℕ) → pointers_to b (map (pointer_of_register frame) (q ∷ registers)) ≡ 0 → (is_pointer_to b (pointer_of_register frame q) ≡ false) × (pointers_to b (map (pointer_of_register frame) registers) ≡ 0)
none_in frame b q registers none =
    count_none _ _ (omega (arith, none, sum_by-cons (λ p. cond (is_pointer_to b p) 1 0) (pointer_of_register frame q) (map (pointer_of_register frame) registers)))

-- where none of some registers points to an object, each of them points elsewhere
unpinned : (frame : Frame) (b : ℕ) (registers : List ℕ) → pointers_to b (map (pointer_of_register frame) registers) ≡ 0 → (r k : ℕ) → k < length registers → get_or registers k r ≡ r → is_pointer_to b (pointer_of_register frame r) ≡ false
unpinned frame b [] none r k lt e = absurd (omega arith)
unpinned frame b (q ∷ registers) none r zero lt e =
    subst (λ i. is_pointer_to b (pointer_of_register frame i) ≡ false) e (none_in frame b q registers none).0
unpinned frame b (q ∷ registers) none r (suc k) lt e =
    unpinned frame b registers (none_in frame b q registers none).1 r k (omega arith) e

-- where no pin of a frame points to an object, no register that counts there does
pub uncounted : (code : Code) → IsWellFormed code → (f : ℕ) (entry : Entry) (frame : Frame) (i : Instr) → IsAt code f entry frame.point i → has_site i.op ≡ true → (b : ℕ) → pointers_to b (pinned code frame) ≡ 0 → (r : ℕ) → Counts code entry frame.point i r → is_pointer_to b (pointer_of_register frame r) ≡ false
uncounted code wf f entry frame i at has b none r counts =
    let site : HasSite code entry frame.point i true = subst (λ h. HasSite code entry frame.point i h) has (wf.instructions f entry frame.point i at).site in
    let pins = site.0 in
    let here = (site.2.exact r).0 counts in
    let same : pointers_to b (map (pointer_of_register frame) pins) ≡ 0 = subst (λ (o : Option (List ℕ)). pointers_to b (map (pointer_of_register frame) (unwrap_or o [])) ≡ 0) site.1 none in
    unpinned frame b pins same r here.0 here.1 here.2

-- each pin of a frame counts
pins_count_at : (code : Code) (entry : Entry) (frame : Frame) (i : Instr) (has : Bool) → HasSite code entry frame.point i has → (r : ℕ) → Contains (pins_at code frame) r → Counts code entry frame.point i r
pins_count_at code entry frame i true site r c =
    (site.2.exact r).1 (subst (λ (o : Option (List ℕ)). Contains (unwrap_or o []) r) site.1 c)
pins_count_at code entry frame i false none r c =
    let nothing = subst (λ (o : Option (List ℕ)). Contains (unwrap_or o []) r) none c in absurd (omega (arith, nothing.1))

-- the same of the instruction of the frame
pub pins_count : (code : Code) → IsWellFormed code → (f : ℕ) (entry : Entry) (frame : Frame) (i : Instr) → IsAt code f entry frame.point i → (r : ℕ) → Contains (pins_at code frame) r → Counts code entry frame.point i r
pins_count code wf f entry frame i at r c =
    pins_count_at code entry frame i (has_site i.op) (wf.instructions f entry frame.point i at).site r c

-- the pins of frames, one by one
pub pins_cons : (code : Code) (b : ℕ) (frame : Frame) (frames : List Frame) → in_pins code b (frame ∷ frames) ≡ pointers_to b (pinned code frame) + in_pins code b frames
pins_cons code b frame frames = sum_by-cons (λ (f : Frame). pointers_to b (pinned code f)) frame frames
