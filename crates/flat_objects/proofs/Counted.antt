-- The counts of a memory that tracks frees.
use Rattle.std.proofs.Common.{◌≡◌, ◌<◌, ◌≤◌, ◌+◌, ◌*◌, ◌-◌, ◌/◌, ◌%◌, inl, inr, ℕ, Bool, true, false, not, List, [], ◌∷◌, ◌++◌, length, get_or, set, refl, sym, ap, ◌∙◌, subst, arith, zero-add, length-append}
use Rattle.std.specs.Prelude.{All, map, filter, nat_eq, nat_le, nat_lt, ◌&&◌, sum, slice_index}
use Rattle.std.specs.List.{sum_by, count_by, enumerate_from}
use Rattle.std.proofs.lemmas.Bool.{cases_Bool, cases_eq, cond-true, cond-false, ne_eqb, eq-eqb, and_from, and_parts, le-leb, lt-ltb, leb-true, ltb-true, not_from_false, not-true}
use Rattle.std.proofs.lemmas.List.{get_or_append_left, get_or_default, get_or-set_same, get_or-set_other}
use Rattle.std.proofs.lemmas.List.Elements.{All-cons, All-tail, All-append}
use Rattle.std.proofs.lemmas.List.FromFn.{length-enumerate_from, get_or-enumerate_from}
use Rattle.std.proofs.lemmas.List.Sums.{sum_by-append, sum_by-cons, sum_by-set, count_by-le-length}
use Rattle.std.proofs.Math.ListN.{length-set}
use Rattle.hs_base.specs.declared.values.Pointer.{Pointer}
use Rattle.hs_base.specs.declared.values.Pointer.TheVariants as pointer
use Rattle.hs_base.specs.Access.{with_object}
use Rattle.byte_memory.specs.Bytes.{word, put_word}
use Rattle.hs_base.specs.Object.{Object, is_dead, no_object, object_at}
use Rattle.count_table.specs.Table.{Table, with_count}
use Rattle.delay_scopes.specs.Queue.{ScopesModel}
use Rattle.heap_blocks.specs.Held.{HeapModel, Holds}
use Rattle.flat_objects.specs.Memory.{Memory, Range, Statics, Locals, Heap, IsMemory, heap_of, pin_room, range_of}
use Rattle.flat_objects.specs.Standing.{IsThere, IsAddressOf}
use Rattle.flat_objects.specs.Keeping.{Keeps, block_of, stands_in}
use Rattle.flat_objects.specs.Counting.{AreCounts, Frees, LeadsSomewhere, Tracks, leads_into, living_pointers, one_less, one_more, pointers_in}
use Rattle.flat_objects.proofs.Apart.{objects_apart}
use Rattle.flat_objects.proofs.Ascending.{Ascend}
use Rattle.flat_objects.proofs.Blocks.{there_below}
use Rattle.flat_objects.proofs.Changing.{SameShape, with_bytes}
use Rattle.flat_objects.proofs.Owners.{own_inside}
use Rattle.flat_objects.proofs.Reached.{are_slots}
use Rattle.flat_objects.specs.SumEquations.{sum_flat}
use Rattle.flat_objects.proofs.Tallies.{count_one, met_once, one_if, span_to, sum_enumerated, sum_less, sum_listed, sum_ones, sum_scaled, sum_to, sum_to_longer, sum_to_none, sum_to_ones, sum_to_same, sums_swapped}

-- The pointers inside objects are no more than fit

-- each of ascending slots has 4 bytes
slots_few : (low high : ℕ) (slots : List ℕ) → low ≤ high → Ascend low high slots → low + 4 * length slots ≤ high
slots_few low high [] less h = omega arith
slots_few low high (s ∷ slots) less h =
    let first = h.0 in
    let last = h.1 in
    let rest = slots_few (s + 4) high slots h.1 h.2 in
    omega arith

pub pointers_there : (o : Object) → is_dead o.standing ≡ false → pointers_in o ≡ o.pointers
pointers_there o there = cond-false (is_dead o.standing) [] o.pointers there

module _ (locals heap : ℕ) (memory : Memory) (shape : IsMemory locals heap memory) (places : ℕ → ℕ) (objects : List Object) (keeps : Keeps memory places objects) where
  -- is it a byte of an object that is not dead?
  abbrev covers : ℕ → ℕ × Object → Bool
  covers m one = not (is_dead one.1.standing) && (nat_le (places one.0) m && nat_lt m (places one.0 + one.1.size))

  listed : (k : ℕ) (d : ℕ × Object) → k < length (enumerate_from 0 objects) → get_or (enumerate_from 0 objects) k d ≡ (k, object_at objects k)
  listed k d less =
      let inside : k < length objects = omega (arith, length-enumerate_from 0 objects) in
      get_or_default (enumerate_from 0 objects) k d (0, no_object) less ∙ get_or-enumerate_from 0 objects k (0, no_object) inside
      ∙ ap (λ (n : ℕ). let pair : ℕ × Object = (n, object_at objects k) in pair) (zero-add k)

  few_in_one : (k : ℕ) → 4 * length (pointers_in (object_at objects k)) ≤ sum_to (λ m. one_if (covers m (k, object_at objects k))) (length memory.bytes)
  few_in_one k =
      let o = object_at objects k in
      elim (cases_Bool (is_dead o.standing)) [
        | inl dead ↦
            let none : length (pointers_in o) ≡ 0 = ap length (cond-true (is_dead o.standing) [] o.pointers dead) in
            omega arith
        | inr there ↦
            let old = keeps.standing k there in
            let inside = own_inside memory places objects keeps k there locals heap shape in
            let slots = slots_few 0 o.size o.slots (omega arith) (are_slots locals heap memory _ o shape old.slots) in
            let many : length (pointers_in o) ≡ length o.slots = ap length (pointers_there o there) ∙ old.many in
            let span = span_to (λ m. covers m (k, o)) (places k) (places k + o.size)
            (λ m low high. and_from (not (is_dead o.standing)) (nat_le (places k) m && nat_lt m (places k + o.size)) (not_from_false (is_dead o.standing) there)
            (and_from (nat_le (places k) m) (nat_lt m (places k + o.size)) (le-leb (places k) m low) (lt-ltb m (places k + o.size) high))) in
            let longer = sum_to_longer (λ m. one_if (covers m (k, o))) (places k + o.size) (length memory.bytes) (omega arith) in
            omega arith
      ]

  covered : (m : ℕ) (k : ℕ) → covers m (k, object_at objects k) ≡ true → (is_dead (object_at objects k).standing ≡ false) × (places k ≤ m) × (m < places k + (object_at objects k).size)
  covered m k h =
      let o = object_at objects k in
      let both = and_parts (not (is_dead o.standing)) (nat_le (places k) m && nat_lt m (places k + o.size)) h in
      let within = and_parts (nat_le (places k) m) (nat_lt m (places k + o.size)) both.1 in
      (not-true (is_dead o.standing) both.0, leb-true (places k) m within.0, ltb-true m (places k + o.size) within.1)

  -- no byte is one of two objects
  once : (m : ℕ) → count_by (covers m) (enumerate_from 0 objects) ≤ 1
  once m =
      count_one (covers m) (enumerate_from 0 objects)
      (λ i j d e less inside one other.
      let in_i = covered m i (subst (λ (x : ℕ × Object). covers m x ≡ true) (listed i d (omega arith)) one) in
      let in_j = covered m j (subst (λ (x : ℕ × Object). covers m x ≡ true) (listed j e inside) other) in
      elim (objects_apart locals heap memory shape places objects keeps i j in_i.0 in_j.0 (λ same. omega arith)) [
        | inl h ↦ omega (arith, in_i.1, in_i.2, in_j.1, in_j.2)
        | inr h ↦ omega (arith, in_i.1, in_i.2, in_j.1, in_j.2)
      ])

  pub living_few : 4 * length (living_pointers objects) ≤ length memory.bytes
  living_few =
      let listed_objects = enumerate_from 0 objects in
      let one = sum_ones (living_pointers objects) in
      let two = sum_flat (λ p. 1) pointers_in objects in
      let three = sum_enumerated (λ o. sum_by (λ p. 1) (pointers_in o)) 0 objects in
      let each = sum_scaled (λ (x : ℕ × Object). sum_by (λ p. 1) (pointers_in x.1)) (λ (x : ℕ × Object). sum_to (λ m. one_if (covers m x)) (length memory.bytes)) listed_objects
      (λ k d less.
      let few = few_in_one k in
      let long = sum_ones (pointers_in (object_at objects k)) in
      subst (λ (x : ℕ × Object). 4 * sum_by (λ p. 1) (pointers_in x.1) ≤ sum_to (λ m. one_if (covers m x)) (length memory.bytes)) (sym (listed k d less)) (omega arith)) in
      let swapped = sums_swapped (λ m (x : ℕ × Object). one_if (covers m x)) listed_objects (length memory.bytes) in
      let most = sum_to_ones (λ m. count_by (covers m) listed_objects) (length memory.bytes) (λ m less. once m) in
      omega arith

-- One pointer of an object changes

module _ (objects : List Object) (birth : ℕ) (there : IsThere objects birth) (k : ℕ) (q : Pointer) where
  abbrev with_target : Object
  with_target = record (object_at objects birth) { pointers = set (object_at objects birth).pointers k q }

  -- what the pointers weigh together, with the old pointer and with the new one
  pub living_set : (w : Pointer → ℕ) (d : Pointer) → k < length (object_at objects birth).pointers → sum_by w (living_pointers (with_object objects birth with_target)) + w (get_or (object_at objects birth).pointers k d) ≡ sum_by w (living_pointers objects) + w q
  living_set w d less =
      let o = object_at objects birth in
      let weigh : Object → ℕ = λ o. sum_by w (pointers_in o) in
      let before = sum_flat w pointers_in objects in
      let after = sum_flat w pointers_in (set objects birth with_target) in
      let moved = sum_by-set weigh objects birth with_target no_object (there_below objects birth there) in
      let one = sum_by-set w o.pointers k q d less in
      let old : weigh o ≡ sum_by w o.pointers = ap (sum_by w) (pointers_there o there) in
      let new : weigh with_target ≡ sum_by w (set o.pointers k q) = ap (sum_by w) (pointers_there with_target there) in
      omega arith

-- Counts and pointers

pub leads : Pointer → Bool
leads pointer.Null = false
leads (pointer.At birth offset) = true

leads_one : (birth offset : ℕ) → one_if (leads (pointer.At birth offset)) ≡ 1
unfolding leads
leads_one birth offset = refl

-- the counts together are no more than the pointers that are not null
pub counts_few : (places : ℕ → ℕ) (pointers : List Pointer) (counts : List ℕ) → AreCounts places pointers counts → sum counts ≤ count_by leads pointers
unfolding leads
counts_few places pointers counts are =
    let all = sum_listed counts in
    let same = sum_to_same (λ g. get_or counts g 0) (λ g. count_by (leads_into places g) pointers) (length counts) (λ g less. are g less) in
    let swapped = sums_swapped (λ g p. one_if (leads_into places g p)) pointers (length counts) in
    let less = sum_less (λ p. sum_to (λ g. one_if (leads_into places g p)) (length counts)) (λ p. one_if (leads p)) pointers (each (length counts)) in
    omega arith where
      each : (n : ℕ) (p : Pointer) → sum_to (λ g. one_if (leads_into places g p)) n ≤ one_if (leads p)
      each n pointer.Null = let none = sum_to_none n in omega arith
      each n (pointer.At birth offset) = met_once ((places birth + offset) / 16) n

-- does an address lead into a granule? 0 is null
abbrev pub lands : ℕ → ℕ → Bool
lands granule addr = not (nat_eq addr 0) && nat_eq (addr / 16) granule

module _ (memory : Memory) (places : ℕ → ℕ) (objects : List Object) (keeps : Keeps memory places objects) where
  pub lands_as : (p : Pointer) (addr granule : ℕ) → IsAddressOf places objects p addr → leads_into places granule p ≡ lands granule addr
  lands_as pointer.Null addr granule is = ap (λ t. not t && nat_eq (addr / 16) granule) (sym (eq-eqb addr 0 is))
  lands_as (pointer.At birth offset) addr granule is =
      let old = keeps.standing birth is.there in
      let room = old.room in
      let some : addr ≡ 0 → ⊥ = λ none. omega (arith, is.address) in
      ap (λ a. nat_eq (a / 16) granule) (sym is.address) ∙ ap (λ t. not t && nat_eq (addr / 16) granule) (sym (ne_eqb addr 0 some))

-- One count more and one less

module _ (table : Table) (addr : ℕ) where
  pub more_long : length (one_more table addr).counts ≡ length table.counts
  more_long =
      elim (cases_eq addr 0) [
        | inl none ↦ ap (λ (t : Table). length t.counts) (cond-true (nat_eq addr 0) table (with_count table (addr / 16) (slice_index table.counts (addr / 16) + 1)) (eq-eqb addr 0 none))
        | inr some ↦
            ap (λ (t : Table). length t.counts) (cond-false (nat_eq addr 0) table (with_count table (addr / 16) (slice_index table.counts (addr / 16) + 1)) (ne_eqb addr 0 some))
            ∙ length-set table.counts (addr / 16) (slice_index table.counts (addr / 16) + 1)
      ]

  pub less_long : length (one_less table addr).counts ≡ length table.counts
  less_long =
      elim (cases_eq addr 0) [
        | inl none ↦ ap (λ (t : Table). length t.counts) (cond-true (nat_eq addr 0) table (with_count table (addr / 16) (slice_index table.counts (addr / 16) - 1)) (eq-eqb addr 0 none))
        | inr some ↦
            ap (λ (t : Table). length t.counts) (cond-false (nat_eq addr 0) table (with_count table (addr / 16) (slice_index table.counts (addr / 16) - 1)) (ne_eqb addr 0 some))
            ∙ length-set table.counts (addr / 16) (slice_index table.counts (addr / 16) - 1)
      ]

  pub more_most : (one_more table addr).most ≡ table.most
  more_most =
      elim (cases_eq addr 0) [
        | inl none ↦ ap (λ (t : Table). t.most) (cond-true (nat_eq addr 0) table (with_count table (addr / 16) (slice_index table.counts (addr / 16) + 1)) (eq-eqb addr 0 none))
        | inr some ↦ ap (λ (t : Table). t.most) (cond-false (nat_eq addr 0) table (with_count table (addr / 16) (slice_index table.counts (addr / 16) + 1)) (ne_eqb addr 0 some))
      ]

  pub less_most : (one_less table addr).most ≡ table.most
  less_most =
      elim (cases_eq addr 0) [
        | inl none ↦ ap (λ (t : Table). t.most) (cond-true (nat_eq addr 0) table (with_count table (addr / 16) (slice_index table.counts (addr / 16) - 1)) (eq-eqb addr 0 none))
        | inr some ↦ ap (λ (t : Table). t.most) (cond-false (nat_eq addr 0) table (with_count table (addr / 16) (slice_index table.counts (addr / 16) - 1)) (ne_eqb addr 0 some))
      ]

  not_landed : (g : ℕ) → addr ≡ 0 → one_if (lands g addr) ≡ 0
  not_landed g none = ap (λ t. one_if (not t && nat_eq (addr / 16) g)) (eq-eqb addr 0 none)

  landed : (g : ℕ) → (addr ≡ 0 → ⊥) → one_if (lands g addr) ≡ one_if (nat_eq (addr / 16) g)
  landed g some = ap (λ t. one_if (not t && nat_eq (addr / 16) g)) (ne_eqb addr 0 some)

  -- each count after one more
  pub more_at : (g : ℕ) → addr / 16 < length table.counts → get_or (one_more table addr).counts g 0 ≡ get_or table.counts g 0 + one_if (lands g addr)
  more_at g inside =
      let count = get_or table.counts (addr / 16) 0 in
      elim (cases_eq addr 0) [
        | inl none ↦
            let same : get_or (one_more table addr).counts g 0 ≡ get_or table.counts g 0 = ap (λ (t : Table). get_or t.counts g 0) (cond-true (nat_eq addr 0) table (with_count table (addr / 16) (count + 1)) (eq-eqb addr 0 none)) in
            let here = not_landed g none in
            omega arith
        | inr some ↦
            let same : get_or (one_more table addr).counts g 0 ≡ get_or (set table.counts (addr / 16) (count + 1)) g 0 =
            ap (λ (t : Table). get_or t.counts g 0) (cond-false (nat_eq addr 0) table (with_count table (addr / 16) (count + 1)) (ne_eqb addr 0 some)) in
            let here = landed g some in
            elim (cases_eq g (addr / 16)) [
              | inl e ↦
                  let met : one_if (nat_eq (addr / 16) g) ≡ 1 = ap one_if (eq-eqb (addr / 16) g (sym e)) in
                  let new : get_or (set table.counts (addr / 16) (count + 1)) g 0 ≡ count + 1 = ap (λ i. get_or (set table.counts (addr / 16) (count + 1)) i 0) e ∙ get_or-set_same table.counts (addr / 16) (count + 1) 0 inside in
                  let old : get_or table.counts g 0 ≡ count = ap (λ i. get_or table.counts i 0) e in
                  omega arith
              | inr differ ↦
                  let met : one_if (nat_eq (addr / 16) g) ≡ 0 = ap one_if (ne_eqb (addr / 16) g (λ e. differ (sym e))) in
                  let new = get_or-set_other table.counts (addr / 16) g (count + 1) 0 differ in
                  omega arith
            ]
      ]

  -- each count after one less
  pub less_at : (g : ℕ) → addr / 16 < length table.counts → (0 < addr → 0 < get_or table.counts (addr / 16) 0) → get_or (one_less table addr).counts g 0 + one_if (lands g addr) ≡ get_or table.counts g 0
  less_at g inside positive =
      let count = get_or table.counts (addr / 16) 0 in
      elim (cases_eq addr 0) [
        | inl none ↦
            let same : get_or (one_less table addr).counts g 0 ≡ get_or table.counts g 0 = ap (λ (t : Table). get_or t.counts g 0) (cond-true (nat_eq addr 0) table (with_count table (addr / 16) (count - 1)) (eq-eqb addr 0 none)) in
            let here = not_landed g none in
            omega arith
        | inr some ↦
            let above : 0 < count = positive (omega arith) in
            let same : get_or (one_less table addr).counts g 0 ≡ get_or (set table.counts (addr / 16) (count - 1)) g 0 =
            ap (λ (t : Table). get_or t.counts g 0) (cond-false (nat_eq addr 0) table (with_count table (addr / 16) (count - 1)) (ne_eqb addr 0 some)) in
            let here = landed g some in
            elim (cases_eq g (addr / 16)) [
              | inl e ↦
                  let met : one_if (nat_eq (addr / 16) g) ≡ 1 = ap one_if (eq-eqb (addr / 16) g (sym e)) in
                  let new : get_or (set table.counts (addr / 16) (count - 1)) g 0 ≡ count - 1 = ap (λ i. get_or (set table.counts (addr / 16) (count - 1)) i 0) e ∙ get_or-set_same table.counts (addr / 16) (count - 1) 0 inside in
                  let old : get_or table.counts g 0 ≡ count = ap (λ i. get_or table.counts i 0) e in
                  omega arith
              | inr differ ↦
                  let met : one_if (nat_eq (addr / 16) g) ≡ 0 = ap one_if (ne_eqb (addr / 16) g (λ e. differ (sym e))) in
                  let new = get_or-set_other table.counts (addr / 16) g (count - 1) 0 differ in
                  omega arith
            ]
      ]

  -- all counts together after one less
  pub less_sum : addr / 16 < length table.counts → (0 < addr → 0 < get_or table.counts (addr / 16) 0) → sum (one_less table addr).counts + one_if (not (nat_eq addr 0)) ≡ sum table.counts
  less_sum inside positive =
      let count = get_or table.counts (addr / 16) 0 in
      elim (cases_eq addr 0) [
        | inl none ↦
            let same : sum (one_less table addr).counts ≡ sum table.counts = ap (λ (t : Table). sum t.counts) (cond-true (nat_eq addr 0) table (with_count table (addr / 16) (count - 1)) (eq-eqb addr 0 none)) in
            let here : one_if (not (nat_eq addr 0)) ≡ 0 = ap (λ t. one_if (not t)) (eq-eqb addr 0 none) in
            omega arith
        | inr some ↦
            let above : 0 < count = positive (omega arith) in
            let same : sum (one_less table addr).counts ≡ sum (set table.counts (addr / 16) (count - 1)) =
            ap (λ (t : Table). sum t.counts) (cond-false (nat_eq addr 0) table (with_count table (addr / 16) (count - 1)) (ne_eqb addr 0 some)) in
            let here : one_if (not (nat_eq addr 0)) ≡ 1 = ap (λ t. one_if (not t)) (ne_eqb addr 0 some) in
            let moved = sum_by-set (λ x. x) table.counts (addr / 16) (count - 1) 0 inside in
            omega arith
      ]

-- what holds of each of two lists joined holds of each of them
all_left : {X : Type 0} (P : X → Type 0) (xs ys : List X) → All P (xs ++ ys) → All P xs
all_left P xs ys all = λ i d less. subst P (get_or_append_left xs ys d i less) (all i d (omega (arith, length-append xs ys)))

all_right : {X : Type 0} (P : X → Type 0) (xs ys : List X) → All P (xs ++ ys) → All P ys
all_right P [] ys all = all
all_right P (x ∷ xs) ys all = all_right P xs ys (All-tail P x (xs ++ ys) all)

-- one address may go from a table of counts and another come
pub record MayPut (table : Table) (old new : ℕ) : Type 0 where
  pub goes_from : old / 16 < length table.counts
  pub goes : 0 < old → 0 < slice_index table.counts (old / 16)
  pub comes_to : new / 16 < length table.counts
  pub room : sum (one_less table old).counts < table.most

-- A memory that tracks

abbrev pub with_counts : Memory → Table → Memory
with_counts memory counts = record memory { counts = counts }

-- the memory with an address in place of another
abbrev pub put_memory : Memory → ℕ → ℕ → Memory
put_memory memory addr target =
    with_counts (with_bytes memory (put_word memory.bytes addr 4 target)) (one_more (one_less memory.counts (word memory.bytes addr 4)) target)

abbrev pub with_frees : Memory → Table → ScopesModel → Memory
with_frees memory counts scopes = record memory { counts = counts; scopes = scopes }

same_heap : (memory : Memory) (counts : Table) (scopes : ScopesModel) (range : Range) → heap_of (with_frees memory counts scopes) range ≡ heap_of memory range
same_heap memory counts scopes Statics = refl
same_heap memory counts scopes Locals = refl
same_heap memory counts scopes Heap = refl

-- what a memory keeps does not go by its counts and scopes
pub keeps_any : (memory : Memory) (counts : Table) (scopes : ScopesModel) (places : ℕ → ℕ) (objects : List Object) → Keeps memory places objects → Keeps (with_frees memory counts scopes) places objects
keeps_any memory counts scopes places objects keeps = record {
  held = λ range.
      subst (λ (h : HeapModel). Holds h (map (block_of places h.base) (filter (stands_in range) (enumerate_from 0 objects)))) (sym (same_heap memory counts scopes range)) (keeps.held range);
  standing = λ birth there.
      let old = keeps.standing birth there in
      record {
        room = subst (λ (h : HeapModel). h.base + 32 ≤ places birth) (sym (same_heap memory counts scopes (range_of (object_at objects birth).sort))) old.room;
        header = old.header;
        slots = old.slots;
        long = old.long;
        bytes = old.bytes;
        many = old.many;
        pointers = old.pointers;
        marks = old.marks;
      };
}

pub keeps_counting : (memory : Memory) (counts : Table) (places : ℕ → ℕ) (objects : List Object) → Keeps memory places objects → Keeps (with_counts memory counts) places objects
keeps_counting memory counts places objects keeps = keeps_any memory counts memory.scopes places objects keeps

-- an address of a pointer leads somewhere
pub leads_somewhere : (places : ℕ → ℕ) (objects : List Object) (p : Pointer) (addr : ℕ) → IsAddressOf places objects p addr → LeadsSomewhere objects p
leads_somewhere places objects pointer.Null addr is = tt
leads_somewhere places objects (pointer.At birth offset) addr is = (is.there, is.inside)

-- and leads somewhere among objects of the same shapes
pub leads_still : (before after : List Object) → ((birth : ℕ) → SameShape (object_at before birth) (object_at after birth)) → (p : Pointer) → LeadsSomewhere before p → LeadsSomewhere after p
leads_still before after same pointer.Null h = tt
leads_still before after same (pointer.At birth offset) h =
    let inside = h.1 in
    (ap is_dead (same birth).standing ∙ h.0, omega (arith, (same birth).size))

module _ (locals heap : ℕ) (memory : Memory) (shape : IsMemory locals heap memory) (places : ℕ → ℕ) (objects : List Object) (keeps : Keeps memory places objects) (frees : Frees) (tracks : Tracks memory places objects frees) where
  -- an address that stands for a pointer is one of a granule
  pub granule_inside : (p : Pointer) (addr : ℕ) → IsAddressOf places objects p addr → addr / 16 < length memory.counts.counts
  granule_inside pointer.Null addr is = omega (arith, is, shape.granules)
  granule_inside (pointer.At birth offset) addr is =
      let inside = own_inside memory places objects keeps birth is.there locals heap shape in
      omega (arith, is.inside, is.address, shape.granules)

  -- the count of a granule is what the pointers inside objects and the pinned ones give together
  pub count_is : (g : ℕ) → g < length memory.counts.counts → get_or memory.counts.counts g 0 ≡ count_by (leads_into places g) (living_pointers objects) + count_by (leads_into places g) frees.pins
  count_is g less = tracks.counts g less ∙ sum_by-append (λ p. one_if (leads_into places g p)) (living_pointers objects) frees.pins

  pub leads_as : (p : Pointer) (addr : ℕ) → IsAddressOf places objects p addr → one_if (leads p) ≡ one_if (not (nat_eq addr 0))
  unfolding leads
  leads_as pointer.Null addr is = ap (λ t. one_if (not t)) (sym (eq-eqb addr 0 is))
  leads_as (pointer.At birth offset) addr is =
      let room = (keeps.standing birth is.there).room in
      ap (λ t. one_if (not t)) (sym (ne_eqb addr 0 (λ none. omega (arith, is.address))))

  -- One pointer more is pinned

  module _ (p : Pointer) (addr : ℕ) (is : IsAddressOf places objects p addr) where
    pub pin_room_left : length frees.pins < pin_room memory → sum memory.counts.counts < memory.counts.most
    pin_room_left few =
        let living = living_few locals heap memory shape places objects keeps in
        let all = counts_few places (living_pointers objects ++ frees.pins) memory.counts.counts tracks.counts in
        let most = count_by-le-length leads (living_pointers objects ++ frees.pins) in
        let long = length-append (living_pointers objects) frees.pins in
        omega arith

    -- a pointer that is pinned has a count
    pub pin_counts : (before behind : List Pointer) → frees.pins ≡ before ++ p ∷ behind → 0 < addr → 0 < get_or memory.counts.counts (addr / 16) 0
    pin_counts before behind pins some =
        let g = addr / 16 in
        let w : Pointer → ℕ = λ q. one_if (leads_into places g q) in
        let count = count_is g (granule_inside p addr is) in
        let own : w p ≡ 1 = ap one_if (lands_as memory places objects keeps p addr g is) ∙ ap (λ t. one_if (not t && nat_eq g g)) (ne_eqb addr 0 (λ e. omega arith)) ∙ ap one_if (eq-eqb g g refl) in
        let split : sum_by w frees.pins ≡ sum_by w before + (w p + sum_by w behind) = ap (sum_by w) pins ∙ sum_by-append w before (p ∷ behind) ∙ ap (λ n. sum_by w before + n) (sum_by-cons w p behind) in
        omega arith

    -- with the pointer anywhere among those that are pinned
    pub pinned_more : (before behind : List Pointer) → frees.pins ≡ before ++ behind → length frees.pins < pin_room memory → Tracks (with_counts memory (one_more memory.counts addr)) places objects (record frees { pins = before ++ p ∷ behind })
    pinned_more before behind pins few = record {
      pinned = All-append (LeadsSomewhere objects) before (p ∷ behind) (all_left (LeadsSomewhere objects) before behind (subst (All (LeadsSomewhere objects)) pins tracks.pinned))
          (All-cons (LeadsSomewhere objects) p behind (leads_somewhere places objects p addr is) (all_right (LeadsSomewhere objects) before behind (subst (All (LeadsSomewhere objects)) pins tracks.pinned)));
      few = omega (arith, length-append before (p ∷ behind), length-append before behind, ap length pins, more_most memory.counts addr);
      counts = λ g less.
          let w : Pointer → ℕ = λ q. one_if (leads_into places g q) in
          let inside : g < length memory.counts.counts = omega (arith, more_long memory.counts addr) in
          let more = more_at memory.counts addr g (granule_inside p addr is) in
          let count = count_is g inside in
          let own : w p ≡ one_if (lands g addr) = ap one_if (lands_as memory places objects keeps p addr g is) in
          let old : sum_by w frees.pins ≡ sum_by w before + sum_by w behind = ap (sum_by w) pins ∙ sum_by-append w before behind in
          let new : sum_by w (before ++ p ∷ behind) ≡ sum_by w before + (w p + sum_by w behind) = sum_by-append w before (p ∷ behind) ∙ ap (λ n. sum_by w before + n) (sum_by-cons w p behind) in
          let all = sum_by-append w (living_pointers objects) (before ++ p ∷ behind) in
          omega arith;
      queued = tracks.queued;
      links = tracks.links;
      open_scopes = tracks.open_scopes;
    }

    -- without one that was pinned
    pub pinned_less : (before behind : List Pointer) → frees.pins ≡ before ++ p ∷ behind → Tracks (with_counts memory (one_less memory.counts addr)) places objects (record frees { pins = before ++ behind })
    pinned_less before behind pins = record {
      pinned = All-append (LeadsSomewhere objects) before behind (all_left (LeadsSomewhere objects) before (p ∷ behind) (subst (All (LeadsSomewhere objects)) pins tracks.pinned))
          (All-tail (LeadsSomewhere objects) p behind (all_right (LeadsSomewhere objects) before (p ∷ behind) (subst (All (LeadsSomewhere objects)) pins tracks.pinned)));
      few = omega (arith, length-append before (p ∷ behind), length-append before behind, ap length pins, less_most memory.counts addr, tracks.few);
      counts = λ g less.
          let w : Pointer → ℕ = λ q. one_if (leads_into places g q) in
          let inside : g < length memory.counts.counts = omega (arith, less_long memory.counts addr) in
          let one = less_at memory.counts addr g (granule_inside p addr is) (pin_counts before behind pins) in
          let count = count_is g inside in
          let own : w p ≡ one_if (lands g addr) = ap one_if (lands_as memory places objects keeps p addr g is) in
          let old : sum_by w frees.pins ≡ sum_by w before + (w p + sum_by w behind) = ap (sum_by w) pins ∙ sum_by-append w before (p ∷ behind) ∙ ap (λ n. sum_by w before + n) (sum_by-cons w p behind) in
          let new : sum_by w (before ++ behind) ≡ sum_by w before + sum_by w behind = sum_by-append w before behind in
          let all = sum_by-append w (living_pointers objects) (before ++ behind) in
          omega arith;
      queued = tracks.queued;
      links = tracks.links;
      open_scopes = tracks.open_scopes;
    }

  -- One pointer inside an object changes

  module _ (birth : ℕ) (there : IsThere objects birth) (k : ℕ) (below : k < length (object_at objects birth).slots) (q : Pointer) (old target : ℕ)
      (was : IsAddressOf places objects (get_or (object_at objects birth).pointers k pointer.Null) old) (is : IsAddressOf places objects q target) where
    abbrev old_pointer : Pointer
    old_pointer = get_or (object_at objects birth).pointers k pointer.Null

    place_below : k < length (object_at objects birth).pointers
    place_below = omega (arith, (keeps.standing birth there).many)

    -- a pointer inside an object has a count
    pub slot_counts : 0 < old → 0 < get_or memory.counts.counts (old / 16) 0
    slot_counts some =
        let g = old / 16 in
        let w : Pointer → ℕ = λ p. one_if (leads_into places g p) in
        let count = count_is g (granule_inside old_pointer old was) in
        let own : w old_pointer ≡ 1 = ap one_if (lands_as memory places objects keeps old_pointer old g was) ∙ ap (λ t. one_if (not t && nat_eq g g)) (ne_eqb old 0 (λ e. omega arith)) ∙ ap one_if (eq-eqb g g refl) in
        let moved = living_set objects birth there k pointer.Null w pointer.Null place_below in
        omega arith

    -- without the old pointer there is room for one more
    pub slot_room_left : sum (one_less memory.counts old).counts < memory.counts.most
    slot_room_left =
        let living = living_few locals heap memory shape places objects keeps in
        let all = counts_few places (living_pointers objects ++ frees.pins) memory.counts.counts tracks.counts in
        let split = sum_by-append (λ p. one_if (leads p)) (living_pointers objects) frees.pins in
        let pins = count_by-le-length leads frees.pins in
        let other : Pointer = pointer.At 0 0 in
        let moved = living_set objects birth there k other (λ p. one_if (leads p)) pointer.Null place_below in
        let most = count_by-le-length leads (living_pointers (with_object objects birth (with_target objects birth there k other))) in
        let ones_before = sum_ones (living_pointers objects) in
        let ones_after = sum_ones (living_pointers (with_object objects birth (with_target objects birth there k other))) in
        let same = living_set objects birth there k other (λ p. 1) pointer.Null place_below in
        let own = leads_as old_pointer old was in
        let one = leads_one 0 0 in
        let less = less_sum memory.counts old (granule_inside old_pointer old was) slot_counts in
        omega (arith, tracks.few, shape.room)

    -- the counts with the new pointer in place of the old one
    pub slot_counted : AreCounts places (living_pointers (with_object objects birth (with_target objects birth there k q)) ++ frees.pins) (one_more (one_less memory.counts old) target).counts
    slot_counted g less =
        let w : Pointer → ℕ = λ p. one_if (leads_into places g p) in
        let lessened = one_less memory.counts old in
        let short = less_long memory.counts old in
        let inside : g < length memory.counts.counts = omega (arith, more_long lessened target) in
        let more = more_at lessened target g (omega (arith, granule_inside q target is)) in
        let one = less_at memory.counts old g (granule_inside old_pointer old was) slot_counts in
        let count = count_is g inside in
        let gone : w old_pointer ≡ one_if (lands g old) = ap one_if (lands_as memory places objects keeps old_pointer old g was) in
        let come : w q ≡ one_if (lands g target) = ap one_if (lands_as memory places objects keeps q target g is) in
        let moved = living_set objects birth there k q w pointer.Null place_below in
        let all = sum_by-append w (living_pointers (with_object objects birth (with_target objects birth there k q))) frees.pins in
        omega arith

-- a memory with as many counts for as many pointers is one
pub memory_counted : (locals heap : ℕ) (memory : Memory) (counts : Table) → IsMemory locals heap memory → length counts.counts ≡ length memory.counts.counts → counts.most ≡ memory.counts.most → IsMemory locals heap (with_counts memory counts)
memory_counted locals heap memory counts shape long most = record {
  locals_from = shape.locals_from;
  heap_from = shape.heap_from;
  statics_end = shape.statics_end;
  locals_end = shape.locals_end;
  heap_end = shape.heap_end;
  reach = shape.reach;
  aligned = λ range. ap (λ (h : HeapModel). h.base % 16) (same_heap memory counts memory.scopes range) ∙ shape.aligned range;
  granules = omega (arith, shape.granules);
  room = omega (arith, shape.room);
  forms = shape.forms;
  marked = shape.marked;
  ends = shape.ends;
  null = shape.null;
  null_end = shape.null_end;
}
