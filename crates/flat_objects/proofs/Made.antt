-- New objects of the heap, statics, and a memory without objects.
use Rattle.std.proofs.Common.{◌≡◌, ◌+◌, ◌/◌, ◌%◌, ◌<◌, ◌^◌, ℕ, zero, suc, List, [], length, get_or, replicate, Option, Some, None, refl, sym, ap, ◌∙◌, subst, arith}
use Rattle.std.specs.Prelude.{slice_get, slice_index, option_map, map, IfSome, MatchOption, IsTrue, All}
use Rattle.std.proofs.lemmas.List.{length-replicate, get_or-replicate}
use Rattle.std.proofs.lemmas.List.Elements.{All-map, All-nil}
use Rattle.std.proofs.lemmas.Option.{slice_get_within, get_or_from_slice_get}
use Rattle.hs_base.specs.Object as object
use Rattle.hs_base.specs.Freeing.{is_heap}
use Rattle.hs_base.specs.Object.{Object, object_at}
use Rattle.hs_base.specs.Place.{block_size, with_block}
use Rattle.c_types.specs.declared.layouts.Layout.{Layout}
use Rattle.c_types.specs.Layouts.{array_layout}
use Rattle.adjusters.specs.ObjectSlots.{element_of, object_slots}
use Rattle.heap_blocks.specs.Heads.{new_header}
use Rattle.heap_blocks.specs.Held.{HeapModel, HasBounds, Holds, IsPlaced, address_of}
use Rattle.byte_marks.specs.Marks.{ChangesMarks, IsMarked, MarksModel, no_marks}
use Rattle.count_table.specs.Table.{Table}
use Rattle.delay_scopes.specs.Check.{no_scopes}
use Rattle.delay_scopes.specs.Queue.{HasQueue, IsQueued, ScopesModel}
use Rattle.object_meaning.specs.objects.Making.{blank, heap_object}
use Rattle.flat_objects.specs.Memory.{Memory, Range, Statics, Locals, Heap, IsMemory, IsForm, heap_of, pin_room}
use Rattle.flat_objects.specs.Keeping.{Keeps, blocks_of}
use Rattle.flat_objects.specs.Counting.{LeadsSomewhere, Tracks}
use Rattle.flat_objects.proofs.Added.{blank_is, own_element}
use Rattle.flat_objects.proofs.Placed.{IsMade, placed_object}

module _ (locals heap : ℕ) (memory : Memory) (shape : IsMemory locals heap memory) (places : ℕ → ℕ) (objects : List Object) (keeps : Keeps memory places objects) (bytes : List ℕ) (marks : MarksModel) (after : HeapModel) (element : Layout) (size layout line birth : ℕ) (fit result : Option ℕ)
    (birth_is : birth ≡ length objects) (got : slice_get memory.forms layout ≡ Some (element_of element)) (placed : IfSome result (λ addr. IsPlaced memory.bytes bytes addr (block_size size) (new_header birth size layout line)))
    (marks_change : MatchOption result (marks ≡ memory.marks) (λ addr. ChangesMarks memory.marks marks addr size)) (marked : IfSome result (λ addr. IsMarked marks addr size (object_slots (element_of element) size))) where
  heap_others : (range : Range) → (Heap ≡ range → ⊥) → heap_of (record memory { heap = after; bytes = bytes; marks = marks }) range ≡ heap_of memory range
  heap_others Statics differ = refl
  heap_others Locals differ = refl
  heap_others Heap differ = absurd (differ refl)

  pub heap_added : result ≡ option_map (address_of memory.heap) fit → Holds after (with_block (blocks_of memory places objects Heap) birth (block_size size) fit) → HasBounds memory.heap.base memory.heap.len after
      → IfSome result (IsMade memory (record memory { heap = after; bytes = bytes; marks = marks }) places objects (heap_object line size element))
  heap_added result_is holds bounds =
      placed_object locals heap memory (record memory { heap = after; bytes = bytes; marks = marks }) shape places objects keeps (heap_object line size element) (blank_is (object.Heap line) size (array_layout (size / element.size) element).slots) fit result size layout line birth
      result_is holds bounds placed refl refl refl heap_others birth_is refl refl refl (element_of element, got, refl) marks_change marked

  static_others : (range : Range) → (Statics ≡ range → ⊥) → heap_of (record memory { statics = after; bytes = bytes; marks = marks }) range ≡ heap_of memory range
  static_others Statics differ = absurd (differ refl)
  static_others Locals differ = refl
  static_others Heap differ = refl

  pub static_added : (index : ℕ) → size ≡ element.size → result ≡ option_map (address_of memory.statics) fit → Holds after (with_block (blocks_of memory places objects Statics) birth (block_size size) fit) → HasBounds memory.statics.base memory.statics.len after
      → IfSome result (IsMade memory (record memory { statics = after; bytes = bytes; marks = marks }) places objects (blank (object.Static index) size element.slots))
  static_added index size_is result_is holds bounds =
      let form : IsForm (element_of element) =
      subst IsForm (get_or_from_slice_get memory.forms layout (element_of element) (element_of element) got) (shape.forms layout (element_of element) (slice_get_within memory.forms layout (element_of element) got)) in
      let own : object_slots (element_of element) size ≡ element.slots = ap (object_slots (element_of element)) size_is ∙ own_element element.size element.slots form.slots in
      placed_object locals heap memory (record memory { statics = after; bytes = bytes; marks = marks }) shape places objects keeps (blank (object.Static index) size element.slots) (blank_is (object.Static index) size element.slots) fit result size layout line birth
      result_is holds bounds placed refl refl refl static_others birth_is refl refl tt (element_of element, got, sym own) marks_change (subst (λ (slots : List ℕ). IfSome result (λ addr. IsMarked marks addr size slots)) own marked)

  local_others : (range : Range) → (Locals ≡ range → ⊥) → heap_of (record memory { locals = after; bytes = bytes; marks = marks }) range ≡ heap_of memory range
  local_others Statics differ = refl
  local_others Locals differ = absurd (differ refl)
  local_others Heap differ = refl

  pub local_added : (func index : ℕ) → size ≡ element.size → result ≡ option_map (address_of memory.locals) fit → Holds after (with_block (blocks_of memory places objects Locals) birth (block_size size) fit) → HasBounds memory.locals.base memory.locals.len after
      → IfSome result (IsMade memory (record memory { locals = after; bytes = bytes; marks = marks }) places objects (blank (object.Local func index) size element.slots))
  local_added func index size_is result_is holds bounds =
      let form : IsForm (element_of element) =
      subst IsForm (get_or_from_slice_get memory.forms layout (element_of element) (element_of element) got) (shape.forms layout (element_of element) (slice_get_within memory.forms layout (element_of element) got)) in
      let own : object_slots (element_of element) size ≡ element.slots = ap (object_slots (element_of element)) size_is ∙ own_element element.size element.slots form.slots in
      placed_object locals heap memory (record memory { locals = after; bytes = bytes; marks = marks }) shape places objects keeps (blank (object.Local func index) size element.slots) (blank_is (object.Local func index) size element.slots) fit result size layout line birth
      result_is holds bounds placed refl refl refl local_others birth_is refl refl tt (element_of element, got, sym own) marks_change (subst (λ (slots : List ℕ). IfSome result (λ addr. IsMarked marks addr size slots)) own marked)

none_held : (memory : Memory) (places : ℕ → ℕ) → Holds memory.statics [] → Holds memory.locals [] → Holds memory.heap [] → (range : Range) → Holds (heap_of memory range) (blocks_of memory places [] range)
none_held memory places statics locals heap Statics = statics
none_held memory places statics locals heap Locals = locals
none_held memory places statics locals heap Heap = heap

-- a memory whose ranges hold no blocks keeps no objects
pub keeps_none : (memory : Memory) (places : ℕ → ℕ) → Holds memory.statics [] → Holds memory.locals [] → Holds memory.heap [] → Keeps memory places []
keeps_none memory places statics locals heap = record {
  held = none_held memory places statics locals heap;
  standing = λ birth there. absurd (cc);
}

-- the counts and the scopes of a new memory
abbrev pub first_counts : ℕ → ℕ → Table
first_counts end pins = record { counts = replicate (end / 16 + 1) 0; most = end / 4 + pins }

pub new_memory : (statics locals : ℕ) (memory : Memory) (layouts : List Layout) (room pins : ℕ) → HasBounds 0 statics memory.statics → HasBounds statics locals memory.locals → HasBounds (statics + locals) room memory.heap → memory.bytes ≡ replicate (statics + locals + room) 0
    → memory.counts ≡ first_counts (statics + locals + room) pins → statics % 16 ≡ 0 → locals % 16 ≡ 0 → statics + locals + room < 2 ^ 32 → memory.forms ≡ map element_of layouts → All (λ l. IsForm (element_of l)) layouts → memory.marks ≡ no_marks (statics + locals + room) → IsMemory statics (statics + locals) memory
new_memory statics locals memory layouts room pins s l h bytes counts even_statics even_locals fits forms good marks =
    let end = statics + locals + room in
    let long : length memory.bytes ≡ end = ap length bytes ∙ length-replicate end 0 in
    let granules : length memory.counts.counts ≡ end / 16 + 1 = ap (λ (t : Table). length t.counts) counts ∙ length-replicate (end / 16 + 1) 0 in
    let most : memory.counts.most ≡ end / 4 + pins = ap (λ (t : Table). t.most) counts in
    record {
      locals_from = l.0;
      heap_from = h.0;
      statics_end = omega (arith, s.0, s.1);
      locals_end = omega (arith, l.0, l.1);
      heap_end = omega (arith, h.0, h.1);
      reach = omega arith;
      aligned = elim_range (omega (arith, s.0)) (omega (arith, l.0)) (omega (arith, h.0));
      granules = omega arith;
      room = omega arith;
      forms = subst (All IsForm) (sym forms) (All-map IsForm element_of layouts good);
      marked = omega (arith, ap (λ (m : MarksModel). length m.bytes) marks, length-replicate {A = ℕ} end 0);
      ends = omega (arith, ap (λ (m : MarksModel). length m.ends) marks, length-replicate {A = ℕ} (end / 16 + 1) 0, ap (λ n. n / 16) long);
      null = ap (λ (m : MarksModel). slice_index m.bytes 0) marks ∙ first_zero end;
      null_end = ap (λ (m : MarksModel). slice_index m.ends 0) marks ∙ first_zero (end / 16 + 1);
    } where
      first_zero : (n : ℕ) → slice_index (replicate n 0) 0 ≡ 0
      first_zero zero = refl
      first_zero (suc n) = refl

      elim_range : memory.statics.base % 16 ≡ 0 → memory.locals.base % 16 ≡ 0 → memory.heap.base % 16 ≡ 0 → (range : Range) → (heap_of memory range).base % 16 ≡ 0
      elim_range one two three Statics = one
      elim_range one two three Locals = two
      elim_range one two three Heap = three

pub new_room : (memory : Memory) (end pins : ℕ) → memory.bytes ≡ replicate end 0 → memory.counts ≡ first_counts end pins → pin_room memory ≡ pins
new_room memory end pins bytes counts =
    let long : length memory.bytes ≡ end = ap length bytes ∙ length-replicate end 0 in
    let most : memory.counts.most ≡ end / 4 + pins = ap (λ (t : Table). t.most) counts in
    omega (arith, ap (λ n. n / 4) long)

-- nothing counts in a memory without objects, and nothing waits
pub tracks_none : (memory : Memory) (places : ℕ → ℕ) (end pins : ℕ) → memory.counts ≡ first_counts end pins → memory.scopes ≡ no_scopes None → Tracks memory places [] (record { pins = []; queue = []; scopes = 0 })
tracks_none memory places end pins counts scopes = record {
  counts = λ g less.
      ap (λ (t : Table). get_or t.counts g 0) counts ∙ get_or-replicate (end / 16 + 1) g 0 0 (omega (arith, ap (λ (t : Table). length t.counts) counts, length-replicate {A = ℕ} (end / 16 + 1) 0));
  pinned = All-nil (LeadsSomewhere []);
  few = omega arith;
  queued = record {
    heap = All-nil (λ birth. IsTrue (is_heap (object_at [] birth).sort));
    exact = λ birth. (λ at. absurd (omega (arith, at.1)), λ queued. absurd (cc));
    distinct = λ i j d less inside. absurd (omega arith);
  };
  links = subst (λ (s : ScopesModel). HasQueue s memory.heap.base memory.bytes [] []) (sym scopes) (record {
    many = refl;
    first = refl;
    last = refl;
    queued = All-nil (IsQueued memory.heap.base memory.bytes []);
    distinct = λ i j d less inside. absurd (omega arith);
    linked = λ k less. absurd (omega arith);
  });
  open_scopes = ap (λ (s : ScopesModel). s.depth) scopes;
}
