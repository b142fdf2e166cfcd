-- The end of memory locals: what the steps come to.
use Rattle.std.proofs.Common.{◌≡◌, ◌<◌, ◌≤◌, ◌+◌, ◌-◌, ◌/◌, ◌∙◌, inl, inr, ℕ, Bool, true, false, not, Some, None, List, [], ◌∷◌, length, get_or, refl, sym, ap, subst, arith}
use Rattle.std.specs.Prelude.{All, Contains, map, filter, nat_eq}
use Rattle.std.specs.List.{enumerate_from, position}
use Rattle.std.proofs.lemmas.Bool.{cases_Bool}
use Rattle.std.proofs.lemmas.List.Elements.{All-map}
use Rattle.hs_base.specs.declared.values.Pointer.{Pointer}
use Rattle.hs_base.specs.Freeing.{end_numbers, ended, first_held, is_heap, pointers_to}
use Rattle.hs_base.specs.Object.{Object, is_queued, object_at}
use Rattle.hs_base.specs.Place.{Block}
use Rattle.heap_blocks.specs.Heads.{header_at}
use Rattle.count_table.specs.Table.{Table}
use Rattle.delay_scopes.specs.Queue.{HasQueue, ScopesModel, header_of}
use Rattle.flat_objects.specs.Memory.{Memory, Range, Statics, Locals, Heap, IsMemory, SameFrame, heap_of, range_of}
use Rattle.flat_objects.specs.Keeping.{Keeps, block_of, blocks_of, stands_in}
use Rattle.flat_objects.specs.Counting.{AreCounts, Frees, HasScopes, LeadsSomewhere, MayUnpin, Tracks, living_pointers}
use Rattle.flat_objects.specs.Freeing.{number_of}
use Rattle.flat_objects.specs.Ending.{AnswersEnd, AreEnded, AreLocalsAt, MayEnd}
use Rattle.flat_objects.specs.EndingSteps.{ChangesLocals, MayCheck, MayGiveBack, pointers_beside}
use Rattle.flat_objects.proofs.Changing.{header_kept}
use Rattle.flat_objects.proofs.Counted.{keeps_counting}
use Rattle.flat_objects.proofs.EndingBlocks.{changes_frame, stands_ended}
use Rattle.flat_objects.proofs.EndingCounts.{all_stay, end_same, first_named, none_named}
use Rattle.flat_objects.proofs.EndingObjects.{blocks_ended}
use Rattle.flat_objects.proofs.Frames.{frame_again}
use Rattle.flat_objects.proofs.HeldBlocks.{all_blocks}
use Rattle.flat_objects.proofs.Queueing.{range_heap}
use Rattle.flat_objects.proofs.Released.{all_left_of, all_right_of, filter_all, from_among}
use Rattle.flat_objects.proofs.Tracked.{links_kept, queue_there}
use Rattle.flat_objects.specs.EndingEquations.{at_ended, dead_if, ended_sort, is_ending}
use Rattle.flat_objects.specs.MemoryEquations.{range_from}

-- Objects that are no memory locals

-- the object of a birth that ends is a memory local
ending_local : (places : ℕ → ℕ) (objects : List Object) (births addrs : List ℕ) → AreLocalsAt places objects births addrs → (b : ℕ) → is_ending births b ≡ true → range_of (object_at objects b).sort ≡ Locals
ending_local places objects births addrs ending b is_in =
    let at = from_among births b is_in in
    subst (λ x. range_of (object_at objects x).sort ≡ Locals) at.2 (range_from Locals (object_at objects (get_or births at.0 b)).sort (ending.own at.0 b at.1).sort)

not_local : (places : ℕ → ℕ) (objects : List Object) (births addrs : List ℕ) → AreLocalsAt places objects births addrs → (b : ℕ) (range : Range) → range_of (object_at objects b).sort ≡ range → (range ≡ Locals → ⊥) → is_ending births b ≡ false
not_local places objects births addrs ending b range own other =
    elim (cases_Bool (is_ending births b)) [
      | inr out ↦ out
      | inl is_in ↦ absurd (other (sym own ∙ ending_local places objects births addrs ending b is_in))
    ]

blocks_stay : (memory : Memory) (places : ℕ → ℕ) (objects : List Object) (births addrs : List ℕ) → AreLocalsAt places objects births addrs → (range : Range) → (range ≡ Locals → ⊥) → blocks_of memory places (ended objects births) range ≡ blocks_of memory places objects range
blocks_stay memory places objects births addrs ending range other =
    blocks_ended memory places objects births range
    ∙ filter_all (λ (x : Block). not (is_ending births x.birth)) (blocks_of memory places objects range)
    (all_blocks (λ (x : Block). not (is_ending births x.birth) ≡ true) memory places objects range (λ b there own. ap not (not_local places objects births addrs ending b range own other)))

-- blocks go by where their range begins
bases_same : (before after : Memory) → SameFrame before after → (range : Range) → (heap_of after range).base ≡ (heap_of before range).base
bases_same before after frame Statics = frame.statics.0
bases_same before after frame Locals = frame.locals.0
bases_same before after frame Heap = frame.heap.0

blocks_same : (before after : Memory) (places : ℕ → ℕ) (objects : List Object) → SameFrame before after → (range : Range) → blocks_of after places objects range ≡ blocks_of before places objects range
blocks_same before after places objects frame range =
    ap (λ base. map (block_of places base) (filter (stands_in range) (enumerate_from 0 objects))) (bases_same before after frame range)

dead_waits : (t : Bool) (o : Object) → is_queued (dead_if t o).standing ≡ true → is_queued o.standing ≡ true
dead_waits true o waits = absurd (cc)
dead_waits false o waits = waits

-- The answer is pinned

abbrev pub with_answer : Frees → Pointer → Frees
with_answer frees p = record frees { pins = p ∷ frees.pins }

module _ (locals heap : ℕ) (first one : Memory) (shape : IsMemory locals heap one) (places : ℕ → ℕ) (objects : List Object) (frees : Frees) (births : List ℕ) (p : Pointer) (addrs : List ℕ) (answer : ℕ) (may : MayEnd first places objects frees births p addrs answer)
    (frame : SameFrame first one) (keeps : Keeps one places objects) (tracks : Tracks one places objects (with_answer frees p)) where
  abbrev beside : List Pointer
  beside = pointers_beside objects (with_answer frees p) births

  abbrev pub left_to : ℕ → Bool
  left_to b = not (nat_eq (pointers_to b beside) 0)

  pub may_check : MayCheck one places objects (with_answer frees p) births addrs
  may_check = record { keeps = keeps; tracks = tracks; ending = may.ending }

  numbers : end_numbers objects births (Some p) (number_of objects frees) ≡ first_held left_to births
  numbers = end_same objects frees births p (λ k d less. (may.ending.own k d less).there) may.ending.distinct

  pub some_answer : (k : ℕ) → Some k ≡ position left_to births → (two : Memory) → two ≡ record one { counts = two.counts } → AnswersEnd first two places objects frees births (Some k) (end_numbers objects births (Some p) (number_of objects frees))
  some_answer k found two same =
      let named = first_named left_to births k found in (
        named.0,
        numbers ∙ named.1,
        named.2,
        subst (λ (m : Memory). Keeps m places objects) (sym same) (keeps_counting one two.counts places objects keeps),
        subst (λ (m : Memory). HasScopes m places objects frees.queue frees.scopes) (sym same) (record { queued = tracks.queued; links = tracks.links; open_scopes = tracks.open_scopes }),
      )

  -- Where no local escapes

  module _ (free : None ≡ position left_to births) where
    pub none_answer : end_numbers objects births (Some p) (number_of objects frees) ≡ None
    none_answer = numbers ∙ none_named left_to births free

    stay : All (LeadsSomewhere (ended objects births)) beside
    stay = all_stay locals heap one shape places objects (with_answer frees p) births addrs may_check (none_named left_to births free)

    pins_stay : All (LeadsSomewhere (ended objects births)) (p ∷ frees.pins)
    pins_stay = all_right_of (LeadsSomewhere (ended objects births)) (living_pointers (ended objects births)) (p ∷ frees.pins) stay

    module _ (two : Memory) (same : two ≡ record one { counts = two.counts }) where
      pub may_give_back : MayGiveBack two places objects births addrs
      may_give_back = record {
        keeps = subst (λ (m : Memory). Keeps m places objects) (sym same) (keeps_counting one two.counts places objects keeps);
        ending = may.ending;
        left = all_left_of (LeadsSomewhere (ended objects births)) (living_pointers (ended objects births)) (p ∷ frees.pins) stay;
      }

      module _ (counts : AreCounts places beside two.counts.counts) (frame_two : SameFrame one two) (three : Memory) (keeps_three : Keeps three places (ended objects births)) (changes : ChangesLocals two three) where
        frame_three : SameFrame one three
        frame_three = frame_again one two three frame_two (changes_frame two three changes)

        -- a queued object is none of the locals
        queue_stays : (b : ℕ) → Contains frees.queue b → is_ending births b ≡ false
        queue_stays b at =
            let of_heap = subst (λ x. is_heap (object_at objects x).sort ≡ true) at.2 (tracks.queued.heap at.0 b at.1) in
            not_local places objects births addrs may.ending b Heap (range_heap (object_at objects b).sort of_heap) (λ e. cc)

        headers : (k d : ℕ) → k < length frees.queue → header_of three.bytes (places (get_or frees.queue k d)) ≡ header_of one.bytes (places (get_or frees.queue k d))
        headers k d less =
            let b = get_or frees.queue k d in
            let own = range_heap (object_at objects b).sort (tracks.queued.heap k d less) in
            let room = subst (λ r. (heap_of one r).base + 32 ≤ places b) own (keeps.standing b (queue_there objects frees.queue tracks.queued k d less)).room in
            let base : two.locals.base ≡ one.locals.base = ap (λ (m : Memory). m.locals.base) same in
            let len : two.locals.len ≡ one.locals.len = ap (λ (m : Memory). m.locals.len) same in
            header_kept two.bytes three.bytes two.locals.base two.locals.len (places b - 32) changes.bytes (inr (omega (arith, shape.locals_end, shape.heap_from)))
            ∙ ap (λ (m : Memory). header_at m.bytes (places b - 32)) same

        scopes_same : three.scopes ≡ one.scopes
        scopes_same = ap (λ (m : Memory). m.scopes) changes.others ∙ ap (λ (m : Memory). m.scopes) same

        heap_blocks : blocks_of three places (ended objects births) Heap ≡ blocks_of one places objects Heap
        heap_blocks = blocks_same one three places (ended objects births) frame_three Heap ∙ blocks_stay one places objects births addrs may.ending Heap (λ e. cc)

        links : HasQueue three.scopes three.heap.base three.bytes (blocks_of three places (ended objects births) Heap) (map places frees.queue)
        links =
            let kept = links_kept one.scopes one.heap.base one.bytes three.bytes (blocks_of one places objects Heap) (blocks_of three places (ended objects births) Heap) (map places frees.queue) tracks.links
            (All-map (λ addr. header_of three.bytes addr ≡ header_of one.bytes addr) places frees.queue headers)
            (λ b held. subst (λ (l : List Block). Contains l b) (sym heap_blocks) held) in
            subst (λ (s : ScopesModel). HasQueue s three.heap.base three.bytes (blocks_of three places (ended objects births) Heap) (map places frees.queue)) (sym scopes_same)
            (subst (λ (base : ℕ). HasQueue one.scopes base three.bytes (blocks_of three places (ended objects births) Heap) (map places frees.queue)) (sym frame_three.heap.0) kept)

        tracks_three : Tracks three places (ended objects births) (with_answer frees p)
        tracks_three = record {
          counts = subst (λ (t : Table). AreCounts places beside t.counts) (sym (ap (λ (m : Memory). m.counts) changes.others)) counts;
          pinned = pins_stay;
          few = subst (λ m. length (p ∷ frees.pins) ≤ m - length three.bytes / 4) (sym frame_three.most) (subst (λ n. length (p ∷ frees.pins) ≤ one.counts.most - n / 4) (sym frame_three.long) tracks.few);
          queued = record {
            heap = λ k d less. ap is_heap (ended_sort objects births (get_or frees.queue k d)) ∙ tracks.queued.heap k d less;
            exact = λ b. (
              λ at. ap (λ (o : Object). is_queued o.standing) (at_ended objects births b ∙ ap (λ t. dead_if t (object_at objects b)) (queue_stays b at)) ∙ (tracks.queued.exact b).0 at,
              λ waits. (tracks.queued.exact b).1 (dead_waits (is_ending births b) (object_at objects b) (ap (λ (o : Object). is_queued o.standing) (sym (at_ended objects births b)) ∙ waits)),
            );
            distinct = tracks.queued.distinct;
          };
          links = links;
          open_scopes = ap (λ (s : ScopesModel). s.depth) scopes_same ∙ tracks.open_scopes;
        }

        pub may_unpin : MayUnpin three places (ended objects births) (with_answer frees p) [] frees.pins p answer
        may_unpin = record {
          at = record { keeps = keeps_three; stands = stands_ended places objects births p answer may.at.stands (pins_stay 0 p (omega arith)) };
          tracks = tracks_three;
          held = refl;
        }

        -- the answer is pinned no longer
        pub all_ended : (four : Memory) → SameFrame three four → Keeps four places (ended objects births) → Tracks four places (ended objects births) frees → AreEnded first four places objects frees births
        all_ended four frame_four keeps_four tracks_four =
            let whole = frame_again first one four frame (frame_again one three four frame_three frame_four) in
            record {
              keeps = keeps_four;
              tracks = tracks_four;
              locals = blocks_same first four places (ended objects births) whole Locals ∙ blocks_ended first places objects births Locals;
              heap = blocks_same first four places (ended objects births) whole Heap ∙ blocks_stay first places objects births addrs may.ending Heap (λ e. cc);
              statics = blocks_same first four places (ended objects births) whole Statics ∙ blocks_stay first places objects births addrs may.ending Statics (λ e. cc);
              stand = stands_ended places objects births;
            }
