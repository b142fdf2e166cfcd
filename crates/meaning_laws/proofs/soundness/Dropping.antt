-- Objects that die: the queued ones, and memory locals.
use Rattle.meaning_laws.proofs.Words.Core.{AreSlots, Dead, Live, Object, Pointer, buried, buried_standing, ended, is_dead, is_heap, is_pointer_to, is_queued, no_object, object_at, with_object}
use Rattle.meaning_laws.proofs.Words.Meaning.{AreObjects, IsByte, IsObject, IsPointer, IsQueue, IsThere, Sane, inside_objects, is_among}
use Rattle.meaning_laws.proofs.Words.Std.{All, All-from_get_or, List, [], ap, arith, cases_eq, cases_lt, eq-eqb, false, false≢true, get_or, get_or-set_other, get_or-set_same, get_or_default, get_or_past, length, length-map, length-set, nat_eq, ne_eqb, or_from, or_left, or_right, refl, subst, sym, true, true≢false, ℕ, ⊎_elim, ◌<◌, ◌∙◌, ◌∷◌, ◌≡◌}
use Rattle.hs_base.specs.declared.values.Pointer.TheVariants as pointer
use Rattle.meaning_laws.proofs.dangling.Burying.{NoHolder, unheld_object, at_buried, buried_loses, none_queued}
use Rattle.meaning_laws.proofs.soundness.Touching.{Becomes, pointer_becomes, distinct_none, object_is}
use Rattle.meaning_laws.proofs.dangling.Returning.{ended_length}

-- the objects of some births die, and each other is the same
pub record Drops (old new : List Object) (dying : List ℕ) : Type 0 where
  pub becomes : Becomes old new dying
  pub long : length new ≡ length old
  pub bytes : (b : ℕ) → (object_at new b).bytes ≡ (object_at old b).bytes
  pub pointers : (b : ℕ) → (object_at new b).pointers ≡ (object_at old b).pointers
  pub was : (b : ℕ) → IsThere new b → IsThere old b × (is_among dying b ≡ false)
  pub queued : (b : ℕ) → is_queued (object_at new b).standing ≡ true → is_queued (object_at old b).standing ≡ true

module _ (old new : List Object) (dying : List ℕ) (d : Drops old new dying) (none : (c : ℕ) → is_among dying c ≡ true → NoHolder (inside_objects dying c old)) (whole : AreObjects old) where
  -- no pointer of an object that stays is to one that dies
  spared : (b : ℕ) → IsThere old b → is_among dying b ≡ false → All (IsPointer old) (object_at old b).pointers → All (IsPointer new) (object_at old b).pointers
  spared b there out all k e lt =
      let ps = (object_at old b).pointers in
      pointer_becomes old new dying d.becomes (get_or ps k e) (all k e lt) (λ c dies.
      let same : get_or ps k pointer.Null ≡ get_or ps k e = get_or_default ps k pointer.Null e lt in
      subst (λ p. is_pointer_to c p ≡ false) same (unheld_object dying c old (none c dies) b there out k))

  dropped : (b : ℕ) → b < length old → IsObject new (object_at new b)
  dropped b lt =
      let o = object_is old whole b lt in
      record {
        size = omega (arith, o.size, d.becomes.size b lt);
        filled = ap length (d.bytes b) ∙ o.filled ∙ sym (d.becomes.size b lt);
        bytes = subst (λ (xs : List ℕ). All IsByte xs) (sym (d.bytes b)) o.bytes;
        slots = subst (λ (n : ℕ). AreSlots 0 n (object_at new b).slots) (sym (d.becomes.size b lt)) (subst (λ (xs : List ℕ). AreSlots 0 (object_at old b).size xs) (sym (d.becomes.slots b lt)) o.slots);
        each_slot = ap length (d.pointers b) ∙ o.each_slot ∙ ap length (sym (d.becomes.slots b lt));
        pointers = λ alive.
            let was = d.was b alive in
            subst (λ (ps : List Pointer). All (IsPointer new) ps) (sym (d.pointers b)) (spared b was.0 was.1 (o.pointers was.0));
        heap = λ q. ap is_heap (d.becomes.sort b lt) ∙ o.heap (d.queued b q);
      }

  -- where no object that stays holds a pointer to one that dies, all are whole
  pub drops_objects : AreObjects new
  drops_objects = All-from_get_or (IsObject new) new no_object (λ b lt. dropped b (omega (arith, d.long, lt)))

-- Burying

module _ (objects : List Object) (queue : List ℕ) (sane : Sane objects queue) where
  in_buried : (P : Object → Type 0) (b : ℕ) → P (record (object_at objects b) { standing = buried_standing (object_at objects b).standing }) → P (object_at (buried objects) b)
  in_buried P b h = subst P (sym (at_buried objects b)) h

  -- the queued objects are those that die
  pub buried_drops : Drops objects (buried objects) queue
  buried_drops =
      let l = buried_loses objects queue sane in
      let many : length (buried objects) ≡ length objects = length-map objects _ in
      record {
        becomes = record {
          longer = omega (arith, many);
          sort = λ b lt. in_buried (λ (o : Object). o.sort ≡ (object_at objects b).sort) b refl;
          size = λ b lt. in_buried (λ (o : Object). o.size ≡ (object_at objects b).size) b refl;
          slots = λ b lt. in_buried (λ (o : Object). o.slots ≡ (object_at objects b).slots) b refl;
          there = λ b h out. (l.spared b h out).0;
          live = λ b heap h out. in_buried (λ (o : Object). o.standing ≡ Live) b (ap buried_standing h);
          dead = λ b lt h. in_buried (λ (o : Object). o.standing ≡ Dead) b (ap buried_standing h);
        };
        long = many;
        bytes = λ b. in_buried (λ (o : Object). o.bytes ≡ (object_at objects b).bytes) b refl;
        pointers = λ b. in_buried (λ (o : Object). o.pointers ≡ (object_at objects b).pointers) b refl;
        was = λ b h. let w = l.was b h in (w.0, w.1);
        queued = λ b q. absurd (false≢true (sym (unqueued b) ∙ q));
      } where
        unqueued : (b : ℕ) → is_queued (object_at (buried objects) b).standing ≡ false
        unqueued b = in_buried (λ (o : Object). is_queued o.standing ≡ false) b (none_queued (object_at objects b).standing)

  -- none is left
  pub buried_queue : IsQueue (buried objects) []
  buried_queue = record {
    exact = λ b. in_buried (λ (o : Object). false ≡ is_queued o.standing) b (sym (none_queued (object_at objects b).standing));
    once = distinct_none;
  }

-- The end of memory locals

abbrev dead_at : List Object → ℕ → Object
dead_at objects b = record (object_at objects b) { standing = Dead }

abbrev ended_one : List Object → ℕ → List Object
ended_one objects x = with_object objects x (dead_at objects x)

-- one of them
dies_at : (objects : List Object) (x : ℕ) → object_at (ended_one objects x) x ≡ dead_at objects x
dies_at objects x =
    ⊎_elim
    (λ lt. get_or-set_same objects x (dead_at objects x) no_object lt)
    (λ le.
    let past : object_at objects x ≡ no_object = get_or_past objects x no_object le in
    let still : object_at (ended_one objects x) x ≡ no_object = get_or_past (ended_one objects x) x no_object (omega (arith, length-set objects x (dead_at objects x))) in
    still ∙ ap (λ (o : Object). let dead : Object = record o { standing = Dead } in dead) (sym past))
    (cases_lt x (length objects))

-- P of each object behind the end of some, by whether it is one of them
at_ended : (P : Object → Type 0) (objects : List Object) (locals : List ℕ) (b : ℕ) → (is_among locals b ≡ false → P (object_at objects b)) → (is_among locals b ≡ true → P (dead_at objects b)) → P (object_at (ended objects locals) b)
at_ended P objects [] b out in' = out refl
at_ended P objects (x ∷ locals) b out in' =
    ⊎_elim
    (λ e.
    let here : is_among (x ∷ locals) b ≡ true = or_left (nat_eq x b) (is_among locals b) (eq-eqb x b (sym e)) in
    let same : object_at (ended_one objects x) b ≡ dead_at objects b = subst (λ k. object_at (ended_one objects x) k ≡ dead_at objects k) (sym e) (dies_at objects x) in
    at_ended P (ended_one objects x) locals b (λ o. subst P (sym same) (in' here)) (λ i. subst P (ap (λ (o : Object). let dead : Object = record o { standing = Dead } in dead) (sym same)) (in' here)))
    (λ n.
    let same : object_at (ended_one objects x) b ≡ object_at objects b = get_or-set_other objects x b (dead_at objects x) no_object n in
    at_ended P (ended_one objects x) locals b (λ o. subst P (sym same) (out (or_from (nat_eq x b) (is_among locals b) (ne_eqb x b (λ i. n (sym i))) o))) (λ i. subst P (ap (λ (o : Object). let dead : Object = record o { standing = Dead } in dead) (sym same)) (in' (or_right (nat_eq x b) (is_among locals b) i))))
    (cases_eq b x)

module _ (objects : List Object) (locals : List ℕ) where
  -- the locals are those that die
  pub ended_drops : Drops objects (ended objects locals) locals
  ended_drops = record {
    becomes = record {
      longer = omega (arith, ended_length objects locals);
      sort = λ b lt. at_ended (λ (o : Object). o.sort ≡ (object_at objects b).sort) objects locals b (λ o. refl) (λ i. refl);
      size = λ b lt. at_ended (λ (o : Object). o.size ≡ (object_at objects b).size) objects locals b (λ o. refl) (λ i. refl);
      slots = λ b lt. at_ended (λ (o : Object). o.slots ≡ (object_at objects b).slots) objects locals b (λ o. refl) (λ i. refl);
      there = λ b h out. at_ended (λ (o : Object). is_dead o.standing ≡ false) objects locals b (λ o. h) (λ i. absurd (true≢false (sym i ∙ out)));
      live = λ b heap h out. at_ended (λ (o : Object). o.standing ≡ Live) objects locals b (λ o. h) (λ i. absurd (true≢false (sym i ∙ out)));
      dead = λ b lt h. at_ended (λ (o : Object). o.standing ≡ Dead) objects locals b (λ o. h) (λ i. refl);
    };
    long = ended_length objects locals;
    bytes = λ b. at_ended (λ (o : Object). o.bytes ≡ (object_at objects b).bytes) objects locals b (λ o. refl) (λ i. refl);
    pointers = λ b. at_ended (λ (o : Object). o.pointers ≡ (object_at objects b).pointers) objects locals b (λ o. refl) (λ i. refl);
    was = λ b. at_ended (λ (o : Object). is_dead o.standing ≡ false → IsThere objects b × (is_among locals b ≡ false)) objects locals b (λ o h. (h, o)) (λ i h. absurd (true≢false h));
    queued = λ b. at_ended (λ (o : Object). is_queued o.standing ≡ true → is_queued (object_at objects b).standing ≡ true) objects locals b (λ o q. q) (λ i q. absurd (false≢true q));
  }

  pub ended_are_dead : (b : ℕ) → is_among locals b ≡ true → (object_at (ended objects locals) b).standing ≡ Dead
  ended_are_dead b i =
      at_ended (λ (o : Object). o.standing ≡ Dead) objects locals b (λ o. absurd (true≢false (sym i ∙ o))) (λ j. refl)

  -- where none of them was queued
  pub ended_queue : (queue : List ℕ) → IsQueue objects queue → ((b : ℕ) → is_among locals b ≡ true → (object_at objects b).standing ≡ Live) → IsQueue (ended objects locals) queue
  ended_queue queue q live = record {
    exact = λ b. at_ended (λ (o : Object). is_among queue b ≡ is_queued o.standing) objects locals b (λ o. q.exact b) (λ i. q.exact b ∙ ap is_queued (live b i));
    once = q.once;
  }
