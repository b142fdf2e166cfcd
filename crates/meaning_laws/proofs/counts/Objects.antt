-- Pointers inside objects: how many there are once some objects change or die, and how many holders that is.
use Rattle.meaning_laws.proofs.Words.Core.{Dead, Holder, Live, Mem, Object, Pointer, Queued, Standing, buried, buried_standing, ended, is_dead, is_pointer_to, is_queued, no_object, object_at, objects_of, pointers_inside, pointers_to, queued, with_object}
use Rattle.meaning_laws.proofs.Words.Meaning.{Alive, Sane, append_living, counted_inside, inside_living, inside_objects, inside_one, is_among, living, local_object, local_objects, no_pointers, set_living, set_same}
use Rattle.meaning_laws.proofs.Words.Std.{Bool, List, [], ap, arith, cond, enumerate_from, eq-eqb, false, filter, get_or, get_or-set_other, length, length-map, map, nat_eq, or_left, or_right, refl, subst, sum_by, sum_by-cons, sym, true, true≢false, ℕ, ◌++◌, ◌+◌, ◌||◌, ◌∙◌, ◌∷◌, ◌≡◌}
use Rattle.meaning_laws.proofs.counts.Weighing.{Once, weigh, weigh_same, weigh_both, sum_weigh, filter_weigh, flat_weigh, sum_among}

-- One object changes

dead_is : (x : ℕ) (o : Object) → is_dead o.standing ≡ true → living x o ≡ 0
dead_is x o dead = ap (λ b. cond b 0 (pointers_to x o.pointers)) dead

pub queued_same : (objects : List Object) (b line x : ℕ) → Alive objects b → inside_living x (queued objects b line) ≡ inside_living x objects
queued_same objects b line x alive = set_same objects b (record (object_at objects b) { standing = Queued line }) alive refl refl x

-- New objects

no_locals : (x f : ℕ) (mems : List (ℕ × Mem)) → inside_living x (map (local_object f) mems) ≡ 0
no_locals x f [] = refl
no_locals x f (m ∷ mems) =
    omega (arith, sum_by-cons (living x) (local_object f m) (map (local_object f) mems), no_pointers x (length m.1.layout.slots), no_locals x f mems)

pub locals_living : (objects : List Object) (f x : ℕ) (mems : List Mem) → inside_living x (objects ++ local_objects f mems) ≡ inside_living x objects
locals_living objects f x mems =
    omega (arith, append_living objects (local_objects f mems) x, no_locals x f (enumerate_from 0 mems))

-- Pointers inside some objects

pub inside_each : (x : ℕ) (objects : List Object) (births : List ℕ) → pointers_inside x (objects_of objects births) ≡ sum_by (λ b. pointers_to x (object_at objects b).pointers) births
inside_each x objects [] = refl
inside_each x objects (b ∷ births) =
    omega (arith, sum_by-cons (λ (o : Object). pointers_to x o.pointers) (object_at objects b) (objects_of objects births), sum_by-cons (λ c. pointers_to x (object_at objects c).pointers) b births, inside_each x objects births)

-- of the objects of a list that is without repetition, by their places
inside_weigh : (x : ℕ) (objects : List Object) (births : List ℕ) → Once births → pointers_inside x (objects_of objects births) ≡ weigh (λ k (o : Object). cond (is_among births k) (pointers_to x o.pointers) 0) 0 objects
inside_weigh x objects births once =
    inside_each x objects births ∙ sum_among (λ (o : Object). pointers_to x o.pointers) no_object refl objects births once

-- Holders

one_length : (x : ℕ) (o : Object) → length (inside_one x o) ≡ pointers_to x o.pointers
one_length x o =
    length-map (filter (λ (at : ℕ × Pointer). is_pointer_to x at.1) (enumerate_from 0 o.pointers)) _
    ∙ filter_weigh (λ (at : ℕ × Pointer). is_pointer_to x at.1) 0 o.pointers
    ∙ sym (sum_weigh (λ p. cond (is_pointer_to x p) 1 0) 0 o.pointers)

length_unless : (b : Bool) (xs : List Holder) → length (cond b [] xs) ≡ cond b 0 (length xs)
length_unless true xs = refl
length_unless false xs = refl

holders_length : (left : List ℕ) (x : ℕ) (objects : List Object) → length (inside_objects left x objects) ≡ weigh (λ k (o : Object). cond (is_dead o.standing || is_among left k) 0 (pointers_to x o.pointers)) 0 objects
holders_length left x objects =
    flat_weigh (counted_inside left x) 0 objects
    ∙ weigh_same _ _ 0 objects objects no_object refl (λ k lt.
    let o = get_or objects k no_object in
    length_unless (is_dead o.standing || is_among left (0 + k)) (inside_one x o)
    ∙ ap (λ n. cond (is_dead o.standing || is_among left (0 + k)) 0 n) (one_length x o))

split : (dead among : Bool) (n : ℕ) → (among ≡ true → dead ≡ false) → cond dead 0 n ≡ cond (dead || among) 0 n + cond among n 0
split true true n h = absurd (true≢false (h refl))
split true false n h = refl
split false true n h = omega arith
split false false n h = omega arith

-- the pointers inside objects that are not dead are the holders and those inside the objects that are left out
pub living_split : (left : List ℕ) (objects : List Object) → Once left → ((b : ℕ) → is_among left b ≡ true → Alive objects b) → (x : ℕ) → inside_living x objects ≡ length (inside_objects left x objects) + pointers_inside x (objects_of objects left)
living_split left objects once alive x =
    let f = λ (k : ℕ) (o : Object). cond (is_dead o.standing || is_among left k) 0 (pointers_to x o.pointers) in
    let g = λ (k : ℕ) (o : Object). cond (is_among left k) (pointers_to x o.pointers) 0 in
    let each : weigh (λ k o. living x o) 0 objects ≡ weigh (λ k o. f k o + g k o) 0 objects = weigh_same _ _ 0 objects objects no_object refl (λ k lt. let o = get_or objects k no_object in split (is_dead o.standing) (is_among left (0 + k)) (pointers_to x o.pointers) (λ i. let here : 0 + k ≡ k = omega arith in alive k (subst (λ n. is_among left n ≡ true) here i))) in
    omega (arith, sum_weigh (living x) 0 objects, each, weigh_both f g 0 objects, holders_length left x objects, inside_weigh x objects left once)

-- Objects die

abbrev bury_one : Object → Object
bury_one o = record o { standing = buried_standing o.standing }

after_burial : (x : ℕ) (pointers : List Pointer) (st : Standing) → cond (is_dead (buried_standing st)) 0 (pointers_to x pointers) + cond (is_queued st) (pointers_to x pointers) 0 ≡ cond (is_dead st) 0 (pointers_to x pointers)
after_burial x pointers Live = omega arith
after_burial x pointers (Queued line) = omega arith
after_burial x pointers Dead = refl

pub same_bool : (a b : Bool) → (a ≡ true → b ≡ true) → (b ≡ true → a ≡ true) → a ≡ b
same_bool true b h i = sym (h refl)
same_bool false true h i = i refl
same_bool false false h i = refl

buried_sum : (x : ℕ) (objects : List Object) → inside_living x (buried objects) ≡ sum_by (λ (o : Object). living x (bury_one o)) objects
buried_sum x [] = refl
buried_sum x (o ∷ objects) =
    omega (arith, sum_by-cons (living x) (bury_one o) (buried objects), sum_by-cons (λ (p : Object). living x (bury_one p)) o objects, buried_sum x objects)

-- the pointers inside the objects that are buried are those that are no longer inside any
pub buried_living : (objects : List Object) (queue : List ℕ) → Sane objects queue → Once queue → (x : ℕ) → inside_living x (buried objects) + pointers_inside x (objects_of objects queue) ≡ inside_living x objects
buried_living objects queue sane once x =
    let f = λ (k : ℕ) (o : Object). living x (bury_one o) in
    let g = λ (k : ℕ) (o : Object). cond (is_among queue k) (pointers_to x o.pointers) 0 in
    let queued_is : (k : ℕ) → is_among queue k ≡ is_queued (object_at objects k).standing = λ k. same_bool _ _ (sane.in_queue k) (λ q. (sane.queued k q).0) in
    let each : weigh (λ k o. f k o + g k o) 0 objects ≡ weigh (λ k o. living x o) 0 objects = weigh_same _ _ 0 objects objects no_object refl (λ k lt.
    let o = object_at objects k in
    let here : 0 + k ≡ k = omega arith in
    ap (λ b. living x (bury_one o) + cond b (pointers_to x o.pointers) 0) (ap (is_among queue) here ∙ queued_is k) ∙ after_burial x o.pointers o.standing) in
    omega (arith, buried_sum x objects, sum_weigh (λ (o : Object). living x (bury_one o)) 0 objects, inside_weigh x objects queue once, weigh_both f g 0 objects, each, sum_weigh (living x) 0 objects)

module _ (one objects : List Object) where
  same_objects : (births : List ℕ) → ((b : ℕ) → is_among births b ≡ true → object_at one b ≡ object_at objects b) → objects_of one births ≡ objects_of objects births
  same_objects [] h = refl
  same_objects (b ∷ births) h =
      let first = h b (or_left (nat_eq b b) (is_among births b) (eq-eqb b b refl)) in
      let rest = same_objects births (λ c i. h c (or_right (nat_eq b c) (is_among births c) i)) in
      ap (λ o. o ∷ objects_of one births) first ∙ ap (λ os. object_at objects b ∷ os) rest

-- the same for locals that end
pub ended_living : (objects : List Object) (locals : List ℕ) → Once locals → ((b : ℕ) → is_among locals b ≡ true → Alive objects b) → (x : ℕ) → inside_living x (ended objects locals) + pointers_inside x (objects_of objects locals) ≡ inside_living x objects
ended_living objects [] once alive x = omega arith
ended_living objects (b ∷ locals) once alive x =
    let dead : Object = record (object_at objects b) { standing = Dead } in
    let one = with_object objects b dead in
    let here : Alive objects b = alive b (or_left (nat_eq b b) (is_among locals b) (eq-eqb b b refl)) in
    let same : (c : ℕ) → is_among locals c ≡ true → object_at one c ≡ object_at objects c = λ c i. get_or-set_other objects b c dead no_object (λ e. true≢false (sym i ∙ subst (λ k. is_among locals k ≡ false) (sym e) once.0)) in
    let rest = ended_living one locals once.1 (λ c i. ap (λ (o : Object). is_dead o.standing) (same c i) ∙ alive c (or_right (nat_eq b c) (is_among locals c) i)) x in
    omega (arith, set_living objects b dead here x, rest, ap (pointers_inside x) (same_objects one objects locals same), sum_by-cons (λ (o : Object). pointers_to x o.pointers) (object_at objects b) (objects_of objects locals))
