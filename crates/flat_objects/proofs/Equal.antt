-- Addresses of two pointers.
use Rattle.std.proofs.Common.{List, ◌≡◌, ℕ, ◌+◌, ◌≤◌, inl, inr, true, Ok, Err, refl, sym, ap, ◌∙◌, subst, arith}
use Rattle.std.specs.Prelude.{nat_eq}
use Rattle.std.proofs.lemmas.Bool.{cases_eq, cond-true, cond-false, eq-eqb, ne_eqb, eqb-true, and_from, and_parts, false_from_ne_true}
use Rattle.hs_base.specs.declared.ends.TrapKind.TheVariants as trap
use Rattle.hs_base.specs.declared.values.Pointer.{Pointer}
use Rattle.hs_base.specs.declared.values.Pointer.TheVariants as pointer
use Rattle.hs_base.specs.Access.{Trapped}
use Rattle.hs_base.specs.Object.{Object, object_at}
use Rattle.object_meaning.specs.objects.Arithmetic.{same_pointer, offsets}
use Rattle.flat_objects.specs.declared.finding.Spot.{Spot}
use Rattle.flat_objects.specs.Memory.{Memory, IsMemory}
use Rattle.flat_objects.specs.Standing.{IsThere, IsAt, IsAddressOf}
use Rattle.flat_objects.specs.Keeping.{Keeps, KeepsAt}
use Rattle.flat_objects.specs.Answering.{Traps}
use Rattle.flat_objects.proofs.Apart.{objects_apart}
use Rattle.flat_objects.proofs.Owners.{own_lies}
use Rattle.flat_objects.proofs.Distances.{Spots}

module _ (locals heap : ℕ) (memory : Memory) (shape : IsMemory locals heap memory) (places : ℕ → ℕ) (objects : List Object) (keeps : Keeps memory places objects) where
  -- two objects that have addresses in common are one
  one_object : (b c x y : ℕ) → IsThere objects b → IsThere objects c → x ≤ (object_at objects b).size → y ≤ (object_at objects c).size → places b + x ≡ places c + y → b ≡ c
  one_object b c x y b_there c_there x_in y_in same =
      elim (cases_eq b c) [
        | inl e ↦ e
        | inr differ ↦ elim (objects_apart locals heap memory shape places objects keeps b c b_there c_there differ) [ inl h ↦ absurd (omega arith) | inr h ↦ absurd (omega arith) ]
      ]

  above_null : (b x addr : ℕ) → IsAt places objects b x addr → addr ≡ 0 → ⊥
  above_null b x addr at zero = let lies = own_lies memory places objects keeps b at.there in omega (arith, lies.above, at.address)

  equal_when_same : (a b : Pointer) (addr : ℕ) → IsAddressOf places objects a addr → IsAddressOf places objects b addr → same_pointer a b ≡ true
  equal_when_same pointer.Null pointer.Null addr p q = refl
  equal_when_same pointer.Null (pointer.At c y) addr p q = absurd (above_null c y addr q p)
  equal_when_same (pointer.At b x) pointer.Null addr p q = absurd (above_null b x addr p q)
  equal_when_same (pointer.At b x) (pointer.At c y) addr p q =
      let same : b ≡ c = one_object b c x y p.there q.there p.inside q.inside (sym p.address ∙ q.address) in
      let start : places b ≡ places c = ap places same in
      and_from (nat_eq b c) (nat_eq x y) (eq-eqb b c same) (eq-eqb x y (omega (arith, p.address, q.address)))

  same_when_equal : (a b : Pointer) (p_addr q_addr : ℕ) → IsAddressOf places objects a p_addr → IsAddressOf places objects b q_addr → same_pointer a b ≡ true → p_addr ≡ q_addr
  same_when_equal pointer.Null pointer.Null p_addr q_addr p q same = p ∙ sym q
  same_when_equal pointer.Null (pointer.At c y) p_addr q_addr p q same = absurd (cc)
  same_when_equal (pointer.At b x) pointer.Null p_addr q_addr p q same = absurd (cc)
  same_when_equal (pointer.At b x) (pointer.At c y) p_addr q_addr p q same =
      let both = and_parts (nat_eq b c) (nat_eq x y) same in
      let start : places b ≡ places c = ap places (eqb-true b c both.0) in
      let offset : x ≡ y = eqb-true x y both.1 in
      omega (arith, p.address, q.address)

  -- two pointers are equal exactly if their addresses are
  pub equal_is : (a b : Pointer) (p_addr q_addr : ℕ) → IsAddressOf places objects a p_addr → IsAddressOf places objects b q_addr → same_pointer a b ≡ nat_eq p_addr q_addr
  equal_is a b p_addr q_addr p q =
      elim (cases_eq p_addr q_addr) [
        | inl e ↦ equal_when_same a b p_addr p (subst (IsAddressOf places objects b) (sym e) q) ∙ sym (eq-eqb p_addr q_addr e)
        | inr differ ↦ false_from_ne_true (same_pointer a b) (λ same. differ (same_when_equal a b p_addr q_addr p q same)) ∙ sym (ne_eqb p_addr q_addr differ)
      ]

  module _ (p_addr q_addr : ℕ) (one other : Spot) (p_some : p_addr ≡ 0 → ⊥) (q_some : q_addr ≡ 0 → ⊥) (finds_one : Spots memory p_addr one) (finds_other : Spots memory q_addr other) where
    pub two_objects : (a b : Pointer) → KeepsAt memory places objects a p_addr → IsAddressOf places objects b q_addr → (one.start ≡ other.start → ⊥) → Traps trap.Objects (offsets a b)
    two_objects pointer.Null b at q differ = absurd (p_some at.stands)
    two_objects (pointer.At b x) pointer.Null at q differ = absurd (q_some q)
    two_objects (pointer.At b x) (pointer.At c y) at q differ =
        let f = finds_one places objects b x at in
        let h = finds_other places objects c y (record { keeps = at.keeps; stands = q }) in
        cond-false (nat_eq b c) (Ok (x, y)) (Err (Trapped trap.Objects)) (ne_eqb b c (λ e. differ (f.start ∙ ap places e ∙ sym h.start)))

    pub two_offsets : (a b : Pointer) → KeepsAt memory places objects a p_addr → IsAddressOf places objects b q_addr → one.start ≡ other.start → offsets a b ≡ Ok (one.offset, other.offset)
    two_offsets pointer.Null b at q same = absurd (p_some at.stands)
    two_offsets (pointer.At b x) pointer.Null at q same = absurd (q_some q)
    two_offsets (pointer.At b x) (pointer.At c y) at q same =
        let f = finds_one places objects b x at in
        let h = finds_other places objects c y (record { keeps = at.keeps; stands = q }) in
        let e : b ≡ c = one_object b c 0 0 at.stands.there q.there (omega arith) (omega arith) (omega (arith, f.start, h.start)) in
        cond-true (nat_eq b c) (Ok (x, y)) (Err (Trapped trap.Objects)) (eq-eqb b c e)
        ∙ (λ i. Ok (sym f.distance i, sym h.distance i))
