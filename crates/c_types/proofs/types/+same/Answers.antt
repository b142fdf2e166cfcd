use Rattle.std.proofs.Common.{arith, ◌≡◌, add-one, IsTrue, ◌∙◌, sym, ap}
use Rattle.c_types.specs.Types.{Function, plain, plain_list, plain_signature}
use Rattle.c_types.specs.TypesEquations.{plain-function}
use Rattle.c_types.proofs.Same.{never, length-plain_list, plain_list-at, result_below, plain_list-take}
use Rattle.c_types.specs.declared.types.CType.{size-CType}
use Rattle.c_types.proofs.types.+same.Goals as goal

pub same_type-returns-then-not-same_types : goal.same_type-returns-then-not-same_types
same_type-returns-then-not-same_types t c =
    never (λ e.
    let both : plain_signature c.in-Function.signature.now ≡ plain_signature c.in-Function-b.other.now =
    sym (plain-function c.in-Function.signature) ∙ sym (ap plain c.in-Function.is) ∙ c.loop-a.invariant.0.1 e ∙ ap plain c.in-Function-b.is ∙ plain-function c.in-Function-b.other in
    let lists : plain_list c.in-Function.signature.now.params.items ≡ plain_list c.in-Function-b.other.now.params.items = cc in
    let same : IsTrue c.same_types.result = c.same_types.ensures.1 (ap plain_list c.deref.ensures.value ∙ lists ∙ sym (ap plain_list c.deref-in-Function-b.ensures.value)) in
    cc)

pub same_type-loop-a-preserved : goal.same_type-loop-a-preserved
same_type-loop-a-preserved t c =
    let same : IsTrue c.same_types.result = cc in
    let lists : plain_list c.in-Function.signature.now.params.items ≡ plain_list c.in-Function-b.other.now.params.items =
    sym (ap plain_list c.deref.ensures.value) ∙ c.same_types.ensures.0 same ∙ ap plain_list c.deref-in-Function-b.ensures.value in
    let first = ap plain c.in-Function.is ∙ plain-function c.in-Function.signature in
    let other = ap plain c.in-Function-b.is ∙ plain-function c.in-Function-b.other in (
      (
        λ e. c.loop-a.invariant.0.0 (first ∙ (λ i. Function (e i) (lists i)) ∙ sym other),
        λ e. let both : plain_signature c.in-Function.signature.now ≡ plain_signature c.in-Function-b.other.now = sym first ∙ c.loop-a.invariant.0.1 e ∙ other in cc,
      ),
      omega (arith, c.loop-a.invariant.1, ap size-CType c.in-Function.is, result_below c.in-Function.signature),
    )

pub same_types-returns-then-a-b : goal.same_types-returns-then-a-b
same_types-returns-then-a-b t c = never (λ e. c.if-a-b.true (length-plain_list _ _ e))

pub same_types-returns-then-not-same_type : goal.same_types-returns-then-not-same_type
same_types-returns-then-not-same_type t c =
    never (λ e.
    let same : IsTrue c.same_type.result =
    c.same_type.ensures.1 (plain_list-at _ _ c.loop-i.i _ _ c.index-a-i.is c.index-b-i.is c.loop-i-test.true c.if-a-b.false e) in
    cc)

pub same_types-loop-i-preserved : goal.same_types-loop-i-preserved
same_types-loop-i-preserved t c =
    rw add-one
    (plain_list-take _ _ c.loop-i.i _ _ c.index-a-i.is c.index-b-i.is c.loop-i-test.true c.if-a-b.false
    (c.same_type.ensures.0 c.if-not-same_type.false) c.loop-i.invariant)
