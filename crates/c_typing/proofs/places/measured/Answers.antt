use Rattle.std.proofs.Common.{◌≡◌, ◌-◌, ◌*◌, ◌^◌, ◌∙◌, ℕ, min, ap, arith, ◌≤◌, rules}
use Rattle.c_types.specs.declared.types.CType.{size-CType, the_lemmas}
use Rattle.c_types.specs.declared.types.CType.TheVariants as t
use Rattle.c_types.specs.Types.{plain, Array}
use Rattle.c_typing.proofs.Measures.{counted_once, element_counted, measured_ok}
use Rattle.c_typing.proofs.places.measured.Goals as goal

pub loop-part-init : goal.loop-part-init
loop-part-init c = (counted_once _, omega arith)

pub loop-part-preserved : goal.loop-part-preserved
loop-part-preserved c =
    let is : plain c.loop-part.part ≡ Array (plain c.in-Array.element.now) c.in-Array.length = ap plain c.in-Array.is in
    let below : size-CType c.in-Array.element.now ≤ size-CType (t.Array c.in-Array.element c.in-Array.length) = search (rules, the_lemmas) in (
      element_counted c.args.tags.now _ _ _ c.loop-part.count c.in-Array.length _ is
          (c.saturating_mul-count.ensures ∙ ap (λ (m : ℕ). min (c.loop-part.count * m) (2 ^ 64 - 1)) c.from.ensures) c.loop-part.invariant.0,
      omega (arith, c.loop-part.invariant.1, ap size-CType c.in-Array.is, below),
    )

pub returns-in-Void : goal.returns-in-Void
returns-in-Void c =
    measured_ok c.all_of.result _ _ _ c.loop-part.count c.loop-part.invariant.0 c.size_of.ensures.value c.all_of.ensures.value c.all_of.ensures.counted
