use Rattle.std.proofs.Common.{◌≡◌, ◌+◌, ◌-◌, ◌*◌, ◌/◌, inl, inr, ℕ, length, Option, Some, None, sym, ap, ◌∙◌, refl, subst, arith}
use Rattle.std.specs.Prelude.{slice_get}
use Rattle.std.proofs.lemmas.Bool.{cases_lt}
use Rattle.heap_blocks.specs.declared.marks.Mark.TheVariants.{Of}
use Rattle.heap_blocks.specs.Held.{HeapModel, Holds, address_of, owner_of}
use Rattle.heap_blocks.proofs.Owning.{below_owns, mark_owns, free_owns, held_owns, past_owns}
use Rattle.heap_blocks.proofs.Marked.{not_free}
use Rattle.heap_blocks.proofs.blocks.Heap.owner.Goals as goal

pub returns-then-addr-self-clause-owner : goal.returns-then-addr-self-clause-owner
returns-then-addr-self-clause-owner g c = λ held holds.
    let base : c.self.inside.base ≡ c.args.self.now.base = ap (λ (h : HeapModel). h.base) c.self.view_is in
    sym (below_owns c.args.self.now held c.args.addr (omega arith))

pub returns-in-Of-clause-owner : goal.returns-in-Of-clause-owner
returns-in-Of-clause-owner g c = λ held holds.
    let heap : HeapModel = record { base = c.self.inside.base; len = c.self.inside.len; marks = c.self.inside.marks } in
    let same : heap ≡ c.args.self.now = c.self.view_is in
    let off = c.args.addr - c.self.inside.base in
    let mark : slice_get heap.marks (off / 16) ≡ Some (Of c.in-Of.start) = elim (cases_lt (off / 16) (length heap.marks)) [
      | inl below ↦ c.get.ensures.there below ∙ ap Some c.in-Of.is
      | inr past ↦ absurd (not_free c.in-Of.start (sym c.in-Of.is ∙ c.get.ensures.past past))
    ] in
    let owns = mark_owns heap c.args.addr (off / 16) off (omega arith) refl held c.self.invariant.shape (subst (λ (h : HeapModel). Holds h held) (sym same) holds) c.in-Of.start mark in
    let at : c.self.inside.base + 16 * c.in-Of.start + 32 ≡ address_of heap (c.in-Of.start * 16) = omega arith in
    subst (λ (h : HeapModel). Some (c.self.inside.base + 16 * c.in-Of.start + 32) ≡ owner_of h held c.args.addr) same (ap Some at ∙ sym owns)

pub returns-in-Free-clause-owner : goal.returns-in-Free-clause-owner
returns-in-Free-clause-owner g c = λ held holds.
    let heap : HeapModel = record { base = c.self.inside.base; len = c.self.inside.len; marks = c.self.inside.marks } in
    let same : heap ≡ c.args.self.now = c.self.view_is in
    let off = c.args.addr - c.self.inside.base in
    let before = subst (λ (h : HeapModel). Holds h held) (sym same) holds in
    let none : owner_of heap held c.args.addr ≡ None = elim (cases_lt (off / 16) (length heap.marks)) [
      | inl below ↦ free_owns heap c.args.addr (off / 16) off (omega arith) refl held c.self.invariant.shape before (c.get.ensures.there below ∙ ap Some c.in-Free.is)
      | inr past ↦ past_owns heap c.args.addr (off / 16) off (omega arith) refl held c.self.invariant.shape before past
    ] in
    subst (λ (h : HeapModel). let nothing : Option ℕ = None in nothing ≡ owner_of h held c.args.addr) same (sym none)

-- by the blocks that are held
pub returns-in-Of-clause-held : goal.returns-in-Of-clause-held
returns-in-Of-clause-held g c = λ held b holds is_held has.
    returns-in-Of-clause-owner g c held holds ∙ held_owns c.args.self.now held b c.args.addr holds is_held has

pub returns-in-Free-clause-held : goal.returns-in-Free-clause-held
returns-in-Free-clause-held g c = λ held b holds is_held has.
    returns-in-Free-clause-owner g c held holds ∙ held_owns c.args.self.now held b c.args.addr holds is_held has
