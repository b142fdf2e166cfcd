use Rattle.std.proofs.Common.{◌≡◌, ◌+◌, ◌-◌, ◌*◌, ◌∙◌, length, ap, sym, subst, arith}
use Rattle.byte_memory.specs.Bytes.{word}
use Rattle.hs_base.specs.Object.{object_at}
use Rattle.flat_objects.specs.Memory.{Memory, IsMemory, end_of}
use Rattle.flat_objects.proofs.Owners.{own_inside}
use Rattle.flat_objects.proofs.Sought.{IsFirstSoFar, all_below, first_is, first_more, first_none, found_inside}
use Rattle.flat_objects.proofs.memory.FlatObjects.first_holder.Goals as goal

pub read_size-size-requires-clause-inside : goal.read_size-size-requires-clause-inside
read_size-size-requires-clause-inside g c =
    let kept = c.requires.3 in
    let shape = subst (IsMemory c.self.inside.locals_from c.self.inside.heap_from) c.self.view_is c.self.invariant in
    let room = (kept.keeps.standing c.requires.2 kept.there).room in
    let inside = own_inside c.args.self.now c.requires.0 c.requires.1 kept.keeps c.requires.2 kept.there c.self.inside.locals_from c.self.inside.heap_from shape in
    let bytes = ap (λ (m : Memory). length m.bytes) c.self.view_is in
    omega (arith, kept.address)

pub loop-granule-init : goal.loop-granule-init
loop-granule-init g c = λ places objects birth kept.
    let shape = subst (IsMemory c.self.inside.locals_from c.self.inside.heap_from) c.self.view_is c.self.invariant in
    first_none c.self.inside.locals_from c.self.inside.heap_from c.args.self.now shape places objects kept.keeps birth

pub holding_at-found-requires : goal.holding_at-found-requires
holding_at-found-requires g c =
    let kept = c.requires.3 in
    let old = kept.keeps.standing c.requires.2 kept.there in
    let place : c.args.target - 32 ≡ c.requires.0 c.requires.2 - 32 = ap (λ a. a - 32) kept.address in
    let size : c.read_size-size.result ≡ (object_at c.requires.1 c.requires.2).size =
    c.read_size-size.ensures.size ∙ ap (λ (m : Memory). word m.bytes (c.args.target - 32 + 8) 4) c.self.view_is ∙ ap (λ a. word c.args.self.now.bytes (a + 8) 4) place ∙ old.header.size in
    (c.requires.0, c.requires.1, c.requires.2, kept, size)

pub loop-granule-preserved : goal.loop-granule-preserved
loop-granule-preserved g c = λ places objects birth kept.
    let shape = subst (IsMemory c.self.inside.locals_from c.self.inside.heap_from) c.self.view_is c.self.invariant in
    let old = kept.keeps.standing birth kept.there in
    let place : c.args.target - 32 ≡ places birth - 32 = ap (λ a. a - 32) kept.address in
    let size : c.read_size-size.result ≡ (object_at objects birth).size =
    c.read_size-size.ensures.size ∙ ap (λ (m : Memory). word m.bytes (c.args.target - 32 + 8) 4) c.self.view_is ∙ ap (λ a. word c.args.self.now.bytes (a + 8) 4) place ∙ old.header.size in
    subst (IsFirstSoFar places objects birth (16 * (c.loop-granule.granule + 1))) (sym c.older-first.ensures)
    (first_more c.self.inside.locals_from c.self.inside.heap_from c.args.self.now shape places objects kept.keeps birth c.loop-granule.granule c.loop-granule.first c.holding_at-found.result
    (c.loop-granule.invariant places objects birth kept) (c.holding_at-found.ensures places objects birth kept size))

pub returns-clause-first : goal.returns-clause-first
returns-clause-first g c = λ places objects birth queue kept are.
    let shape = subst (IsMemory c.self.inside.locals_from c.self.inside.heap_from) c.self.view_is c.self.invariant in
    let end : end_of c.self.inside.heap ≡ end_of c.args.self.now.heap = ap (λ (m : Memory). end_of m.heap) c.self.view_is in
    first_is objects birth queue are c.loop-granule.first places (16 * c.loop-granule.granule)
    (λ b there. all_below c.self.inside.locals_from c.self.inside.heap_from c.args.self.now shape places objects kept.keeps birth b c.loop-granule.granule there (omega (arith, c.end-granule-end.ensures)))
    (c.loop-granule.invariant places objects birth kept)

pub returns-clause-inside : goal.returns-clause-inside
returns-clause-inside g c = λ places objects birth kept.
    found_inside places objects birth (16 * c.loop-granule.granule) c.loop-granule.first (c.loop-granule.invariant places objects birth kept)
