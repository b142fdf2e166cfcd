use Rattle.std.proofs.Common.{◌≤◌, ◌<◌, ℕ, List, [], ◌∷◌, length, get_or, sym, ap, subst, arith}
use Rattle.std.proofs.lemmas.List.{take_all}
use Rattle.adjusters.specs.ObjectSlots.{object_slots}
use Rattle.delay_scopes.specs.Pointers.{LowersBy, into_granule, words_in}
use Rattle.delay_scopes.proofs.Lowering.{covers_next, lowers_more}
use Rattle.delay_scopes.proofs.Wording.{length-words, slots_by, word_is}
use Rattle.delay_scopes.proofs.checking.take_off_object.Goals as goal

pub take_off-requires-clause-covered : goal.take_off-requires-clause-covered
take_off-requires-clause-covered g c =
    let forms = c.args.forms.now in
    let bytes = c.args.bytes.now in
    let form = c.in-Some.form.now in
    let layout = c.read_layout-layout.result in
    let size = c.read_size-size.result in
    let words = words_in forms bytes c.args.addr in
    let below : c.loop-k.k < length (object_slots form size) = omega (arith, c.count-k-end.ensures, c.loop-k-test.true) in
    let same = word_is forms bytes c.args.addr layout size form c.read_layout-layout.ensures.layout c.read_size-size.ensures.size c.in-Some.ensures.item c.loop-k.k c.slot.result below c.slot.ensures.slot in
    let within : c.loop-k.k < length words = omega (arith, length-words forms bytes c.args.addr layout size form c.read_layout-layout.ensures.layout c.read_size-size.ensures.size c.in-Some.ensures.item) in
    subst (λ (w : ℕ). (granule : ℕ) → into_granule granule (w ∷ []) ≤ get_or c.loop-k.counts.counts granule 0) same
    (covers_next words c.loop-k.k c.args.counts.now c.loop-k.counts within c.requires.covered c.loop-k.invariant.lowered)

pub loop-k-preserved : goal.loop-k-preserved
loop-k-preserved g c =
    let forms = c.args.forms.now in
    let bytes = c.args.bytes.now in
    let form = c.in-Some.form.now in
    let layout = c.read_layout-layout.result in
    let size = c.read_size-size.result in
    let words = words_in forms bytes c.args.addr in
    let below : c.loop-k.k < length (object_slots form size) = omega (arith, c.count-k-end.ensures, c.loop-k-test.true) in
    let same = word_is forms bytes c.args.addr layout size form c.read_layout-layout.ensures.layout c.read_size-size.ensures.size c.in-Some.ensures.item c.loop-k.k c.slot.result below c.slot.ensures.slot in
    let within : c.loop-k.k < length words = omega (arith, length-words forms bytes c.args.addr layout size form c.read_layout-layout.ensures.layout c.read_size-size.ensures.size c.in-Some.ensures.item) in
    record {
      lowered = lowers_more words c.loop-k.k c.args.counts.now c.loop-k.counts c.take_off.new.counts within c.loop-k.invariant.lowered (subst (λ (w : ℕ). LowersBy (w ∷ []) c.loop-k.counts c.take_off.new.counts) (sym same) c.take_off.ensures.counts);
      work = omega (arith, c.take_off.ensures.work, c.loop-k.invariant.work);
    }

pub returns-clause-counts : goal.returns-clause-counts
returns-clause-counts g c =
    let forms = c.args.forms.now in
    let bytes = c.args.bytes.now in
    let words = words_in forms bytes c.args.addr in
    let all : length words ≤ c.loop-k.k =
    omega (arith, length-words forms bytes c.args.addr c.read_layout-layout.result c.read_size-size.result c.in-Some.form.now c.read_layout-layout.ensures.layout c.read_size-size.ensures.size c.in-Some.ensures.item, c.count-k-end.ensures, c.loop-k-test.false) in
    subst (λ (l : List ℕ). LowersBy l c.args.counts.now c.loop-k.counts) (take_all c.loop-k.k words all) c.loop-k.invariant.lowered

pub returns-clause-work : goal.returns-clause-work
returns-clause-work g c =
    let slots = slots_by c.args.forms.now c.args.bytes.now c.args.addr c.read_layout-layout.result c.read_size-size.result c.in-Some.form.now c.read_layout-layout.ensures.layout c.read_size-size.ensures.size c.in-Some.ensures.item in
    omega (arith, ap length slots, c.count-k-end.ensures, c.loop-k.auto, c.loop-k.invariant.work, c.read_size-size.ensures.steps, c.read_layout-layout.ensures.steps)
