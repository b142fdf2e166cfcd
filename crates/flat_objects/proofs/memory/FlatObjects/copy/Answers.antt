use Rattle.std.proofs.Common.{◌∙◌, List, refl, subst}
use Rattle.std.proofs.lemmas.Result.{err_from_is_err_and}
use Rattle.hs_base.specs.Object.{Object}
use Rattle.typed_copies.specs.CopyingEquations.{copy_of_none, range_inside}
use Rattle.flat_objects.specs.Memory.{Memory}
use Rattle.flat_objects.specs.Counting.{Tracks}
use Rattle.flat_objects.proofs.RangesDone.{asks_covered, asks_pointers, asks_room, copy_leaves}
use Rattle.flat_objects.proofs.RangesMeant.{changed_none, copied_is, dst_refused, refused_stays, src_refused}
use Rattle.flat_objects.proofs.Stored.{same_after}
use Rattle.flat_objects.proofs.memory.FlatObjects.copy.Goals as goal

pub returns-then-n-eq0-clause-changes : goal.returns-then-n-eq0-clause-changes
returns-then-n-eq0-clause-changes g c = λ places objects p q at stands. (
  objects,
  copied_is c.args.self.now places objects at.keeps p q c.args.from stands c.args.n ∙ copy_of_none objects p q c.args.n c.if-n-eq0.true,
  changed_none c.args.self.now places objects at.keeps,
)

pub returns-then-n-eq0-clause-tracks : goal.returns-then-n-eq0-clause-tracks
returns-then-n-eq0-clause-tracks g c = λ places objects p q at stands after frees meant tracks.
    let none = copied_is c.args.self.now places objects at.keeps p q c.args.from stands c.args.n ∙ copy_of_none objects p q c.args.n c.if-n-eq0.true in
    subst (λ (a : List Object). Tracks c.args.self.now places a frees) (same_after objects after none meant) tracks

pub returns-in_err-dst-clause-tracks : goal.returns-in_err-dst-clause-tracks
returns-in_err-dst-clause-tracks g c = λ places objects p q at stands after frees meant tracks.
    refused_stays c.args.self.now c.args.self.now places objects _ _ (dst_refused objects p q c.args.n _ c.if-n-eq0.false (c.in_err-dst.ensures.tries places objects p at)) after frees meant tracks

pub returns-in_err-src-clause-changes : goal.returns-in_err-src-clause-changes
returns-in_err-src-clause-changes g c = λ places objects p q at stands.
    let r = err_from_is_err_and c.from_residual-in_err-src.result c.from_residual-in_err-src.ensures.1 in
    let dst = c.in_ok-dst.ensures.tries places objects p at in
    let src = c.in_err-src.ensures.tries places objects q (record { keeps = at.keeps; stands = stands }) in
    rw (r.1, r.2) (src_refused objects p q c.args.n _ _ c.if-n-eq0.false (range_inside c.args.self.now.forms objects p c.in_ok-dst.dst c.args.n dst.0.lies dst.1) src, refl)

pub returns-in_err-src-clause-tracks : goal.returns-in_err-src-clause-tracks
returns-in_err-src-clause-tracks g c = λ places objects p q at stands after frees meant tracks.
    let dst = c.in_ok-dst.ensures.tries places objects p at in
    let src = c.in_err-src.ensures.tries places objects q (record { keeps = at.keeps; stands = stands }) in
    refused_stays c.args.self.now c.args.self.now places objects _ _ (src_refused objects p q c.args.n _ _ c.if-n-eq0.false (range_inside c.args.self.now.forms objects p c.in_ok-dst.dst c.args.n dst.0.lies dst.1) src) after frees meant tracks

pub copy-requires-clause-pointers : goal.copy-requires-clause-pointers
copy-requires-clause-pointers g c =
    let k = c.requires in
    let memory : Memory = record { bytes = c.self.inside.bytes; statics = c.self.inside.statics; locals = c.self.inside.locals; heap = c.self.inside.heap; counts = c.self.inside.counts; scopes = c.self.inside.scopes; forms = c.self.inside.forms; marks = c.self.inside.marks } in
    asks_pointers c.self.inside.locals_from c.self.inside.heap_from memory c.args.self.now c.self.view_is c.self.invariant c.in_ok-src.src c.args.from (λ places objects p at. (c.in_ok-src.ensures.tries places objects p at).0) k.0 k.1 k.4 (record { keeps = k.5.at.keeps; stands = k.5.stands })

pub copy-requires-clause-covered : goal.copy-requires-clause-covered
copy-requires-clause-covered g c =
    let k = c.requires in
    let memory : Memory = record { bytes = c.self.inside.bytes; statics = c.self.inside.statics; locals = c.self.inside.locals; heap = c.self.inside.heap; counts = c.self.inside.counts; scopes = c.self.inside.scopes; forms = c.self.inside.forms; marks = c.self.inside.marks } in
    asks_covered c.self.inside.locals_from c.self.inside.heap_from memory c.args.self.now c.self.view_is c.self.invariant c.in_ok-dst.dst c.args.to (λ places objects p at. (c.in_ok-dst.ensures.tries places objects p at).0) k.0 k.1 k.3 k.5.at k.2 k.5.tracks

pub copy-requires-clause-room : goal.copy-requires-clause-room
copy-requires-clause-room g c =
    let k = c.requires in
    let memory : Memory = record { bytes = c.self.inside.bytes; statics = c.self.inside.statics; locals = c.self.inside.locals; heap = c.self.inside.heap; counts = c.self.inside.counts; scopes = c.self.inside.scopes; forms = c.self.inside.forms; marks = c.self.inside.marks } in
    asks_room c.self.inside.locals_from c.self.inside.heap_from memory c.args.self.now c.self.view_is c.self.invariant c.in_ok-dst.dst c.args.to (λ places objects p at. (c.in_ok-dst.ensures.tries places objects p at).0) k.0 k.1 k.3 k.5.at k.2 k.5.tracks c.in_ok-src.src c.args.n

pub returns-clause-changes : goal.returns-clause-changes
returns-clause-changes g c = λ places objects p q at stands.
    let memory : Memory = record { bytes = c.self.inside.bytes; statics = c.self.inside.statics; locals = c.self.inside.locals; heap = c.self.inside.heap; counts = c.self.inside.counts; scopes = c.self.inside.scopes; forms = c.self.inside.forms; marks = c.self.inside.marks } in
    (copy_leaves c.self.inside.locals_from c.self.inside.heap_from memory c.args.self.now c.self.view_is c.self.invariant c.in_ok-dst.dst c.in_ok-src.src c.args.n c.copy.new.bytes c.copy.new.counts c.copy.result c.args.to c.args.from
    (λ places objects p at. (c.in_ok-dst.ensures.tries places objects p at).0) (λ places objects p at. (c.in_ok-src.ensures.tries places objects p at).0) c.in_ok-dst.ensures.inside.1 c.in_ok-src.ensures.inside.1
    (record { answers = c.copy.ensures.answers; made = c.copy.ensures.copied; refused = c.copy.ensures.refused }) places objects p q at stands).0

pub returns-clause-tracks : goal.returns-clause-tracks
returns-clause-tracks g c = λ places objects p q at stands.
    let memory : Memory = record { bytes = c.self.inside.bytes; statics = c.self.inside.statics; locals = c.self.inside.locals; heap = c.self.inside.heap; counts = c.self.inside.counts; scopes = c.self.inside.scopes; forms = c.self.inside.forms; marks = c.self.inside.marks } in
    (copy_leaves c.self.inside.locals_from c.self.inside.heap_from memory c.args.self.now c.self.view_is c.self.invariant c.in_ok-dst.dst c.in_ok-src.src c.args.n c.copy.new.bytes c.copy.new.counts c.copy.result c.args.to c.args.from
    (λ places objects p at. (c.in_ok-dst.ensures.tries places objects p at).0) (λ places objects p at. (c.in_ok-src.ensures.tries places objects p at).0) c.in_ok-dst.ensures.inside.1 c.in_ok-src.ensures.inside.1
    (record { answers = c.copy.ensures.answers; made = c.copy.ensures.copied; refused = c.copy.ensures.refused }) places objects p q at stands).1
