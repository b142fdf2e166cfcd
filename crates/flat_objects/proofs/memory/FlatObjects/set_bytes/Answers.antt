use Rattle.flat_objects.specs.Memory.{Memory}
use Rattle.flat_objects.proofs.RangesDone.{asks_covered, set_leaves}
use Rattle.flat_objects.proofs.RangesMeant.{refused_stays, set_refused}
use Rattle.flat_objects.proofs.memory.FlatObjects.set_bytes.Goals as goal

pub returns-in_err-dst-clause-tracks : goal.returns-in_err-dst-clause-tracks
returns-in_err-dst-clause-tracks g c = λ places objects p at after frees meant tracks.
    refused_stays c.args.self.now c.args.self.now places objects _ _ (set_refused objects p c.args.byte c.args.n _ c.if-n-eq0.false (c.in_err-dst.ensures.tries places objects p at)) after frees meant tracks

pub clear-requires-clause-covered : goal.clear-requires-clause-covered
clear-requires-clause-covered g c =
    let k = c.requires in
    let memory : Memory = record { bytes = c.self.inside.bytes; statics = c.self.inside.statics; locals = c.self.inside.locals; heap = c.self.inside.heap; counts = c.self.inside.counts; scopes = c.self.inside.scopes; forms = c.self.inside.forms; marks = c.self.inside.marks } in
    asks_covered c.self.inside.locals_from c.self.inside.heap_from memory c.args.self.now c.self.view_is c.self.invariant c.in_ok-dst.dst c.args.addr (λ places objects p at. (c.in_ok-dst.ensures.tries places objects p at).0) k.0 k.1 k.3 k.4.at k.2 k.4.tracks

pub returns-clause-changes : goal.returns-clause-changes
returns-clause-changes g c = λ places objects p at.
    let memory : Memory = record { bytes = c.self.inside.bytes; statics = c.self.inside.statics; locals = c.self.inside.locals; heap = c.self.inside.heap; counts = c.self.inside.counts; scopes = c.self.inside.scopes; forms = c.self.inside.forms; marks = c.self.inside.marks } in
    (set_leaves c.self.inside.locals_from c.self.inside.heap_from memory c.args.self.now c.self.view_is c.self.invariant c.in_ok-dst.dst c.args.byte c.args.n c.clear.new.bytes c.clear.new.counts c.clear.result c.args.addr
    (λ places objects p at. (c.in_ok-dst.ensures.tries places objects p at).0) c.in_ok-dst.ensures.inside.1 c.if-n-eq0.false
    (record { answers = c.clear.ensures.answers; made = c.clear.ensures.cleared; refused = c.clear.ensures.refused }) places objects p at).0

pub returns-clause-tracks : goal.returns-clause-tracks
returns-clause-tracks g c = λ places objects p at.
    let memory : Memory = record { bytes = c.self.inside.bytes; statics = c.self.inside.statics; locals = c.self.inside.locals; heap = c.self.inside.heap; counts = c.self.inside.counts; scopes = c.self.inside.scopes; forms = c.self.inside.forms; marks = c.self.inside.marks } in
    (set_leaves c.self.inside.locals_from c.self.inside.heap_from memory c.args.self.now c.self.view_is c.self.invariant c.in_ok-dst.dst c.args.byte c.args.n c.clear.new.bytes c.clear.new.counts c.clear.result c.args.addr
    (λ places objects p at. (c.in_ok-dst.ensures.tries places objects p at).0) c.in_ok-dst.ensures.inside.1 c.if-n-eq0.false
    (record { answers = c.clear.ensures.answers; made = c.clear.ensures.cleared; refused = c.clear.ensures.refused }) places objects p at).1
