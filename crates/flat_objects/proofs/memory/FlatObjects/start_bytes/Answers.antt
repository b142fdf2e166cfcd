use Rattle.std.proofs.Common.{ℕ, sym, subst}
use Rattle.flat_objects.specs.Memory.{Memory}
use Rattle.flat_objects.specs.Counting.{Tracks}
use Rattle.flat_objects.specs.Starting.{IsWritten, TakesBytes}
use Rattle.flat_objects.proofs.Started.{taken_inside, taken_small, bytes_started, bytes_tracked}
use Rattle.flat_objects.proofs.Frames.{frame_bytes}
use Rattle.flat_objects.proofs.memory.FlatObjects.start_bytes.Goals as goal

pub write_bytes-requires-clause-inside : goal.write_bytes-requires-clause-inside
write_bytes-requires-clause-inside g c =
    let k = c.requires in
    let memory : Memory = record { bytes = c.self.inside.bytes; statics = c.self.inside.statics; locals = c.self.inside.locals; heap = c.self.inside.heap; counts = c.self.inside.counts; scopes = c.self.inside.scopes; forms = c.self.inside.forms; marks = c.self.inside.marks } in
    let takes = subst (λ (m : Memory). TakesBytes m k.0 k.1 k.2 c.args.addr c.args.bytes.now) (sym c.self.view_is) k.3 in
    taken_inside c.self.inside.locals_from c.self.inside.heap_from memory c.self.invariant k.0 k.1 k.2 c.args.addr c.args.bytes.now takes

pub write_bytes-requires-clause-fits : goal.write_bytes-requires-clause-fits
write_bytes-requires-clause-fits g c =
    let k = c.requires in
    let memory : Memory = record { bytes = c.self.inside.bytes; statics = c.self.inside.statics; locals = c.self.inside.locals; heap = c.self.inside.heap; counts = c.self.inside.counts; scopes = c.self.inside.scopes; forms = c.self.inside.forms; marks = c.self.inside.marks } in
    let takes = subst (λ (m : Memory). TakesBytes m k.0 k.1 k.2 c.args.addr c.args.bytes.now) (sym c.self.view_is) k.3 in
    taken_small c.self.inside.locals_from c.self.inside.heap_from memory c.self.invariant k.0 k.1 k.2 c.args.addr c.args.bytes.now takes

pub returns-clause-changes : goal.returns-clause-changes
returns-clause-changes g c = λ places objects birth told.
    let memory : Memory = record { bytes = c.self.inside.bytes; statics = c.self.inside.statics; locals = c.self.inside.locals; heap = c.self.inside.heap; counts = c.self.inside.counts; scopes = c.self.inside.scopes; forms = c.self.inside.forms; marks = c.self.inside.marks } in
    let takes = subst (λ (m : Memory). TakesBytes m places objects birth c.args.addr c.args.bytes.now) (sym c.self.view_is) told in
    let written = subst (λ (a : ℕ). IsWritten memory.bytes c.write_bytes.new.memory a c.args.bytes.now) takes.address c.write_bytes.ensures in
    bytes_started c.self.inside.locals_from c.self.inside.heap_from memory c.self.invariant places objects birth c.args.addr c.args.bytes.now takes c.write_bytes.new.memory written

pub returns-clause-tracks : goal.returns-clause-tracks
returns-clause-tracks g c = λ places objects birth frees told tracks.
    let memory : Memory = record { bytes = c.self.inside.bytes; statics = c.self.inside.statics; locals = c.self.inside.locals; heap = c.self.inside.heap; counts = c.self.inside.counts; scopes = c.self.inside.scopes; forms = c.self.inside.forms; marks = c.self.inside.marks } in
    let takes = subst (λ (m : Memory). TakesBytes m places objects birth c.args.addr c.args.bytes.now) (sym c.self.view_is) told in
    let written = subst (λ (a : ℕ). IsWritten memory.bytes c.write_bytes.new.memory a c.args.bytes.now) takes.address c.write_bytes.ensures in
    bytes_tracked c.self.inside.locals_from c.self.inside.heap_from memory c.self.invariant places objects birth c.args.addr c.args.bytes.now takes c.write_bytes.new.memory written
    frees (subst (λ (m : Memory). Tracks m places objects frees) (sym c.self.view_is) tracks)

pub returns-clause-frame : goal.returns-clause-frame
returns-clause-frame g c =
    let memory : Memory = record { bytes = c.self.inside.bytes; statics = c.self.inside.statics; locals = c.self.inside.locals; heap = c.self.inside.heap; counts = c.self.inside.counts; scopes = c.self.inside.scopes; forms = c.self.inside.forms; marks = c.self.inside.marks } in
    frame_bytes memory c.args.self.now c.write_bytes.new.memory c.self.view_is c.write_bytes.ensures.changes.long
