use Rattle.std.proofs.Common.{refl, sym}
use Rattle.std.specs.Prelude.{slice_index}
use Rattle.flat_machine.proofs.Started.{bytes_are, bytes_tracked, next_started, taking, taking_pointers}
use Rattle.flat_machine.proofs.statics.start_static.Goals as goal

pub start_bytes-requires : goal.start_bytes-requires
start_bytes-requires g c =
    taking c.args.code.now c.requires.formed c.args.objects.now c.args.addrs.now c.args.k c.requires.started c.in-Some.start.now (sym c.in-Some.ensures.item) (slice_index c.args.addrs.now c.args.k) refl c.as_slice.result.now c.as_slice.ensures

pub start_pointers-requires : goal.start_pointers-requires
start_pointers-requires g c =
    let addr = slice_index c.args.addrs.now c.args.k in
    let written = bytes_are c.args.code.now c.requires.formed c.args.objects.now c.args.addrs.now c.args.k c.requires.started c.in-Some.start.now (sym c.in-Some.ensures.item) addr refl c.as_slice.result.now c.as_slice.ensures c.start_bytes.new.self c.start_bytes.ensures.changes in
    let tracked = bytes_tracked c.args.code.now c.requires.formed c.args.objects.now c.args.addrs.now c.args.k c.requires.started c.in-Some.start.now (sym c.in-Some.ensures.item) addr refl c.as_slice.result.now c.as_slice.ensures c.start_bytes.new.self c.start_bytes.ensures.tracks in
    taking_pointers c.args.code.now c.requires.formed c.args.objects.now c.args.addrs.now c.args.k c.requires.started c.in-Some.start.now (sym c.in-Some.ensures.item) addr refl c.start_bytes.new.self written c.as_slice-2.result.now c.as_slice-2.ensures tracked

pub returns-clause-started : goal.returns-clause-started
returns-clause-started g c =
    let addr = slice_index c.args.addrs.now c.args.k in
    let written = bytes_are c.args.code.now c.requires.formed c.args.objects.now c.args.addrs.now c.args.k c.requires.started c.in-Some.start.now (sym c.in-Some.ensures.item) addr refl c.as_slice.result.now c.as_slice.ensures c.start_bytes.new.self c.start_bytes.ensures.changes in
    let tracked = bytes_tracked c.args.code.now c.requires.formed c.args.objects.now c.args.addrs.now c.args.k c.requires.started c.in-Some.start.now (sym c.in-Some.ensures.item) addr refl c.as_slice.result.now c.as_slice.ensures c.start_bytes.new.self c.start_bytes.ensures.tracks in
    next_started c.args.code.now c.requires.formed c.args.objects.now c.args.addrs.now c.args.k c.requires.started c.in-Some.start.now (sym c.in-Some.ensures.item) addr refl c.start_bytes.new.self written c.as_slice-2.result.now c.as_slice-2.ensures c.start_pointers.new.self tracked c.start_pointers.ensures.changes c.start_pointers.ensures.tracks
