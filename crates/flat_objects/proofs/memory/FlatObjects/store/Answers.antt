use Rattle.std.proofs.Common.{◌≡◌, ◌*◌, ◌∙◌, ℕ, List, ap, sym, subst, rules}
use Rattle.std.proofs.lemmas.Int.{to_z-of_z}
use mir.Syntax.{w128}
use mir.Val.{SFits}
use Rattle.hs_base.specs.Access.{access_integer}
use Rattle.byte_memory.specs.Bytes.{put_word}
use Rattle.hs_base.specs.Numbers.{width, low_bits}
use Rattle.hs_base.specs.Object.{Object}
use Rattle.flat_objects.specs.Memory.{Memory}
use Rattle.flat_objects.specs.Keeping.{KeepsAt}
use Rattle.flat_objects.specs.Answering.{IsChanged}
use Rattle.flat_objects.specs.Counting.{Tracks}
use Rattle.flat_objects.proofs.Changing.{with_bytes}
use Rattle.flat_objects.proofs.Stored.{same_after, stored_is}
use Rattle.flat_objects.proofs.Frames.{frame_bytes}
use Rattle.flat_objects.proofs.memory.FlatObjects.store.Goals as goal

pub returns-clause-changes : goal.returns-clause-changes
returns-clause-changes g c = λ places objects p at.
    let memory : Memory = record { bytes = c.self.inside.bytes; statics = c.self.inside.statics; locals = c.self.inside.locals; heap = c.self.inside.heap; counts = c.self.inside.counts; scopes = c.self.inside.scopes; forms = c.self.inside.forms; marks = c.self.inside.marks } in
    let same : memory ≡ c.args.self.now = c.self.view_is in
    let before = subst (λ (m : Memory). KeepsAt m places objects p c.args.addr) (sym same) at in
    let allowed = c.in_ok-access_integer.ensures.allows places objects p at in
    let width_is : c.bytes-width.result ≡ width c.args.kind = c.bytes-width.ensures in
    let fits : SFits w128 c.args.n = search rules in
    let low : c.low_bits.result ≡ low_bits (8 * width c.args.kind) c.args.n = c.low_bits.ensures.value ∙ ap (low_bits (8 * width c.args.kind)) (to_z-of_z w128 c.args.n fits) in
    let told = stored_is c.self.inside.locals_from c.self.inside.heap_from memory c.self.invariant places objects p c.args.addr before c.args.kind allowed.0 c.low_bits.result c.args.n
    (ap (access_integer objects p) (sym width_is) ∙ allowed.1) low in
    let bytes : c.write.new.self ≡ put_word memory.bytes c.args.addr (width c.args.kind) c.low_bits.result =
    c.write.ensures.value ∙ ap (λ n. put_word memory.bytes c.args.addr n c.low_bits.result) width_is in
    (told.after, told.means, subst (λ (b : List ℕ). IsChanged (with_bytes memory b) places objects told.after) (sym bytes) told.change)

pub returns-clause-tracks : goal.returns-clause-tracks
returns-clause-tracks g c = λ places objects p at after frees meant tracks.
    let memory : Memory = record { bytes = c.self.inside.bytes; statics = c.self.inside.statics; locals = c.self.inside.locals; heap = c.self.inside.heap; counts = c.self.inside.counts; scopes = c.self.inside.scopes; forms = c.self.inside.forms; marks = c.self.inside.marks } in
    let same : memory ≡ c.args.self.now = c.self.view_is in
    let before = subst (λ (m : Memory). KeepsAt m places objects p c.args.addr) (sym same) at in
    let allowed = c.in_ok-access_integer.ensures.allows places objects p at in
    let width_is : c.bytes-width.result ≡ width c.args.kind = c.bytes-width.ensures in
    let fits : SFits w128 c.args.n = search rules in
    let low : c.low_bits.result ≡ low_bits (8 * width c.args.kind) c.args.n = c.low_bits.ensures.value ∙ ap (low_bits (8 * width c.args.kind)) (to_z-of_z w128 c.args.n fits) in
    let told = stored_is c.self.inside.locals_from c.self.inside.heap_from memory c.self.invariant places objects p c.args.addr before c.args.kind allowed.0 c.low_bits.result c.args.n
    (ap (access_integer objects p) (sym width_is) ∙ allowed.1) low in
    let bytes : c.write.new.self ≡ put_word memory.bytes c.args.addr (width c.args.kind) c.low_bits.result =
    c.write.ensures.value ∙ ap (λ n. put_word memory.bytes c.args.addr n c.low_bits.result) width_is in
    let is_after : told.after ≡ after = same_after told.after after told.means meant in
    subst (λ (a : List Object). Tracks (with_bytes memory c.write.new.self) places a frees) is_after
    (subst (λ (b : List ℕ). Tracks (with_bytes memory b) places told.after frees) (sym bytes) (told.tracks frees (subst (λ (m : Memory). Tracks m places objects frees) (sym same) tracks)))

pub returns-clause-frame : goal.returns-clause-frame
returns-clause-frame g c =
    let memory : Memory = record { bytes = c.self.inside.bytes; statics = c.self.inside.statics; locals = c.self.inside.locals; heap = c.self.inside.heap; counts = c.self.inside.counts; scopes = c.self.inside.scopes; forms = c.self.inside.forms; marks = c.self.inside.marks } in
    frame_bytes memory c.args.self.now c.write.new.self c.self.view_is c.write.ensures.len
