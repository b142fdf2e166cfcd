use Rattle.std.proofs.Common.{[], ap, subst, sym, ◌∙◌}
use Rattle.hs_base.specs.declared.ends.End.TheVariants as end
use Rattle.hs_base.specs.Freeing.{buried}
use Rattle.object_meaning.specs.code.Checking.{checked}
use Rattle.flat_objects.specs.Counting.{Frees}
use Rattle.flat_machine.specs.Kept.{Kept, gone_on, pins_of}
use Rattle.flat_machine.specs.Standing.{frees_of, pinned_in}
use Rattle.flat_machine.specs.Loaded.{HasPins}
use Rattle.flat_machine.specs.Pinning.{DoesCount, IsCounted, NamesHeld}
use Rattle.flat_machine.specs.Image.{StopsIn}
use Rattle.flat_machine.proofs.Halted.{decided_last, uncounted_image}
use Rattle.flat_machine.proofs.Pins.{may_count}
use Rattle.flat_machine.proofs.Placing.{frame_more}
use Rattle.flat_machine.proofs.Checked.{all_counted, counted_closed, check_goes, names_held, check_fails, may_close}
use Rattle.flat_machine.proofs.Frees.{same_but}
use Rattle.flat_machine.proofs.state.State.check.Goals as goal

pub pin-requires : goal.pin-requires
pin-requires g c =
    let q = c.requires.standing in
    let m = c.args.self.now in
    (q.0, q.1.state.objects, frees_of m.pins q.1, pinned_in m.pins q.1.state.running, may_count q.0 q.1 m q.2.stands q.2.counts.pinned q.2.room)

pub close_scope-requires : goal.close_scope-requires
close_scope-requires g c =
    let q = c.requires.standing in
    let m = c.args.self.now in
    let h = q.2.stands in
    let may = may_count q.0 q.1 m h q.2.counts.pinned q.2.room in
    let keeps = c.pin.ensures.keeps q.0 q.1.state.objects h.keeps in
    let tracks = c.pin.ensures.tracks q.0 q.1.state.objects (frees_of m.pins q.1) (pinned_in m.pins q.1.state.running) may in
    (q.0, q.1.state.objects, all_counted m.pins q.1, may_close q.0 q.1 m h c.requires.open c.pin.new.self.memory keeps tracks)

pub unpin-requires : goal.unpin-requires
unpin-requires g c =
    let q = c.requires.standing in
    let m = c.args.self.now in
    let h = q.2.stands in
    let own = pinned_in m.pins q.1.state.running in
    let may = may_count q.0 q.1 m h q.2.counts.pinned q.2.room in
    let keeps = c.pin.ensures.keeps q.0 q.1.state.objects h.keeps in
    let tracks = c.pin.ensures.tracks q.0 q.1.state.objects (frees_of m.pins q.1) own may in
    let may_leave = may_close q.0 q.1 m h c.requires.open c.pin.new.self.memory keeps tracks in
    let answer = c.in-Ok.ensures.outermost q.0 q.1.state.objects (all_counted m.pins q.1) may_leave (sym h.tracks.open_scopes ∙ c.requires.open) in
    let closed = same_but m c.pin.new.self c.close_scope.new.self c.pin.ensures.others c.in-Ok.ensures.others in
    let frees : Frees = record (all_counted m.pins q.1) { queue = []; scopes = 0 } in
    let does = counted_closed q.0 q.1 m h q.2.counts c.pin.new.self.memory c.close_scope.new.self.memory answer.1 in
    subst (λ (k : Kept). IsCounted k.memory k.calls.running.words (pins_of k.pins k.calls.running)) (sym closed) (q.0, buried q.1.state.objects, frees, own, (frees_of m.pins q.1).pins, does)

pub first_holder-requires : goal.first_holder-requires
first_holder-requires g c =
    let q = c.requires.standing in
    let m = c.args.self.now in
    let h = q.2.stands in
    let own = pinned_in m.pins q.1.state.running in
    let may = may_count q.0 q.1 m h q.2.counts.pinned q.2.room in
    let keeps = c.pin.ensures.keeps q.0 q.1.state.objects h.keeps in
    let tracks = c.pin.ensures.tracks q.0 q.1.state.objects (frees_of m.pins q.1) own may in
    let may_leave = may_close q.0 q.1 m h c.requires.open c.pin.new.self.memory keeps tracks in
    let answer = c.in-Err.ensures.outermost q.0 q.1.state.objects (all_counted m.pins q.1) may_leave (sym h.tracks.open_scopes ∙ c.requires.open) in
    let closed = same_but m c.pin.new.self c.close_scope.new.self c.pin.ensures.others c.in-Err.ensures.others in
    let names = names_held q.0 q.1 m h q.2.counts c.pin.new.self.memory c.close_scope.new.self.memory tracks c.in-Err.bad answer in
    (q.0, q.1, answer.0, subst (NamesHeld q.0 q.1 answer.0) (sym closed) names)

pub returns-in-Ok-clause-checks : goal.returns-in-Ok-clause-checks
returns-in-Ok-clause-checks g c = λ code first before places s has h counts.
    let m = c.args.self.now in
    let own = pinned_in m.pins s.state.running in
    let may = may_count places s m h counts.pinned c.requires.standing.2.room in
    let keeps = c.pin.ensures.keeps places s.state.objects h.keeps in
    let tracks = c.pin.ensures.tracks places s.state.objects (frees_of m.pins s) own may in
    let may_leave = may_close places s m h c.requires.open c.pin.new.self.memory keeps tracks in
    let answer = c.in-Ok.ensures.outermost places s.state.objects (all_counted m.pins s) may_leave (sym h.tracks.open_scopes ∙ c.requires.open) in
    let closed = same_but m c.pin.new.self c.close_scope.new.self c.pin.ensures.others c.in-Ok.ensures.others in
    let others = (frees_of m.pins s).pins in
    let frees : Frees = record (all_counted m.pins s) { queue = []; scopes = 0 } in
    let counted = counted_closed places s m h counts c.pin.new.self.memory c.close_scope.new.self.memory answer.1 in
    let does = subst (λ (k : Kept). DoesCount k.memory places (buried s.state.objects) frees k.calls.running.words (pins_of k.pins k.calls.running) own others) (sym closed) counted in
    let kept = c.unpin.ensures.keeps places (buried s.state.objects) answer.1.keeps in
    let left = c.unpin.ensures.tracks places (buried s.state.objects) frees own others does in
    let closed_frame = frame_more m.memory c.pin.new.self.memory c.close_scope.new.self.memory c.pin.ensures.frame c.in-Ok.ensures.frame in
    let framed = frame_more m.memory c.close_scope.new.self.memory c.unpin.new.self.memory closed_frame c.unpin.ensures.frame in
    let unpinned = same_but m c.close_scope.new.self c.unpin.new.self closed c.unpin.ensures.others in
    check_goes places s m h counts c.pin.new.self.memory c.close_scope.new.self.memory answer.1 c.unpin.new.self.memory kept left c.pin.ensures.frame framed closed_frame code first before has answer.0 c.go_on.new.self (c.go_on.ensures ∙ ap gone_on unpinned)

pub returns-in-Err-clause-checks : goal.returns-in-Err-clause-checks
returns-in-Err-clause-checks g c = λ code first before places s has h counts.
    let m = c.args.self.now in
    let own = pinned_in m.pins s.state.running in
    let may = may_count places s m h counts.pinned c.requires.standing.2.room in
    let keeps = c.pin.ensures.keeps places s.state.objects h.keeps in
    let tracks = c.pin.ensures.tracks places s.state.objects (frees_of m.pins s) own may in
    let may_leave = may_close places s m h c.requires.open c.pin.new.self.memory keeps tracks in
    let answer = c.in-Err.ensures.outermost places s.state.objects (all_counted m.pins s) may_leave (sym h.tracks.open_scopes ∙ c.requires.open) in
    let closed = same_but m c.pin.new.self c.close_scope.new.self c.pin.ensures.others c.in-Err.ensures.others in
    let names = subst (NamesHeld places s answer.0) (sym closed) (names_held places s m h counts c.pin.new.self.memory c.close_scope.new.self.memory tracks c.in-Err.bad answer) in
    let has_closed = subst (λ (k : Kept). HasPins code k.pins) (sym closed) has in
    check_fails places s m h counts c.pin.new.self.memory c.close_scope.new.self.memory tracks c.in-Err.bad answer code first before has c.close_scope.new.self c.first_holder.result (c.first_holder.ensures code places s answer.0 has_closed names)

pub returns-in-Err-clause-image : goal.returns-in-Err-clause-image
returns-in-Err-clause-image g c = λ code first before places s has h counts.
    let m = c.args.self.now in
    let own = pinned_in m.pins s.state.running in
    let may = may_count places s m h counts.pinned c.requires.standing.2.room in
    let keeps = c.pin.ensures.keeps places s.state.objects h.keeps in
    let tracks = c.pin.ensures.tracks places s.state.objects (frees_of m.pins s) own may in
    let may_leave = may_close places s m h c.requires.open c.pin.new.self.memory keeps tracks in
    let answer = c.in-Err.ensures.outermost places s.state.objects (all_counted m.pins s) may_leave (sym h.tracks.open_scopes ∙ c.requires.open) in
    let closed = same_but m c.pin.new.self c.close_scope.new.self c.pin.ensures.others c.in-Err.ensures.others in
    let stops = returns-in-Err-clause-checks g c code first before places s has h counts in
    let last = decided_last code _ first before [] s.numbers s.state m c.in-Err.bad c.first_holder.result stops in
    subst (λ (k : Kept). StopsIn code (checked code first before [] s.numbers s.state) k (end.BadFree c.in-Err.bad c.first_holder.result)) (sym closed)
    (uncounted_image code places s m h c.close_scope.new.self.memory answer.2.keeps answer.2.scopes _ last (end.BadFree c.in-Err.bad c.first_holder.result) tt)
