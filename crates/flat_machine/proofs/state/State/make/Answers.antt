use Rattle.std.proofs.Common.{Some, ap, ◌∙◌}
use Rattle.flat_objects.specs.declared.words.Word.TheVariants.{Address}
use Rattle.flat_machine.specs.Kept.{given}
use Rattle.flat_machine.specs.Standing.{frees_of}
use Rattle.flat_machine.proofs.Makings.{make_alone, make_none}
use Rattle.flat_machine.proofs.state.State.make.Goals as goal

pub returns-in-Some : goal.returns-in-Some
returns-in-Some g c = λ element places s h form.
    let made = c.in-Some.ensures in
    make_alone places s c.args.self.now h c.args.line c.args.r c.args.size element c.new_object.new.self.memory c.give_address.new.self c.in-Some.addr made.frame (made.added places s.state.objects element h.keeps h.births form) (made.tracks places s.state.objects element (frees_of c.args.self.now.pins s) h.keeps h.births form h.tracks) (made.place places s.state.objects h.keeps) (c.give_address.ensures ∙ ap (λ k. given k (Some c.args.r) (Address c.in-Some.addr)) made.some)

pub returns-in-None : goal.returns-in-None
returns-in-None g c = λ element places s h form.
    make_none places s c.args.self.now h c.args.line c.args.r c.args.size element c.give_address-in-None.new.self (c.in-None.ensures.place places s.state.objects h.keeps) (c.give_address-in-None.ensures ∙ ap (λ k. given k (Some c.args.r) (Address 0)) c.in-None.ensures.none)
