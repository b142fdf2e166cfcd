use Rattle.std.proofs.Common.{rules, ap, ◌∙◌}
use Rattle.std.proofs.lemmas.Int.{to_z-of_z}
use mir.Syntax.{w128}
use mir.Val.{SFits}
use Rattle.std.proofs.Common.{pos, [], ◌∷◌, ◌++◌, Some}
use Rattle.object_meaning.specs.objects.Builtins.{byte_in}
use Rattle.flat_machine.proofs.OneByte.{put_seen, put_moves, put_failed}
use Rattle.flat_machine.proofs.state.State.put_char.Goals as goal

pub returns-in-Ok-clause-told : goal.returns-in-Ok-clause-told
returns-in-Ok-clause-told g c = λ places s taken h t.
    let fits : SFits w128 c.args.n = search rules in
    let byte = rw (to_z-of_z w128 c.args.n fits) at c.byte_in-byte.ensures in
    let fits_n : SFits w128 c.from.result = search rules in
    let gives = rw (to_z-of_z w128 c.from.result fits_n) at c.give_number.ensures in
    put_seen c.args.r places s c.args.self.now c.give_number.new.self h (byte_in c.args.n) c.from.result taken _ (c.from.ensures ∙ ap pos byte) gives (c.in-Ok.ensures.bytes taken t ∙ ap (λ b. Some (taken ++ b ∷ [])) byte)

pub returns-in-Ok-clause-moves : goal.returns-in-Ok-clause-moves
returns-in-Ok-clause-moves g c = λ places s h.
    let fits : SFits w128 c.args.n = search rules in
    let byte = rw (to_z-of_z w128 c.args.n fits) at c.byte_in-byte.ensures in
    let fits_n : SFits w128 c.from.result = search rules in
    let gives = rw (to_z-of_z w128 c.from.result fits_n) at c.give_number.ensures in
    put_moves c.args.r places s c.args.self.now c.give_number.new.self h (byte_in c.args.n) c.from.result (c.from.ensures ∙ ap pos byte) gives

pub returns-in-Err-clause-told : goal.returns-in-Err-clause-told
returns-in-Err-clause-told g c = λ places s taken h t.
    let fits : SFits w128 c.args.n = search rules in
    let byte = rw (to_z-of_z w128 c.args.n fits) at c.byte_in-byte.ensures in
    let p = c.in-Err.ensures.bytes taken t in
    put_failed c.args.r places s c.args.self.now c.args.self.now h (byte_in c.args.n) taken p.0 p.1 _ (p.2 ∙ ap (λ b. b ∷ []) byte) p.3
