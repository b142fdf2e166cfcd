use Rattle.std.proofs.Common.{◌≡◌, ◌∙◌, ap, arith, rules, set, get_or}
use Rattle.std.proofs.lemmas.List.{get_or_read}
use Rattle.hs_base.specs.Object.{Object, no_object}
use Rattle.hs_base.specs.Freeing.{buried_standing}
use Rattle.meaning_state.proofs.Turns.{changed, unchanged}
use Rattle.meaning_state.proofs.objects.Objects.bury.Goals as goal

abbrev one : Object → Object
one o = record o { standing = buried_standing o.standing }

pub loop-i-preserved : goal.loop-i-preserved
loop-i-preserved c =
    let objects = c.self.inside.list.items in
    let list = c.loop-i.self-inside.list.items in
    let i = c.loop-i.i in
    let at : c.index_mut-object.result.now ≡ get_or list i no_object = get_or_read list i c.index_mut-object.result.now (omega arith) c.index_mut-object.ensures.value no_object in
    let here : c.index_mut-object.result.now ≡ get_or objects i no_object = at ∙ ap (λ os. get_or os i no_object) c.loop-i.invariant.is ∙ unchanged one objects i no_object (omega arith) in
    let new : c.bury.new.self ≡ one (get_or objects i no_object) = c.bury.ensures ∙ ap one here in
    record {
      is = ap (λ o. set list i o) new ∙ ap (λ os. set os i (one (get_or objects i no_object))) c.loop-i.invariant.is ∙ changed one objects i no_object (omega arith);
      len = search rules;
    }
