use Rattle.std.proofs.Common.{◌≡◌, ◌≤◌, ◌<◌, ◌∙◌, ◌-◌, ◌+◌, suc, add-one, ap, sym, map, drop, length, false, true, Bool, ℕ, arith}
use Rattle.std.specs.Prelude.{◌&&◌}
use Rattle.c_types.specs.Types.{plain}
use Rattle.c_decls.specs.Typed.{plain_typed}
use Rattle.c_decls.specs.Callees.{suits_type}
use Rattle.c_typing.specs.Format.{plain_front, plain_item, End, Bad, Plain, Item}
use Rattle.c_typing.proofs.FormatLemmas.{fits, fits_front, fits_item, went, went_to_end, fits_whole, fits_none, all_used, item_takes, item_wants, is_nil, nil_is}
use Rattle.c_typing.proofs.formats.suits_format.Goals as goal

pub returns-in-End : goal.returns-in-End
returns-in-End c =
    let more : c.loop-fuel.fuel ≡ suc (c.loop-fuel.fuel - 1) = omega arith in
    all_used c.args.arguments.now c.loop-fuel.used c.loop-fuel.invariant.within
    ∙ went_to_end c.loop-fuel.fuel (c.loop-fuel.fuel - 1) c.loop-fuel.rest.now (map plain_typed (drop c.loop-fuel.used c.args.arguments.now))
    (plain_front c.front_of.result) _ more c.front_of.ensures c.loop-fuel.invariant.decides (ap plain_front c.in-End.is)
    ∙ fits_whole c.args.bytes.now (map plain_typed (drop 1 c.args.arguments.now))

pub returns-in-Bad : goal.returns-in-Bad
returns-in-Bad c =
    let more : c.loop-fuel.fuel ≡ suc (c.loop-fuel.fuel - 1) = omega arith in
    let arguments = map plain_typed (drop c.loop-fuel.used c.args.arguments.now) in
    sym (ap (λ f. fits_front (c.loop-fuel.fuel - 1) f arguments) (ap plain_front c.in-Bad.is))
    ∙ went c.loop-fuel.fuel (c.loop-fuel.fuel - 1) c.loop-fuel.rest.now arguments
    (plain_front c.front_of.result) _ more c.front_of.ensures c.loop-fuel.invariant.decides
    ∙ fits_whole c.args.bytes.now (map plain_typed (drop 1 c.args.arguments.now))

pub loop-fuel-preserved-in-Plain : goal.loop-fuel-preserved-in-Plain
loop-fuel-preserved-in-Plain c =
    let more : c.loop-fuel.fuel ≡ suc (c.loop-fuel.fuel - 1) = omega arith in
    let arguments = map plain_typed (drop c.loop-fuel.used c.args.arguments.now) in
    record {
      decides =
          sym (ap (λ f. fits_front (c.loop-fuel.fuel - 1) f arguments) (ap plain_front c.in-Plain.is))
          ∙ went c.loop-fuel.fuel (c.loop-fuel.fuel - 1) c.loop-fuel.rest.now arguments
          (plain_front c.front_of.result) _ more c.front_of.ensures c.loop-fuel.invariant.decides;
      within = c.loop-fuel.invariant.within;
    }

pub returns-then-used-arguments : goal.returns-then-used-arguments
returns-then-used-arguments c =
    let n = c.loop-fuel.fuel - 1 in
    let more : c.loop-fuel.fuel ≡ suc n = omega arith in
    let arguments = map plain_typed (drop c.loop-fuel.used c.args.arguments.now) in
    sym (ap (λ f. fits_front n f arguments) (ap plain_front c.in-Item.is)
    ∙ item_wants n (plain_item c.in-Item.item) c.in-Item.behind.now c.args.arguments.now c.loop-fuel.used c.if-used-arguments.true)
    ∙ went c.loop-fuel.fuel n c.loop-fuel.rest.now arguments (plain_front c.front_of.result) _ more c.front_of.ensures c.loop-fuel.invariant.decides
    ∙ fits_whole c.args.bytes.now (map plain_typed (drop 1 c.args.arguments.now))

pub returns-then-not-suits_item : goal.returns-then-not-suits_item
returns-then-not-suits_item c =
    let n = c.loop-fuel.fuel - 1 in
    let more : c.loop-fuel.fuel ≡ suc n = omega arith in
    let arguments = map plain_typed (drop c.loop-fuel.used c.args.arguments.now) in
    let others = map plain_typed (drop (suc c.loop-fuel.used) c.args.arguments.now) in
    sym (ap (λ f. fits_front n f arguments) (ap plain_front c.in-Item.is)
    ∙ item_takes n (plain_item c.in-Item.item) c.in-Item.behind.now c.args.arguments.now c.loop-fuel.used c.index-arguments-used.result c.index-arguments-used.is c.if-used-arguments.false
    ∙ ap (λ s. s && fits n c.in-Item.behind.now others) (ap (λ e. suits_type c.in-Item.item.conversion c.in-Item.item.width (plain e.ty)) c.index-arguments-used.is
    ∙ sym c.suits_item.ensures ∙ c.if-not-suits_item.true))
    ∙ went c.loop-fuel.fuel n c.loop-fuel.rest.now arguments (plain_front c.front_of.result) _ more c.front_of.ensures c.loop-fuel.invariant.decides
    ∙ fits_whole c.args.bytes.now (map plain_typed (drop 1 c.args.arguments.now))

pub loop-fuel-preserved : goal.loop-fuel-preserved
loop-fuel-preserved c =
    let n = c.loop-fuel.fuel - 1 in
    let more : c.loop-fuel.fuel ≡ suc n = omega arith in
    let arguments = map plain_typed (drop c.loop-fuel.used c.args.arguments.now) in
    let others = map plain_typed (drop (suc c.loop-fuel.used) c.args.arguments.now) in
    record {
      decides =
          ap (λ k. fits n c.in-Item.behind.now (map plain_typed (drop k c.args.arguments.now))) (add-one c.loop-fuel.used)
          ∙ sym (ap (λ f. fits_front n f arguments) (ap plain_front c.in-Item.is)
          ∙ item_takes n (plain_item c.in-Item.item) c.in-Item.behind.now c.args.arguments.now c.loop-fuel.used c.index-arguments-used.result c.index-arguments-used.is c.if-used-arguments.false
          ∙ ap (λ s. s && fits n c.in-Item.behind.now others) (ap (λ e. suits_type c.in-Item.item.conversion c.in-Item.item.width (plain e.ty)) c.index-arguments-used.is
          ∙ sym c.suits_item.ensures ∙ c.if-not-suits_item.false))
          ∙ went c.loop-fuel.fuel n c.loop-fuel.rest.now arguments (plain_front c.front_of.result) _ more c.front_of.ensures c.loop-fuel.invariant.decides;
      within = omega arith;
    }

pub returns-then-is_empty : goal.returns-then-is_empty
returns-then-is_empty c =
    let none : c.loop-fuel.fuel ≡ 0 = omega arith in
    let arguments = map plain_typed (drop c.loop-fuel.used c.args.arguments.now) in
    all_used c.args.arguments.now c.loop-fuel.used c.loop-fuel.invariant.within
    ∙ sym (ap (λ k. fits k c.loop-fuel.rest.now arguments) none ∙ fits_none c.loop-fuel.rest.now arguments
    ∙ ap (λ b. b && is_nil arguments) (nil_is c.loop-fuel.rest.now ∙ sym c.is_empty.ensures ∙ c.if-is_empty.true))
    ∙ c.loop-fuel.invariant.decides
    ∙ fits_whole c.args.bytes.now (map plain_typed (drop 1 c.args.arguments.now))

pub returns-else-is_empty : goal.returns-else-is_empty
returns-else-is_empty c =
    let none : c.loop-fuel.fuel ≡ 0 = omega arith in
    let arguments = map plain_typed (drop c.loop-fuel.used c.args.arguments.now) in
    c.if-is_empty.false
    ∙ sym (ap (λ k. fits k c.loop-fuel.rest.now arguments) none ∙ fits_none c.loop-fuel.rest.now arguments
    ∙ ap (λ b. b && is_nil arguments) (nil_is c.loop-fuel.rest.now ∙ sym c.is_empty.ensures ∙ c.if-is_empty.false))
    ∙ c.loop-fuel.invariant.decides
    ∙ fits_whole c.args.bytes.now (map plain_typed (drop 1 c.args.arguments.now))
