use Rattle.std.proofs.Common.{◌≤◌, List, length, refl, subst, arith}
use Rattle.std.proofs.lemmas.List.{take_all}
use Rattle.delay_scopes.specs.Pointers.{LowersBy, words_in, words_inside}
use Rattle.delay_scopes.specs.PointersEquations.{covers_object, lowers_object}
use Rattle.flat_objects.proofs.ending.take_off_all.Goals as goal

pub loop-local-init : goal.loop-local-init
loop-local-init g c = record { most = refl; long = refl; exact = λ granule. omega arith }

pub take_off_object-requires : goal.take_off_object-requires
take_off_object-requires g c = record {
  inside = c.requires.inside c.loop-local.local-index 0 c.loop-local-test.true;
  form = c.requires.known c.loop-local.local-index 0 c.loop-local-test.true;
  covered = covers_object (words_in c.args.forms.now c.args.bytes.now) c.args.locals.now c.loop-local.local-index c.args.counts.now c.loop-local.counts c.loop-local-test.true c.requires.covered c.loop-local.invariant;
}

pub loop-local-preserved : goal.loop-local-preserved
loop-local-preserved g c =
    lowers_object (words_in c.args.forms.now c.args.bytes.now) c.args.locals.now c.loop-local.local-index c.args.counts.now c.loop-local.counts c.take_off_object.new.counts c.loop-local-test.true c.loop-local.invariant c.take_off_object.ensures.counts

pub returns : goal.returns
returns g c =
    let all : length c.args.locals.now ≤ c.loop-local.local-index = c.loop-local-test.false in
    subst (λ (l : List _). LowersBy (words_inside c.args.forms.now c.args.bytes.now l) c.args.counts.now c.loop-local.counts) (take_all c.loop-local.local-index c.args.locals.now all) c.loop-local.invariant
