use Rattle.std.proofs.Common.{List, ℕ, Option, sym, ap, ◌∙◌, subst, arith, length}
use Rattle.code_rules.specs.Scopes.{AreReached, AreSmall, depth_at}
use Rattle.code_rules.proofs.ScopeFacts.{not_filled, scopes_by_places, start_known, start_reached, start_small}
use Rattle.code_rules.proofs.scopes.close_alike.Goals as goal

pub fill-requires : goal.fill-requires
fill-requires c = record {
  here = c.requires.here;
  inside = c.requires.inside;
  length = c.requires.length;
  short = let a = c.requires.length in let b = c.requires.end in let d = c.requires.short in omega arith;
  small = subst AreSmall (sym c.requires.start) (start_small (length c.args.depths.now) c.requires.some);
  reached = subst (AreReached c.args.code.now c.args.function c.args.entry.now) (sym c.requires.start) (start_reached c.args.code.now c.args.function c.args.entry.now (length c.args.depths.now) c.requires.some);
}

pub returns-then-not-fill : goal.returns-then-not-fill
returns-then-not-fill c = not_filled c.args.code.now c.args.function c.args.entry.now c.if-not-fill.ensures.1

pub returns : goal.returns
returns c =
    scopes_by_places c.args.code.now c.args.function c.args.entry.now c.args.depths.now c.fill.new.depths c.close.result c.requires.here c.requires.inside c.requires.length c.requires.some
    (ap (λ (l : List (Option ℕ)). depth_at l 0) c.requires.start ∙ start_known (length c.args.depths.now) c.requires.some) c.if-not-fill.ensures c.close.ensures
