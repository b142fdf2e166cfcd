use Rattle.std.proofs.Common.{◌∙◌, [], Some, sym, ap}
use Rattle.heapsafe.proofs.running.mean_lent.Goals as goal

pub returns-clause-told : goal.returns-clause-told
returns-clause-told g c = λ left k. record {
  put = c.mean-ended.new.out.log.bytes;
  is = c.mean-ended.ensures.told left [] k (ap Some c.new-told.ensures.none);
  took = λ t e. c.mean-ended.new.out.takes t (sym c.requires.taken ∙ e);
}
