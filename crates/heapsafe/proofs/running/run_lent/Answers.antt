use Rattle.std.proofs.Common.{◌∙◌, [], Some, sym, ap}
use Rattle.heapsafe.proofs.running.run_lent.Goals as goal

pub returns-clause-ran : goal.returns-clause-ran
returns-clause-ran g c = λ left k. record {
  told = record {
    put = c.run-end.new.out.log.bytes;
    is = c.run-end.ensures.told c.requires.fresh left [] k (ap Some c.new-told.ensures.none);
    took = λ t e. c.run-end.new.out.takes t (sym c.requires.taken ∙ e);
  };
  image = c.run-end.ensures.left c.requires.fresh left [] k (ap Some c.new-told.ensures.none);
}
