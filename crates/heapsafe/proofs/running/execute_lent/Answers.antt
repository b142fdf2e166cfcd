use Rattle.std.proofs.Common.{◌∙◌, [], Some, sym, ap}
use Rattle.heapsafe.proofs.running.execute_lent.Goals as goal

pub returns-clause-ran : goal.returns-clause-ran
returns-clause-ran g c = λ core pins sound exact ascending compiled left k. record {
  told = record {
    put = c.execute-end.new.out.log.bytes;
    is = c.execute-end.ensures.told c.requires.fresh core pins sound exact ascending compiled left [] k (ap Some c.new-told.ensures.none);
    took = λ t e. c.execute-end.new.out.takes t (sym c.requires.taken ∙ e);
  };
  made = c.execute-end.ensures.made c.requires.fresh core pins sound exact ascending compiled left [] k (ap Some c.new-told.ensures.none);
  image = c.execute-end.ensures.left c.requires.fresh core pins sound exact ascending compiled left [] k (ap Some c.new-told.ensures.none);
}
