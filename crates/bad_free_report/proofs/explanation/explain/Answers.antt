use Rattle.bad_free_report.proofs.explanation.explain.Goals as goal

pub returns-in-Escape-clause-bytes : goal.returns-in-Escape-clause-bytes
returns-in-Escape-clause-bytes g c = rw (c.in-Escape.is, c.in-Some.is) c.put_help-in-Escape.ensures.bytes

pub returns-in-Spent-clause-bytes : goal.returns-in-Spent-clause-bytes
returns-in-Spent-clause-bytes g c = rw (c.in-Spent.is, c.in-Some.is) c.put_spent.ensures.bytes

pub returns-in-OutOfStack-clause-bytes : goal.returns-in-OutOfStack-clause-bytes
returns-in-OutOfStack-clause-bytes g c = rw (c.in-OutOfStack.is, c.in-Some.is) c.put_out_of_stack.ensures.bytes
