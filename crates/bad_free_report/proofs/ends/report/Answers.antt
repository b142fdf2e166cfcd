use Rattle.bad_free_report.proofs.ends.report.Goals as goal

pub returns-in-BadFree-clause-bytes : goal.returns-in-BadFree-clause-bytes
returns-in-BadFree-clause-bytes g c = rw c.in-BadFree.is c.report_bad_free.ensures.bytes

pub returns-in-Spent-clause-bytes : goal.returns-in-Spent-clause-bytes
returns-in-Spent-clause-bytes g c = rw c.in-Spent.is c.complain.ensures.bytes

pub returns-in-OutOfStack-clause-bytes : goal.returns-in-OutOfStack-clause-bytes
returns-in-OutOfStack-clause-bytes g c = rw c.in-OutOfStack.is c.complain_at.ensures.bytes

pub returns-in-InputFault-clause-bytes : goal.returns-in-InputFault-clause-bytes
returns-in-InputFault-clause-bytes g c = rw c.in-InputFault.is c.complain-in-InputFault.ensures.bytes

pub returns-in-OutputFault-clause-bytes : goal.returns-in-OutputFault-clause-bytes
returns-in-OutputFault-clause-bytes g c = rw c.in-OutputFault.is c.complain-in-OutputFault.ensures.bytes
