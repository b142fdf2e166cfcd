use Rattle.std.proofs.Common.{sym, ◌∙◌}
use Rattle.flat_machine.proofs.Frees.{free_null}
use Rattle.flat_machine.proofs.state.State.free.Goals as goal

pub returns-then-addr-eq0-clause-alone : goal.returns-then-addr-eq0-clause-alone
returns-then-addr-eq0-clause-alone g c = λ code places s has h counts.
    free_null places s c.args.self.now h code c.args.line c.go_on.new.self (sym c.requires.address ∙ c.if-addr-eq0.true) c.go_on.ensures
