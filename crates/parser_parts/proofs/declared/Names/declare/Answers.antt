use Rattle.parser_parts.proofs.Logs.{one_more}
use Rattle.parser_parts.proofs.declared.Names.declare.Goals as goal

pub invariant_of-self-in_default : goal.invariant_of-self-in_default
invariant_of-self-in_default c =
    one_more c.self.inside.log.items c.push.new.self.items (record { named = c.args.named; was_type = c.contains-was_type.result }) c.self.inside.types c.mark.new.types c.in_ok-push.ensures.items c.self.invariant c.contains-was_type.ensures c.in_default.ensures.ok
