use Rattle.std.proofs.Common.{arith, [], false}
use Rattle.std.proofs.lemmas.Grind.{common_steps}
use Rattle.parser_parts.specs.declared.declared.Entry.{Entry}
use Rattle.parser_parts.proofs.Logs.{known_more, known_all}
use Rattle.parser_parts.proofs.declared.declare_all.Goals as goal

no_entry : Entry
no_entry = record { named = record { name = record { ref_ptr = (0, 0); now = [] }; is_type = false }; was_type = false }

pub loop-entry-preserved : goal.loop-entry-preserved
loop-entry-preserved c =
    let more = known_more c.args.more.now c.loop-entry.entry-index no_entry (omega arith) in
    grind (arith, common_steps, more)

pub returns : goal.returns
returns c =
    let all = known_all c.args.more.now c.loop-entry.entry-index (omega arith) in
    grind (arith, common_steps, all)
