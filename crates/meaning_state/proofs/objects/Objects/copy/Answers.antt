use Rattle.std.proofs.Common.{ap, ◌∙◌}
use Rattle.object_meaning.specs.objects.Memory.{copied}
use Rattle.meaning_state.proofs.SlotCounts.{none_copied}
use Rattle.meaning_state.proofs.objects.Objects.copy.Goals as goal

pub returns-then-n-eq0 : goal.returns-then-n-eq0
returns-then-n-eq0 c = ap (copied c.args.self.now c.args.d c.args.s) c.if-n-eq0.true ∙ none_copied c.args.self.now c.args.d c.args.s
