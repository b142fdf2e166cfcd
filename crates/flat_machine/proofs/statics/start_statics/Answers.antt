use Rattle.flat_machine.proofs.Placing.{frame_none}
use Rattle.flat_machine.proofs.Started.{placed_started}
use Rattle.flat_machine.proofs.statics.start_statics.Goals as goal

pub loop-k-init : goal.loop-k-init
loop-k-init g c = record {
  started = placed_started c.args.code.now c.args.objects.now c.args.addrs.now c.requires.placed;
  frame = frame_none c.args.objects.now;
}
