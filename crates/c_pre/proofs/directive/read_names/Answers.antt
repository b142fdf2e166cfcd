use Rattle.c_pre.proofs.Forms.{names_turn}
use Rattle.c_pre.proofs.directive.read_names.Goals as goal

pub loop-rest-preserved : goal.loop-rest-preserved
loop-rest-preserved c =
    let e = names_turn c.loop-rest.names c.loop-rest.rest.now c.name-item.result c.sign-item.result c.in-len2-up.len_at_least c.name-item.is c.sign-item.is (cc) (cc) (cc) (cc) (cc) in
    cc (c.in_ok-add.ensures)
