use Rattle.std.proofs.Common.{◌∙◌, List, sym, subst, take, ◌+◌}
use Rattle.std.specs.Prelude.{All}
use Rattle.flat_code.specs.declared.program.StaticInit.{StaticInit}
use Rattle.flat_codegen.specs.Statics.{AreInits}
use Rattle.flat_codegen.proofs.Bytes.{IsOfBytes, bytes_more}
use Rattle.flat_codegen.proofs.Starts.{inits_more}
use Rattle.flat_codegen.proofs.statics.inits.Goals as goal

pub loop-one-preserved : goal.loop-one-preserved
loop-one-preserved c =
    let statics = c.args.statics.now in
    let i = c.loop-one.one-index in
    record {
      first = subst (λ (inits : List StaticInit). AreInits (take (i + 1) statics) inits) (sym c.in_ok-push.ensures.ok)
          (inits_more statics c.loop-one.inits i c.in_ok-layout.layout c.one-item.result c.in_ok-init.field-0 c.loop-one-test.true c.one-item.is (c.in_ok-layout.ensures ∙ c.len.ensures) c.loop-one.invariant.first c.in_ok-init.ensures.first);
      bytes = subst (λ (inits : List StaticInit). All IsOfBytes inits) (sym c.in_ok-push.ensures.ok)
          (bytes_more c.loop-one.inits c.in_ok-init.field-0 c.loop-one.invariant.bytes c.in_ok-init.ensures.bytes);
    }
