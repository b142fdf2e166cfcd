use Rattle.std.proofs.lemmas.Result.{IfOk-weaker}
use Rattle.heapsafe.proofs.written.code_bytes.Goals as goal

pub returns : goal.returns
returns c =
    IfOk-weaker c.write_code.result _ _ (λ bytes has. record { file = c.in_ok-file.file; of = c.in_ok-file.ensures; has = has }) c.write_code.ensures
