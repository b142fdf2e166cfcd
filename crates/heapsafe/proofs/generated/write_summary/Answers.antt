use Rattle.std.proofs.Common.{refl}
use Rattle.generated_text.specs.Summary.{summary_line}
use Rattle.heapsafe.specs.Serving.{Writes}
use Rattle.heapsafe.specs.Shown.{written}
use Rattle.heapsafe.proofs.Served.{seen_from, serves_cut, serves_written}
use Rattle.heapsafe.proofs.generated.write_summary.Goals as goal

pub returns-in-Ok : goal.returns-in-Ok
returns-in-Ok g c =
    seen_from (Writes (written (summary_line c.args.summary))) _ _ _ _ c.io.view_is
    (serves_written _ _ _ (summary_line c.args.summary) (record { input = refl; left = refl; faults = refl }) refl c.in-Ok.ensures.cause c.in-Ok.ensures.bytes refl refl refl)

pub returns-in-Err : goal.returns-in-Err
returns-in-Err g c =
    seen_from (Writes (written (summary_line c.args.summary))) _ _ _ _ c.io.view_is
    (serves_cut _ _ c.refuse.new.io c.refuse.result (summary_line c.args.summary) (record { input = refl; left = refl; faults = refl }) c.in-Err.ensures.cause c.in-Err.ensures.bytes refl refl refl c.refuse.ensures)
