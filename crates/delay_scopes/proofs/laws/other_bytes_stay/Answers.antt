use Rattle.delay_scopes.proofs.Others.{beside_heap_stays, left_block_stays, left_header_stays}
use Rattle.delay_scopes.proofs.laws.other_bytes_stay.Goals as goal

pub returns : goal.returns
returns c = record {
  left = left_block_stays;
  header = λ scopes heap before after held queue kept inside changes. left_header_stays scopes heap before after held queue kept inside changes c.a_header_stays.ensures.bytes;
  beside = beside_heap_stays;
}
