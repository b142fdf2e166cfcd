use Rattle.delay_scopes.proofs.Keeping.{kept_beside, kept_placed, kept_within}
use Rattle.delay_scopes.proofs.laws.queues_are_kept.Goals as goal

pub returns : goal.returns
returns c =
    let stays = c.a_header_stays.ensures.changed in
    record {
      within = kept_within stays c.headers_stay.ensures.within;
      beside = kept_beside stays c.headers_stay.ensures.beside;
      placed = kept_placed stays;
    }
