-- The count of one granule changed again and again.
use Rattle.std.proofs.Common.{◌≡◌, ◌<◌, ℕ, List, get_or, length, sym, ap, ◌∙◌}
use Rattle.std.proofs.lemmas.List.{get_or-set_same, set-get_or, set-set}
use Rattle.count_table.specs.Table.{Table, with_count}

-- the count that was there changes nothing
pub with_count_same : (old : Table) (granule count : ℕ) → count ≡ get_or old.counts granule 0 → old ≡ with_count old granule count
with_count_same old granule count same =
    let made : List ℕ → Table = λ counts. record { counts = counts; most = old.most } in
    ap made (sym (set-get_or old.counts granule 0)) ∙ ap (with_count old granule) (sym same)

-- of two changes the second alone remains
pub with_count_again : (old between new : Table) (granule first second : ℕ) → between ≡ with_count old granule first → new ≡ with_count between granule second → new ≡ with_count old granule second
with_count_again old between new granule first second before after =
    let made : List ℕ → Table = λ counts. record { counts = counts; most = old.most } in
    after ∙ ap (λ (t : Table). with_count t granule second) before ∙ ap made (set-set old.counts granule first second)

-- what is counted between
pub counted_between : (old between : Table) (granule first : ℕ) → between ≡ with_count old granule first → granule < length old.counts → get_or between.counts granule 0 ≡ first
counted_between old between granule first before inside =
    ap (λ (t : Table). get_or t.counts granule 0) before ∙ get_or-set_same old.counts granule first 0 inside
