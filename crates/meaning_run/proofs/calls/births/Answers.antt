use Rattle.std.proofs.Common.{◌≡◌, ◌+◌, ℕ, [], ◌∷◌, ◌++◌, refl, sym, ap, ◌∙◌, arith}
use Rattle.std.specs.List.{range_with_len}
use Rattle.std.proofs.lemmas.List.{length-append, map-id}
use Rattle.std.proofs.lemmas.List.FromFn.{map-range_with_len_more}
use Rattle.meaning_run.proofs.calls.births.Goals as goal

-- one number more
range_more : (a n : ℕ) → range_with_len a (n + 1) ≡ range_with_len a n ++ (a + n) ∷ []
range_more a n =
    sym (map-id (range_with_len a (n + 1)))
    ∙ map-range_with_len_more (λ (k : ℕ). k) a n (a + n) refl
    ∙ ap (λ ks. ks ++ (a + n) ∷ []) (map-id (range_with_len a n))

pub loop-k-preserved : goal.loop-k-preserved
loop-k-preserved c = record {
  is = rw (range_more c.args.first c.loop-k.k, ← c.loop-k.invariant.is, ← c.from.ensures) c.in_ok-push.ensures.items;
  len = rw (c.in_ok-push.ensures.items, length-append) (omega (arith, c.loop-k.invariant.len));
}
