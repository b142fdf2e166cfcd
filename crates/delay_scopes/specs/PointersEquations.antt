-- Words of objects that are taken off the counts, one object after another. Proved from `Pointers`.
use Rattle.std.proofs.Common.{◌≡◌, ◌≤◌, ◌<◌, ◌+◌, ◌/◌, ◌&&◌, ℕ, cond, not, nat_eq, List, [], ◌∷◌, ◌++◌, length, get_or, take, drop, sym, ap, ◌∙◌, subst, append-nil, add_assoc, add_comm, le_trans, le-add_right}
use Rattle.std.specs.List.{flat_map}
use Rattle.std.proofs.Math.Arith.{add-le_cancel_left}
use Rattle.std.proofs.lemmas.List.{take_more, take-append-drop}
use Rattle.std.proofs.lemmas.List.Concat.{flat_map-append}
use Rattle.std.proofs.lemmas.List.Sums.{sum_by-append}
use Rattle.count_table.specs.Table.{Table}
use Rattle.delay_scopes.specs.Pointers.{LowersBy, into_granule}

-- words after words
pub into_both : (granule : ℕ) (xs ys : List ℕ) → into_granule granule (xs ++ ys) ≡ into_granule granule xs + into_granule granule ys
into_both granule xs ys = sum_by-append (λ w. cond (not (nat_eq w 0) && nat_eq (w / 16) granule) 1 0) xs ys

pub lowers_both : (xs ys : List ℕ) (a b c : Table) → LowersBy xs a b → LowersBy ys b c → LowersBy (xs ++ ys) a c
lowers_both xs ys a b c first second = record {
  most = second.most ∙ first.most;
  long = second.long ∙ first.long;
  exact = λ granule.
      let left = get_or c.counts granule 0 in
      let one = into_granule granule xs in
      let two = into_granule granule ys in
      ap (λ n. left + n) (into_both granule xs ys ∙ add_comm one two) ∙ sym (add_assoc left two one)
      ∙ ap (λ n. n + one) (second.exact granule) ∙ first.exact granule;
}

-- the words of the objects of a queue, one object more
words_more : (words : ℕ → List ℕ) (queue : List ℕ) (k : ℕ) → k < length queue → flat_map words (take (k + 1) queue) ≡ flat_map words (take k queue) ++ words (get_or queue k 0)
words_more words queue k below =
    ap (flat_map words) (take_more queue k 0 below) ∙ flat_map-append words (take k queue) (get_or queue k 0 ∷ [])
    ∙ ap (λ l. flat_map words (take k queue) ++ l) (append-nil (words (get_or queue k 0)))

pub lowers_object : (words : ℕ → List ℕ) (queue : List ℕ) (k : ℕ) (a b c : Table) → k < length queue → LowersBy (flat_map words (take k queue)) a b → LowersBy (words (get_or queue k 0)) b c → LowersBy (flat_map words (take (k + 1) queue)) a c
lowers_object words queue k a b c below first second =
    subst (λ (l : List ℕ). LowersBy l a c) (sym (words_more words queue k below)) (lowers_both (flat_map words (take k queue)) (words (get_or queue k 0)) a b c first second)

-- what covers the words of all objects covers those of the next one, after those before it were taken off
pub covers_object : (words : ℕ → List ℕ) (queue : List ℕ) (k : ℕ) (a b : Table) → k < length queue → ((granule : ℕ) → into_granule granule (flat_map words queue) ≤ get_or a.counts granule 0) → LowersBy (flat_map words (take k queue)) a b
    → (granule : ℕ) → into_granule granule (words (get_or queue k 0)) ≤ get_or b.counts granule 0
covers_object words queue k a b below covered lowered granule =
    let done = into_granule granule (flat_map words (take k queue)) in
    let next = into_granule granule (words (get_or queue k 0)) in
    let behind = into_granule granule (flat_map words (drop (k + 1) queue)) in
    let split : flat_map words queue ≡ flat_map words (take (k + 1) queue) ++ flat_map words (drop (k + 1) queue) =
    ap (flat_map words) (sym (take-append-drop (k + 1) queue)) ∙ flat_map-append words (take (k + 1) queue) (drop (k + 1) queue) in
    let front : into_granule granule (flat_map words (take (k + 1) queue)) ≡ done + next =
    ap (into_granule granule) (words_more words queue k below) ∙ into_both granule (flat_map words (take k queue)) (words (get_or queue k 0)) in
    let whole : into_granule granule (flat_map words queue) ≡ done + next + behind =
    ap (into_granule granule) split ∙ into_both granule (flat_map words (take (k + 1) queue)) (flat_map words (drop (k + 1) queue))
    ∙ ap (λ n. n + behind) front in
    let before : get_or a.counts granule 0 ≡ done + get_or b.counts granule 0 =
    sym (lowered.exact granule) ∙ add_comm (get_or b.counts granule 0) done in
    let within : done + next ≤ done + get_or b.counts granule 0 =
    le_trans (le-add_right (done + next) behind) (subst (λ n. n ≤ done + get_or b.counts granule 0) whole (subst (λ n. into_granule granule (flat_map words queue) ≤ n) before (covered granule))) in
    add-le_cancel_left done within
