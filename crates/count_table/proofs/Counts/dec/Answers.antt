use Rattle.std.proofs.Common.{◌≡◌, ◌<◌, ◌-◌, ℕ, true, false, get_or, set, refl, sym, subst, inl, inr, arith, rules}
use Rattle.std.proofs.lemmas.Bool.{cases_lt, false≢true}
use Rattle.count_table.specs.declared.Counts.TheInside.{Inside}
use Rattle.count_table.specs.Excess.{excess_at}
use Rattle.count_table.proofs.Changed.{Becomes, byte_down, empty_below, excess_down}
use Rattle.count_table.proofs.Counts.dec.Goals as goal
use Rattle.count_table.proofs.Counts.dec.Goals.{then-low-lt255-via-then-low-lt255, then-low-lt255-via-else-low-lt255+then-not-lower}

none : (excess : ℕ) → (0 < excess → false ≡ true) → excess ≡ 0
none excess never = elim (cases_lt 0 excess) [ inl some ↦ absurd (false≢true (never some)) | inr few ↦ omega arith ]

pub invariant_of-self : goal.invariant_of-self
invariant_of-self g c =
    (excess_down c.self.invariant c.self.view_is c.args.granule c.requires.granule c.index-low.result.now c.index-low.ensures (c.if-not-lower.ensures.had.0 refl) c.lower.new.self c.if-not-lower.ensures.lowered c.if-not-lower.ensures.room).table

pub returns-else-not-lower : goal.returns-else-not-lower
returns-else-not-lower g c =
    let next = excess_down c.self.invariant c.self.view_is c.args.granule c.requires.granule c.index-low.result.now c.index-low.ensures (c.if-not-lower.ensures.had.0 refl) c.lower.new.self c.if-not-lower.ensures.lowered c.if-not-lower.ensures.room in
    record { count = next.is; long = next.long; sum = omega (arith, next.sum_is, c.requires.some); steps = search rules }

pub invariant_of-self-then-low-lt255 : goal.invariant_of-self-then-low-lt255
invariant_of-self-then-low-lt255 g c =
    let left = c.then-low-lt255.self-inside in
    let now = c.args.self.now in
    let After : Inside → Type 0 = λ i. Becomes (set i.lows.items c.args.granule (c.index-low.result.now - 1)) i.excess i.most now c.args.granule (get_or now.counts c.args.granule 0 - 1) in
    let next : After left =
    elim c.then-low-lt255.branch [
      | then-low-lt255-via-then-low-lt255 w ↦
          subst After (sym w.self-inside-is) (byte_down c.self.invariant c.self.view_is c.args.granule c.requires.granule c.index-low.result.now c.index-low.ensures (empty_below c.self.invariant c.self.view_is c.args.granule c.requires.granule c.index-low.result.now c.index-low.ensures w.if-low-lt255.true) c.requires.some c.self.inside.excess refl refl)
      | then-low-lt255-via-else-low-lt255+then-not-lower w ↦
          subst After (sym w.self-inside-is) (byte_down c.self.invariant c.self.view_is c.args.granule c.requires.granule c.index-low.result.now c.index-low.ensures (none (excess_at c.self.inside.excess.list c.args.granule) w.if-not-lower.ensures.had.1) c.requires.some w.lower.new.self w.if-not-lower.ensures.same w.if-not-lower.ensures.room)
    ] in
    next.table

pub returns-then-low-lt255 : goal.returns-then-low-lt255
returns-then-low-lt255 g c =
    let left = c.then-low-lt255.self-inside in
    let now = c.args.self.now in
    let After : Inside → Type 0 = λ i. Becomes (set i.lows.items c.args.granule (c.index-low.result.now - 1)) i.excess i.most now c.args.granule (get_or now.counts c.args.granule 0 - 1) in
    let next : After left =
    elim c.then-low-lt255.branch [
      | then-low-lt255-via-then-low-lt255 w ↦
          subst After (sym w.self-inside-is) (byte_down c.self.invariant c.self.view_is c.args.granule c.requires.granule c.index-low.result.now c.index-low.ensures (empty_below c.self.invariant c.self.view_is c.args.granule c.requires.granule c.index-low.result.now c.index-low.ensures w.if-low-lt255.true) c.requires.some c.self.inside.excess refl refl)
      | then-low-lt255-via-else-low-lt255+then-not-lower w ↦
          subst After (sym w.self-inside-is) (byte_down c.self.invariant c.self.view_is c.args.granule c.requires.granule c.index-low.result.now c.index-low.ensures (none (excess_at c.self.inside.excess.list c.args.granule) w.if-not-lower.ensures.had.1) c.requires.some w.lower.new.self w.if-not-lower.ensures.same w.if-not-lower.ensures.room)
    ] in
    record { count = next.is; long = next.long; sum = omega (arith, next.sum_is, c.requires.some); steps = search rules }
