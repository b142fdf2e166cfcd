-- Common registers of two sets that are found by runs.
use Rattle.std.proofs.Common.{◌≡◌, ℕ, zero, suc, ◌+◌, ◌-◌, ◌*◌, ◌/◌, ◌%◌, ◌<◌, ◌≤◌, Bool, true, false, cond, ◌&&◌, ◌||◌, eqb, List, [], ◌∷◌, ◌++◌, length, get_or, replicate, Option, Some, refl, sym, ap, ◌∙◌, subst, arith, ⊎_elim, append-nil, append_assoc, not}
use Rattle.std.specs.Prelude.{filter, slice_get}
use Rattle.std.specs.List.{range_with_len}
use Rattle.std.specs.Option.{option_map_or}
use Rattle.std.proofs.lemmas.Bool.{cases_eq, cases_lt, eq-eqb, ne_eqb}
use Rattle.std.specs.Int.{bit_at, div_ceil}
use Rattle.std.proofs.lemmas.List.{length-replicate}
use Rattle.std.proofs.lemmas.Nat.Bits.{bit_at-zero}
use Rattle.std.proofs.lemmas.List.Elements.{filter-append}
use Rattle.std.proofs.lemmas.Option.{slice_get_past, slice_get_read}
use Rattle.core_tree.specs.declared.program.Func.{Func}
use Rattle.core_tree.specs.declared.program.Reg.{Reg as Register}
use Rattle.core_tree.specs.declared.statements.StmKind.{StmKind}
use Rattle.core_tree.specs.declared.statements.StmKind.TheVariants.{Call, Realloc, Free, Leave}
use Rattle.core_tree.specs.Lives.{is_live}
use Rattle.object_meaning.specs.counted.Pinning.{holds_pointer, holds_on, counts_at}
use Rattle.object_meaning.specs.objects.Holding.{takes_answer}
use Rattle.local_liveness.specs.declared.runs.Run.{Run}
use Rattle.local_liveness.specs.Sets.{has, in_both, Adds, HasNone, IsRun}
use Rattle.local_liveness.specs.Tables.{LiveByPaths, HasLive, words_of}
use Rattle.count_insertion.specs.Counting.{AreSides, HasPointers, is_there, passing}
use Rattle.count_insertion.specs.Inserted.{may_count}

-- Ranges

pub range_split : (a m n : ℕ) → range_with_len a (m + n) ≡ range_with_len a m ++ range_with_len (a + m) n
range_split a zero n =
    let e : 0 + n ≡ n = omega arith in
    let f : a ≡ a + 0 = omega arith in
    ap (range_with_len a) e ∙ ap (λ k. range_with_len k n) f
range_split a (suc m) n =
    let e : suc m + n ≡ suc (m + n) = omega arith in
    let f : a + 1 + m ≡ a + suc m = omega arith in
    ap (range_with_len a) e ∙ ap (λ ks. a ∷ ks) (range_split (a + 1) m n ∙ ap (λ k. range_with_len (a + 1) m ++ range_with_len k n) f)

filter_one : (b : Bool) (x : ℕ) (xs ys : List ℕ) → xs ≡ ys → (c : Bool) → b ≡ c → cond b (x ∷ xs) xs ≡ cond c (x ∷ ys) ys
filter_one b x xs ys e c f = ap (λ t. cond t (x ∷ xs) xs) f ∙ ap (λ zs. cond c (x ∷ zs) zs) e

pub filter_same : (p q : ℕ → Bool) (a n : ℕ) → ((r : ℕ) → a ≤ r → r < a + n → p r ≡ q r) → filter p (range_with_len a n) ≡ filter q (range_with_len a n)
filter_same p q a zero same = refl
filter_same p q a (suc n) same =
    filter_one (p a) a (filter p (range_with_len (a + 1) n)) (filter q (range_with_len (a + 1) n))
    (filter_same p q (a + 1) n (λ r low high. same r (omega arith) (omega arith))) (q a) (same a (omega arith) (omega arith))

filter_all : (xs : List ℕ) → filter (λ x. true) xs ≡ xs
filter_all [] = refl
filter_all (x ∷ xs) = ap (λ ys. x ∷ ys) (filter_all xs)

filter_none : (xs : List ℕ) → filter (λ x. false) xs ≡ []
filter_none [] = refl
filter_none (x ∷ xs) = filter_none xs

pub passing_split : (test : ℕ → Bool) (a b c : ℕ) → a ≤ b → b ≤ c → passing test a c ≡ passing test a b ++ passing test b c
passing_split test a b c low high =
    let long : c - a ≡ (b - a) + (c - b) = omega arith in
    let middle : a + (b - a) ≡ b = omega arith in
    ap (λ n. filter test (range_with_len a n)) long
    ∙ ap (filter test) (range_split a (b - a) (c - b))
    ∙ filter-append test (range_with_len a (b - a)) (range_with_len (a + (b - a)) (c - b))
    ∙ ap (λ k. passing test a b ++ filter test (range_with_len k (c - b))) middle

passing_same : (p q : ℕ → Bool) (a b : ℕ) → ((r : ℕ) → a ≤ r → r < b → p r ≡ q r) → passing p a b ≡ passing q a b
passing_same p q a b same = filter_same p q a (b - a) (λ r low high. same r low (omega arith))

pub passing_none : (test : ℕ → Bool) (a b : ℕ) → HasNone test a b → passing test a b ≡ []
passing_none test a b none = passing_same test (λ r. false) a b none ∙ filter_none (range_with_len a (b - a))

passing_all : (test : ℕ → Bool) (a b : ℕ) → ((r : ℕ) → a ≤ r → r < b → test r ≡ true) → passing test a b ≡ range_with_len a (b - a)
passing_all test a b all = passing_same test (λ r. true) a b all ∙ filter_all (range_with_len a (b - a))

-- one run more
pub run_more :
    (test : ℕ → Bool) (from next until : ℕ) (run : Run) (last : ℕ) (before old new : List ℕ) → IsRun test next until run → last + 1 ≡ run.end → from ≤ next →
    old ≡ before ++ passing test from next → new ≡ old ++ range_with_len run.first (last + 1 - run.first) → new ≡ before ++ passing test from run.end
run_more test from next until run last before old new is end order so_far now =
    let starts = is.starts in
    let some = is.some in
    let here : passing test next run.end ≡ range_with_len run.first (run.end - run.first) =
    passing_split test next run.first run.end starts (omega arith)
    ∙ ap (λ rs. rs ++ passing test run.first run.end) (passing_none test next run.first is.before)
    ∙ passing_all test run.first run.end is.inside in
    now
    ∙ ap (λ n. old ++ range_with_len run.first (n - run.first)) end
    ∙ ap (λ rs. old ++ rs) (sym here)
    ∙ ap (λ rs. rs ++ passing test next run.end) so_far
    ∙ append_assoc before (passing test from next) (passing test next run.end)
    ∙ ap (λ rs. before ++ rs) (sym (passing_split test from next run.end order (omega arith)))

-- no run more
pub runs_end :
    (test : ℕ → Bool) (from next until : ℕ) (before registers : List ℕ) → from ≤ next → next ≤ until → HasNone test next until →
    registers ≡ before ++ passing test from next → registers ≡ before ++ passing test from until
runs_end test from next until before registers order ends none so_far =
    so_far
    ∙ ap (λ rs. before ++ rs)
    (sym (append-nil (passing test from next))
    ∙ ap (λ rs. passing test from next ++ rs) (sym (passing_none test next until none))
    ∙ sym (passing_split test from next until order ends))

-- the registers on both sides of the one that takes an answer
pub sides_pass :
    (answer : Option ℕ) (test : ℕ → Bool) (bound until from : ℕ) → AreSides answer bound until from →
    passing test 0 until ++ passing test from bound ≡ passing (λ r. not (takes_answer answer r) && test r) 0 bound
sides_pass answer test bound until from sides =
    let order = sides.order in
    let ends = sides.ends in
    let but : ℕ → Bool = λ r. not (takes_answer answer r) && test r in
    let kept : (r : ℕ) → takes_answer answer r ≡ false → test r ≡ but r = λ r is. sym (ap (λ b. not b && test r) is) in
    ap (λ rs. rs ++ passing test from bound) (passing_same test but 0 until (λ r low high. kept r (sides.below r high)))
    ∙ ap (λ rs. passing but 0 until ++ rs)
    (passing_same test but from bound (λ r low high. kept r (sides.above r low high))
    ∙ ap (λ rs. rs ++ passing but from bound) (sym (passing_none but until from (λ r low high. ap (λ b. not b && test r) (sides.between r low high))))
    ∙ sym (passing_split but until from bound order ends))
    ∙ sym (passing_split but 0 until bound (omega arith) (omega arith))

-- Pointers

has_zeros : (words r : ℕ) → has (replicate words 0) r ≡ false
unfolding has
has_zeros words r = ap (λ v. eqb (bit_at v (r % 64)) 1) (zeros words (r / 64)) ∙ ap (λ b. eqb b 1) (bit_at-zero (r % 64)) where
  zeros : (n i : ℕ) → ◌≡◌ {A = ℕ} (get_or (replicate n 0) i 0) 0
  zeros zero i = refl
  zeros (suc n) zero = refl
  zeros (suc n) (suc i) = zeros n i

pub marks_it : (pointer : Bool) (register : ℕ) (old new : List ℕ) → pointer ≡ true → Adds (λ r. eqb register r) old new → Adds (λ r. pointer && eqb register r) old new
marks_it pointer register old new is adds = record {
  words = adds.words;
  bits = λ r less. adds.bits r less ∙ ap (λ b. (b && eqb register r) || has old r) (sym is);
}

pub marks_none : (pointer : Bool) (register : ℕ) (old : List ℕ) → pointer ≡ false → Adds (λ r. pointer && eqb register r) old old
marks_none pointer register old is = record {
  words = refl;
  bits = λ r less. ap (λ b. (b && eqb register r) || has old r) (sym is);
}

-- the registers below one are marked, if they are for pointers
pub record Marked (func : Func) (n : ℕ) (pointers : List ℕ) : Type 0 where
  pub words : length pointers ≡ words_of func
  pub done : (r : ℕ) → r < n → r < 64 * length pointers → has pointers r ≡ holds_pointer func r
  pub rest : (r : ℕ) → n ≤ r → r < 64 * length pointers → has pointers r ≡ false

pub empty_words : (func : Func) (set : List ℕ) (registers : ℕ) → registers ≡ length func.regs → set ≡ replicate (div_ceil registers 64) 0 → length set ≡ words_of func
empty_words func set registers all is = ap length is ∙ length-replicate (div_ceil registers 64) 0 ∙ ap (λ n. div_ceil n 64) all

pub marked_none : (func : Func) (set : List ℕ) (registers : ℕ) → registers ≡ length func.regs → set ≡ replicate (div_ceil registers 64) 0 → Marked func 0 set
marked_none func set registers all is = record {
  words = empty_words func set registers all is;
  done = λ r b. absurd (omega arith);
  rest = λ r past less. ap (λ x. has x r) is ∙ has_zeros (div_ceil registers 64) r;
}

pub marked_more :
    (func : Func) (regs : List Register) (n : ℕ) (reg : Register) (register : ℕ) (old new : List ℕ) → regs ≡ func.regs → n < length regs → reg ≡ get_or regs n reg →
    register ≡ n → Marked func n old → Adds (λ r. reg.pointer && eqb register r) old new → Marked func (n + 1) new
marked_more func regs n reg register old new all inside is at m adds = record {
  words = adds.words ∙ m.words;
  done = λ r b less.
      let long = adds.words in
      ⊎_elim
      (λ (here : r ≡ n).
      adds.bits r (omega arith)
      ∙ ap (λ b. (reg.pointer && b) || has old r) (eq-eqb register r (at ∙ sym here))
      ∙ ap (λ b. (reg.pointer && true) || b) (m.rest r (omega arith) (omega arith))
      ∙ both reg.pointer
      ∙ sym register_is
      ∙ ap (holds_pointer func) (sym here))
      (λ (there : r ≡ n → ⊥).
      adds.bits r (omega arith)
      ∙ ap (λ b. (reg.pointer && b) || has old r) (ne_eqb register r (λ e. there (sym e ∙ at)))
      ∙ neither reg.pointer (has old r)
      ∙ m.done r (omega arith) (omega arith))
      (cases_eq r n);
  rest = λ r past less.
      let long = adds.words in
      adds.bits r (omega arith)
      ∙ ap (λ b. (reg.pointer && b) || has old r) (ne_eqb register r (λ e. omega arith))
      ∙ neither reg.pointer (has old r)
      ∙ m.rest r (omega arith) (omega arith);
} where
  both : (b : Bool) → ((b && true) || false) ≡ b
  both true = refl
  both false = refl

  neither : (b c : Bool) → ((b && false) || c) ≡ c
  neither true c = refl
  neither false c = refl

  register_is : holds_pointer func n ≡ reg.pointer
  register_is =
      let there : slice_get regs n ≡ Some reg = slice_get_read regs (length regs) n reg refl inside is in
      ap (λ (o : Option Register). option_map_or (λ (k : Register). k.pointer) o false) (subst (λ (rs : List Register). slice_get rs n ≡ Some reg) all there)

pub marked_all : (func : Func) (n : ℕ) (pointers : List ℕ) → n ≡ length func.regs → Marked func n pointers → HasPointers pointers func
marked_all func n pointers all m = record {
  words = m.words;
  exact = λ r less.
      ⊎_elim
      (λ (b : r < n). m.done r b less)
      (λ (past : n ≤ r).
      m.rest r past less ∙ sym (ap (λ (o : Option Register). option_map_or (λ (reg : Register). reg.pointer) o false) (slice_get_past func.regs r (omega arith))))
      (cases_lt r n);
}

-- Registers that count

swapped : (a b : Bool) → (a && b) ≡ (b && a)
swapped true true = refl
swapped true false = refl
swapped false true = refl
swapped false false = refl

counts_is : (func : Func) (point : ℕ) (kind : StmKind) (r : ℕ) → may_count kind ≡ true → counts_at func point kind r ≡ (is_there kind r && holds_on func point r)
counts_is func point (Call f answer args) r h = swapped (holds_on func point r) (is_there (Call f answer args) r)
counts_is func point (Realloc q p n t) r h = refl
counts_is func point (Free p) r h = refl
counts_is func point Leave r h = refl
counts_is func point _ r h = cc

same_bools : (a b : Bool) → (a ≡ true → b ≡ true) → (b ≡ true → a ≡ true) → a ≡ b
same_bools true b f g = sym (f refl)
same_bools false true f g = g refl
same_bools false false f g = refl

pub counting_is :
    LiveByPaths → (func : Func) (point : ℕ) (kind : StmKind) (answer : Option ℕ) (pointers live : List ℕ) (bound : ℕ) → may_count kind ≡ true → HasPointers pointers func →
    HasLive live func point → bound ≡ length func.regs → ((r : ℕ) → is_there kind r ≡ not (takes_answer answer r)) →
    passing (λ r. not (takes_answer answer r) && in_both pointers live r) 0 bound ≡ filter (counts_at func point kind) (range_with_len 0 (length func.regs))
counting_is paths func point kind answer pointers live bound may marked is_live_set all there =
    passing_same (λ r. not (takes_answer answer r) && in_both pointers live r) (counts_at func point kind) 0 bound same ∙ ap (λ n. filter (counts_at func point kind) (range_with_len 0 n)) long
  where
    long : bound - 0 ≡ length func.regs
    long = omega arith

    same : (r : ℕ) → 0 ≤ r → r < bound → (not (takes_answer answer r) && in_both pointers live r) ≡ counts_at func point kind r
    same r low high =
        let room = is_live_set.room in
        let words = is_live_set.words in
        let other = marked.words in
        let less : r < 64 * length live = omega arith in
        let exact = is_live_set.exact r less in
        let live_is : has live r ≡ is_live func.body point r =
        same_bools (has live r) (is_live func.body point r) (λ h. (paths func.body point r).1 (exact.0 h)) (λ h. exact.1 ((paths func.body point r).0 h)) in
        ap (λ b. b && in_both pointers live r) (sym (there r))
        ∙ ap (λ b. is_there kind r && (b && has live r)) (marked.exact r (omega arith))
        ∙ ap (λ b. is_there kind r && (holds_pointer func r && b)) live_is
        ∙ sym (counts_is func point kind r may)
