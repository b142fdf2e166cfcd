-- Blocks and objects that are held, for those who place them and give them back.
use Rattle.std.proofs.Common.{◌≡◌, ◌≢◌, ◌<◌, ℕ, zero, suc, Bool, true, not, List, [], ◌∷◌, length, get_or, Option, Some, None, sym, subst, arith, inl, inr, ap}
use Rattle.std.specs.Prelude.{All, Contains, filter, nat_eq, option_map}
use Rattle.std.proofs.lemmas.Bool.{cases_Bool, cond-true, cond-false, ne_eqb}
use Rattle.std.proofs.lemmas.List.Elements.{Contains-append_left, Contains-push}
use Rattle.std.proofs.lemmas.List.Kept.{AllPairs-filter}
use Rattle.std.proofs.lemmas.List.Quantifiers.{all_pairs_push}
use Rattle.std.proofs.lemmas.Option.{same_Some, none-some}
use Rattle.hs_base.specs.Place.{Block, block_size, with_block, without_block}
use Rattle.heap_blocks.specs.Held.{HeapModel, HasHeaders, HaveOwnBirths, Holds, IsNewObject, address_of}

-- a block that is held stays so where another is placed
pub still_held : (held : List Block) (b : Block) (birth n : ℕ) (fit : Option ℕ) → Contains held b → Contains (with_block held birth n fit) b
still_held held b birth n None h = h
still_held held b birth n (Some place) h = Contains-append_left held (record { birth = birth; place = place; length = n } ∷ []) b h

kept_at : (keeps : Block → Bool) (held : List Block) (b : Block) (k : ℕ) → k < length held → get_or held k b ≡ b → keeps b ≡ true → Contains (filter keeps held) b
kept_at keeps [] b k below same kept = absurd (omega arith)
kept_at keeps (c ∷ held) b zero below same kept =
    let first : keeps c ≡ true = subst (λ d. keeps d ≡ true) (sym same) kept in
    subst (λ l. Contains l b) (sym (cond-true (keeps c) (c ∷ filter keeps held) (filter keeps held) first)) (0, omega arith, same)
kept_at keeps (c ∷ held) b (suc k) below same kept =
    let rest = kept_at keeps held b k (omega arith) same kept in
    elim (cases_Bool (keeps c)) [
      | inl stays ↦ subst (λ l. Contains l b) (sym (cond-true (keeps c) (c ∷ filter keeps held) (filter keeps held) stays)) (suc rest.0, omega arith, rest.2)
      | inr goes ↦ subst (λ l. Contains l b) (sym (cond-false (keeps c) (c ∷ filter keeps held) (filter keeps held) goes)) rest
    ]

-- and where another is given back
pub held_without : (held : List Block) (b : Block) (birth : ℕ) → Contains held b → b.birth ≢ birth → Contains (without_block held birth) b
held_without held b birth (k, below, same) other =
    kept_at (λ c. not (nat_eq c.birth birth)) held b k below same (ap not (ne_eqb b.birth birth other))

-- births stay their own, where a new one is none of those before
pub births_with : (held : List Block) (birth n : ℕ) (fit : Option ℕ) → HaveOwnBirths held → All (λ c. c.birth ≢ birth) held → HaveOwnBirths (with_block held birth n fit)
births_with held birth n None births new = births
births_with held birth n (Some place) births new =
    all_pairs_push (λ (a b : Block). a.birth ≢ b.birth) held (record { birth = birth; place = place; length = n }) births new

pub births_without : (held : List Block) (birth : ℕ) → HaveOwnBirths held → HaveOwnBirths (without_block held birth)
births_without held birth births =
    AllPairs-filter (λ (a b : Block). a.birth ≢ b.birth) (λ c. not (nat_eq c.birth birth)) held births

-- the object that was placed, by what a placement says of heap and bytes
pub new_object : (heap : HeapModel) (bytes : List ℕ) (held : List Block) (birth size addr : ℕ) (fit : Option ℕ) → Some addr ≡ option_map (address_of heap) fit
    → Holds heap (with_block held birth (block_size size) fit) → HasHeaders heap.base bytes (with_block held birth (block_size size) fit) → IsNewObject heap bytes held birth size addr
new_object heap bytes held birth size addr None e holds headers = absurd (none-some addr (sym e))
new_object heap bytes held birth size addr (Some place) e holds headers =
    let b : Block = record { birth = birth; place = place; length = block_size size } in (
      place,
      record { holds = holds; headers = headers; contains = Contains-push held b; address = same_Some addr (address_of heap place) e },
    )
