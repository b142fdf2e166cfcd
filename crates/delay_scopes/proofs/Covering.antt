-- The pointers inside the queued objects are taken off, object by object.
use Rattle.std.proofs.Common.{◌≡◌, ◌≤◌, ◌<◌, ◌+◌, ◌*◌, ℕ, List, length, get_or, take, sym, ap, ◌∙◌, subst, arith}
use Rattle.std.specs.List.{sum_by}
use Rattle.std.proofs.lemmas.List.Sums.{sum_by_more}
use Rattle.heap_blocks.specs.Heads.{header_at}
use Rattle.adjusters.specs.ObjectSlots.{Element}
use Rattle.count_table.specs.Table.{Table}
use Rattle.delay_scopes.specs.Queue.{ScopesModel, block_in}
use Rattle.delay_scopes.specs.Pointers.{LowersBy, slots_of, words_in, words_inside}
use Rattle.delay_scopes.specs.Walks.{AreCovered, IsCovered}
use Rattle.delay_scopes.proofs.Chaining.{in_queue, object_inside, object_is, next_is}
use Rattle.delay_scopes.specs.PointersEquations.{covers_object, lowers_object}

-- the steps for an object: its size, its layout and the next block, and two for each slot
abbrev pub steps_off : List Element → List ℕ → ℕ → ℕ
steps_off forms bytes addr = 3 + 2 * length (slots_of forms bytes addr)

-- before a block in the queue, the pointers inside the objects before it are taken off
pub record AreOff (bytes : List ℕ) (forms : List Element) (queue : List ℕ) (before now : Table) (start steps k block : ℕ) : Type 0 where
  pub at : block ≡ block_in queue k
  pub lowered : LowersBy (words_inside forms bytes (take k queue)) before now
  pub work : steps ≤ start + sum_by (steps_off forms bytes) (take k queue)

module _ (scopes : ScopesModel) (bytes : List ℕ) (before : Table) (forms : List Element) (queue : List ℕ) (covered : AreCovered scopes bytes before forms queue) where
  module _ (now : Table) (start steps k block : ℕ) (below : k < scopes.waiting) (off : AreOff bytes forms queue before now start steps k block) where
    pub object_covered : (addr : ℕ) → addr ≡ block + 32 → IsCovered bytes now forms addr
    object_covered addr is =
        let within = in_queue scopes bytes queue covered.chain k block below off.at in
        let same : get_or queue k 0 ≡ addr = sym (is ∙ object_is scopes bytes queue covered.chain k block below off.at) in
        subst (IsCovered bytes now forms) same
        (record {
          inside = object_inside scopes bytes queue covered.chain k block below off.at;
          form = covered.known k 0 within;
          covered = covers_object (words_in forms bytes) queue k before now within covered.covered off.lowered;
        })

    pub off_more : (after : Table) (addr middle done next : ℕ) → addr ≡ block + 32 → LowersBy (words_in forms bytes addr) now after → middle ≤ steps + (2 + 2 * length (slots_of forms bytes addr)) → done ≡ middle + 1 → next ≡ (header_at bytes block).next
        → AreOff bytes forms queue before after start done (k + 1) next
    off_more after addr middle done next is lowered work one read =
        let within = in_queue scopes bytes queue covered.chain k block below off.at in
        let same : addr ≡ get_or queue k 0 = is ∙ object_is scopes bytes queue covered.chain k block below off.at in
        let slots : length (slots_of forms bytes addr) ≡ length (slots_of forms bytes (get_or queue k 0)) = ap (λ a. length (slots_of forms bytes a)) same in
        let more = sum_by_more (steps_off forms bytes) queue k 0 within in
        record {
          at = next_is scopes bytes queue covered.chain k block below off.at next read;
          lowered = lowers_object (words_in forms bytes) queue k before now after within off.lowered (subst (λ a. LowersBy (words_in forms bytes a) now after) same lowered);
          work = omega (arith, off.work);
        }
