-- In which range an address of an object lies.
use Rattle.std.proofs.Common.{◌≡◌, ◌<◌, ◌≤◌, ℕ, List, refl, arith}
use Rattle.hs_base.specs.Object as object
use Rattle.hs_base.specs.Object.{Object, Sort, object_at}
use Rattle.flat_objects.specs.declared.holders.Storage.TheVariants as storage
use Rattle.flat_objects.specs.Memory.{Memory, IsMemory, heap_of, range_of}
use Rattle.flat_objects.specs.Holders.{IsKeptObject, storage_of}
use Rattle.flat_objects.proofs.Owners.{LiesIn, own_lies}

module _ (locals heap : ℕ) (memory : Memory) (shape : IsMemory locals heap memory) (addr size : ℕ) where
  lies_static : (s : Sort) → LiesIn (heap_of memory (range_of s)) addr size → addr < locals → storage.Static ≡ storage_of s
  lies_static (object.Static index) lies below = refl
  lies_static (object.Local func index) lies below = absurd (omega (arith, lies.above, shape.locals_from))
  lies_static (object.Heap line) lies below = absurd (omega (arith, lies.above, shape.locals_from, shape.locals_end, shape.heap_from))

  lies_local : (s : Sort) → LiesIn (heap_of memory (range_of s)) addr size → locals ≤ addr → addr < heap → storage.Local ≡ storage_of s
  lies_local (object.Static index) lies above below = absurd (omega (arith, lies.below, shape.statics_end))
  lies_local (object.Local func index) lies above below = refl
  lies_local (object.Heap line) lies above below = absurd (omega (arith, lies.above, shape.heap_from))

  lies_block : (s : Sort) → LiesIn (heap_of memory (range_of s)) addr size → heap ≤ addr → storage.Block ≡ storage_of s
  lies_block (object.Static index) lies above = absurd (omega (arith, lies.below, shape.statics_end, shape.locals_from, shape.locals_end))
  lies_block (object.Local func index) lies above = absurd (omega (arith, lies.below, shape.locals_end))
  lies_block (object.Heap line) lies above = refl

module _ (locals heap : ℕ) (memory : Memory) (shape : IsMemory locals heap memory) (places : ℕ → ℕ) (objects : List Object) (birth addr : ℕ) (kept : IsKeptObject memory places objects birth addr) where
  lies : LiesIn (heap_of memory (range_of (object_at objects birth).sort)) addr (object_at objects birth).size
  lies =
      let own = own_lies memory places objects kept.keeps birth kept.there in
      record { above = omega (arith, own.above, kept.address); below = omega (arith, own.below, kept.address) }

  pub stands_static : addr < locals → storage.Static ≡ storage_of (object_at objects birth).sort
  stands_static below =
      lies_static locals heap memory shape addr (object_at objects birth).size (object_at objects birth).sort lies below

  pub stands_local : locals ≤ addr → addr < heap → storage.Local ≡ storage_of (object_at objects birth).sort
  stands_local above below =
      lies_local locals heap memory shape addr (object_at objects birth).size (object_at objects birth).sort lies above below

  pub stands_block : heap ≤ addr → storage.Block ≡ storage_of (object_at objects birth).sort
  stands_block above =
      lies_block locals heap memory shape addr (object_at objects birth).size (object_at objects birth).sort lies above
