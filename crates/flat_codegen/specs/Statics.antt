-- The statics of code.
use Rattle.std.specs.Prelude.{◌≡◌, ℕ, List, Some, length, slice_get, IsPermutation, IsSortedByKey}
use Rattle.std.specs.Ordering.{nat_cmp}
use Rattle.core_tree.specs.declared.program.Static.{Static}
use Rattle.flat_code.specs.declared.program.StaticInit.{StaticInit}
use Rattle.object_meaning.specs.compiled.Compiled.{IsTrimmed}

-- what a static holds first, where its layout has this number
pub record IsInit (layout : ℕ) (static : Static) (init : StaticInit) : Type 0 where
  pub layout_is : init.layout ≡ layout
  pub bytes : IsTrimmed static.start.bytes init.bytes
  pub same_pointers : IsPermutation static.start.pointers init.pointers
  pub by_slots : IsSortedByKey (λ (p : ℕ × ℕ × ℕ). p.0) nat_cmp init.pointers

-- what some statics hold first, where the layout of each has its own number
pub record AreInits (statics : List Static) (inits : List StaticInit) : Type 0 where
  pub count : length inits ≡ length statics
  pub each : (k : ℕ) (static : Static) → slice_get statics k ≡ Some static → (init : StaticInit) × (slice_get inits k ≡ Some init) × IsInit k static init
