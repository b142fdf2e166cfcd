-- An object is grown, step by step.
use Rattle.std.proofs.Common.{◌≡◌, true, ℕ, List, map, Option, None, Result, Ok, Some, length, min, refl, sym, ap, ◌∙◌, subst}
use Rattle.hs_base.specs.State.{State}
use Rattle.hs_base.specs.Freeing.{first_held}
use Rattle.hs_base.specs.Trace.{Event, Gone}
use Rattle.hs_base.specs.Access.{Refusal}
use Rattle.hs_base.specs.Object.{Object, object_at}
use Rattle.c_types.specs.declared.layouts.Layout.{Layout}
use Rattle.core_tree.specs.declared.program.Core.{Core}
use Rattle.object_meaning.specs.objects.Values.{address, start_of}
use Rattle.object_meaning.specs.objects.Going.{onward, put, with_objects}
use Rattle.object_meaning.specs.objects.Making.{with_new}
use Rattle.object_meaning.specs.objects.Memory.{copied}
use Rattle.object_meaning.specs.objects.Scoping.{is_held, bury, decided, checked, in_scope}
use Rattle.object_meaning.specs.objects.Heap.{birth_of, enqueue, grown, grow_old}
use Rattle.meaning_state.specs.Fitting.{Held, held_after}
use Rattle.meaning_run.specs.declared.halt.Halt.{Halt}
use Rattle.meaning_run.specs.Leading.{with_input, IsSilent, AlonePlaced}
use Rattle.meaning_run.proofs.Silent.{out_gone, in_gone}
use Rattle.meaning_run.proofs.Quiet.{held_append}

pub grown_is : (core : Core) (line r old size : ℕ) (element : Layout) (s : State) (left : List ℕ) (base held held' : Held) (a b c d new : State) (result : Result Unit Halt) → a ≡ with_new line size element s → copied a.objects (start_of (length s.objects)) (start_of old) (min (object_at s.objects old).size size) ≡ Ok b.objects → b ≡ with_objects a b.objects → c ≡ enqueue line old b → d ≡ put c (Some r) (address (start_of (length s.objects))) → held ≡ held_after base (birth_of line size s) → ((before : State) (events : List Event) (base : Held) → IsSilent events → held ≡ held_after base events → AlonePlaced left (in_scope core d.scopes before events (with_input left d)) new base held' result) → AlonePlaced left (grow_old true core line r old size element (with_input left s)) new base held' result
grown_is core line r old size element s left base held held' a b c d new result made is same queued written placed alone =
    let at = with_input left s in
    let t = with_new line size element at in
    let whole : State = put (enqueue line old (with_objects (with_new line size element s) b.objects)) (Some r) (address (start_of (length s.objects))) in
    let d_is : d ≡ whole =
    written ∙ ap (λ (x : State). put x (Some r) (address (start_of (length s.objects)))) (queued ∙ ap (λ (x : State). enqueue line old x) (same ∙ ap (λ (x : State). with_objects x b.objects) made)) in
    let there : AlonePlaced left (in_scope core whole.scopes at (birth_of line size at) (with_input left whole)) new base held' result =
    subst (λ (x : State). AlonePlaced left (in_scope core x.scopes at (birth_of line size at) (with_input left x)) new base held' result) d_is (alone at (birth_of line size at) base (refl, refl) placed) in
    let copy_is : copied (with_new line size element s).objects (start_of (length s.objects)) (start_of old) (min (object_at s.objects old).size size) ≡ Ok b.objects =
    ap (λ (x : State). copied x.objects (start_of (length s.objects)) (start_of old) (min (object_at s.objects old).size size)) (sym made) ∙ is in
    subst (λ (x : Result (List Object) Refusal). AlonePlaced left (grown core line r size old at t x) new base held' result) (sym copy_is) there

-- The check finds no holder, and the blocks of the queued objects are held no longer

pub checked_none : (core : Core) (before : State) (events : List Event) (s new : State) (left : List ℕ) (base held held' : Held) → first_held (is_held core s) s.queue ≡ None → IsSilent events → new ≡ onward (bury s) → held ≡ held_after base events → held' ≡ held_after held (map Gone s.queue) → AlonePlaced left (checked core before events (with_input left s)) new base held' (Ok tt)
checked_none core before events s new left base held held' none silent is placed given =
    let gone : AlonePlaced left (decided core None before events (with_input left s)) new base held' (Ok tt) =
    (((out_gone events s.queue silent.0, in_gone events s.queue silent.1), ap (with_input left) (sym is)), given ∙ ap (λ (h : Held). held_after h (map Gone s.queue)) placed ∙ held_append base events (map Gone s.queue)) in
    subst (λ (o : Option ℕ). AlonePlaced left (decided core o before events (with_input left s)) new base held' (Ok tt)) (sym none) gone
