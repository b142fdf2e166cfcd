-- Scopes, and the check where the outermost one is closed.
use Rattle.std.specs.Prelude.{ℕ, zero, suc, ◌+◌, Bool, List, [], ◌++◌, map, Option, Some, None}
use Rattle.hs_base.specs.declared.ends.Reason.TheVariants as reason
use Rattle.hs_base.specs.Freeing.{first_held, line_of_free, buried}
use Rattle.hs_base.specs.Object.{object_at}
use Rattle.hs_base.specs.State.{State}
use Rattle.hs_base.specs.Trace.{Event, Gone, BadFree, Dangling}
use Rattle.core_tree.specs.declared.program.Core.{Core}
use Rattle.object_meaning.specs.objects.Going.{Next, goes, stops, stops_after, onward}
use Rattle.object_meaning.specs.objects.Holding.{holders, is_some_held, first_of}

-- does a pointer that counts hold a queued object? those inside the queued objects do not count
abbrev pub is_held : Core → State → ℕ → Bool
is_held core s birth = is_some_held (holders core s birth s.queue)

-- all queued objects are dead
abbrev pub bury : State → State
bury s = record s { objects = buried s.objects; queue = []; scopes = 0 }

-- the queued objects are given back in their order, or the first that is held stops the run with the line of its free
abbrev pub decided : Core → Option ℕ → State → List Event → State → Next
decided core None before events s = goes before (events ++ map Gone s.queue) (onward (bury s))
decided core (Some birth) before events s =
    stops_after before events s (BadFree reason.Held (line_of_free (object_at s.objects birth).standing) (first_of (holders core s birth s.queue)))

-- the check: the first of the queue that is held decides
abbrev pub checked : Core → State → List Event → State → Next
checked core before events s = decided core (first_held (is_held core s) s.queue) before events s

-- a scope is opened
abbrev pub enter : State → Next
enter s = goes s [] (onward (record s { scopes = s.scopes + 1 }))

-- the outermost scope is closed with a check
abbrev pub leave : Core → ℕ → State → Next
leave core zero s = stops s Dangling
leave core (suc zero) s = checked core s [] s
leave core (suc (suc n)) s = goes s [] (onward (record s { scopes = suc n }))

-- a free goes on, or where no scope is open it has one of its own
abbrev pub in_scope : Core → ℕ → State → List Event → State → Next
in_scope core zero before events s = checked core before events (record s { scopes = 1 })
in_scope core (suc n) before events s = goes before events (onward s)
