-- What a list of events makes of a world. An event whose conditions do not hold is passed over.
use Rattle.std.specs.Prelude.{ℕ, ◌+◌, ◌^◌, Bool, false, ◌&&◌, nat_le, List, [], ◌∷◌, slice_get, Option, None, Some, is_some, if◌then◌else◌}
use Rattle.hp_cpu.specs.hp_flat.Step.{is_running}
use Rattle.mpe_overlay.specs.Codes.{key_of, segment_at}
use Rattle.mpe_worlds.specs.declared.event.Event.{Event}
use Rattle.mpe_worlds.specs.declared.event.Event.TheVariants.{Turn, Evict}
use Rattle.mpe_worlds.specs.Worlds.{Run, World}
use Rattle.mpe_worlds.specs.Turns.{turned, evicted}

-- a world in which events happen: the steps that its turns were given in all, and how many events were not passed over
pub record Played : Type 0 where
  pub world : World
  pub spent : ℕ
  pub count : ℕ

-- whether there is a session and it has not ended
abbrev pub is_live_run : Option Run → Bool
is_live_run None = false
is_live_run (Some r) = is_running r.machine.ending

-- a turn is of a live session, has at least one step, and all turns have at most 2 ^ 60
abbrev pub may_turn : Played → ℕ → ℕ → Bool
may_turn p who quantum = is_live_run (slice_get p.world.runs who) && nat_le 1 quantum && nat_le (p.spent + quantum) (2 ^ 60)

-- an eviction is of a segment that exists
abbrev pub may_evict : List (List (List ℕ)) → ℕ → ℕ → Bool
may_evict codes program seg = is_some (segment_at codes (key_of program seg))

-- an event happens, or is passed over
unfoldable pub happened : List (List (List ℕ)) → Event → Played → Played
happened codes (Turn who quantum) p =
    if may_turn p who quantum
    then record { world = turned codes who quantum p.world; spent = p.spent + quantum; count = p.count + 1 }
    else p
happened codes (Evict program seg) p =
    if may_evict codes program seg
    then record { world = evicted program seg p.world; spent = p.spent; count = p.count + 1 }
    else p

-- events in order
abbrev pub played : List (List (List ℕ)) → Played → List Event → Played
played codes p [] = p
played codes p (e ∷ es) = played codes (happened codes e p) es
