-- Events one by one.
use Rattle.std.proofs.Common.{◌≡◌, ℕ, ◌+◌, ◌<◌, ◌≤◌, Bool, true, false, List, length, get_or, drop, Option, None, Some, refl, sym, ap, ◌∙◌}
use Rattle.std.specs.Prelude.{◌&&◌, IsSomeAnd, option_map, slice_get}
use Rattle.std.proofs.lemmas.Bool.{and_parts}
use Rattle.std.proofs.lemmas.List.{at_drop_all, at_drop_more}
use Rattle.std.proofs.lemmas.Option.{slice_get-map}
use Rattle.hp_word.specs.declared.endings.Ending.{Ending}
use Rattle.hp_word.specs.declared.endings.Ending.TheVariants.{Running, Terminated, Quit, Trapped}
use Rattle.mpe_worlds.specs.hp_flat.Step.{is_running}
use Rattle.mpe_worlds.specs.declared.event.Event.{Event}
use Rattle.mpe_worlds.specs.declared.event.Event.TheVariants.{Turn, Evict}
use Rattle.mpe_worlds.specs.Turns.{evicted, turned}
use Rattle.mpe_worlds.specs.Events.{Played, happened, is_live_run, may_evict, may_turn, played}
use Rattle.mpe_turns.specs.declared.session.Session.{Session}
use Rattle.mpe_turns.specs.Stands.{runs_of}
use Rattle.mpe_turns.proofs.TurnLemmas.{shown}

module _ (codes : List (List (List ℕ))) (p : Played) where
  pub turn_over : (who quantum : ℕ) → may_turn p who quantum ≡ false → p ≡ happened codes (Turn who quantum) p
  unfolding happened
  turn_over who quantum may = rw may refl

  pub turn_on : (who quantum : ℕ) → may_turn p who quantum ≡ true
      → record { world = turned codes who quantum p.world; spent = p.spent + quantum; count = p.count + 1 } ≡ happened codes (Turn who quantum) p
  unfolding happened
  turn_on who quantum may = rw may refl

  pub evict_over : (program seg : ℕ) → may_evict codes program seg ≡ false → p ≡ happened codes (Evict program seg) p
  unfolding happened
  evict_over program seg may = rw may refl

  pub evict_on : (program seg : ℕ) → may_evict codes program seg ≡ true
      → record { world = evicted program seg p.world; spent = p.spent; count = p.count + 1 } ≡ happened codes (Evict program seg) p
  unfolding happened
  evict_on program seg may = rw may refl

-- only one ending is that of a session that runs
runs_so : (e : Ending) → is_running e ≡ true → e ≡ Running
runs_so Running h = refl
runs_so Terminated h = cc
runs_so (Quit n) h = cc
runs_so (Trapped t) h = cc

-- a turn that may happen is of a session that lives
pub live_so : (codes : List (List (List ℕ))) (sessions : List Session) (who : ℕ) (some few : Bool)
    → (is_live_run (slice_get (runs_of codes sessions) who) && some && few) ≡ true
    → IsSomeAnd (slice_get sessions who) (λ s. s.ending ≡ Running)
live_so codes sessions who some few may = by (slice_get sessions who) live where
  live : is_live_run (option_map (shown codes) (slice_get sessions who)) ≡ true
  live = ap is_live_run (sym (slice_get-map (shown codes) sessions who))
      ∙ (and_parts _ some (and_parts (is_live_run (slice_get (runs_of codes sessions) who) && some) few may).0).0

  by : (o : Option Session) → is_live_run (option_map (shown codes) o) ≡ true → IsSomeAnd o (λ s. s.ending ≡ Running)
  by None h = cc
  by (Some s) h = runs_so s.ending h

-- one event more of a list
pub played_more : (codes : List (List (List ℕ))) (events : List Event) (i : ℕ) (d : Event) (p q : Played) → i < length events
    → q ≡ happened codes (get_or events i d) p → played codes q (drop (i + 1) events) ≡ played codes p (drop i events)
played_more codes events i d p q lt on =
    ap (λ (z : Played). played codes z (drop (i + 1) events)) on ∙ sym (at_drop_more (played codes p) events i d lt)

pub played_all : (codes : List (List (List ℕ))) (events : List Event) (i : ℕ) (p : Played) → length events ≤ i → played codes p (drop i events) ≡ p
played_all codes events i p le = at_drop_all (played codes p) events i le
