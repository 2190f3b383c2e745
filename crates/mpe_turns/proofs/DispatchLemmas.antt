-- Which session is next, by sessions.
use Rattle.std.proofs.Common.{◌≡◌, ℕ, ◌+◌, ◌<◌, ◌≤◌, Bool, false, List, [], ◌∷◌, length, get_or, drop, map, Option, None, Some, refl, sym, ap, ◌∙◌, arith}
use Rattle.std.specs.Prelude.{if◌then◌else◌}
use Rattle.std.proofs.lemmas.List.{at_drop_all, at_drop_more, get_or-map, length-map}
use Rattle.hp_word.specs.declared.endings.Ending.{Ending}
use Rattle.hp_word.specs.declared.endings.Ending.TheVariants.{Running, Terminated, Quit, Trapped}
use Rattle.mpe_worlds.specs.hp_flat.Step.{is_running}
use Rattle.mpe_worlds.specs.Worlds.{Run}
use Rattle.mpe_worlds.specs.Dispatch.{first_live, next_among, or_else}
use Rattle.mpe_turns.specs.declared.session.Session.{Session}
use Rattle.mpe_turns.specs.Stands.{runs_of}

-- how each session stands
abbrev pub endings : List Session → List Ending
endings sessions = map (λ s. s.ending) sessions

-- the endings of the world are those of the sessions
pub endings_are : (codes : List (List (List ℕ))) (sessions : List Session) → map (λ (r : Run). r.machine.ending) (runs_of codes sessions) ≡ endings sessions
endings_are codes [] = refl
endings_are codes (s ∷ sessions) = ap (λ (es : List Ending). s.ending ∷ es) (endings_are codes sessions)

-- so the session that is next is found in two searches
pub next_is : (codes : List (List (List ℕ))) (sessions : List Session) (last : ℕ)
    → next_among last (map (λ (r : Run). r.machine.ending) (runs_of codes sessions))
    ≡ or_else (first_live (last + 1) (drop (last + 1) (endings sessions))) (first_live 0 (endings sessions))
next_is codes sessions last = ap (next_among last) (endings_are codes sessions)

pub next_first : (codes : List (List (List ℕ))) (sessions : List Session) (last : ℕ) (found : Option ℕ)
    → found ≡ first_live (last + 1) (drop (last + 1) (endings sessions)) → (found ≡ None → ⊥)
    → found ≡ next_among last (map (λ (r : Run). r.machine.ending) (runs_of codes sessions))
next_first codes sessions last None is other = absurd (other refl)
next_first codes sessions last (Some n) is other =
    sym (next_is codes sessions last ∙ ap (λ (o : Option ℕ). or_else o (first_live 0 (endings sessions))) (sym is))

pub next_second : (codes : List (List (List ℕ))) (sessions : List Session) (last : ℕ) (first found : Option ℕ)
    → first ≡ first_live (last + 1) (drop (last + 1) (endings sessions)) → first ≡ None → found ≡ first_live 0 (drop 0 (endings sessions))
    → found ≡ next_among last (map (λ (r : Run). r.machine.ending) (runs_of codes sessions))
next_second codes sessions last first found is none second =
    second ∙ sym (next_is codes sessions last ∙ ap (λ (o : Option ℕ). or_else o (first_live 0 (endings sessions))) (sym is ∙ none))

-- only one ending is that of a session that runs
not_running : (e : Ending) → (e ≡ Running → ⊥) → is_running e ≡ false
not_running Running other = absurd (other refl)
not_running Terminated other = refl
not_running (Quit n) other = refl
not_running (Trapped t) other = refl

module _ (sessions : List Session) (i : ℕ) (s : Session) (lt : i < length sessions) (is : s ≡ get_or sessions i s) where
  ending_at : get_or (endings sessions) i Running ≡ s.ending
  ending_at = get_or-map (λ (x : Session). x.ending) sessions i s Running lt ∙ ap (λ (x : Session). x.ending) (sym is)

  more : first_live i (drop i (endings sessions)) ≡ first_live i (s.ending ∷ drop (i + 1) (endings sessions))
  more = at_drop_more (first_live i) (endings sessions) i Running (omega (arith, length-map sessions (λ (x : Session). x.ending)))
      ∙ ap (λ (e : Ending). first_live i (e ∷ drop (i + 1) (endings sessions))) ending_at

  pub live_here : s.ending ≡ Running → first_live i (drop i (endings sessions)) ≡ Some i
  live_here runs = more ∙ ap (λ (e : Ending). first_live i (e ∷ drop (i + 1) (endings sessions))) runs

  pub live_beyond : (s.ending ≡ Running → ⊥) → first_live (i + 1) (drop (i + 1) (endings sessions)) ≡ first_live i (drop i (endings sessions))
  live_beyond other = sym (more ∙ ap (λ (b : Bool). if b then Some i else first_live (i + 1) (drop (i + 1) (endings sessions))) (not_running s.ending other))

pub live_nowhere : (sessions : List Session) (i : ℕ) → length sessions ≤ i → first_live i (drop i (endings sessions)) ≡ None
live_nowhere sessions i le = at_drop_all (first_live i) (endings sessions) i (omega (arith, length-map sessions (λ (x : Session). x.ending)))
