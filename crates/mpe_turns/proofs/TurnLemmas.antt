-- A turn of one session, over lists.
-- 1. the world after it is the definition's                   (turned_is)
-- 2. its answer, its step and its load                        (answers, advances)
-- 3. what the monitor keeps is kept                           (kept_is)
use Rattle.std.proofs.Common.{◌≡◌, ◌≢◌, ℕ, zero, suc, ◌+◌, ◌-◌, ◌%◌, ◌^◌, ◌<◌, ◌≤◌, Bool, true, false, List, [], ◌∷◌, length, get_or, Option, None, Some, refl, sym, ap, subst, ◌∙◌, arith, inl, inr}
use Rattle.std.specs.Prelude.{◌&&◌, ◌==◌, ◌⊎◌, slice_get, slice_set, option_map, unwrap_or, IsSomeAnd, if◌then◌else◌}
use Rattle.std.proofs.lemmas.Bool.{cases_eq}
use Rattle.std.proofs.lemmas.List.{length-set, map-set}
use Rattle.std.proofs.lemmas.Option.{same_Some, get_or_from_slice_get, slice_get-map, slice_get_within}
use Rattle.hp_word.specs.declared.endings.Ending.{Ending}
use Rattle.hp_word.specs.declared.endings.Ending.TheVariants.{Running}
use Rattle.hp_program.specs.declared.program.Program.{Program}
use Rattle.hp_program.specs.Programs.{segments_of}
use Rattle.mpe_worlds.specs.hp_flat.Step.{is_running}
use Rattle.mpe_worlds.specs.hp_cpu.Stood.{needed}
use Rattle.mpe_overlay.specs.mpe_regions.Area.{Area, is_live}
use Rattle.mpe_overlay.specs.mpe_regions.Loads.{needed as loaded}
use Rattle.mpe_overlay.specs.Codes.{codes_of, key_of, segment_at, size_of}
use Rattle.mpe_overlay.specs.Needs.{counted}
use Rattle.mpe_overlay.proofs.SegmentLemmas.{segment_at-program}
use Rattle.mpe_worlds.specs.Worlds.{Run, World, segments_at}
use Rattle.mpe_worlds.specs.RunSteps.{can_step, stepping}
use Rattle.mpe_worlds.specs.Turns.{loads_after, turn_of, turned}
use Rattle.mpe_worlds.proofs.ListLemmas.{slice_get-set_other, slice_get-set_same, slice_get-there}
use Rattle.mpe_worlds.proofs.RunLaws.{stepping_advances}
use Rattle.mpe_turns.specs.declared.session.Session.{Session}
use Rattle.mpe_turns.specs.declared.session.Turned.{Turned}
use Rattle.mpe_turns.specs.Stands.{IsKept, IsSessionOf, run_of, runs_of}
use Rattle.mpe_turns.specs.Answers.{Advances, answer_at, answer_by, answer_of}
use Rattle.mpe_turns.proofs.StepLemmas.{needed_within, segment_needed}

-- a session that lives, where it was read
pub live_session : (sessions : List Session) (who : ℕ) (s : Session) → IsSomeAnd (slice_get sessions who) (λ x. x.ending ≡ Running) → s ≡ get_or sessions who s
    → (slice_get sessions who ≡ Some s) × (s.ending ≡ Running)
live_session sessions who s live is = by (slice_get sessions who) refl live where
  by : (o : Option Session) → slice_get sessions who ≡ o → IsSomeAnd o (λ x. x.ending ≡ Running) → (slice_get sessions who ≡ Some s) × (s.ending ≡ Running)
  by None at h = absurd h
  by (Some x) at h =
      let same : x ≡ s = sym (is ∙ get_or_from_slice_get sessions who x s at) in
      (at ∙ ap (λ (y : Session). Some y) same, subst (λ (y : Session). y.ending ≡ Running) same h)

-- a program of a list
pub program_there : (programs : List Program) (k : ℕ) → k < length programs → (p : Program) × (slice_get programs k ≡ Some p)
program_there [] k lt = absurd (omega arith)
program_there (p ∷ programs) zero lt = (p, refl)
program_there (p ∷ programs) (suc k) lt = program_there programs k (omega arith)

-- the segment that a session needs fits into the area
pub needed_fits : (programs : List Program) (size : ℕ) (sessions : List Session) (loads turns spent who seg : ℕ) (s : Session) (p : Program)
    → IsKept programs size sessions loads turns spent → slice_get sessions who ≡ Some s → slice_get programs s.program ≡ Some p
    → seg ≡ needed s.cpu → seg < 256
    → IsSomeAnd (segment_at (codes_of programs) (key_of s.program seg)) (λ words. length words ≤ size)
needed_fits programs size sessions loads turns spent who seg s p kept at of its low = by (segment_at (codes_of programs) (key_of s.program seg)) refl where
  within : seg < length (segments_of p)
  within = subst (λ (k : ℕ). k < length (segments_of p)) (sym its) (needed_within p s (kept.each who s p at of))

  named : segment_at (codes_of programs) (key_of s.program seg) ≡ slice_get (segments_of p) seg
  named = segment_at-program (codes_of programs) s.program seg (segments_of p) low (slice_get-map segments_of programs s.program ∙ ap (option_map segments_of) of)

  by : (o : Option (List ℕ)) → segment_at (codes_of programs) (key_of s.program seg) ≡ o → IsSomeAnd o (λ words. length words ≤ size)
  by None none = absurd (slice_get-there (segments_of p) seg within (sym named ∙ none))
  by (Some words) is = kept.fit (key_of s.program seg) words is

-- the program of a session
pub program_segments : (programs : List Program) (k : ℕ) (p : Program) → slice_get programs k ≡ Some p → segments_at (codes_of programs) k ≡ segments_of p
program_segments programs k p of = ap (λ (o : Option (List (List ℕ))). unwrap_or o []) (slice_get-map segments_of programs k ∙ ap (option_map segments_of) of)

-- the session of the world
abbrev pub shown : List (List (List ℕ)) → Session → Run
shown codes s = run_of (segments_at codes s.program) s

-- the world of these sessions
abbrev pub world_with : List (List (List ℕ)) → List Session → Area → ℕ → ℕ → ℕ → World
world_with codes sessions a turns loads last = record { runs = runs_of codes sessions; area = a; turns = turns; loads = loads; last = last }

shown_at : (codes : List (List (List ℕ))) (sessions : List Session) (who : ℕ) (s : Session) → slice_get sessions who ≡ Some s
    → slice_get (runs_of codes sessions) who ≡ Some (shown codes s)
shown_at codes sessions who s at = slice_get-map (shown codes) sessions who ∙ ap (option_map (shown codes)) at

-- the key of the segment that a session needs
key_is : (codes : List (List (List ℕ))) (s : Session) → key_of s.program (shown codes s).machine.regs.seg ≡ key_of s.program (needed s.cpu)
key_is codes s = ap (key_of s.program) (segment_needed (segments_at codes s.program) s)

-- a load is counted whole, since there are fewer than 2 ^ 64
pub loads_are : (key : ℕ) (a : Area) (loads : ℕ) → loads < 2 ^ 63 → counted key a loads ≡ loads_after key a loads
loads_are key a loads few = by (is_live key a) where
  by : (live : Bool) → (if live then loads else (loads + 1) % 2 ^ 64) ≡ (if live then loads else loads + 1)
  by true = refl
  by false = omega arith

loads_grow : (key : ℕ) (a : Area) (loads : ℕ) → (loads_after key a loads ≤ loads + 1) × (loads ≤ loads_after key a loads)
loads_grow key a loads = by (is_live key a) where
  by : (live : Bool) → ((if live then loads else loads + 1) ≤ loads + 1) × (loads ≤ (if live then loads else loads + 1))
  by true = (omega arith, omega arith)
  by false = (omega arith, omega arith)

module _ (programs : List Program) (sessions : List Session) (who : ℕ) (s t : Session) (p : Program) (a b : Area) (quantum seg : ℕ)
    (its : seg ≡ needed s.cpu) (at : slice_get sessions who ≡ Some s) (of : slice_get programs s.program ≡ Some p)
    (area : b ≡ loaded (key_of s.program seg) (size_of (codes_of programs) (key_of s.program seg)) a)
    (same : t.program ≡ s.program)
    (ran : run_of (segments_of p) t ≡ stepping (segments_of p) b quantum (run_of (segments_of p) s)) where
  -- the key of the segment that it needs
  key_seg : key_of s.program (shown (codes_of programs) s).machine.regs.seg ≡ key_of s.program seg
  key_seg = key_is (codes_of programs) s ∙ ap (key_of s.program) (sym its)

  segments : segments_at (codes_of programs) s.program ≡ segments_of p
  segments = program_segments programs s.program p of

  ran_so : shown (codes_of programs) t ≡ stepping (segments_at (codes_of programs) s.program) b quantum (shown (codes_of programs) s)
  ran_so = ap (λ (k : ℕ). run_of (segments_at (codes_of programs) k) t) same
      ∙ subst (λ (segs : List (List ℕ)). run_of segs t ≡ stepping segs b quantum (run_of segs s)) (sym segments) ran

  area_so : b ≡ loaded (key_of s.program (shown (codes_of programs) s).machine.regs.seg) (size_of (codes_of programs) (key_of s.program (shown (codes_of programs) s).machine.regs.seg)) a
  area_so = area ∙ ap (λ (key : ℕ). loaded key (size_of (codes_of programs) key) a) (sym key_seg)

  runs_so : runs_of (codes_of programs) (slice_set sessions who t)
      ≡ slice_set (runs_of (codes_of programs) sessions) who (stepping (segments_at (codes_of programs) s.program) b quantum (shown (codes_of programs) s))
  runs_so = map-set (shown (codes_of programs)) sessions who t ∙ ap (slice_set (runs_of (codes_of programs) sessions) who) ran_so

  -- the world after the turn
  pub turned_is : (turns loads last more : ℕ) → more ≡ loads_after (key_of s.program seg) a loads
      → world_with (codes_of programs) (slice_set sessions who t) b (turns + 1) more who
      ≡ turned (codes_of programs) who quantum (world_with (codes_of programs) sessions a turns loads last)
  turned_is turns loads last more counts =
      world_so ∙ sym (ap (turn_of (codes_of programs) who quantum (world_with (codes_of programs) sessions a turns loads last)) (shown_at (codes_of programs) sessions who s at))
    where
      more_so : more ≡ loads_after (key_of s.program (shown (codes_of programs) s).machine.regs.seg) a loads
      more_so = counts ∙ ap (λ (key : ℕ). loads_after key a loads) (sym key_seg)

      world_so : world_with (codes_of programs) (slice_set sessions who t) b (turns + 1) more who
          ≡ turn_of (codes_of programs) who quantum (world_with (codes_of programs) sessions a turns loads last) (Some (shown (codes_of programs) s))
      world_so =
          ap (λ (runs : List Run). record { runs = runs; area = b; turns = turns + 1; loads = more; last = who }) runs_so
          ∙ ap (λ (c : Area). record {
            runs = slice_set (runs_of (codes_of programs) sessions) who (stepping (segments_at (codes_of programs) s.program) c quantum (shown (codes_of programs) s));
            area = c;
            turns = turns + 1;
            loads = more;
            last = who;
          }) area_so
          ∙ ap (λ (n : ℕ). record (turn_of (codes_of programs) who quantum (world_with (codes_of programs) sessions a turns loads last) (Some (shown (codes_of programs) s))) { loads = n }) more_so

  new_at : slice_get (slice_set sessions who t) who ≡ Some t
  new_at = slice_get-set_same sessions who t (slice_get_within sessions who s at)

  -- the answer
  pub answers : (result : Turned) (turns turns' loads loads' last last' : ℕ) → result ≡ answer_by t.ending (t.steps == s.steps + quantum) (needed t.cpu)
      → result ≡ answer_at who quantum (world_with (codes_of programs) sessions a turns loads last) (world_with (codes_of programs) (slice_set sessions who t) b turns' loads' last')
  answers result turns turns' loads loads' last last' is =
      is ∙ ap (answer_by t.ending (t.steps == s.steps + quantum)) (sym (segment_needed (segments_at (codes_of programs) t.program) t))
      ∙ sym (ap (answer_of quantum (Some (shown (codes_of programs) s))) (shown_at (codes_of programs) (slice_set sessions who t) who t new_at))
      ∙ sym (ap (λ (o : Option Run). answer_of quantum o (slice_get (runs_of (codes_of programs) (slice_set sessions who t)) who)) (shown_at (codes_of programs) sessions who s at))

  -- a step at least, and a load at most
  pub advances : (turns turns' loads more last last' : ℕ) → 1 ≤ quantum → s.ending ≡ Running → is_live (key_of s.program seg) b ≡ true
      → more ≡ loads_after (key_of s.program seg) a loads
      → Advances who (world_with (codes_of programs) sessions a turns loads last) (world_with (codes_of programs) (slice_set sessions who t) b turns' more last')
  advances turns turns' loads more last last' some runs live counts = record {
    steps = λ r u here there.
        let old : r ≡ shown (codes_of programs) s = same_Some r _ (sym here ∙ shown_at (codes_of programs) sessions who s at) in
        let new : u ≡ shown (codes_of programs) t = same_Some u _ (sym there ∙ shown_at (codes_of programs) (slice_set sessions who t) who t new_at) in
        subst (λ (x : Run). x.steps + 1 ≤ u.steps) (sym old) (subst (λ (x : Run). s.steps + 1 ≤ x.steps) (sym new) stepped_on);
    loads = let grow = loads_grow (key_of s.program seg) a loads in omega (arith, counts, grow.0);
    kept_loads = let grow = loads_grow (key_of s.program seg) a loads in omega (arith, counts, grow.1);
  } where
    can : can_step b (shown (codes_of programs) s) ≡ true
    can = ap (λ (key : ℕ). is_running s.ending && is_live key b) key_seg
        ∙ ap (λ (e : Ending). is_running e && is_live (key_of s.program seg) b) runs ∙ live

    stepped_on : s.steps + 1 ≤ t.steps
    stepped_on =
        let count : suc (quantum - 1) ≡ quantum = omega arith in
        let on = stepping_advances (segments_at (codes_of programs) s.program) b (quantum - 1) (shown (codes_of programs) s) can in
        let far = subst (λ (n : ℕ). s.steps + 1 ≤ (stepping (segments_at (codes_of programs) s.program) b n (shown (codes_of programs) s)).steps) count on in
        subst (λ (x : Run). s.steps + 1 ≤ x.steps) (sym ran_so) far

  -- what is kept
  pub kept_is : (size size' loads more turns spent : ℕ) → IsKept programs size sessions loads turns spent → size' ≡ size
      → more ≡ loads_after (key_of s.program seg) a loads → 1 ≤ quantum → t.steps ≤ s.steps + quantum
      → (IsSessionOf p s → IsSessionOf p t)
      → IsKept programs size' (slice_set sessions who t) more (turns + 1) (spent + quantum)
  kept_is size size' loads more turns spent kept size_same counts some few session = record {
    few = subst (λ (n : ℕ). n ≤ 16) (sym (length-set sessions who t)) kept.few;
    there = λ k u here. at_each (λ (x : Session). x.program < length programs) (rw same (kept.there who s at)) kept.there k u here;
    each = λ k u q here its. at_each (λ (x : Session). (q : Program) → slice_get programs x.program ≡ Some q → IsSessionOf q x)
        (λ q its.
        let e : p ≡ q = same_Some p q (sym of ∙ ap (slice_get programs) (sym same) ∙ its) in
        subst (λ (x : Program). IsSessionOf x t) e (session (kept.each who s p at of)))
        (λ k u here q its. kept.each k u q here its) k u here q its;
    steps = λ k u here. at_each (λ (x : Session). x.steps ≤ spent + quantum)
        (let old = kept.steps who s at in omega (arith, few, old))
        (λ k u here. let old = kept.steps k u here in omega (arith, old)) k u here;
    fit = λ key words is. subst (λ (n : ℕ). length words ≤ n) (sym size_same) (kept.fit key words is);
    loads = let grow = loads_grow (key_of s.program seg) a loads in omega (arith, counts, grow.0, kept.loads);
    turns = omega (arith, kept.turns);
  } where
    -- what holds of the session that had the turn, and of all before, holds of all
    at_each : (P : Session → Type 0) → P t → ((k : ℕ) (u : Session) → slice_get sessions k ≡ Some u → P u)
        → (k : ℕ) (u : Session) → slice_get (slice_set sessions who t) k ≡ Some u → P u
    at_each P new old k u here = by (cases_eq k who) where
      by : (k ≡ who) ⊎ (k ≢ who) → P u
      by (inl e) = subst P (same_Some t u (sym new_at ∙ ap (slice_get (slice_set sessions who t)) (sym e) ∙ here)) new
      by (inr other) = old k u (sym (slice_get-set_other sessions who k t other) ∙ here)
