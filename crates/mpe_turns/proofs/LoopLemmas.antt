-- Many steps of a session, over views of its program.
-- 1. it begins, goes on by a step, and is over               (begins, one_more, one_last, none_more)
-- 2. what views hold                                         (views_of, views_stay, runs_over)
-- 3. all steps of a turn were made                           (all_made, none_left)
use Rattle.std.proofs.Common.{◌≡◌, ℕ, suc, ◌+◌, ◌-◌, ◌<◌, ◌≤◌, Bool, true, false, List, Option, None, Some, refl, sym, ap, subst, ◌∙◌, arith}
use Rattle.std.specs.Prelude.{◌&&◌, IfSome, slice_get, option_map}
use Rattle.std.proofs.lemmas.Bool.{true≢false}
use Rattle.std.proofs.lemmas.Option.{slice_get-map}
use Rattle.hp_program.specs.declared.program.Program.{Program}
use Rattle.hp_program.specs.Programs.{segments_of}
use Rattle.mpe_worlds.specs.hp_calls.Phases.{HoldsOf}
use Rattle.mpe_worlds.specs.hp_flat.Step.{is_running}
use Rattle.mpe_overlay.specs.mpe_regions.Area.{Area, is_live}
use Rattle.mpe_overlay.specs.mpe_regions.Kept.{Kept}
use Rattle.mpe_overlay.specs.declared.overlay.Overlay.{Overlay}
use Rattle.mpe_overlay.specs.declared.at_hand.SegmentView.{SegmentView}
use Rattle.mpe_overlay.specs.declared.view.View.{View}
use Rattle.mpe_overlay.specs.Codes.{codes_of}
use Rattle.mpe_overlay.specs.Held.{held_by}
use Rattle.mpe_worlds.specs.Worlds.{Run}
use Rattle.mpe_worlds.specs.RunSteps.{can_step, key_needed, stepped, stepping}
use Rattle.mpe_worlds.proofs.RunLaws.{stepping-more, stepping-none, stepping-one, stepping-stays}
use Rattle.mpe_turns.specs.declared.session.Session.{Session}
use Rattle.mpe_turns.specs.Stands.{IsSessionOf, run_of}
use Rattle.mpe_turns.specs.Steps.{MakesOne, MakesSome, RunsOver, Views}

module _ (p : Program) (a : Area) (until : ℕ) where
  pub begins : (s : Session) → IsSessionOf p s → MakesSome p a until s true s
  begins s is = record { rest = refl; over = λ e. absurd (true≢false e); session = is }

  -- what is left after a step is what was left before it
  one_less : (t u : Session) → run_of (segments_of p) u ≡ stepping (segments_of p) a 1 (run_of (segments_of p) t) → u.steps ≡ t.steps + 1 → t.steps < until
      → stepping (segments_of p) a (until - u.steps) (run_of (segments_of p) u) ≡ stepping (segments_of p) a (until - t.steps) (run_of (segments_of p) t)
  one_less t u is steps lt =
      let less : suc (until - u.steps) ≡ until - t.steps = omega arith in
      ap (stepping (segments_of p) a (until - u.steps)) is
      ∙ stepping-more (segments_of p) a (until - u.steps) (run_of (segments_of p) t)
      ∙ ap (λ (n : ℕ). stepping (segments_of p) a n (run_of (segments_of p) t)) less

  pub one_more : (s t u : Session) → MakesSome p a until s true t → t.steps < until → MakesOne p a t true u → u.steps ≡ t.steps + 1
      → MakesSome p a until s true u
  one_more s t u some lt one steps = record {
    rest = one_less t u one.steps steps lt ∙ some.rest;
    over = λ e. absurd (true≢false e);
    session = one.session;
  }

  -- a step that was the last, or that could not be made
  pub one_last : (s t u : Session) → MakesSome p a until s true t → t.steps < until → MakesOne p a t false u → MakesSome p a until s false u
  one_last s t u some lt one = by (can_step a (run_of (segments_of p) t)) refl where
    by : (can : Bool) → can_step a (run_of (segments_of p) t) ≡ can → MakesSome p a until s false u
    by true is =
        let stepped_once : run_of (segments_of p) u ≡ stepped (segments_of p) (run_of (segments_of p) t) = one.steps ∙ stepping-one (segments_of p) a _ is in
        let ended : is_running u.ending ≡ false = sym (one.told ∙ ap (λ (b : Bool). b && is_running u.ending) is) in
        record {
          rest = one_less t u one.steps (ap (λ (r : Run). r.steps) stepped_once) lt ∙ some.rest;
          over = λ e. ap (λ (b : Bool). b && is_live (key_needed (run_of (segments_of p) u)) a) ended;
          session = one.session;
        }
    by false is =
        let same : run_of (segments_of p) u ≡ run_of (segments_of p) t = one.steps ∙ stepping-stays (segments_of p) a 1 _ is in
        record {
          rest = ap (λ (r : Run). stepping (segments_of p) a (until - r.steps) r) same ∙ some.rest;
          over = λ e. ap (can_step a) same ∙ is;
          session = one.session;
        }

  -- a step that can't be made is the last
  pub none_more : (s t : Session) → MakesSome p a until s true t → can_step a (run_of (segments_of p) t) ≡ false → MakesSome p a until s false t
  none_more s t some stays = record { rest = some.rest; over = λ e. stays; session = some.session }

  -- a session that can make no step more has made them all, and so has one that has made `until`
  pub none_left : (s u : Session) → MakesSome p a until s false u
      → run_of (segments_of p) u ≡ stepping (segments_of p) a (until - s.steps) (run_of (segments_of p) s)
  none_left s u some = sym (stepping-stays (segments_of p) a (until - u.steps) (run_of (segments_of p) u) (some.over refl)) ∙ some.rest

  pub all_made : (s u : Session) → MakesSome p a until s true u → until ≤ u.steps
      → run_of (segments_of p) u ≡ stepping (segments_of p) a (until - s.steps) (run_of (segments_of p) s)
  all_made s u some le =
      let none : until - u.steps ≡ 0 = omega arith in
      sym (ap (λ (n : ℕ). stepping (segments_of p) a n (run_of (segments_of p) u)) none ∙ stepping-none (segments_of p) a (run_of (segments_of p) u)) ∙ some.rest

-- what a store holds are segments of a program, said word by word
holds_by : (segments : List (List ℕ)) (held : ℕ → Option (List ℕ))
    → ((seg : ℕ) (words : List ℕ) → held seg ≡ Some words → slice_get segments seg ≡ Some words) → HoldsOf segments held
holds_by segments held h seg = by (held seg) refl where
  by : (o : Option (List ℕ)) → held seg ≡ o → IfSome o (λ words. slice_get segments seg ≡ Some words)
  by None is = tt
  by (Some words) is = h seg words is

-- the segments of an overlay's view of a program are segments of it, whichever are at hand
pub views_of : (overlay : Overlay) (view : View) (code : SegmentView) (program : ℕ)
    → code.view ≡ view → view.program ≡ program → view.regions.now ≡ overlay.regions
    → ((segments : List (List ℕ)) (seg : ℕ) (words : List ℕ) → slice_get (codes_of overlay.programs.items) program ≡ Some segments
    → held_by view seg ≡ Some words → slice_get segments seg ≡ Some words)
    → Views overlay program code
views_of overlay view code program same its sees holds = record {
  area = ap (λ (v : View). v.regions.now.area) same ∙ ap (λ (k : Kept). k.area) sees;
  program = ap (λ (v : View). v.program) same ∙ its;
  holds = λ p of. holds_by (segments_of p) (held_by code.view) (λ seg words h. holds (segments_of p) seg words (at p of)
      (sym (ap (λ (v : View). held_by v seg) same) ∙ h));
} where
  at : (p : Program) → slice_get overlay.programs.items program ≡ Some p → slice_get (codes_of overlay.programs.items) program ≡ Some (segments_of p)
  at p of = slice_get-map segments_of overlay.programs.items program ∙ ap (option_map segments_of) of

pub views_stay : (overlay : Overlay) (program : ℕ) (one other : SegmentView) → other.view ≡ one.view → Views overlay program one → Views overlay program other
views_stay overlay program one other same views = record {
  area = ap (λ (v : View). v.regions.now.area) same ∙ views.area;
  program = ap (λ (v : View). v.program) same ∙ views.program;
  holds = λ p of. subst (λ (v : View). HoldsOf (segments_of p) (held_by v)) (sym same) (views.holds p of);
}

-- a session of a program runs over such a view
pub runs_over : (overlay : Overlay) (code : SegmentView) (p : Program) (s : Session) → Views overlay s.program code
    → slice_get overlay.programs.items s.program ≡ Some p → IsSessionOf p s → RunsOver p code s
runs_over overlay code p s views of session = record { session = session; holds = views.holds p of; same_program = sym views.program }
