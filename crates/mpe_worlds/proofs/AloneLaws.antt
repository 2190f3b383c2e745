-- Each session goes on as if it ran alone, whatever events happen.
use Rattle.std.proofs.Common.{◌≡◌, ◌≢◌, ℕ, ◌+◌, ◌-◌, ◌<◌, Bool, true, false, List, [], ◌∷◌, length, Option, None, Some, refl, sym, ap, subst, ◌∙◌, arith, inl, inr}
use Rattle.std.specs.Prelude.{slice_get, slice_set, ◌⊎◌, if◌then◌else◌}
use Rattle.std.proofs.lemmas.Bool.{cases_eq}
use Rattle.std.proofs.lemmas.List.{length-set}
use Rattle.std.proofs.lemmas.Option.{same_Some, slice_get_within}
use Rattle.hp_cpu.specs.hp_flat.Step.{after}
use Rattle.hp_cpu.proofs.hp_flat_proofs.RunLaws.{after-add}
use Rattle.mpe_worlds.specs.declared.event.Event.{Event}
use Rattle.mpe_worlds.specs.declared.event.Event.TheVariants.{Turn, Evict}
use Rattle.mpe_worlds.specs.Worlds.{Run, World, segments_at}
use Rattle.mpe_worlds.specs.Turns.{area_for, turned, turn_of, evicted}
use Rattle.mpe_worlds.specs.Events.{Played, happened, may_evict, may_turn, played}
use Rattle.mpe_worlds.specs.Alone.{EachGoesOn, GoesOn}
use Rattle.mpe_worlds.proofs.ListLemmas.{slice_get-set_other, slice_get-set_same, slice_get-there}
use Rattle.mpe_worlds.proofs.RunLaws.{Makes, stepping_steps}

-- A session.

-- by as many steps as are counted
goes_by : (segments : List (List ℕ)) (most : ℕ) (old new : Run) → Makes segments most old new → GoesOn segments old new
goes_by segments most old new m =
    let count : new.steps - old.steps ≡ m.count = omega (arith, m.steps) in
    record {
      same_program = m.same_program;
      later = omega (arith, m.steps);
      goes_on = rw count m.machine;
      alone = λ start here. m.machine ∙ ap (after segments m.count) here ∙ sym (after-add segments old.steps m.count start)
          ∙ ap (λ (n : ℕ). after segments n start) (sym m.steps);
    }

stays_on : (segments : List (List ℕ)) (r : Run) → GoesOn segments r r
unfolding after
stays_on segments r =
    let none : r.steps - r.steps ≡ 0 = omega arith in
    record { same_program = refl; later = omega arith; goes_on = rw none refl; alone = λ start here. here }

goes_on_twice : (segments : List (List ℕ)) (r s t : Run) → GoesOn segments r s → GoesOn segments s t → GoesOn segments r t
goes_on_twice segments r s t first second =
    let sum : t.steps - r.steps ≡ (s.steps - r.steps) + (t.steps - s.steps) = omega (arith, first.later, second.later) in
    record {
      same_program = second.same_program ∙ first.same_program;
      later = omega (arith, first.later, second.later);
      goes_on = second.goes_on ∙ ap (after segments (t.steps - s.steps)) first.goes_on
          ∙ sym (after-add segments (s.steps - r.steps) (t.steps - s.steps) r.machine) ∙ ap (λ (n : ℕ). after segments n r.machine) (sym sum);
      alone = λ start here. second.alone start (first.alone start here);
    }

-- All sessions.

pub each_stays : (codes : List (List (List ℕ))) (w v : World) → v.runs ≡ w.runs → EachGoesOn codes w v
each_stays codes w v same = record {
  same_count = ap length same;
  each = λ who r s at there.
      let e : r ≡ s = same_Some r s (sym at ∙ ap (λ (runs : List Run). slice_get runs who) (sym same) ∙ there) in
      subst (λ (t : Run). GoesOn (segments_at codes r.program) r t) e (stays_on (segments_at codes r.program) r);
}

pub each_goes_on_twice : (codes : List (List (List ℕ))) (u v w : World) → EachGoesOn codes u v → EachGoesOn codes v w → EachGoesOn codes u w
each_goes_on_twice codes u v w first second = record {
  same_count = second.same_count ∙ first.same_count;
  each = λ who r t at there. between who r t at there (slice_get v.runs who) refl;
} where
  between : (who : ℕ) (r t : Run) → slice_get u.runs who ≡ Some r → slice_get w.runs who ≡ Some t
      → (o : Option Run) → slice_get v.runs who ≡ o → GoesOn (segments_at codes r.program) r t
  between who r t at there None is =
      let within : who < length u.runs = slice_get_within u.runs who r at in
      absurd (slice_get-there v.runs who (omega (arith, first.same_count)) is)
  between who r t at there (Some s) is =
      let before = first.each who r s at is in
      let now = second.each who s t is there in
      goes_on_twice (segments_at codes r.program) r s t before
      (subst (λ (p : ℕ). GoesOn (segments_at codes p) s t) before.same_program now)

-- one session is another, which goes on from it
each_but : (codes : List (List (List ℕ))) (w v : World) (who : ℕ) (r s : Run) → slice_get w.runs who ≡ Some r
    → GoesOn (segments_at codes r.program) r s → v.runs ≡ slice_set w.runs who s → EachGoesOn codes w v
each_but codes w v who r s at goes is = record {
  same_count = ap length is ∙ length-set w.runs who s;
  each = λ k q t here there. by k q t here (sym (ap (λ (runs : List Run). slice_get runs k) is) ∙ there) (cases_eq k who);
} where
  by : (k : ℕ) (q t : Run) → slice_get w.runs k ≡ Some q → slice_get (slice_set w.runs who s) k ≡ Some t
      → (k ≡ who) ⊎ (k ≢ who) → GoesOn (segments_at codes q.program) q t
  by k q t here there (inl same) =
      let old : q ≡ r = same_Some q r (sym here ∙ ap (slice_get w.runs) same ∙ at) in
      let new : t ≡ s = same_Some t s (sym there ∙ ap (slice_get (slice_set w.runs who s)) same ∙ slice_get-set_same w.runs who s (slice_get_within w.runs who r at)) in
      subst (λ (x : Run). GoesOn (segments_at codes x.program) x t) (sym old) (subst (λ (x : Run). GoesOn (segments_at codes r.program) r x) (sym new) goes)
  by k q t here there (inr other) =
      let e : q ≡ t = same_Some q t (sym here ∙ sym (slice_get-set_other w.runs who k s other) ∙ there) in
      subst (λ (x : Run). GoesOn (segments_at codes q.program) q x) e (stays_on (segments_at codes q.program) q)

pub turned_goes_on : (codes : List (List (List ℕ))) (who quantum : ℕ) (w : World) → EachGoesOn codes w (turned codes who quantum w)
turned_goes_on codes who quantum w = by (slice_get w.runs who) refl where
  by : (o : Option Run) → slice_get w.runs who ≡ o → EachGoesOn codes w (turn_of codes who quantum w o)
  by None is = each_stays codes w w refl
  by (Some r) is = each_but codes w _ who r _ is
      (goes_by (segments_at codes r.program) quantum r _ (stepping_steps (segments_at codes r.program) (area_for codes r w.area) quantum r)) refl

happened_goes_on : (codes : List (List (List ℕ))) (e : Event) (p : Played) → EachGoesOn codes p.world (happened codes e p).world
unfolding happened
happened_goes_on codes (Turn who quantum) p = by (may_turn p who quantum) where
  by : (may : Bool) → EachGoesOn codes p.world
      (if may then record { world = turned codes who quantum p.world; spent = p.spent + quantum; count = p.count + 1 } else p).world
  by true = turned_goes_on codes who quantum p.world
  by false = each_stays codes p.world p.world refl
happened_goes_on codes (Evict program seg) p = by (may_evict codes program seg) where
  by : (may : Bool) → EachGoesOn codes p.world
      (if may then record { world = evicted program seg p.world; spent = p.spent; count = p.count + 1 } else p).world
  by true = each_stays codes p.world (evicted program seg p.world) refl
  by false = each_stays codes p.world p.world refl

pub played_goes_on : (codes : List (List (List ℕ))) (p : Played) (events : List Event) → EachGoesOn codes p.world (played codes p events).world
played_goes_on codes p [] = each_stays codes p.world p.world refl
played_goes_on codes p (e ∷ events) =
    each_goes_on_twice codes p.world (happened codes e p).world _ (happened_goes_on codes e p) (played_goes_on codes (happened codes e p) events)
