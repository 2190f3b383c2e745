-- Both ways between a session and the run that it follows.
use Rattle.std.proofs.Common.{◌≡◌, ◌⊎◌, inl, inr, ℕ, zero, suc, ◌+◌, ◌-◌, ◌*◌, ◌≤◌, ◌<◌, Bool, true, false, List, [], ◌∷◌, ◌++◌, length, refl, sym, ap, subst, ◌∙◌, arith}
use Rattle.std.specs.Prelude.{Option, Some, None}
use Rattle.std.proofs.lemmas.Bool.{false≢true, cases_lt}
use Rattle.std.proofs.lemmas.List.{append-nil, append_assoc, length-append}
use Rattle.spl_carries.specs.hp_word.declared.endings.Ending.{Ending}
use Rattle.spl_carries.specs.hp_word.declared.endings.Ending.TheVariants.{Running}
use Rattle.spl_carries.specs.hp_program.declared.program.Program.{Program}
use Rattle.spl_carries.specs.hp_program.Programs.{segments_of}
use Rattle.spl_carries.proofs.hp_program_proofs.ValidLaws.{program_labels_lead}
use Rattle.spl_carries.specs.hp_session.State.{Machine}
use Rattle.spl_carries.specs.hp_flat.Step.{after, step, is_running}
use Rattle.spl_carries.proofs.hp_flat_proofs.StepKeeping.{step-continues}
use Rattle.spl_carries.specs.spl_meaning.Tables.{Source}
use Rattle.spl_carries.specs.spl_meaning.Bodies.{Body, program_of}
use Rattle.spl_carries.specs.spl_meaning.Runs.{Seat, opening, point_of, at_state, ending_of, run_program, run_of, alone, stands, stray}
use Rattle.spl_carries.specs.spl_meaning.States.{State, Begun, End, terminated, quit, trapped, Outcome, done, leaves, spent, ends, strays, has_no_meaning, all_printed}
use Rattle.spl_carries.specs.spl_meaning.Laws.{Onward, Beyond, GoesOnAs}
use Rattle.spl_carries.proofs.spl_meaning_proofs.RunLaws.{steps_go_on}
use Rattle.spl_carries.specs.Carries.{weight, flat_point, flat, Forth, follows, strayed, Back}
use Rattle.spl_follow.specs.Spots.{prints, OnlyAdds}
use Rattle.spl_follow.specs.Matching.{Shows}
use Rattle.spl_follow.specs.Following.{tally, tally_with, Goes, Follows, NoExit}
use Rattle.spl_follow.specs.Programs.{NoValue}
use Rattle.spl_follow.proofs.WayLemmas.{bytes_after}
use Rattle.spl_followed.specs.Followed.{start, Followed}
use Rattle.spl_followed.specs.Laws.{MachineFollowsSource, SourceFollowsMachine, FollowedProgramsCarry}
use Rattle.spl_followed.proofs.TimeLemmas.{ended_stays, ran_before, prints_front, running_is, one_of, none_of}

-- no step of a program's code takes back what was printed
pub only_adds : (p : Program) → OnlyAdds (segments_of p)
only_adds p m = (step-continues (segments_of p) (program_labels_lead p) m).front

-- ---- numbers

-- so many steps at their worth, and the charge, are below the weight of them and one more
paid_by_weight : (weight step charge n : ℕ) → step + charge ≤ weight → 2 ≤ step → step * n + charge < weight * (n + 1)
paid_by_weight weight step charge n light word =
    let rest : ℕ = weight - (step + charge) in
    let whole : weight ≡ step + charge + rest = omega (arith, light) in
    let product : weight * (n + 1) ≡ (step + charge + rest) * (n + 1) = ap (λ (i : ℕ). i * (n + 1)) whole in
    omega (arith, product, word)

-- and those of one step more are at most that
paid_by_next : (weight step charge n : ℕ) → step + charge ≤ weight → step * suc n + charge ≤ weight * (n + 1)
paid_by_next weight step charge n light =
    let rest : ℕ = weight - (step + charge) in
    let whole : weight ≡ step + charge + rest = omega (arith, light) in
    let product : weight * (n + 1) ≡ (step + charge + rest) * (n + 1) = ap (λ (i : ℕ). i * (n + 1)) whole in
    omega (arith, product)

-- more steps of the machine let pass no fewer
pub reached_less : (reach a n : ℕ) → a ≤ n → reach * a ≤ reach * n
reached_less reach a n l =
    let rest : ℕ = n - a in
    let whole : n ≡ a + rest = omega (arith, l) in
    let product : reach * n ≡ reach * (a + rest) = ap (λ (i : ℕ). reach * i) whole in
    omega (arith, product)

-- all prints of some and of others
all_printed_add : (ps qs : List (List ℕ)) → all_printed (ps ++ qs) ≡ all_printed ps ++ all_printed qs
all_printed_add [] qs = refl
all_printed_add (p ∷ ps) qs = ap (λ bs. p ++ bs) (all_printed_add ps qs) ∙ sym (append_assoc p (all_printed ps) (all_printed qs))

-- a number is one
abbrev IsOne : ℕ → Type 0
IsOne i = i ≡ 1

zero_is_not_one : IsOne 0 → ⊥
zero_is_not_one e = omega (arith, e)

-- what stands in front of nothing is nothing
pub front_of_none : {A : Type 0} (xs ys : List A) → xs ++ ys ≡ [] → xs ≡ []
front_of_none [] ys e = refl
front_of_none (x ∷ xs) ys e = let long = length-append (x ∷ xs) ys in let none = ap length e in absurd (omega (arith, long, none))

-- an end is not running
pub end_is_end : (e : End) → is_running (ending_of e) ≡ false
end_is_end terminated = refl
end_is_end (quit n) = refl
end_is_end (trapped t) = refl

-- ---- one session

-- a session that follows, and what it is at a moment
module _ (p : Program) (us : List Source) (seat : Seat) (f : Followed p us seat) where
  -- the machine at a moment
  abbrev pub at_moment : ℕ → Machine
  at_moment n = after f.ground.segments n (start p seat)

  -- the run has come to a state, and the machine has done what it did
  abbrev pub Comes : ℕ → State → List Begun → Machine → Type 0
  Comes n s l m = Goes f.ground f.rate f.charge f.lag 0 (tally (opening (program_of us) seat n)) (start p seat) (tally_with l s) m

  -- it is the program's session
  is_flat : (n : ℕ) → at_moment n ≡ flat p seat n
  is_flat n = ap (λ (segments : List (List ℕ)). after segments n (start p seat)) f.segments

  adds : OnlyAdds f.ground.segments
  adds = subst OnlyAdds (sym f.segments) (only_adds p)

  -- what it has printed are all prints
  printed_at : (n : ℕ) → (at_moment n).printed ≡ all_printed (prints f.ground n (start p seat))
  printed_at n = bytes_after f.ground adds n (start p seat)

  -- it shows the point of the run
  shows_point : (at n : ℕ) (s : State) (e : Ending) → alone us seat at ≡ at_state s (stands e) → Shows e s.now (at_moment n)
      → flat_point (flat p seat n) ≡ alone us seat at
  shows_point at n s e is shows =
      ap flat_point (sym (is_flat n)) ∙ ap (λ (bs : List ℕ). record { printed = bs; standing = stands (at_moment n).ending }) shows.printed
      ∙ ap (λ (x : Ending). record { printed = all_printed s.now.printed; standing = stands x }) shows.ending ∙ sym is

  -- the time of a run of so many steps is at most what these are worth, and the charge
  time_is_paid : (n : ℕ) (s : State) (l : List Begun) (m : Machine) (x : Comes n s l m) → x.n ≤ f.rate.step * n + f.charge
  time_is_paid n s l m x = let cost = x.cost in omega (arith, cost)

  time_is_light : (n : ℕ) (s : State) (l : List Begun) (m : Machine) (x : Comes n s l m) → x.n < weight p * (n + 1)
  time_is_light n s l m x =
      let paid = time_is_paid n s l m x in
      let less = paid_by_weight (weight p) f.rate.step f.charge n f.light f.rate.word in
      omega (arith, paid, less)

  next_is_light : (n : ℕ) (s : State) (l : List Begun) (m : Machine) (x : Comes (suc n) s l m) → x.n ≤ weight p * (n + 1)
  next_is_light n s l m x =
      let paid = time_is_paid (suc n) s l m x in
      let less = paid_by_next (weight p) f.rate.step f.charge n f.light in
      omega (arith, paid, less)

  -- ---- from the source to the machine

  back_by : (at : ℕ) (o : Outcome (Unit {0})) → run_of us seat at ≡ o
      → Follows f.ground f.rate f.charge f.lag 0 (tally (opening (program_of us) seat at)) (start p seat) NoValue NoExit o
      → ((alone us seat at).standing ≡ stray → ⊥) → Back p us seat at
  back_by at (done u s) is x lawful = absurd x.2
  back_by at (leaves e s) is x lawful = absurd x.2
  back_by at (spent s) is x lawful =
      let light = time_is_light at s x.1 x.0 x.2 in
      record {
        steps = x.2.n;
        point = shows_point at x.2.n s Running (ap point_of is) (subst (λ (m : Machine). Shows Running s.now m) (sym x.2.goes) x.3);
        soon = omega (arith, light);
      }
  back_by at (ends e s) is x lawful =
      let light = time_is_light at s s.begun x.0 x.1 in
      record {
        steps = x.1.n;
        point = shows_point at x.1.n s (ending_of e) (ap point_of is) (subst (λ (m : Machine). Shows (ending_of e) s.now m) (sym x.1.goes) x.2);
        soon = omega (arith, light);
      }
  back_by at (strays s) is x lawful = absurd (lawful (ap (λ (o : Outcome (Unit {0})). (point_of o).standing) is))

  -- ---- from the machine to the source

  -- what was printed at a moment between two runs, of which the second has printed what the first has, and so many prints more
  printed_between : (j k n : ℕ) (s t : State) (l u : List Begun) (m1 m2 : Machine) (x : Comes j s l m1) (y : Comes k t u m2) → x.n ≤ n → n ≤ y.n
      → (i : ℕ) (on : Onward i s t) → i ≤ 1
      → (prints f.ground n (start p seat) ≡ s.now.printed) ⊎ ((prints f.ground n (start p seat) ≡ t.now.printed) × IsOne i)
  printed_between j k n s t l u m1 m2 x y early late i on few = by i refl few where
    ys : List (List ℕ)
    ys = prints f.ground (n - x.n) (at_moment x.n)

    zs : List (List ℕ)
    zs = prints f.ground (y.n - n) (at_moment n)

    there : prints f.ground n (start p seat) ≡ s.now.printed ++ ys
    there = prints_front f.ground x.n n (start p seat) early ∙ ap (λ ps. ps ++ ys) x.wrote

    whole : t.now.printed ≡ prints f.ground n (start p seat) ++ zs
    whole = sym y.wrote ∙ prints_front f.ground n y.n (start p seat) late

    both : (s.now.printed ++ ys) ++ zs ≡ s.now.printed ++ on.prints
    both = sym (ap (λ ps. ps ++ zs) there) ∙ sym whole ∙ on.printed

    first : ys ≡ [] → prints f.ground n (start p seat) ≡ s.now.printed
    first e = there ∙ ap (λ ps. s.now.printed ++ ps) e ∙ append-nil s.now.printed

    by : (c : ℕ) → i ≡ c → i ≤ 1 → (prints f.ground n (start p seat) ≡ s.now.printed) ⊎ ((prints f.ground n (start p seat) ≡ t.now.printed) × IsOne i)
    by zero is few =
        let on_few = on.few in inl (first (none_of s.now.printed ys zs on.prints both (omega (arith, on_few, is))))
    by (suc c) is few =
        let on_few = on.few in
        let one : i ≡ 1 = omega (arith, is, few) in
        second one (one_of s.now.printed ys zs on.prints both (omega (arith, on_few, few))) where
          second : i ≡ 1 → (ys ≡ []) ⊎ (zs ≡ [])
              → (prints f.ground n (start p seat) ≡ s.now.printed) ⊎ ((prints f.ground n (start p seat) ≡ t.now.printed) × IsOne i)
          second one (inl e) = inl (first e)
          second one (inr e) =
              inr (sym (append-nil (prints f.ground n (start p seat))) ∙ ap (λ ps. prints f.ground n (start p seat) ++ ps) (sym e) ∙ sym whole, one)

  -- a machine that runs, and has printed what a run of spent steps has, is at its point
  runs_there : (j n : ℕ) (s : State) → run_of us seat j ≡ spent s → is_running (at_moment n).ending ≡ true
      → prints f.ground n (start p seat) ≡ s.now.printed → n < weight p * (j + 1) → Forth p us seat n
  runs_there j n s is runs same less =
      follows j (sym (shows_point j n s Running (ap point_of is) (record {
        ending = running_is (at_moment n).ending runs;
        printed = printed_at n ∙ ap all_printed same;
      }))) (λ h. less)

  -- one that has ended is where the run ended
  ended_there : (j n : ℕ) (s : State) (e : End) (m : Machine) → run_of us seat j ≡ ends e s → at_moment n ≡ m → Shows (ending_of e) s.now m
      → Forth p us seat n
  ended_there j n s e m is same shows =
      let here : Shows (ending_of e) s.now (at_moment n) = subst (λ (k : Machine). Shows (ending_of e) s.now k) (sym same) shows in
      follows j (sym (shows_point j n s (ending_of e) (ap point_of is) here))
      (λ runs. absurd (false≢true (sym (end_is_end e) ∙ ap is_running (sym here.ending) ∙ ap (λ (k : Machine). is_running k.ending) (is_flat n) ∙ ap is_running runs)))

  -- the machine runs where a run of spent steps, or one that strays, has brought it
  runs_at : (n : ℕ) (s : State) (m : Machine) → at_moment n ≡ m → Shows Running s.now m → is_running (at_moment n).ending ≡ true
  runs_at n s m same shows = ap (λ (k : Machine). is_running k.ending) same ∙ ap is_running shows.ending

  -- where nothing more may come, what was printed is what the first run printed
  before : (s t : State) (n : ℕ)
      → (prints f.ground n (start p seat) ≡ s.now.printed) ⊎ ((prints f.ground n (start p seat) ≡ t.now.printed) × IsOne 0)
      → prints f.ground n (start p seat) ≡ s.now.printed
  before s t n (inl e) = e
  before s t n (inr e) = absurd (zero_is_not_one e.1)

  -- a session goes on behind what a run has printed that strays
  strays_there : (j n : ℕ) (t : State) (u : List Begun) (m : Machine) (y : Comes j t u m) → run_of us seat j ≡ strays t → y.n ≤ n → Forth p us seat n
  strays_there j n t u m y is late =
      let rest = prints f.ground (n - y.n) (at_moment y.n) in
      let whole : prints f.ground n (start p seat) ≡ t.now.printed ++ rest =
      prints_front f.ground y.n n (start p seat) late ∙ ap (λ ps. ps ++ rest) y.wrote in
      strayed j (ap (λ (o : Outcome (Unit {0})). (point_of o).standing) is) (record {
        rest = all_printed rest;
        is = ap (λ (k : Machine). k.printed) (sym (is_flat n)) ∙ printed_at n ∙ ap all_printed whole ∙ all_printed_add t.now.printed rest
            ∙ ap (λ bs. bs ++ all_printed rest) (ap (λ (o : Outcome (Unit {0})). (point_of o).printed) (sym is));
      })

  -- Behind a run of spent steps, by what one step more comes to.
  forth_next : (j n : ℕ) (s : State) (l : List Begun) (m : Machine) (x : Comes j s l m) → run_of us seat j ≡ spent s → x.n ≤ n
      → (o : Outcome (Unit {0})) → run_of us seat (suc j) ≡ o
      → Follows f.ground f.rate f.charge f.lag 0 (tally (opening (program_of us) seat (suc j))) (start p seat) NoValue NoExit o → Beyond s o
      → ((t : State) (u : List Begun) (m' : Machine) (y : Comes (suc j) t u m') → o ≡ spent t → t.left ≡ 0 → y.n ≤ n → Forth p us seat n)
      → Forth p us seat n
  forth_next j n s l m x is early (done u t) is' y on again = absurd y.2
  forth_next j n s l m x is early (leaves e t) is' y on again = absurd y.2
  forth_next j n s l m x is early (spent t) is' y on again = by (cases_lt n y.2.n) where
    same : at_moment y.2.n ≡ y.0
    same = y.2.goes

    between : n < y.2.n → (prints f.ground n (start p seat) ≡ s.now.printed) ⊎ ((prints f.ground n (start p seat) ≡ t.now.printed) × IsOne 1)
        → Forth p us seat n
    between late (inl e) =
        let light = next_is_light j t y.1 y.0 y.2 in
        runs_there j n s is (ran_before f.ground n y.2.n (start p seat) (omega (arith, late)) (runs_at y.2.n t y.0 same y.3)) e (omega (arith, late, light))
    between late (inr e) =
        let light = time_is_light (suc j) t y.1 y.0 y.2 in
        runs_there (suc j) n t is' (ran_before f.ground n y.2.n (start p seat) (omega (arith, late)) (runs_at y.2.n t y.0 same y.3)) e.0
        (omega (arith, late, light))

    by : (n < y.2.n) ⊎ (y.2.n ≤ n) → Forth p us seat n
    by (inr late) = again t y.1 y.0 y.2 refl y.4 late
    by (inl late) = between late (printed_between j (suc j) n s t l y.1 m y.0 x y.2 early (omega (arith, late)) 1 on (omega arith))
  forth_next j n s l m x is early (ends e t) is' y on again = by (cases_lt n y.1.n) where
    ended : is_running (at_moment y.1.n).ending ≡ false
    ended = ap (λ (k : Machine). is_running k.ending) y.1.goes ∙ ap is_running y.2.ending ∙ end_is_end e

    printed_before : n < y.1.n → prints f.ground n (start p seat) ≡ s.now.printed
    printed_before late =
        before s t n (printed_between j (suc j) n s t l t.begun m y.0 x y.1 early (omega (arith, late)) 0 on (omega arith))

    by_ending : n < y.1.n → (b : Bool) → is_running (at_moment n).ending ≡ b → Forth p us seat n
    by_ending late true runs =
        let light = next_is_light j t t.begun y.0 y.1 in
        runs_there j n s is runs (printed_before late) (omega (arith, late, light))
    by_ending late false over =
        ended_there (suc j) n t e y.0 is' (sym (ended_stays f.ground n y.1.n (start p seat) (omega (arith, late)) over) ∙ y.1.goes) y.2

    by : (n < y.1.n) ⊎ (y.1.n ≤ n) → Forth p us seat n
    by (inr late) = ended_there (suc j) n t e y.0 is' (ended_stays f.ground y.1.n n (start p seat) late ended ∙ y.1.goes) y.2
    by (inl late) = by_ending late (is_running (at_moment n).ending) refl
  forth_next j n s l m x is early (strays t) is' y on again = by (cases_lt n y.2.n) where
    printed_before : n < y.2.n → prints f.ground n (start p seat) ≡ s.now.printed
    printed_before late =
        before s t n (printed_between j (suc j) n s t l y.1 m y.0 x y.2 early (omega (arith, late)) 0 on (omega arith))

    by : (n < y.2.n) ⊎ (y.2.n ≤ n) → Forth p us seat n
    by (inl late) =
        let light = next_is_light j t y.1 y.0 y.2 in
        runs_there j n s is (ran_before f.ground n y.2.n (start p seat) (omega (arith, late)) (runs_at y.2.n t y.0 y.2.goes y.3)) (printed_before late)
        (omega (arith, late, light))
    by (inr late) = strays_there (suc j) n t y.1 y.0 y.2 is' late

  -- the search: from a run of spent steps whose time is not past the moment; each step of the run may add one, and the moment bounds them
  forth_from : (fuel j n : ℕ) → fuel + j ≡ f.rate.reach * n + f.lag + 1 → (s : State) (l : List Begun) (m : Machine) (x : Comes j s l m)
      → run_of us seat j ≡ spent s → s.left ≡ 0 → x.n ≤ n → Forth p us seat n
  forth_from zero j n count s l m x is none early =
      let gain = x.gain in
      let more = reached_less f.rate.reach x.n n early in
      absurd (omega (arith, count, gain, none, more))
  forth_from (suc fuel) j n count s l m x is none early =
      forth_next j n s l m x is early (run_of us seat (suc j)) refl (f.follows (suc j))
      (subst (λ (o : Outcome (Unit {0})). GoesOnAs o (run_of us seat (suc j))) is (steps_go_on us seat j))
      (λ t u m' y is' none' early'. forth_from fuel (suc j) n (omega (arith, count)) t u m' y is' none' early')

  -- The run of no step: where there is a main body it is spent, with nothing printed; where there is none it has no meaning.
  abbrev pub Begins : Outcome (Unit {0}) → Type 0
  Begins o = (o ≡ spent (opening (program_of us) seat 0)) ⊎ (o ≡ has_no_meaning (opening (program_of us) seat 0))

  pub begins : Begins (run_of us seat 0)
  begins = by (program_of us).main where
    by : (o : Option Body) → Begins (run_program (program_of us) o 0 (opening (program_of us) seat 0))
    by (Some b) = inl refl
    by None = inr refl

  forth_first : (n : ℕ) → Begins (run_of us seat 0) → Forth p us seat n
  forth_first n (inl is) = by (cases_lt n x.2.n) where
    s : State
    s = opening (program_of us) seat 0

    x : Follows {A = Unit {0}} f.ground f.rate f.charge f.lag 0 (tally s) (start p seat) NoValue NoExit (spent s)
    x = subst (λ (o : Outcome (Unit {0})). Follows f.ground f.rate f.charge f.lag 0 (tally s) (start p seat) NoValue NoExit o) is (f.follows 0)

    nothing : n < x.2.n → prints f.ground n (start p seat) ≡ []
    nothing early =
        front_of_none (prints f.ground n (start p seat)) (prints f.ground (x.2.n - n) (at_moment n))
        (sym (prints_front f.ground n x.2.n (start p seat) (omega (arith, early))) ∙ x.2.wrote)

    by : (n < x.2.n) ⊎ (x.2.n ≤ n) → Forth p us seat n
    by (inr late) = forth_from (f.rate.reach * n + f.lag + 1) 0 n (omega arith) s x.1 x.0 x.2 is x.4 late
    by (inl early) =
        let light = time_is_light 0 s x.1 x.0 x.2 in
        runs_there 0 n s is (ran_before f.ground n x.2.n (start p seat) (omega (arith, early)) (runs_at x.2.n s x.0 x.2.goes x.3)) (nothing early)
        (omega (arith, early, light))
  forth_first n (inr is) =
      strayed 0 (ap (λ (o : Outcome (Unit {0})). (point_of o).standing) is)
      (record { rest = (flat p seat n).printed; is = ap (λ bs. bs ++ (flat p seat n).printed) (sym (ap (λ (o : Outcome (Unit {0})). (point_of o).printed) is)) })

pub forth : MachineFollowsSource
forth p us seat f n = forth_first p us seat f n (begins p us seat f)

pub back : SourceFollowsMachine
back p us seat f at lawful = back_by p us seat f at (run_of us seat at) refl (f.follows at) lawful

pub carry : FollowedProgramsCarry
carry p us bounded globals all = record {
  bounded = bounded;
  globals = globals;
  forth = λ seat sits n. forth p us seat (all seat sits) n;
  back = λ seat sits at lawful. back p us seat (all seat sits) at lawful;
}
