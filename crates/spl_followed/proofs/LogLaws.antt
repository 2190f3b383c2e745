-- What the session meets is what the run begins.
use Rattle.std.proofs.Common.{◌≡◌, ◌⊎◌, inl, inr, ℕ, zero, suc, ◌+◌, ◌-◌, ◌*◌, ◌≤◌, ◌<◌, true, false, List, [], ◌∷◌, ◌++◌, length, refl, sym, ap, subst, ◌∙◌, arith}
use Rattle.std.proofs.lemmas.Bool.{cases_lt}
use Rattle.std.proofs.lemmas.List.{append-nil, length-append}
use Rattle.spl_carries.specs.hp_program.declared.program.Program.{Program}
use Rattle.spl_carries.specs.hp_session.State.{Machine}
use Rattle.spl_carries.specs.hp_flat.Step.{after, is_running}
use Rattle.spl_carries.specs.spl_meaning.Tables.{Source}
use Rattle.spl_carries.specs.spl_meaning.Bodies.{program_of}
use Rattle.spl_carries.specs.spl_meaning.Runs.{Seat, opening, point_of, begun_of, run_of}
use Rattle.spl_carries.specs.spl_meaning.States.{State, Begun, Outcome, done, leaves, spent, ends, strays}
use Rattle.spl_carries.specs.spl_meaning.Laws.{Onward, Beyond, GoesOnAs}
use Rattle.spl_carries.proofs.spl_meaning_proofs.RunLaws.{steps_go_on}
use Rattle.spl_follow.specs.Spots.{Visit, visits}
use Rattle.spl_follow.specs.Following.{Logged, Behind, tally, Follows, NoExit}
use Rattle.spl_follow.specs.Programs.{NoValue}
use Rattle.spl_follow.proofs.WayLemmas.{visits_add, visits_ended, logged_add}
use Rattle.spl_followed.specs.Followed.{start, Followed, Meets, meets, strayed, IsMet}
use Rattle.spl_followed.specs.Laws.{LogsAgree}
use Rattle.spl_followed.proofs.TimeLemmas.{visits_front}
use Rattle.spl_followed.proofs.WayLaws as way
use Rattle.spl_followed.proofs.WayLaws.{Comes, reached_less, end_is_end, front_of_none}

-- ---- logs

-- each visit adds one statement
logged_length : (l : List Begun) (vs : List Visit) (l' : List Begun) → Logged l vs l' → length l' ≡ length l + length vs
logged_length l [] l' h = let none : length l + 0 ≡ length l = omega arith in sym (ap length h) ∙ sym none
logged_length l (v ∷ vs) l' h =
    let rest = logged_length (l ++ h.0 ∷ []) vs l' h.2 in
    let one = length-append l (h.0 ∷ []) in
    omega (arith, rest, one)

-- of two lists that have one element at most, one is empty
either_none : {A : Type 0} (ys us : List A) → length ys + length us ≤ 1 → (ys ≡ []) ⊎ (us ≡ [])
either_none [] us l = inl refl
either_none (y ∷ ys) [] l = inr refl
either_none (y ∷ ys) (u ∷ us) l = absurd (omega (arith, l))

-- nothing is logged where nothing is met
none_logged : (vs : List Visit) → Logged [] vs [] → vs ≡ []
none_logged [] h = refl
none_logged (v ∷ vs) h = let long = logged_length [] (v ∷ vs) [] h in absurd (omega (arith, long))

-- ---- one session

module _ (p : Program) (us : List Source) (seat : Seat) (f : Followed p us seat) where
  -- what it has met at a moment
  abbrev met : ℕ → List Visit
  met n = visits f.ground n (start p seat)

  -- A moment at which all that the run has begun is met: the one to which it was followed, or the next.
  complete : (n : ℕ) (s : State) (l : List Begun) (m : Machine) (x : Comes p us seat f n s l m) → Behind f.ground l s m
      → (b : ℕ) × (x.n ≤ b) × Logged [] (met b) s.begun
  complete n s l m x (inl e) = (x.n, omega arith, subst (λ (k : List Begun). Logged [] (met x.n) k) e x.log)
  complete n s l m x (inr h) = (x.n + 1, omega arith, subst (λ (vs : List Visit). Logged [] vs s.begun) (sym whole) both) where
    whole : met (x.n + 1) ≡ met x.n ++ visits f.ground 1 m
    whole =
        visits_add f.ground x.n 1 (start p seat) ∙ ap (λ (k : Machine). met x.n ++ visits f.ground 1 k) x.goes

    both : Logged [] (met x.n ++ visits f.ground 1 m) s.begun
    both = logged_add [] (met x.n) (visits f.ground 1 m) l s.begun x.log h

  -- at a moment between two such, of runs of which the second has begun one statement more at most, either's are met
  met_between : (a b n i : ℕ) (s t : State) → Logged [] (met a) s.begun → Logged [] (met b) t.begun → a ≤ n → n ≤ b → Onward i s t
      → (met n ≡ met a) ⊎ (met n ≡ met b)
  met_between a b n i s t h k early late on = by (either_none ys zs few) where
    ys : List Visit
    ys = visits f.ground (n - a) (after f.ground.segments a (start p seat))

    zs : List Visit
    zs = visits f.ground (b - n) (after f.ground.segments n (start p seat))

    there : met n ≡ met a ++ ys
    there = visits_front f.ground a n (start p seat) early

    whole : met b ≡ met n ++ zs
    whole = visits_front f.ground n b (start p seat) late

    few : length ys + length zs ≤ 1
    few =
        let one = on.one in
        let first = logged_length [] (met a) s.begun h in
        let second = logged_length [] (met b) t.begun k in
        let more = ap length on.begun ∙ length-append s.begun on.log in
        let before = ap length there ∙ length-append (met a) ys in
        let behind = ap length whole ∙ length-append (met n) zs in
        omega (arith, one, first, second, more, before, behind)

    by : (ys ≡ []) ⊎ (zs ≡ []) → (met n ≡ met a) ⊎ (met n ≡ met b)
    by (inl e) = inl (there ∙ ap (λ (vs : List Visit). met a ++ vs) e ∙ append-nil (met a))
    by (inr e) = inr (sym (append-nil (met n)) ∙ ap (λ (vs : List Visit). met n ++ vs) (sym e) ∙ sym whole)

  -- what a run has begun is met where that is all
  meets_at : (j n b : ℕ) (o : Outcome (Unit {0})) → run_of us seat j ≡ o → Logged [] (met b) (begun_of o) → met n ≡ met b → Meets p us seat f.ground n
  meets_at j n b o is h same =
      meets j (subst (λ (k : List Begun). Logged [] (met n) k) (sym (ap begun_of is)) (subst (λ (vs : List Visit). Logged [] vs (begun_of o)) (sym same) h))

  strays_at : (j n b : ℕ) (s : State) → run_of us seat j ≡ strays s → Logged [] (met b) s.begun → b ≤ n → Meets p us seat f.ground n
  strays_at j n b s is h early =
      strayed j b (ap (λ (o : Outcome (Unit {0})). (point_of o).standing) is) early
      (subst (λ (k : List Begun). Logged [] (met b) k) (sym (ap begun_of is)) h)

  -- between a run of spent steps and what one step more comes to
  meets_between : (j n a b i : ℕ) (s t : State) (o : Outcome (Unit {0})) → run_of us seat j ≡ spent s → run_of us seat (suc j) ≡ o
      → Logged [] (met a) s.begun → Logged [] (met b) t.begun → begun_of o ≡ t.begun → a ≤ n → n < b → Onward i s t → Meets p us seat f.ground n
  meets_between j n a b i s t o is is' h k same early late on = by (met_between a b n i s t h k early (omega (arith, late)) on) where
    by : (met n ≡ met a) ⊎ (met n ≡ met b) → Meets p us seat f.ground n
    by (inl e) = meets_at j n a (spent s) is h e
    by (inr e) = meets_at (suc j) n b o is' (subst (λ (l : List Begun). Logged [] (met b) l) (sym same) k) e

  meets_next : (j n a : ℕ) (s : State) → run_of us seat j ≡ spent s → Logged [] (met a) s.begun → a ≤ n → (o : Outcome (Unit {0}))
      → run_of us seat (suc j) ≡ o
      → Follows f.ground f.rate f.charge f.lag 0 (tally (opening (program_of us) seat (suc j))) (start p seat) NoValue NoExit o → Beyond s o
      → ((t : State) (b : ℕ) → o ≡ spent t → Logged [] (met b) t.begun → b ≤ n → suc j ≤ f.rate.reach * n + f.lag → Meets p us seat f.ground n)
      → Meets p us seat f.ground n
  meets_next j n a s is h early (done u t) is' y on again = absurd y.2
  meets_next j n a s is h early (leaves e t) is' y on again = absurd y.2
  meets_next j n a s is h early (spent t) is' y on again = by (cases_lt n c.0) where
    c : (b : ℕ) × (y.2.n ≤ b) × Logged [] (met b) t.begun
    c = complete (suc j) t y.1 y.0 y.2 y.5

    by : (n < c.0) ⊎ (c.0 ≤ n) → Meets p us seat f.ground n
    by (inl late) = meets_between j n a c.0 1 s t (spent t) is is' h c.2 refl early late on
    by (inr late) =
        let time = c.1 in
        let gain = y.2.gain in
        let none = y.4 in
        let less = reached_less f.rate.reach y.2.n n (omega (arith, time, late)) in
        again t c.0 refl c.2 late (omega (arith, gain, none, less))
  meets_next j n a s is h early (ends e t) is' y on again = by (cases_lt n y.1.n) where
    over : is_running (after f.ground.segments y.1.n (start p seat)).ending ≡ false
    over = ap (λ (k : Machine). is_running k.ending) y.1.goes ∙ ap is_running y.2.ending ∙ end_is_end e

    by : (n < y.1.n) ⊎ (y.1.n ≤ n) → Meets p us seat f.ground n
    by (inl late) = meets_between j n a y.1.n 0 s t (ends e t) is is' h y.1.log refl early late on
    by (inr late) =
        meets_at (suc j) n y.1.n (ends e t) is' y.1.log
        (visits_front f.ground y.1.n n (start p seat) late
        ∙ ap (λ (vs : List Visit). met y.1.n ++ vs) (visits_ended f.ground (n - y.1.n) (after f.ground.segments y.1.n (start p seat)) over)
        ∙ append-nil (met y.1.n))
  meets_next j n a s is h early (strays t) is' y on again = by (cases_lt n c.0) where
    c : (b : ℕ) × (y.2.n ≤ b) × Logged [] (met b) t.begun
    c = complete (suc j) t y.1 y.0 y.2 y.4

    by : (n < c.0) ⊎ (c.0 ≤ n) → Meets p us seat f.ground n
    by (inl late) = meets_between j n a c.0 0 s t (strays t) is is' h c.2 refl early late on
    by (inr late) = strays_at (suc j) n c.0 t is' c.2 late

  -- the search, as with what is printed
  meets_from : (fuel j n a : ℕ) → fuel + j ≡ f.rate.reach * n + f.lag + 1 → j ≤ f.rate.reach * n + f.lag → (s : State) → run_of us seat j ≡ spent s
      → Logged [] (met a) s.begun → a ≤ n → Meets p us seat f.ground n
  meets_from zero j n a count few s is h early = absurd (omega (arith, count, few))
  meets_from (suc fuel) j n a count few s is h early =
      meets_next j n a s is h early (run_of us seat (suc j)) refl (f.follows (suc j))
      (subst (λ (o : Outcome (Unit {0})). GoesOnAs o (run_of us seat (suc j))) is (steps_go_on us seat j))
      (λ t b is' k late few'. meets_from fuel (suc j) n b (omega (arith, count)) few' t is' k late)

  -- before the first run's moment nothing is met
  meets_none : (n b : ℕ) (o : Outcome (Unit {0})) → run_of us seat 0 ≡ o → begun_of o ≡ [] → Logged [] (met b) (begun_of o) → n < b
      → Meets p us seat f.ground n
  meets_none n b o is none h early =
      let all : met b ≡ [] = none_logged (met b) (subst (λ (l : List Begun). Logged [] (met b) l) none h) in
      let here : met n ≡ [] =
      front_of_none (met n) (visits f.ground (b - n) (after f.ground.segments n (start p seat)))
      (sym (visits_front f.ground n b (start p seat) (omega (arith, early))) ∙ all) in
      meets_at 0 n b o is h (here ∙ sym all)

  meets_first : (n : ℕ) → way.Begins p us seat f (run_of us seat 0) → Meets p us seat f.ground n
  meets_first n (inl is) = by (cases_lt n c.0) where
    s : State
    s = opening (program_of us) seat 0

    x : Follows {A = Unit {0}} f.ground f.rate f.charge f.lag 0 (tally s) (start p seat) NoValue NoExit (spent s)
    x = subst (λ (o : Outcome (Unit {0})). Follows f.ground f.rate f.charge f.lag 0 (tally s) (start p seat) NoValue NoExit o) is (f.follows 0)

    c : (b : ℕ) × (x.2.n ≤ b) × Logged [] (met b) s.begun
    c = complete 0 s x.1 x.0 x.2 x.5

    by : (n < c.0) ⊎ (c.0 ≤ n) → Meets p us seat f.ground n
    by (inl early) = meets_none n c.0 (spent s) is refl c.2 early
    by (inr late) = meets_from (f.rate.reach * n + f.lag + 1) 0 n c.0 (omega arith) (omega arith) s is c.2 late
  meets_first n (inr is) = by (cases_lt n c.0) where
    s : State
    s = record (opening (program_of us) seat 0) { lost = true }

    x : Follows {A = Unit {0}} f.ground f.rate f.charge f.lag 0 (tally s) (start p seat) NoValue NoExit (strays s)
    x = subst (λ (o : Outcome (Unit {0})). Follows f.ground f.rate f.charge f.lag 0 (tally s) (start p seat) NoValue NoExit o) is (f.follows 0)

    c : (b : ℕ) × (x.2.n ≤ b) × Logged [] (met b) s.begun
    c = complete 0 s x.1 x.0 x.2 x.4

    by : (n < c.0) ⊎ (c.0 ≤ n) → Meets p us seat f.ground n
    by (inl early) = meets_none n c.0 (strays s) is refl c.2 early
    by (inr late) = strays_at 0 n c.0 s is c.2 late

  -- ---- the other way

  is_met_at : (at b : ℕ) (o : Outcome (Unit {0})) → run_of us seat at ≡ o → Logged [] (met b) (begun_of o) → IsMet p us seat f.ground at
  is_met_at at b o is h = record { steps = b; met = subst (λ (l : List Begun). Logged [] (met b) l) (sym (ap begun_of is)) h }

  is_met_by : (at : ℕ) (o : Outcome (Unit {0})) → run_of us seat at ≡ o
      → Follows f.ground f.rate f.charge f.lag 0 (tally (opening (program_of us) seat at)) (start p seat) NoValue NoExit o → IsMet p us seat f.ground at
  is_met_by at (done u s) is x = absurd x.2
  is_met_by at (leaves e s) is x = absurd x.2
  is_met_by at (spent s) is x = let c = complete at s x.1 x.0 x.2 x.5 in is_met_at at c.0 (spent s) is c.2
  is_met_by at (ends e s) is x = is_met_at at x.1.n (ends e s) is x.1.log
  is_met_by at (strays s) is x = let c = complete at s x.1 x.0 x.2 x.4 in is_met_at at c.0 (strays s) is c.2

pub logs_agree : LogsAgree
logs_agree p us seat f = (
  λ n. meets_first p us seat f n (way.begins p us seat f),
  λ at. is_met_by p us seat f at (run_of us seat at) refl (f.follows at),
)
