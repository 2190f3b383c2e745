-- So many steps, and then so many more: what the machine meets and prints, the log that this makes, and one stretch after another.
use Rattle.std.proofs.Common.{◌≡◌, ℕ, zero, suc, ◌+◌, ◌-◌, ◌≤◌, ◌<◌, Bool, true, false, List, [], ◌∷◌, ◌++◌, length, refl, sym, ap, subst, ◌∙◌, arith}
use Rattle.std.specs.Prelude.{Option, Some, None, if◌then◌else◌, drop}
use Rattle.std.proofs.lemmas.List.{append-nil, append_assoc, take-append-drop}
use Rattle.hp_flat.specs.hp_word.declared.endings.Ending.TheVariants.{Running}
use Rattle.spl_code.specs.spl_tree.declared.names_and_places.At.{At}
use Rattle.hp_flat.specs.hp_session.State.{Machine}
use Rattle.hp_flat.specs.Step.{step, after, is_running}
use Rattle.hp_flat.proofs.RunLaws.{after-add}
use Rattle.spl_code.specs.spl_meaning.States.{State, Begun, all_printed}
use Rattle.spl_follow.specs.Spots.{Spot, spot, pos, Point, Ground, start_at, Visit, visit_of, met, visits, as_print, print_between, prints, OnlyAdds}
use Rattle.spl_follow.specs.Leading.{Reaches, Leads}
use Rattle.spl_follow.specs.Following.{Logged, Owes, Rate, Tally, tally, tally_with, Goes}

-- ---- steps

-- an ended machine meets nothing
pub visits_ended : (g : Ground) (n : ℕ) (m : Machine) → is_running m.ending ≡ false → visits g n m ≡ []
visits_ended g zero m h = refl
visits_ended g (suc n) m h = rw h refl

-- nor does it print
pub prints_ended : (g : Ground) (n : ℕ) (m : Machine) → is_running m.ending ≡ false → prints g n m ≡ []
prints_ended g zero m h = refl
prints_ended g (suc n) m h = rw h refl

-- what is met in all steps is what is met in the first and then in the others
pub visits_add : (g : Ground) (k n : ℕ) (m : Machine) → visits g (k + n) m ≡ visits g k m ++ visits g n (after g.segments k m)
unfolding after
visits_add g zero n m = let e : 0 + n ≡ n = omega arith in rw e refl
visits_add g (suc k) n m =
    let e : suc k + n ≡ suc (k + n) = omega arith in
    rw e (by (is_running m.ending) refl (visits_add g k n (step g.segments m))) where
      by : (runs : Bool) → is_running m.ending ≡ runs
          → visits g (k + n) (step g.segments m) ≡ visits g k (step g.segments m) ++ visits g n (after g.segments k (step g.segments m))
          → (if runs then met g m ++ visits g (k + n) (step g.segments m) else [])
          ≡ (if runs then met g m ++ visits g k (step g.segments m) else []) ++ visits g n (if runs then after g.segments k (step g.segments m) else m)
      by true is rest = ap (λ vs. met g m ++ vs) rest ∙ sym (append_assoc (met g m) (visits g k (step g.segments m)) _)
      by false is rest = sym (visits_ended g n m is)

-- and so with what is printed
pub prints_add : (g : Ground) (k n : ℕ) (m : Machine) → prints g (k + n) m ≡ prints g k m ++ prints g n (after g.segments k m)
unfolding after
prints_add g zero n m = let e : 0 + n ≡ n = omega arith in rw e refl
prints_add g (suc k) n m =
    let e : suc k + n ≡ suc (k + n) = omega arith in
    rw e (by (is_running m.ending) refl (prints_add g k n (step g.segments m))) where
      by : (runs : Bool) → is_running m.ending ≡ runs
          → prints g (k + n) (step g.segments m) ≡ prints g k (step g.segments m) ++ prints g n (after g.segments k (step g.segments m))
          → (if runs then print_between m (step g.segments m) ++ prints g (k + n) (step g.segments m) else [])
          ≡ (if runs then print_between m (step g.segments m) ++ prints g k (step g.segments m) else [])
          ++ prints g n (if runs then after g.segments k (step g.segments m) else m)
      by true is rest =
          ap (λ ps. print_between m (step g.segments m) ++ ps) rest
          ∙ sym (append_assoc (print_between m (step g.segments m)) (prints g k (step g.segments m)) _)
      by false is rest = sym (prints_ended g n m is)

-- the bytes printed are those before, and then all prints
pub bytes_after : (g : Ground) → OnlyAdds g.segments → (n : ℕ) (m : Machine) → (after g.segments n m).printed ≡ m.printed ++ all_printed (prints g n m)
unfolding after
bytes_after g adds zero m = sym (append-nil m.printed)
bytes_after g adds (suc n) m = by (is_running m.ending) (bytes_after g adds n (step g.segments m)) where
  all_after : (bs : List ℕ) (ps : List (List ℕ)) → all_printed (as_print bs ++ ps) ≡ bs ++ all_printed ps
  all_after [] ps = refl
  all_after (b ∷ bs) ps = refl

  added : (step g.segments m).printed ≡ m.printed ++ drop (length m.printed) (step g.segments m).printed
  added =
      sym (take-append-drop (length m.printed) (step g.segments m).printed)
      ∙ ap (λ bs. bs ++ drop (length m.printed) (step g.segments m).printed) (adds m)

  by : (runs : Bool) → (after g.segments n (step g.segments m)).printed ≡ (step g.segments m).printed ++ all_printed (prints g n (step g.segments m))
      → (if runs then after g.segments n (step g.segments m) else m).printed
      ≡ m.printed ++ all_printed (if runs then print_between m (step g.segments m) ++ prints g n (step g.segments m) else [])
  by true rest =
      rest ∙ ap (λ bs. bs ++ all_printed (prints g n (step g.segments m))) added
      ∙ append_assoc m.printed (drop (length m.printed) (step g.segments m).printed) (all_printed (prints g n (step g.segments m)))
      ∙ ap (λ bs. m.printed ++ bs) (sym (all_after (drop (length m.printed) (step g.segments m).printed) (prints g n (step g.segments m))))
  by false rest = sym (append-nil m.printed)

-- ---- the log

-- visits and then others take a log where these take it, and then those
pub logged_add : (l : List Begun) (vs ws : List Visit) (l1 l2 : List Begun) → Logged l vs l1 → Logged l1 ws l2 → Logged l (vs ++ ws) l2
logged_add l [] ws l1 l2 a b = subst (λ (x : List Begun). Logged x ws l2) (sym a) b
logged_add l (v ∷ vs) ws l1 l2 a b = (a.0, a.1, logged_add (l ++ a.0 ∷ []) vs ws l1 l2 a.2 b)

-- ---- stretches

-- no step
pub goes_none : (g : Ground) (w : Rate) (c lag : ℕ) (t : Tally) (m : Machine) → Goes g w c lag 0 t m t m
unfolding after
goes_none g w c lag t m = record {
  n = 0;
  goes = refl;
  cost = omega arith;
  gain = omega arith;
  less = omega arith;
  log = refl;
  wrote = append-nil t.printed;
}

-- a stretch, and then another: charges and what may come before the first instruction add up, and what the first has to spare serves the other
pub goes_on : (g : Ground) (w : Rate) (a ga ea b gb eb c lag e : ℕ) (t : Tally) (m : Machine) (t1 : Tally) (m1 : Machine) (t2 : Tally) (m2 : Machine)
    → Goes g w a ga ea t m t1 m1 → Goes g w b gb eb t1 m1 t2 m2 → a + b ≤ c → ga + gb + e ≤ lag + ea + eb → Goes g w c lag e t m t2 m2
goes_on g w a ga ea b gb eb c lag e t m t1 m1 t2 m2 x y charges spare = record {
  n = x.n + y.n;
  goes = after-add g.segments x.n y.n m ∙ ap (λ (k : Machine). after g.segments y.n k) x.goes ∙ y.goes;
  cost = omega (arith, x.cost, y.cost, charges);
  gain = omega (arith, x.gain, y.gain, spare);
  less = omega (arith, x.less, y.less);
  log = subst (λ (vs : List Visit). Logged t.begun vs t2.begun) (sym (visits_add g x.n y.n m ∙ ap (λ (k : Machine). visits g x.n m ++ visits g y.n k) x.goes))
      (logged_add t.begun (visits g x.n m) (visits g y.n m1) t1.begun t2.begun x.log y.log);
  wrote =
      ap (λ ps. t.printed ++ ps) (prints_add g x.n y.n m ∙ ap (λ (k : Machine). prints g x.n m ++ prints g y.n k) x.goes)
      ∙ sym (append_assoc t.printed (prints g x.n m) (prints g y.n m1)) ∙ ap (λ ps. ps ++ prints g y.n m1) x.wrote ∙ y.wrote;
}

-- a stretch may be charged more
pub goes_wider : (g : Ground) (w : Rate) (a ga ea c lag e : ℕ) (t : Tally) (m : Machine) (t1 : Tally) (m1 : Machine) → Goes g w a ga ea t m t1 m1
    → a ≤ c → ga + e ≤ lag + ea → Goes g w c lag e t m t1 m1
goes_wider g w a ga ea c lag e t m t1 m1 x charges spare = record {
  n = x.n;
  goes = x.goes;
  cost = omega (arith, x.cost, charges);
  gain = omega (arith, x.gain, spare);
  less = x.less;
  log = x.log;
  wrote = x.wrote;
}

-- ---- one piece

-- what is met on the way through a piece is what was due
lead_logged : (at : Option At) (l : List Begun) (s : State) (m : Machine) → Owes at l s m → Logged l (visit_of at m) s.begun
lead_logged None l s m h = h
lead_logged (Some at) l s m h = (h.0, h.1, h.2)

-- where each step is at a running machine, the first visit is the one where the machine stands
visits_first : (g : Ground) (n : ℕ) (m : Machine) → m.ending ≡ Running → visits g n (step g.segments m) ≡ []
    → visits g (suc n) m ≡ visit_of (start_at g (spot m)) m
visits_first g n m runs quiet =
    ap (λ (b : Bool). if b then met g m ++ visits g n (step g.segments m) else []) (ap is_running runs)
    ∙ ap (λ (vs : List Visit). met g m ++ vs) quiet ∙ append-nil (met g m)

-- Through one piece, whatever it is charged: what was due is met, and what the machine prints is one print, if any.
lead_charged : (g : Ground) (w : Rate) (p : Point) (r : Spot) (F : Machine → Machine) (l : List Begun) (s : State) (m n : Machine) (c : ℕ)
    → Leads g p r F → (x : Reaches g (pos r - pos p.at) m (F m)) → x.more < c → spot m ≡ p.at → m.ending ≡ Running → Owes p.due l s m → F m ≡ n
    → Goes g w c 0 w.reach (tally_with l s) m (record (tally s) { printed = s.now.printed ++ print_between m n }) n
lead_charged g w p r F l s m n c leads x few at runs owes is =
    let start : start_at g (spot m) ≡ p.due = ap (λ (q : Spot). start_at g q) at ∙ leads.start in
    record {
      n = suc x.more;
      goes = x.goes ∙ is;
      cost = omega (arith, few);
      gain = omega arith;
      less = omega arith;
      log = subst (λ (vs : List Visit). Logged l vs s.begun)
          (sym (visits_first g x.more m runs x.quiet ∙ ap (λ (o : Option At). visit_of o m) start)) (lead_logged p.due l s m owes);
      wrote = ap (λ ps. s.now.printed ++ ps) (x.wrote ∙ ap (λ (k : Machine). print_between m k) is);
    }

-- it is charged its halves of words
pub lead_printing : (g : Ground) (w : Rate) (p : Point) (r : Spot) (F : Machine → Machine) (l : List Begun) (s : State) (m n : Machine) → Leads g p r F
    → spot m ≡ p.at → m.ending ≡ Running → Owes p.due l s m → F m ≡ n
    → Goes g w (pos r - pos p.at) 0 w.reach (tally_with l s) m (record (tally s) { printed = s.now.printed ++ print_between m n }) n
lead_printing g w p r F l s m n leads at runs owes is =
    let x = leads.goes m at runs in
    lead_charged g w p r F l s m n (pos r - pos p.at) leads x x.few at runs owes is

-- or two steps, which it never takes more of; it prints nothing
pub lead_briefly : (g : Ground) (w : Rate) (p : Point) (r : Spot) (F : Machine → Machine) (l : List Begun) (s : State) (m n : Machine) → Leads g p r F
    → spot m ≡ p.at → m.ending ≡ Running → Owes p.due l s m → F m ≡ n → print_between m n ≡ []
    → Goes g w 2 0 w.reach (tally_with l s) m (tally s) n
lead_briefly g w p r F l s m n leads at runs owes is nothing =
    let x = leads.goes m at runs in
    subst (λ (ps : List (List ℕ)). Goes g w 2 0 w.reach (tally_with l s) m (record (tally s) { printed = ps }) n)
    (ap (λ ps. s.now.printed ++ ps) nothing ∙ append-nil s.now.printed) (lead_charged g w p r F l s m n 2 leads x x.brief at runs owes is)

-- through one piece that prints nothing
pub lead : (g : Ground) (w : Rate) (p : Point) (r : Spot) (F : Machine → Machine) (l : List Begun) (s : State) (m n : Machine) → Leads g p r F
    → spot m ≡ p.at → m.ending ≡ Running → Owes p.due l s m → F m ≡ n → print_between m n ≡ []
    → Goes g w (pos r - pos p.at) 0 w.reach (tally_with l s) m (tally s) n
lead g w p r F l s m n leads at runs owes is nothing =
    subst (λ (ps : List (List ℕ)). Goes g w (pos r - pos p.at) 0 w.reach (tally_with l s) m (record (tally s) { printed = ps }) n)
    (ap (λ ps. s.now.printed ++ ps) nothing ∙ append-nil s.now.printed) (lead_printing g w p r F l s m n leads at runs owes is)
