-- The code at a procedure's entry, step by step: the marker that PCAL pushes, the room, the zeros, and the mode; and the run's steps meanwhile.
use Rattle.std.proofs.Common.{◌≡◌, ℕ, zero, suc, ◌+◌, ◌-◌, ◌*◌, ◌/◌, ◌%◌, ◌≤◌, Bool, true, false, List, [], ◌∷◌, ◌++◌, length, refl, sym, ap, subst}
use Rattle.std.proofs.Common.{◌∙◌, arith, inl}
use Rattle.std.specs.Prelude.{Option, replicate, ◌==◌, if◌then◌else◌, Ok}
use Rattle.std.proofs.lemmas.Bool.{eqb-true}
use Rattle.std.proofs.lemmas.List.{append-nil, append_assoc, length-append, length-replicate, replicate-append-replicate}
use Rattle.hp_call_yields.specs.hp_word.declared.arithmetic.Code.{Code}
use Rattle.hp_call_yields.specs.hp_word.declared.endings.Ending.TheVariants.{Running}
use Rattle.hp_call_yields.specs.hp_instr.declared.instruction.Instr.TheVariants as i
use Rattle.hp_call_yields.specs.hp_session.State.{Machine, Outcome as Row}
use Rattle.hp_call_yields.specs.hp_word_rows.WordRows.{count_row, immediate_row}
use Rattle.hp_call_yields.specs.hp_flat.Step.{at_left}
use Rattle.hp_call_yields.proofs.hp_yields_proofs.WordYields as rows
use Rattle.spl_grants.specs.spl_body_code.Frames.{ADDS, last_zeros, zeroed}
use Rattle.spl_grants.specs.spl_body_code.Bodies.{mode_entered, mode_left}
use Rattle.spl_grants.specs.spl_body_code.Cells.{cells_set, initials_set}
use Rattle.spl_grants.specs.spl_meaning.Places.{Place, Cell, Initial, put, put_cells, put_initials}
use Rattle.spl_grants.specs.spl_meaning.References.{address_of}
use Rattle.spl_grants.specs.spl_meaning.Runs as run
use Rattle.spl_grants.specs.spl_meaning.States.{Data, State, Exit, Outcome, done}
use Rattle.hp_call_yields.specs.spl_frames.Entries.{zeros_put}
use Rattle.hp_call_yields.specs.spl_follow.Spots.{Spot, spot, pos, landed, Point, on, Ground}
use Rattle.hp_call_yields.specs.spl_follow.Leading.{Leads}
use Rattle.hp_call_yields.specs.spl_follow.Matching.{Outer, outer, Shows, Coded}
use Rattle.hp_call_yields.specs.spl_follow.Following.{Rate, Tally, tally, Goes, Follows, NoExit}
use Rattle.hp_call_yields.specs.spl_follow.Doing.{going, doing}
use Rattle.hp_call_yields.specs.spl_follow.Standing.{Sites, Stands}
use Rattle.hp_call_yields.specs.spl_follow.Parts.{Completes}
use Rattle.hp_call_yields.proofs.spl_follow_proofs.FollowLemmas.{spend_follows, widen}
use Rattle.hp_call_yields.proofs.spl_follow_proofs.KeepLemmas.{kept_same}
use Rattle.hp_call_yields.proofs.spl_follow_proofs.RowLemmas.{no_print}
use Rattle.hp_call_yields.proofs.spl_follow_proofs.StandLemmas.{stands_le}
use Rattle.hp_call_yields.proofs.spl_follow_proofs.WayLemmas.{goes_none, goes_on, goes_wider, lead}
use Rattle.spl_grants.proofs.StepLemmas.{all, step_goes}
use Rattle.spl_procedures.specs.Procedures.{procedure_setting}
use Rattle.spl_procedures.specs.Laws.{NoneAreSet}

-- the machine stands at q, with this stack and this rest
pub record Comes (q : Spot) (xs : List ℕ) (u : Outer) (n : Machine) : Type 0 where
  pub at : spot n ≡ q
  pub words : n.stack ≡ xs
  pub same : outer n ≡ u

-- ---- zeros

-- the charge of a stretch of code, in which the run does nothing
abbrev pub ComesThere : Ground → Rate → Spot → Spot → Tally → Machine → List ℕ → Outer → Type 0
ComesThere g w p q t m xs u = (n : Machine) × Goes g w (pos q - pos p) 0 0 t m t n × Comes q xs u n

-- no code
there_none : (g : Ground) (w : Rate) (sites : Sites) (p q : Spot) (t : Tally) (m : Machine) (xs : List ℕ) (u : Outer) → Stands g sites (on p) [] q
    → Comes p xs u m → ComesThere g w p q t m xs u
there_none g w sites p q t m xs u stands c = (
  m,
  goes_none g w (pos q - pos p) 0 t m,
  record { at = c.at ∙ ap (λ (x : Point). x.at) stands; words = c.words; same = c.same },
)

-- one instruction, and then others
then_there : (g : Ground) (w : Rate) (p r q : Spot) (t : Tally) (m n : Machine) (xs : List ℕ) (u : Outer) → pos p ≤ pos r → pos r ≤ pos q
    → Goes g w (pos r - pos p) 0 w.reach t m t n → ComesThere g w r q t n xs u → ComesThere g w p q t m xs u
then_there g w p r q t m n xs u before after first rest = (
  rest.0,
  goes_on g w (pos r - pos p) 0 w.reach (pos q - pos r) 0 0 (pos q - pos p) 0 0 t m t n t rest.0 first rest.1 (omega (arith, before, after)) (omega arith),
  rest.2,
)

-- ADDS pushes zeros
zeros_by_row : (g : Ground) (w : Rate) (p r : Spot) (n : ℕ) (t : Tally) (m : Machine) (xs : List ℕ) (u : Outer)
    → Leads g (on p) r (doing g.segments (i.Control 7 n) r) → Comes p xs u m → m.ending ≡ Running → length xs + n ≤ m.stack_limit
    → (n' : Machine) × Goes g w (pos r - pos p) 0 w.reach t m t n' × Comes r (xs ++ replicate n 0) u n'
zeros_by_row g w p r n t m xs u leads c runs room =
    let y = (rows.zeros_added n (at_left m) (subst (λ (ys : List ℕ). length ys + n ≤ m.stack_limit) (sym c.words) room)).words in (
      landed r y.left,
      step_goes g w p r (doing g.segments (i.Control 7 n) r) t m 0 (replicate n 0) (count_row 7 n (at_left m)) leads refl c.at runs y,
      record {
        at = refl;
        words = y.words ∙ ap (λ (ys : List ℕ). ys ++ replicate n 0) (all m.stack ∙ c.words);
        same = y.same ∙ c.same;
      },
    )

-- what is left of a number of zeros
last_there : (g : Ground) (w : Rate) (sites : Sites) (p q : Spot) (n : ℕ) (t : Tally) (m : Machine) (xs : List ℕ) (u : Outer)
    → Stands g sites (on p) (last_zeros n) q
    → Comes p xs u m → m.ending ≡ Running → length xs + n ≤ m.stack_limit → ComesThere g w p q t m (xs ++ replicate n 0) u
last_there g w sites p q n t m xs u stands c runs room = by (n == 0) refl stands where
  by : (b : Bool) → (n == 0) ≡ b → Stands g sites (on p) (if b then [] else ADDS n ∷ []) q → ComesThere g w p q t m (xs ++ replicate n 0) u
  by true e at =
      let none : n ≡ 0 = eqb-true n 0 e in
      there_none g w sites p q t m (xs ++ replicate n 0) u at
      (record { at = c.at; words = c.words ∙ sym (append-nil xs) ∙ ap (λ (k : ℕ). xs ++ replicate k 0) (sym none); same = c.same })
  by false e at =
      let y = zeros_by_row g w p at.0 n t m xs u at.1 c runs room in
      let rise = at.1.rise in
      then_there g w p at.0 q t m y.0 (xs ++ replicate n 0) u (omega (arith, rise)) (stands_le g sites [] (on at.0) q at.2) y.1
      (there_none g w sites at.0 q t y.0 (xs ++ replicate n 0) u at.2 y.2)

-- zeros behind zeros
zeros_join : (xs : List ℕ) (c n k : ℕ) → c + n ≡ k → (xs ++ replicate c 0) ++ replicate n 0 ≡ xs ++ replicate k 0
zeros_join xs c n k count =
    append_assoc xs (replicate c 0) (replicate n 0)
    ∙ ap (λ (ys : List ℕ). xs ++ ys) (replicate-append-replicate c n 0 ∙ ap (λ (i : ℕ). replicate i 0) count)

-- many of them, so many by each instruction, and the last
many_there : (g : Ground) (w : Rate) (sites : Sites) (c j n : ℕ) (p q : Spot) (t : Tally) (m : Machine) (xs : List ℕ) (u : Outer)
    → Stands g sites (on p) (replicate j (ADDS c) ++ last_zeros n) q → Comes p xs u m → m.ending ≡ Running → length xs + (c * j + n) ≤ m.stack_limit
    → ComesThere g w p q t m (xs ++ replicate (c * j + n) 0) u
many_there g w sites c zero n p q t m xs u stands x runs room =
    let none : n ≡ c * 0 + n = omega arith in
    subst (λ (k : ℕ). ComesThere g w p q t m (xs ++ replicate k 0) u) none
    (last_there g w sites p q n t m xs u stands x runs (omega (arith, room)))
many_there g w sites c (suc j) n p q t m xs u stands x runs room =
    let more : c * suc j ≡ c + c * j = omega arith in
    let y = zeros_by_row g w p stands.0 c t m xs u stands.1 x runs (omega (arith, room, more)) in
    let rise = stands.1.rise in
    let long : length (xs ++ replicate c 0) ≡ length xs + c = length-append xs (replicate c 0) ∙ ap (λ (k : ℕ). length xs + k) (length-replicate c 0) in
    let limit : (y.0).stack_limit ≡ m.stack_limit = ap (λ (v : Outer). v.limit) (y.2.same ∙ sym x.same) in
    let going_on : (y.0).ending ≡ Running = ap (λ (v : Outer). v.ending) (y.2.same ∙ sym x.same) ∙ runs in
    let rest = many_there g w sites c j n stands.0 q t y.0 (xs ++ replicate c 0) u stands.2 y.2 going_on (omega (arith, room, more, long, limit)) in
    let count : c + (c * j + n) ≡ c * suc j + n = omega (arith, more) in
    subst (λ (ys : List ℕ). ComesThere g w p q t m ys u) (zeros_join xs c (c * j + n) (c * suc j + n) count)
    (then_there g w p stands.0 q t m y.0 ((xs ++ replicate c 0) ++ replicate (c * j + n) 0) u (omega (arith, rise))
    (stands_le g sites (replicate j (ADDS c) ++ last_zeros n) (on stands.0) q stands.2) y.1 rest)

-- local words become zero
pub zeros_there : (g : Ground) (w : Rate) (sites : Sites) (n : ℕ) (p q : Spot) (t : Tally) (m : Machine) (xs : List ℕ) (u : Outer)
    → Stands g sites (on p) (zeroed n) q → Comes p xs u m → m.ending ≡ Running → length xs + n ≤ m.stack_limit
    → ComesThere g w p q t m (xs ++ replicate n 0) u
zeros_there g w sites n p q t m xs u stands x runs room =
    let whole : 255 * (n / 255) + n % 255 ≡ n = omega arith in
    subst (λ (k : ℕ). ComesThere g w p q t m (xs ++ replicate k 0) u) whole
    (many_there g w sites 255 (n / 255) (n % 255) p q t m xs u stands x runs (omega (arith, room, whole)))

-- the run's steps meanwhile: where they are spent, the machine is where it is
pub zeros_follow : (g : Ground) (w : Rate) (c lag e lag' n a : ℕ) (s : State) (m : Machine) (P : List ℕ → State → Machine → Type 0)
    (J : Exit → State → Machine → Type 0)
    (go : State → Outcome (List ℕ)) → Shows Running s.now m
    → ((j : ℕ) → s.left ≡ n + j
    → Follows g w c lag e (tally (record s { left = j })) m P J (go (record s { now = record s.now { mem = zeros_put n a s.now.mem }; left = j })))
    → lag + n ≤ lag' → Follows g w c lag' e (tally s) m P J (run.zeroed n a s go)
zeros_follow g w c lag e lag' zero a s m P J go shows rest before =
    widen g w c lag e c lag' e (tally s) m P J (go s) (rest s.left (omega arith)) (omega arith) (omega (arith, before)) (omega (arith, before))
zeros_follow g w c lag e lag' (suc n) a s m P J go shows rest before =
    spend_follows g w c (lag + n) c lag' e s s.begun m P J
    (λ s1. run.zeroed n (suc a) (record s1 { now = record s1.now { mem = put a 0 s1.now.mem } }) go) shows (inl refl)
    (λ k is. zeros_follow g w c lag e (lag + n) n (suc a) (record s { now = record s.now { mem = put a 0 s.now.mem }; left = k }) m P J go
    (record { ending = shows.ending; printed = shows.printed }) (λ j same. rest j (omega (arith, is, same))) (omega arith))
    (omega arith) (omega (arith, before))

-- ---- modes

-- one instruction that changes the mode
mode_changes : (g : Ground) (w : Rate) (p r q : Spot) (n : ℕ) (split : Bool) (s : State) (m : Machine) → Leads g (on p) r (doing g.segments (i.Immediate 0 n) r)
    → on r ≡ on q → spot m ≡ p → m.ending ≡ Running → immediate_row 0 n (at_left m) ≡ Ok (record (at_left m) { split = split })
    → ComesThere g w p q (tally s) m m.stack (record (outer m) { split = split })
mode_changes g w p r q n split s m leads end at runs is =
    let left : Machine = landed r (record (at_left m) { split = split }) in
    let same : r ≡ q = ap (λ (x : Point). x.at) end in
    subst (λ (z : Spot). ComesThere g w p z (tally s) m m.stack (record (outer m) { split = split })) same (
      left,
      goes_wider g w (pos r - pos p) 0 w.reach (pos r - pos p) 0 0 (tally s) m (tally s) left
          (lead g w (on p) r (doing g.segments (i.Immediate 0 n) r) s.begun s m left leads at runs refl (ap (λ (o : Row). going r o m) is)
          (no_print m left refl))
          (omega arith) (omega arith),
      record { at = refl; words = refl; same = refl },
    )

-- split mode is entered from whole mode, where a procedure is split
pub mode_enters : (g : Ground) (w : Rate) (sites : Sites) (split : Bool) (p q : Spot) (s : State) (m : Machine) → Stands g sites (on p) (mode_entered split) q
    → spot m ≡ p → m.split ≡ false → m.ending ≡ Running → ComesThere g w p q (tally s) m m.stack (record (outer m) { split = split })
mode_enters g w sites true p q s m stands at whole runs =
    mode_changes g w p stands.0 q 1 true s m stands.1 stands.2 at runs (rows.mode_split (at_left m) whole)
mode_enters g w sites false p q s m stands at whole runs =
    there_none g w sites p q (tally s) m m.stack (record (outer m) { split = false }) stands
    (record { at = at; words = refl; same = ap (λ (b : Bool). record (outer m) { split = b }) whole })

-- and is left on the way out
pub mode_leaves : (g : Ground) (w : Rate) (sites : Sites) (split : Bool) (p q : Spot) (s : State) (m : Machine) → Stands g sites (on p) (mode_left split) q
    → spot m ≡ p → m.split ≡ split → m.ending ≡ Running → ComesThere g w p q (tally s) m m.stack (record (outer m) { split = false })
mode_leaves g w sites true p q s m stands at as_split runs =
    mode_changes g w p stands.0 q 2 false s m stands.1 stands.2 at runs (rows.mode_joined (at_left m) as_split)
mode_leaves g w sites false p q s m stands at whole runs =
    there_none g w sites p q (tally s) m m.stack (record (outer m) { split = false }) stands
    (record { at = at; words = refl; same = ap (λ (b : Bool). record (outer m) { split = b }) whole })

-- ---- cells

-- where there are none, nothing is set
pub none_set : NoneAreSet
none_set g w sites b no_cells no_initials p q stands s m at x locals room silent =
    subst (λ (e : Data). Follows g w (pos q - pos p) 0 0 (tally s) m (Completes (procedure_setting false b.profile) q 0 s.now m) NoExit
    (done tt (record s { now = e })))
    (sym same) (
      m,
      goes_none g w (pos q - pos p) 0 (tally s) m,
      record {
        at = at ∙ ap (λ (z : Point). z.at) here;
        matches = x;
        kept = kept_same (s.now.top + 0) s.now m.stack;
        coded = subst (λ (c : Option Code). Coded c m.regs.code) (sym silent) tt;
      },
    ) where
      address : Place → ℕ
      address z = address_of z s.now

      same : run.cells_set b s.now ≡ s.now
      same =
          ap (λ (cs : List Cell). record s.now { mem = put_initials address b.initials (put_cells address cs s.now.mem) }) no_cells
          ∙ ap (λ (is : List Initial). record s.now { mem = put_initials address is s.now.mem }) no_initials

      here : on p ≡ on q
      here =
          subst (λ (is : List Initial). Stands g sites (on p) (initials_set is) q) no_initials
          (subst (λ (cs : List Cell). Stands g sites (on p) (cells_set cs ++ initials_set b.initials) q) no_cells stands)
