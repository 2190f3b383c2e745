-- What stands behind a part that is done: branches, and words that are pushed.
use Rattle.std.proofs.Common.{◌≡◌, ℕ, ◌+◌, ◌-◌, ◌<◌, ◌≤◌, Bool, false, List, [], ◌∷◌, length, refl, ap, subst, arith, inl}
use Rattle.std.specs.Prelude.{None, if◌then◌else◌}
use Rattle.spl_values.specs.hp_word.declared.endings.Ending.TheVariants.{Running}
use Rattle.spl_values.specs.hp_instr.declared.instruction.Instr.{Instr}
use Rattle.spl_values.specs.hp_instr.declared.instruction.Instr.TheVariants as i
use Rattle.spl_values.specs.hp_session.State.{Machine, Outcome as Row}
use Rattle.spl_values.specs.hp_memory_rows.MemoryRows.{is_named}
use Rattle.spl_values.specs.spl_branch.declared.pieces.Piece.TheVariants.{Branch}
use Rattle.spl_values.specs.spl_meaning.References.{Setting}
use Rattle.spl_values.specs.spl_meaning.States.{Data, State, Exit, done, strays}
use Rattle.spl_values.specs.spl_follow.Spots.{Spot, pos, landed, Point, on, Ground}
use Rattle.spl_values.specs.spl_follow.Leading.{Leads}
use Rattle.spl_values.specs.spl_follow.Matching.{Outer, Matched, Shows, IsValue, Arrives}
use Rattle.spl_values.specs.spl_follow.Following.{Rate, tally, Goes, Follows, NoExit}
use Rattle.spl_values.specs.spl_follow.Doing.{going, turning}
use Rattle.spl_values.specs.spl_follow.Standing.{Sites, Stands}
use Rattle.spl_values.specs.spl_follow.Yielding.{Yields}
use Rattle.spl_values.proofs.spl_follow_proofs.KeepLemmas.{kept_top, kept_stack}
use Rattle.spl_values.proofs.spl_follow_proofs.RowLemmas.{no_print, shown, row_value}
use Rattle.spl_values.proofs.spl_follow_proofs.WayLemmas.{goes_none, goes_wider, lead}

-- ---- branches

-- the last branch leads to its mark, and else to the end
pub branch_leads : (g : Ground) (sites : Sites) (p : Point) (by : Instr) (l : ℕ) (q : Spot) → Stands g sites p (Branch by l ∷ []) q
    → Leads g p q (turning by (sites.marks l) q)
branch_leads g sites p by l q stands =
    subst (λ (r : Spot). Leads g p r (turning by (sites.marks l) r)) (ap (λ (x : Point). x.at) stands.2) stands.1

-- BR behind a value, which waits at the mark too
pub value_branches : (g : Ground) (w : Rate) (p r to : Spot) (back : Bool) (by n k : ℕ) (st : Setting) (s : State) (m : Machine) (d0 : Data) (m0 : Machine)
    (vs : List ℕ) → Leads g (on p) r (turning (i.Branch false back by) to r) → IsValue st p n k d0 m0 vs s m
    → Follows g w (pos r - pos p) 0 w.reach (tally s) m (IsValue st to n k d0 m0) NoExit (done vs s)
value_branches g w p r to back by n k st s m d0 m0 vs leads x =
    let shows = shown st s m (k + n) x.matches in (
      landed to m,
      lead g w (on p) r (turning (i.Branch false back by) to r) s.begun s m (landed to m) leads x.at shows.ending refl refl (no_print m (landed to m) refl),
      record { at = refl; wide = x.wide; matches = x.matches; stand = x.stand; small = x.small; kept = x.kept; silent = x.silent },
    )

-- BCC leads to the mark where its mask names the code
pub code_branches : (g : Ground) (w : Rate) (p r to : Spot) (mask : ℕ) (back : Bool) (by k : ℕ) (st : Setting) (s : State) (m : Machine) (d0 : Data) (m0 : Machine)
    → Leads g (on p) r (turning (i.OnCode mask back by) to r) → Arrives st p k d0 m0 s m
    → (n : Machine) × Goes g w (pos r - pos p) 0 w.reach (tally s) m (tally s) n × Arrives st (if is_named mask m.regs.code then to else r) k d0 m0 s n
code_branches g w p r to mask back by k st s m d0 m0 leads x =
    let shows = shown st s m k x.matches in
    let n : Machine = landed (if is_named mask m.regs.code then to else r) m in (
      n,
      lead g w (on p) r (turning (i.OnCode mask back by) to r) s.begun s m n leads x.at shows.ending refl refl (no_print m n refl),
      record { at = refl; matches = x.matches; kept = x.kept; coded = x.coded },
    )

-- ---- words

-- there is room for one more word behind a part that left none
pub arrived_room : (st : Setting) (q : Spot) (k need : ℕ) (d : Data) (m : Machine) (s : State) (n : Machine) → d.top + k + need ≤ d.stack → 1 ≤ need
    → Arrives st q k d m s n → length n.stack < n.stack_limit
arrived_room st q k need d m s n room enough x =
    let top = kept_top (d.top + k) d m.stack s.now n.stack x.kept in
    let stack = kept_stack (d.top + k) d m.stack s.now n.stack x.kept in
    let words = x.matches.words in
    let limit : n.stack_limit ≡ s.now.stack = ap (λ (u : Outer). u.limit) x.matches.outer in
    omega (arith, top, stack, words, limit, room, enough)

-- a row that pushes a word there
pub word_behind : (g : Ground) (w : Rate) (st : Setting) (p r : Spot) (F : Machine → Machine) (k v : ℕ) (s : State) (m : Machine) (d0 : Data) (m0 : Machine)
    (o : Row) → Leads g (on p) r F → F m ≡ going r o m → Arrives st p k d0 m0 s m → s.code ≡ None → Yields 0 (v ∷ []) m o → v < 65536
    → Follows g w (pos r - pos p) 0 w.reach (tally s) m (IsValue st r 1 k d0 m0) NoExit (done (v ∷ []) s)
word_behind g w st p r F k v s m d0 m0 o leads is x silent y small =
    let none : k ≡ k + 0 = omega arith in
    row_value g w (on p) r F st s.begun s m d0 m0 k 0 1 (v ∷ []) o leads is x.at refl y
    (subst (λ (i : ℕ). Matched st s.now m i) none x.matches) x.kept silent (small, tt) refl

-- ---- where nothing more is done

-- a run that strays while the machine shows what it has
pub strays_shown : {A : Type 0} (g : Ground) (w : Rate) (c lag e : ℕ) (s : State) (m : Machine) (P : A → State → Machine → Type 0)
    (J : Exit → State → Machine → Type 0) → Shows Running s.now m → Follows g w c lag e (tally s) m P J (strays s)
strays_shown g w c lag e s m P J shows = (m, s.begun, goes_none g w c lag (tally s) m, shows, inl refl)

-- one step that might have come before stays to spare
pub goes_nowhere : (g : Ground) (w : Rate) (c : ℕ) (s : State) (m : Machine) → Goes g w c 1 1 (tally s) m (tally s) m
goes_nowhere g w c s m = goes_wider g w c 0 0 c 1 1 (tally s) m (tally s) m (goes_none g w c 0 (tally s) m) (omega arith) (omega arith)
