-- A move or a scan with two words on top: a step that stays, one that is the last, and one that traps.
use Rattle.std.proofs.Common.{◌≡◌, ℕ, ◌+◌, ◌-◌, ◌<◌, ◌≤◌, [], ◌∷◌, ◌++◌, length, take, Ok, Err, refl, sym, ap, subst, ◌∙◌, arith}
use Rattle.std.specs.Prelude.{None}
use Rattle.spl_moves.specs.hp_word.declared.endings.Ending.TheVariants.{Running}
use Rattle.spl_moves.specs.hp_word.declared.endings.Trap.TheVariants.{Bounds}
use Rattle.spl_moves.specs.hp_instr.declared.instruction.Instr.TheVariants as i
use Rattle.spl_moves.specs.hp_session.State.{Machine, Outcome as Row, word, replaced, wrapped}
use Rattle.spl_moves.specs.hp_memory_rows.MoveRows.{move_row}
use Rattle.spl_moves.specs.hp_flat.Step.{at_left}
use Rattle.spl_moves.specs.spl_meaning.References.{Setting}
use Rattle.spl_moves.specs.spl_meaning.States.{Data, State, ends, trapped}
use Rattle.spl_moves.specs.spl_follow.Spots.{Spot, spot, pos, landed, on, Ground}
use Rattle.spl_moves.specs.spl_follow.Leading.{Leads}
use Rattle.spl_moves.specs.spl_follow.Matching.{outer, Matched, Kept, Shows, IsValue}
use Rattle.spl_moves.specs.spl_follow.Following.{Rate, Tally, tally, Goes, Follows, NoExit}
use Rattle.spl_moves.specs.spl_follow.Doing.{moving, doing}
use Rattle.spl_moves.proofs.spl_follow_proofs.KeepLemmas.{kept_top, kept_stack, value_word}
use Rattle.spl_moves.proofs.spl_follow_proofs.RowLemmas.{no_print, shown, row_trap}
use Rattle.spl_moves.proofs.spl_follow_proofs.WayLemmas.{lead, lead_briefly}
use Rattle.spl_moves.proofs.StepLemmas.{stays, passes, value_left, first_left}

module _ (g : Ground) (w : Rate) (st : Setting) (p r : Spot) (k : ℕ) (d0 : Data) (m0 : Machine) (which number : ℕ)
    (leads : Leads g (on p) r (doing g.segments (i.Control which number) r))
    (does : (m : Machine) → doing g.segments (i.Control which number) r m ≡ moving r (move_row g.segments which number (at_left m)) m)
    (room : d0.top + (k + 2) ≤ d0.stack) where
  -- two words on k that wait
  abbrev pub Pair : ℕ → ℕ → State → Machine → Type 0
  Pair b a s m = IsValue st p 2 k d0 m0 (b ∷ a ∷ []) s m

  pub lower_word : (b a : ℕ) (s : State) (m : Machine) → Pair b a s m → word 1 m ≡ b
  lower_word b a s m x = value_word st p 2 k 1 0 d0 m0 (b ∷ a ∷ []) s m x refl

  pub upper_word : (b a : ℕ) (s : State) (m : Machine) → Pair b a s m → word 0 m ≡ a
  upper_word b a s m x = value_word st p 2 k 0 1 d0 m0 (b ∷ a ∷ []) s m x refl

  pub two_there : (b a : ℕ) (s : State) (m : Machine) → Pair b a s m → 2 ≤ length m.stack
  two_there b a s m x = let words = x.matches.words in omega (arith, words)

  pub pair_room : (b a : ℕ) (s : State) (m : Machine) → Pair b a s m → s.now.top + (k + 2) ≤ s.now.stack
  pair_room b a s m x =
      let top = kept_top (d0.top + k) d0 m0.stack s.now m.stack x.kept in
      let stack = kept_stack (d0.top + k) d0 m0.stack s.now m.stack x.kept in
      omega (arith, room, top, stack)

  pub pair_runs : (b a : ℕ) (s : State) (m : Machine) → Pair b a s m → Shows Running s.now m
  pair_runs b a s m x = shown st s m (k + 2) x.matches

  -- A step that puts two others in their place stays, whatever it stored.
  pub pair_goes : (b a x y : ℕ) (s t : State) (m e : Machine) → Pair b a s m
      → move_row g.segments which number (at_left m) ≡ Ok (replaced 2 (x ∷ y ∷ []) e) → e.regs.p ≡ m.regs.p → e.printed ≡ m.printed → tally t ≡ tally s
      → Matched st t.now e (k + 2) → Kept (d0.top + k) d0 m0.stack t.now e.stack → t.code ≡ None → x < 65536 → y < 65536
      → (n : Machine) × Goes g w 2 0 w.reach (tally s) m (tally t) n × Pair x y t n
  pair_goes b a x y s t m e v row place printed same matches kept silent small less =
      let n : Machine = landed (spot m) (replaced 2 (x ∷ y ∷ []) e) in (
        n,
        subst (λ (u : Tally). Goes g w 2 0 w.reach (tally s) m u n) (sym same)
            (lead_briefly g w (on p) r (doing g.segments (i.Control which number) r) s.begun s m n leads v.at (pair_runs b a s m v).ending refl
            (does m ∙ ap (λ (o : Row). moving r o m) row ∙ stays r (replaced 2 (x ∷ y ∷ []) e) m place) (no_print m n printed)),
        value_left st p k 2 2 (x ∷ y ∷ []) d0 m0 t e n v.at refl refl matches kept silent (small, (less, tt)) refl,
      )

  -- The last step deletes the upper word, and passes.
  pub pair_ends : (b a : ℕ) (s : State) (m e : Machine) → Pair b a s m → move_row g.segments which number (at_left m) ≡ Ok e
      → e.regs.p ≡ wrapped (m.regs.p + 1) → e.stack ≡ take (length m.stack - 1) m.stack → outer e ≡ outer m
      → (n : Machine) × Goes g w (pos r - pos p) 0 w.reach (tally s) m (tally s) n × IsValue st r 1 k d0 m0 (b ∷ []) s n
  pair_ends b a s m e v row place stack same =
      let n : Machine = landed r e in
      let there = two_there b a s m v in (
        n,
        lead g w (on p) r (doing g.segments (i.Control which number) r) s.begun s m n leads v.at (pair_runs b a s m v).ending refl
            (does m ∙ ap (λ (o : Row). moving r o m) row ∙ passes r e m place) (no_print m n (ap (λ u. u.printed) same)),
        value_left st r k 2 1 (b ∷ []) d0 m0 s m n refl
            (stack ∙ first_left 1 m (omega (arith, there)) ∙ ap (λ (z : ℕ). take (length m.stack - 2) m.stack ++ z ∷ []) (lower_word b a s m v))
            same v.matches v.kept v.silent (v.small.0, tt) refl,
      )

  -- a step that traps
  pub pair_traps : {A : Type 0} (b a : ℕ) (s : State) (m : Machine) (P : A → State → Machine → Type 0) → Pair b a s m
      → move_row g.segments which number (at_left m) ≡ Err Bounds
      → Follows g w (pos r - pos p) 0 w.reach (tally s) m P NoExit (ends (trapped Bounds) s)
  pair_traps b a s m P v lost =
      row_trap g w w.reach (on p) r (doing g.segments (i.Control which number) r) st s.begun s m (k + 2) (Err Bounds) Bounds P NoExit leads
      (does m ∙ ap (λ (o : Row). moving r o m) lost) v.at refl v.matches refl
