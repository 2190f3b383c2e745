-- Jumps: the words that do not wait at the mark are deleted, and BR leads there.
use Rattle.std.proofs.Common.{◌≡◌, ℕ, zero, suc, ◌+◌, ◌-◌, ◌*◌, ◌≤◌, Bool, true, false, List, [], ◌∷◌, ◌++◌, length, refl, sym, ap, subst, arith}
use Rattle.std.specs.Prelude.{Option, Some, None, min, replicate, nat_le, ◌/◌, ◌%◌, if◌then◌else◌}
use Rattle.spl_choices.specs.hp_word.declared.arithmetic.Code.{Code}
use Rattle.spl_choices.specs.hp_instr.declared.instruction.Instr.TheVariants as i
use Rattle.spl_choices.specs.hp_session.State.{Machine}
use Rattle.spl_choices.specs.hp_word_rows.WordRows.{count_row}
use Rattle.spl_choices.specs.hp_flat.Step.{at_left}
use Rattle.spl_choices.proofs.hp_yields_proofs.WordYields as rows
use Rattle.spl_choices.specs.spl_tree.declared.names_and_places.At.{At}
use Rattle.spl_choices.specs.spl_meaning.References.{Setting}
use Rattle.spl_choices.specs.spl_meaning.States.{Data, State, Begun, Exit, leaves}
use Rattle.spl_choices.specs.spl_code.Instructions.{BR}
use Rattle.spl_choices.specs.spl_statement_code.Instructions.{SUBS}
use Rattle.spl_choices.specs.spl_statement_code.Landings.{dropped}
use Rattle.spl_choices.specs.spl_follow.Spots.{Spot, spot, pos, Point, on, Ground}
use Rattle.spl_choices.specs.spl_follow.Leading.{Leads}
use Rattle.spl_choices.specs.spl_follow.Matching.{Matched, Kept, Arrives, Coded}
use Rattle.spl_choices.specs.spl_follow.Following.{Rate, tally, tally_with, Owes, Goes, Follows}
use Rattle.spl_choices.specs.spl_follow.Doing.{doing}
use Rattle.spl_choices.specs.spl_follow.Standing.{Sites, Stands, IsClosed}
use Rattle.spl_choices.specs.spl_follow.Parts.{Ready, Completes, Leaving}
use Rattle.spl_choices.specs.spl_follow.Simulating.{Surroundings}
use Rattle.spl_choices.proofs.spl_follow_proofs.KeepLemmas.{kept_same, kept_lower}
use Rattle.spl_choices.proofs.spl_follow_proofs.PartLemmas.{stand_in_order, statements_begin_noted}
use Rattle.spl_choices.proofs.spl_follow_proofs.RowLemmas.{row_drops, row_branches}
use Rattle.spl_choices.proofs.spl_follow_proofs.StandLemmas.{closed_last, stands_le}
use Rattle.spl_choices.proofs.spl_follow_proofs.WayLemmas.{goes_on}
use Rattle.spl_jumps.specs.Laws.{JumpsPerform}

-- ---- words that are deleted

-- SUBS deletes so many
words_dropped : (g : Ground) (w : Rate) (p : Point) (r : Spot) (st : Setting) (l : List Begun) (s : State) (m : Machine) (d0 : Data) (m0 : Machine) (k n : ℕ)
    → Leads g p r (doing g.segments (i.Control 8 n) r) → spot m ≡ p.at → Owes p.due l s m → Matched st s.now m (k + n)
    → Kept (d0.top + k) d0 m0.stack s.now m.stack → s.code ≡ None
    → (m1 : Machine) × Goes g w (pos r - pos p.at) 0 w.reach (tally_with l s) m (tally s) m1 × Arrives st r k d0 m0 s m1
words_dropped g w p r st l s m d0 m0 k n leads at owes x kept silent =
    let words = x.words in
    let many : n ≤ length m.stack = omega (arith, words) in
    let y = (rows.words_dropped n (at_left m) many).words in
    row_drops g w p r (doing g.segments (i.Control 8 n) r) st l s m d0 m0 k n (count_row 8 n (at_left m)) y leads refl at owes x kept
    (subst (λ (c : Option Code). Coded c y.left.regs.code) (sym silent) tt)

-- many at a time, and then the others
all_dropped : (g : Ground) (w : Rate) (sites : Sites) (p : Point) (q : Spot) (st : Setting) (l : List Begun) (s : State) (m : Machine) (d0 : Data) (m0 : Machine)
    (j k n : ℕ) → Stands g sites p (replicate j (SUBS 255) ++ SUBS n ∷ []) q → spot m ≡ p.at → Owes p.due l s m → Matched st s.now m (k + (j * 255 + n))
    → Kept (d0.top + (k + (j * 255 + n))) d0 m0.stack s.now m.stack → s.code ≡ None
    → (m1 : Machine) × Goes g w (pos q - pos p.at) 0 w.reach (tally_with l s) m (tally s) m1 × Arrives st q k d0 m0 s m1
all_dropped g w sites p q st l s m d0 m0 zero k n stands at owes x kept silent =
    let end : stands.0 ≡ q = ap (λ (y : Point). y.at) stands.2 in
    let few : k + (0 * 255 + n) ≡ k + n = omega arith in
    words_dropped g w p q st l s m d0 m0 k n (subst (λ (y : Spot). Leads g p y (doing g.segments (i.Control 8 n) y)) end stands.1) at owes
    (subst (λ (a : ℕ). Matched st s.now m a) few x)
    (kept_lower (d0.top + k) (d0.top + (k + (0 * 255 + n))) d0 m0.stack s.now m.stack kept (omega arith)) silent
all_dropped g w sites p q st l s m d0 m0 (suc j) k n stands at owes x kept silent =
    let more = k + (j * 255 + n) in
    let many : k + (suc j * 255 + n) ≡ more + 255 = omega arith in
    let first = words_dropped g w p stands.0 st l s m d0 m0 more 255 stands.1 at owes (subst (λ (a : ℕ). Matched st s.now m a) many x)
    (kept_lower (d0.top + more) (d0.top + (k + (suc j * 255 + n))) d0 m0.stack s.now m.stack kept (omega arith)) silent in
    let rest = all_dropped g w sites (on stands.0) q st s.begun s first.0 d0 m0 j k n stands.2 first.2.at refl first.2.matches first.2.kept silent in
    let rise = stands.1.rise in
    let last = stands_le g sites (replicate j (SUBS 255) ++ SUBS n ∷ []) (on stands.0) q stands.2 in (
      rest.0,
      goes_on g w (pos stands.0 - pos p.at) 0 w.reach (pos q - pos stands.0) 0 w.reach (pos q - pos p.at) 0 w.reach (tally_with l s) m (tally s) first.0 (tally s) rest.0
          first.1 rest.1 (omega (arith, rise, last)) (omega arith),
      rest.2,
    )

-- all that a jump deletes
surplus_dropped : (g : Ground) (w : Rate) (sites : Sites) (p : Point) (q : Spot) (st : Setting) (l : List Begun) (s : State) (m : Machine) (d0 : Data) (m0 : Machine)
    (k n : ℕ) → Stands g sites p (dropped n) q → spot m ≡ p.at → Owes p.due l s m → Matched st s.now m (k + n)
    → Kept (d0.top + (k + n)) d0 m0.stack s.now m.stack → s.code ≡ None
    → (m1 : Machine) × Goes g w (pos q - pos p.at) 0 w.reach (tally_with l s) m (tally s) m1 × Arrives st q k d0 m0 s m1
surplus_dropped g w sites p q st l s m d0 m0 k n stands at owes x kept silent = by (nat_le n 255) stands where
  by : (b : Bool) → Stands g sites p (if b then SUBS n ∷ [] else replicate (n / 255) (SUBS 255) ++ SUBS (n % 255) ∷ []) q
      → (m1 : Machine) × Goes g w (pos q - pos p.at) 0 w.reach (tally_with l s) m (tally s) m1 × Arrives st q k d0 m0 s m1
  by true stands =
      let few : k + n ≡ k + (0 * 255 + n) = omega arith in
      all_dropped g w sites p q st l s m d0 m0 0 k n stands at owes (subst (λ (a : ℕ). Matched st s.now m a) few x)
      (subst (λ (a : ℕ). Kept (d0.top + a) d0 m0.stack s.now m.stack) few kept) silent
  by false stands =
      let all : k + n ≡ k + (n / 255 * 255 + n % 255) = omega arith in
      all_dropped g w sites p q st l s m d0 m0 (n / 255) k (n % 255) stands at owes (subst (λ (a : ℕ). Matched st s.now m a) all x)
      (subst (λ (a : ℕ). Kept (d0.top + a) d0 m0.stack s.now m.stack) all kept) silent

-- it closes what stands before it
dropped_closed : (n : ℕ) → IsClosed (dropped n)
dropped_closed n = by (nat_le n 255) where
  by : (b : Bool) → IsClosed (if b then SUBS n ∷ [] else replicate (n / 255) (SUBS 255) ++ SUBS (n % 255) ∷ [])
  by true = refl
  by false = closed_last (replicate (n / 255) (SUBS 255)) (SUBS (n % 255) ∷ []) refl

-- ---- jumps

-- Behind the beginning: of k words that wait, as many stay as wait at the mark.
jump_inside : (z : Surroundings) (d k need mark : ℕ) (at : At) (out : Exit) (p q : Spot) (t : State) (l : List Begun) (m : Machine)
    → z.sites.marks mark ≡ z.exits.target out
    → Stands z.ground z.sites (record { at = p; due = Some at }) (dropped (k - z.exits.held out) ++ BR mark ∷ []) q → pos q ≤ z.rate.step
    → Ready z.setting d (record { at = p; due = Some at }) k need t l m
    → Follows z.ground z.rate z.rate.step 2 3 (tally_with l t) m (Completes z.setting q k t.now m) (Leaving z.setting z.exits k t.now m) (leaves out t)
jump_inside z d k need mark at out p q t l m there stands pays ready =
    let g = z.ground in
    let w = z.rate in
    let st = z.setting in
    let start : Point = record { at = p; due = Some at } in
    let n = k - z.exits.held out in
    let j = min (z.exits.held out) k in
    let all : k ≡ j + n = omega arith in
    let cut = stand_in_order g z.sites (dropped n) (BR mark ∷ []) start q (dropped_closed n) stands in
    let first = surplus_dropped g w z.sites start cut.0 st l t m t.now m j n cut.1 ready.at ready.owes (subst (λ (a : ℕ). Matched st t.now m a) all ready.matches)
    (kept_same (t.now.top + (j + n)) t.now m.stack) ready.silent in
    let r = cut.2.0 in
    let far : pos r ≡ pos q = ap (λ (y : Point). pos y.at) cut.2.2 in
    let branch = row_branches g w cut.0 r (z.sites.marks mark) false 0 st t first.0 t.now m j cut.2.1 first.2 in
    let before = cut.3 in
    let behind = cut.4 in (
      branch.0,
      goes_on g w (pos cut.0 - pos p) 0 w.reach (pos r - pos cut.0) 0 w.reach w.step 2 w.reach (tally_with l t) m (tally t) first.0 (tally t) branch.0 first.1 branch.1
          (omega (arith, before, behind, far, pays)) (omega arith),
      subst (λ (y : Spot). Arrives st y j t.now m t branch.0) there branch.2,
    )

pub jumps : JumpsPerform
jumps z d k need number mark at out there = record {
  does = λ h ws p q s m stands front pays b.
      statements_begin_noted z.ground z.rate z.setting z.exits d number at p q k need s m (λ u. leaves out u) b
      (λ t same fewer ready. jump_inside z d k need mark at out p q t s.begun m there stands.1 pays ready);
}
