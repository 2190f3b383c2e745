-- The room that a body needs: by ROOM with its number, or with the word on top.
use Rattle.std.proofs.Common.{◌≡◌, ℕ, ◌+◌, ◌-◌, ◌/◌, ◌%◌, ◌<◌, ◌≤◌, Bool, true, false, List, [], ◌∷◌, ◌++◌, length, refl, sym, ap, subst, ◌∙◌, arith}
use Rattle.std.specs.Prelude.{nat_lt, ◌&&◌, min, take, if◌then◌else◌, Ok}
use Rattle.std.proofs.lemmas.Bool.{ltb-true, ltb-false}
use Rattle.std.proofs.lemmas.List.{append-nil}
use Rattle.spl_body_code.specs.hp_word.declared.endings.Ending.TheVariants.{Running, Trapped}
use Rattle.spl_body_code.specs.hp_word.declared.endings.Trap.TheVariants.{StackOverflow}
use Rattle.spl_body_code.specs.hp_instr.declared.instruction.Instr.TheVariants as i
use Rattle.spl_values.specs.hp_session.State.{Machine, Outcome as Row, word, without}
use Rattle.spl_values.specs.hp_word_rows.WordRows.{count_row}
use Rattle.spl_values.specs.hp_flat.Step.{at_left}
use Rattle.spl_values.proofs.hp_yields_proofs.WordYields as rows
use Rattle.spl_body_code.specs.spl_code.Constants.{constant}
use Rattle.spl_body_code.specs.spl_code.Instructions.{LDI, LDNI, LSL, ORI}
use Rattle.spl_body_code.specs.Frames.{ROOM}
use Rattle.spl_values.specs.spl_follow.Spots.{Spot, spot, pos, landed, on, Ground}
use Rattle.spl_values.specs.spl_follow.Leading.{Leads}
use Rattle.spl_values.specs.spl_follow.Matching.{Outer}
use Rattle.spl_values.specs.spl_follow.Following.{Rate, Tally, Goes}
use Rattle.spl_values.specs.spl_follow.Doing.{doing}
use Rattle.spl_values.specs.spl_follow.Standing.{Stands, due_after}
use Rattle.spl_values.specs.spl_follow.Rooms.{Grants}
use Rattle.spl_values.specs.spl_follow.Yielding.{Yields}
use Rattle.spl_values.proofs.spl_follow_proofs.PartLemmas.{stand_from_place}
use Rattle.spl_values.proofs.spl_follow_proofs.WayLemmas.{goes_on, goes_wider}
use Rattle.spl_values.proofs.GiveLemmas.{last_leads}
use Rattle.spl_grants.specs.Laws.{GrantedPiecesGrant}
use Rattle.spl_grants.proofs.StepLemmas.{all, under, step_goes, step_traps, Holds, holds_runs, holds_top, holds_one}
use Rattle.spl_grants.proofs.PushLemmas.{Pushes, constant_pushes}

-- ---- by its number

-- where the row leaves all as it is
stays : (m : Machine) → Yields 0 [] m (Ok (at_left m))
stays m = record { left = at_left m; is = refl; words = sym (append-nil (take (length m.stack - 0) m.stack) ∙ all m.stack); same = refl }

number_grants : (g : Ground) (w : Rate) (p q : Spot) (need : ℕ) → 1 ≤ need → Leads g (on p) q (doing g.segments (i.Control 6 need) q) → Grants g w p q need
number_grants g w p q need some leads = record {
  enough = λ m at runs room t.
      let y : Yields 0 [] m (count_row 6 need (at_left m)) =
      subst (λ (o : Row). Yields 0 [] m o) (sym (rows.room_there need (at_left m) some room)) (stays m) in (
        landed q y.left,
        step_goes g w p q (doing g.segments (i.Control 6 need) q) t m 0 [] (count_row 6 need (at_left m)) leads refl at runs y,
        refl,
        y.words ∙ append-nil (take (length m.stack - 0) m.stack) ∙ all m.stack,
        y.same,
      );
  lacking = λ m at runs limit full t. (
    record m { ending = Trapped StackOverflow },
    step_traps g w p q (doing g.segments (i.Control 6 need) q) t m (count_row 6 need (at_left m)) StackOverflow leads refl at runs
        (rows.room_lacking need (at_left m) some full),
    refl,
    refl,
  );
}

-- ---- by the word on top

top_grants : (g : Ground) (w : Rate) (p r q : Spot) (need : ℕ) → 1 ≤ need → pos p ≤ pos r → Pushes g w p r need
    → Leads g (on r) q (doing g.segments (i.Control 6 0) q) → Grants g w p q need
top_grants g w p r q need some before first leads = record {
  enough = λ m at runs room t.
      let a = first.enough m at runs (omega (arith, room, some)) t in
      let n = a.0 in
      let h = a.2 in
      let y = (rows.top_room_there (at_left n) (holds_one r m need n h) (there m n h room)).words in
      let rise = leads.rise in
      let many = w.enough in (
        landed q y.left,
        goes_on g w (pos r - pos p) 0 w.reach (pos q - pos r) 0 w.reach (pos q - pos p) 0 w.reach t m t n t (landed q y.left) a.1
            (step_goes g w r q (doing g.segments (i.Control 6 0) q) t n 1 [] (count_row 6 0 (at_left n)) leads refl h.at (holds_runs r m need n h runs) y)
            (omega (arith, before, rise)) (omega (arith, many)),
        refl,
        y.words ∙ append-nil (take (length n.stack - 1) n.stack) ∙ beneath m n h,
        y.same ∙ h.same,
      );
  lacking = λ m at runs limit full t. by m at runs full t (nat_lt (length m.stack) m.stack_limit) refl;
} where
  -- what stands beneath the number
  beneath : (m n : Machine) → Holds r m need n → take (length n.stack - 1) n.stack ≡ m.stack
  beneath m n h = ap (λ (xs : List ℕ). take (length xs - 1) xs) h.words ∙ under m.stack need

  limit_is : (m n : Machine) → Holds r m need n → n.stack_limit ≡ m.stack_limit
  limit_is m n h = ap (λ (u : Outer). u.limit) h.same

  there : (m n : Machine) → Holds r m need n → length m.stack + need ≤ m.stack_limit → length (without 1 n).stack + word 0 n ≤ n.stack_limit
  there m n h room =
      let long = ap (λ (xs : List ℕ). length xs) (beneath m n h) in
      let top = holds_top r m need n h in
      let limit = limit_is m n h in
      omega (arith, room, long, top, limit)

  none : (m n : Machine) → Holds r m need n → m.stack_limit < length m.stack + need → n.stack_limit < length (without 1 n).stack + word 0 n
  none m n h full =
      let long = ap (λ (xs : List ℕ). length xs) (beneath m n h) in
      let top = holds_top r m need n h in
      let limit = limit_is m n h in
      omega (arith, full, long, top, limit)

  by : (m : Machine) → spot m ≡ p → m.ending ≡ Running → m.stack_limit < length m.stack + need → (t : Tally) → (b : Bool)
      → nat_lt (length m.stack) m.stack_limit ≡ b
      → (n : Machine) × Goes g w (pos q - pos p) 0 0 t m t n × (n.ending ≡ Trapped StackOverflow) × (n.printed ≡ m.printed)
  by m at runs full t true e =
      let a = first.enough m at runs (ltb-true (length m.stack) m.stack_limit e) t in
      let n = a.0 in
      let h = a.2 in
      let rise = leads.rise in
      let many = w.enough in (
        record n { ending = Trapped StackOverflow },
        goes_on g w (pos r - pos p) 0 w.reach (pos q - pos r) 0 0 (pos q - pos p) 0 0 t m t n t (record n { ending = Trapped StackOverflow }) a.1
            (step_traps g w r q (doing g.segments (i.Control 6 0) q) t n (count_row 6 0 (at_left n)) StackOverflow leads refl h.at (holds_runs r m need n h runs)
            (rows.top_room_lacking (at_left n) (holds_one r m need n h) (none m n h full))) (omega (arith, before, rise)) (omega (arith, many)),
        refl,
        ap (λ (u : Outer). u.printed) h.same,
      )
  by m at runs full t false e =
      let a = first.lacking m at runs (ltb-false (length m.stack) m.stack_limit e) t in
      let rise = leads.rise in
      (a.0, goes_wider g w (pos r - pos p) 0 0 (pos q - pos p) 0 0 t m t a.0 a.1 (omega (arith, before, rise)) (omega arith), a.2, a.3)

-- ---- both

-- nothing is due behind a constant
constant_clear : (c : ℕ) → due_after false (constant c) ≡ false
constant_clear c = by (nat_lt c 256) (nat_lt 65280 c) where
  by : (x y : Bool) → due_after false (if x then LDI c ∷ [] else if y then LDNI (65536 - c) ∷ [] else LDI (c / 256) ∷ LSL 8 ∷ ORI (c % 256) ∷ []) ≡ false
  by true y = refl
  by false true = refl
  by false false = refl

-- A number that is no word is granted as the greatest word: no stack has room for either.
widest : (g : Ground) (w : Rate) (p q : Spot) (need : ℕ) → Grants g w p q (min need 65535) → Grants g w p q need
widest g w p q need r = record {
  enough = λ m at runs room t. r.enough m at runs (omega (arith, room)) t;
  lacking = λ m at runs limit full t. r.lacking m at runs limit (omega (arith, limit, full)) t;
}

pub pieces_grant : GrantedPiecesGrant
pieces_grant g w sites p q need some = by (nat_lt 0 need && nat_lt need 256) where
  by : (b : Bool) → Stands g sites (on p) (if b then ROOM need ∷ [] else constant (min need 65535) ++ ROOM 0 ∷ []) q → Grants g w p q need
  by true stands = number_grants g w p q need some (last_leads g sites (on p) (i.Control 6 need) q stands)
  by false stands =
      let cut = stand_from_place g sites (constant (min need 65535)) (ROOM 0 ∷ []) p q (constant_clear (min need 65535)) stands in
      let before = cut.3 in
      widest g w p q need
      (top_grants g w p cut.0 q (min need 65535) (omega (arith, some)) before (constant_pushes g w sites p cut.0 (min need 65535) (omega arith) cut.1)
      (last_leads g sites (on cut.0) (i.Control 6 0) q cut.2))
