-- The parts of a MOVE or a SCAN: references as locations, what is moved behind the target's address, and what is done with the end address.
use Rattle.std.proofs.Common.{◌≡◌, ℕ, ◌+◌, ◌-◌, ◌%◌, ◌≤◌, Bool, true, false, List, [], ◌∷◌, ◌++◌, Option, Some, refl, sym, subst, ◌∙◌, arith}
use Rattle.spl_statement_code.specs.hp_word.declared.arithmetic.Code.{Code}
use Rattle.spl_statement_code.specs.hp_instr.declared.instruction.Instr.TheVariants as i
use Rattle.spl_statement_code.specs.hp_instr.Instructions.{op}
use Rattle.hp_call_yields.specs.hp_session.State.{Machine}
use Rattle.hp_call_yields.specs.hp_stack_rows.StackRows.{operated}
use Rattle.hp_call_yields.proofs.hp_yields_proofs.StackYields as rows
use Rattle.spl_statement_code.specs.spl_tree.declared.expressions.Kind.{Kind}
use Rattle.spl_statement_code.specs.spl_tree.declared.names_and_places.At.{At}
use Rattle.spl_statement_code.specs.spl_branch.declared.pieces.Piece.TheVariants.{Begin}
use Rattle.spl_statement_code.specs.spl_meaning.Elements.{distance}
use Rattle.spl_statement_code.specs.spl_meaning.Laws.{IsFront}
use Rattle.spl_statement_code.specs.spl_meaning.References.{Setting, Located}
use Rattle.spl_statement_code.specs.spl_meaning.States.{Data, State, Begun, Outcome, done, leaves, spent, ends, strays, then_go, stopping}
use Rattle.spl_statement_code.specs.spl_meaning.Statements.{value_dropped, moved_far}
use Rattle.spl_statement_code.specs.spl_meaning.Values.{address_done}
use Rattle.spl_statement_code.specs.spl_code.Parts.{Part, Wanted, pieces, piece, ◌⨟◌}
use Rattle.spl_statement_code.specs.spl_code.Instructions.{DEL}
use Rattle.spl_statement_code.specs.Effects.{kept_first, told, move_of}
use Rattle.hp_call_yields.specs.spl_follow.Spots.{Spot, pos, Point, on, Ground}
use Rattle.hp_call_yields.specs.spl_follow.Leading.{Leads}
use Rattle.hp_call_yields.specs.spl_follow.Matching.{Coded, IsValue}
use Rattle.hp_call_yields.specs.spl_follow.Following.{Rate, Tally, tally, tally_with, Follows, NoExit}
use Rattle.hp_call_yields.specs.spl_follow.Doing.{doing}
use Rattle.hp_call_yields.specs.spl_follow.Standing.{Sites, Stands}
use Rattle.hp_call_yields.specs.spl_follow.Parts.{Ready, Completes, Leaving}
use Rattle.hp_call_yields.specs.spl_follow.Simulating.{Surroundings, Performs}
use Rattle.hp_call_yields.proofs.spl_follow_proofs.FollowLemmas.{bind_follows, no_exit}
use Rattle.hp_call_yields.proofs.spl_follow_proofs.KeepLemmas.{kept_top, kept_stack}
use Rattle.hp_call_yields.proofs.spl_follow_proofs.PartLemmas.{stand_in_order, statements_begin_noted}
use Rattle.hp_call_yields.proofs.spl_follow_proofs.RowLemmas.{row_drops}
use Rattle.spl_operands.specs.spl_values.Reached.{IsWhole}
use Rattle.spl_operands.proofs.spl_values_proofs.GiveLemmas.{last_leads}
use Rattle.spl_operands.proofs.spl_values_proofs.SumLemmas.{front_on}
use Rattle.spl_operands.proofs.spl_values_proofs.WholeLemmas.{whole_pieces, whole_then, whole_last, last_simulates, then_same}
use Rattle.spl_moves.specs.Moving.{LeadsTo, IsReference}
use Rattle.spl_moves.proofs.UnitLemmas.{move_code}
use Rattle.spl_moves.proofs.CountLemmas.{at_address}
use Rattle.spl_moves.proofs.MoveLemmas.{then_done}

-- ---- outcomes

-- what follows from what follows
pub go_go : {A B C : Type 0} (o : Outcome A) (f : A → State → Outcome B) (h : B → State → Outcome C)
    → then_go (then_go o f) h ≡ then_go o (λ a s. then_go (f a s) h)
go_go (done a s) f h = refl
go_go (leaves x s) f h = refl
go_go (spent s) f h = refl
go_go (ends e s) f h = refl
go_go (strays s) f h = refl

-- what means the same is performed by the same code
pub same_performs : (z : Surroundings) (d k need : ℕ) (part : Part) (f h : State → Outcome (Unit {0})) → ((s : State) → f s ≡ h s)
    → Performs z d k need part h → Performs z d k need part f
same_performs z d k need part f h same x =
    subst (λ (meaning : State → Outcome (Unit {0})). Performs z d k need part meaning) (λ j s. sym (same s) j) x

-- ---- references

-- a location, whose address is on k words
pub record IsLocation (st : Setting) (q : Spot) (t : Kind) (k : ℕ) (d0 : Data) (m0 : Machine) (p : Located) (s : State) (m : Machine) : Type 0 where
  pub is : p ≡ at_address st.split t p.address
  pub stands : IsValue st q 1 k d0 m0 (p.address ∷ []) s m

-- a location by its parts
located_is : (p : Located) (far : Bool) (t : Kind) → p.kind ≡ t → p.far ≡ far → p ≡ at_address far t p.address
located_is p far t kind side j = record { far = side j; kind = kind j; address = p.address }

-- the location of an address
located_follows : (g : Ground) (w : Rate) (c lag e : ℕ) (t : Tally) (m : Machine) (st : Setting) (q : Spot) (kind : Kind) (k : ℕ) (d0 : Data) (m0 : Machine)
    (o : Outcome Located) → LeadsTo kind st.split o
    → Follows g w c lag e t m (IsValue st q 1 k d0 m0) NoExit (then_go o (λ p u. address_done p u))
    → Follows g w c lag e t m (IsLocation st q kind k d0 m0) NoExit o
located_follows g w c lag e t m st q kind k d0 m0 (done p s) leads f =
    let low = leads.2 in
    let same : p.address % 65536 ≡ p.address = omega (arith, low) in (
      f.0,
      f.1,
      record {
        is = located_is p st.split kind leads.0 leads.1;
        stands = subst (λ (a : ℕ). IsValue st q 1 k d0 m0 (a ∷ []) s f.0) same f.2;
      },
    )
located_follows g w c lag e t m st q kind k d0 m0 (leaves x s) leads f = f
located_follows g w c lag e t m st q kind k d0 m0 (spent s) leads f = f
located_follows g w c lag e t m st q kind k d0 m0 (ends x s) leads f = f
located_follows g w c lag e t m st q kind k d0 m0 (strays s) leads f = f

pub reference_follows : (z : Surroundings) (d k need : ℕ) (t : Kind) (part : Part) (to : State → Outcome Located) → IsReference z d k need t part to
    → (h : ℕ) (ws : List Wanted) (p : Point) (q : Spot) (s : State) (l : List Begun) (m : Machine)
    → Stands z.ground z.sites p (part h ws).pieces q → IsFront (part h ws).wants z.wants → Ready z.setting d p k need s l m
    → Follows z.ground z.rate (pos q - pos p.at) 1 z.rate.reach (tally_with l s) m (IsLocation z.setting q t k s.now m) NoExit (to s)
reference_follows z d k need t part to x h ws p q s l m stands front ready =
    located_follows z.ground z.rate (pos q - pos p.at) 1 z.rate.reach (tally_with l s) m z.setting q t k s.now m (to s) (x.leads s ready.matches.lies)
    (x.simulates.does h ws p q s l m stands front ready)

-- an end address on k words
abbrev pub EndsAt : Setting → Spot → ℕ → Data → Machine → Located → State → Machine → Type 0
EndsAt st q k d0 m0 end s m = IsValue st q 1 k d0 m0 (end.address ∷ []) s m

-- ---- what is moved

-- Code behind the target's address on k words, which waits: it moves what it moves there, and leaves the end address in its place.
pub record IsSource (z : Surroundings) (d k need : ℕ) (t : Kind) (part : Part) (move : Located → State → Outcome Located) : Type 0 where
  pub whole : IsWhole part
  pub does : (h : ℕ) (ws : List Wanted) (p q : Spot) (c : ℕ) (s : State) (m : Machine) (d0 : Data) (m0 : Machine)
      → Stands z.ground z.sites (on p) (part h ws).pieces q → IsFront (part h ws).wants z.wants
      → IsValue z.setting p 1 k d0 m0 (c ∷ []) s m → d0.top + k + need ≤ d0.stack → s.left ≤ d
      → Follows z.ground z.rate (pos q - pos p) 1 z.rate.reach (tally s) m (EndsAt z.setting q k d0 m0) NoExit
      (move (at_address z.setting.split t c) s)

-- the word of a move leads on by what it does
pub move_leads : (g : Ground) (w : Sites) (p : Point) (bytes : Bool) (n : ℕ) (q : Spot) → Stands g w p (move_of bytes n ∷ []) q
    → Leads g p q (doing g.segments (i.Control (move_code bytes) n) q)
move_leads g w p true n q stands = last_leads g w p (i.Control 10 n) q stands
move_leads g w p false n q stands = last_leads g w p (i.Control 9 n) q stands

-- a move closes, whatever was before it
pub move_whole : (bytes : Bool) (n : ℕ) → IsWhole (piece (move_of bytes n))
move_whole true n = whole_pieces (move_of true n ∷ []) refl
move_whole false n = whole_pieces (move_of false n ∷ []) refl

-- behind a value that waits the next part is ready
pub next_ready : (st : Setting) (d : ℕ) (p : Spot) (n k need more : ℕ) (vs : List ℕ) (d0 : Data) (m0 : Machine) (s : State) (m : Machine)
    → IsValue st p n k d0 m0 vs s m → d0.top + k + need ≤ d0.stack → more + n ≤ need → s.left ≤ d → Ready st d (on p) (k + n) more s s.begun m
next_ready st d p n k need more vs d0 m0 s m x room enough fuel =
    let top = kept_top (d0.top + k) d0 m0.stack s.now m.stack x.kept in
    let stack = kept_stack (d0.top + k) d0 m0.stack s.now m.stack x.kept in
    record { at = x.at; owes = refl; matches = x.matches; silent = x.silent; room = omega (arith, top, stack, room, enough); fuel = fuel }

-- ---- the end address is deleted

-- DEL behind a value of one word
end_deleted : (g : Ground) (w : Rate) (sites : Sites) (st : Setting) (p q : Spot) (k : ℕ) (vs : List ℕ) (s : State) (m : Machine) (d0 : Data) (m0 : Machine)
    → Stands g sites (on p) (DEL ∷ []) q → IsValue st p 1 k d0 m0 vs s m
    → Follows g w (pos q - pos p) 0 w.reach (tally s) m (Completes st q k d0 m0) NoExit (done tt s)
end_deleted g w sites st p q k vs s m d0 m0 stands x =
    let words = x.matches.words in
    let y = rows.top_deleted m (omega (arith, words)) in
    row_drops g w (on p) q (doing g.segments (i.Pair (op 0o40) (op 0)) q) st s.begun s m d0 m0 k 1 (operated 0o40 m) y.words
    (last_leads g sites (on p) (i.Pair (op 0o40) (op 0)) q stands) refl x.at refl x.matches x.kept
    (subst (λ (c : Option Code). Coded c y.words.left.regs.code) (sym x.silent) tt)

-- what comes of a move whose answer is dropped
dropped_meaning : (o : Outcome Located) (move : Located → State → Outcome Located)
    → value_dropped (then_go o (λ p v. moved_far p (move p v))) ≡ then_go o (λ p v. then_go (move p v) (λ end u. done tt u))
dropped_meaning o move =
    go_go o (λ p v. moved_far p (move p v)) (λ vs s. done tt s)
    ∙ then_same o (λ p v. then_go (moved_far p (move p v)) (λ vs s. done tt s)) (λ p v. then_go (move p v) (λ end u. done tt u))
    (λ p v. then_done (move p v) (λ end. distance end p.address ∷ []) (λ end u. u) (λ vs u. done tt u))

-- a move as a statement: the reference of its target, what is moved, and DEL
pub moves_perform : (z : Surroundings) (d k need number : ℕ) (at : At) (t : Kind) (a source : Part) (to : State → Outcome Located)
    (move : Located → State → Outcome Located) → IsReference z d k need t a to → IsSource z d k need t source move
    → Performs z d k need (piece (Begin at) ⨟ (a ⨟ pieces (kept_first false) ⨟ source ⨟ pieces (told false)))
    (λ s. stopping number at s (λ u. value_dropped (then_go (to u) (λ p v. moved_far p (move p v)))))
moves_perform z d k need number at t a source to move r f = record {
  does = λ h ws p q s m stands front pays b.
      let x = (a ⨟ pieces []) (h + 0) ws in
      let y = source (h + 0 + x.marks) x.wants in
      let start : Point = record { at = p; due = Some at } in
      let cut = stand_in_order z.ground z.sites (x.pieces ++ y.pieces) (DEL ∷ []) start q
      ((whole_then (a ⨟ pieces []) source (whole_last a r.whole) f.whole).closed (h + 0) ws) stands.1 in
      let first = stand_in_order z.ground z.sites x.pieces y.pieces start cut.0 ((whole_last a r.whole).closed (h + 0) ws) cut.1 in
      let many = z.rate.enough in
      let rise = first.3 in
      let middle = first.4 in
      let last = cut.4 in
      statements_begin_noted z.ground z.rate z.setting z.exits d number at p q k need s m
      (λ u. value_dropped (then_go (to u) (λ p v. moved_far p (move p v)))) b
      (λ u same fewer ready. no_exit z.ground z.rate z.rate.step 2 3 (tally_with s.begun u) m (Completes z.setting q k u.now m)
      (Leaving z.setting z.exits k u.now m)
      (value_dropped (then_go (to u) (λ p v. moved_far p (move p v))))
      (subst (λ (o : Outcome (Unit {0})). Follows z.ground z.rate z.rate.step 2 3 (tally_with s.begun u) m (Completes z.setting q k u.now m) NoExit o)
      (sym (dropped_meaning (to u) move))
      (bind_follows z.ground z.rate (pos first.0 - pos p) 1 z.rate.reach (pos q - pos first.0) 1 z.rate.reach z.rate.step 2 3 (tally_with s.begun u) m
      (IsLocation z.setting first.0 t k u.now m) (Completes z.setting q k u.now m) NoExit (to u) (λ p v. then_go (move p v) (λ end x. done tt x))
      (reference_follows z d k need t (a ⨟ pieces []) to (record {
        whole = whole_last a r.whole;
        leads = r.leads;
        simulates =
            last_simulates z d _ 1 k need a _ r.simulates;
      })
      (h + 0) ws start first.0 u s.begun m first.1 (front_on x.wants y.wants z.wants (f.whole.keeps (h + 0 + x.marks) x.wants) front) ready)
      (λ e v m1 is less. let fuel = ready.fuel in
      bind_follows z.ground z.rate (pos cut.0 - pos first.0) 1 z.rate.reach (pos q - pos cut.0) 0 z.rate.reach (pos q - pos first.0) 1 z.rate.reach (tally v) m1
      (EndsAt z.setting cut.0 k u.now m) (Completes z.setting q k u.now m) NoExit (move e v) (λ end x. done tt x)
      (subst (λ (l : Located). Follows z.ground z.rate (pos cut.0 - pos first.0) 1 z.rate.reach (tally v) m1 (EndsAt z.setting cut.0 k u.now m) NoExit
      (move l v))
      (sym is.is)
      (f.does (h + 0 + x.marks) x.wants first.0 cut.0 e.address v m1 u.now m first.2 front is.stands ready.room (omega (arith, fuel, less))))
      (λ end x n there fewer. end_deleted z.ground z.rate z.sites z.setting cut.0 q k (end.address ∷ []) x n u.now m cut.2 there)
      (omega (arith, middle, last)) (omega arith) (omega (arith, many)) (omega (arith, many)))
      (omega (arith, rise, middle, last, pays)) (omega arith) (omega (arith, many)) (omega (arith, many)))));
}
