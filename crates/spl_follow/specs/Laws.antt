-- The laws by which what is followed is put together, each for every outcome of a part.
use Rattle.std.specs.Prelude.{◌≡◌, ℕ, ◌+◌, ◌-◌, ◌≤◌, ◌<◌, Bool, true, false, List, [], ◌++◌, length, None, Some, Err, ◌∷◌}
use Rattle.hp_flat.specs.hp_word.declared.endings.Trap.{Trap}
use Rattle.hp_flat.specs.hp_word.declared.endings.Ending.TheVariants.{Running}
use Rattle.hp_flat.specs.hp_instr.declared.instruction.Instr.TheVariants as i
use Rattle.hp_flat.specs.hp_session.State.{Machine, Outcome as Row}
use Rattle.hp_flat.specs.Step.{after}
use Rattle.spl_code.specs.spl_tree.declared.names_and_places.At.{At}
use Rattle.spl_code.specs.spl_branch.declared.pieces.Piece.{Piece}
use Rattle.spl_code.specs.spl_branch.declared.pieces.Piece.TheVariants.{Do}
use Rattle.spl_code.specs.spl_meaning.Operations.{is_odd}
use Rattle.spl_code.specs.spl_meaning.Elements.{with_one}
use Rattle.spl_code.specs.spl_meaning.References.{Setting, placed_word}
use Rattle.spl_code.specs.spl_meaning.States.{Data, State, Begun, Outcome, done, ends, trapped, then_go, beginning, stopping, all_printed}
use Rattle.spl_code.specs.Code.{as_value, as_test}
use Rattle.spl_frames.specs.Words.{AreWords}
use Rattle.spl_follow.specs.Spots.{Spot, spot, pos, Point, on, Ground, visits, print_between, prints, OnlyAdds}
use Rattle.spl_follow.specs.Leading.{Leads}
use Rattle.spl_follow.specs.Matching.{Matched, Kept, IsValue, Arrives, Coded}
use Rattle.spl_follow.specs.Following.{Owes, Rate, Tally, tally, tally_with, Goes, Follows, NoExit}
use Rattle.spl_follow.specs.Doing.{going, turning}
use Rattle.spl_follow.specs.Standing.{Sites, Stands, due_after, IsClosed}
use Rattle.spl_follow.specs.Yielding.{Yields, Puts, PutsFar}
use Rattle.spl_follow.specs.Parts.{Ready, Begins, Truth, Tested, Gives, Exits, Completes, Leaving, Runs, RunsAll}

-- ---- steps

-- so many steps and then so many more meet what the first and then the others meet
abbrev pub VisitsAddUp : Type 0
VisitsAddUp = (g : Ground) (k n : ℕ) (m : Machine) → visits g (k + n) m ≡ visits g k m ++ visits g n (after g.segments k m)

-- and print what these print
abbrev pub PrintsAddUp : Type 0
PrintsAddUp = (g : Ground) (k n : ℕ) (m : Machine) → prints g (k + n) m ≡ prints g k m ++ prints g n (after g.segments k m)

-- where no step takes back a byte, the bytes printed are those before and then all prints
abbrev pub BytesAreAllPrints : Type 0
BytesAreAllPrints = (g : Ground) → OnlyAdds g.segments → (n : ℕ) (m : Machine)
    → (after g.segments n m).printed ≡ m.printed ++ all_printed (prints g n m)

-- ---- stretches

-- One stretch after another: their charges add up; what may come before the second's first instruction is paid by what the first has to spare.
abbrev pub StretchesAddUp : Type 0
StretchesAddUp = (g : Ground) (w : Rate) (a ga ea b gb eb c lag e : ℕ) (t : Tally) (m : Machine) (t1 : Tally) (m1 : Machine) (t2 : Tally) (m2 : Machine)
    → Goes g w a ga ea t m t1 m1 → Goes g w b gb eb t1 m1 t2 m2 → a + b ≤ c → ga + gb + e ≤ lag + ea + eb → Goes g w c lag e t m t2 m2

-- through one piece what was due is met, and nothing else; it is charged its halves of words; what it prints is one print, if any
abbrev pub PiecesAreMet : Type 0
PiecesAreMet = (g : Ground) (w : Rate) (p : Point) (r : Spot) (F : Machine → Machine) (l : List Begun) (s : State) (m n : Machine) → Leads g p r F
    → spot m ≡ p.at → m.ending ≡ Running → Owes p.due l s m → F m ≡ n
    → Goes g w (pos r - pos p.at) 0 w.reach (tally_with l s) m (record (tally s) { printed = s.now.printed ++ print_between m n }) n

-- ---- pieces

-- closed pieces and then others stand where each stand, one behind the other, and the place at which they meet is between
abbrev pub PiecesStandInOrder : Type 0
PiecesStandInOrder = (g : Ground) (w : Sites) (a b : List Piece) (p : Point) (q : Spot) → IsClosed a → Stands g w p (a ++ b) q
    → (r : Spot) × Stands g w p a r × Stands g w (on r) b q × (pos p.at ≤ pos r) × (pos r ≤ pos q)

-- from a place where nothing is due it is enough that nothing is due behind the first
abbrev pub PiecesStandFrom : Type 0
PiecesStandFrom = (g : Ground) (w : Sites) (a b : List Piece) (p q : Spot) → due_after false a ≡ false → Stands g w (on p) (a ++ b) q
    → (r : Spot) × Stands g w (on p) a r × Stands g w (on r) b q × (pos p ≤ pos r) × (pos r ≤ pos q)

-- the last pieces close those before
abbrev pub LastPiecesClose : Type 0
LastPiecesClose = (a b : List Piece) → IsClosed b → IsClosed (a ++ b)

-- ---- rows

-- A row that puts a value in place of the n words on top, of a part that began with d0 and m0 while k words waited.
abbrev pub RowsGiveValues : Type 0
RowsGiveValues = (g : Ground) (w : Rate) (p : Point) (r : Spot) (F : Machine → Machine) (st : Setting) (l : List Begun) (s : State) (m : Machine)
    (d0 : Data) (m0 : Machine) (k n width : ℕ) (ws : List ℕ) (o : Row) → Leads g p r F → F m ≡ going r o m → spot m ≡ p.at → Owes p.due l s m
    → Yields n ws m o → Matched st s.now m (k + n) → Kept (d0.top + k) d0 m0.stack s.now m.stack → s.code ≡ None → AreWords ws → length ws ≡ width
    → Follows g w (pos r - pos p.at) 0 w.reach (tally_with l s) m (IsValue st r width k d0 m0) NoExit (done ws s)

-- a row that deletes n words
abbrev pub RowsDropWords : Type 0
RowsDropWords = (g : Ground) (w : Rate) (p : Point) (r : Spot) (F : Machine → Machine) (st : Setting) (l : List Begun) (s : State) (m : Machine)
    (d0 : Data) (m0 : Machine) (k n : ℕ) (o : Row) (y : Yields n [] m o) → Leads g p r F → F m ≡ going r o m → spot m ≡ p.at → Owes p.due l s m
    → Matched st s.now m (k + n) → Kept (d0.top + k) d0 m0.stack s.now m.stack → Coded s.code y.left.regs.code
    → Follows g w (pos r - pos p.at) 0 w.reach (tally_with l s) m (Completes st r k d0 m0) NoExit (done tt s)

-- a row that stores a word in a data word of the stack, and deletes n words
abbrev pub RowsStoreWords : Type 0
RowsStoreWords = (g : Ground) (w : Rate) (p : Point) (r : Spot) (F : Machine → Machine) (st : Setting) (l : List Begun) (s : State) (m : Machine)
    (d0 : Data) (m0 : Machine) (k n a v old : ℕ) (o : Row) → Leads g p r F → F m ≡ going r o m → spot m ≡ p.at → Owes p.due l s m → Puts n a v m o
    → s.now.mem a ≡ Some old → v < 65536 → Matched st s.now m (k + n) → Kept (d0.top + k) d0 m0.stack s.now m.stack → Coded s.code m.regs.code
    → Follows g w (pos r - pos p.at) 0 w.reach (tally_with l s) m (Completes st r k d0 m0) NoExit (done tt (placed_word false a v s))

-- a row that stores a word in the extra segment, and deletes n words
abbrev pub RowsStoreFar : Type 0
RowsStoreFar = (g : Ground) (w : Rate) (p : Point) (r : Spot) (F : Machine → Machine) (st : Setting) (l : List Begun) (s : State) (m : Machine)
    (d0 : Data) (m0 : Machine) (k n a v : ℕ) (o : Row) → Leads g p r F → F m ≡ going r o m → spot m ≡ p.at → Owes p.due l s m → PutsFar n a v m o
    → v < 65536 → Matched st s.now m (k + n) → Kept (d0.top + k) d0 m0.stack s.now m.stack → Coded s.code m.regs.code
    → Follows g w (pos r - pos p.at) 0 w.reach (tally_with l s) m (Completes st r k d0 m0) NoExit (done tt (placed_word true a v s))

-- BRE behind a value: it goes on where the value's lowest bit is 1, and else to the mark
abbrev pub RowsTestValues : Type 0
RowsTestValues = (g : Ground) (w : Rate) (p r to : Spot) (back : Bool) (d : ℕ) (st : Setting) (s : State) (m : Machine) (d0 : Data) (m0 : Machine)
    (k n : ℕ) (vs : List ℕ) → Leads g (on p) r (turning (i.Short 0o16 back d) to r) → IsValue st p n k d0 m0 vs s m
    → Follows g w (pos r - pos p) 0 w.reach (tally s) m (Tested st r to k d0 m0) NoExit (done vs s)

-- a row that traps, in an expression; nothing is printed, and the machine ends so
abbrev pub RowsTrap : Type 0
RowsTrap = (g : Ground) (w : Rate) (p : Point) (r q : Spot) (F : Machine → Machine) (st : Setting) (l : List Begun) (s : State) (m : Machine)
    (d0 : Data) (m0 : Machine) (k j width : ℕ) (o : Row) (t : Trap) → Leads g p r F → F m ≡ going r o m → spot m ≡ p.at → Owes p.due l s m
    → Matched st s.now m j → o ≡ Err t
    → Follows g w (pos r - pos p.at) 0 w.reach (tally_with l s) m (IsValue st q width k d0 m0) NoExit (ends (trapped t) s)

-- BR leads to its mark, where the same words wait
abbrev pub BranchesArrive : Type 0
BranchesArrive = (g : Ground) (w : Rate) (p r to : Spot) (back : Bool) (d : ℕ) (st : Setting) (s : State) (m : Machine) (d0 : Data) (m0 : Machine) (k : ℕ)
    → Leads g (on p) r (turning (i.Branch false back d) to r) → Arrives st p k d0 m0 s m
    → (n : Machine) × Goes g w (pos r - pos p) 0 w.reach (tally s) m (tally s) n × Arrives st to k d0 m0 s n

-- ---- parts

-- A value waits while another is made: both are one of more words.
abbrev pub ValuesFollow : Type 0
ValuesFollow = (g : Ground) (w : Rate) (st : Setting) (marks : ℕ → Spot) (n o : ℕ) (p : Point) (r q : Spot) (k : ℕ) (s : State) (l : List Begun)
    (m : Machine) (first : Outcome (List ℕ)) (other : List ℕ → State → Outcome (List ℕ)) → pos p.at ≤ pos r → pos r ≤ pos q
    → Gives g w st marks as_value n p r k s l m first
    → ((vs : List ℕ) (s1 : State) (m1 : Machine) → IsValue st r n k s.now m vs s1 m1 → s1.left ≤ s.left
    → Gives g w st marks as_value o (on r) q (k + n) s1 s1.begun m1 (other vs s1))
    → Gives g w st marks as_value (n + o) p q k s l m (then_go first (λ vs s1. then_go (other vs s1) (λ ws s2. done (vs ++ ws) s2)))

-- a value, and then BRE, is a test of it
abbrev pub ValuesAreTested : Type 0
ValuesAreTested = (g : Ground) (w : Rate) (st : Setting) (marks : ℕ → Spot) (fail : ℕ) (back : Bool) (d n : ℕ) (p : Point) (r q : Spot) (k : ℕ)
    (s : State) (l : List Begun) (m : Machine) (o : Outcome (List ℕ)) → pos p.at ≤ pos r → Leads g (on r) q (turning (i.Short 0o16 back d) (marks fail) q)
    → Gives g w st marks as_value n p r k s l m o → Gives g w st marks (as_test fail) n p q k s l m o

-- a test of a value is a condition: its truth is the value's lowest bit; with a value that is not one word the run strays
abbrev pub TestsDecide : Type 0
TestsDecide = (g : Ground) (w : Rate) (c lag e : ℕ) (t : Tally) (m : Machine) (st : Setting) (q fails : Spot) (k : ℕ) (d0 : Data) (m0 : Machine)
    (o : Outcome (List ℕ)) → Follows g w c lag e t m (Tested st q fails k d0 m0) NoExit o
    → Follows g w c lag e t m (Truth st q fails k d0 m0) NoExit (then_go o (λ vs s. with_one vs s (λ v u. done (is_odd v) u)))

-- A statement begins that can be stopped at: it spends a step, is noted, and is met at its first instruction. That step pays for its code.
abbrev pub NotedStatementsBegin : Type 0
NotedStatementsBegin = (g : Ground) (w : Rate) (st : Setting) (x : Exits) (d number : ℕ) (at : At) (p q : Spot) (k need : ℕ) (s : State) (m : Machine)
    (go : State → Outcome (Unit {0})) → Begins st d p k need s m
    → ((t : State) → t.now ≡ s.now → t.left ≤ s.left → Ready st d (record { at = p; due = Some at }) k need t s.begun m
    → Follows g w w.step 2 3 (tally_with s.begun t) m (Completes st q k t.now m) (Leaving st x k t.now m) (go t))
    → Runs g w st x q k s m (stopping number at s go)

-- one that cannot be stopped at begins with a step alone
abbrev pub PlainStatementsBegin : Type 0
PlainStatementsBegin = (g : Ground) (w : Rate) (st : Setting) (x : Exits) (d : ℕ) (p q : Spot) (k need : ℕ) (s : State) (m : Machine)
    (go : State → Outcome (Unit {0})) → Begins st d p k need s m
    → ((t : State) → t.now ≡ s.now → t.left ≤ s.left → Ready st d (on p) k need t t.begun m
    → Follows g w w.step 2 3 (tally t) m (Completes st q k t.now m) (Leaving st x k t.now m) (go t))
    → Runs g w st x q k s m (beginning s go)

-- one statement, and then those behind it in its list
abbrev pub StatementsFollow : Type 0
StatementsFollow = (g : Ground) (w : Rate) (st : Setting) (x : Exits) (r q : Spot) (k : ℕ) (s : State) (m : Machine) (o : Outcome (Unit {0}))
    (others : State → Outcome (Unit {0})) → Runs g w st x r k s m o
    → ((s1 : State) (m1 : Machine) → Arrives st r k s.now m s1 m1 → s1.left ≤ s.left → RunsAll g w st x q k s1 m1 (others s1))
    → RunsAll g w st x q k s m (then_go o (λ _ s1. others s1))

-- a statement that does nothing: a step, and the word that deletes none
abbrev pub EmptyStatementsRun : Type 0
EmptyStatementsRun = (g : Ground) (w : Rate) (sites : Sites) (st : Setting) (x : Exits) (d : ℕ) (p q : Spot) (k need : ℕ) (s : State) (m : Machine)
    → Stands g sites (on p) (Do (i.Control 8 0) ∷ []) q → pos q ≤ w.step → Begins st d p k need s m
    → Runs g w st x q k s m (beginning s (λ t. done tt t))
