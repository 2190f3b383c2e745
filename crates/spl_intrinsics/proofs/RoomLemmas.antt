-- The words on top of which a call is made: room for its answer, and then the words of its parameters.
use Rattle.std.proofs.Common.{◌≡◌, ℕ, zero, suc, ◌+◌, ◌-◌, ◌≤◌, List, [], ◌∷◌, ◌++◌, length, replicate, refl, ap, subst, arith}
use Rattle.std.specs.Prelude.{drop}
use Rattle.spl_statement_code.specs.hp_word.declared.intrinsics.Intrinsic.{Intrinsic}
use Rattle.spl_statement_code.specs.hp_word.declared.intrinsics.Intrinsic.TheVariants as which
use Rattle.spl_statement_code.specs.hp_word.Intrinsics.{answer_words}
use Rattle.spl_statement_code.specs.hp_instr.declared.instruction.Instr.TheVariants as i
use Rattle.spl_statement_code.specs.hp_instr.Instructions.{op}
use Rattle.spl_endings.specs.hp_session.State.{Machine, Outcome as Row}
use Rattle.spl_endings.specs.hp_stack_rows.StackRows.{operated}
use Rattle.spl_endings.proofs.hp_yields_proofs.StackYields as rows
use Rattle.spl_statement_code.specs.spl_branch.declared.pieces.Piece.{Piece}
use Rattle.spl_statement_code.specs.spl_meaning.Names.{intrinsic_profile}
use Rattle.spl_statement_code.specs.spl_meaning.References.{Setting}
use Rattle.spl_statement_code.specs.spl_meaning.States.{State, Begun, Outcome, done, leaves, spent, ends, strays, then_go}
use Rattle.spl_statement_code.specs.spl_code.Code.{as_value}
use Rattle.spl_statement_code.specs.spl_code.Calls.{result_room}
use Rattle.spl_statement_code.specs.spl_code.Instructions.{ZERO, DZRO}
use Rattle.spl_statement_code.specs.spl_code.Parts.{Part, pieces, ◌⨟◌}
use Rattle.spl_endings.specs.spl_frames.Words.{AreWords}
use Rattle.spl_endings.specs.spl_follow.Spots.{Spot, pos, Point, on, Ground}
use Rattle.spl_endings.specs.spl_follow.Leading.{Leads}
use Rattle.spl_endings.specs.spl_follow.Matching.{Outer, Matched, IsValue}
use Rattle.spl_endings.specs.spl_follow.Following.{Rate, tally_with, NoExit}
use Rattle.spl_endings.specs.spl_follow.Doing.{going, doing}
use Rattle.spl_endings.specs.spl_follow.Yielding.{Yields}
use Rattle.spl_endings.specs.spl_follow.Parts.{Ready, Gives}
use Rattle.spl_endings.specs.spl_follow.Simulating.{Surroundings, Simulates}
use Rattle.spl_endings.proofs.spl_follow_proofs.FollowLemmas.{go_done, widen}
use Rattle.spl_endings.proofs.spl_follow_proofs.KeepLemmas.{kept_same, value_ready}
use Rattle.spl_endings.proofs.spl_follow_proofs.PartLemmas.{stand_in_order, values_follow}
use Rattle.spl_endings.proofs.spl_follow_proofs.RowLemmas.{row_value}
use Rattle.spl_operands.specs.spl_values.Reached.{IsWhole}
use Rattle.spl_operands.proofs.spl_values_proofs.GiveLemmas.{last_leads}
use Rattle.spl_operands.proofs.spl_values_proofs.SumLemmas.{front_on}
use Rattle.spl_operands.proofs.spl_values_proofs.WholeLemmas.{whole_pieces, whole_then, whole_first, first_simulates, same_simulates}

-- ---- values

-- a value waits while another is made, and both are one
pub joined : (z : Surroundings) (d n o k need more : ℕ) (a b : Part) (first other : State → Outcome (List ℕ)) → IsWhole a → IsWhole b
    → Simulates z d as_value n k need a first → Simulates z d as_value o (k + n) more b other → n + more ≤ need
    → Simulates z d as_value (n + o) k need (a ⨟ b) (λ s. then_go (first s) (λ vs t. then_go (other t) (λ ws u. done (vs ++ ws) u)))
joined z d n o k need more a b first other wa wb sa sb enough = record {
  does = λ h ws p q s l m stands front ready.
      let x = a h ws in
      let y = b (h + x.marks) x.wants in
      let cut = stand_in_order z.ground z.sites x.pieces y.pieces p q (wa.closed h ws) stands in
      values_follow z.ground z.rate z.setting z.sites.marks n o p cut.0 q k s l m (first s) (λ vs t. other t) cut.3 cut.4
      (sa.does h ws p cut.0 s l m cut.1 (front_on x.wants y.wants z.wants (wb.keeps (h + x.marks) x.wants) front) ready)
      (λ vs s1 m1 v fewer. sb.does (h + x.marks) x.wants (on cut.0) q s1 s1.begun m1 cut.2 front
      (value_ready z.setting d p cut.0 k need n more s l m vs s1 m1 ready v fewer enough));
}

-- a row that pushes words, where a part is ready
pushes : (g : Ground) (w : Rate) (st : Setting) (marks : ℕ → Spot) (d : ℕ) (p : Point) (r : Spot) (F : Machine → Machine) (k need n : ℕ)
    (s : State) (l : List Begun) (m : Machine) (vs : List ℕ) (o : Row) → Leads g p r F → F m ≡ going r o m → Ready st d p k need s l m
    → Yields 0 vs m o → AreWords vs → length vs ≡ n → Gives g w st marks as_value n p r k s l m (done vs s)
pushes g w st marks d p r F k need n s l m vs o leads is ready y small wide =
    let none : k ≡ k + 0 = omega arith in
    widen g w (pos r - pos p.at) 0 w.reach (pos r - pos p.at) 1 w.reach (tally_with l s) m (IsValue st r n k s.now m) NoExit (done vs s)
    (row_value g w p r F st l s m s.now m k 0 n vs o leads is ready.at ready.owes y
    (subst (λ (i : ℕ). Matched st s.now m i) none ready.matches) (kept_same (s.now.top + k) s.now m.stack) ready.silent small wide)
    (omega arith) (omega arith) (omega arith)

-- there is room for so many words
room_there : (st : Setting) (d : ℕ) (p : Point) (k need n : ℕ) (s : State) (l : List Begun) (m : Machine) → Ready st d p k need s l m → n ≤ need
    → length m.stack + n ≤ m.stack_limit
room_there st d p k need n s l m r enough =
    let words = r.matches.words in
    let room = r.room in
    let limit : m.stack_limit ≡ s.now.stack = ap (λ (u : Outer). u.limit) r.matches.outer in
    omega (arith, words, room, limit, enough)

-- ---- room for an answer

-- the pieces that push so many zeros
pub data Rooms : ℕ → List Piece → Type 0 where
  none : Rooms 0 []
  one : Rooms 1 (ZERO ∷ [])
  two : Rooms 2 (DZRO ∷ [])

pub rooms_of : (n : Intrinsic) → Rooms (answer_words n) (result_room (intrinsic_profile n).result)
rooms_of which.Print = none
rooms_of which.Read = one
rooms_of which.Ascii = one
rooms_of which.Dascii = one
rooms_of which.Binary = one
rooms_of which.Dbinary = two
rooms_of which.Terminate = none
rooms_of which.Quit = none

zero_gives : (z : Surroundings) (d k need : ℕ) → 1 ≤ need → Simulates z d as_value 1 k need (pieces (ZERO ∷ [])) (λ s. done (0 ∷ []) s)
zero_gives z d k need enough = record {
  does = λ h ws p q s l m stands front ready.
      pushes z.ground z.rate z.setting z.sites.marks d p q (doing z.ground.segments (i.Pair (op 0o06) (op 0)) q) k need 1 s l m (0 ∷ []) (operated 0o06 m)
      (last_leads z.ground z.sites p (i.Pair (op 0o06) (op 0)) q stands) refl ready
      (let room = room_there z.setting d p k need 1 s l m ready enough in (rows.zero_pushed m (omega (arith, room))).words) (omega arith, tt) refl;
}

zeros_give : (z : Surroundings) (d k need : ℕ) → 2 ≤ need → Simulates z d as_value 2 k need (pieces (DZRO ∷ [])) (λ s. done (0 ∷ 0 ∷ []) s)
zeros_give z d k need enough = record {
  does = λ h ws p q s l m stands front ready.
      pushes z.ground z.rate z.setting z.sites.marks d p q (doing z.ground.segments (i.Pair (op 0o07) (op 0)) q) k need 2 s l m (0 ∷ 0 ∷ []) (operated 0o07 m)
      (last_leads z.ground z.sites p (i.Pair (op 0o07) (op 0)) q stands) refl ready
      (rows.zeros_pushed m (room_there z.setting d p k need 2 s l m ready enough)).words (omega arith, (omega arith, tt)) refl;
}

pub room_whole : (n : ℕ) (ps : List Piece) (a : Part) → Rooms n ps → IsWhole a → IsWhole (pieces ps ⨟ a)
room_whole n ps a none x = whole_first a x
room_whole n ps a one x = whole_then (pieces (ZERO ∷ [])) a (whole_pieces (ZERO ∷ []) refl) x
room_whole n ps a two x = whole_then (pieces (DZRO ∷ [])) a (whole_pieces (DZRO ∷ []) refl) x

-- with more room
pub more_room : (z : Surroundings) (d n k need more : ℕ) (a : Part) (f : State → Outcome (List ℕ)) → need ≤ more → Simulates z d as_value n k need a f
    → Simulates z d as_value n k more a f
more_room z d n k need more a f few x = record {
  does = λ h ws p q s l m stands front ready.
      let room = ready.room in
      x.does h ws p q s l m stands front
      (record { at = ready.at; owes = ready.owes; matches = ready.matches; silent = ready.silent; room = omega (arith, room, few); fuel = ready.fuel });
}

-- Room for an answer of n words, and then a value of o words: both wait.
pub room_and : (z : Surroundings) (d n o k need more : ℕ) (ps : List Piece) (a : Part) (words : State → Outcome (List ℕ)) → Rooms n ps → IsWhole a
    → Simulates z d as_value o (k + n) more a words → n + more ≤ need
    → Simulates z d as_value (n + o) k need (pieces ps ⨟ a) (λ s. then_go (words s) (λ ws t. done (replicate n 0 ++ ws) t))
room_and z d n o k need more ps a words none whole x enough =
    let same : k + 0 ≡ k = omega arith in
    let few : more ≤ need = omega (arith, enough) in
    let all : o ≡ 0 + o = omega arith in
    subst (λ (j : ℕ). Simulates z d as_value j k need (pieces [] ⨟ a) (λ s. then_go (words s) (λ ws t. done ws t))) all
    (same_simulates z d as_value o k need (pieces [] ⨟ a) (pieces [] ⨟ a) (λ s. then_go (words s) (λ ws t. done ws t)) words refl (λ s. go_done (words s))
    (first_simulates z d as_value o k need a words
    (more_room z d o k more need a words few (subst (λ (j : ℕ). Simulates z d as_value o j more a words) same x))))
room_and z d n o k need more ps a words one whole x enough =
    joined z d 1 o k need more (pieces (ZERO ∷ [])) a (λ s. done (0 ∷ []) s) words (whole_pieces (ZERO ∷ []) refl) whole
    (zero_gives z d k need (omega (arith, enough))) x enough
room_and z d n o k need more ps a words two whole x enough =
    joined z d 2 o k need more (pieces (DZRO ∷ [])) a (λ s. done (0 ∷ 0 ∷ []) s) words (whole_pieces (DZRO ∷ []) refl) whole
    (zeros_give z d k need (omega (arith, enough))) x enough

-- ---- what is behind the room

-- the words behind those of the room are those that were made
pub behind_room : {A : Type 0} (n : ℕ) (o : Outcome (List ℕ)) (go : List ℕ → State → Outcome A)
    → then_go (then_go o (λ ws t. done (replicate n 0 ++ ws) t)) (λ vs t. go (drop n vs) t) ≡ then_go o go
behind_room n (done ws s) go = ap (λ (vs : List ℕ). go vs s) (dropped n ws) where
  dropped : (n : ℕ) (ws : List ℕ) → drop n (replicate n 0 ++ ws) ≡ ws
  dropped zero ws = refl
  dropped (suc n) ws = dropped n ws
behind_room n (leaves x s) go = refl
behind_room n (spent s) go = refl
behind_room n (ends e s) go = refl
behind_room n (strays s) go = refl
