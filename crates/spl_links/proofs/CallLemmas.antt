-- The code of a call of a procedure or a subroutine: its step, room for its result, its arguments, the call itself, and its result.
use Rattle.std.proofs.Common.{◌≡◌, ℕ, zero, suc, ◌+◌, ◌-◌, ◌/◌, ◌<◌, ◌≤◌, Bool, true, false, List, [], ◌∷◌, ◌++◌, length, replicate, Option, None, Some, refl, sym, ap, subst, ◌∙◌, arith, inl}
use Rattle.std.specs.Prelude.{is_some}
use Rattle.std.proofs.Math.Logic.{⊎_elim}
use Rattle.std.proofs.lemmas.Bool.{false≢true}
use Rattle.std.proofs.lemmas.List.{append-nil, append_assoc, length-append, length-replicate}
use Rattle.spl_intrinsics.specs.hp_word.declared.arithmetic.Code.{Code}
use Rattle.spl_intrinsics.specs.hp_word.Bits.{shifted}
use Rattle.spl_intrinsics.specs.hp_word.declared.shifts.Shift.TheVariants.{Lsr}
use Rattle.spl_intrinsics.proofs.hp_word_proofs.ShiftLemmas.{shifted-Lsr}
use Rattle.spl_intrinsics.specs.hp_instr.declared.instruction.Instr.TheVariants as i
use Rattle.spl_intrinsics.specs.hp_instr.Instructions.{op}
use Rattle.spl_intrinsics.specs.hp_session.State.{Machine, word}
use Rattle.spl_intrinsics.specs.hp_stack_rows.StackRows.{operated}
use Rattle.spl_intrinsics.specs.hp_word_rows.WordRows.{shift_of, shifting}
use Rattle.spl_intrinsics.specs.hp_flat.Step.{at_left}
use Rattle.spl_intrinsics.proofs.hp_yields_proofs.StackYields as rows
use Rattle.spl_intrinsics.proofs.hp_yields_proofs.WordYields as word_rows
use Rattle.spl_intrinsics.specs.spl_tree.declared.expressions.Kind.{Kind}
use Rattle.spl_intrinsics.specs.spl_tree.declared.expressions.Kind.TheVariants as kind
use Rattle.spl_intrinsics.specs.spl_tree.declared.names_and_places.At.{At}
use Rattle.spl_intrinsics.specs.spl_branch.declared.pieces.Piece.{Piece}
use Rattle.spl_intrinsics.specs.spl_branch.declared.pieces.Piece.TheVariants.{Do, Literal, Place, Branch, Mark, Call, Begin}
use Rattle.spl_intrinsics.specs.spl_meaning.Kinds.{result_width}
use Rattle.spl_intrinsics.specs.spl_meaning.Laws.{IsFront}
use Rattle.spl_intrinsics.specs.spl_meaning.Names.{Profile}
use Rattle.spl_intrinsics.specs.spl_meaning.Pending.{result_words, formals_words, marker_words}
use Rattle.spl_intrinsics.specs.spl_meaning.References.{Setting}
use Rattle.spl_intrinsics.specs.spl_meaning.States.{Data, State, Begun, Outcome, done, then_go}
use Rattle.spl_intrinsics.specs.spl_meaning.Statements.{value_dropped}
use Rattle.spl_intrinsics.specs.spl_meaning.Values.{Who, procedure, subroutine, Callee}
use Rattle.spl_intrinsics.specs.spl_code.Calls.{Scope, result_room, result_taken, procedure_called, subroutine_called, called}
use Rattle.spl_intrinsics.specs.spl_code.Code.{calling}
use Rattle.spl_intrinsics.specs.spl_code.Instructions.{LSR}
use Rattle.spl_intrinsics.specs.spl_code.Parts.{Part, Wanted, Written}
use Rattle.spl_intrinsics.specs.spl_statement_code.Statements.{result_dropped}
use Rattle.spl_intrinsics.specs.spl_frames.Words.{AreWords}
use Rattle.spl_intrinsics.specs.spl_follow.Calling.{result_of, IsResult}
use Rattle.spl_intrinsics.specs.spl_follow.Spots.{Spot, spot, pos, Point, on, Ground, start_at}
use Rattle.spl_intrinsics.specs.spl_follow.Matching.{Outer, Matched, Kept, Stand, Coded, IsValue, IsAnswer}
use Rattle.spl_intrinsics.specs.spl_follow.Following.{Rate, tally, tally_with, Owes, Behind, Follows, NoExit}
use Rattle.spl_intrinsics.specs.spl_follow.Doing.{doing}
use Rattle.spl_intrinsics.specs.spl_follow.Standing.{Sites, Stands, IsClosed}
use Rattle.spl_intrinsics.specs.spl_follow.Yielding.{Yields}
use Rattle.spl_intrinsics.specs.spl_follow.Parts.{Ready, Completes, Leaving}
use Rattle.spl_intrinsics.specs.spl_follow.Simulating.{Surroundings}
use Rattle.spl_intrinsics.proofs.spl_follow_proofs.FollowLemmas.{then_follows, bind_follows, tail_follows, spend_follows, weaken, widen, no_exit}
use Rattle.spl_intrinsics.proofs.spl_follow_proofs.WayLemmas.{goes_none}
use Rattle.spl_intrinsics.proofs.spl_follow_proofs.KeepLemmas.{kept_same, kept_top, kept_stack, value_after, values_join, value_ready, value_word}
use Rattle.spl_intrinsics.proofs.spl_follow_proofs.PartLemmas.{stand_in_order, statements_begin_noted}
use Rattle.spl_intrinsics.proofs.spl_follow_proofs.RowLemmas.{behind_here, shown, row_value}
use Rattle.spl_intrinsics.proofs.spl_follow_proofs.StandLemmas.{closed_last, stands_le}
use Rattle.spl_intrinsics.proofs.spl_values_proofs.GiveLemmas.{last_leads, value_row}
use Rattle.spl_operators.proofs.RowLemmas.{value_there}
use Rattle.spl_intrinsics.proofs.spl_values_proofs.SumLemmas.{front_on}
use Rattle.spl_intrinsics.proofs.spl_endings_proofs.WantLemmas.{wanted_keeps}
use Rattle.spl_intrinsics.proofs.RoomLemmas.{Rooms}
use Rattle.spl_intrinsics.proofs.RoomLemmas as room
use Rattle.spl_intrinsics.proofs.AskLemmas.{Drops}
use Rattle.spl_intrinsics.proofs.AskLemmas as ask
use Rattle.spl_intrinsics.proofs.PerformLemmas.{answer_deleted}
use Rattle.spl_links.specs.Links.{MayCall}
use Rattle.spl_links.specs.Laws.{HasCode, ArgumentsCode, CanCall, has_entry, call_value, CallsAreWhole, CallsSimulate, CallsPerform}
use Rattle.spl_links.specs.Laws as law
use Rattle.spl_links.proofs.LinkLemmas.{CallStands, entry_there, call_stands}

-- ---- where a step is spent

-- a statement that is due starts where pieces stand
stands_start : (g : Ground) (w : Sites) (p : Point) (ps : List Piece) (q : Spot) → Stands g w p ps q → (at : At) → p.due ≡ Some at → start_at g p.at ≡ p.due
stands_start g w p [] q s at due = let none : Some at ≡ None = sym due ∙ ap (λ (x : Point). x.due) s in cc
stands_start g w p (Do by ∷ ps) q s at due = s.1.start
stands_start g w p (Literal v ∷ ps) q s at due = let none : Some at ≡ None = sym due ∙ s.1 in cc
stands_start g w p (Place l ∷ ps) q s at due = let none : Some at ≡ None = sym due ∙ s.1 in cc
stands_start g w p (Branch by l ∷ ps) q s at due = s.1.start
stands_start g w p (Mark l ∷ ps) q s at due = let none : Some at ≡ None = sym due ∙ s.1 in cc
stands_start g w p (Call by wanted index ∷ ps) q s at due = s.1.start
stands_start g w p (Begin there ∷ ps) q s at due = let none : Some at ≡ None = sym due ∙ s.0 in cc

-- so what is due there is what the log lacks
behind_stood : (g : Ground) (w : Sites) (p : Point) (ps : List Piece) (q : Spot) (st : Setting) (k : ℕ) (s : State) (l : List Begun) (m : Machine)
    → Stands g w p ps q → spot m ≡ p.at → Matched st s.now m k → Owes p.due l s m → Behind g l s m
behind_stood g w p ps q st k s l m stands at x owes = by p.due refl where
  by : (o : Option At) → p.due ≡ o → Behind g l s m
  by None is = inl (subst (λ (o : Option At). Owes o l s m) is owes)
  by (Some there) is = behind_here g p l s m (stands_start g w p ps q stands there is) at (ap (λ (u : Outer). u.ending) x.outer) owes

-- ---- the result

-- words that are the value
same_taken : (g : Ground) (w : Rate) (st : Setting) (j : ℕ) (r q : Spot) (k : ℕ) (d0 : Data) (m0 : Machine) (vs words : List ℕ) (s : State) (m : Machine)
    → vs ≡ words → IsValue st r j k d0 m0 words s m → r ≡ q
    → Follows g w (pos q - pos r) 0 0 (tally s) m (IsValue st q j k d0 m0) NoExit (done vs s)
same_taken g w st j r q k d0 m0 vs words s m is x end =
    subst (λ (p : Spot). Follows g w (pos p - pos r) 0 0 (tally s) m (IsValue st p j k d0 m0) NoExit (done vs s)) end
    (m, goes_none g w (pos r - pos r) 0 (tally s) m, subst (λ (us : List ℕ). IsValue st r j k d0 m0 us s m) (sym is) x)

-- the left half of a word
half : (u v : ℕ) → u ≡ v → v < 65536 → shifted (shift_of 3) u 8 ≡ v / 256
unfolding shift_of
half u v e small = ap (λ (h : ℕ). shifted Lsr h 8) e ∙ shifted-Lsr v 8 (omega arith) small

-- a BYTE stands in the left half of its word
byte_taken : (g : Ground) (w : Rate) (sites : Sites) (st : Setting) (r q : Spot) (k : ℕ) (d0 : Data) (m0 : Machine) (vs words : List ℕ) (s : State) (m : Machine)
    → vs ≡ result_of (Some kind.Byte) words → IsValue st r 1 k d0 m0 words s m → Stands g sites (on r) (LSR 8 ∷ []) q
    → Follows g w (pos q - pos r) 0 0 (tally s) m (IsValue st q 1 k d0 m0) NoExit (done vs s)
byte_taken g w sites st r q k d0 m0 vs [] s m is x stands = let wide = x.wide in absurd (omega (arith, wide))
byte_taken g w sites st r q k d0 m0 vs (v ∷ u ∷ us) s m is x stands = let wide = x.wide in absurd (omega (arith, wide))
byte_taken g w sites st r q k d0 m0 vs (v ∷ []) s m is x stands =
    subst (λ (us : List ℕ). Follows g w (pos q - pos r) 0 0 (tally s) m (IsValue st q 1 k d0 m0) NoExit (done us s)) (sym is)
    (widen g w (pos q - pos r) 0 w.reach (pos q - pos r) 0 0 (tally s) m (IsValue st q 1 k d0 m0) NoExit (done (v / 256 ∷ []) s)
    (value_row g w r q (doing g.segments (i.Shifted 3 8) q) st s m d0 m0 k 1 (v ∷ []) (v / 256) (shifting 3 8 (at_left m))
    (last_leads g sites (on r) (i.Shifted 3 8) q stands) refl x
    (subst (λ (u : ℕ). Yields 1 (u ∷ []) m (shifting 3 8 (at_left m)))
    (half (word 0 m) v (value_word st r 1 k 0 0 d0 m0 (v ∷ []) s m x refl) x.small.0)
    (word_rows.shift 3 8 (at_left m) (value_there st r 1 k d0 m0 (v ∷ []) s m x)).words)
    (let small = x.small.0 in omega (arith, small))) (omega arith) (omega arith) (omega arith))

-- the words of a result, as the callee leaves them, become its value
taken_follows : (g : Ground) (w : Rate) (sites : Sites) (st : Setting) (o : Option Kind) (r q : Spot) (k : ℕ) (d0 : Data) (m0 : Machine) (vs words : List ℕ)
    (s : State) (m : Machine) → vs ≡ result_of o words → IsValue st r (result_width o) k d0 m0 words s m → Stands g sites (on r) (result_taken o) q
    → Follows g w (pos q - pos r) 0 0 (tally s) m (IsValue st q (result_width o) k d0 m0) NoExit (done vs s)
taken_follows g w sites st None r q k d0 m0 vs words s m is x stands = same_taken g w st 0 r q k d0 m0 vs words s m is x (ap (λ (p : Point). p.at) stands)
taken_follows g w sites st (Some kind.Integer) r q k d0 m0 vs words s m is x stands =
    same_taken g w st 1 r q k d0 m0 vs words s m is x (ap (λ (p : Point). p.at) stands)
taken_follows g w sites st (Some kind.Logical) r q k d0 m0 vs words s m is x stands =
    same_taken g w st 1 r q k d0 m0 vs words s m is x (ap (λ (p : Point). p.at) stands)
taken_follows g w sites st (Some kind.Double) r q k d0 m0 vs words s m is x stands =
    same_taken g w st 2 r q k d0 m0 vs words s m is x (ap (λ (p : Point). p.at) stands)
taken_follows g w sites st (Some kind.Byte) r q k d0 m0 vs words s m is x stands = byte_taken g w sites st r q k d0 m0 vs words s m is x stands

-- ---- the call behind its words

-- A call is about to be made, in a part that began with s0 and m0: room for the r words of its result, and the words of its parameters, wait on top of k words.
record Given (st : Setting) (from : Point) (r f k : ℕ) (us : List ℕ) (s0 : State) (m0 : Machine) (s : State) (l : List Begun) (m : Machine) : Type 0 where
  at : spot m ≡ from.at
  owes : Owes from.due l s m
  matches : Matched st s.now m (k + r + length us)
  wide : length us ≡ f
  stand : Stand m.stack (s.now.top + k) (replicate r 0 ++ us)
  small : AreWords us
  kept : Kept (s0.now.top + k) s0.now m0.stack s.now m.stack
  silent : s.code ≡ None
  room : s.now.top + k + r + length us + marker_words ≤ s.now.stack

-- words behind others are words
small_behind : (zs us : List ℕ) → AreWords (zs ++ us) → AreWords us
small_behind [] us h = h
small_behind (z ∷ zs) us h = small_behind zs us h.1

-- so it is where these are a value
given_behind : (st : Setting) (meets : Spot) (r f k : ℕ) (us : List ℕ) (s0 : State) (m0 : Machine) (s : State) (m : Machine)
    → IsValue st meets (r + f) k s0.now m0 (replicate r 0 ++ us) s m → s0.now.top + k + (r + f) + marker_words ≤ s0.now.stack
    → Given st (on meets) r f k us s0 m0 s s.begun m
given_behind st meets r f k us s0 m0 s m x space =
    let wide = x.wide in
    let long = length-append (replicate r 0) us in
    let zeros = length-replicate {A = ℕ} r 0 in
    let count : length us ≡ f = omega (arith, wide, long, zeros) in
    let all : k + (r + f) ≡ k + r + length us = omega (arith, count) in
    let top = kept_top (s0.now.top + k) s0.now m0.stack s.now m.stack x.kept in
    let stack = kept_stack (s0.now.top + k) s0.now m0.stack s.now m.stack x.kept in
    record {
      at = x.at;
      owes = refl;
      matches = subst (λ (j : ℕ). Matched st s.now m j) all x.matches;
      wide = count;
      stand = subst (λ (a : ℕ). Stand m.stack (a + k) (replicate r 0 ++ us)) (sym top) x.stand;
      small = small_behind (replicate r 0) us x.small;
      kept = x.kept;
      silent = x.silent;
      room = omega (arith, top, stack, count, space);
    }

-- The call, and what takes its result: charged their own words, and what the step spent on the call pays for.
call_made : (may : Who → Bool) (c : Scope) (z : Surroundings) (d : ℕ) (call : Callee) (who : Who) (p : Profile) (k : ℕ) (from : Point) (q : Spot)
    (us : List ℕ) (s0 : State) (m0 : Machine) (s : State) (l : List Begun) (m : Machine) → MayCall may c z d call
    → CallStands z may c who p from q (result_taken p.result)
    → Given z.setting from (result_words p) (formals_words p.formals) k us s0 m0 s l m → s.left < d
    → Follows z.ground z.rate (pos q - pos from.at + z.rate.step) 0 z.rate.reach (tally_with l s) m (IsValue z.setting q (result_words p) k s0.now m0) NoExit
    (call who us k s)
call_made may c z d call who p k from q us s0 m0 s l m around cs y fuel =
    let rise = cs.leads.rise in
    let far = stands_le z.ground z.sites (result_taken p.result) (on cs.behind) q cs.stands in
    tail_follows z.ground z.rate (pos cs.behind - pos from.at + z.rate.step) 0 z.rate.reach (pos q - pos cs.behind) 0 0 (pos q - pos from.at + z.rate.step) 0 z.rate.reach
    (tally_with l s) m (IsResult z.setting cs.behind p k s.now m) (IsValue z.setting q (result_words p) k s0.now m0) NoExit (call who us k s)
    (around.calls who (record { by = cs.by; wanted = cs.wanted; index = cs.index; profile = p }) cs.linked from cs.behind k us s l m cs.leads cs.next
    (record {
      at = y.at;
      real = cs.real;
      owes = y.owes;
      matches = y.matches;
      wide = y.wide;
      stand = y.stand;
      small = y.small;
      silent = y.silent;
      room = y.room;
    }) fuel)
    (λ vs s1 m1 v fewer. taken_follows z.ground z.rate z.sites z.setting p.result cs.behind q k s0.now m0 vs v.words s1 m1 v.value
    (value_after z.setting cs.behind (result_words p) k s0.now m0 s.now m v.words s1 m1 y.kept v.stands) cs.stands)
    (omega (arith, rise, far)) (omega arith) (omega arith) (omega arith)

-- ---- room for the result

rooms_of_kind : (o : Option Kind) → Rooms (result_width o) (result_room o)
rooms_of_kind None = room.none
rooms_of_kind (Some kind.Integer) = room.one
rooms_of_kind (Some kind.Logical) = room.one
rooms_of_kind (Some kind.Byte) = room.one
rooms_of_kind (Some kind.Double) = room.two

-- zeros for a result that there is, and nothing before their instruction
zeros_put : (z : Surroundings) (d k need r : ℕ) (ps : List Piece) (from : Point) (q : Spot) (s : State) (l : List Begun) (m : Machine) → Rooms r ps → 1 ≤ r
    → r ≤ need → Stands z.ground z.sites from ps q → Ready z.setting d from k need s l m
    → Follows z.ground z.rate (pos q - pos from.at) 0 z.rate.reach (tally_with l s) m (IsValue z.setting q r k s.now m) NoExit (done (replicate r 0) s)
zeros_put z d k need r ps from q s l m room.none some enough stands ready = absurd (omega (arith, some))
zeros_put z d k need r ps from q s l m room.one some enough stands ready =
    let none : k ≡ k + 0 = omega arith in
    let words = ready.matches.words in
    let space = ready.room in
    let limit : m.stack_limit ≡ s.now.stack = ap (λ (u : Outer). u.limit) ready.matches.outer in
    row_value z.ground z.rate from q (doing z.ground.segments (i.Pair (op 0o06) (op 0)) q) z.setting l s m s.now m k 0 1 (0 ∷ []) (operated 0o06 m)
    (last_leads z.ground z.sites from (i.Pair (op 0o06) (op 0)) q stands) refl ready.at ready.owes
    (rows.zero_pushed m (omega (arith, words, space, limit, enough))).words
    (subst (λ (j : ℕ). Matched z.setting s.now m j) none ready.matches) (kept_same (s.now.top + k) s.now m.stack) ready.silent (omega arith, tt) refl
zeros_put z d k need r ps from q s l m room.two some enough stands ready =
    let none : k ≡ k + 0 = omega arith in
    let words = ready.matches.words in
    let space = ready.room in
    let limit : m.stack_limit ≡ s.now.stack = ap (λ (u : Outer). u.limit) ready.matches.outer in
    row_value z.ground z.rate from q (doing z.ground.segments (i.Pair (op 0o07) (op 0)) q) z.setting l s m s.now m k 0 2 (0 ∷ 0 ∷ []) (operated 0o07 m)
    (last_leads z.ground z.sites from (i.Pair (op 0o07) (op 0)) q stands) refl ready.at ready.owes
    (rows.zeros_pushed m (omega (arith, words, space, limit, enough))).words
    (subst (λ (j : ℕ). Matched z.setting s.now m j) none ready.matches) (kept_same (s.now.top + k) s.now m.stack) ready.silent (omega arith, (omega arith, tt)) refl

-- ---- all of it

-- what is owed is not less for a step
owes_spent : (o : Option At) (l : List Begun) (s : State) (m : Machine) (j : ℕ) → Owes o l s m → Owes o l (record s { left = j }) m
owes_spent None l s m j h = h
owes_spent (Some at) l s m j h = h

-- a part is ready behind a step
ready_spent : (st : Setting) (d : ℕ) (from : Point) (k need : ℕ) (s : State) (l : List Begun) (m : Machine) (j : ℕ) → Ready st d from k need s l m → s.left ≡ suc j
    → Ready st d from k need (record s { left = j }) l m
ready_spent st d from k need s l m j r is =
    let fuel = r.fuel in
    record {
      at = r.at;
      owes = owes_spent from.due l s m j r.owes;
      matches = r.matches;
      silent = r.silent;
      room = r.room;
      fuel = omega (arith, fuel, is);
    }

-- where the pieces of a call stand: room, arguments, and the call
called_pieces : (c : Scope) (p : Profile) (who : Who) (a : Part) (h : ℕ) (ws : List Wanted)
    → (calling p a (called c who) h ws).pieces
    ≡ result_room p.result ++ ((a (h + 0) ws).pieces ++ ((called c who (h + (0 + (a (h + 0) ws).marks)) (a (h + 0) ws).wants).pieces ++ result_taken p.result))
called_pieces c p who a h ws =
    let rr = result_room p.result in
    let aa = (a (h + 0) ws).pieces in
    let cc' = (called c who (h + (0 + (a (h + 0) ws).marks)) (a (h + 0) ws).wants).pieces in
    append_assoc (rr ++ aa) cc' (result_taken p.result) ∙ append_assoc rr aa (cc' ++ result_taken p.result)

-- its names: those of the arguments are among them
called_keeps : (c : Scope) (who : Who) (h : ℕ) (ws : List Wanted) → IsFront ws (called c who h ws).wants
called_keeps c (procedure x) h ws = by (c.procedures x) where
  by : (o : Option ℕ) → IsFront ws (procedure_called x o h ws).wants
  by (Some entry) = record { rest = []; is = sym (append-nil ws) }
  by None = wanted_keeps x false ws
called_keeps c (subroutine x) h ws = by (c.subroutines x) where
  by : (o : Option ℕ) → IsFront ws (subroutine_called o h ws).wants
  by (Some entry) = record { rest = []; is = sym (append-nil ws) }
  by None = record { rest = []; is = sym (append-nil ws) }

-- rooms that are there close
room_closed : (r : ℕ) (ps : List Piece) → Rooms r ps → 1 ≤ r → IsClosed ps
room_closed r ps room.none some = absurd (omega (arith, some))
room_closed r ps room.one some = refl
room_closed r ps room.two some = refl

-- a value behind no room
value_alone : (st : Setting) (q : Spot) (r f k : ℕ) (d : Data) (m : Machine) (us : List ℕ) (s : State) (m1 : Machine) → r ≡ 0
    → IsValue st q f (k + r) d m us s m1 → IsValue st q (r + f) k d m (replicate r 0 ++ us) s m1
value_alone st q zero f k d m us s m1 none v =
    let same : k + 0 ≡ k = omega arith in
    let all : f ≡ 0 + f = omega arith in
    subst (λ (j : ℕ). IsValue st q j k d m us s m1) all (subst (λ (j : ℕ). IsValue st q f j d m us s m1) same v)
value_alone st q (suc r) f k d m us s m1 none v = absurd (omega (arith, none))

module _ (may : Who → Bool) (c : Scope) (z : Surroundings) (d : ℕ) (call : Callee) (who : Who) (p : Profile) (k need more : ℕ)
    (around : MayCall may c z d call) (can : CanCall may c z.setting.split who p)
    (fits : result_words p + more ≤ need) (space : result_words p + formals_words p.formals + marker_words ≤ need) where
  abbrev r : ℕ
  r = result_words p

  abbrev f : ℕ
  f = formals_words p.formals

  -- what stands behind the arguments
  abbrev last_pieces : ℕ → List Wanted → List Piece
  last_pieces h ws = (called c who h ws).pieces ++ result_taken p.result

  -- the call behind the words of its parameters
  call_behind : (h : ℕ) (ws : List Wanted) (meets q : Spot) (s : State) (m : Machine) (us : List ℕ) (t : State) (m1 : Machine) (j : ℕ)
      → Stands z.ground z.sites (on meets) (last_pieces h ws) q → IsFront (called c who h ws).wants z.wants
      → IsValue z.setting meets (r + f) k s.now m (replicate r 0 ++ us) t m1 → s.now.top + k + need ≤ s.now.stack → t.left ≤ j → j < d
      → Follows z.ground z.rate (pos q - pos meets + z.rate.step) 0 z.rate.reach (tally t) m1 (IsValue z.setting q r k s.now m) NoExit (call who us k t)
  call_behind h ws meets q s m us t m1 j stands front v roomy fewer fuel =
      call_made may c z d call who p k (on meets) q us s m t t.begun m1 around
      (call_stands z may c who p (on meets) q (result_taken p.result) h ws can (entry_there may c z d call who p around can) stands front)
      (given_behind z.setting meets r f k us s m t m1 v (omega (arith, roomy, space))) (omega (arith, fewer, fuel))

  -- behind the room for a result: arguments, and the call
  behind_room : (a : Part) (words : State → Outcome (List ℕ)) (h : ℕ) (ws : List Wanted) (p0 : Point) (from q : Spot) (s : State) (l : List Begun) (m : Machine)
      (t : State) (m1 : Machine) → ArgumentsCode p z d k more a words
      → Stands z.ground z.sites (on from) ((a (h + 0) ws).pieces ++ last_pieces (h + (0 + (a (h + 0) ws).marks)) (a (h + 0) ws).wants) q
      → IsFront (called c who (h + (0 + (a (h + 0) ws).marks)) (a (h + 0) ws).wants).wants z.wants
      → Ready z.setting d p0 k need s l m → s.left < d → IsValue z.setting from r k s.now m (replicate r 0) t m1 → t.left ≤ s.left
      → Follows z.ground z.rate (pos q - pos from + z.rate.step) 1 z.rate.reach (tally t) m1 (IsValue z.setting q r k s.now m) NoExit
      (then_go (words t) (λ us u. call who us k u))
  behind_room a words h ws p0 from q s l m t m1 (law.ArgumentsCode.none none is) stands front ready fuel v fewer =
      let nil = append-nil {A = ℕ} (replicate r 0) in
      let all : r ≡ r + f = omega (arith, none) in
      subst (λ (o : Outcome (List ℕ)). Follows z.ground z.rate (pos q - pos from + z.rate.step) 1 z.rate.reach (tally t) m1 (IsValue z.setting q r k s.now m) NoExit
      (then_go o (λ us u. call who us k u))) (sym (is t))
      (widen z.ground z.rate (pos q - pos from + z.rate.step) 0 z.rate.reach (pos q - pos from + z.rate.step) 1 z.rate.reach (tally t) m1 (IsValue z.setting q r k s.now m)
      NoExit (call who [] k t)
      (call_behind (h + 0) ws from q s m [] t m1 s.left stands front
      (subst (λ (us : List ℕ). IsValue z.setting from (r + f) k s.now m us t m1) (sym nil) (subst (λ (i : ℕ). IsValue z.setting from i k s.now m (replicate r 0) t m1) all v))
      ready.room fewer fuel)
      (omega arith) (omega arith) (omega arith))
  behind_room a words h ws p0 from q s l m t m1 (law.ArgumentsCode.some closed sim) stands front ready fuel v fewer =
      let aa = a (h + 0) ws in
      let hc = h + (0 + aa.marks) in
      let cut = stand_in_order z.ground z.sites aa.pieces (last_pieces hc aa.wants) (on from) q (closed.closed (h + 0) ws) stands in
      let before = cut.3 in
      let behind = cut.4 in
      let many = z.rate.enough in
      let keeps = front_on aa.wants (called c who hc aa.wants).wants z.wants (called_keeps c who hc aa.wants) front in
      bind_follows z.ground z.rate (pos cut.0 - pos from) 1 z.rate.reach (pos q - pos cut.0 + z.rate.step) 0 z.rate.reach (pos q - pos from + z.rate.step) 1 z.rate.reach
      (tally t) m1 (λ us u n. IsValue z.setting cut.0 (r + f) k s.now m (replicate r 0 ++ us) u n) (IsValue z.setting q r k s.now m) NoExit (words t)
      (λ us u. call who us k u)
      (weaken z.ground z.rate (pos cut.0 - pos from) 1 z.rate.reach (tally t) m1 (IsValue z.setting cut.0 f (k + r) t.now m1)
      (λ us u n. IsValue z.setting cut.0 (r + f) k s.now m (replicate r 0 ++ us) u n) NoExit NoExit (words t)
      (sim.does (h + 0) ws (on from) cut.0 t t.begun m1 cut.1 keeps (value_ready z.setting d p0 from k need r more s l m (replicate r 0) t m1 ready v fewer fits))
      (λ us u n y less. values_join z.setting from cut.0 r f k s.now m (replicate r 0) us t m1 u n v y) (λ e u n no. no))
      (λ us u n y less. call_behind hc aa.wants cut.0 q s m us u n s.left cut.2 front y ready.room (omega (arith, less, fewer)) fuel)
      (omega (arith, before, behind)) (omega arith) (omega (arith, many)) (omega (arith, many))

  -- a call with a result: its step comes before the instruction that makes room
  with_result : (a : Part) (words : State → Outcome (List ℕ)) (h : ℕ) (ws : List Wanted) (from : Point) (q : Spot) (s : State) (l : List Begun) (m : Machine)
      → 1 ≤ r → ArgumentsCode p z d k more a words → Stands z.ground z.sites from (calling p a (called c who) h ws).pieces q
      → IsFront (calling p a (called c who) h ws).wants z.wants → Ready z.setting d from k need s l m
      → Follows z.ground z.rate (pos q - pos from.at) 1 z.rate.reach (tally_with l s) m (IsValue z.setting q r k s.now m) NoExit (call_value call who k words s)
  with_result a words h ws from q s l m some args stands front ready =
      let aa = a (h + 0) ws in
      let rr = result_room p.result in
      let behind = aa.pieces ++ last_pieces (h + (0 + aa.marks)) aa.wants in
      let cut = stand_in_order z.ground z.sites rr behind from q (room_closed r rr (rooms_of_kind p.result) some)
      (subst (λ (ps : List Piece). Stands z.ground z.sites from ps q) (called_pieces c p who a h ws) stands) in
      let rise = cut.3 in
      let far = cut.4 in
      let fuel = ready.fuel in
      spend_follows z.ground z.rate (pos q - pos from.at + z.rate.step) 0 (pos q - pos from.at) 1 z.rate.reach s l m (IsValue z.setting q r k s.now m) NoExit
      (λ t. then_go (words t) (λ us u. call who us k u)) (shown z.setting s m k ready.matches)
      (behind_stood z.ground z.sites from (calling p a (called c who) h ws).pieces q z.setting k s l m stands ready.at ready.matches ready.owes)
      (λ j is.
      let again = ready_spent z.setting d from k need s l m j ready is in
      let zeros = zeros_put z d k need r rr from cut.0 (record s { left = j }) l m (rooms_of_kind p.result) some (omega (arith, fits)) cut.1 again in
      then_follows z.ground z.rate (pos cut.0 - pos from.at) 0 z.rate.reach (pos q - pos cut.0 + z.rate.step) 1 z.rate.reach (pos q - pos from.at + z.rate.step) 0 z.rate.reach
      (tally_with l (record s { left = j })) m (tally (record s { left = j })) zeros.0 (IsValue z.setting q r k s.now m) NoExit
      (then_go (words (record s { left = j })) (λ us u. call who us k u)) zeros.1
      (behind_room a words h ws from cut.0 q (record s { left = j }) l m (record s { left = j }) zeros.0 args cut.2 front again (omega (arith, fuel, is)) zeros.2 (omega arith))
      (omega (arith, rise, far)) (let many = z.rate.enough in omega (arith, many)) (let many = z.rate.enough in omega (arith, many)))
      (omega arith) (omega arith)

  -- one without a result, behind its step: its arguments may begin with a step of their own
  without_result : (a : Part) (words : State → Outcome (List ℕ)) (h : ℕ) (ws : List Wanted) (from : Point) (q : Spot) (s : State) (l : List Begun) (m : Machine)
      → r ≡ 0 → result_room p.result ≡ [] → ArgumentsCode p z d k more a words
      → Stands z.ground z.sites from ((a (h + 0) ws).pieces ++ last_pieces (h + (0 + (a (h + 0) ws).marks)) (a (h + 0) ws).wants) q
      → IsFront (called c who (h + (0 + (a (h + 0) ws).marks)) (a (h + 0) ws).wants).wants z.wants
      → Ready z.setting d from k need s l m → s.left < d
      → Follows z.ground z.rate (pos q - pos from.at + z.rate.step) 1 z.rate.reach (tally_with l s) m (IsValue z.setting q r k s.now m) NoExit
      (then_go (words s) (λ us u. call who us k u))
  without_result a words h ws from q s l m none bare (law.ArgumentsCode.none free is) stands front ready fuel =
      let same : k ≡ k + r + 0 = omega (arith, none) in
      let room = ready.room in
      let few : 0 ≡ f = omega (arith, free) in
      subst (λ (o : Outcome (List ℕ)). Follows z.ground z.rate (pos q - pos from.at + z.rate.step) 1 z.rate.reach (tally_with l s) m (IsValue z.setting q r k s.now m) NoExit
      (then_go o (λ us u. call who us k u))) (sym (is s))
      (widen z.ground z.rate (pos q - pos from.at + z.rate.step) 0 z.rate.reach (pos q - pos from.at + z.rate.step) 1 z.rate.reach (tally_with l s) m
      (IsValue z.setting q r k s.now m) NoExit (call who [] k s)
      (call_made may c z d call who p k from q [] s m s l m around
      (call_stands z may c who p from q (result_taken p.result) (h + (0 + 0)) ws can (entry_there may c z d call who p around can) stands front)
      (record {
        at = ready.at;
        owes = ready.owes;
        matches = subst (λ (j : ℕ). Matched z.setting s.now m j) same ready.matches;
        wide = few;
        stand = subst (λ (j : ℕ). Stand m.stack (s.now.top + k) (replicate j 0 ++ [])) (sym none) tt;
        small = tt;
        kept = kept_same (s.now.top + k) s.now m.stack;
        silent = ready.silent;
        room = omega (arith, room, space, none);
      }) fuel)
      (omega arith) (omega arith) (omega arith))
  without_result a words h ws from q s l m none bare (law.ArgumentsCode.some closed sim) stands front ready fuel =
      let aa = a (h + 0) ws in
      let hc = h + (0 + aa.marks) in
      let cut = stand_in_order z.ground z.sites aa.pieces (last_pieces hc aa.wants) from q (closed.closed (h + 0) ws) stands in
      let before = cut.3 in
      let behind = cut.4 in
      let many = z.rate.enough in
      let room = ready.room in
      let same : k ≡ k + r = omega (arith, none) in
      let keeps = front_on aa.wants (called c who hc aa.wants).wants z.wants (called_keeps c who hc aa.wants) front in
      bind_follows z.ground z.rate (pos cut.0 - pos from.at) 1 z.rate.reach (pos q - pos cut.0 + z.rate.step) 0 z.rate.reach (pos q - pos from.at + z.rate.step) 1 z.rate.reach
      (tally_with l s) m (λ us u n. IsValue z.setting cut.0 (r + f) k s.now m (replicate r 0 ++ us) u n) (IsValue z.setting q r k s.now m) NoExit (words s)
      (λ us u. call who us k u)
      (weaken z.ground z.rate (pos cut.0 - pos from.at) 1 z.rate.reach (tally_with l s) m (IsValue z.setting cut.0 f (k + r) s.now m)
      (λ us u n. IsValue z.setting cut.0 (r + f) k s.now m (replicate r 0 ++ us) u n) NoExit NoExit (words s)
      (sim.does (h + 0) ws from cut.0 s l m cut.1 keeps (record {
        at = ready.at;
        owes = ready.owes;
        matches = subst (λ (j : ℕ). Matched z.setting s.now m j) same ready.matches;
        silent = ready.silent;
        room = omega (arith, room, none, fits);
        fuel = ready.fuel;
      }))
      (λ us u n y less. value_alone z.setting cut.0 r f k s.now m us u n none y) (λ e u n no. no))
      (λ us u n y less. call_behind hc aa.wants cut.0 q s m us u n s.left cut.2 front y ready.room less fuel)
      (omega (arith, before, behind)) (omega arith) (omega (arith, many)) (omega (arith, many))

  -- a call of either sort, within a statement, before whose first instruction two steps may come
  call_follows : (a : Part) (words : State → Outcome (List ℕ)) (h : ℕ) (ws : List Wanted) (from : Point) (q : Spot) (s : State) (l : List Begun) (m : Machine)
      → ArgumentsCode p z d k more a words → Stands z.ground z.sites from (calling p a (called c who) h ws).pieces q
      → IsFront (calling p a (called c who) h ws).wants z.wants → Ready z.setting d from k need s l m
      → Follows z.ground z.rate (pos q - pos from.at) 2 z.rate.reach (tally_with l s) m (IsValue z.setting q r k s.now m) NoExit (call_value call who k words s)
  call_follows a words h ws from q s l m args stands front ready = by p.result refl where
    aa : Written
    aa = a (h + 0) ws

    some : 1 ≤ r → Follows z.ground z.rate (pos q - pos from.at) 2 z.rate.reach (tally_with l s) m (IsValue z.setting q r k s.now m) NoExit (call_value call who k words s)
    some has =
        widen z.ground z.rate (pos q - pos from.at) 1 z.rate.reach (pos q - pos from.at) 2 z.rate.reach (tally_with l s) m (IsValue z.setting q r k s.now m) NoExit
        (call_value call who k words s) (with_result a words h ws from q s l m has args stands front ready) (omega arith) (omega arith) (omega arith)

    by : (o : Option Kind) → p.result ≡ o
        → Follows z.ground z.rate (pos q - pos from.at) 2 z.rate.reach (tally_with l s) m (IsValue z.setting q r k s.now m) NoExit (call_value call who k words s)
    by None is =
        let fuel = ready.fuel in
        let bare : result_room p.result ≡ [] = ap result_room is in
        spend_follows z.ground z.rate (pos q - pos from.at + z.rate.step) 1 (pos q - pos from.at) 2 z.rate.reach s l m (IsValue z.setting q r k s.now m) NoExit
        (λ t. then_go (words t) (λ us u. call who us k u)) (shown z.setting s m k ready.matches)
        (behind_stood z.ground z.sites from (calling p a (called c who) h ws).pieces q z.setting k s l m stands ready.at ready.matches ready.owes)
        (λ j e. without_result a words h ws from q (record s { left = j }) l m (ap result_width is) bare args
        (subst (λ (ps : List Piece). Stands z.ground z.sites from ps q)
        (called_pieces c p who a h ws ∙ ap (λ (ps : List Piece). ps ++ ((a (h + 0) ws).pieces ++ last_pieces (h + (0 + (a (h + 0) ws).marks)) (a (h + 0) ws).wants)) bare) stands)
        front (ready_spent z.setting d from k need s l m j ready e) (omega (arith, fuel, e)))
        (omega arith) (omega arith)
    by (Some kind.Integer) is = some (let one : r ≡ 1 = ap result_width is in omega (arith, one))
    by (Some kind.Logical) is = some (let one : r ≡ 1 = ap result_width is in omega (arith, one))
    by (Some kind.Byte) is = some (let one : r ≡ 1 = ap result_width is in omega (arith, one))
    by (Some kind.Double) is = some (let two : r ≡ 2 = ap result_width is in omega (arith, two))

-- ---- the code is whole

taken_closed : (o : Option Kind) (ps : List Piece) → IsClosed ps → IsClosed (ps ++ result_taken o)
taken_closed None ps x = subst (λ (qs : List Piece). IsClosed qs) (sym (append-nil ps)) x
taken_closed (Some kind.Integer) ps x = subst (λ (qs : List Piece). IsClosed qs) (sym (append-nil ps)) x
taken_closed (Some kind.Logical) ps x = subst (λ (qs : List Piece). IsClosed qs) (sym (append-nil ps)) x
taken_closed (Some kind.Double) ps x = subst (λ (qs : List Piece). IsClosed qs) (sym (append-nil ps)) x
taken_closed (Some kind.Byte) ps x = closed_last ps (LSR 8 ∷ []) refl

call_closed : (c : Scope) (who : Who) (h : ℕ) (ws : List Wanted) → has_entry c who ≡ true → IsClosed (called c who h ws).pieces
call_closed c (procedure x) h ws there = by (c.procedures x) where
  by : (o : Option ℕ) → IsClosed (procedure_called x o h ws).pieces
  by (Some entry) = refl
  by None = refl
call_closed c (subroutine x) h ws there = by (c.subroutines x) there where
  by : (o : Option ℕ) → is_some o ≡ true → IsClosed (subroutine_called o h ws).pieces
  by (Some entry) e = refl
  by None e = absurd (false≢true e)

arguments_keep : (a : Part) → HasCode a → (h : ℕ) (ws : List Wanted) → IsFront ws (a h ws).wants
arguments_keep a law.HasCode.none h ws = record { rest = []; is = sym (append-nil ws) }
arguments_keep a (law.HasCode.some closed) h ws = closed.keeps h ws

-- arguments behind the room for a result close where that is there
room_closes : (rr : List Piece) (a : Part) → HasCode a → IsClosed rr → (h : ℕ) (ws : List Wanted) → IsClosed (rr ++ (a h ws).pieces)
room_closes rr a law.HasCode.none room h ws = subst (λ (ps : List Piece). IsClosed ps) (sym (append-nil rr)) room
room_closes rr a (law.HasCode.some closed) room h ws = closed_last rr (a h ws).pieces (closed.closed h ws)

-- and so they do with a call that has a piece, or has none
call_closes : (c : Scope) (who : Who) (ps : List Piece) → IsClosed ps → (h : ℕ) (ws : List Wanted) → IsClosed (ps ++ (called c who h ws).pieces)
call_closes c (procedure x) ps room h ws = closed_last ps (called c (procedure x) h ws).pieces (call_closed c (procedure x) h ws refl)
call_closes c (subroutine x) ps room h ws = by (c.subroutines x) where
  by : (o : Option ℕ) → IsClosed (ps ++ (subroutine_called o h ws).pieces)
  by (Some entry) = closed_last ps (subroutine_called (Some entry) h ws).pieces refl
  by None = subst (λ (qs : List Piece). IsClosed qs) (sym (append-nil ps)) room

pub calls_whole : CallsAreWhole
calls_whole c p who a has there = record {
  closed = λ h ws.
      let aa = a (h + 0) ws in
      let rr = result_room p.result in
      let call = (called c who (h + (0 + aa.marks)) aa.wants).pieces in
      taken_closed p.result ((rr ++ aa.pieces) ++ call)
      (⊎_elim (λ e. closed_last (rr ++ aa.pieces) call (call_closed c who (h + (0 + aa.marks)) aa.wants e))
      (λ some. call_closes c who (rr ++ aa.pieces) (room_closes rr a has (room_closed (result_words p) rr (rooms_of_kind p.result) some) (h + 0) ws)
      (h + (0 + aa.marks)) aa.wants) there);
  keeps = λ h ws.
      let aa = a (h + 0) ws in
      front_on ws aa.wants (called c who (h + (0 + aa.marks)) aa.wants).wants (arguments_keep a has (h + 0) ws)
      (called_keeps c who (h + (0 + aa.marks)) aa.wants);
}

-- ---- values and statements

pub calls_give : CallsSimulate
calls_give may c z d call who p k need more a words around can some args fits space = record {
  does = λ h ws from q s l m stands front ready.
      with_result may c z d call who p k need more around can fits space a words h ws from q s l m some args stands front ready;
}

-- arguments have code
arguments_have : (p : Profile) (z : Surroundings) (d k more : ℕ) (a : Part) (words : State → Outcome (List ℕ)) → ArgumentsCode p z d k more a words → HasCode a
arguments_have p z d k more a words (law.ArgumentsCode.none free is) = law.HasCode.none
arguments_have p z d k more a words (law.ArgumentsCode.some closed sim) = law.HasCode.some closed

-- a result is dropped
drops_of_kind : (o : Option Kind) → Drops (result_width o) (result_dropped o)
drops_of_kind None = ask.Drops.none
drops_of_kind (Some kind.Integer) = ask.Drops.one
drops_of_kind (Some kind.Logical) = ask.Drops.one
drops_of_kind (Some kind.Byte) = ask.Drops.one
drops_of_kind (Some kind.Double) = ask.Drops.two

-- a value as an answer
value_answer : (st : Setting) (q : Spot) (j k : ℕ) (d : Data) (m : Machine) (vs : List ℕ) (s : State) (n : Machine) → IsValue st q j k d m vs s n
    → IsAnswer st q j k d m vs s n
value_answer st q j k d m vs s n v = record {
  at = v.at;
  wide = v.wide;
  matches = v.matches;
  stand = v.stand;
  small = v.small;
  kept = v.kept;
  coded = subst (λ (o : Option Code). Coded o n.regs.code) (sym v.silent) tt;
}

pub calls_perform : CallsPerform
calls_perform may c z d number at call who p k need more a words around can args fits space = record {
  does = λ h ws from q s m stands front pays b.
      let code = calling p a (called c who) (h + 0) ws in
      let ps = result_dropped p.result in
      let start : Point = record { at = from; due = Some at } in
      let cut = stand_in_order z.ground z.sites code.pieces ps start q ((calls_whole c p who a (arguments_have p z d k more a words args) (inl (entry_there may c z d call who p around can))).closed (h + 0) ws) stands.1 in
      let many = z.rate.enough in
      let rise = cut.3 in
      let last = cut.4 in
      statements_begin_noted z.ground z.rate z.setting z.exits d number at from q k need s m
      (λ t. value_dropped (call_value call who k words t)) b
      (λ t same fewer ready. no_exit z.ground z.rate z.rate.step 2 3 (tally_with s.begun t) m (Completes z.setting q k t.now m) (Leaving z.setting z.exits k t.now m)
      (value_dropped (call_value call who k words t))
      (bind_follows z.ground z.rate (pos cut.0 - pos from) 2 z.rate.reach (pos q - pos cut.0) 0 0 z.rate.step 2 3 (tally_with s.begun t) m
      (IsValue z.setting cut.0 (result_words p) k t.now m) (Completes z.setting q k t.now m) NoExit (call_value call who k words t) (λ vs v. done tt v)
      (call_follows may c z d call who p k need more around can fits space a words (h + 0) ws start cut.0 t s.begun m args cut.1 front ready)
      (λ vs v m1 is less. answer_deleted z.ground z.rate z.sites z.setting cut.0 q (result_words p) k ps vs v m1 t.now m (drops_of_kind p.result) cut.2
      (value_answer z.setting cut.0 (result_words p) k t.now m vs v m1 is))
      (omega (arith, rise, last, pays)) (omega arith) (omega (arith, many)) (omega (arith, many))));
}
