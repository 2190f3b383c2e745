-- Calls of intrinsics by their code: the words, the call behind them, and what is done with the answer.
use Rattle.std.proofs.Common.{◌≡◌, ℕ, zero, suc, ◌+◌, ◌-◌, ◌≤◌, true, List, [], ◌∷◌, ◌++◌, length, replicate, refl, sym, ap, subst, ◌∙◌, arith}
use Rattle.std.specs.Prelude.{drop, take}
use Rattle.std.proofs.lemmas.List.{append-nil, length-drop, length-take-le, take-append-drop}
use Rattle.spl_statement_code.specs.hp_word.declared.intrinsics.Intrinsic.{Intrinsic}
use Rattle.spl_statement_code.specs.hp_word.declared.intrinsics.Intrinsic.TheVariants as which
use Rattle.spl_statement_code.specs.hp_word.Intrinsics.{parameter_words, answer_words}
use Rattle.spl_statement_code.specs.hp_instr.declared.instruction.Instr.TheVariants as i
use Rattle.spl_endings.specs.hp_session.State.{Machine}
use Rattle.spl_statement_code.specs.spl_branch.declared.pieces.Piece.{Piece}
use Rattle.spl_statement_code.specs.spl_branch.declared.pieces.Piece.TheVariants.{Call}
use Rattle.spl_statement_code.specs.spl_meaning.Laws.{IsFront}
use Rattle.spl_statement_code.specs.spl_meaning.Names.{intrinsic_profile}
use Rattle.spl_statement_code.specs.spl_meaning.Operations.{kept}
use Rattle.spl_statement_code.specs.spl_meaning.References.{Setting}
use Rattle.spl_statement_code.specs.spl_meaning.Serving as run
use Rattle.spl_statement_code.specs.spl_meaning.States.{Data, State, Begun, Outcome, done, then_go}
use Rattle.spl_statement_code.specs.spl_code.Calls.{result_room, result_taken}
use Rattle.spl_statement_code.specs.spl_code.Instructions.{DEL, DDEL}
use Rattle.spl_statement_code.specs.spl_code.Parts.{Part, Wanted, pieces, nothing, ◌⨟◌, wanted_place, with_wanted}
use Rattle.spl_statement_code.specs.Statements.{result_dropped}
use Rattle.spl_endings.specs.spl_frames.Words.{AreWords}
use Rattle.spl_endings.specs.spl_follow.Spots.{Spot, pos, Point, on, Ground}
use Rattle.spl_endings.specs.spl_follow.Leading.{Leads}
use Rattle.spl_endings.specs.spl_follow.Matching.{Stand, IsValue, IsAnswer}
use Rattle.spl_endings.specs.spl_follow.Following.{tally_with, Follows, NoExit}
use Rattle.spl_endings.specs.spl_follow.Doing.{calling}
use Rattle.spl_endings.specs.spl_follow.Standing.{Sites, Stands, IsClosed}
use Rattle.spl_endings.specs.spl_follow.Parts.{Ready}
use Rattle.spl_endings.specs.spl_follow.Simulating.{Surroundings}
use Rattle.spl_endings.proofs.spl_follow_proofs.FollowLemmas.{bind_follows}
use Rattle.spl_endings.proofs.spl_follow_proofs.KeepLemmas.{kept_top, kept_stack}
use Rattle.spl_endings.proofs.spl_follow_proofs.PartLemmas.{stand_in_order}
use Rattle.spl_endings.proofs.spl_follow_proofs.StackLemmas.{stand_last}
use Rattle.spl_endings.proofs.spl_follow_proofs.StandLemmas.{closed_last}
use Rattle.spl_operands.specs.spl_values.Reached.{IsWhole}
use Rattle.spl_operands.proofs.spl_values_proofs.SumLemmas.{front_on}
use Rattle.spl_endings.proofs.WantLemmas.{wanted_there, wanted_keeps}
use Rattle.spl_intrinsics.specs.Laws.{Asks}
use Rattle.spl_intrinsics.specs.Calls.{asked, IsAsked}
use Rattle.spl_intrinsics.proofs.CallLemmas.{answers}
use Rattle.spl_intrinsics.proofs.RoomLemmas.{rooms_of, room_whole, room_and, behind_room}

-- ---- the call behind its words

-- words behind others are words
small_drop : (n : ℕ) (vs : List ℕ) → AreWords vs → AreWords (drop n vs)
small_drop zero vs h = h
small_drop (suc n) [] h = tt
small_drop (suc n) (v ∷ vs) h = small_drop n vs h.1

-- where room for the answer and the words of the parameters wait, the call is about to be made
asks : (st : Setting) (r : Spot) (n : Intrinsic) (k : ℕ) (vs : List ℕ) (d0 : Data) (m0 : Machine) (s : State) (m : Machine)
    → IsValue st r (answer_words n + parameter_words n) k d0 m0 vs s m → s.now.top + (k + (answer_words n + parameter_words n)) ≤ s.now.stack
    → Asks st (on r) n k (drop (answer_words n) vs) d0 m0 s s.begun m
asks st r n k vs d0 m0 s m x room = record {
  at = x.at;
  owes = refl;
  matches = x.matches;
  wide = length-drop a vs ∙ (let wide = x.wide in omega (arith, wide));
  stand = subst (λ (j : ℕ). Stand m.stack j (drop a vs)) place (stand_last m.stack (take a vs) (drop a vs) (d0.top + k)
      (subst (λ (us : List ℕ). Stand m.stack (d0.top + k) us) (sym (take-append-drop a vs)) x.stand));
  small = small_drop a vs x.small;
  kept = x.kept;
  room = room;
}
  where
    a : ℕ
    a = answer_words n

    place : d0.top + k + length (take a vs) ≡ s.now.top + (k + a)
    place =
        let wide = x.wide in
        let top = kept_top (d0.top + k) d0 m0.stack s.now m.stack x.kept in
        let count : length (take a vs) ≡ a = length-take-le a vs (omega (arith, wide)) in
        omega (arith, top, count)

-- the last call leads to the end
call_leads : (g : Ground) (w : Sites) (p : Point) (index : ℕ) (q : Spot) → Stands g w p (Call (i.Control 0 0) true index ∷ []) q
    → Leads g p q (calling (i.Control 0 0) (w.ways true index) q)
call_leads g w p index q stands =
    subst (λ (r : Spot). Leads g p r (calling (i.Control 0 0) (w.ways true index) r)) (ap (λ (x : Point). x.at) stands.4) stands.1

-- ---- a call by its code

-- nothing behind a call: no answer of an intrinsic is a BYTE
taken_none : (n : Intrinsic) → result_taken (intrinsic_profile n).result ≡ []
taken_none which.Print = refl
taken_none which.Read = refl
taken_none which.Ascii = refl
taken_none which.Dascii = refl
taken_none which.Binary = refl
taken_none which.Dbinary = refl
taken_none which.Terminate = refl
taken_none which.Quit = refl

-- where the code of a call stands, its words and the call do
pub record StandsAsked (z : Surroundings) (p : Point) (q : Spot) (h : ℕ) (ws : List Wanted) (n : Intrinsic) (x : List ℕ) (a : Part) : Type 0 where
  pub meets : Spot
  pub first : Stands z.ground z.sites p ((pieces (result_room (intrinsic_profile n).result) ⨟ a) h ws).pieces meets
  pub last : Stands z.ground z.sites (on meets) (Call (i.Control 0 0) true (wanted_place x true (a (h + 0) ws).wants) ∷ []) q
  pub before : pos p.at ≤ pos meets
  pub behind : pos meets ≤ pos q

-- the pieces of a call: its words', and the call itself
pub asked_pieces : (n : Intrinsic) (x : List ℕ) (a : Part) (h : ℕ) (ws : List Wanted)
    → ((asked n x a ⨟ nothing) h ws).pieces
    ≡ ((pieces (result_room (intrinsic_profile n).result) ⨟ a) h ws).pieces ++ Call (i.Control 0 0) true (wanted_place x true (a (h + 0) ws).wants) ∷ []
asked_pieces n x a h ws =
    let front = ((pieces (result_room (intrinsic_profile n).result) ⨟ a) h ws).pieces in
    let call : List Piece = Call (i.Control 0 0) true (wanted_place x true (a (h + 0) ws).wants) ∷ [] in
    append-nil ((front ++ call) ++ result_taken (intrinsic_profile n).result) ∙ ap (λ (ps : List Piece). (front ++ call) ++ ps) (taken_none n) ∙ append-nil (front ++ call)

asked_stands : (z : Surroundings) (p : Point) (q : Spot) (h : ℕ) (ws : List Wanted) (n : Intrinsic) (x : List ℕ) (a : Part) → IsWhole a
    → Stands z.ground z.sites p ((asked n x a ⨟ nothing) h ws).pieces q → StandsAsked z p q h ws n x a
asked_stands z p q h ws n x a whole stands =
    let room = result_room (intrinsic_profile n).result in
    let front = ((pieces room ⨟ a) h ws).pieces in
    let call : List Piece = Call (i.Control 0 0) true (wanted_place x true (a (h + 0) ws).wants) ∷ [] in
    let cut = stand_in_order z.ground z.sites front call p q ((room_whole (answer_words n) room a (rooms_of n) whole).closed h ws)
    (subst (λ (ps : List Piece). Stands z.ground z.sites p ps q) (asked_pieces n x a h ws) stands) in
    record { meets = cut.0; first = cut.1; last = cut.2; before = cut.3; behind = cut.4 }

-- so it is whole
pub asked_whole : (n : Intrinsic) (x : List ℕ) (a : Part) → IsWhole a → IsWhole (asked n x a ⨟ nothing)
asked_whole n x a whole = record {
  closed = λ h ws.
      let call : List Piece = Call (i.Control 0 0) true (wanted_place x true (a (h + 0) ws).wants) ∷ [] in
      subst (λ (ps : List Piece). IsClosed ps) (sym (asked_pieces n x a h ws))
      (closed_last ((pieces (result_room (intrinsic_profile n).result) ⨟ a) h ws).pieces call refl);
  keeps = λ h ws. front_on ws (a (h + 0) ws).wants (with_wanted x true (a (h + 0) ws).wants) (whole.keeps (h + 0) ws) (wanted_keeps x true (a (h + 0) ws).wants);
}

-- its answer, on the words that wait
pub asked_follows : (z : Surroundings) (d k need : ℕ) (n : Intrinsic) (x : List ℕ) (a : Part) (words : State → Outcome (List ℕ)) → IsAsked z d k need n x a words
    → (h : ℕ) (ws : List Wanted) (p : Point) (q : Spot) (s : State) (l : List Begun) (m : Machine)
    → Stands z.ground z.sites p ((asked n x a ⨟ nothing) h ws).pieces q → IsFront ((asked n x a ⨟ nothing) h ws).wants z.wants
    → Ready z.setting d p k need s l m
    → Follows z.ground z.rate (pos q - pos p.at) 1 z.rate.reach (tally_with l s) m (IsAnswer z.setting q (answer_words n) k s.now m) NoExit
    (then_go (words s) (λ us t. run.served n us t))
asked_follows z d k need n x a words y h ws p q s l m stands front ready =
    let c = asked_stands z p q h ws n x a y.closed stands in
    let wants = (a (h + 0) ws).wants in
    let before = c.before in
    let behind = c.behind in
    let enough = y.enough in
    let fits = y.room in
    let many = z.rate.enough in
    let room = ready.room in
    subst (λ (o : Outcome (List ℕ)). Follows z.ground z.rate (pos q - pos p.at) 1 z.rate.reach (tally_with l s) m (IsAnswer z.setting q (answer_words n) k s.now m) NoExit o)
    (behind_room (answer_words n) (words s) (λ us t. run.served n us t))
    (bind_follows z.ground z.rate (pos c.meets - pos p.at) 1 z.rate.reach (pos q - pos c.meets) 1 z.rate.reach (pos q - pos p.at) 1 z.rate.reach (tally_with l s) m
    (IsValue z.setting c.meets (answer_words n + parameter_words n) k s.now m) (IsAnswer z.setting q (answer_words n) k s.now m) NoExit
    (then_go (words s) (λ us t. done (replicate (answer_words n) 0 ++ us) t)) (λ vs t. run.served n (drop (answer_words n) vs) t)
    ((room_and z d (answer_words n) (parameter_words n) k need y.more (result_room (intrinsic_profile n).result) a words (rooms_of n) y.closed y.simulates y.enough).does
    h ws p c.meets s l m c.first (front_on wants (with_wanted x true wants) z.wants (wanted_keeps x true wants) front) ready)
    (λ vs t m1 v fewer.
    let top = kept_top (s.now.top + k) s.now m.stack t.now m1.stack v.kept in
    let stack = kept_stack (s.now.top + k) s.now m.stack t.now m1.stack v.kept in
    answers z.ground z.rate z.setting (on c.meets) q (z.sites.ways true (wanted_place x true wants)) n k (drop (answer_words n) vs) s.now m t t.begun m1 y.answered
    (y.gates (wanted_place x true wants) x n (wanted_there x true wants z.wants front) y.named) y.whole
    (call_leads z.ground z.sites (on c.meets) (wanted_place x true wants) q c.last)
    (asks z.setting c.meets n k vs s.now m t m1 v (omega (arith, top, stack, room, enough, fits))))
    (omega (arith, before, behind)) (omega arith) (omega (arith, many)) (omega (arith, many)))

-- ---- the answer is deleted

-- the pieces that delete so many words
pub data Drops : ℕ → List Piece → Type 0 where
  none : Drops 0 []
  one : Drops 1 (DEL ∷ [])
  two : Drops 2 (DDEL ∷ [])

pub drops_of : (n : Intrinsic) → Drops (answer_words n) (result_dropped (intrinsic_profile n).result)
drops_of which.Print = none
drops_of which.Read = one
drops_of which.Ascii = one
drops_of which.Dascii = one
drops_of which.Binary = one
drops_of which.Dbinary = two
drops_of which.Terminate = none
drops_of which.Quit = none
