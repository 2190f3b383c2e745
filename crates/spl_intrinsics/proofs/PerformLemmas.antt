-- Calls of intrinsics as statements: the answer is deleted, or stored in a variable.
use Rattle.std.proofs.Common.{◌≡◌, ℕ, ◌+◌, ◌-◌, ◌≤◌, true, false, List, [], ◌∷◌, length, Some, slice_index, refl, sym, ap, subst, ◌∙◌, arith}
use Rattle.std.proofs.lemmas.Bool.{false≢true}
use Rattle.spl_statement_code.specs.hp_word.declared.arithmetic.Code.{Code}
use Rattle.spl_statement_code.specs.hp_word.declared.intrinsics.Intrinsic.{Intrinsic}
use Rattle.spl_statement_code.specs.hp_word.Intrinsics.{answer_words}
use Rattle.spl_statement_code.specs.hp_instr.declared.instruction.Instr.TheVariants as i
use Rattle.spl_statement_code.specs.hp_instr.Instructions.{op}
use Rattle.spl_endings.specs.hp_session.State.{Machine, word}
use Rattle.spl_endings.specs.hp_stack_rows.StackRows.{operated}
use Rattle.spl_endings.specs.hp_flat.Step.{at_left}
use Rattle.spl_endings.proofs.hp_yields_proofs.StackYields as rows
use Rattle.spl_statement_code.specs.spl_tree.declared.expressions.Kind.{Kind}
use Rattle.spl_statement_code.specs.spl_tree.declared.expressions.Kind.TheVariants as kind
use Rattle.spl_statement_code.specs.spl_tree.declared.names_and_places.At.{At}
use Rattle.spl_statement_code.specs.spl_branch.declared.pieces.Piece.{Piece}
use Rattle.spl_statement_code.specs.spl_branch.declared.pieces.Piece.TheVariants.{Begin, Do}
use Rattle.spl_statement_code.specs.spl_meaning.Names.{intrinsic_profile}
use Rattle.spl_statement_code.specs.spl_meaning.Kinds.{width}
use Rattle.spl_statement_code.specs.spl_meaning.Operations.{kept}
use Rattle.spl_statement_code.specs.spl_meaning.Places.{Place, data_word, above_base, below_base, below_return}
use Rattle.spl_statement_code.specs.spl_meaning.References.{Setting, address_of, variable_located, store}
use Rattle.spl_statement_code.specs.spl_meaning.Serving as run
use Rattle.spl_statement_code.specs.spl_meaning.States.{Data, State, Outcome, done, then_go, stopping}
use Rattle.spl_statement_code.specs.spl_meaning.Statements.{value_dropped}
use Rattle.spl_statement_code.specs.spl_code.Operands.{mode_of}
use Rattle.spl_statement_code.specs.spl_code.Parts.{Part, pieces, piece, nothing, ◌⨟◌}
use Rattle.spl_statement_code.specs.Statements.{result_dropped}
use Rattle.spl_endings.specs.spl_follow.Spots.{Spot, pos, Point, on, Ground}
use Rattle.spl_endings.specs.spl_follow.Leading.{Leads}
use Rattle.spl_endings.specs.spl_follow.Matching.{Matched, Coded, IsAnswer}
use Rattle.spl_endings.specs.spl_follow.Following.{Rate, tally, tally_with, Follows, NoExit}
use Rattle.spl_endings.specs.spl_follow.Doing.{doing}
use Rattle.spl_endings.specs.spl_follow.Standing.{Sites, Stands}
use Rattle.spl_endings.specs.spl_follow.Parts.{Completes, Leaving}
use Rattle.spl_endings.specs.spl_follow.Simulating.{Surroundings, Performs}
use Rattle.spl_endings.proofs.spl_follow_proofs.FollowLemmas.{bind_follows, no_exit, widen}
use Rattle.spl_endings.proofs.spl_follow_proofs.KeepLemmas.{kept_top, kept_stack}
use Rattle.spl_endings.proofs.spl_follow_proofs.PartLemmas.{stand_in_order, statements_begin_noted}
use Rattle.spl_endings.proofs.spl_follow_proofs.RowLemmas.{row_drops}
use Rattle.spl_endings.proofs.spl_follow_proofs.StackLemmas.{stand_at}
use Rattle.spl_endings.proofs.spl_follow_proofs.WayLemmas.{goes_none}
use Rattle.spl_operands.specs.spl_values.Reached.{is_word_kind, is_reached}
use Rattle.spl_operands.proofs.spl_values_proofs.GiveLemmas.{last_leads}
use Rattle.spl_operands.proofs.spl_values_proofs.VariableLemmas.{place_found}
use Rattle.spl_operands.specs.Operands.{Finds, Storing}
use Rattle.spl_operands.proofs.StoreLemmas.{storing, store_follows}
use Rattle.spl_intrinsics.specs.Calls.{asked, IsAsked, CallsPerform, AnswersAssigned}
use Rattle.spl_intrinsics.proofs.AskLemmas.{asked_whole, asked_follows, Drops, drops_of}
use Rattle.spl_intrinsics.proofs.AskLemmas as ask

-- ---- the answer is deleted

-- DEL and DDEL behind an answer; the condition code stays
pub answer_deleted : (g : Ground) (w : Rate) (sites : Sites) (st : Setting) (r q : Spot) (n k : ℕ) (ps : List Piece) (vs : List ℕ) (s : State) (m : Machine)
    (d0 : Data) (m0 : Machine) → Drops n ps → Stands g sites (on r) ps q → IsAnswer st r n k d0 m0 vs s m
    → Follows g w (pos q - pos r) 0 0 (tally s) m (Completes st q k d0 m0) NoExit (done tt s)
answer_deleted g w sites st r q n k ps vs s m d0 m0 ask.Drops.none stands x =
    let same : r ≡ q = ap (λ (p : Point). p.at) stands in
    let all : k + 0 ≡ k = omega arith in
    subst (λ (p : Spot). Follows g w (pos p - pos r) 0 0 (tally s) m (Completes st p k d0 m0) NoExit (done tt s)) same (
      m,
      goes_none g w (pos r - pos r) 0 (tally s) m,
      record { at = x.at; matches = subst (λ (j : ℕ). Matched st s.now m j) all x.matches; kept = x.kept; coded = x.coded },
    )
answer_deleted g w sites st r q n k ps vs s m d0 m0 ask.Drops.one stands x =
    let words = x.matches.words in
    let y = rows.top_deleted m (omega (arith, words)) in
    widen g w (pos q - pos r) 0 w.reach (pos q - pos r) 0 0 (tally s) m (Completes st q k d0 m0) NoExit (done tt s)
    (row_drops g w (on r) q (doing g.segments (i.Pair (op 0o40) (op 0)) q) st s.begun s m d0 m0 k 1 (operated 0o40 m) y.words
    (last_leads g sites (on r) (i.Pair (op 0o40) (op 0)) q stands) refl x.at refl x.matches x.kept
    (subst (λ (c : Code). Coded s.code c) (sym y.same_code) x.coded)) (omega arith) (omega arith) (omega arith)
answer_deleted g w sites st r q n k ps vs s m d0 m0 ask.Drops.two stands x =
    let words = x.matches.words in
    let y = rows.double_deleted m (omega (arith, words)) in
    widen g w (pos q - pos r) 0 w.reach (pos q - pos r) 0 0 (tally s) m (Completes st q k d0 m0) NoExit (done tt s)
    (row_drops g w (on r) q (doing g.segments (i.Pair (op 0o02) (op 0)) q) st s.begun s m d0 m0 k 2 (operated 0o02 m) y.words
    (last_leads g sites (on r) (i.Pair (op 0o02) (op 0)) q stands) refl x.at refl x.matches x.kept
    (subst (λ (c : Code). Coded s.code c) (sym y.same_code) x.coded)) (omega arith) (omega arith) (omega arith)

-- ---- statements

pub calls_perform : CallsPerform
calls_perform z d k need number at n x a words y = record {
  does = λ h ws p q s m stands front pays b.
      let code = (asked n x a ⨟ nothing) (h + 0) ws in
      let ps = result_dropped (intrinsic_profile n).result in
      let start : Point = record { at = p; due = Some at } in
      let cut = stand_in_order z.ground z.sites code.pieces ps start q ((asked_whole n x a y.closed).closed (h + 0) ws) stands.1 in
      let many = z.rate.enough in
      let rise = cut.3 in
      let last = cut.4 in
      statements_begin_noted z.ground z.rate z.setting z.exits d number at p q k need s m
      (λ u. value_dropped (then_go (words u) (λ us t. run.served n us t))) b
      (λ t same fewer ready. no_exit z.ground z.rate z.rate.step 2 3 (tally_with s.begun t) m (Completes z.setting q k t.now m) (Leaving z.setting z.exits k t.now m)
      (value_dropped (then_go (words t) (λ us v. run.served n us v)))
      (bind_follows z.ground z.rate (pos cut.0 - pos p) 1 z.rate.reach (pos q - pos cut.0) 0 0 z.rate.step 2 3 (tally_with s.begun t) m
      (IsAnswer z.setting cut.0 (answer_words n) k t.now m) (Completes z.setting q k t.now m) NoExit (then_go (words t) (λ us v. run.served n us v)) (λ vs v. done tt v)
      (asked_follows z d k need n x a words y (h + 0) ws start cut.0 t s.begun m cut.1 front ready)
      (λ vs v m1 is less. answer_deleted z.ground z.rate z.sites z.setting cut.0 q (answer_words n) k ps vs v m1 t.now m (drops_of n) cut.2 is)
      (omega (arith, rise, last, pays)) (omega arith) (omega (arith, many)) (omega (arith, many))));
}

-- ---- the answer is stored

-- an answer of one word is about to be stored
answer_storing : (st : Setting) (r : Spot) (n k v : ℕ) (d0 : Data) (m0 : Machine) (s : State) (m : Machine) → n ≡ 1 → IsAnswer st r n k d0 m0 (v ∷ []) s m
    → s.now.top + (k + 1) ≤ s.now.stack → Storing st r k d0 m0 v s m
answer_storing st r n k v d0 m0 s m one x room =
    let matches = subst (λ (j : ℕ). Matched st s.now m (k + j)) one x.matches in
    let words = matches.words in
    let top = kept_top (d0.top + k) d0 m0.stack s.now m.stack x.kept in
    let place : length m.stack - 1 - 0 ≡ d0.top + k + 0 = omega (arith, words, top) in
    record {
      at = x.at;
      matches = matches;
      top = ap (λ (a : ℕ). slice_index m.stack a) place ∙ stand_at m.stack (v ∷ []) (d0.top + k) 0 (omega arith) x.stand;
      small = x.small.0;
      kept = x.kept;
      coded = x.coded;
      room = room;
    }

-- a variable of one word is where its place is
variable_found : (st : Setting) (t : Kind) (k j : ℕ) (place : Place) (s : State) (m : Machine) → is_word_kind t ≡ true → is_reached st k place ≡ true
    → Matched st s.now m j → Finds t (mode_of k place) false false false (address_of place s.now) (at_left m)
variable_found st kind.Integer k j place s m one reached x =
    let f = place_found st s.now k j place (at_left m) reached x in record { place = f.0; is = f.1; at = f.3; side = f.2 }
variable_found st kind.Logical k j place s m one reached x =
    let f = place_found st s.now k j place (at_left m) reached x in record { place = f.0; is = f.1; at = f.3; side = f.2 }
variable_found st kind.Byte k j place s m one reached x = absurd (false≢true one)
variable_found st kind.Double k j place s m one reached x = absurd (false≢true one)

-- the answer, by its words, of which there is one
answer_put : (g : Ground) (w : Rate) (st : Setting) (r q : Spot) (t : Kind) (place : Place) (n k : ℕ) (vs : List ℕ) (s : State) (m : Machine) (d0 : Data) (m0 : Machine)
    → n ≡ 1 → width t ≡ 1 → is_word_kind t ≡ true → is_reached st k place ≡ true → s.now.top + (k + 1) ≤ s.now.stack
    → Leads g (on r) q (doing g.segments (storing t false false (mode_of k place)) q) → IsAnswer st r n k d0 m0 vs s m
    → Follows g w (pos q - pos r) 0 w.reach (tally s) m (Completes st q k d0 m0) NoExit
    (store (variable_located t (address_of place s.now)) (kept t vs) s)
answer_put g w st r q t place n k (v ∷ []) s m d0 m0 one narrow word reached room leads x =
    let y = answer_storing st r n k v d0 m0 s m one x room in
    store_follows g w r q st t (mode_of k place) false false k v d0 m0 s m (done (variable_located t (address_of place s.now)) s) narrow leads y
    (refl, refl, by t word) where
      by : (t : Kind) → is_word_kind t ≡ true
          → Finds t (mode_of k place) false false false (variable_located t (address_of place s.now)).address (at_left m)
      by kind.Integer word = variable_found st kind.Integer k (k + 1) place s m word reached (answer_storing st r n k v d0 m0 s m one x room).matches
      by kind.Logical word = variable_found st kind.Logical k (k + 1) place s m word reached (answer_storing st r n k v d0 m0 s m one x room).matches
      by kind.Byte word = absurd (false≢true word)
      by kind.Double word = absurd (false≢true word)
answer_put g w st r q t place n k [] s m d0 m0 one narrow word reached room leads x = let wide = x.wide in absurd (omega (arith, wide, one))
answer_put g w st r q t place n k (v ∷ u ∷ vs) s m d0 m0 one narrow word reached room leads x = let wide = x.wide in absurd (omega (arith, wide, one))

word_assigned : (z : Surroundings) (d k need number : ℕ) (at : At) (n : Intrinsic) (x : List ℕ) (a : Part) (words : State → Outcome (List ℕ))
    (t : Kind) (place : Place) → IsAsked z d k need n x a words → answer_words n ≡ 1 → width t ≡ 1 → is_word_kind t ≡ true
    → is_reached z.setting k place ≡ true
    → Performs z d k need (piece (Begin at) ⨟ (nothing ⨟ (asked n x a ⨟ nothing) ⨟ pieces (Do (storing t false false (mode_of k place)) ∷ [])))
    (λ s. stopping number at s (λ u. then_go (then_go (words u) (λ ws t. run.served n ws t))
    (λ vs v. store (variable_located t (address_of place v.now)) (kept t vs) v)))
word_assigned z d k need number at n x a words t place y one narrow word reached = record {
  does = λ h ws p q s m stands front pays b.
      let code = (asked n x a ⨟ nothing) (h + 0 + 0) ws in
      let start : Point = record { at = p; due = Some at } in
      let cut = stand_in_order z.ground z.sites code.pieces (Do (storing t false false (mode_of k place)) ∷ []) start q
      ((asked_whole n x a y.closed).closed (h + 0 + 0) ws) stands.1 in
      let leads = last_leads z.ground z.sites (on cut.0) (storing t false false (mode_of k place)) q cut.2 in
      let many = z.rate.enough in
      let rise = cut.3 in
      let last = cut.4 in
      let enough = y.enough in
      statements_begin_noted z.ground z.rate z.setting z.exits d number at p q k need s m
      (λ u. then_go (then_go (words u) (λ us v. run.served n us v)) (λ vs v. put vs v)) b
      (λ u same fewer ready. no_exit z.ground z.rate z.rate.step 2 3 (tally_with s.begun u) m (Completes z.setting q k u.now m) (Leaving z.setting z.exits k u.now m)
      (then_go (then_go (words u) (λ us v. run.served n us v)) (λ vs v. put vs v))
      (bind_follows z.ground z.rate (pos cut.0 - pos p) 1 z.rate.reach (pos q - pos cut.0) 0 z.rate.reach z.rate.step 2 3 (tally_with s.begun u) m
      (IsAnswer z.setting cut.0 (answer_words n) k u.now m) (Completes z.setting q k u.now m) NoExit (then_go (words u) (λ us v. run.served n us v)) (λ vs v. put vs v)
      (asked_follows z d k need n x a words y (h + 0 + 0) ws start cut.0 u s.begun m cut.1 front ready)
      (λ vs v m1 is less.
      let top = kept_top (u.now.top + k) u.now m.stack v.now m1.stack is.kept in
      let stack = kept_stack (u.now.top + k) u.now m.stack v.now m1.stack is.kept in
      let room = ready.room in
      answer_put z.ground z.rate z.setting cut.0 q t place (answer_words n) k vs v m1 u.now m one narrow word reached (omega (arith, top, stack, room, enough, one)) leads is)
      (omega (arith, rise, last, pays)) (omega arith) (omega (arith, many)) (omega (arith, many))));
} where
  put : List ℕ → State → Outcome (Unit {0})
  put vs v = store (variable_located t (address_of place v.now)) (kept t vs) v

-- a place that is reached is not counted from the top, so its store is one instruction
pub answers_assigned : AnswersAssigned
answers_assigned z d k need number at n x a words kind.Integer (data_word j) y one word reached = word_assigned z d k need number at n x a words kind.Integer (data_word j) y one refl word reached
answers_assigned z d k need number at n x a words kind.Integer (above_base j) y one word reached = word_assigned z d k need number at n x a words kind.Integer (above_base j) y one refl word reached
answers_assigned z d k need number at n x a words kind.Integer (below_base j) y one word reached = word_assigned z d k need number at n x a words kind.Integer (below_base j) y one refl word reached
answers_assigned z d k need number at n x a words kind.Logical (data_word j) y one word reached = word_assigned z d k need number at n x a words kind.Logical (data_word j) y one refl word reached
answers_assigned z d k need number at n x a words kind.Logical (above_base j) y one word reached = word_assigned z d k need number at n x a words kind.Logical (above_base j) y one refl word reached
answers_assigned z d k need number at n x a words kind.Logical (below_base j) y one word reached = word_assigned z d k need number at n x a words kind.Logical (below_base j) y one refl word reached
answers_assigned z d k need number at n x a words t (below_return j) y one word reached = absurd (false≢true reached)
answers_assigned z d k need number at n x a words kind.Byte place y one word reached = absurd (false≢true word)
answers_assigned z d k need number at n x a words kind.Double place y one word reached = absurd (false≢true word)
