-- What an intrinsic answers, stored where a reference leads, and in variables that are counted from the top; the condition code that is known stays.
use Rattle.std.proofs.Common.{◌≡◌, ℕ, ◌+◌, ◌-◌, ◌≤◌, Bool, true, false, List, [], ◌∷◌, length, refl, sym, ap, subst, ◌∙◌, arith}
use Rattle.std.specs.Prelude.{Some, None, slice_index}
use Rattle.spl_tops.specs.hp_instr.declared.instruction.Mode.{Mode}
use Rattle.spl_tops.specs.hp_session.State.{Machine}
use Rattle.spl_tops.specs.hp_flat.Step.{at_left}
use Rattle.spl_tops.specs.spl_tree.declared.expressions.Kind.{Kind}
use Rattle.spl_tops.specs.spl_tree.declared.expressions.Kind.TheVariants as kind
use Rattle.spl_tops.specs.spl_branch.declared.pieces.Piece.{Piece}
use Rattle.spl_tops.specs.spl_branch.declared.pieces.Piece.TheVariants.{Do}
use Rattle.spl_tops.specs.spl_meaning.Kinds.{width}
use Rattle.spl_tops.specs.spl_meaning.Operations.{kept}
use Rattle.spl_tops.specs.spl_meaning.Places.{below_return}
use Rattle.spl_tops.specs.spl_meaning.References.{Setting, Located, own_located, store}
use Rattle.spl_tops.specs.spl_meaning.States.{Data, State, Outcome, then_go}
use Rattle.spl_tops.specs.spl_code.Instructions.{LDXN}
use Rattle.spl_tops.specs.spl_code.Operands.{mode_of}
use Rattle.spl_tops.specs.spl_code.Stores.{units_above, own_stored}
use Rattle.spl_tops.specs.spl_follow.Spots.{Spot, pos, on, Ground}
use Rattle.spl_tops.specs.spl_follow.Leading.{Leads}
use Rattle.spl_tops.specs.spl_follow.Matching.{IsAnswer}
use Rattle.spl_tops.specs.spl_follow.Following.{Rate, tally, Follows, NoExit}
use Rattle.spl_tops.specs.spl_follow.Doing.{doing}
use Rattle.spl_tops.specs.spl_follow.Standing.{Sites, Stands}
use Rattle.spl_tops.specs.spl_follow.Parts.{Completes}
use Rattle.spl_tops.proofs.spl_follow_proofs.FollowLemmas.{then_follows}
use Rattle.spl_tops.proofs.spl_follow_proofs.KeepLemmas.{kept_top}
use Rattle.spl_tops.proofs.spl_follow_proofs.StackLemmas.{stand_at}
use Rattle.spl_tops.proofs.spl_values_proofs.GiveLemmas.{last_leads}
use Rattle.spl_tops.specs.spl_operands.Operands.{Refers, Storing}
use Rattle.spl_tops.proofs.spl_operands_proofs.StoreLemmas.{storing, store_follows}
use Rattle.spl_tops.proofs.spl_doubles_proofs.StoreLemmas.{StoringDouble}
use Rattle.spl_tops.proofs.spl_doubles_proofs.CellLemmas as double
use Rattle.spl_tops.proofs.SeenLemmas.{IsBelow, below_based, below_low}
use Rattle.spl_tops.proofs.StoreLemmas.{down_finds}
use Rattle.spl_tops.proofs.UnderLemmas.{x_back}
use Rattle.spl_top_stores.proofs.PutLemmas.{store_is}

-- ---- where a reference leads

-- an answer of one word is about to be stored
word_storing : (st : Setting) (p : Spot) (k v : ℕ) (d0 : Data) (m0 : Machine) (s : State) (m : Machine) → IsAnswer st p 1 k d0 m0 (v ∷ []) s m
    → s.now.top + (k + 1) ≤ s.now.stack → Storing st p k d0 m0 v s m
word_storing st p k v d0 m0 s m x room =
    let words = x.matches.words in
    let top = kept_top (d0.top + k) d0 m0.stack s.now m.stack x.kept in
    let place : length m.stack - 1 - 0 ≡ d0.top + k + 0 = omega (arith, words, top) in
    record {
      at = x.at;
      matches = x.matches;
      top = ap (λ (a : ℕ). slice_index m.stack a) place ∙ stand_at m.stack (v ∷ []) (d0.top + k) 0 (omega arith) x.stand;
      small = x.small.0;
      kept = x.kept;
      coded = x.coded;
      room = room;
    }

-- and one of two
double_storing : (st : Setting) (p : Spot) (k h l : ℕ) (d0 : Data) (m0 : Machine) (s : State) (m : Machine) → IsAnswer st p 2 k d0 m0 (h ∷ l ∷ []) s m
    → s.now.top + (k + 2) ≤ s.now.stack → StoringDouble st p k d0 m0 h l s m
double_storing st p k h l d0 m0 s m x room =
    let words = x.matches.words in
    let top = kept_top (d0.top + k) d0 m0.stack s.now m.stack x.kept in
    let first : length m.stack - 1 - 1 ≡ d0.top + k + 0 = omega (arith, words, top) in
    let second : length m.stack - 1 - 0 ≡ d0.top + k + 1 = omega (arith, words, top) in
    record {
      at = x.at;
      matches = x.matches;
      high = ap (λ (a : ℕ). slice_index m.stack a) first ∙ stand_at m.stack (h ∷ l ∷ []) (d0.top + k) 0 (omega arith) x.stand;
      low = ap (λ (a : ℕ). slice_index m.stack a) second ∙ stand_at m.stack (h ∷ l ∷ []) (d0.top + k) 1 (omega arith) x.stand;
      high_small = x.small.0;
      low_small = x.small.1.0;
      kept = x.kept;
      coded = x.coded;
      room = room;
    }

-- of a kind of one word
word_stored : (g : Ground) (w : Rate) (st : Setting) (p q : Spot) (t : Kind) (mode : Mode) (i x : Bool) (k n : ℕ) (vs : List ℕ) (s : State) (m : Machine)
    (d0 : Data) (m0 : Machine) (o : Outcome Located) → width t ≡ n → width t ≡ 1 → s.now.top + (k + n) ≤ s.now.stack
    → Leads g (on p) q (doing g.segments (storing t i x mode) q) → IsAnswer st p n k d0 m0 vs s m → Refers t mode i x s (at_left m) o
    → Follows g w (pos q - pos p) 0 w.reach (tally s) m (Completes st q k d0 m0) NoExit (then_go o (λ y u. store y (kept y.kind vs) u))
word_stored g w st p q t mode i x k n (v ∷ []) s m d0 m0 o wide one room leads y refers =
    let n_is : n ≡ 1 = sym wide ∙ one in
    store_follows g w p q st t mode i x k v d0 m0 s m o one leads
    (word_storing st p k v d0 m0 s m (subst (λ (j : ℕ). IsAnswer st p j k d0 m0 (v ∷ []) s m) n_is y) (omega (arith, room, n_is))) refers
word_stored g w st p q t mode i x k n [] s m d0 m0 o wide one room leads y refers = let many = y.wide in absurd (omega (arith, many, wide, one))
word_stored g w st p q t mode i x k n (v ∷ u ∷ vs) s m d0 m0 o wide one room leads y refers = let many = y.wide in absurd (omega (arith, many, wide, one))

-- by the words of the answer, as many as the kind has
pub answer_stored : (g : Ground) (w : Rate) (st : Setting) (p q : Spot) (t : Kind) (mode : Mode) (i x : Bool) (k n : ℕ) (vs : List ℕ) (s : State) (m : Machine)
    (d0 : Data) (m0 : Machine) (o : Outcome Located) → width t ≡ n → s.now.top + (k + n) ≤ s.now.stack
    → Leads g (on p) q (doing g.segments (storing t i x mode) q) → IsAnswer st p n k d0 m0 vs s m → Refers t mode i x s (at_left m) o
    → Follows g w (pos q - pos p) 0 w.reach (tally s) m (Completes st q k d0 m0) NoExit (then_go o (λ y u. store y (kept y.kind vs) u))
answer_stored g w st p q kind.Double mode i x k n (h ∷ l ∷ []) s m d0 m0 o two room leads y refers =
    double.store_follows g w p q st mode i x k h l d0 m0 s m o leads
    (double_storing st p k h l d0 m0 s m (subst (λ (j : ℕ). IsAnswer st p j k d0 m0 (h ∷ l ∷ []) s m) (sym two) y) (omega (arith, room, two))) refers
answer_stored g w st p q kind.Double mode i x k n [] s m d0 m0 o two room leads y refers = let wide = y.wide in absurd (omega (arith, wide, two))
answer_stored g w st p q kind.Double mode i x k n (h ∷ []) s m d0 m0 o two room leads y refers = let wide = y.wide in absurd (omega (arith, wide, two))
answer_stored g w st p q kind.Double mode i x k n (h ∷ l ∷ v ∷ vs) s m d0 m0 o two room leads y refers = let wide = y.wide in absurd (omega (arith, wide, two))
answer_stored g w st p q kind.Integer mode i x k n vs s m d0 m0 o one room leads y refers =
    word_stored g w st p q kind.Integer mode i x k n vs s m d0 m0 o one refl room leads y refers
answer_stored g w st p q kind.Logical mode i x k n vs s m d0 m0 o one room leads y refers =
    word_stored g w st p q kind.Logical mode i x k n vs s m d0 m0 o one refl room leads y refers
answer_stored g w st p q kind.Byte mode i x k n vs s m d0 m0 o one room leads y refers =
    word_stored g w st p q kind.Byte mode i x k n vs s m d0 m0 o one refl room leads y refers

-- ---- in a variable that is counted from the top

-- LDXN and the store
pub own_put : (g : Ground) (w : Rate) (sites : Sites) (p q : Spot) (st : Setting) (t : Kind) (k i : ℕ) (vs : List ℕ) (s : State) (m : Machine) (d0 : Data)
    (m0 : Machine) → IsBelow st k i → s.now.top + (k + width t) ≤ s.now.stack → Stands g sites (on p) (own_stored t true (mode_of k (below_return i))) q
    → IsAnswer st p (width t) k d0 m0 vs s m
    → Follows g w (pos q - pos p) 0 w.reach (tally s) m (Completes st q k d0 m0) NoExit
    (then_go (own_located t (Some (below_return i)) None s) (λ y u. store y (kept y.kind vs) u))
own_put g w sites p q st t k i vs s m d0 m0 below room stands x =
    let mode = mode_of k (below_return i) in
    let cut : Stands g sites (on p) (LDXN (units_above t) ∷ Do (storing t false true mode) ∷ []) q =
    subst (λ (b : Piece). Stands g sites (on p) (LDXN (units_above t) ∷ b ∷ []) q) (store_is t false true mode) stands in
    let r = cut.0 in
    let leads = last_leads g sites (on r) (storing t false true mode) q cut.2 in
    let f = x_back g w p r st (width t) k (units_above t) vs s m d0 m0 cut.1 x in
    let matches = f.2.1.0.matches in
    let o = own_located t (Some (below_return i)) None s in
    let first = cut.1.rise in
    let next = leads.rise in
    let many = w.enough in
    then_follows g w (pos r - pos p) 0 w.reach (pos q - pos r) 0 w.reach (pos q - pos p) 0 w.reach (tally s) m (tally s) f.0 (Completes st q k d0 m0) NoExit
    (then_go o (λ y u. store y (kept y.kind vs) u)) f.1
    (answer_stored g w st r q t mode false true k (width t) vs s f.0 d0 m0 o refl room leads f.2.1.0 (
      refl,
      refl,
      down_finds t mode (s.now.inner - i) (at_left f.0) (below_based st s.now k (width t) i (at_left f.0) below matches room)
          (below_low st s.now k (k + width t) i (at_left f.0) below matches) f.2.1.1,
    ))
    (omega (arith, first, next)) (omega (arith, many)) (omega (arith, many))
