-- Stack operations as pieces, one behind the other.
use Rattle.std.proofs.Common.{◌≡◌, ◌<◌, ◌≤◌, ℕ, zero, suc, ◌+◌, ◌%◌, List, [], ◌∷◌, ◌++◌, Bool, true, false, ◌==◌, ◌||◌, nat_lt, ◌⊎◌, inl, inr, take, length, get_or, refl, ap, sym, ◌∙◌, add-one, arith}
use Rattle.std.specs.Prelude.{Result, Ok, Err, OnOk}
use Rattle.std.proofs.Math.Nat.{mod-lt}
use Rattle.std.proofs.Math.Seq.{take-suc}
use Rattle.std.proofs.lemmas.Bool.{and_parts, and_from, lt-ltb, eqb-true}
use Rattle.std.proofs.lemmas.List.{map_push, take_all}
use Rattle.hp_instr.specs.declared.instruction.Instr.TheVariants as i
use Rattle.hp_instr.specs.declared.instruction.Op.{Op}
use Rattle.hp_instr.specs.Instructions.{op}
use Rattle.hp_instr.specs.Fields.{is_op, is_shift, is_immediate}
use Rattle.hp_instr.specs.Given.{has_word}
use Rattle.spl_branch.specs.declared.buffer.Code.{Code}
use Rattle.spl_branch.specs.declared.pieces.Piece.{Piece}
use Rattle.spl_code.specs.Parts.{pieces}
use Rattle.spl_code.specs.Appends.{Appends}
use Rattle.spl_code.proofs.AppendLaws.{then_appends, none_appends, more_pieces}
use Rattle.spl_operations.specs.Views.{is_operation, is_instruction, is_any_immediate, operations}

nop_listed : is_op 0 ≡ true
unfolding is_op
nop_listed = refl

-- an operation with NOP on its right is an instruction that may be put
pub pair_is_instruction : (o : Op) → is_operation o ≡ true → is_instruction (i.Pair o (op 0)) ≡ true
unfolding has_word
pair_is_instruction o h =
    let parts = and_parts (is_op o.code) _ h in
    and_from _ _ (and_from _ _ parts.0 nop_listed) (and_from _ _ parts.1 refl)

-- pieces, and then pieces behind them
pub pieces_then : {xs ys : List Piece} {c d e : Code} → Appends (pieces xs) c d → Appends (pieces ys) d e → Appends (pieces (xs ++ ys)) c e
pieces_then {xs} {ys} a b = then_appends {p = pieces xs} {q = pieces ys} a b

-- operations of a list up to some place, and one more
pub operations_step : (ops : List Op) (k : ℕ) (o : Op) {c d e : Code} → k < length ops → o ≡ get_or ops k o
    → Appends (pieces (operations (take k ops))) c d → Appends (pieces (operations (o ∷ []))) d e → Appends (pieces (operations (take (k + 1) ops))) c e
operations_step ops k o {c} {d} {e} lt is a b =
    let more : take (k + 1) ops ≡ take k ops ++ o ∷ [] =
    ap (λ n. take n ops) (add-one k) ∙ take-suc ops k o lt ∙ ap (λ x. take k ops ++ x ∷ []) (sym is) in
    let shown : operations (take (k + 1) ops) ≡ operations (take k ops) ++ operations (o ∷ []) = ap operations more ∙ map_push _ (take k ops) o in
    rw shown (pieces_then a b)

-- all of them
pub operations_end : (ops : List Op) (k : ℕ) {c d : Code} → length ops ≤ k → Appends (pieces (operations (take k ops))) c d → Appends (pieces (operations ops)) c d
operations_end ops k {c} {d} le a = rw (sym (take_all k ops le)) a

pub ruleset walks = (operations_step, operations_end)

-- ---- other instructions

either : (a b : Bool) → (a || b) ≡ true → (a ≡ true) ⊎ (b ≡ true)
either true b h = inl refl
either false b h = inr h

ldi : (n : ℕ) → nat_lt n 256 ≡ true → is_instruction (i.Immediate 1 n) ≡ true
unfolding has_word is_immediate
ldi n lt = and_from _ _ lt refl

ldni : (n : ℕ) → nat_lt n 256 ≡ true → is_instruction (i.Immediate 8 n) ≡ true
unfolding has_word is_immediate
ldni n lt = and_from _ _ lt refl

ldxn : (n : ℕ) → nat_lt n 256 ≡ true → is_instruction (i.Immediate 9 n) ≡ true
unfolding has_word is_immediate
ldxn n lt = and_from _ _ lt refl

andi : (n : ℕ) → nat_lt n 256 ≡ true → is_instruction (i.Immediate 13 n) ≡ true
unfolding has_word is_immediate
andi n lt = and_from _ _ lt refl

ori : (n : ℕ) → nat_lt n 256 ≡ true → is_instruction (i.Immediate 14 n) ≡ true
unfolding has_word is_immediate
ori n lt = and_from _ _ lt refl

-- an immediate instruction that takes any number takes this one
pub immediate_is_instruction : (which n : ℕ) → is_any_immediate which ≡ true → n < 256 → is_instruction (i.Immediate which n) ≡ true
immediate_is_instruction which n h lt = go (either _ _ h) where
  small : nat_lt n 256 ≡ true
  small = lt-ltb n 256 lt

  go4 : ((which == 1) ≡ true) ⊎ ((which == 8) ≡ true) → is_instruction (i.Immediate which n) ≡ true
  go4 (inl z) = rw (eqb-true which 1 z) (ldi n small)
  go4 (inr z) = rw (eqb-true which 8 z) (ldni n small)

  go3 : ((which == 1 || which == 8) ≡ true) ⊎ ((which == 9) ≡ true) → is_instruction (i.Immediate which n) ≡ true
  go3 (inl z) = go4 (either _ _ z)
  go3 (inr z) = rw (eqb-true which 9 z) (ldxn n small)

  go2 : ((which == 1 || which == 8 || which == 9) ≡ true) ⊎ ((which == 13) ≡ true) → is_instruction (i.Immediate which n) ≡ true
  go2 (inl z) = go3 (either _ _ z)
  go2 (inr z) = rw (eqb-true which 13 z) (andi n small)

  go : ((which == 1 || which == 8 || which == 9 || which == 13) ≡ true) ⊎ ((which == 14) ≡ true) → is_instruction (i.Immediate which n) ≡ true
  go (inl z) = go2 (either _ _ z)
  go (inr z) = rw (eqb-true which 14 z) (ori n small)

shift_listed : (kind : ℕ) → kind < 6 → is_shift kind ≡ true
unfolding is_shift
shift_listed zero lt = refl
shift_listed (suc zero) lt = refl
shift_listed (suc (suc zero)) lt = refl
shift_listed (suc (suc (suc zero))) lt = refl
shift_listed (suc (suc (suc (suc zero)))) lt = refl
shift_listed (suc (suc (suc (suc (suc zero))))) lt = refl
shift_listed (suc (suc (suc (suc (suc (suc n)))))) lt = absurd (omega arith)

-- a shift by a count of six bits
pub shift_is_instruction : (kind count : ℕ) → kind < 6 → count < 64 → is_instruction (i.Shifted kind count) ≡ true
unfolding has_word
shift_is_instruction kind count k lt = and_from _ _ (and_from _ _ (shift_listed kind k) (lt-ltb count 64 lt)) refl

-- a displacement cut to the bits of its mode fits
pub remainder_fits : (a n : ℕ) → 0 < n → nat_lt (a % n) n ≡ true
remainder_fits a n lt = lt-ltb (a % n) n (mod-lt a lt)

pub ruleset mode_fits = remainder_fits

-- how parts are joined
pub ruleset joins = (then_appends, more_pieces, pieces_then)

-- what follows where a call is well done
pub ok_then : {X E : Type 0} (r : Result X E) {P Q : Type 0} → (P → Q) → OnOk r P → OnOk r Q
ok_then (Ok x) go p = go p
ok_then (Err e) go p = tt

pub ok_both : {X E : Type 0} (r : Result X E) {P Q R : Type 0} → (P → Q → R) → OnOk r P → OnOk r Q → OnOk r R
ok_both (Ok x) go p q = go p q
ok_both (Err e) go p q = tt
