-- Rows of bytes of the stack, one byte more at a time.
use Rattle.std.proofs.Common.{◌≡◌, ℕ, zero, suc, ◌+◌, ◌<◌, ◌≤◌, List, [], ◌∷◌, ◌++◌, length, map, get_or, drop, refl, sym, ap, ◌∙◌, arith, append-nil}
use Rattle.std.proofs.Math.Seq.{drop-cons}
use Rattle.std.proofs.lemmas.List.{drop_all, map-append, append_assoc}
use Rattle.hp_word.specs.Intrinsics.{addresses, stored_from}
use Rattle.hp_call_rows.specs.GateRows.{stack_byte, with_stack_byte, with_bytes}

-- one address more stands at the end
pub addresses_more : (first k n : ℕ) → n ≡ first + k → addresses first (suc k) ≡ addresses first k ++ n ∷ []
unfolding addresses
addresses_more first zero n h = let e : n ≡ first = omega arith in rw e refl
addresses_more first (suc k) n h =
    let e : n ≡ suc first + k = omega arith in ap (λ (rest : List ℕ). first ∷ rest) (addresses_more (suc first) k n e)

-- and its byte stands at the end of the bytes
pub bytes_more : (words : List ℕ) (first k : ℕ)
    → map (stack_byte words) (addresses first (k + 1)) ≡ map (stack_byte words) (addresses first k) ++ stack_byte words (first + k) ∷ []
bytes_more words first k =
    let e : k + 1 ≡ suc k = omega arith in rw (e, addresses_more first k (first + k) refl) (map-append (stack_byte words) (addresses first k) ((first + k) ∷ []))

-- no address
pub bytes_none : (words : List ℕ) (first k : ℕ) → k ≡ 0 → map (stack_byte words) (addresses first k) ≡ []
unfolding addresses
bytes_none words first k h = rw h refl

-- the same behind other bytes
pub bytes_after : (xs words : List ℕ) (first k : ℕ)
    → xs ++ map (stack_byte words) (addresses first (k + 1)) ≡ (xs ++ map (stack_byte words) (addresses first k)) ++ stack_byte words (first + k) ∷ []
bytes_after xs words first k = rw (bytes_more words first k) (sym (append_assoc xs (map (stack_byte words) (addresses first k)) (stack_byte words (first + k) ∷ [])))

pub none_after : (xs words : List ℕ) (first : ℕ) → xs ++ map (stack_byte words) (addresses first 0) ≡ xs
unfolding addresses
none_after xs words first = append-nil xs

-- one byte more, printed behind those so far
pub grown : (new old before words : List ℕ) (first k byte : ℕ) → new ≡ old ++ byte ∷ [] → byte ≡ stack_byte words (first + k)
    → old ≡ before ++ map (stack_byte words) (addresses first k) → new ≡ before ++ map (stack_byte words) (addresses first (k + 1))
grown new old before words first k byte pushed is so_far =
    pushed ∙ rw (is, so_far) (sym (bytes_after before words first k))

pub ruleset byte_steps = (bytes_more, bytes_none)

-- one byte stored, of the bytes from k on
pub store_more : (words : List ℕ) (b : ℕ) (bytes : List ℕ) (k : ℕ) → k < length bytes
    → with_bytes words (stored_from b (drop k bytes)) ≡ with_bytes (with_stack_byte words b (get_or bytes k 0)) (stored_from (b + 1) (drop (k + 1) bytes))
unfolding with_bytes stored_from
store_more words b bytes k lt =
    let next_place : b + 1 ≡ suc b = omega arith in
    let next_byte : k + 1 ≡ suc k = omega arith in
    rw (drop-cons bytes k 0 lt, next_place, next_byte) refl

-- no byte is left
pub store_none : (words : List ℕ) (b : ℕ) (bytes : List ℕ) (k : ℕ) → length bytes ≤ k → with_bytes words (stored_from b (drop k bytes)) ≡ words
unfolding with_bytes stored_from
store_none words b bytes k h = rw (drop_all k bytes h) refl

pub ruleset store_steps = store_none
